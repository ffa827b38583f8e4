-- The induction on the plan.
use Rattle.std.proofs.Common.{Option, IsSome, ◌≡◌, ℕ, ◌+◌, ◌<◌, ◌==◌, Bool, true, false, cond, not, ◌&&◌, ◌||◌, ⊎_elim, List, [], ◌∷◌, filter, map, length, refl, sym, ap, ◌∙◌, subst, arith, true≢false, Some, None, ◌⊎◌, inl, inr, eq-eqb, ◌≤◌}
use Rattle.std.proofs.lemmas.Bool.{not-true}
use Rattle.std.specs.List.{list_all, list_any}
use Rattle.vx_rows_values.specs.Values.{Row, pick, row_eq}
use Rattle.vx_rows_values.specs.Types.{fits_64}
use Rattle.vx_rows_values.specs.Bags.{SameRows, total}
use Rattle.vx_catalog_relations.specs.Relation.{Relation}
use Rattle.vx_plan_nodes.specs.Types.{well_formed, names_columns, width}
use Rattle.vx_plan_nodes.specs.Plan.{Claim, Plan, scan, unary, binary, exchange, claim, size, Unary, group, partial, final, Aggregate, least, greatest, sum, count_rows}
use Rattle.vx_plan_nodes.specs.Serial.{group_keys, group_row, group_fits, unary_rows, rows, or_overflow, after, serial, group_rows, SerialResult, overflow, IsTooLong, HasLargeInput, LargePart, is_sum_of, fits, sum_of, count_of, of_key}
use Rattle.vx_plan_nodes.specs.Streams.{Streams, joined, workers}
use Rattle.vx_plan_nodes.specs.Routes.{Routing}
use Rattle.vx_plan_nodes.specs.Runs.{Runs}
use Rattle.vx_plan_nodes.specs.Phases.{is_partial, is_final, is_open, opens, spoken, Gives, listed}
use Rattle.vx_check_rules.specs.Rules.{allowed, allowed_here}
use Rattle.vx_check_rules.specs.Claims.{Given}
use Rattle.vx_check_rules.proofs.Bools.{or-left, or-right}
use Rattle.vx_exec_laws.specs.Sound.{SoundThroughout, Sound, NoOverflow}
use Rattle.vx_exec_laws.proofs.Erased.{erased-rows}
use Rattle.vx_exec_laws.proofs.Bags.{SameRows-sym, and-left, and-right, SameRows-refl, total-ones}
use Rattle.vx_exec_laws.proofs.Groups.{groups, fits-split}
use Rattle.vx_exec_laws.proofs.Exchange.{filter-all}
use Rattle.vx_exec_laws.proofs.Parts.{stream-most}
use Rattle.vx_exec_laws.proofs.Opened.{listed_rows, opened, opened-as}
use Rattle.vx_exec_laws.proofs.Phased.{by-phase}
use Rattle.vx_exec_laws.proofs.Pieces.{final-fits}
use Rattle.vx_exec_laws.proofs.Operators.{whole, by-limit}
use Rattle.vx_exec_laws.proofs.OneInput.{FitsStreams, FitsRows, fits-by-tests, Holding, HoldingAt, fitting-from, scan-holds, unary-holds, close, exchange-holds}
use Rattle.vx_exec_laws.proofs.TwoInputs.{binary-holds}
use Rattle.vx_exec_laws.proofs.WellFormed.{well-under, well-both, well-phased, names}

module _ (catalog : ℕ → Relation) (db : ℕ → List Row) (sizes : ℕ → ℕ) (goes : Routing) (given : Given catalog db sizes goes) where
  pub all-hold : (p : Plan) (s : Streams) → well_formed catalog p ≡ true → allowed catalog p ≡ true → Runs db sizes goes p s → HoldingAt db sizes goes p s
  all-hold (scan k c r m z) s wf ok run = scan-holds catalog db sizes goes given k c r m z s ok run
  all-hold (unary k c op p) s wf ok run =
      let here : Bool = allowed_here catalog (unary k c op p) in
      let well = well-under catalog k c op p wf in
      let h = all-hold p run.0 well.0 (and-left (allowed catalog p) here ok) run.1 in
      unary-holds catalog db sizes goes given k c op p run.0 s well.0 well.1 h (and-right (allowed catalog p) here ok) run.2
  all-hold (binary k c op p q) s wf ok run =
      let here : Bool = allowed_here catalog (binary k c op p q) in
      let rest = and-right (allowed catalog p) (allowed catalog q && here) ok in
      let well = well-both catalog k c op p q wf in
      let h = all-hold p run.0 well.0 (and-left (allowed catalog p) (allowed catalog q && here) ok) run.2 in
      let j = all-hold q run.1 well.1 (and-left (allowed catalog q) here rest) run.3 in
      binary-holds catalog db sizes goes given k c op p q run.0 run.1 s
      (close catalog db sizes goes given p run.0 (well-phased catalog p well.0) (not-true (is_open p) (and-left (not (is_open p)) (not (is_open q)) well.2)) h)
      (close catalog db sizes goes given q run.1 (well-phased catalog q well.1) (not-true (is_open q) (and-right (not (is_open p)) (not (is_open q)) well.2)) j)
      well.0 (names catalog p well.0) (and-right (allowed catalog q) here rest) run.4
  all-hold (exchange k c kind merge p) s wf ok run =
      let here : Bool = allowed_here catalog (exchange k c kind merge p) in
      let h = all-hold p run.0 (and-left (well_formed catalog p) (names_columns (width catalog p) c) wf) (and-left (allowed catalog p) here ok) run.1 in
      exchange-holds catalog db sizes goes given k c kind merge p run.0 s h (and-right (allowed catalog p) here ok) run.2

  some-rows : (k : ℕ) (o : Option (List Row)) (xs : List Row) → or_overflow k o ≡ rows xs → o ≡ Some xs
  some-rows k (Some ys) xs e = let s : ys ≡ xs = cc in ap Some s
  some-rows k None xs e = cc

  some-list : (o : Option (List Row)) (xs : List Row) → o ≡ Some xs → IsSome o
  some-list o xs e = let P : Option (List Row) → Type 0 = λ v. IsSome v in subst P (sym e) refl

  group-fit : (by : List ℕ) (aggregates : List Aggregate) (xs : List Row) → list_all (group_fits by aggregates xs) (group_keys by xs) ≡ true → IsSome (group_rows by aggregates xs)
  group-fit by aggregates xs e = some-list (group_rows by aggregates xs) (groups by aggregates xs) (ap (λ b. cond b (Some (groups by aggregates xs)) None) e)

  operator-fits : (op : Unary) → (is_partial op || is_final op) ≡ false → (p : Plan) (s : Streams) (ih : Holding db sizes goes p s) → FitsStreams catalog db sizes goes given op p s
      → (xs : List Row) → unary_rows op ih.base ≡ Some xs → (w : ℕ) → w < workers sizes (size p) → IsSome (unary_rows op (s w))
  operator-fits op e p s ih fit xs g w l = by-limit
      (λ op. (is_partial op || is_final op) ≡ false → FitsRows catalog db sizes goes given op p s → unary_rows op ih.base ≡ Some xs → IsSome (unary_rows op (s w)))
      (λ m e fit g. refl)
      (λ op o e fit g. ⊎_elim
      (λ f. let m = (whole goes op e o).of_bags ih.base (s w) xs (SameRows-sym (f.0 w l)) g in some-list (unary_rows op (s w)) m.out m.is)
      (λ f. (whole goes op e o).splits (workers sizes (size p)) s ih.base xs f.0 f.1 g w l)
      (fitting-from catalog db sizes goes given op p s (λ xs. SameRows xs ih.base) ih.holds.part fit))
      op e fit.0 g

  -- a final over parts of groups that fit
  final-fit : (keys : List ℕ) (puts : List Aggregate) (p : Plan) (s : Streams) (ih : HoldingAt db sizes goes p s) → opens keys puts p ≡ true
      → FitsRows catalog db sizes goes given (group final keys puts) p s
      → (ys : List Row) → serial db p ≡ rows ys → (w : ℕ) → w < workers sizes (size p) → IsSome (group_rows keys puts (s w))
  final-fit keys puts p s ih e fit ys h w l =
      let o = opened keys puts p e in
      let n : ℕ = workers sizes (size p) in
      let all_fit : list_all (group_fits o.by o.aggregates ih.base) (group_keys o.by ih.base) ≡ true
      = fitted o.by o.aggregates o.node (sym (ap (λ v. after v (λ xs. or_overflow o.node (listed_rows o.by o.aggregates (listed p) xs))) ih.is_serial) ∙ (sym (o.serial_is db) ∙ h)) in
      let each : (xs : List Row) → Gives p ih.base xs → list_all (group_fits keys puts xs) (group_keys keys xs) ≡ true = λ xs g.
      opened-as keys puts p o (λ a b. list_all (group_fits a b xs) (group_keys a xs) ≡ true) (final-fits o.by o.aggregates ih.base xs (o.gives ih.base xs g) all_fit) in
      group-fit keys puts (s w) (⊎_elim
      (λ f. each (s w) (f.0 w l))
      (λ f. fits-split goes f.0.0 f.0.1 keys puts n s (joined n s) f.0.2 (SameRows-refl (joined n s)) f.0.3 (each (joined n s) f.1) w l)
      (fitting-from catalog db sizes goes given (group final keys puts) p s (λ xs. Gives p ih.base xs) ih.holds.part fit))
    where
      fitted : (by : List ℕ) (aggregates : List Aggregate) (j : ℕ) → or_overflow j (listed_rows by aggregates (listed p) ih.base) ≡ rows ys → list_all (group_fits by aggregates ih.base) (group_keys by ih.base) ≡ true
      fitted by aggregates j e = go (list_all (group_fits by aggregates ih.base) (group_keys by ih.base)) e
        where
          go : (b : Bool) → or_overflow j (cond b (Some (map (group_row by aggregates ih.base) (listed p ih.base))) None) ≡ rows ys → b ≡ true
          go true e = refl
          go false e = cc

  failing : (aggregates : List Aggregate) (some : List Row) → list_all (λ a. fits a some) aggregates ≡ false
      → ((c : ℕ) × (list_any (is_sum_of c) aggregates ≡ true) × (fits_64 (sum_of c some) ≡ false)) ⊎ (fits_64 (count_of some) ≡ false)
  failing [] some e = absurd (true≢false e)
  failing (a ∷ aggregates) some e = here a refl (fits a some) refl (failing aggregates some) e
    where
      later : (((c : ℕ) × (list_any (is_sum_of c) aggregates ≡ true) × (fits_64 (sum_of c some) ≡ false)) ⊎ (fits_64 (count_of some) ≡ false)) → (a' : Aggregate)
          → ((c : ℕ) × ((is_sum_of c a' || list_any (is_sum_of c) aggregates) ≡ true) × (fits_64 (sum_of c some) ≡ false)) ⊎ (fits_64 (count_of some) ≡ false)
      later r a' = ⊎_elim (λ x. inl (x.0, or-right (is_sum_of x.0 a') (list_any (is_sum_of x.0) aggregates) x.1, x.2)) (λ x. inr x) r

      here : (a' : Aggregate) → a ≡ a' → (b : Bool) → fits a' some ≡ b
          → (list_all (λ a. fits a some) aggregates ≡ false → ((c : ℕ) × (list_any (is_sum_of c) aggregates ≡ true) × (fits_64 (sum_of c some) ≡ false)) ⊎ (fits_64 (count_of some) ≡ false)) → (b && list_all (λ a. fits a some) aggregates) ≡ false
          → ((c : ℕ) × ((is_sum_of c a' || list_any (is_sum_of c) aggregates) ≡ true) × (fits_64 (sum_of c some) ≡ false)) ⊎ (fits_64 (count_of some) ≡ false)
      here a' i true f r e = later (r e) a'
      here (least c) i false f r e = absurd (true≢false f)
      here (greatest c) i false f r e = absurd (true≢false f)
      here (sum c) i false f r e = inl (c, or-left (c == c) (list_any (is_sum_of c) aggregates) (eq-eqb c c refl), f)
      here count_rows i false f r e = inr f

  many : (n : ℕ) → fits_64 (Rattle.std.specs.Prelude.pos n) ≡ false → 4611686018427387904 < n
  many n e = go (Rattle.std.proofs.Common.nat_le n 9223372036854775807) refl e
    where
      go : (b : Bool) → Rattle.std.proofs.Common.nat_le n 9223372036854775807 ≡ b → (true && b) ≡ false → 4611686018427387904 < n
      go true f e = absurd (true≢false e)
      go false f e = let k = Rattle.std.proofs.lemmas.Bool.leb-false n 9223372036854775807 f in omega (arith, k)

  failing-key : (q : Row → Bool) (xs : List Row) → list_all q xs ≡ false → (x : Row) × (q x ≡ false)
  failing-key q [] e = absurd (true≢false e)
  failing-key q (x ∷ xs) e = go (q x) refl (failing-key q xs) e
    where
      go : (b : Bool) → q x ≡ b → (list_all q xs ≡ false → (y : Row) × (q y ≡ false)) → (b && list_all q xs) ≡ false → (y : Row) × (q y ≡ false)
      go true f r e = r e
      go false f r e = (x, f)

  -- a partial that overflows: some rows of one key have a sum outside 64 bits, or the list is too long
  partial-large : (by : List ℕ) (aggregates : List Aggregate) (xs base : List Row) → ((f : Row → ℕ) → total f xs ≤ total f base)
      → list_all (group_fits by aggregates xs) (group_keys by xs) ≡ false
      → LargePart by aggregates base ⊎ (4611686018427387904 < length base)
  partial-large by aggregates xs base most e =
      let k = failing-key (group_fits by aggregates xs) (group_keys by xs) e in
      let some : List Row = of_key by k.0 xs in
      let less : (f : Row → ℕ) → total f some ≤ total f base = λ f. let a = most f in let b = filter-total f (λ r. row_eq k.0 (pick by r)) xs in omega (arith, a, b) in
      ⊎_elim
      (λ x. inl (record {
        some = some;
        among = λ row. less (λ r. cond (row_eq row r) 1 0);
        key = k.0;
        alike = filter-all (λ r. row_eq k.0 (pick by r)) xs;
        column = x.0;
        summed = x.1;
        outside = x.2;
      }))
      (λ x. inr (let a = less (λ r. 1) in let b = total-ones base in let c = many (total (λ r. 1) some) x in omega (arith, a, b, c)))
      (failing aggregates some k.1)
    where
      filter-total : (f : Row → ℕ) (p : Row → Bool) (xs : List Row) → total f (filter p xs) ≤ total f xs
      filter-total f p [] = omega arith
      filter-total f p (x ∷ xs) = go (p x) (filter-total f p xs)
        where
          go : (b : Bool) → total f (filter p xs) ≤ total f xs → total f (cond b (x ∷ filter p xs) (filter p xs)) ≤ f x + total f xs
          go true h = omega arith
          go false h = omega arith

  -- where the claim of the input holds, and its streams fit the operator
  pub no-overflow-from : (k : ℕ) (c : Claim) (op : Unary) (p : Plan) (u : Streams) → well_formed catalog (unary k c op p) ≡ true → HoldingAt db sizes goes p u → FitsStreams catalog db sizes goes given op p u
      → (xs : List Row) → serial db (unary k c op p) ≡ rows xs → (w : ℕ) → w < workers sizes (size p)
      → IsSome (unary_rows op (u w)) ⊎ (HasLargeInput op (serial db p) ⊎ IsTooLong op (serial db p))
  no-overflow-from k c op p u wf h fit xs e w l =
      by-phase
      (λ op f. f.fits p ≡ true → FitsStreams catalog db sizes goes given op p u → serial db (unary k c op p) ≡ rows xs
      → IsSome (unary_rows op (u w)) ⊎ (HasLargeInput op (serial db p) ⊎ IsTooLong op (serial db p)))
      (λ op v f t e.
      let ih = own_rows h f in
      inl (operator-fits op v p u ih t xs (some-rows k (unary_rows op ih.base) xs (sym (ap (λ x. after x (λ ys. or_overflow k (unary_rows op ys))) ih.is_serial) ∙ e)) w l))
      (λ by aggregates f t e.
      let ih = own_rows h f in
      let P : SerialResult → Type 0 = λ o. HasLargeInput (group partial by aggregates) o ⊎ IsTooLong (group partial by aggregates) o in
      decide by aggregates (list_all (group_fits by aggregates (u w)) (group_keys by (u w))) refl
      (λ bad. subst P (sym ih.is_serial) (partial-large by aggregates (u w) ih.base (λ f. stream-most goes (claim p).part (workers sizes (size p)) u (λ xs. SameRows xs ih.base) f (total f ih.base) (λ xs e. let k = e.totals f in omega (arith, k)) ih.holds.part w l) bad)))
      (λ cols f t e. inl refl)
      (λ by aggregates f t e. inl (below by aggregates (serial db p) refl h f t e))
      op (well-under catalog k c op p wf).1 fit e
    where
      own_rows : HoldingAt db sizes goes p u → not (is_open p) ≡ true → Holding db sizes goes p u
      own_rows h f = close catalog db sizes goes given p u (well-phased catalog p (well-under catalog k c op p wf).0) (not-true (is_open p) f) h

      below : (by : List ℕ) (aggregates : List Aggregate) (o : SerialResult) → serial db p ≡ o → HoldingAt db sizes goes p u → opens by aggregates p ≡ true
          → FitsStreams catalog db sizes goes given (group final by aggregates) p u → after o (λ ys. or_overflow k (group_rows by aggregates ys)) ≡ rows xs → IsSome (group_rows by aggregates (u w))
      below by aggregates (overflow m) g h f t e = cc
      below by aggregates (rows ys) g h f t e = final-fit by aggregates p u h f t.0 ys g w l

      decide : (by : List ℕ) (aggregates : List Aggregate) (b : Bool) → list_all (group_fits by aggregates (u w)) (group_keys by (u w)) ≡ b
          → (list_all (group_fits by aggregates (u w)) (group_keys by (u w)) ≡ false → HasLargeInput (group partial by aggregates) (serial db p) ⊎ IsTooLong (group partial by aggregates) (serial db p))
          → IsSome (group_rows by aggregates (u w)) ⊎ (HasLargeInput (group partial by aggregates) (serial db p) ⊎ IsTooLong (group partial by aggregates) (serial db p))
      decide by aggregates true e bad = inl (group-fit by aggregates (u w) e)
      decide by aggregates false e bad = inr (bad e)

pub no-overflow : NoOverflow
no-overflow catalog db sizes goes given n c op p u wf ok run =
    let here : Bool = allowed_here catalog (unary n c op p) in
    let well = well-under catalog n c op p wf in
    let h = all-hold catalog db sizes goes given p u well.0 (and-left (allowed catalog p) here ok) run in
    no-overflow-from catalog db sizes goes given n c op p u wf h (fits-by-tests catalog db sizes goes given n c op p u well.0 well.1 h (and-right (allowed catalog p) here ok))

-- the plan that a claim speaks of is well formed
pub well-spoken : (catalog : ℕ → Relation) (p : Plan) → well_formed catalog p ≡ true → well_formed catalog (spoken p) ≡ true
well-spoken catalog (scan n c r m z) wf = wf
well-spoken catalog (unary n c op p) wf = by-phase (λ op f. well_formed catalog (unary n c op p) ≡ true → well_formed catalog (f.spoken_of p (spoken p) (unary n c op p)) ≡ true)
    (λ op w wf. wf) (λ by aggregates wf. and-left (well_formed catalog p) _ wf) (λ cols wf. well-spoken catalog p (and-left (well_formed catalog p) _ wf)) (λ by aggregates wf. wf) op wf
well-spoken catalog (binary n c op p q) wf = wf
well-spoken catalog (exchange n c k m p) wf = well-spoken catalog p (and-left (well_formed catalog p) _ wf)

pub sound : Sound
sound catalog db sizes goes given p s wf ok run =
    let h = all-hold catalog db sizes goes given p s wf ok run in
    record { base = h.base; is_serial = h.is_serial; is_erased = erased-rows catalog db 0 (spoken p) h.base (well-spoken catalog p wf) h.is_serial; holds = h.holds }

pub sound-throughout : SoundThroughout
sound-throughout catalog db sizes goes given (scan k c r m z) s wf ok run = sound catalog db sizes goes given (scan k c r m z) s wf ok run
sound-throughout catalog db sizes goes given (unary k c op p) s wf ok run = (
  sound-throughout catalog db sizes goes given p run.0 (well-under catalog k c op p wf).0 (and-left (allowed catalog p) (allowed_here catalog (unary k c op p)) ok) run.1,
  sound catalog db sizes goes given (unary k c op p) s wf ok run,
)
sound-throughout catalog db sizes goes given (binary k c op p q) s wf ok run =
    let here : Bool = allowed_here catalog (binary k c op p q) in
    let rest = and-right (allowed catalog p) (allowed catalog q && here) ok in (
      sound-throughout catalog db sizes goes given p run.0 (well-both catalog k c op p q wf).0 (and-left (allowed catalog p) (allowed catalog q && here) ok) run.2,
      sound-throughout catalog db sizes goes given q run.1 (well-both catalog k c op p q wf).1 (and-left (allowed catalog q) here rest) run.3,
      sound catalog db sizes goes given (binary k c op p q) s wf ok run,
    )
sound-throughout catalog db sizes goes given (exchange k c kind merge p) s wf ok run = (
  sound-throughout catalog db sizes goes given p run.0 (and-left (well_formed catalog p) (names_columns (width catalog p) c) wf) (and-left (allowed catalog p) (allowed_here catalog (exchange k c kind merge p)) ok) run.1,
  sound catalog db sizes goes given (exchange k c kind merge p) s wf ok run,
)
