-- The claims of scans, of nodes with one input, and of exchanges.
use Rattle.std.proofs.Common.{◌≡◌, ℕ, ◌+◌, ◌<◌, ◌&&◌, take, Bool, true, false, cond, ◌||◌, ⊎_elim, List, [], ◌∷◌, ◌++◌, map, length, refl, sym, ap, ◌∙◌, subst, arith, true≢false, Option, Some, None, ◌⊎◌, inl, inr, zero, suc, ◌≤◌, ap₂, slice_get, not}
use Rattle.std.proofs.lemmas.Bool.{not-true}
use Rattle.std.specs.List.{list_all, list_any}
use Rattle.vx_rows_values.specs.declared.order.OrderEntry.{OrderEntry}
use Rattle.vx_rows_values.specs.Values.{Row, pick}
use Rattle.vx_rows_values.specs.Order.{order_columns, agree, sorted, sort_on}
use Rattle.vx_rows_values.specs.Bags.{count, SameRows}
use Rattle.vx_rows_values.specs.Keys.{HasKey}
use Rattle.vx_catalog_relations.specs.Catalog.{all_below}
use Rattle.vx_catalog_relations.specs.Relation.{Relation}
use Rattle.vx_plan_nodes.specs.Plan.{Size, Part, one, any, all, routed, Claim, Plan, scan, unary, exchange, claim, size, Unary, select, project, distinct, sort, group, limit, ExchangeKind, route_to, round, broadcast, gather, target, is_one, partial, final, Aggregate, concat}
use Rattle.vx_plan_nodes.specs.Parts.{kind_part}
use Rattle.vx_plan_nodes.specs.Describe.{Copying, whole_rows, described}
use Rattle.vx_plan_nodes.specs.Serial.{group_keys, group_fits, unary_rows, SerialResult, rows, or_overflow, after, serial, group_row, aggregate_of, group_rows, of_key}
use Rattle.vx_plan_nodes.specs.Streams.{Streams, joined, workers}
use Rattle.vx_plan_nodes.specs.Routes.{Routing}
use Rattle.vx_plan_nodes.specs.Runs.{Exchanges, Runs}
use Rattle.vx_plan_nodes.specs.Phases.{columns_from, first_columns, merged, is_partial, is_final, is_open, opens, phase_fits, phased, Parts, spoken, Gives, listed}
use Rattle.vx_plan_nodes.specs.Types.{well_formed}
use Rattle.vx_check_rules.specs.Rules.{part_gives, has, unless_one, unary_shows, entry_at, copied_order, covers, is_front, within, numbers_below, routed_within, allowed_here, sizes_match, not_replicated, inputs_match, order_given, first_rows_known, is_total_order, part_shown, order_shown, keys_shown, goes_on, unary_keys}
use Rattle.vx_check_rules.specs.Behaviour.{order_sources, order_after, way, own, bare, if_so, meet, over, gives, behaviour, fits, shown_part}
use Rattle.vx_check_rules.specs.Claims.{PartHolds, Given, PartOf, ClaimOf}
use Rattle.vx_check_rules.proofs.Exact.{fits-exactly, parts-exactly, order-copied, unary-gives}
use Rattle.vx_check_rules.proofs.Bools.{or-false, or-left, any-if}
pub use Rattle.vx_check_rules.proofs.DerivedMore.{eight}
use Rattle.vx_exec_laws.proofs.Bags.{SameRows-sym, and-left, and-right, SameRows-refl, SameRows-trans}
use Rattle.vx_exec_laws.proofs.Parts.{InRange, single-of, from_single-of, has-part, one-worker, some-workers, or-cases}
use Rattle.vx_exec_laws.proofs.Orders.{sorted-front, Dealt-sorted}
use Rattle.vx_exec_laws.proofs.Keys.{first-key, covers-key, keys-from}
use Rattle.vx_exec_laws.proofs.Linear.{Linear-map, Linear-sort, sort-total, linear-same, linear-joined}
use Rattle.vx_exec_laws.proofs.OrderFacts.{entry-both-is, copied-columns}
use Rattle.vx_exec_laws.proofs.Unary.{some-is, project-sorted}
use Rattle.vx_exec_laws.proofs.Widths.{some-of}
use Rattle.vx_exec_laws.proofs.Apart.{firsts-sorted}
use Rattle.vx_exec_laws.proofs.Groups.{groups, groups-joined, fits-joined, extended-sorted, copied-below, groups-key}
use Rattle.vx_exec_laws.proofs.Exchange.{Dealt-same, exchange-any, broadcast-all, routed-in-stream, single-sorted}
use Rattle.vx_exec_laws.proofs.Opened.{closed, listed_rows, Opened, listed-wide, opened, opened-as, Gives-order, final-serial}
use Rattle.vx_exec_laws.proofs.Pieces.{columns-long, Parts-base, Parts-joined, Parts-groups, final-groups, fits-final}
use Rattle.vx_exec_laws.proofs.Concat.{ranged, exchange-sorted}
use Rattle.vx_exec_laws.proofs.Operators.{Made, Meets, Whole, whole, is_limit, by-limit, keeps, unary-order}
use Rattle.vx_exec_laws.proofs.FirstRows.{Reports, order-tells, one-list}
use Rattle.vx_exec_laws.proofs.WellFormed.{well-phased}
use Rattle.vx_exec_laws.proofs.Phased.{by-phase}
use Rattle.vx_exec_laws.proofs.Places.{part-placed, had-place, unary-place, shown-part, made-gives}

-- each test at a node, the first rows last; those of its inputs and of its part by its behaviour
pub tests : (catalog : ℕ → Relation) (p : Plan) → allowed_here catalog p ≡ true
    → (sizes_match p ≡ true) × (not_replicated p ≡ true) × ((is_one (size p) || fits (behaviour catalog p)) ≡ true) × (order_given p ≡ true)
    × ((is_one (size p) || shown_part (behaviour catalog p) (claim p).part) ≡ true) × (order_shown catalog p ≡ true) × (keys_shown catalog p ≡ true)
    × (first_rows_known catalog p ≡ true)
tests catalog p h =
    let t = eight (sizes_match p) (not_replicated p) (inputs_match p) (order_given p) (first_rows_known catalog p) (part_shown catalog p) (order_shown catalog p) (keys_shown catalog p) h in
    (t.0, t.1, sym (fits-exactly catalog p) ∙ t.2, t.3, sym (parts-exactly catalog p (claim p).part t.2) ∙ t.5, t.6, t.7, t.4)

-- the plan that a claim speaks of has serial rows, and the claim holds of them and of these streams
pub record HoldingOf (goes : Routing) (c : Claim) (n : ℕ) (s : Streams) (o : SerialResult) (gives_of : List Row → List Row → Type 0) (listed_of : List Row → List Row) : Type 0 where
  pub base : List Row
  pub is_serial : o ≡ rows base
  pub holds : ClaimOf goes c n s (λ xs. gives_of base xs) (listed_of base)

-- at a node, which may be open
abbrev pub HoldingAt : (ℕ → List Row) → (ℕ → ℕ) → Routing → Plan → Streams → Type 0
HoldingAt db sizes goes p s = HoldingOf goes (claim p) (workers sizes (size p)) s (serial db (spoken p)) (Gives p) (listed p)

-- at a node that is closed
abbrev pub Holding : (ℕ → List Row) → (ℕ → ℕ) → Routing → Plan → Streams → Type 0
Holding db sizes goes p s = HoldingOf goes (claim p) (workers sizes (size p)) s (serial db p) (λ base xs. SameRows xs base) (λ base. base)

-- at a limit's input there is one worker, whose stream is the serial list
abbrev pub FirstRows : (ℕ → List Row) → Unary → Plan → Streams → Type 0
FirstRows db op p s = is_limit op ≡ true → (is_one (size p) ≡ true) × ((xs : List Row) → serial db p ≡ rows xs → s 0 ≡ xs)

-- at a limit's input there is one worker, and the claimed order tells the serial rows apart
abbrev pub Told : (ℕ → List Row) → Unary → Plan → Type 0
Told db op p = is_limit op ≡ true → (is_one (size p) ≡ true) × ((xs : List Row) → serial db p ≡ rows xs → Reports (order_columns (claim p).order) xs)

same-rows : (xs ys : List Row) → rows xs ≡ rows ys → xs ≡ ys
same-rows xs ys e = cc

-- what is tested at a limit
limit-known : (catalog : ℕ → Relation) (k : ℕ) (c : Claim) (op : Unary) (p : Plan) → first_rows_known catalog (unary k c op p) ≡ true → is_limit op ≡ true
    → (is_one (size p) && is_total_order catalog p) ≡ true
limit-known catalog k c (select fs) p h e = absurd (true≢false (sym e))
limit-known catalog k c (project es) p h e = absurd (true≢false (sym e))
limit-known catalog k c (distinct cols) p h e = absurd (true≢false (sym e))
limit-known catalog k c (sort of_parts order) p h e = absurd (true≢false (sym e))
limit-known catalog k c (group phase by aggregates) p h e = absurd (true≢false (sym e))
limit-known catalog k c (limit m) p h e = h

limit-closed : (op : Unary) (p : Plan) → phase_fits op p ≡ true → is_limit op ≡ true → is_open p ≡ false
limit-closed (select fs) p h e = absurd (true≢false (sym e))
limit-closed (project es) p h e = absurd (true≢false (sym e))
limit-closed (distinct cols) p h e = absurd (true≢false (sym e))
limit-closed (sort of_parts order) p h e = absurd (true≢false (sym e))
limit-closed (group phase by aggregates) p h e = absurd (true≢false (sym e))
limit-closed (limit m) p h e = not-true (is_open p) h

-- an operator fits its input
abbrev pub FitsInput : Unary → Plan → Type 0
FitsInput op p = (is_one (size p) || fits (over (described op) p)) ≡ true

-- each stream stands for all rows, and is the only one where each row is in one of them; or all do together, and rows that have to meet do
abbrev pub Fitting : Routing → Option (List ℕ) → Bool → Part → ℕ → Streams → (List Row → Type 0) → Type 0
Fitting goes m b q n s stands = (((w : ℕ) → w < n → stands (s w)) × ((b || part_gives q any) ≡ true → n ≡ 1)) ⊎ (Meets goes m n s × stands (joined n s))

module _ (goes : Routing) (law : InRange goes) (n : ℕ) (s : Streams) (stands : List Row → Type 0) where
  loose : (b : Bool) (q : Part) → (b ≡ true → n ≡ 1) → PartOf goes q n s stands → Fitting goes None b q n s stands
  loose b one single h = inr (tt, h.1)
  loose b any single h = inr (tt, h)
  loose b all single h = inl (h, λ e. single (sym (or-false b) ∙ e))
  loose b (routed r cs) single h = inr (tt, h.0)

  tight : (cols : List ℕ) (b : Bool) (q : Part) → (b ≡ true → n ≡ 1) → (b || ((b || part_gives q all) || routed_within q cols)) ≡ true → PartOf goes q n s stands
      → Fitting goes (Some cols) b q n s stands
  tight cols true q single e h = inl (single-of goes law all n s stands (single refl) (from_single-of goes law q n s stands (single refl) h), λ o. single refl)
  tight cols false one single e h = absurd (true≢false (sym e))
  tight cols false any single e h = absurd (true≢false (sym e))
  tight cols false all single e h = inl (h, λ o. absurd (true≢false (sym o)))
  tight cols false (routed r cs) single e h = inr ((r, cs, e, h.1), h.0)

  -- an input of an operator that fits it
  pub fitting : (p : Plan) (m : Option (List ℕ)) (k : Copying) → (is_one (size p) ≡ true → n ≡ 1) → (is_one (size p) || list_any (λ v. true) (if_so (meet m (own p)) (way k (own p ∷ []) ∷ []))) ≡ true
      → PartOf goes (claim p).part n s stands → Fitting goes m (is_one (size p)) (claim p).part n s stands
  fitting p None k single e h = loose (is_one (size p)) (claim p).part single h
  fitting p (Some cols) k single e h =
      let met : Bool = meet (Some cols) (own p) in
      tight cols (is_one (size p)) (claim p).part single
      (⊎_elim (λ o. or-left (is_one (size p)) _ o) (λ g. and-left met true (sym (any-if (λ v. true) met (way k (own p ∷ []) ∷ [])) ∙ g))
      (or-cases (is_one (size p)) (list_any (λ v. true) (if_so met (way k (own p ∷ []) ∷ []))) e)) h

-- what an operator makes of lists that stand for the rows of its input
pub record Carries (goes : Routing) (m : Option (List ℕ)) (op : List Row → Option (List Row)) (from to : List Row → Type 0) : Type 0 where
  pub alone : (xs ys : List Row) → op xs ≡ Some ys → from xs → to ys
  pub joins : (n : ℕ) (s s' : Streams) → Meets goes m n s → from (joined n s) → ((w : ℕ) → w < n → op (s w) ≡ Some (s' w)) → to (joined n s')

-- a part that is made where it is
pub made-part : (goes : Routing) → InRange goes → (b : Bool) (p q : Part) (n : ℕ) (s : Streams) (stands : List Row → Type 0) → (b ≡ true → n ≡ 1) → PartOf goes p n s stands
    → (b || list_any (λ v. gives v q) (way whole_rows (bare p ∷ []) ∷ [])) ≡ true → PartOf goes q n s stands
made-part goes law b p q n s stands single h e = has-part goes law b p q n s stands single (made-gives b p q e) h

module _ (catalog : ℕ → Relation) (db : ℕ → List Row) (sizes : ℕ → ℕ) (goes : Routing) (given : Given catalog db sizes goes) where
  pub some : (z : Size) → 0 < workers sizes z
  some z = some-workers sizes given.some_workers z

  -- the ways in which an operator's input fits it
  pub fitting-at : (op : Unary) (p : Plan) (s : Streams) (stands : List Row → Type 0) → PartOf goes (claim p).part (workers sizes (size p)) s stands
      → FitsInput op p → Fitting goes (described op).meets (is_one (size p)) (claim p).part (workers sizes (size p)) s stands
  fitting-at op p s stands h e = fitting goes given.in_range (workers sizes (size p)) s stands p (described op).meets (described op).copying (one-worker sizes (size p)) e h

  -- by the tests, or as rows that have to meet do
  abbrev pub FitsRows : Unary → Plan → Streams → Type 0
  FitsRows op p s = FitsInput op p ⊎ (Meets goes (described op).meets (workers sizes (size p)) s × (has p any ≡ true))

  -- and a limit has the serial list
  abbrev pub FitsStreams : Unary → Plan → Streams → Type 0
  FitsStreams op p s = FitsRows op p s × FirstRows db op p s

  pub fitting-from : (op : Unary) (p : Plan) (s : Streams) (stands : List Row → Type 0) → PartOf goes (claim p).part (workers sizes (size p)) s stands
      → FitsRows op p s → Fitting goes (described op).meets (is_one (size p)) (claim p).part (workers sizes (size p)) s stands
  fitting-from op p s stands h fit = ⊎_elim (λ e. fitting-at op p s stands h e)
      (λ m. inr (m.0, has-part goes given.in_range (is_one (size p)) (claim p).part any (workers sizes (size p)) s stands (one-worker sizes (size p)) m.1 h)) fit

  -- ---- one step for all operators over one input

  unary-together : (op : Unary) (p : Plan) (s out : Streams) (from to : List Row → Type 0) → PartOf goes (claim p).part (workers sizes (size p)) s from → FitsRows op p s
      → Carries goes (described op).meets (unary_rows op) from to → ((w : ℕ) → w < workers sizes (size p) → unary_rows op (s w) ≡ Some (out w))
      → has p any ≡ true → to (joined (workers sizes (size p)) out)
  unary-together op p s out from to part fit carries run e = ⊎_elim
      (λ f. from_single-of goes given.in_range all (workers sizes (size p)) out to (f.1 e) (λ w l. carries.alone (s w) (out w) (run w l) (f.0 w l)))
      (λ f. carries.joins (workers sizes (size p)) s out f.0 f.1 run)
      (fitting-from op p s from part fit)

  unary-part : (op : Unary) (p : Plan) (s out : Streams) (from to : List Row → Type 0) → PartOf goes (claim p).part (workers sizes (size p)) s from → FitsRows op p s
      → Carries goes (described op).meets (unary_rows op) from to → ((w : ℕ) → w < workers sizes (size p) → unary_rows op (s w) ≡ Some (out w))
      → (q : Part) → (is_one (size p) || unless_one (unary_shows op p) q) ≡ true → PartOf goes q (workers sizes (size p)) out to
  unary-part op p s out from to part fit carries run q shown =
      let n : ℕ = workers sizes (size p) in
      let one_is : is_one (size p) ≡ true → n ≡ 1 = one-worker sizes (size p) in
      let had : (q : Part) → has p q ≡ true → PartOf goes q n s from = λ q e. has-part goes given.in_range (is_one (size p)) (claim p).part q n s from one_is e part in
      let each : has p all ≡ true → (w : ℕ) → w < n → to (out w) = λ e w l. carries.alone (s w) (out w) (run w l) (had all e w l) in
      let together : has p any ≡ true → to (joined n out) = unary-together op p s out from to part fit carries run in
      shown-part goes given.in_range (is_one (size p)) (way (described op).copying (own p ∷ []) ∷ []) q n out to one_is (λ o. together (or-left (is_one (size p)) _ o))
      (((λ e. together (and-left (has p any) true e)), (λ e. each (and-left (has p all) true e))), tt)
      (λ w l. unary-place goes op p n w (s w) (out w) (run w l)
      (λ q e. had-place goes given.in_range (is_one (size p)) (claim p).part q n w one_is l (s w) (part-placed goes (claim p).part n s from part w l) e))
      (ap (λ b. is_one (size p) || b) (or-false (gives (way (described op).copying (own p ∷ [])) q) ∙ unary-gives op p q) ∙ shown)

  -- what an operator makes of an input of which the claim holds, whatever is claimed of the output: its serial rows, each part that is shown, all rows together,
  -- and the orders and keys of the list that a claim speaks of, by the order and the keys of the input's
  pub record Ready (op : Unary) (p : Plan) (out : Streams) (T : List Row → Type 0) (o : SerialResult) (gives_of : List Row → List Row → Type 0) (listed_of : List Row → List Row) : Type 0 where
    pub base : List Row
    pub is_serial : o ≡ rows base
    pub part : (q : Part) → (is_one (size p) || unless_one (unary_shows op p) q) ≡ true → PartOf goes q (workers sizes (size p)) out (λ xs. gives_of base xs)
    pub together : has p any ≡ true → gives_of base (joined (workers sizes (size p)) out)
    pub list : List Row
    pub list_is : T list
    pub list_sorted : sorted (claim p).order list ≡ true
    pub ordered : (order ds below : List OrderEntry) → order_sources (described op).copying order ≡ Some ds → is_front ds (order_after (described op).order below) ≡ true → sorted below list ≡ true
        → sorted order (listed_of base) ≡ true
    pub keyed : (x : List ℕ) → unary_keys op (claim p).keys x ≡ true → HasKey x (listed_of base)

  -- an operator that is whole
  pub whole-ready : (k : ℕ) (op : Unary) → (is_partial op || is_final op) ≡ false → is_limit op ≡ false → (p : Plan) (s out : Streams) (ih : Holding db sizes goes p s) (T : List Row → Type 0) → T ih.base
      → FitsRows op p s → ((w : ℕ) → w < workers sizes (size p) → unary_rows op (s w) ≡ Some (out w))
      → Ready op p out T (after (serial db p) (λ xs. or_overflow k (unary_rows op xs))) (λ base xs. SameRows xs base) (λ base. base)
  whole-ready k op e l p s out ih T of_list fit run =
      let n : ℕ = workers sizes (size p) in
      let base : List Row = ih.base in
      let facts : Whole goes op = whole goes op e l in
      let made : (xs : List Row) × (unary_rows op base ≡ Some xs) = ⊎_elim
      (λ f. let m = facts.of_bags (s 0) base (out 0) (f.0 0 (some (size p))) (run 0 (some (size p))) in (m.out, m.is))
      (λ f. let m = facts.joins n s out base f.0 f.1 run in (m.out, m.is))
      (fitting-from op p s (λ xs. SameRows xs base) ih.holds.part fit) in
      let same : (like : List Row) → Made (unary_rows op) base like → SameRows like made.0 = λ like m.
      let P : List Row → Type 0 = λ xs. SameRows like xs in subst P (some-is m.out made.0 (sym m.is ∙ made.1)) m.same in
      let carries : Carries goes (described op).meets (unary_rows op) (λ xs. SameRows xs base) (λ xs. SameRows xs made.0)
      = record { alone = λ xs ys e f. same ys (facts.of_bags xs base ys f e); joins = λ m t t' met f g. same (joined m t') (facts.joins m t t' base met f g) } in
      record {
        base = made.0;
        is_serial = ap (λ x. after x (λ xs. or_overflow k (unary_rows op xs))) ih.is_serial ∙ ap (or_overflow k) made.1;
        part = unary-part op p s out (λ xs. SameRows xs base) (λ xs. SameRows xs made.0) ih.holds.part fit carries run;
        together = unary-together op p s out (λ xs. SameRows xs base) (λ xs. SameRows xs made.0) ih.holds.part fit carries run;
        list = base;
        list_is = of_list;
        list_sorted = ih.holds.order.1;
        ordered = λ order ds below c front up. (keeps op).ordered order ds below c front base made.0 made.1 up;
        keyed = λ x g. facts.keyed (claim p).keys x g base made.0 made.1 ih.holds.keys;
      }

  -- a limit, at one worker that has the serial list
  limit-ready : (k m : ℕ) (p : Plan) (s out : Streams) (ih : Holding db sizes goes p s) (T : List Row → Type 0) → T ih.base
      → FirstRows db (limit m) p s → ((w : ℕ) → w < workers sizes (size p) → unary_rows (limit m) (s w) ≡ Some (out w))
      → Ready (limit m) p out T (after (serial db p) (λ xs. or_overflow k (unary_rows (limit m) xs))) (λ base xs. SameRows xs base) (λ base. base)
  limit-ready k m p s out ih T of_list fit run =
      let n : ℕ = workers sizes (size p) in
      let first = fit refl in
      let single : n ≡ 1 = one-worker sizes (size p) first.0 in
      let base : List Row = take m ih.base in
      let is : out 0 ≡ base = sym (some-is (take m (s 0)) (out 0) (run 0 (some (size p)))) ∙ ap (take m) (first.1 ih.base ih.is_serial) in
      let P : List Row → Type 0 = λ xs. SameRows xs base in
      let J : ℕ → Type 0 = λ v. SameRows (joined v out) base in
      let gathered : SameRows (joined n out) base = subst J (sym single) (subst P (sym is) (SameRows-refl base)) in
      record {
        base = base;
        is_serial = ap (λ x. after x (λ xs. or_overflow k (unary_rows (limit m) xs))) ih.is_serial;
        part = λ q shown. single-of goes given.in_range q n out P single gathered;
        together = λ e. gathered;
        list = ih.base;
        list_is = of_list;
        list_sorted = ih.holds.order.1;
        ordered = λ order ds below c front up. (keeps (limit m)).ordered order ds below c front ih.base base refl up;
        keyed = λ x g. first-key m (claim p).keys x g ih.base ih.holds.keys;
      }

  -- an operator that is whole, or a limit
  own-ready : (k : ℕ) (op : Unary) → (is_partial op || is_final op) ≡ false → (p : Plan) (s out : Streams) (ih : Holding db sizes goes p s) (T : List Row → Type 0) → T ih.base
      → FitsStreams op p s → ((w : ℕ) → w < workers sizes (size p) → unary_rows op (s w) ≡ Some (out w))
      → Ready op p out T (after (serial db p) (λ xs. or_overflow k (unary_rows op xs))) (λ base xs. SameRows xs base) (λ base. base)
  own-ready k op e p s out ih T of_list fit run = by-limit
      (λ op. (is_partial op || is_final op) ≡ false → FitsStreams op p s → ((w : ℕ) → w < workers sizes (size p) → unary_rows op (s w) ≡ Some (out w))
      → Ready op p out T (after (serial db p) (λ xs. or_overflow k (unary_rows op xs))) (λ base xs. SameRows xs base) (λ base. base))
      (λ m e fit run. limit-ready k m p s out ih T of_list fit.1 run)
      (λ op l e fit run. whole-ready k op e l p s out ih T of_list fit.0 run)
      op e fit run

  -- a partial grouping
  pub partial-ready : (by : List ℕ) (aggregates : List Aggregate) (p : Plan) (s out : Streams) (ih : Holding db sizes goes p s) (T : List Row → Type 0) → T ih.base
      → FitsRows (group partial by aggregates) p s → ((w : ℕ) → w < workers sizes (size p) → unary_rows (group partial by aggregates) (s w) ≡ Some (out w))
      → Ready (group partial by aggregates) p out T (serial db p) (λ base xs. Parts by aggregates base xs) (λ base. group_keys by base)
  partial-ready by aggregates p s out ih T of_list fit run =
      let op : Unary = group partial by aggregates in
      let base : List Row = ih.base in
      let parts : (xs ys : List Row) → group_rows by aggregates xs ≡ Some ys → Parts by aggregates xs ys = λ xs ys e.
      let P : List Row → Type 0 = λ l. Parts by aggregates xs l in
      subst P (some-of (list_all (group_fits by aggregates xs) (group_keys by xs)) (groups by aggregates xs) ys e).1 (Parts-groups by aggregates xs) in
      let carries : Carries goes (described op).meets (unary_rows op) (λ xs. SameRows xs base) (λ xs. Parts by aggregates base xs)
      = record {
        alone = λ xs ys e f. Parts-base by aggregates xs base ys f (parts xs ys e);
        joins = λ n t t' met f g. Parts-base by aggregates (joined n t) base (joined n t') f (Parts-joined by aggregates n t t' (λ w l. parts (t w) (t' w) (g w l)));
      } in
      record {
        base = base;
        is_serial = ih.is_serial;
        part = unary-part op p s out (λ xs. SameRows xs base) (λ xs. Parts by aggregates base xs) ih.holds.part fit carries run;
        together = unary-together op p s out (λ xs. SameRows xs base) (λ xs. Parts by aggregates base xs) ih.holds.part fit carries run;
        list = base;
        list_is = of_list;
        list_sorted = ih.holds.order.1;
        ordered = λ order ds below c front up.
            firsts-sorted order (map (pick by) base) (project-sorted by order ds (sym (order-copied by order) ∙ c) base (sorted-front ds below front base up));
        keyed = λ x g. absurd (true≢false (sym g));
      }

  -- a sort of parts: of the same parts, in an order in which the keys are listed too
  pub parts-sort-ready : (order : List OrderEntry) (p : Plan) (s out : Streams) (ih : HoldingAt db sizes goes p s) (T : List Row → Type 0) → T (listed p ih.base)
      → FitsRows (sort true order) p s → ((w : ℕ) → w < workers sizes (size p) → unary_rows (sort true order) (s w) ≡ Some (out w))
      → Ready (sort true order) p out T (serial db (spoken p)) (Gives p) (λ base. sort_on order (listed p base))
  parts-sort-ready order p s out ih T of_list fit run =
      let op : Unary = sort true order in
      let base : List Row = ih.base in
      let is : (xs ys : List Row) → unary_rows (sort true order) xs ≡ Some ys → sort_on order xs ≡ ys = λ xs ys e. some-is (sort_on order xs) ys e in
      let carries : Carries goes (described op).meets (unary_rows op) (λ xs. Gives p base xs) (λ xs. Gives p base xs)
      = record {
        alone = λ xs ys e f.
            let P : List Row → Type 0 = λ l. Gives p base l in
            subst P (is xs ys e) (Gives-order p base xs (sort_on order xs) (sorted-same xs) f);
        joins = λ n t t' met f g. Gives-order p base (joined n t) (joined n t')
            (SameRows-trans (sorted-same (joined n t)) (SameRows-sym (linear-joined (Linear-sort order) n t t' (λ w l. is (t w) (t' w) (g w l))))) f;
      } in
      record {
        base = base;
        is_serial = ih.is_serial;
        part = unary-part op p s out (λ xs. Gives p base xs) (λ xs. Gives p base xs) ih.holds.part fit carries run;
        together = unary-together op p s out (λ xs. Gives p base xs) (λ xs. Gives p base xs) ih.holds.part fit carries run;
        list = listed p base;
        list_is = of_list;
        list_sorted = ih.holds.order.1;
        ordered = λ cs ds below c front up. (keeps op).ordered cs ds below c front (listed p base) (sort_on order (listed p base)) refl up;
        keyed = λ x g. absurd (true≢false (sym g));
      }
    where
      sorted-same : (xs : List Row) → SameRows xs (sort_on order xs)
      sorted-same xs = record { totals = λ f. sym (sort-total f order xs) }

  -- ---- a final grouping

  same-key : (x : List ℕ) (xs ys : List Row) → SameRows xs ys → HasKey x xs → HasKey x ys
  same-key x xs ys s key row =
      let a : count (agree x row) xs ≤ 1 = key row in
      let b : count (agree x row) xs ≡ count (agree x row) ys = s.totals (λ r. cond (agree x row r) 1 0) in
      omega (arith, a, b)

  copied-first : (n i : ℕ) (c d : ℕ) → slice_get (columns_from i n) c ≡ Some d → d ≡ i + c
  copied-first zero i c d e = cc
  copied-first (suc n) i zero d e = let k : i ≡ d = cc in omega (arith, k)
  copied-first (suc n) i (suc c) d e = let k = copied-first n (suc i) c d e in omega (arith, k)

  copied-same : (n : ℕ) (order ds : List OrderEntry) → copied_order (first_columns n) order ≡ Some ds → ds ≡ order
  copied-same n [] ds h = cc
  copied-same n (e ∷ order) ds h =
      let w = entry-both-is (slice_get (first_columns n) e.column) e (copied_order (first_columns n) order) ds h in
      let a : w.0 ≡ e.column = let k = copied-first n 0 e.column w.0 w.2 in omega (arith, k) in
      let b : w.1 ≡ order = copied-same n order w.1 w.3 in
      w.4 ∙ ap₂ (λ x y. entry_at x e ∷ y) a b

  final-of : (k : ℕ) (p : Plan) (keys_of : List ℕ) (puts_of : List Aggregate) (s out : Streams) (ih : HoldingAt db sizes goes p s) (T : List Row → Type 0) → T (listed p ih.base) → (opened_is : Opened keys_of puts_of p)
      → ((xs : List Row) → serial db p ≡ rows xs → group_rows (first_columns (length opened_is.by)) (merged (length opened_is.by) opened_is.aggregates) xs ≡ Some xs)
      → FitsRows (group final (first_columns (length opened_is.by)) (merged (length opened_is.by) opened_is.aggregates)) p s
      → ((w : ℕ) → w < workers sizes (size p) → group_rows (first_columns (length opened_is.by)) (merged (length opened_is.by) opened_is.aggregates) (s w) ≡ Some (out w))
      → Ready (group final (first_columns (length opened_is.by)) (merged (length opened_is.by) opened_is.aggregates)) p out T
      (after (serial db p) (λ xs. or_overflow k (group_rows (first_columns (length opened_is.by)) (merged (length opened_is.by) opened_is.aggregates) xs))) (λ base xs. SameRows xs base) (λ base. base)
  final-of k p keys_of puts_of s out ih T of_list opened_is again fit run =
      let by : List ℕ = opened_is.by in
      let aggregates : List Aggregate = opened_is.aggregates in
      let keys : List ℕ = first_columns (length by) in
      let puts : List Aggregate = merged (length by) aggregates in
      let op : Unary = group final keys puts in
      let n : ℕ = workers sizes (size p) in
      let ks : List Row = listed p ih.base in
      let ks_are : SameRows ks (group_keys by ih.base) = opened_is.listed_same ih.base in
      let base' : List Row = map (group_row by aggregates ih.base) ks in
      let regrouped : SameRows (groups by aggregates ih.base) base' = linear-same (Linear-map (group_row by aggregates ih.base)) (SameRows-sym ks_are) in
      let both : (xs ys : List Row) → group_rows keys puts xs ≡ Some ys → (list_all (group_fits keys puts xs) (group_keys keys xs) ≡ true) × (groups keys puts xs ≡ ys)
      = λ xs ys e. some-of (list_all (group_fits keys puts xs) (group_keys keys xs)) (groups keys puts xs) ys e in
      let whole_of : (xs : List Row) → Gives p ih.base xs → SameRows (groups keys puts xs) base' = λ xs g. SameRows-trans (final-groups by aggregates ih.base xs (opened_is.gives ih.base xs g)) regrouped in
      let all_fit : list_all (group_fits by aggregates ih.base) (group_keys by ih.base) ≡ true = ⊎_elim
      (λ f. fits-final by aggregates ih.base (s 0) (opened_is.gives ih.base (s 0) (f.0 0 (some (size p)))) (both (s 0) (out 0) (run 0 (some (size p)))).0)
      (λ f. fits-final by aggregates ih.base (joined n s) (opened_is.gives ih.base (joined n s) f.1)
      (fits-joined goes f.0.0 f.0.1 keys puts n s (joined n s) f.0.2 (SameRows-refl (joined n s)) f.0.3 (λ w l. (both (s w) (out w) (run w l)).0)))
      (fitting-from op p s (λ xs. Gives p ih.base xs) ih.holds.part fit) in
      let below : serial db p ≡ rows base' = opened_is.serial_is db ∙ (ap (λ o. after o (λ xs. or_overflow opened_is.node (listed_rows by aggregates (listed p) xs))) ih.is_serial ∙ ap (λ b. or_overflow opened_is.node (cond b (Some base') None)) all_fit) in
      let Q : List OrderEntry → Type 0 = λ v. sorted v ks ≡ true in
      let carries : Carries goes (described op).meets (unary_rows op) (λ xs. Gives p ih.base xs) (λ xs. SameRows xs base')
      = record {
        alone = λ xs ys e g. let P : List Row → Type 0 = λ l. SameRows l base' in subst P (both xs ys e).1 (whole_of xs g);
        joins = λ m t t' met g e.
            SameRows-trans (groups-joined goes met.0 met.1 keys puts m t (joined m t) met.2 (SameRows-refl (joined m t)) met.3 t' (λ w l. (both (t w) (t' w) (e w l)).1))
            (whole_of (joined m t) g);
      } in
      record {
        base = base';
        is_serial = ap (λ o. after o (λ xs. or_overflow k (group_rows keys puts xs))) below ∙ ap (or_overflow k) (again base' below);
        part = unary-part op p s out (λ xs. Gives p ih.base xs) (λ xs. SameRows xs base') ih.holds.part fit carries run;
        together = unary-together op p s out (λ xs. Gives p ih.base xs) (λ xs. SameRows xs base') ih.holds.part fit carries run;
        list = ks;
        list_is = of_list;
        list_sorted = ih.holds.order.1;
        ordered = λ order ds below c front up.
            let o : copied_order keys order ≡ Some ds = sym (order-copied keys order) ∙ c in
            let L : ℕ → Type 0 = λ v. all_below v (order_columns order) ≡ true in
            extended-sorted order (length by) (group_row by aggregates ih.base) (λ key. map (λ a. aggregate_of a (of_key by key ih.base)) aggregates) (λ key. refl)
            (subst L (columns-long 0 (length by)) (copied-below keys (order_columns order) (order_columns ds) (copied-columns keys order ds o))) ks (listed-wide by ks ih.base ks_are)
            (subst Q (copied-same (length by) order ds o) (sorted-front ds below front ks up));
        keyed = λ x e. let W : ℕ → Type 0 = λ v. within (numbers_below v) x ≡ true in
            same-key x (groups by aggregates ih.base) base' regrouped (groups-key by x aggregates ih.base (subst W (columns-long 0 (length by)) e));
      }

  pub final-ready : (k : ℕ) (keys : List ℕ) (puts : List Aggregate) (p : Plan) (s out : Streams) (ih : HoldingAt db sizes goes p s) (T : List Row → Type 0) → T (listed p ih.base)
      → opens keys puts p ≡ true
      → FitsRows (group final keys puts) p s
      → ((w : ℕ) → w < workers sizes (size p) → group_rows keys puts (s w) ≡ Some (out w))
      → Ready (group final keys puts) p out T (after (serial db p) (λ xs. or_overflow k (group_rows keys puts xs))) (λ base xs. SameRows xs base) (λ base. base)
  final-ready k keys puts p s out ih T of_list e fit run =
      let o = opened keys puts p e in
      opened-as keys puts p o
      (λ a b. ((xs : List Row) → serial db p ≡ rows xs → group_rows a b xs ≡ Some xs) → FitsRows (group final a b) p s
      → ((w : ℕ) → w < workers sizes (size p) → group_rows a b (s w) ≡ Some (out w))
      → Ready (group final a b) p out T (after (serial db p) (λ xs. or_overflow k (group_rows a b xs))) (λ base xs. SameRows xs base) (λ base. base))
      (final-of k p keys puts s out ih T of_list o) (final-serial db keys puts p e) fit run

  -- ---- closed nodes and open ones

  pub close : (p : Plan) (s : Streams) → phased p ≡ true → is_open p ≡ false → HoldingAt db sizes goes p s → Holding db sizes goes p s
  close p s fit e h = closed db p fit e (λ o gives_of listed_of. HoldingOf goes (claim p) (workers sizes (size p)) s o gives_of listed_of → Holding db sizes goes p s) (λ g. g) h

  -- ---- each operator over one input

  pub unary-ready : (k : ℕ) (c : Claim) (op : Unary) (p : Plan) (s out : Streams) → phased p ≡ true → phase_fits op p ≡ true → (ih : HoldingAt db sizes goes p s) (T : List Row → Type 0)
      → T (listed p ih.base) → (is_open p ≡ false → (xs : List Row) → serial db p ≡ rows xs → T xs)
      → FitsStreams op p s → ((w : ℕ) → w < workers sizes (size p) → unary_rows op (s w) ≡ Some (out w))
      → Ready op p out T (serial db (spoken (unary k c op p))) (Gives (unary k c op p)) (listed (unary k c op p))
  unary-ready k c op p s out phases e ih T of_listed of_serial fit run =
      let own_rows : not (is_open p) ≡ true → Holding db sizes goes p s = λ e. close p s phases (not-true (is_open p) e) ih in
      let own_list : (e : not (is_open p) ≡ true) → T (own_rows e).base = λ e. of_serial (not-true (is_open p) e) (own_rows e).base (own_rows e).is_serial in
      by-phase
      (λ op f. f.fits p ≡ true → FitsStreams op p s → ((w : ℕ) → w < workers sizes (size p) → unary_rows op (s w) ≡ Some (out w))
      → Ready op p out T (serial db (f.spoken_of p (spoken p) (unary k c op p))) (f.gives_of (Gives p)) (f.listed_of (listed p)))
      (λ op w e fit run. own-ready k op w p s out (own_rows e) T (own_list e) fit run)
      (λ by aggregates e fit run. partial-ready by aggregates p s out (own_rows e) T (own_list e) fit.0 run)
      (λ order e fit run. parts-sort-ready order p s out ih T of_listed fit.0 run)
      (λ by aggregates e fit run. final-ready k by aggregates p s out ih T of_listed e fit.0 run)
      op e fit run

  -- the one worker's stream is the serial list, where the claimed order tells its rows apart
  pub first-rows : (op : Unary) (p : Plan) (s : Streams) → phased p ≡ true → phase_fits op p ≡ true → HoldingAt db sizes goes p s → Told db op p → FirstRows db op p s
  first-rows op p s phases fits ih told e =
      let t = told e in
      let h = close p s phases (limit-closed op p fits e) ih in
      let is_list : s 0 ≡ h.base = (one-list goes given.in_range (claim p) (workers sizes (size p)) s h.base (one-worker sizes (size p) t.0) h.holds).1 (t.1 h.base h.is_serial) in
      (t.0, λ xs is. is_list ∙ same-rows h.base xs (sym h.is_serial ∙ is))

  -- a limit's input by the tests of the rule table
  told-by-tests : (k : ℕ) (c : Claim) (op : Unary) (p : Plan) (s : Streams) → well_formed catalog p ≡ true → phase_fits op p ≡ true → HoldingAt db sizes goes p s
      → first_rows_known catalog (unary k c op p) ≡ true → Told db op p
  told-by-tests k c op p s wf fits ih known e =
      let single : Bool = is_one (size p) in
      let total : Bool = is_total_order catalog p in
      let both : (single && total) ≡ true = limit-known catalog k c op p known e in
      let h = close p s (well-phased catalog p wf) (limit-closed op p fits e) ih in
      let tells : Reports (order_columns (claim p).order) h.base = order-tells catalog db given.meets p h.base wf h.is_serial h.holds.keys (and-right single total both) in
      let R : List Row → Type 0 = λ l. Reports (order_columns (claim p).order) l in
      (and-left single total both, λ xs is. subst R (same-rows h.base xs (sym h.is_serial ∙ is)) tells)

  -- the streams fit by the tests of the rule table
  pub fits-by-tests : (k : ℕ) (c : Claim) (op : Unary) (p : Plan) (s : Streams) → well_formed catalog p ≡ true → phase_fits op p ≡ true → HoldingAt db sizes goes p s
      → allowed_here catalog (unary k c op p) ≡ true → FitsStreams op p s
  fits-by-tests k c op p s wf fits ih ok =
      let t = tests catalog (unary k c op p) ok in
      (inl t.2, first-rows op p s (well-phased catalog p wf) fits ih (told-by-tests k c op p s wf fits ih t.7))

  -- by the tests of the rule table
  pub unary-holds : (k : ℕ) (c : Claim) (op : Unary) (p : Plan) (s out : Streams) → well_formed catalog p ≡ true → phase_fits op p ≡ true → HoldingAt db sizes goes p s → allowed_here catalog (unary k c op p) ≡ true
      → ((w : ℕ) → w < workers sizes (size p) → unary_rows op (s w) ≡ Some (out w)) → HoldingAt db sizes goes (unary k c op p) out
  unary-holds k c op p s out wf e ih ok run =
      let h = tests catalog (unary k c op p) ok in
      let shown = (eight (sizes_match (unary k c op p)) (not_replicated (unary k c op p)) (inputs_match (unary k c op p)) (order_given (unary k c op p)) (first_rows_known catalog (unary k c op p))
      (part_shown catalog (unary k c op p)) (order_shown catalog (unary k c op p)) (keys_shown catalog (unary k c op p)) ok).5 in
      let r = unary-ready k c op p s out (well-phased catalog p wf) e ih (λ xs. Unit {0}) tt (λ e xs is. tt) (fits-by-tests k c op p s wf e ih ok) run in
      let o = unary-order catalog k c op p c.order h.5 in
      record {
        base = r.base;
        is_serial = r.is_serial;
        holds = record {
          part = r.part c.part shown;
          order = (
            (λ w l. (keeps op).ordered c.order o.0 (claim p).order o.1 o.2 (s w) (out w) (run w l) (ih.holds.order.0 w l)),
            r.ordered c.order o.0 (claim p).order o.1 o.2 r.list_sorted,
          );
          keys = keys-from (unary_keys op (claim p).keys) (listed (unary k c op p) r.base) r.keyed c.keys h.6;
        };
      }

  -- ---- scans

  pub scan-part : (r : ℕ) (m : Bool) (k : ℕ) (c : Claim) (z : Size) (out : Streams) → Runs db sizes goes (scan k c r m z) out → PartHolds goes (cond m any all) (workers sizes z) out (db r)
  scan-part r true k c z out run = Dealt-same run
  scan-part r false k c z out run = λ w l. let P : List Row → Type 0 = λ xs. SameRows xs (db r) in subst P (sym (run w l)) (SameRows-refl (db r))

  pub scan-order : (r : ℕ) (m : Bool) (k : ℕ) (c : Claim) (z : Size) (out : Streams) → Runs db sizes goes (scan k c r m z) out → (order : List OrderEntry) → sorted order (db r) ≡ true
      → (w : ℕ) → w < workers sizes z → sorted order (out w) ≡ true
  scan-order r true k c z out run order up w l = Dealt-sorted run order up w l
  scan-order r false k c z out run order up w l = let P : List Row → Type 0 = λ xs. sorted order xs ≡ true in subst P (sym (run w l)) up

  pub scan-holds : (k : ℕ) (c : Claim) (r : ℕ) (m : Bool) (z : Size) (out : Streams) → allowed_here catalog (scan k c r m z) ≡ true
      → Runs db sizes goes (scan k c r m z) out → Holding db sizes goes (scan k c r m z) out
  scan-holds k c r m z out ok run =
      let h = tests catalog (scan k c r m z) ok in
      let up : sorted c.order (db r) ≡ true = sorted-front c.order (catalog r).order h.5 (db r) (given.meets r).order in
      record {
        base = db r;
        is_serial = refl;
        holds = record {
          part = made-part goes given.in_range (is_one z) (cond m any all) c.part (workers sizes z) out (λ xs. SameRows xs (db r)) (one-worker sizes z) (scan-part r m k c z out run) h.4;
          order = (scan-order r m k c z out run c.order up, up);
          keys = keys-from (covers (catalog r).keys) (db r) (λ x g. covers-key (catalog r).keys x g (db r) (given.meets r).keys) c.keys h.6;
        };
      }

  -- ---- exchanges, closed or open

  -- the part that an exchange makes
  pub exchange-made : (kind : ExchangeKind) (merge : List OrderEntry) (p : Plan) (base : List Row) (m : ℕ) (s s' : Streams) → Gives p base (joined m s)
      → Exchanges goes kind merge m (workers sizes (target kind)) s s' → PartOf goes (kind_part kind) (workers sizes (target kind)) s' (λ xs. Gives p base xs)
  exchange-made kind merge p base m s s' h x = go kind x
    where
      moved : (xs : List Row) → SameRows xs (joined m s) → Gives p base xs
      moved xs e = Gives-order p base (joined m s) xs (SameRows-sym e) h

      go : (kind : ExchangeKind) → Exchanges goes kind merge m (workers sizes (target kind)) s s' → PartOf goes (kind_part kind) (workers sizes (target kind)) s' (λ xs. Gives p base xs)
      go (route_to z r cols) x = (
        moved _ (exchange-any goes given.in_range (route_to z r cols) merge _ _ s s' (joined m s) x (some z) (λ y e. cc) (λ e. cc) (λ e. cc) (SameRows-refl (joined m s))),
        routed-in-stream goes z r cols merge _ _ s s' x,
      )
      go (round z) x = moved _ (exchange-any goes given.in_range (round z) merge _ _ s s' (joined m s) x (some z) (λ y e. cc) (λ e. cc) (λ e. cc) (SameRows-refl (joined m s)))
      go (broadcast z) x = λ w l. moved (s' w) (broadcast-all goes z merge _ _ s s' (joined m s) x (SameRows-refl (joined m s)) w l)
      go gather x = (refl, moved _ (exchange-any goes given.in_range gather merge _ 1 s s' (joined m s) x (omega arith) (λ y e. cc) (λ e. refl) (λ e. cc) (SameRows-refl (joined m s))))
      go concat x = (refl, moved _ (exchange-any goes given.in_range concat merge _ 1 s s' (joined m s) x (omega arith) (λ y e. cc) (λ e. cc) (λ e. refl) (SameRows-refl (joined m s))))

  -- a concat puts out its producers' lists one behind the other
  pub concat-joined : (merge : List OrderEntry) (m n : ℕ) (s s' : Streams) → Exchanges goes concat merge m n s s' → (w : ℕ) → w < n → joined m s ≡ s' w
  concat-joined merge m n s s' x w l = sym (same-joined m (omega arith)) ∙ x.in_order refl w l
    where
      same-joined : (k : ℕ) → k ≤ m → joined k (λ i. x.sent i w) ≡ joined k s
      same-joined zero b = refl
      same-joined (suc k) b = ap₂ (λ a d. a ++ d) (same-joined k (omega arith)) (sym (x.sends k (omega arith) w l))

  -- a concat of streams that a range routed, in order
  pub concat-sorted : (kind : ExchangeKind) (merge : List OrderEntry) (p : Plan) (s : Streams) (ih : HoldingAt db sizes goes p s) (s' : Streams)
      → Exchanges goes kind merge (workers sizes (size p)) (workers sizes (target kind)) s s'
      → goes_on kind (claim p) ≡ true → (w : ℕ) → w < workers sizes (target kind) → sorted (claim p).order (s' w) ≡ true
  concat-sorted (route_to z r cols) merge p s ih s' x e w l = absurd (true≢false (sym e))
  concat-sorted (round z) merge p s ih s' x e w l = absurd (true≢false (sym e))
  concat-sorted (broadcast z) merge p s ih s' x e w l = absurd (true≢false (sym e))
  concat-sorted gather merge p s ih s' x e w l = absurd (true≢false (sym e))
  concat-sorted concat merge p s ih s' x e w l =
      let m : ℕ = workers sizes (size p) in
      let P : List Row → Type 0 = λ xs. sorted (claim p).order xs ≡ true in
      subst P (concat-joined merge m 1 s s' x w l)
      (ranged goes given.rising (claim p).part (claim p).order m s e ih.holds.order.0 (part-placed goes (claim p).part m s (λ xs. Gives p ih.base xs) ih.holds.part))

  pub exchange-holds : (k : ℕ) (c : Claim) (kind : ExchangeKind) (merge : List OrderEntry) (p : Plan) (s out : Streams) (ih : HoldingAt db sizes goes p s) → allowed_here catalog (exchange k c kind merge p) ≡ true
      → Exchanges goes kind merge (workers sizes (size p)) (workers sizes (target kind)) s out
      → HoldingAt db sizes goes (exchange k c kind merge p) out
  exchange-holds k c kind merge p s out ih ok x =
      let h = tests catalog (exchange k c kind merge p) ok in
      let list : List Row = listed p ih.base in
      record {
        base = ih.base;
        is_serial = ih.is_serial;
        holds = record {
          part = made-part goes given.in_range (is_one (target kind)) (kind_part kind) c.part (workers sizes (target kind)) out (λ xs. Gives p ih.base xs) (one-worker sizes (target kind))
              (exchange-made kind merge p ih.base (workers sizes (size p)) s out
              (has-part goes given.in_range (is_one (size p)) (claim p).part any (workers sizes (size p)) s (λ xs. Gives p ih.base xs) (one-worker sizes (size p)) h.1 ih.holds.part) x) h.4;
          order = (
            λ w l. exchange-sorted p kind merge c.order (out w) h.5 (x.merged w l)
                (λ o. single-sorted goes kind merge _ _ s out x (one-worker sizes (size p) o) (claim p).order (ih.holds.order.0 0 (some (size p))) w l)
                (λ g. concat-sorted kind merge p s ih out x g w l),
            exchange-sorted p kind merge c.order list h.5 (sorted-front merge (claim p).order h.3 list ih.holds.order.1) (λ o. ih.holds.order.1) (λ g. ih.holds.order.1),
          );
          keys = keys-from (covers (claim p).keys) list (λ y e. covers-key (claim p).keys y e list ih.holds.keys) c.keys h.6;
        };
      }
