-- Keys that are claimed hold where what they determine holds one that the table shows.
use Rattle.std.proofs.Common.{◌≡◌, ⊎_elim, ℕ, ◌≤◌, Bool, true, false, cond, ◌||◌, List, [], ◌∷◌, map, refl, sym, ap, ◌∙◌, subst, arith, true≢false}
use Rattle.std.specs.List.{list_all, list_any}
use Rattle.vx_rows_values.specs.Values.{Row}
use Rattle.vx_rows_values.specs.Order.{agree}
use Rattle.vx_rows_values.specs.Bags.{count}
use Rattle.vx_rows_values.specs.Keys.{HasKey}
use Rattle.vx_rows_values.proofs.Compare.{agree-both}
use Rattle.vx_catalog_relations.specs.Relation.{Relation, KeysHold, Meets}
use Rattle.vx_plan_nodes.specs.Plan.{Entry, select, project, distinct, sort, group, Plan, scan, unary, binary, exchange, claim, limit}
use Rattle.vx_plan_nodes.specs.Types.{width}
use Rattle.vx_plan_nodes.specs.Phases.{first_columns, is_open, phased, spoken, listed}
use Rattle.vx_plan_nodes.specs.Serial.{entries_row, entries_fit, rows, serial}
use Rattle.vx_plan_facts.specs.Equal.{equal_at}
use Rattle.vx_plan_facts.specs.Fixed.{fixed_at}
use Rattle.vx_plan_facts.specs.Determined.{Columns, sources_in, determined, determined_aside}
use Rattle.vx_plan_facts.specs.DeterminedFacts.{AgreeOn, KeysAt}
use Rattle.vx_plan_facts.specs.Following.{set_of}
use Rattle.vx_plan_facts.specs.RowFacts.{all_inputs_fit}
use Rattle.vx_plan_facts.proofs.Columns.{entry-copies}
use Rattle.vx_plan_facts.proofs.FollowFacts.{count-once, count-fewer, agree-each, each-agree}
use Rattle.vx_plan_facts.proofs.Stems.{unary-made}
use Rattle.vx_check_rules.specs.Rules.{keys_of}
use Rattle.vx_check_rules.specs.Derived.{members, key_below, key_derived, allowed_derived, keys_shown_derived}
use Rattle.vx_exec_laws.proofs.Bags.{total-map}
use Rattle.vx_exec_laws.proofs.Parts.{or-cases}
use Rattle.vx_exec_laws.proofs.Keys.{keys-from}
use Rattle.vx_exec_laws.proofs.Widths.{some-of}
use Rattle.vx_exec_laws.proofs.Entries.{kept_of}
use Rattle.vx_exec_laws.proofs.Exchange.{filter-all}
use Rattle.vx_exec_laws.proofs.Opened.{closed}
use Rattle.vx_exec_laws.proofs.DerivedPairs.{Pairs, key-from, sources-pair}
use Rattle.vx_exec_laws.proofs.DerivedSerial.{KeysBelow, keys-here, serial-pairs, aside-pairs}
use Rattle.vx_exec_laws.proofs.DerivedOpen.{open-keys}

module _ (catalog : ℕ → Relation) (db : ℕ → List Row) (meets : (r : ℕ) → Meets (catalog r) (db r)) where
  -- of a projection: copies of columns that determine a key of the input
  copied-key : (es : List Entry) (x key : List ℕ) (p : Plan) (w : ℕ) (xs : List Row) → Pairs (width catalog p) (equal_at catalog p) (fixed_at catalog p) (determined catalog p) xs → HasKey key xs
      → list_all (determined catalog p (sources_in w (kept_of es) (set_of x))) key ≡ true → HasKey x (map (entries_row es) xs)
  copied-key es x key p w xs pairs has t row =
      let g : Row → Row = entries_row es in
      let same : count (agree x row) (map g xs) ≡ count (λ y. agree x row (g y)) xs = total-map (λ y. cond (agree x row y) 1 0) g xs in
      let most : count (λ y. agree x row (g y)) xs ≤ 1 = count-once (λ y. agree x row (g y)) xs (λ y oy ay.
      let less : count (λ z. agree x row (g z)) xs ≤ count (agree key y) xs = count-fewer (λ z. agree x row (g z)) (agree key y) xs (λ z oz az.
      let both : agree x (g y) (g z) ≡ true = agree-both x row (g y) (g z) ay az in
      let on : AgreeOn (set_of x) (g y) (g z) = agree-each x (g y) (g z) both in
      each-agree key y z (determined catalog p (sources_in w (kept_of es) (set_of x))) t
      ((pairs y z oy oz).agree (sources_in w (kept_of es) (set_of x)) (sources-pair w (kept_of es) (g y) (g z) y z (entry-copies es y) (entry-copies es z) (set_of x) on))) in
      let k = has y in
      omega (arith, less, k)) in
      omega (arith, same, most)

  some-copied-key : (es : List Entry) (x : List ℕ) (p : Plan) (w : ℕ) (xs : List Row) → Pairs (width catalog p) (equal_at catalog p) (fixed_at catalog p) (determined catalog p) xs
      → (keys : List (List ℕ)) → KeysHold keys xs → list_any (list_all (determined catalog p (sources_in w (kept_of es) (set_of x)))) keys ≡ true → HasKey x (map (entries_row es) xs)
  some-copied-key es x p w xs pairs [] has t = absurd (true≢false (sym t))
  some-copied-key es x p w xs pairs (key ∷ keys) has t =
      let test : List ℕ → Bool = list_all (determined catalog p (sources_in w (kept_of es) (set_of x))) in
      ⊎_elim (λ h. copied-key es x key p w xs pairs has.0 h) (λ h. some-copied-key es x p w xs pairs keys has.1 h) (or-cases (test key) (list_any test keys) t)

  below-key : (p : Plan) → all_inputs_fit catalog p ≡ true → KeysBelow db p → (base : List Row) → serial db p ≡ rows base → (x : List ℕ) → key_below catalog p x ≡ true → HasKey x base
  below-key (scan n c r m z) fit keys base is x t = absurd (true≢false (sym t))
  below-key (unary n c (select fs) p) fit keys base is x t = absurd (true≢false (sym t))
  below-key (unary n c (project es) p) fit keys base is x t =
      let made = unary-made db n (project es) p base is in
      let same : map (entries_row es) made.0 ≡ base = (some-of (list_all (entries_fit es) made.0) (map (entries_row es) made.0) base made.2).1 in
      subst (HasKey x) same
      (some-copied-key es x p (width catalog (unary n c (project es) p)) made.0 (serial-pairs catalog db meets p fit keys made.0 made.1) (claim p).keys (keys-here db p keys made.0 made.1) t)
  below-key (unary n c (distinct cols) p) fit keys base is x t = absurd (true≢false (sym t))
  below-key (unary n c (sort of_parts order) p) fit keys base is x t = absurd (true≢false (sym t))
  below-key (unary n c (group phase by aggregates) p) fit keys base is x t = absurd (true≢false (sym t))
  below-key (unary n c (limit m) p) fit keys base is x t = absurd (true≢false (sym t))
  below-key (binary n c op p q) fit keys base is x t = absurd (true≢false (sym t))
  below-key (exchange n c k m p) fit keys base is x t = absurd (true≢false (sym t))

  -- a claimed key of a closed node
  closed-key : (p : Plan) → all_inputs_fit catalog p ≡ true → KeysBelow db p → (base : List Row) → serial db p ≡ rows base
      → ((x : List ℕ) → keys_of catalog p x ≡ true → HasKey x base) → (x : List ℕ) → key_derived catalog p x ≡ true → HasKey x base
  closed-key p fit keys base is shown x t =
      let s : Columns = determined_aside catalog p (set_of x) in
      let all_of : List ℕ = members (width catalog p) s in
      ⊎_elim
      (λ h. shown x h)
      (λ h. ⊎_elim
      (λ k. key-from (width catalog p) (equal_at catalog p) (fixed_at catalog p) (determined_aside catalog p) base (aside-pairs catalog db meets p fit keys base is)
      (all_of ∷ []) (shown all_of k, tt) x (ap (λ b. b || false) (filter-all s (first_columns (width catalog p)))))
      (λ k. below-key p fit keys base is x k)
      (or-cases (keys_of catalog p all_of) (key_below catalog p x) h))
      (or-cases (keys_of catalog p x) (keys_of catalog p all_of || key_below catalog p x) t)

  -- the claimed keys of a node
  pub keys-derived : (p : Plan) → all_inputs_fit catalog p ≡ true → allowed_derived catalog p ≡ true → phased p ≡ true → keys_shown_derived catalog p ≡ true → KeysBelow db p
      → (base : List Row) → serial db (spoken p) ≡ rows base → ((x : List ℕ) → keys_of catalog p x ≡ true → HasKey x (listed p base)) → KeysHold (claim p).keys (listed p base)
  keys-derived p fit ok ph t keys base is shown = by (is_open p) refl
    where
      by : (o : Bool) → is_open p ≡ o → KeysHold (claim p).keys (listed p base)
      by true e = let P : List (List ℕ) → Type 0 = λ ks. KeysHold ks (listed p base) in subst P (sym (open-keys catalog p ok e)) tt
      by false e = closed db p ph e
          (λ o gives_of listed_of. (base : List Row) → o ≡ rows base → ((x : List ℕ) → keys_of catalog p x ≡ true → HasKey x (listed_of base)) → KeysHold (claim p).keys (listed_of base))
          (λ base is shown. keys-from (key_derived catalog p) base (closed-key p fit keys base is shown) (claim p).keys t)
          base is shown

  -- and of its serial list
  pub keys-at : (p : Plan) → allowed_derived catalog p ≡ true → phased p ≡ true → (base : List Row) → serial db (spoken p) ≡ rows base → KeysHold (claim p).keys (listed p base) → KeysAt db p
  keys-at p ok ph base is has = by (is_open p) refl
    where
      by : (o : Bool) → is_open p ≡ o → KeysAt db p
      by true e = λ xs g. let P : List (List ℕ) → Type 0 = λ ks. KeysHold ks xs in subst P (sym (open-keys catalog p ok e)) tt
      by false e = closed db p ph e
          (λ o gives_of listed_of. (base : List Row) → o ≡ rows base → KeysHold (claim p).keys (listed_of base) → KeysAt db p)
          (λ base is has xs g.
          let same : base ≡ xs = same-rows base xs (sym is ∙ g) in subst (KeysHold (claim p).keys) same has)
          base is has
        where
          same-rows : (xs ys : List Row) → rows xs ≡ rows ys → xs ≡ ys
          same-rows xs ys e = cc
