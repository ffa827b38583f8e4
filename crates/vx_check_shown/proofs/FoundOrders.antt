-- The orders that are found name columns of their nodes, none twice.
use Rattle.std.proofs.Common.{◌≡◌, ◌≤◌, ℕ, suc, ◌+◌, ◌<◌, ◌==◌, nat_lt, Bool, true, false, cond, not, ◌&&◌, ◌||◌, List, [], ◌∷◌, length, refl, sym, ap, ◌∙◌, subst, arith, true≢false, ltb-true, lt-ltb}
use Rattle.std.specs.List.{list_all, list_any}
use Rattle.std.proofs.lemmas.Bool.Decides.{nat_tests}
use Rattle.vx_rows_values.specs.declared.order.OrderEntry.{OrderEntry}
use Rattle.vx_rows_values.specs.Order.{order_columns}
use Rattle.vx_rows_values.specs.Lists.{is_some_list}
use Rattle.vx_rows_values.proofs.Booleans.{and-left, and-right, and-both}
use Rattle.vx_catalog_relations.specs.Relation.{Relation}
use Rattle.vx_catalog_relations.specs.Catalog.{relation_at, all_below, are_distinct, IsCatalog}
use Rattle.vx_plan_nodes.specs.Plan.{Part, select, project, distinct, sort, group, limit, union, join, semi_join, Plan, scan, unary, binary, exchange, claim, size, is_one}
use Rattle.vx_plan_nodes.specs.Types.{types_of, width, part_columns}
use Rattle.vx_plan_nodes.specs.Describe.{described}
use Rattle.vx_plan_nodes.specs.Phases.{phase_fits}
use Rattle.vx_plan_nodes.specs.Typed.{Scope, is_size, is_unary, is_kind, are_columns, typed}
use Rattle.vx_plan_facts.specs.Equal.{equal_at}
use Rattle.vx_plan_facts.specs.Determined.{Columns, determined}
use Rattle.vx_plan_facts.specs.DeterminedFacts.{Within}
use Rattle.vx_plan_facts.specs.Following.{set_of, short_after, short}
use Rattle.vx_plan_facts.proofs.NamedColumns.{types-width}
use Rattle.vx_check_rules.specs.Derived.{goes_on_with}
use Rattle.vx_check_rules.specs.Rules.{contains}
use Rattle.vx_check_rules.proofs.CopySteps.{copies-below}
use Rattle.vx_check_options.proofs.TypedOrders.{declared-typed}
use Rattle.vx_check_shown.specs.ShownOrder.{order_had, shown_order, are_of_input}
use Rattle.vx_check_shown.proofs.Equivalent.{equal-equivalence}
use Rattle.vx_check_shown.proofs.Standing.{ordered-below}

-- ---- columns of the node

below-more : (v w : ℕ) → v ≤ w → (cols : List ℕ) → all_below v cols ≡ true → all_below w cols ≡ true
below-more v w l [] h = refl
below-more v w l (c ∷ cols) h =
    let less = ltb-true c v (and-left (nat_lt c v) (all_below v cols) h) in
    and-both (nat_lt c w) (all_below w cols) (lt-ltb c w (omega (arith, l, less))) (below-more v w l cols (and-right (nat_lt c v) (all_below v cols) h))

short-below : (w : ℕ) (det : Columns → Columns) (before : List ℕ) (order : List OrderEntry) → all_below w (order_columns order) ≡ true
    → all_below w (order_columns (short_after det before order)) ≡ true
short-below w det before [] h = refl
short-below w det before (x ∷ order) h =
    let c : ℕ = x.column in
    go (det (set_of before) c) (and-left (nat_lt c w) (all_below w (order_columns order)) h) (short-below w det (c ∷ before) order (and-right (nat_lt c w) (all_below w (order_columns order)) h))
  where
    go : (b : Bool) → nat_lt x.column w ≡ true → all_below w (order_columns (short_after det (x.column ∷ before) order)) ≡ true
        → all_below w (order_columns (cond b (short_after det (x.column ∷ before) order) (x ∷ short_after det (x.column ∷ before) order))) ≡ true
    go true l r = r
    go false l r = and-both (nat_lt x.column w) (all_below w (order_columns (short_after det (x.column ∷ before) order))) l r

module _ (s : Scope) (cat : IsCatalog s.catalog) where
  had-below : (p : Plan) → typed s p ≡ true → (q : Part) (below : List OrderEntry) → are_of_input (relation_at s.catalog) p q below ≡ true
      → all_below (width (relation_at s.catalog) p) (order_columns (order_had (relation_at s.catalog) p q below)) ≡ true
  had-below (scan n c r m z) ok q below h =
      let rel = relation_at s.catalog r in
      and-left (all_below (length rel.types) (order_columns rel.order)) (are_distinct (order_columns rel.order)) (declared-typed s r cat (and-left (nat_lt r (length s.catalog)) _ ok))
  had-below (unary n c (select fs) p) ok q below h = and-right _ (all_below (width (relation_at s.catalog) p) (order_columns below)) h
  had-below (unary n c (project es) p) ok q below h =
      let C : ℕ → Relation = relation_at s.catalog in
      copies-below (width C (unary n c (project es) p)) (described (project es)).copying (equal_at C p) (short (determined C p) below)
  had-below (unary n c (distinct cols) p) ok q below h =
      let C : ℕ → Relation = relation_at s.catalog in
      copies-below (width C (unary n c (distinct cols) p)) (described (distinct cols)).copying (equal_at C p) (short (determined C p) below)
  had-below (unary n c (sort of_parts order) p) ok q below h =
      let types = types_of (relation_at s.catalog) p in
      let op = and-left (is_unary types (sort of_parts order)) _ (and-right (phase_fits (sort of_parts order) p) _ (and-right (typed s p) _ ok)) in
      let P : ℕ → Type 0 = λ w. all_below w (order_columns order) ≡ true in
      subst P (types-width (relation_at s.catalog) p)
      (and-left (all_below (length types) (order_columns order)) (are_distinct (order_columns order)) (and-right (is_some_list order) (are_columns (length types) (order_columns order)) op))
  had-below (unary n c (group phase by aggregates) p) ok q below h =
      let C : ℕ → Relation = relation_at s.catalog in
      copies-below (width C (unary n c (group phase by aggregates) p)) (described (group phase by aggregates)).copying (equal_at C p) (short (determined C p) below)
  had-below (unary n c (limit m) p) ok q below h = and-right _ (all_below (width (relation_at s.catalog) p) (order_columns below)) h
  had-below (binary n c union p p2) ok q below h = refl
  had-below (binary n c (join m on) p p2) ok q below h =
      below-more (width (relation_at s.catalog) p) (width (relation_at s.catalog) p + width (relation_at s.catalog) p2) (omega arith) (order_columns below)
      (and-right _ (all_below (width (relation_at s.catalog) p) (order_columns below)) h)
  had-below (binary n c (semi_join matched on conditions) p p2) ok q below h = and-right _ (all_below (width (relation_at s.catalog) p) (order_columns below)) h
  had-below (exchange n c k m p) ok q below h =
      let types = types_of (relation_at s.catalog) p in
      let cols = and-left (are_columns (length types) (order_columns m)) _ (and-right (is_kind s types k) _ (and-right (typed s p) _ ok)) in
      let P : ℕ → Type 0 = λ w. all_below w (order_columns m) ≡ true in
      go (is_one (size p) || goes_on_with (relation_at s.catalog) k p q below) (and-right _ (all_below (width (relation_at s.catalog) p) (order_columns below)) h)
      (subst P (types-width (relation_at s.catalog) p) (and-left (all_below (length types) (order_columns m)) (are_distinct (order_columns m)) cols))
    where
      go : (b : Bool) → all_below (width (relation_at s.catalog) p) (order_columns below) ≡ true → all_below (width (relation_at s.catalog) p) (order_columns m) ≡ true
          → all_below (width (relation_at s.catalog) p) (order_columns (cond b below m)) ≡ true
      go true x y = x
      go false x y = y

  pub order-below : (p : Plan) → typed s p ≡ true → (q : Part) (below : List OrderEntry) → are_of_input (relation_at s.catalog) p q below ≡ true
      → all_below (width (relation_at s.catalog) p) (order_columns (shown_order (relation_at s.catalog) p q below)) ≡ true
  order-below p ok q below h =
      let C : ℕ → Relation = relation_at s.catalog in
      ordered-below (width C p) (equal_at C p) (equal-equivalence C p) (short (determined C p) (order_had C p q below))
      (short-below (width C p) (determined C p) [] (order_had C p q below) (had-below p ok q below h))

-- ---- none twice

module _ (det : Columns → Columns) (itself : (s : Columns) → Within s (det s)) where
  none-longer : (before : List ℕ) (order : List OrderEntry) → length (short_after det before order) ≤ length order
  none-longer before [] = omega arith
  none-longer before (x ∷ order) = go (det (set_of before) x.column) (none-longer (x.column ∷ before) order)
    where
      go : (b : Bool) → length (short_after det (x.column ∷ before) order) ≤ length order
          → length (cond b (short_after det (x.column ∷ before) order) (x ∷ short_after det (x.column ∷ before) order)) ≤ suc (length order)
      go true h = omega (arith, h)
      go false h = omega (arith, h)

  none-of : (before : List ℕ) → list_all (λ b. not (contains [] b)) before ≡ true
  none-of [] = refl
  none-of (b ∷ before) = none-of before

  none-before : (c : ℕ) (cols before : List ℕ) → set_of before c ≡ false → list_all (λ b. not (contains cols b)) before ≡ true → list_all (λ b. not (contains (c ∷ cols) b)) before ≡ true
  none-before c cols [] h k = refl
  none-before c cols (b ∷ before) h k =
      and-both (not (contains (c ∷ cols) b)) (list_all (λ b. not (contains (c ∷ cols) b)) before)
      (other (c == b) (set_of before c) (b == c) (contains cols b) (turned c b) h (and-left (not (contains cols b)) (list_all (λ b. not (contains cols b)) before) k))
      (none-before c cols before (rest (c == b) (set_of before c) h) (and-right (not (contains cols b)) (list_all (λ b. not (contains cols b)) before) k))
    where
      turned : (x y : ℕ) → (y == x) ≡ (x == y)
      turned x y = grind (arith, nat_tests)

      other : (x y z t : Bool) → z ≡ x → (x || y) ≡ false → not t ≡ true → not (z || t) ≡ true
      other true y z t e h k = absurd (true≢false h)
      other false y z t e h k = ap (λ v. not (v || t)) e ∙ k

      rest : (x y : Bool) → (x || y) ≡ false → y ≡ false
      rest true y h = absurd (true≢false h)
      rest false y h = h

  pub distinct-past : (before : List ℕ) (order : List OrderEntry) → short_after det before order ≡ order
      → (are_distinct (order_columns order) ≡ true) × (list_all (λ b. not (contains (order_columns order) b)) before ≡ true)
  distinct-past before [] h = (refl, none-of before)
  distinct-past before (x ∷ order) h = go (det (set_of before) x.column) refl h (distinct-past (x.column ∷ before) order)
    where
      unmarked : det (set_of before) x.column ≡ false → set_of before x.column ≡ false
      unmarked out = by (set_of before x.column) refl
        where
          by : (b : Bool) → set_of before x.column ≡ b → b ≡ false
          by false e = refl
          by true e = absurd (true≢false (sym (itself (set_of before) x.column e) ∙ out))

      go : (b : Bool) → det (set_of before) x.column ≡ b
          → cond b (short_after det (x.column ∷ before) order) (x ∷ short_after det (x.column ∷ before) order) ≡ x ∷ order
          → (short_after det (x.column ∷ before) order ≡ order
          → (are_distinct (order_columns order) ≡ true) × (list_all (λ b. not (contains (order_columns order) b)) (x.column ∷ before) ≡ true))
          → (are_distinct (order_columns (x ∷ order)) ≡ true) × (list_all (λ b. not (contains (order_columns (x ∷ order)) b)) before ≡ true)
      go true e h more =
          let less = none-longer (x.column ∷ before) order in
          let long = ap length h in absurd (omega (arith, less, long))
      go false e h below =
          let c : ℕ = x.column in
          let cols : List ℕ = order_columns order in
          let tail : short_after det (c ∷ before) order ≡ order = cc in
          let more = below tail in
          let rest = list_all (λ b. not (contains cols b)) before in (
            and-both (not (contains cols c)) (are_distinct cols) (and-left (not (contains cols c)) rest more.1) more.0,
            none-before c cols before (unmarked e) (and-right (not (contains cols c)) rest more.1),
          )

  -- an order that is short already has no column twice
  pub short-distinct : (order : List OrderEntry) → short det order ≡ order → are_distinct (order_columns order) ≡ true
  short-distinct order h = (distinct-past [] order h).0
