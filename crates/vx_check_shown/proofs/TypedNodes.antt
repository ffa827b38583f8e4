-- Nodes of typed plans: what columns determine there, and the columns that they name.
use Rattle.std.proofs.Common.{◌≡◌, ◌∙◌, ℕ, ◌<◌, ◌==◌, nat_lt, Bool, true, ◌&&◌, ◌||◌, List, length, Option, Some, refl, sym, ap, subst, ltb-true, eq-eqb}
use Rattle.std.proofs.lemmas.Bool.{and_parts}
use Rattle.std.specs.List.{list_any, list_all}
use Rattle.vx_rows_values.specs.declared.value.ColType.{ColType}
use Rattle.vx_rows_values.specs.declared.order.OrderEntry.{OrderEntry}
use Rattle.vx_rows_values.specs.Order.{order_columns}
use Rattle.vx_rows_values.specs.Lists.{is_some_list}
use Rattle.vx_rows_values.proofs.Booleans.{and-left, and-right, and-both}
use Rattle.vx_catalog_relations.specs.Relation.{Relation}
use Rattle.vx_catalog_relations.specs.Catalog.{relation_at, all_below, are_distinct, IsCatalog, IsRelation}
use Rattle.vx_plan_nodes.specs.Plan.{Claim, claim, Size, Unary, sort, union, join, semi_join, ExchangeKind, Plan, scan, unary, binary, exchange}
use Rattle.vx_plan_nodes.specs.Phases.{first_columns, phase_fits, both_closed}
use Rattle.vx_plan_nodes.specs.Typed.{Scope, are_columns, is_unary, is_kind, typed}
use Rattle.vx_plan_nodes.specs.Types.{types_of, width, part_columns, names_columns, well_formed}
use Rattle.vx_plan_nodes.specs.Describe.{Copying, whole_rows, source, described}
use Rattle.vx_plan_facts.specs.Asking.{Reaches}
use Rattle.vx_plan_facts.specs.Determined.{Columns, column_in, is_copy_of, sources_in, by_input, by_rows, by_inputs, determined}
use Rattle.vx_plan_facts.specs.DeterminedFacts.{WithinFirst, one_step}
use Rattle.vx_plan_facts.specs.Equal.{equal_at}
use Rattle.vx_plan_facts.specs.Fixed.{fixed_at}
use Rattle.vx_plan_facts.specs.Labels.{source_within}
use Rattle.vx_plan_facts.specs.Naming.{names_within}
use Rattle.vx_plan_facts.proofs.ColumnSets.{any-at}
use Rattle.vx_plan_facts.proofs.Least.{least-sets, more-from-more}
use Rattle.vx_plan_facts.proofs.NamedColumns.{types-width, typed-unary}
use Rattle.vx_plan_facts.proofs.Tests.{or-left, or-right}
use Rattle.vx_check_rules.proofs.Shortening.{Closes}
use Rattle.vx_check_shown.proofs.Equivalent.{equal-equivalence}
use Rattle.vx_check_shown.proofs.CopiedOrders.{Held, GoesUp}

-- ---- what is determined

equal-reached : (catalog : ℕ → Relation) (p : Plan) (s : Columns) (c d : ℕ) → c < width catalog p → equal_at catalog p c d ≡ true → s c ≡ true → one_step catalog p s d ≡ true
equal-reached catalog p s c d l same has =
    let w : ℕ = width catalog p in
    let equals : Bool = list_any (λ x. s x && equal_at catalog p x d) (first_columns w) in
    let keyed : Bool = list_any (list_all s) (claim p).keys in
    let fixed : Bool = is_some_list (fixed_at catalog p d) in
    let there : equals ≡ true = any-at (λ x. s x && equal_at catalog p x d) w c l (and-both (s c) (equal_at catalog p c d) has same) in
    or-left (s d || (fixed || (equals || keyed))) (by_inputs catalog p s d)
    (or-right (s d) (fixed || (equals || keyed)) (or-right fixed (equals || keyed) (or-left equals keyed there)))

pub closes-at : (catalog : ℕ → Relation) (p : Plan) → well_formed catalog p ≡ true → Closes (width catalog p) (equal_at catalog p) (determined catalog p)
closes-at catalog p formed = record {
  holds = λ s c l h. (least-sets catalog p formed s).holds c h;
  again = λ s t h. (least-sets catalog p formed s).least (determined catalog p t) h (least-sets catalog p formed t).closed;
  equal = λ s c d l m same has. (least-sets catalog p formed s).closed d m (equal-reached catalog p (determined catalog p s) c d l same has);
  swap = λ c d l m same. (equal-equivalence catalog p).swap c d same;
}

-- the copies of what an input determines are determined
pub goes-up : (catalog : ℕ → Relation) (x p : Plan) (k : Copying) → ((s : Columns) (c : ℕ) → by_inputs catalog x s c ≡ by_input (width catalog x) k (determined catalog p) s c)
    → well_formed catalog x ≡ true → well_formed catalog p ≡ true → Reaches (width catalog x) k (width catalog p)
    → GoesUp (width catalog p) (width catalog x) k (determined catalog p) (determined catalog x)
goes-up catalog x p k by formed below_formed reaches s t held c y l there h =
    let w : ℕ = width catalog x in
    let found : Columns = determined catalog x s in
    let asked : Columns = sources_in w k found in
    let within : WithinFirst (width catalog p) t asked = λ z m in_t.
    let r = held z m in_t in
    any-at (λ d. found d && is_copy_of z (source k d)) w r.0 r.1
    (and-both (found r.0) (is_copy_of z (source k r.0)) r.3 (ap (is_copy_of z) r.2 ∙ eq-eqb z z refl)) in
    let answered : determined catalog p asked y ≡ true = more-from-more.of_first catalog p below_formed t asked within y (reaches c y l there) h in
    let given : by_inputs catalog x found c ≡ true = by found c ∙ ap (column_in (determined catalog p asked)) there ∙ answered in
    (least-sets catalog x formed s).closed c l
    (or-right (by_rows w (equal_at catalog x) (fixed_at catalog x) (claim x).keys found c) (by_inputs catalog x found c) given)

-- at an exchange more is determined than at its input
pub exchange-more : (catalog : ℕ → Relation) (n : ℕ) (c : Claim) (kind : ExchangeKind) (m : List OrderEntry) (p : Plan) → well_formed catalog (exchange n c kind m p) ≡ true
    → well_formed catalog p ≡ true → (s : Columns) → WithinFirst (width catalog p) (determined catalog p s) (determined catalog (exchange n c kind m p) s)
exchange-more catalog n c kind m p formed below_formed s d l h =
    let x : Plan = exchange n c kind m p in
    let held : Held (width catalog p) (width catalog p) whole_rows (determined catalog x) s s = λ z k in_s. (z, k, refl, (least-sets catalog x formed s).holds z in_s) in
    goes-up catalog x p whole_rows (λ t y. refl) formed below_formed (λ a b k e. reaches a b k e) s s held d d l refl h
  where
    reaches : (a b : ℕ) → a < width catalog p → Some a ≡ Some b → b < width catalog p
    reaches a b k e = let P : ℕ → Type 0 = λ v. v < width catalog p in subst P (got e) k
      where
        or-none : Option ℕ → ℕ
        or-none (Some y) = y
        or-none other = 0

        got : Some a ≡ Some b → a ≡ b
        got e = ap or-none e

-- ---- columns that a node names

claim-named : (catalog : ℕ → Relation) (p : Plan) → well_formed catalog p ≡ true → names_columns (width catalog p) (claim p) ≡ true
claim-named catalog (scan n c r m z) h = h
claim-named catalog (unary n c op p) h =
    let named = names_columns (width catalog (unary n c op p)) c in
    and-right (phase_fits op p) named (and-right (well_formed catalog p) (phase_fits op p && named) h)
claim-named catalog (binary n c union p q) h =
    let named = names_columns (width catalog p) c in
    let wide = width catalog p == width catalog q in
    and-right wide named
    (and-right (both_closed p q) (wide && named)
    (and-right (well_formed catalog q) (both_closed p q && (wide && named)) (and-right (well_formed catalog p) (well_formed catalog q && (both_closed p q && (wide && named))) h)))
claim-named catalog (binary n c (join m on) p q) h =
    let named = names_columns (width catalog (binary n c (join m on) p q)) c in
    and-right (both_closed p q) named
    (and-right (well_formed catalog q) (both_closed p q && named) (and-right (well_formed catalog p) (well_formed catalog q && (both_closed p q && named)) h))
claim-named catalog (binary n c (semi_join matched on conditions) p q) h =
    let named = names_columns (width catalog p) c in
    and-right (both_closed p q) named
    (and-right (well_formed catalog q) (both_closed p q && named) (and-right (well_formed catalog p) (well_formed catalog q && (both_closed p q && named)) h))
claim-named catalog (exchange n c k m p) h = and-right (well_formed catalog p) (names_columns (width catalog p) c) h

pub order-below : (catalog : ℕ → Relation) (p : Plan) → well_formed catalog p ≡ true → all_below (width catalog p) (order_columns (claim p).order) ≡ true
order-below catalog p h =
    let w : ℕ = width catalog p in
    let rest : Bool = all_below w (order_columns (claim p).order) && list_all (all_below w) (claim p).keys in
    and-left (all_below w (order_columns (claim p).order)) (list_all (all_below w) (claim p).keys) (and-right (all_below w (part_columns (claim p).part)) rest (claim-named catalog p h))

-- the order that a relation declares
pub relation-below : (s : Scope) (n : ℕ) (c : Claim) (r : ℕ) (m : Bool) (z : Size) → IsCatalog s.catalog → typed s (scan n c r m z) ≡ true
    → all_below (width (relation_at s.catalog) (scan n c r m z)) (order_columns (relation_at s.catalog r).order) ≡ true
relation-below s n c r m z catalog h =
    let rel : Relation = relation_at s.catalog r in
    let fine : IsRelation rel = catalog.each r (and_parts (nat_lt r (length s.catalog)) _ h).0 in
    let P : ℕ → Type 0 = λ w. all_below w (order_columns rel.order) ≡ true in
    subst P (sym fine.typed) (and-left (all_below (length rel.names) (order_columns rel.order)) (are_distinct (order_columns rel.order)) fine.order)

-- the order of a sort
pub sorted-below : (s : Scope) (n : ℕ) (c : Claim) (of_parts : Bool) (order : List OrderEntry) (p : Plan) → typed s (unary n c (sort of_parts order) p) ≡ true
    → all_below (width (relation_at s.catalog) p) (order_columns order) ≡ true
sorted-below s n c of_parts order p h =
    let types : List ColType = types_of (relation_at s.catalog) p in
    let u = and_parts (typed s p) _ h in
    let v = and_parts (phase_fits (sort of_parts order) p) _ u.1 in
    let y = and_parts (is_unary types (sort of_parts order)) _ v.1 in
    let P : ℕ → Type 0 = λ w. all_below w (order_columns order) ≡ true in
    subst P (types-width (relation_at s.catalog) p)
    (and-left (all_below (length types) (order_columns order)) (are_distinct (order_columns order)) (and-right (is_some_list order) (are_columns (length types) (order_columns order)) y.0))

-- those by which an exchange merges
pub merged-below : (s : Scope) (n : ℕ) (c : Claim) (kind : ExchangeKind) (m : List OrderEntry) (p : Plan) → typed s (exchange n c kind m p) ≡ true
    → all_below (width (relation_at s.catalog) p) (order_columns m) ≡ true
merged-below s n c kind m p h =
    let types : List ColType = types_of (relation_at s.catalog) p in
    let u = and_parts (typed s p) _ h in
    let v = and_parts (is_kind s types kind) _ u.1 in
    let y = and_parts (are_columns (length types) (order_columns m)) _ v.1 in
    let P : ℕ → Type 0 = λ w. all_below w (order_columns m) ≡ true in
    subst P (types-width (relation_at s.catalog) p) (and-left (all_below (length types) (order_columns m)) (are_distinct (order_columns m)) y.0)

-- an operator's copies are of columns of its input
pub copies-reach : (s : Scope) (n : ℕ) (c : Claim) (op : Unary) (p : Plan) → typed s (unary n c op p) ≡ true
    → ((w : ℕ) → names_within w op ≡ true → (d : ℕ) → source_within w (source (described op).copying d) ≡ true)
    → Reaches (width (relation_at s.catalog) (unary n c op p)) (described op).copying (width (relation_at s.catalog) p)
copies-reach s n c op p h within d x l there =
    let v : ℕ = width (relation_at s.catalog) p in
    let named = (typed-unary s.catalog (unary n c op p) n c op p refl (s, refl, h)).1 in
    ltb-true x v (sym (ap (source_within v) there) ∙ within v named d)
