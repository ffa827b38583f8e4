-- Typed nodes: they are well formed, and their operators copy columns that there are. What columns determine at them.
use Rattle.std.proofs.Common.{◌≡◌, ℕ, ◌+◌, ◌-◌, ◌<◌, ◌≤◌, ◌==◌, nat_lt, nat_le, Bool, true, false, cond, ◌&&◌, ◌||◌, List, refl, subst, arith, Option, Some, None, ltb-true, leb-true}
use Rattle.std.specs.List.{list_any, list_all}
use Rattle.vx_rows_values.specs.Lists.{is_some_list}
use Rattle.vx_rows_values.specs.Order.{order_columns}
use Rattle.vx_rows_values.proofs.Booleans.{and-left, and-right, and-both}
use Rattle.vx_catalog_relations.specs.Relation.{Relation}
use Rattle.vx_catalog_relations.specs.Catalog.{relation_at, all_below}
use Rattle.vx_plan_nodes.specs.Plan.{Claim, claim, Unary, select, project, distinct, sort, group, limit, union, join, semi_join, Plan, scan, unary, binary, exchange}
use Rattle.vx_plan_nodes.specs.Phases.{first_columns, phase_fits, both_closed}
use Rattle.vx_plan_nodes.specs.Types.{width, unary_width, part_columns, names_columns, well_formed}
use Rattle.vx_plan_nodes.specs.Describe.{whole_rows, source, left_of, right_of, described}
use Rattle.vx_plan_facts.specs.Equal.{equal_at}
use Rattle.vx_plan_facts.specs.Fixed.{fixed_at}
use Rattle.vx_plan_facts.specs.Asking.{Reaches}
use Rattle.vx_plan_facts.specs.Labels.{source_within}
use Rattle.vx_plan_facts.specs.Naming.{names_within, IsTypedOver}
use Rattle.vx_plan_facts.specs.Determined.{Columns, by_inputs, determined}
use Rattle.vx_plan_facts.specs.DeterminedFacts.{one_step}
use Rattle.vx_plan_facts.proofs.NamedColumns.{project-within, distinct-within, group-within}
use Rattle.vx_plan_facts.proofs.WellTyped.{typed-well-formed}
use Rattle.vx_plan_facts.proofs.Tests.{or-left, or-right}
use Rattle.vx_plan_facts.proofs.ColumnSets.{any-at}
use Rattle.vx_plan_facts.proofs.Least.{least-sets}
use Rattle.vx_check_rules.proofs.Shortening.{Closes}
use Rattle.vx_check_keeping.proofs.EqualLaws.{equal-is}

pub formed-over : (catalog : List Relation) (p : Plan) → IsTypedOver catalog p → well_formed (relation_at catalog) p ≡ true
formed-over catalog p h =
    let P : List Relation → Type 0 = λ l. well_formed (relation_at l) p ≡ true in
    subst P h.1 (typed-well-formed h.0 p h.2)

pub claim-named : (catalog : ℕ → Relation) (p : Plan) → well_formed catalog p ≡ true → names_columns (width catalog p) (claim p) ≡ true
claim-named catalog (scan n c r m z) h = h
claim-named catalog (unary n c op p) h =
    let named = names_columns (width catalog (unary n c op p)) c in
    and-right (phase_fits op p) named (and-right (well_formed catalog p) (phase_fits op p && named) h)
claim-named catalog (binary n c union p q) h =
    let named = names_columns (width catalog p) c in
    let same = width catalog p == width catalog q in
    and-right same named (and-right (both_closed p q) (same && named)
    (and-right (well_formed catalog q) (both_closed p q && (same && named))
    (and-right (well_formed catalog p) (well_formed catalog q && (both_closed p q && (same && named))) h)))
claim-named catalog (binary n c (join m on) p q) h =
    let named = names_columns (width catalog p + width catalog q) c in
    and-right (both_closed p q) named
    (and-right (well_formed catalog q) (both_closed p q && named) (and-right (well_formed catalog p) (well_formed catalog q && (both_closed p q && named)) h))
claim-named catalog (binary n c (semi_join matched on conditions) p q) h =
    let named = names_columns (width catalog p) c in
    and-right (both_closed p q) named
    (and-right (well_formed catalog q) (both_closed p q && named) (and-right (well_formed catalog p) (well_formed catalog q && (both_closed p q && named)) h))
claim-named catalog (exchange n c k m p) h = and-right (well_formed catalog p) (names_columns (width catalog p) c) h

pub part-named : (w : ℕ) (c : Claim) → names_columns w c ≡ true → all_below w (part_columns c.part) ≡ true
part-named w c h = and-left (all_below w (part_columns c.part)) (all_below w (order_columns c.order) && list_all (all_below w) c.keys) h

pub order-named : (w : ℕ) (c : Claim) → names_columns w c ≡ true → all_below w (order_columns c.order) ≡ true
order-named w c h =
    and-left (all_below w (order_columns c.order)) (list_all (all_below w) c.keys) (and-right (all_below w (part_columns c.part)) (all_below w (order_columns c.order) && list_all (all_below w) c.keys) h)

pub keys-named : (w : ℕ) (c : Claim) → names_columns w c ≡ true → list_all (all_below w) c.keys ≡ true
keys-named w c h =
    and-right (all_below w (order_columns c.order)) (list_all (all_below w) c.keys) (and-right (all_below w (part_columns c.part)) (all_below w (order_columns c.order) && list_all (all_below w) c.keys) h)

-- ---- copies

within-is : (v : ℕ) (o : Option ℕ) (x : ℕ) → source_within v o ≡ true → o ≡ Some x → x < v
within-is v None x h e = absurd cc
within-is v (Some y) x h e = let is : y ≡ x = cc in subst (λ z. z < v) is (ltb-true y v h)

pub whole-reaches : (v : ℕ) → Reaches v whole_rows v
whole-reaches v c x l e = let is : c ≡ x = cc in subst (λ z. z < v) is l

pub unary-reaches : (v : ℕ) (op : Unary) → names_within v op ≡ true → Reaches (unary_width op v) (described op).copying v
unary-reaches v (select fs) h = whole-reaches v
unary-reaches v (project es) h = λ c x l e. within-is v (source (described (project es)).copying c) x (project-within v (project es) es refl h c) e
unary-reaches v (distinct cols) h = λ c x l e. within-is v (source (described (distinct cols)).copying c) x (distinct-within v (distinct cols) cols refl h c) e
unary-reaches v (sort of_parts order) h = whole-reaches v
unary-reaches v (group phase by aggregates) h =
    λ c x l e. within-is v (source (described (group phase by aggregates)).copying c) x (group-within v (group phase by aggregates) phase by aggregates refl h c) e
unary-reaches v (limit m) h = whole-reaches v

pub left-reaches : (v u : ℕ) → Reaches (v + u) (left_of v) v
left-reaches v u c x l e = go (nat_lt c v) refl e
  where
    go : (t : Bool) → nat_lt c v ≡ t → cond t (Some c) None ≡ Some x → x < v
    go true is e = let same : c ≡ x = cc in subst (λ z. z < v) same (ltb-true c v is)
    go false is e = absurd cc

pub right-reaches : (v u : ℕ) → Reaches (v + u) (right_of v) u
right-reaches v u c x l e = go (nat_le v c) refl e
  where
    go : (t : Bool) → nat_le v c ≡ t → cond t (Some (c - v)) None ≡ Some x → x < u
    go true is e = let same : c - v ≡ x = cc in let large : v ≤ c = leb-true v c is in omega (arith, same, large, l)
    go false is e = absurd cc

-- ---- what columns determine

equal-reached : (catalog : ℕ → Relation) (p : Plan) (s : Columns) (c d : ℕ) → c < width catalog p → equal_at catalog p c d ≡ true → s c ≡ true → one_step catalog p s d ≡ true
equal-reached catalog p s c d l same has =
    let w : ℕ = width catalog p in
    let equal : Bool = list_any (λ x. s x && equal_at catalog p x d) (first_columns w) in
    let keyed : Bool = list_any (list_all s) (claim p).keys in
    let fixed : Bool = is_some_list (fixed_at catalog p d) in
    let there : equal ≡ true = any-at (λ x. s x && equal_at catalog p x d) w c l (and-both (s c) (equal_at catalog p c d) has same) in
    or-left (s d || (fixed || (equal || keyed))) (by_inputs catalog p s d)
    (or-right (s d) (fixed || (equal || keyed)) (or-right fixed (equal || keyed) (or-left equal keyed there)))

pub closes-at : (catalog : ℕ → Relation) (p : Plan) → well_formed catalog p ≡ true → Closes (width catalog p) (equal_at catalog p) (determined catalog p)
closes-at catalog p formed = record {
  holds = λ s c l h. (least-sets catalog p formed s).holds c h;
  again = λ s t h. (least-sets catalog p formed s).least (determined catalog p t) h (least-sets catalog p formed t).closed;
  equal = λ s c d l m same has. (least-sets catalog p formed s).closed d m (equal-reached catalog p (determined catalog p s) c d l same has);
  swap = λ c d l m same. (equal-is catalog p).swap c d same;
}
