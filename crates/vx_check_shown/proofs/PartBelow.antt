-- The part that a node shows names columns of the node.
use Rattle.std.proofs.Common.{◌≡◌, ◌∙◌, ℕ, ◌+◌, nat_lt, Bool, true, false, cond, not, ◌&&◌, List, [], ◌∷◌, length, Option, Some, None, refl, ap, subst}
use Rattle.vx_rows_values.specs.declared.order.OrderEntry.{OrderEntry}
use Rattle.vx_rows_values.specs.declared.value.ColType.{ColType}
use Rattle.vx_rows_values.specs.Lists.{is_some_list}
use Rattle.vx_rows_values.proofs.Booleans.{and-left, and-right}
use Rattle.vx_catalog_relations.specs.Relation.{Relation}
use Rattle.vx_catalog_relations.specs.Catalog.{relation_at, all_below, are_distinct}
use Rattle.vx_plan_nodes.specs.Plan.{Route, by_hash, by_range, Part, one, any, all, routed, Claim, union, join, semi_join, ExchangeKind, route_to, round, broadcast, gather, concat, Plan, scan, unary, binary, exchange}
use Rattle.vx_plan_nodes.specs.Parts.{kind_part}
use Rattle.vx_plan_nodes.specs.Types.{types_of, width, part_columns}
use Rattle.vx_plan_nodes.specs.Typed.{Scope, typed, is_size, is_kind, is_routed, are_columns}
use Rattle.vx_plan_nodes.specs.Describe.{Copying, whole_rows, described, left_of, right_of}
use Rattle.vx_plan_facts.specs.Equal.{Equality, equal_at}
use Rattle.vx_plan_facts.specs.Naming.{IsTypedOver}
use Rattle.vx_plan_facts.proofs.NamedColumns.{types-width}
use Rattle.vx_check_rules.specs.Rules.{route_eq}
use Rattle.vx_check_rules.specs.Behaviour.{routed_at}
use Rattle.vx_check_shown.specs.ShownPart.{stand_ins, part_carried, common_columns, is_all, routed_in_common, part_over}
use Rattle.vx_check_shown.proofs.Equivalent.{IsEquivalence, equal-equivalence}
use Rattle.vx_check_shown.proofs.StandFacts.{ins-below, commons-below}

pub at-below : (w : ℕ) (r : Route) (o : Option (List ℕ)) → ((cs : List ℕ) → o ≡ Some cs → all_below w cs ≡ true) → all_below w (part_columns (routed_at r o)) ≡ true
at-below w r None h = refl
at-below w r (Some cs) h = h cs refl

pub carried-below : (w : ℕ) (k : Copying) (e : Equality) → IsEquivalence e → (x : Part) → all_below w (part_columns (part_carried w k e x)) ≡ true
carried-below w k e is one = refl
carried-below w k e is any = refl
carried-below w k e is all = refl
carried-below w k e is (routed r xs) = at-below w r (stand_ins w k e xs) (λ cs h. ins-below w k e is xs cs h)

either-below : (w : ℕ) (b : Bool) (x y : Part) → all_below w (part_columns x) ≡ true → all_below w (part_columns y) ≡ true → all_below w (part_columns (cond b x y)) ≡ true
either-below w true x y h k = h
either-below w false x y h k = k

common-below : (w : ℕ) (e f : Equality) → IsEquivalence e → IsEquivalence f → (x y : Part) → all_below w (part_columns (routed_in_common w e f x y)) ≡ true
common-below w e f is it one y = refl
common-below w e f is it any y = refl
common-below w e f is it all y = refl
common-below w e f is it (routed r as') one = refl
common-below w e f is it (routed r as') any = refl
common-below w e f is it (routed r as') all = refl
common-below w e f is it (routed r as') (routed s bs) =
    either-below w (route_eq r s) (routed_at r (common_columns w e f as' bs)) any (at-below w r (common_columns w e f as' bs) (λ cs h. commons-below w e f is it as' bs cs h)) refl

-- the part that an exchange makes is on columns of its input
routed-named : (s : Scope) (types : List ColType) (r : Route) (cols : List ℕ) → is_routed s types r cols ≡ true → all_below (length types) cols ≡ true
routed-named s types (by_hash name) cols h =
    and-left (all_below (length types) cols) (are_distinct cols)
    (and-right (is_some_list cols) (are_columns (length types) cols) (and-right (is_some_list name) (is_some_list cols && are_columns (length types) cols) h))
routed-named s types (by_range k) [] h = refl
routed-named s types (by_range k) (c ∷ []) h =
    let low = nat_lt c (length types) in
    ap (λ b. b && true) (and-left low _ (and-right (nat_lt k (length s.ranges)) _ h))
routed-named s types (by_range k) (c ∷ d ∷ cols) h = absurd cc

kind-named : (s : Scope) (types : List ColType) (k : ExchangeKind) → is_kind s types k ≡ true → all_below (length types) (part_columns (kind_part k)) ≡ true
kind-named s types (route_to z r cols) h = routed-named s types r cols (and-right (is_size s.sizes z) (is_routed s types r cols) h)
kind-named s types (round z) h = refl
kind-named s types (broadcast z) h = refl
kind-named s types gather h = refl
kind-named s types concat h = refl

sent-named : (catalog : List Relation) (n : ℕ) (c : Claim) (k : ExchangeKind) (m : List OrderEntry) (p : Plan) → IsTypedOver catalog (exchange n c k m p)
    → all_below (width (relation_at catalog) p) (part_columns (kind_part k)) ≡ true
sent-named catalog n c k m p (s, same, typed_x) =
    let types : List ColType = types_of (relation_at s.catalog) p in
    let P : ℕ → Type 0 = λ w. all_below w (part_columns (kind_part k)) ≡ true in
    let wide : length types ≡ width (relation_at catalog) p = types-width (relation_at s.catalog) p ∙ ap (λ l. width (relation_at l) p) same in
    subst P wide (kind-named s types k (and-left (is_kind s types k) _ (and-right (typed s p) _ typed_x)))

pub over-below : (catalog : List Relation) (p : Plan) → IsTypedOver catalog p → (x y : Part) → all_below (width (relation_at catalog) p) (part_columns (part_over (relation_at catalog) p x y)) ≡ true
over-below catalog (scan n c r m z) h x y = either-below (width (relation_at catalog) (scan n c r m z)) m any all refl refl
over-below catalog (unary n c op p) h x y =
    let at : ℕ → Relation = relation_at catalog in
    carried-below (width at (unary n c op p)) (described op).copying (equal_at at p) (equal-equivalence at p) x
over-below catalog (binary n c union p q) h x y =
    let at : ℕ → Relation = relation_at catalog in
    either-below (width at p) (is_all x && is_all y) all (routed_in_common (width at p) (equal_at at p) (equal_at at q) x y) refl
    (common-below (width at p) (equal_at at p) (equal_at at q) (equal-equivalence at p) (equal-equivalence at q) x y)
over-below catalog (binary n c (join m on) p q) h x y =
    let at : ℕ → Relation = relation_at catalog in
    let v : ℕ = width at p in
    let w : ℕ = width at p + width at q in
    either-below w (is_all x && not (is_all y)) (part_carried w (right_of v) (equal_at at q) y) (part_carried w (left_of v) (equal_at at p) x)
    (carried-below w (right_of v) (equal_at at q) (equal-equivalence at q) y) (carried-below w (left_of v) (equal_at at p) (equal-equivalence at p) x)
over-below catalog (binary n c (semi_join matched on conditions) p q) h x y =
    let at : ℕ → Relation = relation_at catalog in carried-below (width at p) whole_rows (equal_at at p) (equal-equivalence at p) x
over-below catalog (exchange n c k m p) h x y = sent-named catalog n c k m p h
