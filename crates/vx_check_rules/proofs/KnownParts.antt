-- The second table's tests of parts, by what is known of the columns of a node and of its inputs, are those of the table.
use Rattle.std.proofs.Common.{◌≡◌, ◌∙◌, ℕ, ◌<◌, nat_lt, Bool, true, ◌&&◌, ◌||◌, List, [], ◌∷◌, length, refl, ap, ap₂, sym, subst, arith}
use Rattle.std.proofs.lemmas.Bool.{eqb-true}
use Rattle.std.proofs.lemmas.Bool.Decides.{nat_tests}
use Rattle.vx_rows_values.specs.declared.order.OrderEntry.{OrderEntry}
use Rattle.vx_rows_values.specs.declared.value.ColType.{ColType}
use Rattle.vx_rows_values.specs.Lists.{is_some_list}
use Rattle.vx_rows_values.proofs.Booleans.{and-left, and-right}
use Rattle.vx_catalog_relations.specs.Relation.{Relation}
use Rattle.vx_catalog_relations.specs.Catalog.{relation_at, all_below, are_distinct}
use Rattle.vx_plan_nodes.specs.Plan.{Route, by_hash, by_range, Claim, Unary, Binary, union, join, semi_join, ExchangeKind, route_to, round, broadcast, gather, concat, Plan, scan, unary, binary, exchange, claim}
use Rattle.vx_plan_nodes.specs.declared.typed.TypedNode.{TypedNode}
use Rattle.vx_plan_nodes.specs.Outline.{plan_of}
use Rattle.vx_plan_nodes.specs.Parts.{kind_part}
use Rattle.vx_plan_nodes.specs.Types.{types_of, width, part_columns}
use Rattle.vx_plan_nodes.specs.Typed.{Scope, typed, is_size, is_kind, is_routed, are_columns}
use Rattle.vx_plan_nodes.specs.Describe.{described, described_both, whole_rows, left_of, right_of}
use Rattle.vx_plan_facts.specs.declared.facts.ColumnFacts.{ColumnFacts}
use Rattle.vx_plan_facts.specs.declared.known.KnownColumns.{KnownColumns}
use Rattle.vx_plan_facts.specs.FactsView.{facts_of, width_of}
use Rattle.vx_plan_facts.specs.Facts.{AreFactsOf}
use Rattle.vx_plan_facts.specs.Equal.{equal_at}
use Rattle.vx_plan_facts.specs.Naming.{IsTypedOver}
use Rattle.vx_plan_facts.specs.KnownView.{IsKnownOf}
use Rattle.vx_plan_facts.proofs.KnownFacts.{known-under, known-passed, known-both}
use Rattle.vx_plan_facts.proofs.NamedColumns.{types-width, typed-unary, typed-both}
use Rattle.vx_plan_facts.proofs.Searching.{known-left, known-right}
use Rattle.vx_check_rules.specs.Rules.{inputs_match}
use Rattle.vx_check_rules.specs.Behaviour.{own}
use Rattle.vx_check_rules.specs.Derived.{part_matches, routed_as, inputs_match_derived, part_derived}
use Rattle.vx_check_rules.specs.DerivedView.{equality_of, meet_equally, meet_both_equally, meets_derived, join_part, kept_part, both_part}
use Rattle.vx_check_rules.specs.KnownNode.{IsKnownTyped}
use Rattle.vx_check_rules.proofs.NamedNodes.{part-below}
use Rattle.vx_check_rules.proofs.EqualBelow.{SameBelow, matches-same, meets-same, alike-same, routed-as-same, join-same, kept-same}

-- the facts of a node that the program has, where it is known
abbrev pub FactsAt : (ℕ → Relation) → KnownColumns → ColumnFacts → TypedNode → Type 0
FactsAt catalog known k t = IsKnownOf catalog known (plan_of t) → AreFactsOf catalog (plan_of t) (facts_of k)

-- ---- columns that are there

both-in : (a b x y : Bool) → a ≡ true → b ≡ true → x ≡ y → (a && (b && x)) ≡ y
both-in a b x y h k e = ap₂ (λ p q. p && (q && x)) h k ∙ e

below-true : (a w v : ℕ) → a < w → v ≡ w → nat_lt a v ≡ true
below-true a w v l e = grind (arith, nat_tests)

below-wide : (a w v : ℕ) → a < w → v ≡ w → a < v
below-wide a w v l e = omega arith

-- equal columns are those of the node
equal-same : (catalog : ℕ → Relation) (p : Plan) (k : ColumnFacts) → AreFactsOf catalog p (facts_of k) → SameBelow (width catalog p) (equality_of k) (equal_at catalog p)
equal-same catalog p k are a b l m =
    both-in (nat_lt a (width_of k)) (nat_lt b (width_of k)) _ (equal_at catalog p a b) (below-true a (width catalog p) (width_of k) l are.wide) (below-true b (width catalog p) (width_of k) m are.wide)
    (are.equal a b (below-wide a (width catalog p) (width_of k) l are.wide) (below-wide b (width catalog p) (width_of k) m are.wide))

-- the part that an exchange makes is on columns of its input
routed-named : (s : Scope) (types : List ColType) (r : Route) (cols : List ℕ) → is_routed s types r cols ≡ true → all_below (length types) cols ≡ true
routed-named s types (by_hash name) cols h =
    and-left (all_below (length types) cols) (are_distinct cols)
    (and-right (is_some_list cols) (are_columns (length types) cols) (and-right (is_some_list name) (is_some_list cols && are_columns (length types) cols) h))
routed-named s types (by_range k) [] h = refl
routed-named s types (by_range k) (c ∷ []) h =
    let low = nat_lt c (length types) in
    ap (λ b. b && true) (and-left low _ (and-right (nat_lt k (length s.ranges)) _ h))
routed-named s types (by_range k) (c ∷ d ∷ cols) h = absurd cc

kind-named : (s : Scope) (types : List ColType) (k : ExchangeKind) → is_kind s types k ≡ true → all_below (length types) (part_columns (kind_part k)) ≡ true
kind-named s types (route_to z r cols) h = routed-named s types r cols (and-right (is_size s.sizes z) (is_routed s types r cols) h)
kind-named s types (round z) h = refl
kind-named s types (broadcast z) h = refl
kind-named s types gather h = refl
kind-named s types concat h = refl

sent-named : (catalog : List Relation) (n : ℕ) (c : Claim) (k : ExchangeKind) (m : List OrderEntry) (p : Plan) → IsTypedOver catalog (exchange n c k m p)
    → all_below (width (relation_at catalog) p) (part_columns (kind_part k)) ≡ true
sent-named catalog n c k m p (s, same, typed_x) =
    let types : List ColType = types_of (relation_at s.catalog) p in
    let P : ℕ → Type 0 = λ w. all_below w (part_columns (kind_part k)) ≡ true in
    let wide : length types ≡ width (relation_at catalog) p = types-width (relation_at s.catalog) p ∙ ap (λ l. width (relation_at l) p) same in
    subst P wide (kind-named s types k (and-left (is_kind s types k) _ (and-right (typed s p) _ typed_x)))

-- ---- K4

pub meets-or : (catalog : ℕ → Relation) (p : Plan) → inputs_match_derived catalog p ≡ (inputs_match p || meets_derived catalog p)
meets-or catalog (scan n c r m z) = refl
meets-or catalog (unary n c op p) = refl
meets-or catalog (binary n c op p q) = refl
meets-or catalog (exchange n c k m p) = refl

pub unary-meets : (catalog : List Relation) (known : KnownColumns) (n : ℕ) (c : Claim) (op : Unary) (p : Plan) (k : ColumnFacts) → IsKnownTyped catalog known (unary n c op p)
    → (IsKnownOf (relation_at catalog) known p → AreFactsOf (relation_at catalog) p (facts_of k))
    → meet_equally (equality_of k) (described op).meets (claim p).part ≡ meets_derived (relation_at catalog) (unary n c op p)
unary-meets catalog known n c op p k h facts =
    let at = relation_at catalog in
    let below = known-under at known n c op p h.known in
    meets-same (width at p) (equality_of k) (equal_at at p) (equal-same at p k (facts below)) op (claim p).part (typed-unary catalog (unary n c op p) n c op p refl h.typed).1 (part-below at known p below)

pub both-meet : (catalog : List Relation) (known : KnownColumns) (n : ℕ) (c : Claim) (op : Binary) (p q : Plan) (k l : ColumnFacts) (v : ℕ) → IsKnownTyped catalog known (binary n c op p q)
    → (IsKnownOf (relation_at catalog) known p → AreFactsOf (relation_at catalog) p (facts_of k))
    → (IsKnownOf (relation_at catalog) known q → AreFactsOf (relation_at catalog) q (facts_of l))
    → meet_both_equally (equality_of k) (equality_of l) (described_both v op).meeting (claim p).part (claim q).part ≡ meets_derived (relation_at catalog) (binary n c op p q)
both-meet catalog known n c union p q k l v h lefts rights = refl
both-meet catalog known n c (join m on) p q k l v h lefts rights =
    let at = relation_at catalog in
    let below = known-both at known n c (join m on) p q h.known in
    alike-same (width at p) (width at q) (equality_of k) (equal_at at p) (equality_of l) (equal_at at q) (equal-same at p k (lefts below.0)) (equal-same at q l (rights below.1)) on
    (typed-both catalog (binary n c (join m on) p q) n c (join m on) p q refl h.typed).2 (claim p).part (claim q).part (part-below at known p below.0) (part-below at known q below.1)
both-meet catalog known n c (semi_join matched on conditions) p q k l v h lefts rights =
    let at = relation_at catalog in
    let op : Binary = semi_join matched on conditions in
    let below = known-both at known n c op p q h.known in
    alike-same (width at p) (width at q) (equality_of k) (equal_at at p) (equality_of l) (equal_at at q) (equal-same at p k (lefts below.0)) (equal-same at q l (rights below.1)) on
    (typed-both catalog (binary n c op p q) n c op p q refl h.typed).2 (claim p).part (claim q).part (part-below at known p below.0) (part-below at known q below.1)

-- ---- K3

pub unary-part : (catalog : List Relation) (known : KnownColumns) (n : ℕ) (c : Claim) (op : Unary) (p : Plan) (k o : ColumnFacts) → IsKnownTyped catalog known (unary n c op p)
    → (IsKnownOf (relation_at catalog) known p → AreFactsOf (relation_at catalog) p (facts_of k)) → AreFactsOf (relation_at catalog) (unary n c op p) (facts_of o)
    → routed_as (width_of o) (described op).copying (equality_of k) (equality_of o) (claim p).part c.part ≡ part_derived (relation_at catalog) (unary n c op p) c.part
unary-part catalog known n c op p k o h facts out =
    let at = relation_at catalog in
    let top = unary n c op p in
    let below = known-under at known n c op p h.known in
    ap (λ w. routed_as w (described op).copying (equality_of k) (equality_of o) (claim p).part c.part) out.wide
    ∙ routed-as-same (width at p) (width at top) (described op).copying (known-left at _ top h.known.known).reaches (equality_of k) (equal_at at p) (equality_of o) (equal_at at top)
    (equal-same at p k (facts below)) (equal-same at top o out) (claim p).part c.part (part-below at known p below) (part-below at known top h.known)

pub both-part : (catalog : List Relation) (known : KnownColumns) (n : ℕ) (c : Claim) (op : Binary) (p q : Plan) (k l o : ColumnFacts) → IsKnownTyped catalog known (binary n c op p q)
    → (IsKnownOf (relation_at catalog) known p → AreFactsOf (relation_at catalog) p (facts_of k))
    → (IsKnownOf (relation_at catalog) known q → AreFactsOf (relation_at catalog) q (facts_of l)) → AreFactsOf (relation_at catalog) (binary n c op p q) (facts_of o)
    → both_part (width_of o) (described_both (width (relation_at catalog) p) op).meeting (described_both (width (relation_at catalog) p) op) (equality_of k) (equality_of l) (equality_of o) (own p) (own q) c.part
    ≡ part_derived (relation_at catalog) (binary n c op p q) c.part
both-part catalog known n c union p q k l o h lefts rights out =
    let at = relation_at catalog in
    let below = known-both at known n c union p q h.known in
    let named : all_below (width at p) (part_columns c.part) ≡ true = part-below at known (binary n c union p q) h.known in
    let as_wide : width at q ≡ width at p = eqb-true (width at q) (width at p) (typed-both catalog (binary n c union p q) n c union p q refl h.typed).2 in
    let P : ℕ → Type 0 = λ w. all_below w (part_columns c.part) ≡ true in
    ap₂ (λ a b. a && b) (matches-same (width at p) (equality_of k) (equal_at at p) (equal-same at p k (lefts below.0)) (claim p).part c.part (part-below at known p below.0) named)
    (matches-same (width at q) (equality_of l) (equal_at at q) (equal-same at q l (rights below.1)) (claim q).part c.part (part-below at known q below.1) (subst P (sym as_wide) named))
both-part catalog known n c (join m on) p q k l o h lefts rights out =
    let at = relation_at catalog in
    let top = binary n c (join m on) p q in
    let below = known-both at known n c (join m on) p q h.known in
    ap (λ w. join_part w (left_of (width at p)) (right_of (width at p)) (equality_of k) (equality_of l) (equality_of o) on (own p) (own q) c.part) out.wide
    ∙ join-same (width at p) (width at q) (width at top) (left_of (width at p)) (right_of (width at p)) (known-left at _ top h.known.known).reaches (known-right at _ top h.known.known).reaches
    (equality_of k) (equal_at at p) (equality_of l) (equal_at at q) (equality_of o) (equal_at at top) (equal-same at p k (lefts below.0)) (equal-same at q l (rights below.1)) (equal-same at top o out)
    on (typed-both catalog top n c (join m on) p q refl h.typed).2 (own p) (own q) c.part (part-below at known p below.0) (part-below at known q below.1) (part-below at known top h.known)
both-part catalog known n c (semi_join matched on conditions) p q k l o h lefts rights out =
    let at = relation_at catalog in
    let op : Binary = semi_join matched on conditions in
    let top = binary n c op p q in
    let below = known-both at known n c op p q h.known in
    ap (λ w. kept_part w whole_rows (equality_of k) (equality_of l) (equality_of o) on (own p) (own q) c.part) out.wide
    ∙ kept-same (width at p) (width at q) (width at top) whole_rows (known-left at _ top h.known.known).reaches
    (equality_of k) (equal_at at p) (equality_of l) (equal_at at q) (equality_of o) (equal_at at top) (equal-same at p k (lefts below.0)) (equal-same at q l (rights below.1)) (equal-same at top o out)
    on (typed-both catalog top n c op p q refl h.typed).2 (own p) (own q) c.part (part-below at known p below.0) (part-below at known q below.1) (part-below at known top h.known)

pub sent-part : (catalog : List Relation) (known : KnownColumns) (n : ℕ) (c : Claim) (x : ExchangeKind) (m : List OrderEntry) (p : Plan) (k : ColumnFacts) → IsKnownTyped catalog known (exchange n c x m p)
    → (IsKnownOf (relation_at catalog) known p → AreFactsOf (relation_at catalog) p (facts_of k))
    → part_matches (equality_of k) (kind_part x) c.part ≡ part_derived (relation_at catalog) (exchange n c x m p) c.part
sent-part catalog known n c x m p k h facts =
    let at = relation_at catalog in
    let below = known-passed at known n c x m p h.known in
    matches-same (width at p) (equality_of k) (equal_at at p) (equal-same at p k (facts below)) (kind_part x) c.part (sent-named catalog n c x m p h.typed) (part-below at known (exchange n c x m p) h.known)
