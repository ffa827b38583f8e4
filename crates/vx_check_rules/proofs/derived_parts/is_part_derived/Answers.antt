use Rattle.std.proofs.Common.{◌≡◌, ◌∙◌, ℕ, Bool, length, sym, ap, ap₂, subst}
use Rattle.vx_catalog_relations.specs.Relation.{Relation}
use Rattle.vx_catalog_relations.specs.Catalog.{relation_at}
use Rattle.vx_plan_nodes.specs.declared.typed.TypedNode.{TypedNode}
use Rattle.vx_plan_nodes.specs.Plan.{Part, Unary, Binary, ExchangeKind, claim}
use Rattle.vx_plan_nodes.specs.Outline.{top_of, unary_of, binary_of, kind_of, plan_of}
use Rattle.vx_plan_nodes.specs.Types.{width}
use Rattle.vx_plan_nodes.specs.Describe.{Copying, described, DescribedBoth, described_both}
use Rattle.vx_plan_nodes.specs.DescribeView.{copying_of, described_both_of}
use Rattle.vx_plan_facts.specs.declared.facts.ColumnFacts.{ColumnFacts}
use Rattle.vx_plan_facts.specs.FactsView.{width_of}
use Rattle.vx_check_rules.specs.Behaviour.{own}
use Rattle.vx_check_rules.specs.Derived.{part_matches, routed_as, part_derived}
use Rattle.vx_check_rules.specs.DerivedView.{equality_of, both_part}
use Rattle.vx_check_rules.specs.KnownNode.{IsKnownTyped}
use Rattle.vx_check_rules.specs.WayView.{part_seen, had_of}
use Rattle.vx_check_rules.proofs.WidthFacts.{types_of-width}
use Rattle.vx_check_rules.proofs.KnownParts.{FactsAt, unary-part, both-part, sent-part}
use Rattle.vx_check_rules.proofs.derived_parts.is_part_derived.Goals as goal

pub returns-in-Unary : goal.returns-in-Unary
returns-in-Unary c = λ catalog h given.
    let at : ℕ → Relation = relation_at catalog in
    let known = c.args.known.now in
    let top = top_of c.in-Unary.field-0 in
    let op : Unary = unary_of c.in-Unary.operator in
    let input : TypedNode = c.in-Unary.input.value in
    let k : ColumnFacts = c.facts_of.result.now in
    let o : ColumnFacts = c.facts_of-in-Unary.result.now in
    let is_known = subst (λ (t : TypedNode). IsKnownTyped catalog known (plan_of t)) c.in-Unary.is h in
    let facts : FactsAt at known k input = subst (FactsAt at known k) c.deref.ensures (c.facts_of.ensures at) in
    let out = subst (FactsAt at known o) c.in-Unary.is (c.facts_of-in-Unary.ensures at) is_known.known in
    let part : part_seen c.seen.result ≡ (claim (plan_of input)).part = c.seen.ensures ∙ (c.claimed_part-in-Unary.ensures ∙ ap (λ t. (claim (plan_of t)).part) c.deref-in-Unary.ensures) in
    let wanted : part_seen c.seen-wanted.result ≡ top.claim.part = c.seen-wanted.ensures ∙ (c.claimed_part.ensures ∙ ap (λ t. (claim (plan_of t)).part) c.in-Unary.is) in
    let copying : copying_of c.described.result.copying ≡ (described op).copying = ap (λ d. d.copying) c.described.ensures in
    c.is_routed_as.ensures
    ∙ ap (λ (y : Copying). routed_as (width_of o) y (equality_of k) (equality_of o) (part_seen c.seen.result) (part_seen c.seen-wanted.result)) copying
    ∙ ap₂ (λ q x. routed_as (width_of o) (described op).copying (equality_of k) (equality_of o) q x) part wanted
    ∙ unary-part catalog known top.number top.claim op (plan_of input) k o is_known facts out
    ∙ ap (λ t. part_derived at (plan_of t) (claim (plan_of t)).part) (sym c.in-Unary.is)

pub returns-in-Binary : goal.returns-in-Binary
returns-in-Binary c = λ catalog h given.
    let at : ℕ → Relation = relation_at catalog in
    let known = c.args.known.now in
    let top = top_of c.in-Binary.field-0 in
    let op : Binary = binary_of c.in-Binary.operator in
    let left : TypedNode = c.in-Binary.left.value in
    let right : TypedNode = c.in-Binary.right.value in
    let k : ColumnFacts = c.known_input.result.facts.now in
    let l : ColumnFacts = c.known_input-in-Binary.result.facts.now in
    let o : ColumnFacts = c.facts_of-in-Binary.result.now in
    let is_known = subst (λ (t : TypedNode). IsKnownTyped catalog known (plan_of t)) c.in-Binary.is h in
    let lefts : FactsAt at known k left = subst (FactsAt at known k) c.deref-in-Binary-2.ensures (c.known_input.ensures.facts at) in
    let rights : FactsAt at known l right = subst (FactsAt at known l) c.deref-in-Binary-3.ensures (c.known_input-in-Binary.ensures.facts at) in
    let out = subst (FactsAt at known o) c.in-Binary.is (c.facts_of-in-Binary.ensures at) is_known.known in
    let first : had_of c.known_input.result.had ≡ own (plan_of left) = c.known_input.ensures.had ∙ ap (λ t. own (plan_of t)) c.deref-in-Binary-2.ensures in
    let second : had_of c.known_input-in-Binary.result.had ≡ own (plan_of right) = c.known_input-in-Binary.ensures.had ∙ ap (λ t. own (plan_of t)) c.deref-in-Binary-3.ensures in
    let wanted : part_seen c.seen-wanted.result ≡ top.claim.part = c.seen-wanted.ensures ∙ (c.claimed_part.ensures ∙ ap (λ t. (claim (plan_of t)).part) c.in-Binary.is) in
    let has = rw c.in-Binary.is at given in
    let types = rw c.deref-in-Binary.ensures at (c.output_types.ensures at) in
    let wide : length c.output_types.result.now ≡ width at (plan_of left) = ap length (types has.1) ∙ types_of-width at (plan_of left) in
    let is : described_both_of c.described-in-Binary.result ≡ described_both (width at (plan_of left)) op = c.described-in-Binary.ensures ∙ ap (λ w. described_both w op) wide in
    let e = equality_of k in
    let f = equality_of l in
    let g = equality_of o in
    c.is_part_of_both.ensures
    ∙ ap (λ (d : DescribedBoth). both_part (width_of o) d.meeting d e f g (had_of c.known_input.result.had) (had_of c.known_input-in-Binary.result.had) (part_seen c.seen-wanted.result)) is
    ∙ ap₂ (λ (x y : Bool × Part). both_part (width_of o) (described_both (width at (plan_of left)) op).meeting (described_both (width at (plan_of left)) op) e f g x y (part_seen c.seen-wanted.result)) first second
    ∙ ap (both_part (width_of o) (described_both (width at (plan_of left)) op).meeting (described_both (width at (plan_of left)) op) e f g (own (plan_of left)) (own (plan_of right))) wanted
    ∙ both-part catalog known top.number top.claim op (plan_of left) (plan_of right) k l o is_known lefts rights out
    ∙ ap (λ t. part_derived at (plan_of t) (claim (plan_of t)).part) (sym c.in-Binary.is)

pub returns-in-Exchange : goal.returns-in-Exchange
returns-in-Exchange c = λ catalog h given.
    let at : ℕ → Relation = relation_at catalog in
    let known = c.args.known.now in
    let top = top_of c.in-Exchange.field-0 in
    let kind : ExchangeKind = kind_of c.in-Exchange.exchange.kind in
    let input : TypedNode = c.in-Exchange.input.value in
    let k : ColumnFacts = c.facts_of-in-Exchange.result.now in
    let is_known = subst (λ (t : TypedNode). IsKnownTyped catalog known (plan_of t)) c.in-Exchange.is h in
    let facts : FactsAt at known k input = subst (FactsAt at known k) c.deref-in-Exchange.ensures (c.facts_of-in-Exchange.ensures at) in
    let wanted : part_seen c.seen-wanted.result ≡ top.claim.part = c.seen-wanted.ensures ∙ (c.claimed_part.ensures ∙ ap (λ t. (claim (plan_of t)).part) c.in-Exchange.is) in
    c.is_same_equally.ensures ∙ ap₂ (λ q x. part_matches (equality_of k) q x) c.made.ensures wanted
    ∙ sent-part catalog known top.number top.claim kind c.in-Exchange.exchange.merge.items (plan_of input) k is_known facts ∙ ap (λ t. part_derived at (plan_of t) (claim (plan_of t)).part) (sym c.in-Exchange.is)
