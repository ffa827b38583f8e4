use Rattle.std.proofs.Common.{◌≡◌, ◌∙◌, ℕ, Bool, length, option_map, sym, ap, ap₂, subst}
use Rattle.vx_catalog_relations.specs.Relation.{Relation}
use Rattle.vx_catalog_relations.specs.Catalog.{relation_at}
use Rattle.vx_plan_nodes.specs.declared.typed.TypedNode.{TypedNode}
use Rattle.vx_plan_nodes.specs.Plan.{Part, Unary, Binary, claim}
use Rattle.vx_plan_nodes.specs.Outline.{top_of, unary_of, binary_of, plan_of}
use Rattle.vx_plan_nodes.specs.Describe.{described, described_both}
use Rattle.vx_plan_nodes.specs.DescribeView.{kept_columns, meeting_of}
use Rattle.vx_plan_facts.specs.declared.facts.ColumnFacts.{ColumnFacts}
use Rattle.vx_check_rules.specs.Behaviour.{own}
use Rattle.vx_check_rules.specs.DerivedView.{equality_of, meet_equally, meet_both_equally, meets_derived}
use Rattle.vx_check_rules.specs.KnownNode.{IsKnownTyped}
use Rattle.vx_check_rules.specs.WayView.{part_seen, had_of}
use Rattle.vx_check_rules.proofs.KnownParts.{FactsAt, unary-meets, both-meet}
use Rattle.vx_check_rules.proofs.derived_parts.do_rows_meet.Goals as goal

pub returns-in-Unary : goal.returns-in-Unary
returns-in-Unary c = λ catalog h.
    let at : ℕ → Relation = relation_at catalog in
    let known = c.args.known.now in
    let top = top_of c.in-Unary.field-0 in
    let op : Unary = unary_of c.in-Unary.operator in
    let input : TypedNode = c.in-Unary.input.value in
    let k : ColumnFacts = c.facts_of.result.now in
    let is_known = subst (λ (t : TypedNode). IsKnownTyped catalog known (plan_of t)) c.in-Unary.is h in
    let facts : FactsAt at known k input = subst (FactsAt at known k) c.deref.ensures (c.facts_of.ensures at) in
    let part : part_seen c.seen.result ≡ (claim (plan_of input)).part = c.seen.ensures ∙ (c.claimed_part.ensures ∙ ap (λ t. (claim (plan_of t)).part) c.deref-in-Unary.ensures) in
    let meets : option_map kept_columns c.described.result.meets ≡ (described op).meets = ap (λ d. d.meets) c.described.ensures in
    c.do_meet_equally.ensures ∙ ap₂ (λ m q. meet_equally (equality_of k) m q) meets part ∙ unary-meets catalog known top.number top.claim op (plan_of input) k is_known facts
    ∙ ap (λ t. meets_derived at (plan_of t)) (sym c.in-Unary.is)

pub returns-in-Binary : goal.returns-in-Binary
returns-in-Binary c = λ catalog h.
    let at : ℕ → Relation = relation_at catalog in
    let known = c.args.known.now in
    let top = top_of c.in-Binary.field-0 in
    let op : Binary = binary_of c.in-Binary.operator in
    let left : TypedNode = c.in-Binary.left.value in
    let right : TypedNode = c.in-Binary.right.value in
    let k : ColumnFacts = c.known_input.result.facts.now in
    let l : ColumnFacts = c.known_input-in-Binary.result.facts.now in
    let v : ℕ = length c.output_types.result.now in
    let is_known = subst (λ (t : TypedNode). IsKnownTyped catalog known (plan_of t)) c.in-Binary.is h in
    let lefts : FactsAt at known k left = subst (FactsAt at known k) c.deref-in-Binary-2.ensures (c.known_input.ensures.facts at) in
    let rights : FactsAt at known l right = subst (FactsAt at known l) c.deref-in-Binary-3.ensures (c.known_input-in-Binary.ensures.facts at) in
    let first : had_of c.known_input.result.had ≡ own (plan_of left) = c.known_input.ensures.had ∙ ap (λ t. own (plan_of t)) c.deref-in-Binary-2.ensures in
    let second : had_of c.known_input-in-Binary.result.had ≡ own (plan_of right) = c.known_input-in-Binary.ensures.had ∙ ap (λ t. own (plan_of t)) c.deref-in-Binary-3.ensures in
    let meeting : meeting_of c.described-in-Binary.result.meeting ≡ (described_both v op).meeting = ap (λ d. d.meeting) c.described-in-Binary.ensures in
    c.do_both_meet.ensures ∙ ap (λ o. meet_both_equally (equality_of k) (equality_of l) o (had_of c.known_input.result.had).1 (had_of c.known_input-in-Binary.result.had).1) meeting
    ∙ ap₂ (λ (x y : Bool × Part). meet_both_equally (equality_of k) (equality_of l) (described_both v op).meeting x.1 y.1) first second
    ∙ both-meet catalog known top.number top.claim op (plan_of left) (plan_of right) k l v is_known lefts rights ∙ ap (λ t. meets_derived at (plan_of t)) (sym c.in-Binary.is)
