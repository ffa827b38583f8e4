use Rattle.std.proofs.Common.{◌∙◌, sym, ap}
use Rattle.std.specs.Ordering.{ordering_reverse}
use Rattle.vx_plan_nodes.proofs.HalfFacts.{longer-fronts, longer-backs}
use Rattle.vx_plan_nodes.proofs.halves.compare_longer.Goals as goal

pub returns-then-is_ne : goal.returns-then-is_ne
returns-then-is_ne c = longer-fronts c.args.front.now c.split_at.result.0.now c.split_at.result.1.now c.args.back.now c.args.other_front.now c.args.other_back.now _ c.split_at.ensures.by_index.0 c.split_at.ensures.front_len c.cmp-order.ensures (sym c.is_ne.ensures ∙ c.if-is_ne.true)

pub returns : goal.returns
returns c =
    c.reverse.ensures
    ∙ (ap ordering_reverse c.compare_with_halves.ensures
    ∙ longer-backs c.args.front.now c.split_at.result.0.now c.split_at.result.1.now c.args.back.now c.args.other_front.now c.args.other_back.now _ c.split_at.ensures.by_index.0 c.split_at.ensures.front_len c.cmp-order.ensures (sym c.is_ne.ensures ∙ c.if-is_ne.false))
