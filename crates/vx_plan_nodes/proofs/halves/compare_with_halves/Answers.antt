use Rattle.std.proofs.Common.{◌∙◌, sym}
use Rattle.vx_plan_nodes.proofs.HalfFacts.{fronts-decide, backs-decide, short-order}
use Rattle.vx_plan_nodes.proofs.halves.compare_with_halves.Goals as goal

pub returns-then-text-front : goal.returns-then-text-front
returns-then-text-front c = c.cmp.ensures ∙ sym (short-order c.args.text.now c.args.front.now c.args.back.now c.if-text-front.true)

pub returns-then-is_ne : goal.returns-then-is_ne
returns-then-is_ne c = fronts-decide c.args.text.now c.split_at.result.0.now c.split_at.result.1.now c.args.front.now c.args.back.now _ c.split_at.ensures.by_index.0 c.split_at.ensures.front_len c.cmp-order.ensures (sym c.is_ne.ensures ∙ c.if-is_ne.true)

pub returns : goal.returns
returns c = c.cmp-2.ensures ∙ backs-decide c.args.text.now c.split_at.result.0.now c.split_at.result.1.now c.args.front.now c.args.back.now _ c.split_at.ensures.by_index.0 c.split_at.ensures.front_len c.cmp-order.ensures (sym c.is_ne.ensures ∙ c.if-is_ne.false)
