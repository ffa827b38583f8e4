use Rattle.std.proofs.Common.{◌∙◌, sym}
use Rattle.vx_plan_nodes.proofs.HalfFacts.{backs-equal, fronts-apart}
use Rattle.vx_plan_nodes.proofs.halves.is_text_of.Goals as goal

pub returns-then-eq : goal.returns-then-eq
returns-then-eq c = backs-equal c.args.text.now c.split_at.result.0.now c.split_at.result.1.now c.args.front.now c.args.back.now _ c.split_at.ensures.by_index.0 c.split_at.ensures.front_len (sym c.if-eq.true ∙ c.eq.ensures) c.eq-then-eq.ensures

pub returns-else-eq : goal.returns-else-eq
returns-else-eq c = fronts-apart c.args.text.now c.split_at.result.0.now c.split_at.result.1.now c.args.front.now c.args.back.now _ c.split_at.ensures.by_index.0 c.split_at.ensures.front_len c.eq.ensures c.if-eq.false
