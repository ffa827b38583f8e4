use Rattle.std.proofs.Common.{ap, ◌∙◌, is_le}
use Rattle.vx_match_keys.proofs.RiseFacts.{at-most-next}
use Rattle.vx_match_keys.proofs.rising.are_at_most.Goals as goal

pub loop-i-preserved : goal.loop-i-preserved
loop-i-preserved c = at-most-next c.args.lower.now c.args.upper.now c.loop-i.i c.loop-i.all c.is_le-all.result (c.is_le-all.ensures ∙ ap is_le c.cmp.ensures) c.loop-i.invariant
