use Rattle.std.proofs.Common.{get_or}
use Rattle.vx_plan_facts.proofs.ValueLists.{map-more}
use Rattle.vx_plan_facts.proofs.carrying.both_labels.Goals as goal

pub loop-column-preserved : goal.loop-column-preserved
loop-column-preserved c = map-more (λ d. (get_or c.args.firsts.now d 0, get_or c.args.others.now d 0)) c.loop-column.column _ _ c.loop-column.invariant c.in_ok-push.ensures.items
