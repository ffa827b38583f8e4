use Rattle.std.proofs.Common.{◌<◌, get_or, length}
use Rattle.std.proofs.lemmas.List.{get_or_default}
use Rattle.vx_plan_nodes.specs.declared.typed.Aggregate.TheVariants.{Least}
use Rattle.vx_plan.proofs.PhaseFacts.{merged_next}
use Rattle.vx_plan.proofs.phases.merged.Goals as goal

pub loop-i-preserved : goal.loop-i-preserved
loop-i-preserved c =
    let xs = c.args.aggregates.now in
    let here : c.loop-i.i < length xs = c.loop-i-test.true in
    let x = get_or xs c.loop-i.i (Least 0) in
    rw c.in_ok-push.ensures.items
    (merged_next c.loop-i.found.items c.merging.result c.args.count c.loop-i.i xs x here (get_or_default xs c.loop-i.i (Least 0) x here) c.loop-i.invariant c.merging.ensures)
