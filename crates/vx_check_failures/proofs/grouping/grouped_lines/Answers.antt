use Rattle.std.proofs.Common.{arith}
use Rattle.std.proofs.lemmas.Grind.{common_steps}
use Rattle.vx_check_failures.proofs.grouping.grouped_lines.Goals as goal

pub loop-place-preserved : goal.loop-place-preserved
loop-place-preserved c =
    let put = c.in_ok-push_group.ensures.text in
    let before = c.loop-place.invariant.lines in
    record { table = c.in_ok-push_group.ensures.table; lines = grind (arith, common_steps, put, before) }
