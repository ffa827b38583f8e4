use Rattle.std.proofs.Common.{◌≡◌, ◌++◌, map, string_bytes, drop}
use Rattle.vx_plan_drawing.specs.Drawing.{with_marks}
use Rattle.vx_plan_drawing.proofs.marking.with_marks.Given as goal

abbrev pub invariant-loop-i : goal.invariant-loop-i
invariant-loop-i l = map string_bytes l.list.items ++ with_marks l.marked l.i (map string_bytes (drop l.i l.lines)) ≡ with_marks l.marked 0 (map string_bytes l.lines)
