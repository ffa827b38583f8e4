use Rattle.std.proofs.Common.{◌≡◌, ◌++◌, take}
use Rattle.vx_rows.specs.Numbers.{numbers_at}
use Rattle.vx_rows.proofs.numbers.push_widened_at.Given as goal

abbrev pub invariant-loop-i : goal.invariant-loop-i
invariant-loop-i l = l.wide.items ≡ l.initial.wide.items ++ numbers_at l.numbers (take l.i-index l.positions)
