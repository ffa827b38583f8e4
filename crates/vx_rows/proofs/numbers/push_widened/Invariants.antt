use Rattle.std.proofs.Common.{◌≡◌, ◌++◌, take}
use Rattle.vx_rows.proofs.numbers.push_widened.Given as goal

abbrev pub invariant-loop-n : goal.invariant-loop-n
invariant-loop-n l = l.wide.items ≡ l.initial.wide.items ++ take l.n-index l.numbers
