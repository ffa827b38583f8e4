use Rattle.std.proofs.Common.{◌≡◌, take}
use Rattle.vx_catalog.proofs.key_numbers.widen.Given as goal

abbrev pub invariant-loop-i : goal.invariant-loop-i
invariant-loop-i l = take l.i l.numbers ≡ take l.i l.narrow
