use Rattle.std.proofs.Common.{◌≡◌, take, length}
use Rattle.vx_match_keys.proofs.columns.widen.Given as goal

abbrev pub invariant-loop-i : goal.invariant-loop-i
invariant-loop-i l = record {
  len : length l.numbers ≡ length l.fn.numbers;
  numbers : take l.i l.numbers ≡ take l.i l.narrow;
}
