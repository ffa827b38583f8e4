use Rattle.std.proofs.Common.{◌≡◌, take, length}
use Rattle.vx_rows_views.proofs.positions.widen.Given as goal

abbrev pub invariant-loop-i : goal.invariant-loop-i
invariant-loop-i l = record {
  len : length l.positions ≡ length l.fn.positions;
  positions : take l.i l.positions ≡ take l.i l.narrow;
}
