use Rattle.std.proofs.Common.{◌≡◌, ◌+◌, take, map, length}
use Rattle.vx_rows_views.proofs.positions.move_to.Given as goal

abbrev pub invariant-loop-i : goal.invariant-loop-i
invariant-loop-i l = record {
  len : length l.positions ≡ length l.fn.positions;
  positions : take l.i l.positions ≡ map (λ i. l.from + i) (take l.i l.places);
}
