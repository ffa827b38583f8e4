use Rattle.std.proofs.Common.{◌≡◌, get_or, take, map, length}
use Rattle.vx_rows_views.proofs.positions.look_up_narrow.Given as goal

abbrev pub invariant-loop-i : goal.invariant-loop-i
invariant-loop-i l = record {
  len : length l.positions ≡ length l.fn.positions;
  positions : take l.i l.positions ≡ map (λ i. get_or l.listed i 0) (take l.i l.places);
}
