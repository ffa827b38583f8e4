use Rattle.std.proofs.Common.{◌≡◌, ◌++◌, map, take, drop, get_or}
use Rattle.vx_rows_views.proofs.positions.look_up.Given as goal

abbrev pub invariant-loop-i : goal.invariant-loop-i
invariant-loop-i l = l.places ≡ map (λ i. get_or l.fn.listed i 0) (take l.i l.fn.places) ++ drop l.i l.fn.places
