use Rattle.std.proofs.Common.{◌≡◌, ◌+◌, ◌++◌, map, take, drop}
use Rattle.vx_rows_views.proofs.positions.move_by.Given as goal

abbrev pub invariant-loop-i : goal.invariant-loop-i
invariant-loop-i l = l.places ≡ map (λ i. l.from + i) (take l.i l.fn.places) ++ drop l.i l.fn.places
