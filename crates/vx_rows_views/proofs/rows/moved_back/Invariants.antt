use Rattle.std.proofs.Common.{◌≡◌, ◌-◌, map, take}
use Rattle.vx_rows_views.proofs.rows.moved_back.Given as goal

abbrev pub invariant-loop-i : goal.invariant-loop-i
invariant-loop-i l = l.found.items ≡ map (λ i. i - l.start) (take l.i l.places)
