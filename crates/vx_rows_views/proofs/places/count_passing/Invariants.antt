use Rattle.std.proofs.Common.{◌≡◌, ◌≤◌, length, take}
use Rattle.vx_rows_views.specs.Selected.{places_of}
use Rattle.vx_rows_views.proofs.places.count_passing.Given as goal

abbrev pub invariant-loop-i : goal.invariant-loop-i
invariant-loop-i g l = (l.count ≡ length (places_of (λ n. g.T.NumberTest.says l.test (g.N.Number.value n)) (take l.i l.numbers))) × (l.count ≤ l.i)
