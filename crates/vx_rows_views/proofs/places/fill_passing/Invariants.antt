use Rattle.std.proofs.Common.{◌≡◌, ◌≤◌, ◌-◌, length, take}
use Rattle.vx_rows_views.specs.Selected.{places_of}
use Rattle.vx_rows_views.proofs.places.fill_passing.Given as goal

abbrev pub invariant-loop-found : goal.invariant-loop-found
invariant-loop-found g l =
    (l.found ≡ length (places_of (λ n. g.T.NumberTest.says l.test (g.N.Number.value n)) (take l.i l.numbers)))
    × (l.i ≤ length l.numbers)
    × (take l.found l.places ≡ places_of (λ n. g.T.NumberTest.says l.test (g.N.Number.value n)) (take l.i l.numbers))
    × (length l.places ≡ length (places_of (λ n. g.T.NumberTest.says l.test (g.N.Number.value n)) l.numbers))

abbrev pub decreases-loop-found : goal.decreases-loop-found
decreases-loop-found g l = length l.numbers - l.i
