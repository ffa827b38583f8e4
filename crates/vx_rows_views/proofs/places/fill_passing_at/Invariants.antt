use Rattle.std.proofs.Common.{◌≡◌, ◌≤◌, ◌-◌, length, take, get_or, map, pos}
use Rattle.vx_rows_views.specs.Selected.{places_of}
use Rattle.vx_rows_views.proofs.places.fill_passing_at.Given as goal

abbrev pub invariant-loop-found : goal.invariant-loop-found
invariant-loop-found g l =
    (l.found ≡ length (places_of (λ p. g.T.NumberTest.says l.test (get_or (map (λ n. g.N.Number.value n) l.numbers) (g.P.Position.place p) (pos 0))) (take l.i l.positions)))
    × (l.i ≤ length l.positions)
    × (take l.found l.places ≡ places_of (λ p. g.T.NumberTest.says l.test (get_or (map (λ n. g.N.Number.value n) l.numbers) (g.P.Position.place p) (pos 0))) (take l.i l.positions))
    × (length l.places ≡ length (places_of (λ p. g.T.NumberTest.says l.test (get_or (map (λ n. g.N.Number.value n) l.numbers) (g.P.Position.place p) (pos 0))) l.positions))

abbrev pub decreases-loop-found : goal.decreases-loop-found
decreases-loop-found g l = length l.positions - l.i
