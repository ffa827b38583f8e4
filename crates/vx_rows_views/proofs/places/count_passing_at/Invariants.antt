use Rattle.std.proofs.Common.{◌≡◌, ◌≤◌, length, take, get_or, map, pos}
use Rattle.vx_rows_views.specs.Selected.{places_of}
use Rattle.vx_rows_views.proofs.places.count_passing_at.Given as goal

abbrev pub invariant-loop-i : goal.invariant-loop-i
invariant-loop-i g l =
    (l.count ≡ length (places_of (λ p. g.T.NumberTest.says l.test (get_or (map (λ n. g.N.Number.value n) l.numbers) (g.P.Position.place p) (pos 0))) (take l.i l.positions)))
    × (l.count ≤ l.i)
