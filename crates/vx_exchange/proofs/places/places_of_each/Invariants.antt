use Rattle.std.proofs.Common.{◌≡◌, ◌==◌, map, take}
use Rattle.vx_rows.specs.Lists.{each_below}
use Rattle.vx_rows_views.specs.Selected.{places_of}
use Rattle.vx_exchange.proofs.places.places_of_each.Given as goal

abbrev pub invariant-loop-i : goal.invariant-loop-i
invariant-loop-i l = map (λ p. p.items) l.places.items ≡ each_below l.n (λ j. places_of (λ k. k == j) (take l.i l.consumers))
