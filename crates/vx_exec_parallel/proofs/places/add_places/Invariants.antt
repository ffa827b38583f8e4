use Rattle.std.proofs.Common.{◌≡◌, ◌++◌, map}
use Rattle.vx_rows.specs.Lists.{each_below}
use Rattle.vx_exec_parallel.specs.Places.{place_in}
use Rattle.vx_exec_parallel.proofs.places.add_places.Given as goal

abbrev pub invariant-loop-place : goal.invariant-loop-place
invariant-loop-place l = map place_in l.places.items ≡ map place_in l.initial.places.items ++ each_below l.place (λ i. (l.fragment, i))
