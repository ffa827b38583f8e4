use Rattle.std.proofs.Common.{◌≡◌, ◌++◌, map, drop}
use Rattle.vx_exec_parallel.specs.Fragments.{places_from}
use Rattle.vx_exec_parallel.specs.Places.{place_in}
use Rattle.vx_exec_parallel.proofs.places.places_of.Given as goal

abbrev pub invariant-loop-fragment : goal.invariant-loop-fragment
invariant-loop-fragment l = map place_in l.places.items ++ places_from l.fragment (drop l.fragment l.fragments.items) ≡ places_from 0 l.fragments.items
