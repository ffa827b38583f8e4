use Rattle.std.proofs.Common.{◌≡◌, ◌∷◌, ◌++◌, flat_map, drop}
use Rattle.vx_exec_parallel.specs.Fragments.{fragment_in}
use Rattle.vx_exec_parallel.proofs.places.fragments_of.Given as goal

abbrev pub invariant-loop-span : goal.invariant-loop-span
invariant-loop-span l = 1 ∷ flat_map fragment_in l.spans ≡ l.fragments.items ++ flat_map fragment_in (drop l.span-index l.spans)
