use Rattle.std.proofs.Common.{◌≡◌, [], ◌∷◌, ◌++◌, flat_map, drop}
use Rattle.vx_exec.specs.Links.{queues_in}
use Rattle.vx_exec.proofs.links.ports_of.Given as goal

abbrev pub invariant-loop-span : goal.invariant-loop-span
invariant-loop-span l = [] ∷ flat_map queues_in l.spans ≡ l.ports.items ++ flat_map queues_in (drop l.span-index l.spans)
