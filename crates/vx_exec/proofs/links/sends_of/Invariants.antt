use Rattle.std.proofs.Common.{◌≡◌, ◌∷◌, ◌++◌, flat_map, drop}
use Rattle.vx_exec.specs.Links.{sends_in}
use Rattle.vx_exec.proofs.links.sends_of.Given as goal

abbrev pub invariant-loop-span : goal.invariant-loop-span
invariant-loop-span l = 0 ∷ flat_map sends_in l.spans ≡ l.sends.items ++ flat_map sends_in (drop l.span-index l.spans)
