use Rattle.std.proofs.Common.{◌≡◌, map, take}
use Rattle.vx_plan_nodes.specs.Outline.{entry_of}
use Rattle.vx_plan_nodes.specs.Types.{entry_type}
use Rattle.vx_ops_computing.proofs.projecting.entry_types.Given as goal

abbrev pub invariant-loop-entry : goal.invariant-loop-entry
invariant-loop-entry l = l.found.items ≡ map (entry_type l.types) (map entry_of (take l.entry-index l.entries))
