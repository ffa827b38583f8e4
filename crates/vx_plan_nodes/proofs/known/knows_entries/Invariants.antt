use Rattle.std.proofs.Common.{◌≡◌, true, take}
use Rattle.std.specs.List.{list_all}
use Rattle.vx_plan_nodes.specs.Known.{entry_known}
use Rattle.vx_plan_nodes.specs.Outline.{entry_of}
use Rattle.vx_plan_nodes.specs.Under.{entry_under}
use Rattle.vx_plan_nodes.proofs.known.knows_entries.Given as goal

abbrev pub invariant-loop-entry : goal.invariant-loop-entry
invariant-loop-entry g l = list_all (λ x. entry_known l.types (entry_under (g.F.PlanFunctions.functions l.functions) (entry_of x))) (take l.entry-index l.entries) ≡ true
