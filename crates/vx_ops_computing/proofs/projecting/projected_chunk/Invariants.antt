use Rattle.std.proofs.Common.{map, take}
use Rattle.vx_ops_computing.specs.Projecting.{IsProjecting}
use Rattle.vx_ops_computing.specs.Given.{entry_by}
use Rattle.vx_ops_computing.proofs.projecting.projected_chunk.Given as goal

abbrev pub invariant-loop-entry : goal.invariant-loop-entry
invariant-loop-entry g l = IsProjecting l.chunk.types l.chunk.rows (map (entry_by (g.F.PlanFunctions.functions l.functions)) (take l.entry-index l.entries)) l.wide l.columns.items
