use Rattle.std.proofs.Common.{map}
use Rattle.vx_plan_nodes.specs.Outline.{filter_of}
use Rattle.vx_plan_nodes.specs.Under.{filter_under}
use Rattle.vx_ops_computing.proofs.Parts.{select-fewer}
use Rattle.vx_ops.proofs.select.SelectionStepKernel.step.Goals as goal

pub returns-in-Ok-clause-fewer : goal.returns-in-Ok-clause-fewer
returns-in-Ok-clause-fewer g c =
    select-fewer (map (filter_under (g.F.PlanFunctions.functions c.args.self.now.functions)) (map filter_of c.as_slice.result.now)) c.args.batch.rows c.in-Ok.rows.rows c.in-Ok.ensures.rows
