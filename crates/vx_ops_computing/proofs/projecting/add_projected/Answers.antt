use Rattle.std.proofs.Common.{◌≡◌, None, map}
use Rattle.vx_match_keys.proofs.ErrorFacts.{reported}
use Rattle.vx_rows_views.specs.Chunks.{all_rows}
use Rattle.vx_plan_nodes.specs.Plan.{project}
use Rattle.vx_plan_nodes.specs.Serial.{unary_rows}
use Rattle.vx_ops_computing.specs.Fault.{ComputeBlame}
use Rattle.vx_ops_computing.proofs.Blaming.{blames-as}
use Rattle.vx_ops_computing.proofs.ChunkFacts.{chunk-projects-none}
use Rattle.vx_ops_computing.specs.Given.{entry_by}
use Rattle.vx_ops_computing.proofs.projecting.add_projected.Goals as goal

pub returns-in_err-projected_chunk-clause-fault : goal.returns-in_err-projected_chunk-clause-fault
returns-in_err-projected_chunk-clause-fault g c =
    let ts = c.args.chunks.now in
    let t = c.index-chunks-i.result in
    let made = map (entry_by (g.F.PlanFunctions.functions c.args.functions.now)) c.args.entries.now in
    let e = c.in_err-projected_chunk.field-0.0 in
    reported c.from_residual.result e (ComputeBlame (unary_rows (project made) (all_rows ts))) c.from_residual.ensures.1
    (blames-as (unary_rows (project made) t.rows ≡ None) (unary_rows (project made) (all_rows ts) ≡ None) e (chunk-projects-none made ts c.loop-i.i t c.loop-i-test.true c.index-chunks-i.is) c.in_err-projected_chunk.ensures.fault)
