use Rattle.std.proofs.Common.{◌≡◌, None, map}
use Rattle.vx_match_keys.proofs.ErrorFacts.{reported}
use Rattle.vx_rows_views.specs.Chunks.{all_rows}
use Rattle.vx_plan_nodes.specs.Plan.{select}
use Rattle.vx_plan_nodes.specs.Serial.{unary_rows}
use Rattle.vx_ops_computing.specs.Fault.{ComputeBlame}
use Rattle.vx_ops_computing.proofs.Blaming.{blames-as}
use Rattle.vx_ops_computing.proofs.ChunkFacts.{chunk-selects-none}
use Rattle.vx_ops_computing.specs.Given.{filter_by}
use Rattle.vx_ops_computing.proofs.filtering.add_filtered.Goals as goal

pub returns-in_err-filtered_chunk-clause-fault : goal.returns-in_err-filtered_chunk-clause-fault
returns-in_err-filtered_chunk-clause-fault g c =
    let ts = c.args.chunks.now in
    let t = c.index-chunks-i.result in
    let made = map (filter_by (g.F.PlanFunctions.functions c.args.functions.now)) c.args.filters.now in
    let e = c.in_err-filtered_chunk.field-0.0 in
    reported c.from_residual.result e (ComputeBlame (unary_rows (select made) (all_rows ts))) c.from_residual.ensures.1
    (blames-as (unary_rows (select made) t.rows ≡ None) (unary_rows (select made) (all_rows ts) ≡ None) e (chunk-selects-none made ts c.loop-i.i t c.loop-i-test.true c.index-chunks-i.is) c.in_err-filtered_chunk.ensures.fault)
