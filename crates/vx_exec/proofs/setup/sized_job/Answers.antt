use Rattle.std.proofs.Common.{◌≡◌, rules}
use Rattle.vx_plan_nodes.specs.TypedView.{scope}
use Rattle.vx_exec.specs.Job.{sizes_of}
use Rattle.vx_exec.proofs.FunctionFacts.{fails-under}
use Rattle.vx_exec.proofs.setup.sized_job.Goals as goal

pub returns-clause-refused : goal.returns-clause-refused
returns-clause-refused g c =
    let p = c.args.plan.now in
    let db = c.args.database.now in
    let same : db.catalog ≡ (scope p).catalog = search rules in
    fails-under (g.F.PlanFunctions.functions c.args.functions) p db c.args.setup.now sizes_of c.job_in.result same c.job_in.ensures.gives
