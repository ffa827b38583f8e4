use Rattle.std.proofs.Common.{◌≡◌}
use Rattle.vx_plan_nodes.specs.TypedView.{resolved_of}
use Rattle.vx_plan_nodes.specs.Under.{typed_plan_under}
use Rattle.vx_exec_runs.specs.Runs.{RunFails}
use Rattle.vx_exec.specs.Job.{sizes_of}
use Rattle.vx_exec_runs.proofs.UnderFacts.{setup-stays}
use Rattle.vx_exec_setup.specs.declared.fault.RunFault.TheVariants as fault
use Rattle.vx_exec.proofs.FunctionFacts.{has-sizes}
use Rattle.vx_exec.proofs.Outcomes.{refused-by, not-known}
use Rattle.vx_exec.proofs.setup.job_of.Goals as goal

pub returns-in_err-test_functions-clause-refused : goal.returns-in_err-test_functions-clause-refused
returns-in_err-test_functions-clause-refused g c =
    let p = c.args.plan.now in
    let functions = g.F.PlanFunctions.functions c.args.functions in
    let e = c.in_err-test_functions.field-0.0 in
    refused-by (RunFails (typed_plan_under functions (resolved_of p)) c.args.database.now c.args.setup.now) c.from_residual-in_err-test_functions.result e c.from_residual-in_err-test_functions.ensures.1
    (not-known functions p c.args.database.now c.args.setup.now (sizes_of c.in_ok-job.job) e c.in_ok-job.ensures.sized c.in_err-test_functions.ensures.unknown).refused

pub returns-in_err-job-clause-memory : goal.returns-in_err-job-clause-memory
returns-in_err-job-clause-memory g c = λ s set.
    let functions = g.F.PlanFunctions.functions c.args.functions in
    refused-by (λ e. e ≡ fault.NoMemory) c.from_residual.result c.in_err-job.field-0.0 c.from_residual.ensures.1
    (c.in_err-job.ensures.memory s (has-sizes functions (resolved_of c.args.plan.now) c.args.database.now c.args.setup.now s set))

pub returns-clause-set : goal.returns-clause-set
returns-clause-set g c =
    let functions = g.F.PlanFunctions.functions c.args.functions in
    let set = setup-stays.set functions (resolved_of c.args.plan.now) c.args.database.now c.args.setup.now (sizes_of c.in_ok-job.job) c.in_ok-job.ensures.sized in
    record { same = set.same; sizes = set.sizes; known = c.in_ok-test_functions.ensures.known }
