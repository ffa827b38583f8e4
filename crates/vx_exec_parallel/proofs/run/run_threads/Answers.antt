use Rattle.std.proofs.Common.{refl, ap, subst, inl, inr, rules}
use Rattle.vx_plan_nodes.specs.Workers.{crew_size}
use Rattle.vx_exec_setup.specs.Counts.{counts_in}
use Rattle.vx_exec.proofs.Outcomes.{made-of, NoJobOf, where-set, nothing-ran, promise-kept, promise-refused}
use Rattle.vx_exec_runs.specs.Promise.{NoThreadStarted}
use Rattle.vx_exec_parallel.specs.Parallel.{NeedsFew, RanByThreads, CountedByThreads}
use Rattle.vx_exec_parallel.proofs.run.run_threads.Goals as goal

pub returns : goal.returns
returns g c =
    let given = g.F.PlanFunctions in
    let hash = g.R.Router.route_of c.args.threading.now.router.now in
    let made = made-of {given = given} c.in_ok-job.job (ap given.functions c.in_ok-job.ensures.functions) c.plan.ensures.same c.in_ok-job.ensures.plan c.in_ok-job.ensures.database c.in_ok-job.ensures.set in
    let r = c.run_job.result in
    record {
      promise = promise-kept hash NoThreadStarted r made c.run_job.ensures.run;
      whole = c.run_job.ensures.whole;
      few = where-set hash (λ W q. NeedsFew c.args.threading.now.most (crew_size W.sizes q) r) made c.run_job.ensures.few;
      joined = where-set hash (λ W q. RanByThreads given hash W q r) made c.run_job.ensures.joined;
      counted = λ wanted. where-set hash (λ W q. CountedByThreads given hash W q r (counts_in c.run_job.new.counts)) made (c.run_job.ensures.counted wanted);
    }

pub returns-in_err-job : goal.returns-in_err-job
returns-in_err-job g c =
    let given = g.F.PlanFunctions in
    let hash = g.R.Router.route_of c.args.threading.now.router.now in
    let e = c.in_err-job.field-0.0 in
    let none = subst (λ z. NoJobOf (given.functions c.args.functions.now) z c.args.database.now c.args.setup.now e) c.plan.ensures.same (record { refused = c.in_err-job.ensures.refused; memory = c.in_err-job.ensures.memory }) in
    let r = c.from_residual.result in
    let handed = c.from_residual.ensures.1 in
    record {
      promise = promise-refused hash NoThreadStarted r e handed none;
      whole = search rules;
      few = nothing-ran hash (λ W q z. NeedsFew c.args.threading.now.most (crew_size W.sizes q) z) r e handed none (λ W q few. inr refl);
      joined = nothing-ran hash (λ W q z. RanByThreads given hash W q z) r e handed none (λ W q. inl refl);
      counted = λ wanted. nothing-ran hash (λ W q z. CountedByThreads given hash W q z (counts_in c.args.counts.now)) r e handed none (λ W q. inl refl);
    }
