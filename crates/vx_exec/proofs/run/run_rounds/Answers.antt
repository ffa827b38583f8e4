use Rattle.std.proofs.Common.{◌≤◌, IfOk, refl, ap, subst, inl}
use Rattle.vx_exec_layout.specs.Needed.{rounds_needed}
use Rattle.vx_exec_setup.specs.Counts.{counts_in}
use Rattle.vx_exec_runs.specs.Promise.{NothingElse}
use Rattle.vx_exec_runs.specs.Runs.{IsWhole}
use Rattle.vx_exec.specs.Runs.{InRounds, CountedInRounds}
use Rattle.vx_exec.proofs.Outcomes.{made-of, NoJobOf, where-set, nothing-ran, promise-kept, promise-refused}
use Rattle.vx_exec.proofs.run.run_rounds.Goals as goal

pub returns : goal.returns
returns g c =
    let hash = g.R.Router.route_of c.args.router.now in
    let given = g.F.PlanFunctions in
    let made = made-of {given = given} c.in_ok-job.job (ap given.functions c.in_ok-job.ensures.functions) c.plan.ensures.same c.in_ok-job.ensures.plan c.in_ok-job.ensures.database c.in_ok-job.ensures.set in
    let r = c.run_job.result in
    record {
      promise = promise-kept hash NothingElse r made c.run_job.ensures.run;
      rounds = where-set hash (λ W q. InRounds given hash W q c.args.limit r) made c.run_job.ensures.rounds;
      counted = λ wanted. where-set hash (λ W q. CountedInRounds given hash W q c.args.limit r (counts_in c.run_job.new.counts)) made (c.run_job.ensures.counted wanted);
      ends = where-set hash (λ W q. rounds_needed W.db W.sizes q ≤ c.args.limit → IfOk r IsWhole) made c.run_job.ensures.ends;
    }

pub returns-in_err-job : goal.returns-in_err-job
returns-in_err-job g c =
    let hash = g.R.Router.route_of c.args.router.now in
    let e = c.in_err-job.field-0.0 in
    let given = g.F.PlanFunctions in
    let none = subst (λ z. NoJobOf (given.functions c.args.functions.now) z c.args.database.now c.args.setup.now e) c.plan.ensures.same (record { refused = c.in_err-job.ensures.refused; memory = c.in_err-job.ensures.memory }) in
    let r = c.from_residual.result in
    let handed = c.from_residual.ensures.1 in
    record {
      promise = promise-refused hash NothingElse r e handed none;
      rounds = nothing-ran hash (λ W q z. InRounds given hash W q c.args.limit z) r e handed none (λ W q. inl refl);
      counted = λ wanted. nothing-ran hash (λ W q z. CountedInRounds given hash W q c.args.limit z (counts_in c.args.counts.now)) r e handed none (λ W q. inl refl);
      ends = nothing-ran hash (λ W q z. rounds_needed W.db W.sizes q ≤ c.args.limit → IfOk z IsWhole) r e handed none (λ W q few. tt);
    }
