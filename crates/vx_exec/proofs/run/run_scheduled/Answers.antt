use Rattle.std.proofs.Common.{◌≡◌, ◌<◌, Result, Err, None, IfOk, refl, sym, ap, ◌∙◌, subst, inl, inr}
use Rattle.std.specs.List.{All}
use Rattle.vx_exec_layout.specs.Needed.{rounds_needed}
use Rattle.vx_plan_nodes.specs.TypedView.{plan as whole_plan, resolved_of}
use Rattle.vx_plan_nodes.specs.Under.{typed_plan_under}
use Rattle.vx_plan_nodes.specs.Workers.{crew_size, worker_group_at}
use Rattle.vx_plan_nodes.proofs.UnderFacts.{nodes-stay}
use Rattle.vx_check_rules.specs.CheckedView.{typed_plan}
use Rattle.vx_exec_runs.specs.Promise.{NothingElse}
use Rattle.vx_exec_runs.specs.Runs.{IsWhole, unknown_in}
use Rattle.vx_exec_runs.specs.declared.outcome.RunOutcome.{RunOutcome}
use Rattle.vx_exec_setup.specs.declared.fault.RunFault.{RunFault}
use Rattle.vx_exec_setup.specs.declared.fault.RunFault.TheVariants as fault
use Rattle.vx_exec_steps.specs.Schedules.{HoldsRounds, IsBadStep}
use Rattle.vx_exec.specs.Job.{model_of, sizes_of}
use Rattle.vx_exec.specs.Runs.{Scheduled, NamesFirst}
use Rattle.vx_exec.specs.Setup.{IsUnknownFault}
use Rattle.vx_exec.proofs.FunctionFacts.{has-sizes}
use Rattle.vx_exec.proofs.Outcomes.{sized-of, job-known, NoSizedJobOf, not-sized, not-known, where-sized, where-set, nothing-sized, nothing-ran, names-reported, promise-kept, promise-refused}
use Rattle.vx_exec.proofs.run.run_scheduled.Goals as goal

pub returns-in_err-job : goal.returns-in_err-job
returns-in_err-job g c =
    let given = g.F.PlanFunctions in
    let functions = given.functions c.args.functions.now in
    let hash = g.R.Router.route_of c.args.router.now in
    let steps = c.args.steps.now in
    let e = c.in_err-job.field-0.0 in
    let none = subst (λ z. NoSizedJobOf functions z c.args.database.now c.args.setup.now e) c.plan.ensures.same (record { refused = c.in_err-job.ensures.refused; memory = c.in_err-job.ensures.memory }) in
    let r = c.from_residual.result in
    let handed = c.from_residual.ensures.1 in
    record {
      promise = inr (promise-refused hash NothingElse r e handed (not-sized none));
      named = nothing-sized hash (λ W q z. NamesFirst steps W q z) r e handed none (λ W q. inl refl);
      scheduled = nothing-ran hash (λ W q z. Scheduled given hash W q steps z) r e handed (not-sized none) (λ W q. inl refl);
      ends = nothing-ran hash (λ W q z. HoldsRounds (rounds_needed W.db W.sizes q) (crew_size W.sizes q) steps → IfOk z IsWhole) r e handed (not-sized none) (λ W q enough. tt);
    }

pub returns-in-Some : goal.returns-in-Some
returns-in-Some g c =
    let given = g.F.PlanFunctions in
    let functions = given.functions c.args.functions.now in
    let hash = g.R.Router.route_of c.args.router.now in
    let steps = c.args.steps.now in
    let p = typed_plan c.args.plan.now in
    let j = c.in_ok-job.job in
    let index = c.in-Some.index in
    let made = sized-of j c.plan.ensures.same c.in_ok-job.ensures.plan c.in_ok-job.ensures.database c.in_ok-job.ensures.sized in
    let bad = subst (λ z. IsBadStep steps z index) c.crew_size.ensures c.in-Some.ensures.some in
    let r : Result RunOutcome RunFault = Err (fault.BadStep index) in
    record {
      promise = inl (record {
        index = index;
        refused = refl;
        sizes = sizes_of j;
        set = made.set;
        bad = subst (λ q. IsBadStep steps (crew_size (worker_group_at j.layout.worker_groups.items) (whole_plan q)) index) made.plan bad;
      });
      named = where-sized hash (λ W q. NamesFirst steps W q r) made (inr (inl bad));
      scheduled = λ s set.
          let sizes = worker_group_at s.worker_groups in
          let at = where-sized hash (λ W q. IsBadStep steps (crew_size W.sizes q) index) made bad s (has-sizes functions (resolved_of p) c.args.database.now c.args.setup.now s set) in
          inr (inl (subst (λ n. IsBadStep steps n index) (sym (nodes-stay.crews functions sizes (whole_plan p))) at));
      ends = λ s set enough. tt;
    }

pub returns-in_err-test_functions : goal.returns-in_err-test_functions
returns-in_err-test_functions g c =
    let given = g.F.PlanFunctions in
    let functions = given.functions c.args.functions.now in
    let hash = g.R.Router.route_of c.args.router.now in
    let steps = c.args.steps.now in
    let p = typed_plan c.args.plan.now in
    let j = c.in_ok-job.job in
    let made = sized-of j c.plan.ensures.same c.in_ok-job.ensures.plan c.in_ok-job.ensures.database c.in_ok-job.ensures.sized in
    let e = c.in_err-test_functions.field-0.0 in
    let unknown = subst (λ z. IsUnknownFault (unknown_in (typed_plan_under functions (resolved_of z))) e) (c.plan-2.ensures.same ∙ made.plan) c.in_err-test_functions.ensures.unknown in
    let none = not-known functions p c.args.database.now c.args.setup.now (sizes_of j) e made.set unknown in
    let r = c.from_residual-in_err-test_functions.result in
    let handed = c.from_residual-in_err-test_functions.ensures.1 in
    let all = subst (λ z. All (λ k. k < z) steps) c.crew_size.ensures c.in_default.ensures.none in
    record {
      promise = inr (promise-refused hash NothingElse r e handed none);
      named = where-sized hash (λ W q. NamesFirst steps W q r) made (names-reported (model_of hash j) (whole_plan j.plan.now) r steps all);
      scheduled = nothing-ran hash (λ W q z. Scheduled given hash W q steps z) r e handed none (λ W q. inl refl);
      ends = nothing-ran hash (λ W q z. HoldsRounds (rounds_needed W.db W.sizes q) (crew_size W.sizes q) steps → IfOk z IsWhole) r e handed none (λ W q enough. tt);
    }

pub schedule_job-requires-clause-named : goal.schedule_job-requires-clause-named
schedule_job-requires-clause-named g c = subst (λ z. All (λ k. k < z) c.args.steps.now) c.crew_size.ensures c.in_default.ensures.none

pub schedule_job-requires-clause-known : goal.schedule_job-requires-clause-known
schedule_job-requires-clause-known g c =
    let given = g.F.PlanFunctions in
    subst (λ f. unknown_in (typed_plan_under (given.functions f) (resolved_of c.in_ok-job.job.plan.now)) ≡ None) (sym c.in_ok-job.ensures.functions)
    (subst (λ z. unknown_in (typed_plan_under (given.functions c.args.functions.now) (resolved_of z)) ≡ None) c.plan-2.ensures.same c.in_ok-test_functions.ensures.known)

pub returns : goal.returns
returns g c =
    let given = g.F.PlanFunctions in
    let functions = given.functions c.args.functions.now in
    let hash = g.R.Router.route_of c.args.router.now in
    let steps = c.args.steps.now in
    let j = c.in_ok-job.job in
    let has = sized-of j c.plan.ensures.same c.in_ok-job.ensures.plan c.in_ok-job.ensures.database c.in_ok-job.ensures.sized in
    let made = job-known {given = given} (ap given.functions c.in_ok-job.ensures.functions) has (subst (λ z. unknown_in (typed_plan_under functions (resolved_of z)) ≡ None) (c.plan-2.ensures.same ∙ has.plan) c.in_ok-test_functions.ensures.known) in
    let all = subst (λ z. All (λ k. k < z) steps) c.crew_size.ensures c.in_default.ensures.none in
    let r = c.schedule_job.result in
    record {
      promise = inr (promise-kept hash NothingElse r made c.schedule_job.ensures.run);
      named = where-sized hash (λ W q. NamesFirst steps W q r) has (names-reported (model_of hash j) (whole_plan j.plan.now) r steps all);
      scheduled = where-set hash (λ W q. Scheduled given hash W q steps r) made c.schedule_job.ensures.scheduled;
      ends = where-set hash (λ W q. HoldsRounds (rounds_needed W.db W.sizes q) (crew_size W.sizes q) steps → IfOk r IsWhole) made c.schedule_job.ensures.ends;
    }
