use Rattle.std.proofs.Common.{◌≡◌, refl, rules, subst, Ok}
use Rattle.std.proofs.lemmas.Result.{err_from_is_err_and}
use Rattle.vx_exec_runs.specs.Runs.{IfDone, IfUnfinished, IsRunOf, IsSetUp, NeedsMoreRounds}
use Rattle.vx_exec_runs.specs.Sizes.{Sizes}
use Rattle.vx_exec_setup.specs.Counts.{counts_in}
use Rattle.vx_exec_setup.specs.declared.setting.Mode.TheVariants as mode
use Rattle.vx_exec_runs.specs.declared.outcome.RunOutcome.{RunOutcome}
use Rattle.vx_plan_nodes.specs.ByteRouter.{byte_route}
use Rattle.vx_plan_nodes.specs.TypedView.{resolved_of}
use Rattle.vx_check_rules.specs.CheckedView.{typed_plan}
use Rattle.volcano_answer.specs.Commands.{for_rounds}
use Rattle.volcano_answer.proofs.Refusing.{fault_refused}
use Rattle.volcano_answer.proofs.StatsFacts.{where_asked}
use Rattle.volcano_answer.proofs.run.rows_over.Goals as goal

pub returns-in_err-rows-clause-refused : goal.returns-in_err-rows-clause-refused
returns-in_err-rows-clause-refused g c =
    let p = err_from_is_err_and c.from_residual.result c.from_residual.ensures.1 in
    rw (p.1, p.2) (fault_refused (typed_plan c.args.plan.now) c.args.database.now c.args.setting.now c.in_err-rows.field-0.0 c.in_err-rows.ensures.promise.refused)

pub returns-in-Unfinished-clause-refused : goal.returns-in-Unfinished-clause-refused
returns-in-Unfinished-clause-refused g c =
    let p = resolved_of (typed_plan c.args.plan.now) in
    let db = c.args.database.now in
    let setting = c.args.setting.now in
    let gives_up = (setting.mode ≡ mode.Rounds) × ((s : Sizes) × IsSetUp p db setting.setup s × NeedsMoreRounds p db s) in
    let more : gives_up = subst (λ (r : RunOutcome). IfUnfinished gives_up r) c.in-Unfinished.is c.in_ok-rows.ensures.unfinished in
    for_rounds more.0 more.1.0 more.1.1 more.1.2 refl

pub returns-in-Done-clause-run : goal.returns-in-Done-clause-run
returns-in-Done-clause-run g c = λ f asked.
    let p = typed_plan c.args.plan.now in
    let db = c.args.database.now in
    let setting = c.args.setting.now in
    let Counted = g.R.Runs.counted c.args.services.now.engine.now in
    let done = subst (λ (r : RunOutcome). IfDone (λ rows. (s : Sizes) × IsSetUp (resolved_of p) db setting.setup s × IsRunOf byte_route (resolved_of p) db s.worker_groups rows) r) c.in-Done.is c.in_ok-rows.ensures.promise.done in
    record {
      rows = c.in-Done.rows;
      sizes = done.0;
      set = done.1;
      run = done.2;
      is = search rules;
      counted = where_asked f _ _ asked (λ wanted.
          subst (λ (r : RunOutcome). Counted setting.mode p db done.0 (Ok r) (counts_in c.run.new.counts)) c.in-Done.is (c.in_ok-rows.ensures.counts wanted done.0 done.1));
    }
