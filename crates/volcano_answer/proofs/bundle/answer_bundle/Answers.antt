use Rattle.std.proofs.lemmas.Result.{err_from_is_err_and}
use Rattle.vx_plan_nodes.specs.TypedView.{resolved_of}
use Rattle.volcano_bundle.specs.BundleView.{bundle_form}
use Rattle.volcano_stats.specs.Phases.{phases_of, times_in}
use Rattle.volcano_answer.specs.Answer.{for_planning}
use Rattle.volcano_answer.proofs.Outputs.{outputs, bundle_run}
use Rattle.volcano_answer.proofs.Refusing.{bundle_refused}
use Rattle.volcano_answer.proofs.bundle.answer_bundle.Goals as goal

pub returns-in_err-plan-clause-refused : goal.returns-in_err-plan-clause-refused
returns-in_err-plan-clause-refused g c =
    let p = err_from_is_err_and c.from_residual.result c.from_residual.ensures.1 in
    rw (p.1, p.2) (for_planning c.in_err-plan.ensures.refused)

pub returns-clause-text : goal.returns-clause-text
returns-clause-text g c =
    let text = rw (c.command-command.ensures, c.setting-setting.ensures) at c.execute.ensures.text in
    outputs c.args.services.now.layout c.execute.result (bundle_form c.args.bundle.now) (resolved_of c.in_ok-plan.plan) c.in_ok-plan.ensures.planned text

pub returns-clause-run : goal.returns-clause-run
returns-clause-run g c =
    let run = rw (c.command-command.ensures, c.setting-setting.ensures) at c.execute.ensures.run in
    bundle_run (g.R.Runs.counted c.args.services.now.engine.now) c.args.services.now.layout c.args.form c.execute.result (bundle_form c.args.bundle.now) c.in_ok-plan.plan (phases_of (times_in c.args.timer.now))
    (phases_of (times_in c.end.new.self)) c.in_ok-plan.ensures.planned c.in_ok-end.ensures run

pub returns-clause-refused : goal.returns-clause-refused
returns-clause-refused g c =
    let refused = rw (c.command-command.ensures, c.setting-setting.ensures) at c.execute.ensures.refused in
    bundle_refused c.execute.result (bundle_form c.args.bundle.now) (resolved_of c.in_ok-plan.plan) c.in_ok-plan.ensures.planned refused
