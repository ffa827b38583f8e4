use Rattle.std.proofs.lemmas.Result.{err_from_is_err_and}
use Rattle.vx_plan_nodes.specs.TypedView.{resolved_of}
use Rattle.volcano_arguments.specs.Asked.{paths_are}
use Rattle.volcano_bundle.specs.declared.command.Command.TheVariants as command
use Rattle.volcano_answer.proofs.CommandLineFacts.{task_refused}
use Rattle.volcano_answer.proofs.StatsFacts.{planning_refused_or, task_stats}
use Rattle.volcano_answer.proofs.stats.run_task.Goals as goal

pub returns-in_err-plan-clause-refused : goal.returns-in_err-plan-clause-refused
returns-in_err-plan-clause-refused g c =
    let p = err_from_is_err_and c.from_residual.result c.from_residual.ensures.1 in
    rw (p.1, p.2) (planning_refused_or (g.F.Store.holds c.args.files.now) (g.F.Store.is_reliable c.args.files.now) (g.I.ByteIn.remaining c.args.input.now) (g.I.ByteIn.has_failed c.timed_plan.new.input)
    (record { command = command.Run; paths = paths_are c.args.sources; folder = c.args.folder.now; setting = c.args.setting.now }) c.in_err-plan.field-0.0 c.in_err-plan.ensures.refused)

pub returns-clause-refused : goal.returns-clause-refused
returns-clause-refused g c =
    task_refused (g.F.Store.holds c.args.files.now) (g.F.Store.is_reliable c.args.files.now) (g.I.ByteIn.remaining c.args.input.now) (g.I.ByteIn.has_failed c.timed_plan.new.input)
    (record { command = command.Run; paths = paths_are c.args.sources; folder = c.args.folder.now; setting = c.args.setting.now })
    (resolved_of c.in_ok-plan.plan) c.run_checked.result c.in_ok-plan.ensures.planned c.run_checked.ensures.refused

pub returns-clause-stats : goal.returns-clause-stats
returns-clause-stats g c =
    task_stats (g.R.Runs.counted c.args.services.now.engine.now) c.args.services.now.layout (g.F.Store.holds c.args.files.now) (g.I.ByteIn.remaining c.args.input.now) c.args.form
    (record { command = command.Run; paths = paths_are c.args.sources; folder = c.args.folder.now; setting = c.args.setting.now })
    c.in_ok-plan.plan c.run_checked.result c.in_ok-plan.ensures.planned c.run_checked.ensures.shown (rw (c.in_ok-plan.ensures.phases, c.start-timer.ensures) at c.run_checked.ensures.stats)
