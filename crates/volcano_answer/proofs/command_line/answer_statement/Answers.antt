use Rattle.std.proofs.lemmas.Result.{err_from_is_err_and}
use Rattle.vx_plan_nodes.specs.TypedView.{resolved_of}
use Rattle.volcano_arguments.specs.Asked.{paths_are}
use Rattle.volcano_answer.specs.CommandLine.{for_statement_planning}
use Rattle.volcano_answer.proofs.CommandLineFacts.{statement_refused}
use Rattle.volcano_answer.proofs.command_line.answer_statement.Goals as goal

pub returns-in_err-plan-clause-refused : goal.returns-in_err-plan-clause-refused
returns-in_err-plan-clause-refused g c =
    let p = err_from_is_err_and c.from_residual.result c.from_residual.ensures.1 in
    rw (p.1, p.2) (for_statement_planning c.in_err-plan.ensures.refused)

pub returns-clause-refused : goal.returns-clause-refused
returns-clause-refused g c =
    statement_refused (g.F.Store.holds c.args.files.now) (g.F.Store.is_reliable c.args.files.now) (g.I.ByteIn.remaining c.args.input.now) (g.I.ByteIn.has_failed c.plan_from_files.new.input) (paths_are c.args.sources)
    (resolved_of c.in_ok-plan.plan) c.statement.result c.in_ok-plan.ensures.planned c.statement.ensures.refused
