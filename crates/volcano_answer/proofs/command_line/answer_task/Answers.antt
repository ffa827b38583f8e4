use Rattle.std.proofs.Common.{sym}
use Rattle.std.proofs.lemmas.Result.{err_from_is_err_and}
use Rattle.vx_plan_nodes.specs.TypedView.{resolved_of}
use Rattle.volcano_answer.specs.CommandLine.{for_planning, for_plan_of}
use Rattle.volcano_answer.proofs.command_line.answer_task.Goals as goal

pub returns-in_err-plan-clause-refused : goal.returns-in_err-plan-clause-refused
returns-in_err-plan-clause-refused g c =
    let p = err_from_is_err_and c.from_residual.result c.from_residual.ensures.1 in
    rw (p.1, p.2) (for_planning c.in_err-plan.ensures.refused)

pub returns-in_err-answer-clause-refused : goal.returns-in_err-answer-clause-refused
returns-in_err-answer-clause-refused g c =
    let p = err_from_is_err_and c.from_residual-in_err-answer.result c.from_residual-in_err-answer.ensures.1 in
    rw (p.1, p.2) (for_plan_of (resolved_of c.in_ok-plan.plan) c.in_ok-plan.ensures.planned c.in_err-answer.ensures.refused)

pub returns-clause-text : goal.returns-clause-text
returns-clause-text g c = (resolved_of c.in_ok-plan.plan, c.in_ok-plan.ensures.planned, rw (sym c.into_text.ensures) at c.in_ok-answer.ensures.text)
