use Rattle.std.proofs.Common.{refl}
use Rattle.std.proofs.lemmas.Result.{err_from_is_err_and}
use Rattle.vx_plan_nodes.specs.TypedView.{resolved_of}
use Rattle.volcano_arguments.specs.Asked.{paths_are}
use Rattle.volcano_answer.specs.CommandLine.{for_all_nodes, for_asked_all}
use Rattle.volcano_answer.proofs.command_line.answer_verdict.Goals as goal

pub returns-in_err-catalog-clause-refused : goal.returns-in_err-catalog-clause-refused
returns-in_err-catalog-clause-refused g c =
    let p = err_from_is_err_and c.from_residual.result c.from_residual.ensures.1 in
    rw (p.1, p.2) (for_asked_all (paths_are c.args.sources) refl c.in_err-catalog.ensures.refused)

pub returns-in-Accepted-clause-answer : goal.returns-in-Accepted-clause-answer
returns-in-Accepted-clause-answer g c =
    let shown = rw c.in-Accepted.is at c.in_ok-text.ensures in
    rw c.from.ensures (for_all_nodes (paths_are c.args.sources) refl (resolved_of c.in_ok-catalog.plan, c.in_ok-catalog.ensures.planned, shown))
