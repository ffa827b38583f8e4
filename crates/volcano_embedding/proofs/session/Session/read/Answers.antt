use Rattle.std.proofs.Common.{Result, refl, sym, subst}
use Rattle.std.proofs.lemmas.Result.{err_from_is_err_and}
use Rattle.vx_plan_json.specs.Document.{Document}
use Rattle.vx_plan_json.specs.Fault.{◌>>=◌}
use Rattle.vx_plan_json.specs.Fault as plan
use Rattle.vx_plan_json.specs.Reading.{document_of_text}
use Rattle.vx_plan_json.proofs.NodeFacts.{fails_then}
use Rattle.vx_check_directions.specs.Planned.{planned}
use Rattle.volcano_embedding.specs.Planning.{for_fault}
use Rattle.volcano_embedding.proofs.session.Session.read.Goals as goal

pub returns-in_err-document-clause-refused : goal.returns-in_err-document-clause-refused
returns-in_err-document-clause-refused c =
    let fault = c.in_err-document.field-0.0 in
    let p = err_from_is_err_and c.from_residual.result c.from_residual.ensures.1 in
    rw (p.1, p.2) (for_fault fault refl (fails_then fault (document_of_text c.args.text.now) (λ d. planned d c.args.self.now) c.in_err-document.ensures))

pub returns-in_err-plan-clause-refused : goal.returns-in_err-plan-clause-refused
returns-in_err-plan-clause-refused c =
    let fault = c.in_err-plan.field-0.0 in
    let p = err_from_is_err_and c.from_residual-in_err-plan.result c.from_residual-in_err-plan.ensures.1 in
    let P : Result Document plan.Refusal → Type 0 = λ r. plan.Fails fault (r >>= λ d. planned d c.args.self.now) in
    rw (p.1, p.2) (for_fault fault refl (subst P (sym c.in_ok-document.ensures) (rw c.catalog.ensures at c.in_err-plan.ensures)))
