use Rattle.std.proofs.Common.{IfErr, refl}
use Rattle.std.proofs.lemmas.Result.{err_from_is_err_and, IfErr-weaker}
use Rattle.vx_plan_json.specs.PlanView.{document_of}
use Rattle.volcano_embedding.specs.Annotated.{asking_if, for_text, for_claims, AnnotationRefuses}
use Rattle.volcano_embedding.proofs.session.Session.annotate.Goals as goal

pub returns-in_err-plan-clause-refused : goal.returns-in_err-plan-clause-refused
returns-in_err-plan-clause-refused c =
    let p = err_from_is_err_and c.from_residual.result c.from_residual.ensures.1 in
    rw (p.1, p.2) (for_text c.in_err-plan.field-0.0 refl c.in_err-plan.ensures)

pub returns-clause-refused : goal.returns-clause-refused
returns-clause-refused c =
    let d = document_of c.in_ok-plan.plan in
    let refused : IfErr c.annotated_plan.result (AnnotationRefuses c.args.self.now (asking_if c.args.derive d)) = rw (c.catalog.ensures, c.asking_if.ensures) at c.annotated_plan.ensures.refused in
    IfErr-weaker c.annotated_plan.result _ _ (λ e reason. for_claims d c.in_ok-plan.ensures reason) refused
