use Rattle.std.proofs.Common.{◌∙◌, sym}
use Rattle.std.proofs.lemmas.Result.{IfOk-weaker}
use Rattle.vx_plan_json.specs.PlanView.{document_of}
use Rattle.vx_check_annotate.proofs.VerdictFacts.{claims-more, plainly}
use Rattle.vx_check_annotate.proofs.annotating.annotate.Goals as goal

pub returns-clause-accepted : goal.returns-clause-accepted
returns-clause-accepted c = IfOk-weaker c.annotated_by_claims.result _ _ (λ p h. claims-more c.args.catalog.now (document_of p) c.len-relations.ensures.fine p.formed h) c.annotated_by_claims.ensures.accepted

pub returns-clause-telling : goal.returns-clause-telling
returns-clause-telling c = λ plain accepted.
    c.annotated_by_claims.ensures.telling (sym (plainly c.args.catalog.now (document_of c.args.plan) c.len-relations.ensures.fine c.args.plan.formed plain) ∙ accepted)
