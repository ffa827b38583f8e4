use Rattle.vx_plan_nodes.specs.TypedView.{resolved_of}
use Rattle.vx_plan_json.specs.PlanView.{document_of}
use Rattle.vx_check_annotate.specs.Deriving.{IsGiven}
use Rattle.vx_check_annotate.proofs.OwnClaims.{tells-all}
use Rattle.vx_check_annotate.proofs.annotating.annotated_again.Goals as goal

pub returns-clause-telling : goal.returns-clause-telling
returns-clause-telling c =
    let d = document_of c.args.plan in
    let given : IsGiven c.args.catalog.now d (document_of c.in_ok-plan.field-0.plan) (resolved_of c.in_ok-given.given) = record { formed = c.args.plan.formed; few = c.args.plan.few_keys; same = c.in_ok-plan.ensures.same; resolves = c.in_ok-given.ensures } in
    tells-all c.args.catalog.now d (document_of c.in_ok-restored.field-0) (resolved_of c.in_ok-given.given) c.in_ok-given.ensures (c.in_ok-restored.ensures d given)
