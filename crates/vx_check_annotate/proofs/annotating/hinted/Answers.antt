use Rattle.std.proofs.Common.{◌∙◌, sym}
use Rattle.vx_plan_json.specs.PlanView.{document_of}
use Rattle.vx_check_annotate.proofs.VerdictFacts.{claims-more}
use Rattle.vx_check_annotate.proofs.annotating.hinted.Goals as goal

pub accepted_plan-requires : goal.accepted_plan-requires
accepted_plan-requires c = claims-more c.args.catalog.now (document_of c.args.plan) c.len-relations.ensures.fine c.args.plan.formed (sym c.in_ok-is_accepted_by_claims.ensures ∙ c.if-branch.true)
