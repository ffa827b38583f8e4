use Rattle.std.proofs.Common.{◌∙◌, ap, true}
use Rattle.std.specs.List.{list_all}
use Rattle.vx_plan_json.specs.Formed.{has_few_keys, are_keys_few}
use Rattle.vx_plan_json.specs.PlanView.{document_of}
use Rattle.vx_check_annotate.specs.Claimed.{forms_in}
use Rattle.vx_check_annotate.proofs.FewKeys.{tree-few}
use Rattle.vx_check_annotate.proofs.asked.with_few_keys.Goals as goal

pub returns-clause-few : goal.returns-clause-few
returns-clause-few c =
    ap (λ d. are_keys_few true d.root) c.claimed_plan.ensures.placed
    ∙ tree-few true (forms_in c.new.result.items) (document_of c.args.plan).root (ap (λ claims. list_all (has_few_keys true) (forms_in claims)) c.new.ensures.items)
