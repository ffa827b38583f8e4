use Rattle.std.proofs.Common.{rules, ◌≡◌, ◌∙◌, ap}
use Rattle.vx_rows_values.specs.Limits.{max_levels}
use Rattle.vx_plan_json.specs.PlanView.{document_of}
use Rattle.vx_check_annotate.specs.Unclaimed.{without_claims, unclaimed}
use Rattle.vx_check_annotate.specs.Claimed.{with_forms, forms_in}
use Rattle.vx_check_annotate.proofs.TreeFacts.{same_nodes, same_levels, same_low, same_form}
use Rattle.vx_check_annotate.proofs.ClaimedFacts.{without-with, unclaimed-with, unclaimed-none}
use Rattle.vx_check_annotate.proofs.FewKeys.{tree-few}
use Rattle.vx_check_annotate.proofs.rewriting.claimed_plan.Goals as goal

pub new-requires-clause-few : goal.new-requires-clause-few
new-requires-clause-few c = rw (same_nodes _ _ (ap without_claims c.put_claims.ensures.placed ∙ without-with _ _)) c.into_parts-sizes.ensures.few

pub new-requires-clause-low : goal.new-requires-clause-low
new-requires-clause-low c = rw (same_levels _ _ (ap without_claims c.put_claims.ensures.placed ∙ without-with _ _)) c.into_parts-sizes.ensures.low

pub new-requires-clause-low_operands : goal.new-requires-clause-low_operands
new-requires-clause-low_operands c = rw (same_low max_levels _ _ (ap without_claims c.put_claims.ensures.placed ∙ without-with _ _)) c.into_parts-sizes.ensures.low_operands

pub new-requires-clause-formed : goal.new-requires-clause-formed
new-requires-clause-formed c = same_form _ _ (ap without_claims c.put_claims.ensures.placed ∙ without-with _ _) c.into_parts-sizes.ensures.formed c.put_claims.ensures.formed

pub returns-clause-same : goal.returns-clause-same
returns-clause-same c =
    let placed : document_of c.new.result ≡ with_forms (forms_in c.args.claims.items) c.args.total (document_of c.args.plan) = search rules in
    ap unclaimed placed ∙ unclaimed-with (forms_in c.args.claims.items) c.args.total (document_of c.args.plan)

pub returns-clause-bare : goal.returns-clause-bare
returns-clause-bare c none partial =
    let placed : document_of c.new.result ≡ with_forms (forms_in c.args.claims.items) c.args.total (document_of c.args.plan) = search rules in
    placed ∙ ((λ i. with_forms (forms_in (none i)) (partial i) (document_of c.args.plan)) ∙ unclaimed-none (document_of c.args.plan))

pub new-requires-clause-few_keys : goal.new-requires-clause-few_keys
new-requires-clause-few_keys c = rw (c.derives-derives.ensures, c.put_claims.ensures.placed) (tree-few (document_of c.args.plan).derives (forms_in c.args.claims.items) _ c.requires)
