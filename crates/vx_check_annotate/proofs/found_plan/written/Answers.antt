use Rattle.std.proofs.Common.{◌∙◌, ap, sym}
use Rattle.std.specs.List.{list_all}
use Rattle.vx_plan_nodes.specs.Outline.{outline_of}
use Rattle.vx_plan_nodes.specs.TypedView.{resolved_of}
use Rattle.vx_plan_json.specs.Formed.{has_few_keys}
use Rattle.vx_plan_json.specs.PlanView.{document_of}
use Rattle.vx_check_annotate.specs.Claimed.{claims_of, forms_in, named_forms}
use Rattle.vx_check_annotate.proofs.Reversed.{reversed}
use Rattle.vx_check_annotate.proofs.FewKeys.{forms-few}
use Rattle.vx_check_annotate.proofs.DerivedPlans.{each-few, written-is}
use Rattle.vx_check_annotate.proofs.found_plan.written.Goals as goal

pub claimed_plan-plan-requires : goal.claimed_plan-plan-requires
claimed_plan-plan-requires c =
    let p = resolved_of c.args.typed.now in
    let x = c.requires.claims.0 in
    let are = c.requires.claims.1 in
    let derives = (document_of c.args.plan).derives in
    let forms = c.in_ok-named.ensures p.names (sym c.ranges-2.ensures)
    ∙ (ap (λ l. named_forms p.names l (outline_of c.root.result.now)) (reversed c.args.claims.items x are.listed) ∙ ap (named_forms p.names (claims_of x)) c.root.ensures.root) in
    ap (list_all (has_few_keys derives)) forms ∙ forms-few derives p.names (claims_of x) p.root (each-few derives x are.few)

pub returns-in-Ok-clause-written : goal.returns-in-Ok-clause-written
returns-in-Ok-clause-written c = λ x are.
    let p = resolved_of c.args.typed.now in
    let forms = c.in_ok-named.ensures p.names (sym c.ranges-2.ensures)
    ∙ (ap (λ l. named_forms p.names l (outline_of c.root.result.now)) (reversed c.args.claims.items x are.listed) ∙ ap (named_forms p.names (claims_of x)) c.root.ensures.root) in
    written-is c.args.catalog.now (document_of c.args.plan) (document_of c.claimed_plan-plan.result) p (resolved_of c.in-Ok.typed) c.args.claims.items x c.args.is_total (forms_in c.in_ok-named.named.items)
    c.len-relations.ensures.fine c.args.plan.formed c.args.plan.declared c.requires.resolves are forms c.claimed_plan-plan.ensures.placed c.in-Ok.ensures
