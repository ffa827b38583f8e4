use Rattle.std.proofs.Common.{◌∙◌, ap, sym}
use Rattle.vx_plan_nodes.specs.TypedView.{resolved_of}
use Rattle.vx_plan_json.specs.PlanView.{document_of}
use Rattle.vx_check_annotate.specs.Claimed.{forms_in, own_forms}
use Rattle.vx_check_annotate.proofs.OwnClaims.{own-claims-few, own-document}
use Rattle.vx_check_annotate.proofs.keeping.restored.Goals as goal

pub claimed_plan-requires : goal.claimed_plan-requires
claimed_plan-requires c =
    let p = resolved_of c.args.given.now in
    let named = c.in_ok-named.ensures p.names (sym c.ranges-2.ensures) ∙ ap (own_forms p.names) c.root.ensures.root in
    own-claims-few c.args.catalog.now c.requires.0 (document_of c.args.plan) p (forms_in c.in_ok-named.named.items) c.len-relations.ensures.fine c.requires.1 named

pub returns : goal.returns
returns c = λ d given.
    let p = resolved_of c.args.given.now in
    let named = c.in_ok-named.ensures p.names (sym c.ranges-2.ensures) ∙ ap (own_forms p.names) c.root.ensures.root in
    own-document c.args.catalog.now d (document_of c.args.plan) (document_of c.claimed_plan.result) p (forms_in c.in_ok-named.named.items) _ c.len-relations.ensures.fine given named c.is_total.ensures c.claimed_plan.ensures.placed
