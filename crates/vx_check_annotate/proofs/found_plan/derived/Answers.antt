use Rattle.std.proofs.Common.{◌∙◌, ap, sym}
use Rattle.vx_plan_nodes.specs.TypedView.{resolved_of}
use Rattle.vx_plan_json.specs.PlanView.{document_of}
use Rattle.vx_check_shown.proofs.FoundNodes.{found-good}
use Rattle.vx_check_annotate.specs.Verdict.{refuses}
use Rattle.vx_check_annotate.proofs.DerivedPlans.{claims-found, claims-written}
use Rattle.vx_check_annotate.proofs.found_plan.derived.Goals as goal

pub written-requires-clause-claims : goal.written-requires-clause-claims
written-requires-clause-claims c =
    let e = c.in_ok-typed.field-0.plan in
    let f = claims-found found-good c.args.catalog.now (document_of c.args.plan) (document_of e) (resolved_of c.in_ok-typed.field-0.typed) c.in_ok-claims.claims.items c.len-relations.ensures.fine e.formed
    c.in_ok-typed.ensures.keys c.in_ok-claims.ensures.claims in (_, f.said)

pub returns-clause-strongest : goal.returns-clause-strongest
returns-clause-strongest c =
    let e = c.in_ok-typed.field-0.plan in
    let p = resolved_of c.in_ok-typed.field-0.typed in
    let has = c.in_ok-typed.ensures.keys in
    let f = claims-found found-good c.args.catalog.now (document_of c.args.plan) (document_of e) p c.in_ok-claims.claims.items c.len-relations.ensures.fine e.formed has c.in_ok-claims.ensures.claims in
    claims-written c.args.catalog.now (document_of e) (document_of c.in_ok-typed-2.field-0.plan) p (resolved_of c.in_ok-typed-2.field-0.typed) c.in_ok-claims.claims.items _ c.in_ok-claims.is_total c.len-relations.ensures.fine e.formed
    has.plan.resolves f c.in_ok-claims.ensures.total (c.in_ok-typed-2.ensures.written _ f.said)

pub returns-clause-refusal : goal.returns-clause-refusal
returns-clause-refusal c =
    let e = c.in_ok-typed.field-0.plan in
    let f = claims-found found-good c.args.catalog.now (document_of c.args.plan) (document_of e) (resolved_of c.in_ok-typed.field-0.typed) c.in_ok-claims.claims.items c.len-relations.ensures.fine e.formed
    c.in_ok-typed.ensures.keys c.in_ok-claims.ensures.claims in
    let w = c.in_ok-typed-2.ensures.written _ f.said in
    c.in_ok-refusal.ensures ∙ sym (ap refuses w.resolves)
