use Rattle.vx_plan_nodes.specs.TypedView.{resolved_of}
use Rattle.vx_plan_json.specs.PlanView.{document_of}
use Rattle.vx_check_annotate.proofs.DerivedPlans.{keys-found, keys-written}
use Rattle.vx_check_annotate.proofs.found_plan.keyed.Goals as goal

pub written-requires-clause-claims : goal.written-requires-clause-claims
written-requires-clause-claims c =
    let k = keys-found c.args.catalog.now c.requires.0 (document_of c.args.given.plan) (resolved_of c.args.given.typed) c.in_ok-claims.claims.items c.len-relations.ensures.fine c.args.given.plan.formed
    c.requires.1 c.in_ok-claims.ensures in (k.0, k.1.said)

pub returns : goal.returns
returns c = λ d has.
    let e = document_of c.args.given.plan in
    let p = resolved_of c.args.given.typed in
    let k = keys-found c.args.catalog.now d e p c.in_ok-claims.claims.items c.len-relations.ensures.fine c.args.given.plan.formed has c.in_ok-claims.ensures in
    keys-written c.args.catalog.now d e (document_of c.in_ok-found.found.plan) p (resolved_of c.in_ok-found.found.typed) c.in_ok-claims.claims.items k.0 _ has k.1 c.in_ok-found.ensures.same
    (c.in_ok-found.ensures.written k.0 k.1.said)
