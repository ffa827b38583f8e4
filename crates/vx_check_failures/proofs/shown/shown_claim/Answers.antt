use Rattle.std.proofs.Common.{sym, ◌∙◌}
use Rattle.std.proofs.lemmas.Result.{IfOk-weaker}
use Rattle.vx_catalog_relations.specs.Catalog.{relation_at}
use Rattle.vx_plan_nodes.specs.Outline.{plan_of}
use Rattle.vx_check_failures.proofs.ShownFacts.{shown-some}
use Rattle.vx_check_failures.proofs.shown.shown_claim.Goals as goal

pub returns-in-First-clause-shown : goal.returns-in-First-clause-shown
returns-in-First-clause-shown c = λ first.
    let catalog = relation_at c.args.catalog.now in
    let p = plan_of c.args.node.now in
    let judged = rw first at c.failure_at.ensures.failure in
    let fits = sym c.is_of_claim.ensures ∙ c.if-not-is_of_claim.false in
    IfOk-weaker c.claim_at.result _ _ (λ o h. shown-some catalog p o (rw judged at fits) h) c.claim_at.ensures
