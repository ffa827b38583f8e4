use Rattle.std.proofs.Common.{◌≡◌, ◌∙◌, ap, sym, subst}
use Rattle.vx_catalog_relations.specs.Catalog.{relation_at}
use Rattle.vx_plan_nodes.specs.Plan.{Plan, claim}
use Rattle.vx_plan_nodes.specs.Outline.{plan_of}
use Rattle.vx_plan_nodes.specs.TypedView.{plan as whole_plan}
use Rattle.vx_plan_facts.specs.KnownView.{IsKnownOf}
use Rattle.vx_check_rules.specs.Derived.{is_total_derived}
use Rattle.vx_check_options.proofs.ClaimLists.{claim-there}
use Rattle.vx_check_shown.specs.Found.{found}
use Rattle.vx_check_shown.proofs.FoundTold.{total-found, known-claim}
use Rattle.vx_check_shown.proofs.strongest_claims.found_claims.Goals as goal

pub returns-clause-total : goal.returns-clause-total
returns-clause-total c =
    let catalog = relation_at c.args.plan.now.catalog in
    let root : Plan = plan_of c.root-root.result.now in
    let put = rw c.catalog-catalog.ensures at c.in_ok-at.ensures.put in
    let kept = rw c.catalog-catalog.ensures at c.put_claims.ensures.kept in
    let same = claim-there c.put_claims.new.claims.items c.in_ok-at.at (claim (found catalog root)) c.index.result.now c.index.ensures put.0 in
    let P : Plan → Type 0 = λ p. IsKnownOf catalog c.in_ok-known.known p in
    let known = subst P (sym c.root-root.ensures.plan) c.in_ok-known.ensures.known in
    let is = known-claim catalog c.put_claims.new.known root _ (kept root known) same in
    c.is_claim_total-is_total.ensures catalog is c.root-root.ensures.outputs ∙ total-found catalog root _ same ∙ ap (λ p. is_total_derived catalog (found catalog p)) c.root-root.ensures.plan
