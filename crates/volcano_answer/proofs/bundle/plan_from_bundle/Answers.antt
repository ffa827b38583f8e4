use Rattle.std.proofs.Common.{◌≡◌, Ok, refl}
use Rattle.std.proofs.lemmas.Result.{err_from_is_err_and}
use Rattle.vx_catalog_relations.specs.Naming.{catalog_of}
use Rattle.vx_catalog_relations.specs.Naming as catalog
use Rattle.vx_plan_json.specs.Fault as plan
use Rattle.vx_plan_json.specs.PlanView.{document_of}
use Rattle.vx_plan_json.specs.Reading.{document_in}
use Rattle.vx_plan_nodes.specs.TypedView.{resolved_of}
use Rattle.volcano_bundle.specs.BundleView.{bundle_form}
use Rattle.volcano_answer.specs.Planning.{exactly, for_catalog}
use Rattle.volcano_answer.proofs.PlanFacts.{is_planned, reading_fails, planning_fails}
use Rattle.volcano_answer.proofs.bundle.plan_from_bundle.Goals as goal

pub returns-in_err-catalog-clause-refused : goal.returns-in_err-catalog-clause-refused
returns-in_err-catalog-clause-refused c =
    let b = bundle_form c.args.bundle.now in
    let p = err_from_is_err_and c.from_residual.result c.from_residual.ensures.1 in
    let fails : catalog.Fails c.in_err-catalog.field-0.0 (catalog_of b.catalog) = rw c.catalog.ensures at c.in_err-catalog.ensures in
    rw (p.1, p.2) (for_catalog c.in_err-catalog.field-0.0 refl fails)

pub returns-in_err-plan-clause-refused : goal.returns-in_err-plan-clause-refused
returns-in_err-plan-clause-refused c =
    let b = bundle_form c.args.bundle.now in
    let p = err_from_is_err_and c.from_residual-in_err-plan.result c.from_residual-in_err-plan.ensures.1 in
    let declares : catalog_of b.catalog ≡ Ok c.in_ok-catalog.catalog = rw c.catalog.ensures at c.in_ok-catalog.ensures in
    let fails : plan.Fails c.in_err-plan.field-0.0 (document_in b.plan) = rw c.plan.ensures at c.in_err-plan.ensures in
    rw (p.1, p.2) (reading_fails (exactly (catalog_of b.catalog)) (exactly (document_in b.plan)) c.in_ok-catalog.catalog (document_in b.plan) c.in_err-plan.field-0.0 declares (λ P h. h) fails)

pub returns-in_err-planned-clause-refused : goal.returns-in_err-planned-clause-refused
returns-in_err-planned-clause-refused c =
    let b = bundle_form c.args.bundle.now in
    let d = document_of c.in_ok-plan.plan in
    let p = err_from_is_err_and c.from_residual-in_err-planned.result c.from_residual-in_err-planned.ensures.1 in
    let declares : catalog_of b.catalog ≡ Ok c.in_ok-catalog.catalog = rw c.catalog.ensures at c.in_ok-catalog.ensures in
    let reads : document_in b.plan ≡ Ok d = rw c.plan.ensures at c.in_ok-plan.ensures in
    rw (p.1, p.2) (planning_fails (exactly (catalog_of b.catalog)) (exactly (document_in b.plan)) c.in_ok-catalog.catalog d (document_in b.plan) c.in_err-planned.field-0.0 declares (λ P h. h) reads c.in_err-planned.ensures)

pub returns-clause-planned : goal.returns-clause-planned
returns-clause-planned c =
    let b = bundle_form c.args.bundle.now in
    let d = document_of c.in_ok-plan.plan in
    let declares : catalog_of b.catalog ≡ Ok c.in_ok-catalog.catalog = rw c.catalog.ensures at c.in_ok-catalog.ensures in
    let reads : document_in b.plan ≡ Ok d = rw c.plan.ensures at c.in_ok-plan.ensures in
    is_planned (exactly (catalog_of b.catalog)) (exactly (document_in b.plan)) c.in_ok-catalog.catalog d (document_in b.plan) (resolved_of c.in_ok-planned.field-0) declares
    (λ P h. h) reads c.in_ok-planned.ensures
