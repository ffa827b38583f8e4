-- A document resolves to a typed plan exactly where the plan is well named over the catalog, and said by the document.
use Rattle.std.proofs.Common.{◌≡◌, ℕ, List, ◌∷◌, true, false, Ok, map, codes, refl, sym, ap, ◌∙◌, subst, true≢false}
use Rattle.vx_catalog_relations.specs.Relation.{Relation}
use Rattle.vx_catalog_relations.specs.Catalog.{IsCatalog}
use Rattle.vx_rows_values.specs.Ranges.{RangeForm}
use Rattle.vx_plan_nodes.specs.Outline.{Outline}
use Rattle.vx_plan_nodes.specs.Names.{Names, TypedPlanView}
use Rattle.vx_plan_json.specs.Document.{Document}
use Rattle.vx_plan_json.specs.Formed.{is_tree_form}
use Rattle.vx_plan.specs.Resolve.{test_sizes, test_ranges, typed_in, resolved}
use Rattle.vx_plan.specs.ByName.{document_by_name}
use Rattle.vx_plan.specs.Exact.{IsNamed, PlanLaw}
use Rattle.vx_plan.proofs.Each.{ok_then, ok_last}
use Rattle.vx_plan.proofs.Passed.{distinct-apart, sizes-pass, ranges-pass, sizes-passed, ranges-passed}
use Rattle.vx_plan.proofs.Looked.{AreDeclared}
use Rattle.vx_plan.proofs.PlanFacts.{resolved-typed}
use Rattle.vx_plan.proofs.PlanSaid.{tree-said}
use Rattle.vx_plan.proofs.PlanAgain.{tree-again}

abbrev names_for : Document → List Relation → Names
names_for d catalog = record { catalog = catalog; ranges = d.ranges; sizes = d.sizes }

abbrev IsExact : Document → List Relation → TypedPlanView → Type 0
IsExact d catalog p = (p.names.catalog ≡ catalog) × IsNamed p × (document_by_name p ≡ d)

resolved-said : (d : Document) (catalog : List Relation) (p : TypedPlanView) → IsCatalog catalog → is_tree_form d.root ≡ true → resolved d catalog ≡ Ok p → IsExact d catalog p
unfolding resolved
resolved-said d catalog p cat formed h =
    let a = ok_then _ (test_sizes d.sizes) p h in
    let b = ok_then _ (test_ranges d.ranges) p a.2 in
    let t = ok_last (λ (t : Outline × ℕ). record { names = names_for d catalog; total = d.total; derives = d.derives; root = t.0 }) (typed_in (names_for d catalog) false 0 d.root) p b.2 in
    let said = tree-said (names_for d catalog) false 0 d.root t.0 cat t.1 in
    let typed = resolved-typed (names_for d catalog) d.root t.0.0 t.0.1 cat formed a.1 b.1 t.1 in
    let P : TypedPlanView → Type 0 = λ p. IsExact d catalog p in
    subst P t.2 (
      refl,
      record { typed = typed.0; outputs = typed.2; sizes = sizes-passed d.sizes a.1; ranges = ranges-passed d.ranges b.1; columns = said.named },
      ap (λ root. record { sizes = d.sizes; ranges = d.ranges; total = d.total; derives = d.derives; root = root }) said.says,
    )

resolved-again : (p : TypedPlanView) → IsCatalog p.names.catalog → IsNamed p → resolved (document_by_name p) p.names.catalog ≡ Ok p
unfolding resolved
resolved-again p cat n =
    let declared : AreDeclared p.names = record {
      sizes = distinct-apart (codes "one" ∷ p.names.sizes) n.sizes;
      ranges = distinct-apart (map (λ (r : RangeForm). r.name) p.names.ranges) n.ranges;
      relations = distinct-apart (map (λ (r : Relation). r.name) p.names.catalog) cat.distinct;
    } in
    let root = tree-again p.names false 0 p.root declared n.typed.nodes n.outputs n.columns n.typed.numbered (λ e. absurd (true≢false (sym e ∙ n.typed.closed))) in
    rw (sizes-pass p.names.sizes declared.sizes n.typed.sizes, ranges-pass p.names.ranges declared.ranges n.typed.ranges, root) refl

exact-resolved : (d : Document) (catalog : List Relation) (p : TypedPlanView) → IsCatalog catalog → IsExact d catalog p → resolved d catalog ≡ Ok p
exact-resolved d catalog p cat h =
    let P : List Relation → Type 0 = λ c. resolved d c ≡ Ok p in
    let Q : Document → Type 0 = λ d. resolved d p.names.catalog ≡ Ok p in
    subst P h.0 (subst Q h.2 (resolved-again p (subst IsCatalog (sym h.0) cat) h.1))

pub plans_resolved_exactly : PlanLaw
plans_resolved_exactly = record { resolves = λ d catalog p cat formed. (resolved-said d catalog p cat formed, exact-resolved d catalog p cat) }
