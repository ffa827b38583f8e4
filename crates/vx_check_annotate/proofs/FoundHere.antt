-- What the program finds over the plan in the only directions that could be accepted, said of the plan that is kept.
use Rattle.std.proofs.Common.{◌≡◌, ◌∙◌, List, Bool, ap, subst}
use Rattle.vx_catalog_relations.specs.Relation.{Relation}
use Rattle.vx_catalog_relations.specs.Catalog.{relation_at}
use Rattle.vx_plan_nodes.specs.Plan.{Claim, Plan}
use Rattle.vx_plan_nodes.specs.Outline.{plan_in}
use Rattle.vx_plan_nodes.specs.Names.{TypedPlanView}
use Rattle.vx_check_rules.specs.Rules.{is_total_order}
use Rattle.vx_check_options.specs.Options.{parts_at, places_at}
use Rattle.vx_check_options.specs.Placed.{first_entries, first_part}
use Rattle.vx_check_options.specs.Claimed.{IsClaimed, reversed_claims}
use Rattle.vx_check_annotate.specs.Claimed.{named_forms}
use Rattle.vx_check_annotate.specs.Possible.{possible_choice, possible_view}
use Rattle.vx_check_annotate.proofs.FoundDocument.{left, IsFound}
use Rattle.vx_check_annotate.proofs.TurnedOutlines.{plan-possible, named-turned}

-- claims that are placed on a plan, over a catalog, under its first part and its first entries
abbrev pub Finds : List Claim → Bool → List Relation → Plan → Type 0
Finds claims total l p =
    (x : Plan) × IsClaimed (relation_at l) p (first_part (parts_at (relation_at l) p)) (first_entries (places_at (relation_at l) p)) x × (claims ≡ reversed_claims x) × (total ≡ is_total_order (relation_at l) x)

-- they are those of the plan that is kept
pub found-here : (catalog : List Relation) (p v : TypedPlanView) (l : List Relation) (q : Plan) (claims : List Claim) (total : Bool) → p.names.catalog ≡ catalog → v ≡ possible_view p → l ≡ v.names.catalog → q ≡ plan_in v.root
    → Finds claims total l q → (x : Plan) × IsFound catalog p x × (claims ≡ reversed_claims x) × (total ≡ is_total_order (relation_at catalog) x)
found-here catalog p v l q claims total over is at root found =
    let same : q ≡ left p.names.catalog p = root ∙ (ap (λ (w : TypedPlanView). plan_in w.root) is ∙ plan-possible (relation_at p.names.catalog) p.root) in
    let there : l ≡ p.names.catalog = at ∙ ap (λ (w : TypedPlanView). w.names.catalog) is in
    let one : Finds claims total p.names.catalog (left p.names.catalog p) = subst (λ l. Finds claims total l (left p.names.catalog p)) there (subst (λ q. Finds claims total l q) same found) in
    subst (λ l. Finds claims total l (left l p)) over one

-- by the same names
pub forms-here : (p v : TypedPlanView) (claims : List Claim) → v ≡ possible_view p → named_forms v.names claims v.root ≡ named_forms p.names claims p.root
forms-here p v claims is =
    ap (λ (w : TypedPlanView). named_forms w.names claims w.root) is ∙ named-turned p.names claims (possible_choice (relation_at p.names.catalog)) p.root
