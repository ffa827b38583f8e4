-- The plan without its exchanges, and why it has no serial rows.
use Rattle.std.proofs.Common.{◌≡◌, ◌∙◌, ℕ, List, Ok, Bool, false, refl, ap, subst}
use Rattle.vx_catalog.specs.Database.{Database}
use Rattle.vx_plan_nodes.specs.Erased.{erased_from}
use Rattle.vx_plan_nodes.specs.Names.{Names, TypedPlanView}
use Rattle.vx_plan_nodes.specs.Outline.{Outline}
use Rattle.vx_serial.specs.Results.{EvalFails}
use Rattle.vx_exec_setup.specs.declared.eval_fault.EvalFault.{EvalFault}
use Rattle.volcano_refusals.specs.declared.refusal.Refusal.TheVariants as refusal
use Rattle.volcano_bundle.specs.Named.{Named}
use Rattle.vx_catalog_relations.specs.Relation.{Relation}
use Rattle.volcano_embedding.specs.Planning.{plan_text}
use Rattle.volcano_embedding.specs.Serial.{erased, IsDatabaseFor, SerialRefuses, for_evaluation}

is-erased : (e p : TypedPlanView) → e.names ≡ p.names → e.total ≡ false → e.derives ≡ false → e.root ≡ erased_from 0 p.root → e ≡ erased p
is-erased e p names total derives root =
    ap (λ (n : Names). let r : TypedPlanView = record { names = n; total = e.total; derives = e.derives; root = e.root } in r) names
    ∙ ap (λ (t : Bool). let r : TypedPlanView = record { names = p.names; total = t; derives = e.derives; root = e.root } in r) total
    ∙ ap (λ (b : Bool). let r : TypedPlanView = record { names = p.names; total = false; derives = b; root = e.root } in r) derives
    ∙ ap (λ (o : Outline). let r : TypedPlanView = record { names = p.names; total = false; derives = false; root = o } in r) root

pub refuses : (relations : List Relation) (tables : Named (List ℕ)) (text : List ℕ) (p e : TypedPlanView) (db : Database) (fault : EvalFault) → plan_text relations text ≡ Ok p → e.names ≡ p.names → e.total ≡ false → e.derives ≡ false
    → e.root ≡ erased_from 0 p.root → IsDatabaseFor p tables db → EvalFails e db fault → SerialRefuses relations tables text (refusal.Eval fault)
refuses relations tables text p e db fault says names total derives root there fails =
    let P : TypedPlanView → Type 0 = λ q. EvalFails q db fault in
    for_evaluation p db fault says there refl (subst P (is-erased e p names total derives root) fails)
