-- Typed plans in other directions, and the names of claims.
use Rattle.std.proofs.Common.{◌≡◌, ◌∙◌, ℕ, List, ◌∷◌, ◌++◌, drop, Option, refl, sym, ap, ap₂}
use Rattle.vx_catalog_relations.specs.Relation.{Relation}
use Rattle.vx_catalog_relations.specs.Catalog.{relation_at}
use Rattle.vx_plan_nodes.specs.Plan.{Claim}
use Rattle.vx_plan_nodes.specs.Numbering.{nodes}
use Rattle.vx_plan_nodes.specs.Outline.{Outline, scan, unary, binary, exchange, plan_in}
use Rattle.vx_plan_nodes.specs.declared.typed_plan.TypedPlan.{TypedPlan}
use Rattle.vx_plan_nodes.specs.Names.{Names, TypedPlanView}
use Rattle.vx_plan_nodes.specs.TypedView.{resolved_of}
use Rattle.vx_check_rules.specs.Refusal.{Rule}
use Rattle.vx_check_rules.specs.Tables.{refusal_by}
use Rattle.vx_check_rules.specs.Checked.{refusal_of_plan}
use Rattle.vx_check_directions.specs.Turned.{Choice, turned_outline}
use Rattle.vx_check_directions.proofs.Alike.{nodes-alike}
use Rattle.vx_check_directions.proofs.TurnedPlans.{plan-turned}
use Rattle.vx_check_directions.specs.Directed.{falls_of, directed_view}
use Rattle.vx_check_annotate.specs.Verdict.{refusal_in}
use Rattle.vx_check_annotate.specs.Possible.{possible, possible_choice}
use Rattle.vx_check_annotate.proofs.PossibleFacts.{possible-turned}
use Rattle.vx_check_annotate.specs.Claimed.{first_named, later_claims, named_forms}

-- the plan in the only directions that could be accepted
pub plan-possible : (catalog : ℕ → Relation) (o : Outline) → plan_in (turned_outline (possible_choice catalog) o) ≡ possible catalog (plan_in o)
plan-possible catalog o = plan-turned (possible_choice catalog) o ∙ sym (possible-turned catalog (plan_in o))

-- claims have the same names
pub named-turned : (s : Names) (claims : List Claim) (h : Choice) (o : Outline) → named_forms s claims (turned_outline h o) ≡ named_forms s claims o
named-turned s claims h (scan t r m z prefix) = refl
named-turned s claims h (unary t op flags o) = ap (λ forms. first_named s t.columns.names claims ∷ forms) (named-turned s (later_claims claims) h o)
named-turned s claims h (binary t op o u) =
    let count : nodes (plan_in (turned_outline h o)) ≡ nodes (plan_in o) = ap nodes (plan-turned h o) ∙ nodes-alike h (plan_in o) in
    let right : named_forms s (drop (nodes (plan_in (turned_outline h o))) (later_claims claims)) (turned_outline h u) ≡ named_forms s (drop (nodes (plan_in o)) (later_claims claims)) u =
    ap (λ n. named_forms s (drop n (later_claims claims)) (turned_outline h u)) count ∙ named-turned s (drop (nodes (plan_in o)) (later_claims claims)) h u in
    ap₂ (λ forms more. first_named s t.columns.names claims ∷ forms ++ more) (named-turned s (later_claims claims) h o) right
named-turned s claims h (exchange t k m o) = ap (λ forms. first_named s t.columns.names claims ∷ forms) (named-turned s (later_claims claims) h o)

-- ---- the plan that is judged

-- what refuses a typed plan in the directions that the claims of another one ask for is what refuses that one
pub judged : (d : TypedPlan) (p : TypedPlanView) → resolved_of d ≡ directed_view p → refusal_of_plan d ≡ refusal_in p
judged d p e =
    let F : TypedPlanView → Option (ℕ × Rule) = λ v. refusal_by v.derives (relation_at v.names.catalog) v.total (plan_in v.root) in
    ap F e ∙ ap (refusal_by p.derives (relation_at p.names.catalog) p.total) (plan-turned (falls_of p.derives (relation_at p.names.catalog)) p.root)
