-- The claim that is said to be shown at a node is shown there.
use Rattle.std.proofs.Common.{◌≡◌, ℕ, Bool, true, false, cond, Option, Some, None, option_map, refl}
use Rattle.std.specs.Prelude.{IfSome}
use Rattle.vx_catalog_relations.specs.Relation.{Relation}
use Rattle.vx_plan_nodes.specs.Plan.{Part, Plan}
use Rattle.vx_plan_nodes.specs.Outline.{claim_of}
use Rattle.vx_plan_nodes.specs.declared.typed.Claim as rust_claim
use Rattle.vx_check_rules.specs.Rules.{sizes_match, not_replicated, inputs_match, order_given, first_rows_known}
use Rattle.vx_check_rules.specs.Refusal.{Rule, size_mismatch, replicated_input, inputs_not_matched, order_needed, first_rows_open, first_failure, node_tests}
use Rattle.vx_check_rules.specs.Behaviour.{node_part}
use Rattle.vx_check_rules.specs.Carried.{Shows, carried}
use Rattle.vx_check_rules.proofs.Carrying.{carried-is-shown}
use Rattle.vx_check_failures.specs.Shown.{is_of_claim}

-- where the first test that fails is one of claims, no test of the operator fails
operator-fits : (s r i o f : Bool) (rest : Option Rule)
    → is_of_claim (cond s (cond r (cond i (cond o (cond f rest (Some first_rows_open)) (Some order_needed)) (Some inputs_not_matched)) (Some replicated_input)) (Some size_mismatch)) ≡ true
    → (s ≡ true) × (r ≡ true) × (i ≡ true) × (o ≡ true) × (f ≡ true)
operator-fits true true true true true rest h = (refl, refl, refl, refl, refl)
operator-fits true true true true false rest h = cc
operator-fits true true true false f rest h = cc
operator-fits true true false o f rest h = cc
operator-fits true false i o f rest h = cc
operator-fits false r i o f rest h = cc

-- a claim that the program makes of what is carried up
pub shown-some : (catalog : ℕ → Relation) (p : Plan) (o : Option rust_claim.Claim) → is_of_claim (first_failure (node_tests catalog p)) ≡ true
    → option_map claim_of o ≡ option_map (carried catalog p) (node_part catalog p) → IfSome o (λ c. Shows catalog p (claim_of c))
shown-some catalog p None fits h = tt
shown-some catalog p (Some c) fits h = by (node_part catalog p) refl h
  where
    by : (x : Option Part) → node_part catalog p ≡ x → Some (claim_of c) ≡ option_map (carried catalog p) x → Shows catalog p (claim_of c)
    by None e k = cc
    by (Some q) e k =
        let is : claim_of c ≡ carried catalog p q = cc in
        let fit = operator-fits (sizes_match p) (not_replicated p) (inputs_match p) (order_given p) (first_rows_known catalog p) _ fits in
        rw is (carried-is-shown catalog p q fit.0 fit.1 fit.2 fit.3 fit.4 e)
