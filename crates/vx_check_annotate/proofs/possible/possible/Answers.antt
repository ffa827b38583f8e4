use Rattle.std.proofs.Common.{◌≤◌, ℕ, sym, subst}
use Rattle.vx_rows_values.specs.Limits.{max_nodes}
use Rattle.vx_catalog_relations.specs.Relation.{Relation}
use Rattle.vx_catalog_relations.specs.Catalog.{relation_at}
use Rattle.vx_plan_nodes.specs.Names.{Names, scope_of}
use Rattle.vx_plan_nodes.specs.Numbering.{nodes}
use Rattle.vx_plan_nodes.specs.Outline.{Outline, outline_of, plan_in}
use Rattle.vx_plan_nodes.specs.Outputs.{HasOutputs}
use Rattle.vx_plan_nodes.specs.Plan.{Plan}
use Rattle.vx_plan_nodes.specs.Typed.{IsTyped}
use Rattle.vx_plan_nodes.specs.TypedView.{scope}
use Rattle.vx_check_directions.specs.Turned.{Choice, turned_outline}
use Rattle.vx_check_directions.proofs.TurnedPlans.{is-typed, plan-turned, outputs-turned, nodes-turned}
use Rattle.vx_check_annotate.specs.Possible.{possible_choice}
use Rattle.vx_check_annotate.proofs.PossibleFacts.{possible-full}
use Rattle.vx_check_annotate.proofs.possible.possible.Goals.{In_ok-turn}
use Rattle.vx_check_annotate.proofs.possible.possible.Goals as goal

-- the root of the given plan, and the directions that are left it
abbrev whole : In_ok-turn → Outline
whole c = outline_of c.into_parts-catalog.result.root

abbrev allowed : In_ok-turn → Choice
allowed c = possible_choice (relation_at c.into_parts-catalog.result.catalog)

pub new-requires-clause-typed : goal.new-requires-clause-typed
new-requires-clause-typed c =
    let P : Outline → Type 0 = λ o. IsTyped (scope c.args.typed) (plan_in o) in
    let Q : Plan → Type 0 = λ p. IsTyped (scope c.args.typed) p in
    let N : Names → Type 0 = λ n. IsTyped (scope_of n) (plan_in (outline_of c.turn.new.node)) in
    let turned : P (turned_outline (allowed c) (whole c)) =
    subst Q (sym (plan-turned (allowed c) (whole c)))
    (is-typed (scope c.args.typed) (allowed c) (possible-full (relation_at c.into_parts-catalog.result.catalog)) (plan_in (whole c)) c.into_parts-catalog.ensures.typed) in
    subst N (sym c.into_parts-catalog.ensures.names) (subst P (sym c.in_ok-turn.ensures) turned)

pub new-requires-clause-outputs : goal.new-requires-clause-outputs
new-requires-clause-outputs c =
    let C : ℕ → Relation = relation_at c.into_parts-catalog.result.catalog in
    let P : Outline → Type 0 = λ o. HasOutputs C o in
    let N : Names → Type 0 = λ n. HasOutputs (relation_at n.catalog) (whole c) in
    let given : HasOutputs C (whole c) = subst N (sym c.into_parts-catalog.ensures.names) c.into_parts-catalog.ensures.outputs in
    subst P (sym c.in_ok-turn.ensures) (outputs-turned C (allowed c) (whole c) given)

pub new-requires-clause-few : goal.new-requires-clause-few
new-requires-clause-few c =
    let P : Outline → Type 0 = λ o. nodes (plan_in o) ≤ max_nodes in
    let R : ℕ → Type 0 = λ n. n ≤ max_nodes in
    subst P (sym c.in_ok-turn.ensures) (subst R (sym (nodes-turned (allowed c) (whole c))) c.into_parts-catalog.ensures.few)
