use Rattle.std.proofs.Common.{◌≡◌, ◌∙◌, ◌≤◌, ℕ, map, sym, ap, subst}
use Rattle.vx_rows_values.specs.Limits.{max_nodes}
use Rattle.vx_catalog_relations.specs.Relation.{Relation}
use Rattle.vx_catalog_relations.specs.Catalog.{relation_at}
use Rattle.vx_plan_nodes.specs.Names.{Names, scope_of}
use Rattle.vx_plan_nodes.specs.Numbering.{nodes}
use Rattle.vx_plan_nodes.specs.Outline.{Outline, outline_of, plan_in}
use Rattle.vx_plan_nodes.specs.Outputs.{HasOutputs}
use Rattle.vx_plan_nodes.specs.Plan.{Plan}
use Rattle.vx_plan_nodes.specs.Typed.{Scope, IsTyped}
use Rattle.vx_plan_nodes.specs.TypedView.{names_in, scope, resolved_of}
use Rattle.vx_check_directions.specs.Turned.{Choice, turned_outline}
use Rattle.vx_check_directions.specs.Directed.{falls_of}
use Rattle.vx_check_directions.proofs.TurnedPlans.{falls-full, is-typed, plan-turned, outputs-turned, nodes-turned, root-turned}
use Rattle.vx_check_directions.proofs.directing.direct.Goals.{In_ok-turn}
use Rattle.vx_check_directions.proofs.directing.direct.Goals as goal

-- the root of the given plan
abbrev whole : In_ok-turn → Outline
whole c = (resolved_of c.args.plan).root

-- what its claims ask for
abbrev asked : In_ok-turn → Choice
asked c = falls_of (resolved_of c.args.plan).derives (relation_at (scope c.args.plan).catalog)

-- the root that was made of it
root-is : (c : In_ok-turn) → outline_of c.turn.new.node ≡ turned_outline (asked c) (whole c)
root-is c =
    let P : Outline → Type 0 = λ o. IsTyped (scope c.args.plan) (plan_in o) in
    let typed : P (whole c) = subst P c.into_parts-parts.ensures.root c.into_parts-parts.ensures.typed in
    root-turned (asked c) (map (λ v. v.items) c.as_slice.result.now) (whole c) (outline_of c.into_parts-parts.result.root) (outline_of c.turn.new.node) c.into_parts-parts.ensures.root typed.numbered
    (ap (map (λ v. v.items)) c.as_slice.ensures.value ∙ c.in_ok-falls.ensures) c.in_ok-turn.ensures

pub new-requires-clause-typed : goal.new-requires-clause-typed
new-requires-clause-typed c =
    let s : Scope = scope c.args.plan in
    let h : Choice = asked c in
    let P : Outline → Type 0 = λ o. IsTyped s (plan_in o) in
    let Q : Plan → Type 0 = λ p. IsTyped s p in
    let N : Names → Type 0 = λ n. IsTyped (scope_of n) (plan_in (outline_of c.turn.new.node)) in
    let given : P (whole c) = subst P c.into_parts-parts.ensures.root c.into_parts-parts.ensures.typed in
    let turned : P (turned_outline h (whole c)) = subst Q (sym (plan-turned h (whole c))) (is-typed s h (falls-full (resolved_of c.args.plan).derives (relation_at s.catalog)) (plan_in (whole c)) given) in
    subst N (sym c.into_parts-parts.ensures.names) (subst P (sym (root-is c)) turned)

pub new-requires-clause-outputs : goal.new-requires-clause-outputs
new-requires-clause-outputs c =
    let C : ℕ → Relation = relation_at (scope c.args.plan).catalog in
    let P : Outline → Type 0 = λ o. HasOutputs C o in
    let N : Names → Type 0 = λ n. HasOutputs (relation_at n.catalog) (outline_of c.turn.new.node) in
    let given : P (whole c) = subst P c.into_parts-parts.ensures.root c.into_parts-parts.ensures.outputs in
    subst N (sym c.into_parts-parts.ensures.names) (subst P (sym (root-is c)) (outputs-turned C (asked c) (whole c) given))

pub new-requires-clause-few : goal.new-requires-clause-few
new-requires-clause-few c =
    let P : Outline → Type 0 = λ o. nodes (plan_in o) ≤ max_nodes in
    let R : ℕ → Type 0 = λ n. n ≤ max_nodes in
    let given : P (whole c) = subst P c.into_parts-parts.ensures.root c.into_parts-parts.ensures.few in
    subst P (sym (root-is c)) (subst R (sym (nodes-turned (asked c) (whole c))) given)

pub returns : goal.returns
returns c =
    let P : Outline → Type 0 = λ o. IsTyped (scope c.args.plan) (plan_in o) in
    let all : Outline = (resolved_of c.args.plan).root in
    let h : Choice = falls_of (resolved_of c.args.plan).derives (relation_at (scope c.args.plan).catalog) in
    let typed : P all = subst P c.into_parts-parts.ensures.root c.into_parts-parts.ensures.typed in
    let made : outline_of c.turn.new.node ≡ turned_outline h all =
    root-turned h (map (λ v. v.items) c.as_slice.result.now) all (outline_of c.into_parts-parts.result.root) (outline_of c.turn.new.node) c.into_parts-parts.ensures.root typed.numbered
    (ap (map (λ v. v.items)) c.as_slice.ensures.value ∙ c.in_ok-falls.ensures) c.in_ok-turn.ensures in
    let names : names_in c.new.result ≡ names_in c.args.plan = c.new.ensures.names ∙ c.into_parts-parts.ensures.names in
    let total : (resolved_of c.new.result).total ≡ (resolved_of c.args.plan).total = c.new.ensures.total ∙ c.into_parts-parts.ensures.total in
    let derives : (resolved_of c.new.result).derives ≡ (resolved_of c.args.plan).derives = c.new.ensures.derives ∙ c.into_parts-parts.ensures.derives in
    let root : (resolved_of c.new.result).root ≡ turned_outline h all = c.new.ensures.root ∙ made in
    λ i. record { names = names i; total = total i; derives = derives i; root = root i }
