use Rattle.std.proofs.Common.{◌≡◌, ◌∙◌, ℕ, ap, ap₂, sym, subst}
use Rattle.std.proofs.lemmas.Result.{on_ok_weaker}
use Rattle.vx_catalog_relations.specs.Relation.{Relation}
use Rattle.vx_catalog_relations.specs.Catalog.{relation_at}
use Rattle.vx_plan_nodes.specs.declared.typed.TypedNode.{TypedNode}
use Rattle.vx_plan_nodes.specs.Outline.{top_of, binary_of, outline_of, plan_in, plan_of}
use Rattle.vx_plan_nodes.specs.Outline as outline
use Rattle.vx_plan_nodes.specs.Outputs.{HasOutputs}
use Rattle.vx_check_options.specs.Options.{places_at}
use Rattle.vx_check_directions.specs.Turned.{turned_outline}
use Rattle.vx_check_annotate.specs.Possible.{possible_operator, possible, possible_choice}
use Rattle.vx_check_directions.proofs.TurnedPlans.{outputs-turned}
use Rattle.vx_check_annotate.proofs.TurnedOutlines.{plan-possible}
use Rattle.vx_check_annotate.proofs.possible.+turn.Goals as goal

pub turn_operator-requires-clause-left : goal.turn_operator-requires-clause-left
turn_operator-requires-clause-left t c =
    let C : ℕ → Relation = relation_at c.args.catalog.now in
    let P : TypedNode → Type 0 = λ n. HasOutputs C (outline_of n) in
    let outputs = subst P c.in-Binary.is c.requires.outputs in
    let left : outline_of c.turn-in-Binary.new.node ≡ turned_outline (possible_choice C) (outline_of c.in-Binary.left.value) =
    c.in_ok-turn-in-Binary.ensures ∙ ap (λ n. turned_outline (possible_choice C) (outline_of n)) c.deref_mut-in-Binary.ensures.value in
    subst P (sym c.deref.ensures) (subst (HasOutputs C) (sym left) (outputs-turned C (possible_choice C) (outline_of c.in-Binary.left.value) outputs.1))

pub turn_operator-requires-clause-right : goal.turn_operator-requires-clause-right
turn_operator-requires-clause-right t c =
    let C : ℕ → Relation = relation_at c.args.catalog.now in
    let P : TypedNode → Type 0 = λ n. HasOutputs C (outline_of n) in
    let outputs = subst P c.in-Binary.is c.requires.outputs in
    let right : outline_of c.turn-in-Binary-2.new.node ≡ turned_outline (possible_choice C) (outline_of c.in-Binary.right.value) =
    c.in_ok-turn-in-Binary-2.ensures ∙ ap (λ n. turned_outline (possible_choice C) (outline_of n)) c.deref_mut-in-Binary-2.ensures.value in
    subst P (sym c.deref-in-Binary.ensures) (subst (HasOutputs C) (sym right) (outputs-turned C (possible_choice C) (outline_of c.in-Binary.right.value) outputs.2))

pub returns-in_ok-turn-in-Binary-2 : goal.returns-in_ok-turn-in-Binary-2
returns-in_ok-turn-in-Binary-2 t c =
    let C : ℕ → Relation = relation_at c.args.catalog.now in
    let Q : TypedNode → Type 0 = λ n. outline.binary (top_of c.in-Binary.field-0) (binary_of c.turn_operator.new.operator) (outline_of c.turn-in-Binary.new.node) (outline_of c.turn-in-Binary-2.new.node)
    ≡ turned_outline (possible_choice C) (outline_of n) in
    let left : outline_of c.turn-in-Binary.new.node ≡ turned_outline (possible_choice C) (outline_of c.in-Binary.left.value) =
    c.in_ok-turn-in-Binary.ensures ∙ ap (λ n. turned_outline (possible_choice C) (outline_of n)) c.deref_mut-in-Binary.ensures.value in
    let right : outline_of c.turn-in-Binary-2.new.node ≡ turned_outline (possible_choice C) (outline_of c.in-Binary.right.value) =
    c.in_ok-turn-in-Binary-2.ensures ∙ ap (λ n. turned_outline (possible_choice C) (outline_of n)) c.deref_mut-in-Binary-2.ensures.value in
    let first : plan_of c.deref.result.now ≡ possible C (plan_of c.in-Binary.left.value) = ap plan_of c.deref.ensures ∙ (ap plan_in left ∙ plan-possible C (outline_of c.in-Binary.left.value)) in
    let second : plan_of c.deref-in-Binary.result.now ≡ possible C (plan_of c.in-Binary.right.value) = ap plan_of c.deref-in-Binary.ensures ∙ (ap plan_in right ∙ plan-possible C (outline_of c.in-Binary.right.value)) in
    on_ok_weaker c.turn_operator.result
    (λ h. subst Q (sym c.in-Binary.is)
    (λ i. outline.binary (top_of c.in-Binary.field-0)
    ((h ∙ (ap₂ (λ p q. possible_operator (places_at C p) (places_at C q) (binary_of c.in-Binary.operator)) first second)) i) (left i) (right i)))
    c.turn_operator.ensures
