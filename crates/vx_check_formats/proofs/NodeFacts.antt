-- What is known of the columns of a node: its classes, one column further, and where it stands among that of all nodes.
use Rattle.std.proofs.Common.{◌≡◌, ◌∙◌, ℕ, ◌+◌, List, ◌++◌, map, flat_map, ap, sym}
use Rattle.std.proofs.lemmas.List.{map-append}
use Rattle.serde_json.specs.Data.{Data}
use Rattle.vx_rows_values.specs.Values.{Name}
use Rattle.vx_catalog_relations.specs.Relation.{Relation}
use Rattle.vx_plan_nodes.specs.Plan.{Plan, scan, unary, binary, exchange}
use Rattle.vx_plan_nodes.specs.Phases.{first_columns}
use Rattle.vx_plan_facts.specs.Equal.{Equality}
use Rattle.vx_plan_facts.specs.Facts.{Facts, StandAt, AreNumbered}
use Rattle.vx_plan_facts.proofs.ValueLists.{flat-push}
use Rattle.vx_check_formats.specs.Json.{columns_json, class_at, class_if}

pub classes-more : (names : List Name) (w : ℕ) (e : Equality) (n : ℕ) (class : List ℕ) (old new : List Data)
    → old ≡ map (columns_json names) (flat_map (λ c. class_if c (class_at w e c)) (first_columns n)) → new ≡ old ++ map (columns_json names) (class_if n class) → class ≡ class_at w e n
    → new ≡ map (columns_json names) (flat_map (λ c. class_if c (class_at w e c)) (first_columns (n + 1)))
classes-more names w e n class old new is more same =
    let each : ℕ → List (List ℕ) = λ c. class_if c (class_at w e c) in
    more ∙ ap (λ ds. ds ++ map (columns_json names) (class_if n class)) is
    ∙ ap (λ cs. map (columns_json names) (flat_map each (first_columns n)) ++ map (columns_json names) (class_if n cs)) same
    ∙ sym (map-append (columns_json names) (flat_map each (first_columns n)) (each n)) ∙ ap (map (columns_json names)) (sym (flat-push each n))

pub top-stands : (catalog : ℕ → Relation) (facts : List Facts) (p : Plan) → AreNumbered catalog facts p → StandAt catalog facts p
top-stands catalog facts (scan n c r m z) h = h
top-stands catalog facts (unary n c op p) h = h.0
top-stands catalog facts (binary n c op p q) h = h.0
top-stands catalog facts (exchange n c k m p) h = h.0
