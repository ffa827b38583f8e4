-- As many types as columns.
use Rattle.std.proofs.Common.{◌≡◌, ℕ, ◌+◌, List, map, length, refl, ap, ◌∙◌, length-append}
use Rattle.std.proofs.lemmas.List.{length-map}
use Rattle.vx_rows_values.specs.declared.value.ColType.{ColType}
use Rattle.vx_rows_values.specs.Types.{type_at}
use Rattle.vx_catalog_relations.specs.Relation.{Relation}
use Rattle.vx_plan_nodes.specs.Plan.{Unary, select, project, distinct, sort, group, limit, Binary, union, join, semi_join, Plan, scan, unary, binary, exchange}
use Rattle.vx_plan_nodes.specs.Types.{entry_type, aggregate_type, unary_types, unary_width, binary_types, binary_width, types_of, width}

unary_types-width : (op : Unary) (types : List ColType) → length (unary_types op types) ≡ unary_width op (length types)
unary_types-width (select fs) types = refl
unary_types-width (project es) types = length-map es (entry_type types)
unary_types-width (distinct cols) types = length-map cols (type_at types)
unary_types-width (sort of_parts cols) types = refl
unary_types-width (group phase by aggregates) types =
    length-append (map (type_at types) by) (map (aggregate_type types) aggregates)
    ∙ ap (λ k. k + length (map (aggregate_type types) aggregates)) (length-map by (type_at types))
    ∙ ap (λ k. length by + k) (length-map aggregates (aggregate_type types))
unary_types-width (limit n) types = refl

binary_types-width : (op : Binary) (ts us : List ColType) → length (binary_types op ts us) ≡ binary_width op (length ts) (length us)
binary_types-width union ts us = refl
binary_types-width (join m on) ts us = length-append ts us
binary_types-width (semi_join matched on conditions) ts us = refl

pub types_of-width : (catalog : ℕ → Relation) (p : Plan) → length (types_of catalog p) ≡ width catalog p
types_of-width catalog (scan n c r m z) = refl
types_of-width catalog (unary n c op p) = unary_types-width op (types_of catalog p) ∙ ap (unary_width op) (types_of-width catalog p)
types_of-width catalog (binary n c op p q) =
    binary_types-width op (types_of catalog p) (types_of catalog q)
    ∙ ap (λ k. binary_width op k (length (types_of catalog q))) (types_of-width catalog p)
    ∙ ap (binary_width op (width catalog p)) (types_of-width catalog q)
types_of-width catalog (exchange n c k m p) = types_of-width catalog p
