-- The types of a plan's output columns, and how many there are.
use Rattle.std.specs.Prelude.{ℕ, ◌+◌, ◌==◌, ◌&&◌, Bool, List, [], ◌++◌, map, length}
use Rattle.vx_rows_values.specs.Order.{order_columns}
use Rattle.std.specs.List.{list_all}
use Rattle.vx_rows_values.specs.declared.value.ColType.{ColType}
use Rattle.vx_rows_values.specs.declared.value.ColType.TheVariants.{Int}
use Rattle.vx_rows_values.specs.Types.{type_of, type_at}
use Rattle.vx_catalog_relations.specs.Relation.{Relation}
use Rattle.vx_catalog_relations.specs.Catalog.{all_below}
use Rattle.vx_plan_nodes.specs.Plan.{Part, routed, Claim, Expression, input, value, call, Entry, copy_of, made_by, Aggregate, least, greatest, sum, count_rows, Unary, select, project, distinct, sort, group, limit, Binary, union, join, semi_join, Plan, scan, unary, binary, exchange}
use Rattle.vx_plan_nodes.specs.Phases.{phase_fits, both_closed}

-- a least and a greatest value have the column's type, a sum and a count are numbers
abbrev pub aggregate_type : List ColType → Aggregate → ColType
aggregate_type types (least c) = type_at types c
aggregate_type types (greatest c) = type_at types c
aggregate_type types (sum c) = Int
aggregate_type types count_rows = Int

-- the type of an expression: of a function's answer the one that the plan says
abbrev pub expression_type : List ColType → Expression → ColType
expression_type types (input c) = type_at types c
expression_type types (value v) = type_of v
expression_type types (call f t es) = t

abbrev pub entry_type : List ColType → Entry → ColType
entry_type types (copy_of c) = type_at types c
entry_type types (made_by e) = expression_type types e

-- of an operator over one input with these types
abbrev pub unary_types : Unary → List ColType → List ColType
unary_types (select fs) types = types
unary_types (project es) types = map (entry_type types) es
unary_types (distinct cols) types = map (type_at types) cols
unary_types (sort of_parts cols) types = types
unary_types (group phase by aggregates) types = map (type_at types) by ++ map (aggregate_type types) aggregates
unary_types (limit n) types = types

-- of an operator over two inputs
abbrev pub binary_types : Binary → List ColType → List ColType → List ColType
binary_types union ts us = ts
binary_types (join m on) ts us = ts ++ us
binary_types (semi_join matched on conditions) ts us = ts

-- the types of the output columns
abbrev pub types_of : (ℕ → Relation) → Plan → List ColType
types_of catalog (scan n c r m z) = (catalog r).types
types_of catalog (unary n c op p) = unary_types op (types_of catalog p)
types_of catalog (binary n c op p q) = binary_types op (types_of catalog p) (types_of catalog q)
types_of catalog (exchange n c k m p) = types_of catalog p

-- the same, counted
abbrev pub unary_width : Unary → ℕ → ℕ
unary_width (select fs) w = w
unary_width (project es) w = length es
unary_width (distinct cols) w = length cols
unary_width (sort of_parts cols) w = w
unary_width (group phase by aggregates) w = length by + length aggregates
unary_width (limit n) w = w

abbrev pub binary_width : Binary → ℕ → ℕ → ℕ
binary_width union v w = v
binary_width (join m on) v w = v + w
binary_width (semi_join matched on conditions) v w = v

-- the number of output columns: the law `typed_plan_is_well_formed` shows that it is the number of their types
abbrev pub width : (ℕ → Relation) → Plan → ℕ
width catalog (scan n c r m z) = length (catalog r).types
width catalog (unary n c op p) = unary_width op (width catalog p)
width catalog (binary n c op p q) = binary_width op (width catalog p) (width catalog q)
width catalog (exchange n c k m p) = width catalog p

-- the columns that a part names
abbrev pub part_columns : Part → List ℕ
part_columns (routed r cols) = cols
part_columns _ = []

-- a claim names columns of the output
abbrev pub names_columns : ℕ → Claim → Bool
names_columns w c = all_below w (part_columns c.part) && (all_below w (order_columns c.order) && list_all (all_below w) c.keys)

-- the part of being typed that the meaning of claims needs: claims name output columns, the inputs of a union are equally wide, and each final grouping
-- stands over its partial, each partial under its final
abbrev pub well_formed : (ℕ → Relation) → Plan → Bool
well_formed catalog (scan n c r m z) = names_columns (width catalog (scan n c r m z)) c
well_formed catalog (unary n c op p) = well_formed catalog p && (phase_fits op p && names_columns (width catalog (unary n c op p)) c)
well_formed catalog (binary n c union p q) =
    well_formed catalog p && (well_formed catalog q && (both_closed p q && ((width catalog p == width catalog q) && names_columns (width catalog p) c)))
well_formed catalog (binary n c (join m on) p q) =
    well_formed catalog p && (well_formed catalog q && (both_closed p q && names_columns (width catalog p + width catalog q) c))
well_formed catalog (binary n c (semi_join matched on conditions) p q) =
    well_formed catalog p && (well_formed catalog q && (both_closed p q && names_columns (width catalog p) c))
well_formed catalog (exchange n c k m p) = well_formed catalog p && names_columns (width catalog p) c
