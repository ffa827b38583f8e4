-- Whether a plan's functions take what it gives them, and answer what it says of them: only such a plan is run.
use Rattle.std.specs.Prelude.{ℕ, Bool, true, false, cond, ◌&&◌, List, [], ◌∷◌, Option, Some, None}
use Rattle.std.specs.List.{list_all}
use Rattle.std.specs.Option.{option_or}
use Rattle.vx_rows_values.specs.declared.value.ColType.{ColType}
use Rattle.vx_catalog_relations.specs.Relation.{Relation}
use Rattle.vx_plan_nodes.specs.Plan.{Expression, input, value, call, Operands, no_operands, operand, Filter, comparing, computing, Entry, copy_of, made_by, Unary, select, project, Plan, scan, unary, binary, exchange}
use Rattle.vx_plan_nodes.specs.Typed.{type_eq}
use Rattle.vx_plan_nodes.specs.Types.{expression_type, types_of}

-- it is this type
abbrev pub is_type : ColType → Option ColType → Bool
is_type t (Some u) = type_eq t u
is_type t None = false

abbrev pub operand_types : List ColType → Operands → List ColType
operand_types types no_operands = []
operand_types types (operand e es) = expression_type types e ∷ operand_types types es

abbrev mutual
  -- each function in it has a signature for the types of its operands, with the type that the plan says
  pub knows : List ColType → Expression → Bool
  knows types (input c) = true
  knows types (value v) = true
  knows types (call f t es) = knows_all types es && is_type t (f.signature (operand_types types es))

  pub knows_all : List ColType → Operands → Bool
  knows_all types no_operands = true
  knows_all types (operand e es) = knows types e && knows_all types es

abbrev pub filter_known : List ColType → Filter → Bool
filter_known types (comparing c) = true
filter_known types (computing e) = knows types e

abbrev pub entry_known : List ColType → Entry → Bool
entry_known types (copy_of c) = true
entry_known types (made_by e) = knows types e

-- of an operator over an input with these types
abbrev pub unary_known : List ColType → Unary → Bool
unary_known types (select fs) = list_all (filter_known types) fs
unary_known types (project es) = list_all (entry_known types) es
unary_known types op = true

-- the number of the first node, inputs before their node and left before right, with a function that is not known
abbrev pub first_unknown : (ℕ → Relation) → Plan → Option ℕ
first_unknown catalog (scan n c r m z) = None
first_unknown catalog (unary n c op p) = option_or (first_unknown catalog p) (cond (unary_known (types_of catalog p) op) None (Some n))
first_unknown catalog (binary n c op p q) = option_or (first_unknown catalog p) (first_unknown catalog q)
first_unknown catalog (exchange n c k m p) = first_unknown catalog p
