-- Expressions of the program over their operands as lists.
use Rattle.std.proofs.Common.{◌≡◌, ◌&&◌, List, [], ◌∷◌, map, refl, ap, ap₂, ◌∙◌, Vec, Global, String, string_bytes}
use Rattle.std.specs.List.{list_all}
use mathlib.Core.Former.{Count}
use Rattle.vx_rows_values.specs.declared.value.ColType.{ColType}
use Rattle.vx_plan_nodes.specs.declared.typed.Expression.{Expression, Call, Call', Row_of-Expression, end_of-Expression, more_of-Expression, items-the_row-Expression, items_hidden-the_row-Expression-0}
use Rattle.vx_plan_nodes.specs.Plan.{call, Operands, no_operands, operand}
use Rattle.vx_plan_nodes.specs.Outline.{function_of, expression_of, operands_of}
use Rattle.vx_plan_nodes.specs.Types.{expression_type}
use Rattle.vx_plan_nodes.specs.Known.{is_type, knows, knows_all, operand_types}

-- operands of a list
abbrev pub operands_in : List Expression → Operands
operands_in [] = no_operands
operands_in (e ∷ es) = operand (expression_of e) (operands_in es)

row-in : (n : _) (row : Row_of-Expression n) → operands_of row ≡ operands_in (items-the_row-Expression n row)
row-in n end_of-Expression = refl
row-in n (more_of-Expression e es) = ap (operand (expression_of e)) (row-in _ es)

abbrev row_of : Expression → (n : Count) × Row_of-Expression n
row_of (Call' _ _ _ row) = (_, row)
row_of _ = (_, end_of-Expression)

-- a call's operands are those of its list
pub call-is : (name : String Global) (t : ColType) (operands : Vec Expression Global) → expression_of (Call name t operands) ≡ call (function_of (string_bytes name)) t (operands_in operands.items)
call-is name t operands =
    let row = row_of (Call name t operands) in
    ap (call (function_of (string_bytes name)) t) (row-in row.0 row.1 ∙ ap operands_in (items_hidden-the_row-Expression-0 operands))

-- whether all are known, and their types
pub operands-known : (types : List ColType) (es : List Expression) → knows_all types (operands_in es) ≡ list_all (λ e. knows types (expression_of e)) es
operands-known types [] = refl
operands-known types (e ∷ es) = ap (λ b. knows types (expression_of e) && b) (operands-known types es)

pub operands-types : (types : List ColType) (es : List Expression) → operand_types types (operands_in es) ≡ map (λ e. expression_type types (expression_of e)) es
operands-types types [] = refl
operands-types types (e ∷ es) = ap (λ ts. expression_type types (expression_of e) ∷ ts) (operands-types types es)

-- whether a call is known
pub call-known : (types : List ColType) (name : String Global) (t : ColType) (operands : Vec Expression Global) → knows types (expression_of (Call name t operands))
    ≡ (list_all (λ e. knows types (expression_of e)) operands.items && is_type t ((function_of (string_bytes name)).signature (map (λ e. expression_type types (expression_of e)) operands.items)))
call-known types name t operands =
    ap (knows types) (call-is name t operands)
    ∙ ap₂ (λ b ts. b && is_type t ((function_of (string_bytes name)).signature ts)) (operands-known types operands.items) (operands-types types operands.items)
