-- Calls under other functions, over their operands as lists.
use Rattle.std.proofs.Common.{◌≡◌, ◌&&◌, List, [], ◌∷◌, map, refl, ap, ap₂, ◌∙◌, Vec, Global, String, string_bytes}
use Rattle.std.specs.List.{list_all}
use Rattle.vx_rows_values.specs.declared.value.ColType.{ColType}
use Rattle.vx_plan_nodes.specs.declared.typed.Expression.{Expression, Call}
use Rattle.vx_plan_nodes.specs.Outline.{expression_of}
use Rattle.vx_plan_nodes.specs.Types.{expression_type}
use Rattle.vx_plan_nodes.specs.Known.{is_type, knows, knows_all, operand_types}
use Rattle.vx_plan_nodes.specs.Functions.{Functions, given_for}
use Rattle.vx_plan_nodes.specs.Under.{expression_under, operands_under}
use Rattle.vx_plan_nodes.proofs.ExpressionFacts.{operands_in, call-is}
use Rattle.vx_plan_nodes.proofs.UnderFacts.{expression-type-under}

operands-known : (given : Functions) (types : List ColType) (es : List Expression) → knows_all types (operands_under given (operands_in es)) ≡ list_all (λ e. knows types (expression_under given (expression_of e))) es
operands-known given types [] = refl
operands-known given types (e ∷ es) = ap (λ b. knows types (expression_under given (expression_of e)) && b) (operands-known given types es)

operands-types : (given : Functions) (types : List ColType) (es : List Expression) → operand_types types (operands_under given (operands_in es)) ≡ map (λ e. expression_type types (expression_of e)) es
operands-types given types [] = refl
operands-types given types (e ∷ es) = ap₂ (λ t ts. t ∷ ts) (expression-type-under given types (expression_of e)) (operands-types given types es)

pub call-known : (given : Functions) (types : List ColType) (name : String Global) (t : ColType) (operands : Vec Expression Global) → knows types (expression_under given (expression_of (Call name t operands)))
    ≡ (list_all (λ e. knows types (expression_under given (expression_of e))) operands.items && is_type t ((given_for given (string_bytes name)).signature (map (λ e. expression_type types (expression_of e)) operands.items)))
call-known given types name t operands =
    ap (λ e. knows types (expression_under given e)) (call-is name t operands)
    ∙ ap₂ (λ b ts. b && is_type t ((given_for given (string_bytes name)).signature ts)) (operands-known given types operands.items) (operands-types given types operands.items)
