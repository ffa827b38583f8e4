-- A call in SQL, by its operands as a list.
use Rattle.std.proofs.Common.{◌≡◌, Bool, ℕ, List, [], ◌∷◌, map, refl, ap, ◌∙◌, Vec, Global, String, string_bytes}
use Rattle.vx_rows_values.specs.declared.value.ColType.{ColType}
use Rattle.vx_functions.specs.Standard.{named}
use Rattle.vx_plan_nodes.specs.declared.typed.Expression.{Expression, Call}
use Rattle.vx_plan_nodes.specs.Outline.{expression_of}
use Rattle.vx_plan_nodes.proofs.ExpressionFacts.{operands_in, call-is}
use Rattle.vx_check_sql.specs.declared.dialect.Dialect.{Dialect}
use Rattle.vx_check_sql.specs.Functions.{call_sql, tests_operands}
use Rattle.vx_check_sql.specs.Expressions.{expression_sql, operands_sql}

operands-sql : (d : Dialect) (m : List (List ℕ)) (asks : Bool) (es : List Expression) → operands_sql d m asks (operands_in es) ≡ map (λ e. expression_sql d m asks (expression_of e)) es
operands-sql d m asks [] = refl
operands-sql d m asks (e ∷ es) = ap (λ xs. expression_sql d m asks (expression_of e) ∷ xs) (operands-sql d m asks es)

pub call-sql : (d : Dialect) (m : List (List ℕ)) (asks : Bool) (name : String Global) (t : ColType) (operands : Vec Expression Global) → expression_sql d m asks (expression_of (Call name t operands))
    ≡ call_sql d asks (named (string_bytes name)) (map (λ e. expression_sql d m (tests_operands (named (string_bytes name))) (expression_of e)) operands.items)
call-sql d m asks name t operands =
    ap (expression_sql d m asks) (call-is name t operands)
    ∙ ap (call_sql d asks (named (string_bytes name))) (operands-sql d m (tests_operands (named (string_bytes name))) operands.items)
