-- The text of a call, by its operands as a list.
use Rattle.std.proofs.Common.{◌≡◌, ◌++◌, List, [], ◌∷◌, map, refl, ap, ◌∙◌, Vec, Global, String, string_bytes, codes, false}
use Rattle.vx_rows_values.specs.Values.{Name}
use Rattle.vx_rows_values.specs.declared.value.ColType.{ColType}
use Rattle.vx_plan_nodes.specs.declared.typed.Expression.{Expression, Call}
use Rattle.vx_plan_nodes.specs.Outline.{expression_of}
use Rattle.vx_plan_nodes.proofs.ExpressionFacts.{operands_in, call-is}
use Rattle.vx_check.specs.Explain.{separated, expression_text, operand_texts}

operand-texts : (names : List Name) (es : List Expression) → operand_texts names (operands_in es) ≡ map (λ e. expression_text names (expression_of e)) es
operand-texts names [] = refl
operand-texts names (e ∷ es) = ap (λ ts. expression_text names (expression_of e) ∷ ts) (operand-texts names es)

pub call-text : (names : List Name) (name : String Global) (t : ColType) (operands : Vec Expression Global) → expression_text names (expression_of (Call name t operands))
    ≡ string_bytes name ++ (codes "(" ++ (separated (codes ",") false (map (λ e. expression_text names (expression_of e)) operands.items) ++ codes ")"))
call-text names name t operands =
    ap (expression_text names) (call-is name t operands)
    ∙ ap (λ ts. string_bytes name ++ (codes "(" ++ (separated (codes ",") false ts ++ codes ")"))) (operand-texts names operands.items)
