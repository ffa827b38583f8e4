-- The text of a function and its operands, by the operands as a list.
use Rattle.std.proofs.Common.{◌≡◌, ◌++◌, List, [], ◌∷◌, map, refl, ap, ◌∙◌, Vec, Global, String, string_bytes, codes, false}
use Rattle.vx_rows_values.specs.declared.value.ColType.{ColType}
use Rattle.vx_plan_json.specs.declared.plan.NamedOperand.{NamedOperand, Call}
use Rattle.vx_plan_json.specs.Document.{OperandForm, operands_from, operand_form}
use Rattle.vx_plan_json.proofs.OperandFacts.{call_is}
use Rattle.vx_plan_drawing.specs.Description.{separated, operand_text, operand_texts}

texts-from : (os : List OperandForm) → operand_texts (operands_from os) ≡ map operand_text os
texts-from [] = refl
texts-from (o ∷ os) = ap (λ ts. operand_text o ∷ ts) (texts-from os)

pub call-text : (name : String Global) (t : ColType) (operands : Vec NamedOperand Global) → operand_text (operand_form (Call name t operands))
    ≡ string_bytes name ++ (codes "(" ++ (separated (codes ",") false (map operand_text (map operand_form operands.items)) ++ codes ")"))
call-text name t operands =
    ap operand_text (call_is name t operands)
    ∙ ap (λ ts. string_bytes name ++ (codes "(" ++ (separated (codes ",") false ts ++ codes ")"))) (texts-from (map operand_form operands.items))
