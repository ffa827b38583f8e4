use Rattle.std.proofs.Common.{◌≡◌, ◌++◌, map, string_bytes, codes, false, drop, nat_lt}
use Rattle.vx_plan_json.specs.Document.{operand_form}
use Rattle.vx_plan_drawing.specs.Description.{separated, operand_text}
use Rattle.vx_plan_drawing.proofs.describe.+operands.Given as goal

abbrev pub invariant-push_operands-loop-i : goal.invariant-push_operands-loop-i
invariant-push_operands-loop-i l =
    string_bytes l.text ++ separated (codes ",") (nat_lt 0 l.i) (map operand_text (map operand_form (drop l.i l.operands)))
    ≡ string_bytes l.initial.text ++ separated (codes ",") false (map operand_text (map operand_form l.operands))
