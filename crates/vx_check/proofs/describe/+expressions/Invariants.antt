use Rattle.std.proofs.Common.{◌≡◌, ◌++◌, map, string_bytes, codes, false, drop, nat_lt}
use Rattle.vx_plan_nodes.specs.Outline.{expression_of}
use Rattle.vx_check.specs.Explain.{separated, expression_text}
use Rattle.vx_check.proofs.describe.+expressions.Given as goal

abbrev pub invariant-push_operands-loop-i : goal.invariant-push_operands-loop-i
invariant-push_operands-loop-i l =
    string_bytes l.text ++ separated (codes ",") (nat_lt 0 l.i) (map (λ e. expression_text l.names (expression_of e)) (drop l.i l.operands))
    ≡ string_bytes l.initial.text ++ separated (codes ",") false (map (λ e. expression_text l.names (expression_of e)) l.operands)
