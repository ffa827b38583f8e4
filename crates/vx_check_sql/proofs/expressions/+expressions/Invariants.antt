use Rattle.std.proofs.Common.{◌≡◌, ◌++◌, map, string_bytes, drop}
use Rattle.vx_plan_nodes.specs.Outline.{expression_of}
use Rattle.vx_check_sql.specs.Functions.{spaced}
use Rattle.vx_check_sql.specs.FunctionsView.{form_of}
use Rattle.vx_check_sql.specs.Expressions.{expression_sql}
use Rattle.vx_check_sql.proofs.expressions.+expressions.Given as goal

abbrev pub invariant-push_operands-loop-i : goal.invariant-push_operands-loop-i
invariant-push_operands-loop-i l =
    string_bytes l.text ++ spaced (form_of l.form) l.i (map (λ e. expression_sql l.dialect (map string_bytes l.columns) l.asks (expression_of e)) (drop l.i l.operands))
    ≡ string_bytes l.initial.text ++ spaced (form_of l.form) 0 (map (λ e. expression_sql l.dialect (map string_bytes l.columns) l.asks (expression_of e)) l.operands)
