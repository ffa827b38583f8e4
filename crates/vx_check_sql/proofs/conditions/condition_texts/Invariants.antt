use Rattle.std.proofs.Common.{◌≡◌, map, take, string_bytes}
use Rattle.vx_plan_nodes.specs.Outline.{condition_of}
use Rattle.vx_check_sql.specs.Operators.{condition_sql}
use Rattle.vx_check_sql.proofs.conditions.condition_texts.Given as goal

abbrev pub invariant-loop-condition : goal.invariant-loop-condition
invariant-loop-condition l =
    map string_bytes l.list.items ≡ map (condition_sql l.dialect (map string_bytes l.columns)) (map condition_of (take l.condition-index l.conditions))
