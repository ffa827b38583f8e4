use Rattle.std.proofs.Common.{◌≡◌, map, take, string_bytes}
use Rattle.vx_plan_nodes.specs.Outline.{entry_of}
use Rattle.vx_check_sql.specs.Operators.{made_sql}
use Rattle.vx_check_sql.proofs.conditions.made_texts.Given as goal

abbrev pub invariant-loop-entry : goal.invariant-loop-entry
invariant-loop-entry l =
    map string_bytes l.list.items ≡ map (made_sql l.dialect (map string_bytes l.columns)) (map entry_of (take l.entry-index l.entries))
