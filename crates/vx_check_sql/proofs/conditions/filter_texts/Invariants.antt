use Rattle.std.proofs.Common.{◌≡◌, map, take, string_bytes}
use Rattle.vx_plan_nodes.specs.Outline.{filter_of}
use Rattle.vx_check_sql.specs.Operators.{filter_sql}
use Rattle.vx_check_sql.proofs.conditions.filter_texts.Given as goal

abbrev pub invariant-loop-filter : goal.invariant-loop-filter
invariant-loop-filter l =
    map string_bytes l.list.items ≡ map (filter_sql l.dialect (map string_bytes l.columns)) (map filter_of (take l.filter-index l.filters))
