use Rattle.std.proofs.Common.{◌≡◌, map, take, string_bytes}
use Rattle.vx_plan_nodes.specs.Outline.{aggregate_of}
use Rattle.vx_check_sql.specs.Operators.{aggregate_sql}
use Rattle.vx_check_sql.proofs.conditions.aggregate_texts.Given as goal

abbrev pub invariant-loop-aggregate : goal.invariant-loop-aggregate
invariant-loop-aggregate l =
    map string_bytes l.list.items ≡ map (aggregate_sql l.dialect (map string_bytes l.columns)) (map aggregate_of (take l.aggregate-index l.aggregates))
