use Rattle.std.proofs.Common.{◌≡◌, ◌++◌, map, string_bytes, drop}
use Rattle.vx_check_sql.specs.Operators.{relation_columns}
use Rattle.vx_check_sql.proofs.relations.relation_columns.Given as goal

abbrev pub invariant-loop-i : goal.invariant-loop-i
invariant-loop-i l =
    map string_bytes l.list.items ++ relation_columns l.dialect l.called l.relation.types l.i (map string_bytes (drop l.i l.names))
    ≡ relation_columns l.dialect l.called l.relation.types 0 (map string_bytes l.names)
