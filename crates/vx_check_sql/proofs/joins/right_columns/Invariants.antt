use Rattle.std.proofs.Common.{◌≡◌, ◌++◌, map, string_bytes, drop}
use Rattle.vx_check_sql.specs.Operators.{right_columns}
use Rattle.vx_check_sql.proofs.joins.right_columns.Given as goal

abbrev pub invariant-loop-i : goal.invariant-loop-i
invariant-loop-i l =
    map string_bytes l.list.items ++ right_columns (map string_bytes l.lefts) l.on l.i (map string_bytes (drop l.i l.rights))
    ≡ right_columns (map string_bytes l.lefts) l.on 0 (map string_bytes l.rights)
