use Rattle.std.proofs.Common.{◌≡◌, map, string_bytes, drop}
use Rattle.vx_check_sql.specs.Statement.{are_same}
use Rattle.vx_check_sql.proofs.statement.are_same.Given as goal

abbrev pub invariant-loop-i : goal.invariant-loop-i
invariant-loop-i l =
    are_same (map string_bytes (drop l.i l.texts)) (map string_bytes (drop l.i l.others)) ≡ are_same (map string_bytes l.texts) (map string_bytes l.others)
