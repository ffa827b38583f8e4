use Rattle.std.proofs.Common.{◌≡◌, map, string_bytes, drop}
use Rattle.vx_check_sql.specs.OutputNames.{are_apart}
use Rattle.vx_check_sql.proofs.output_names.are_apart.Given as goal

abbrev pub invariant-loop-i : goal.invariant-loop-i
invariant-loop-i l =
    are_apart (map string_bytes (drop l.i l.names)) ≡ are_apart (map string_bytes l.names)
