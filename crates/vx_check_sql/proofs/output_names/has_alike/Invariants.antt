use Rattle.std.proofs.Common.{◌≡◌, map, string_bytes, drop}
use Rattle.vx_check_sql.specs.OutputNames.{has_alike}
use Rattle.vx_check_sql.proofs.output_names.has_alike.Given as goal

abbrev pub invariant-loop-other : goal.invariant-loop-other
invariant-loop-other l =
    has_alike l.name (map string_bytes (drop l.other-index l.others)) ≡ has_alike l.name (map string_bytes l.others)
