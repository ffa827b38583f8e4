use Rattle.std.proofs.Common.{◌≡◌, ◌++◌, map, string_bytes, drop}
use Rattle.vx_check_sql.specs.OutputNames.{numbered}
use Rattle.vx_check_sql.proofs.output_names.numbered.Given as goal

abbrev pub invariant-loop-i : goal.invariant-loop-i
invariant-loop-i l =
    map string_bytes l.list.items ++ numbered l.node l.i (map string_bytes (drop l.i l.names)) ≡ numbered l.node 0 (map string_bytes l.names)
