use Rattle.std.proofs.Common.{◌≡◌, map, take, string_bytes}
use Rattle.vx_check_sql.specs.Words.{identifier}
use Rattle.vx_check_sql.proofs.output_names.identifiers.Given as goal

abbrev pub invariant-loop-name : goal.invariant-loop-name
invariant-loop-name l =
    map string_bytes l.list.items ≡ map (identifier l.dialect) (map string_bytes (take l.name-index l.names))
