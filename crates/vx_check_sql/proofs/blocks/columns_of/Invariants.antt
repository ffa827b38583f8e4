use Rattle.std.proofs.Common.{◌≡◌, map, take, string_bytes}
use Rattle.vx_check_sql.specs.Blocks.{column_of}
use Rattle.vx_check_sql.proofs.blocks.columns_of.Given as goal

abbrev pub invariant-loop-name : goal.invariant-loop-name
invariant-loop-name l =
    map string_bytes l.list.items ≡ map (column_of l.alias) (map string_bytes (take l.name-index l.names))
