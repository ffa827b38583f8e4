use Rattle.std.proofs.Common.{◌≡◌, map, take, string_bytes}
use Rattle.vx_catalog_relations.specs.Naming.{name_at}
use Rattle.vx_check_sql.proofs.texts.texts_at.Given as goal

abbrev pub invariant-loop-number : goal.invariant-loop-number
invariant-loop-number l =
    map string_bytes l.list.items ≡ map (name_at (map string_bytes l.texts)) (take l.number-index l.numbers)
