use Rattle.std.proofs.Common.{◌≡◌, map, max, string_bytes, drop}
use Rattle.vx_check_sql.specs.OwnNames.{greatest_level}
use Rattle.vx_check_sql.proofs.own_names.level_of_texts.Given as goal

abbrev pub invariant-loop-name : goal.invariant-loop-name
invariant-loop-name l =
    max l.greatest (greatest_level (map string_bytes (drop l.name-index l.names))) ≡ greatest_level (map string_bytes l.names)
