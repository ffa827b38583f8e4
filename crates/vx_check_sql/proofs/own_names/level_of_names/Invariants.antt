use Rattle.std.proofs.Common.{◌≡◌, max, drop}
use Rattle.vx_check_sql.specs.OwnNames.{greatest_level}
use Rattle.vx_check_sql.proofs.own_names.level_of_names.Given as goal

abbrev pub invariant-loop-name : goal.invariant-loop-name
invariant-loop-name l =
    max l.greatest (greatest_level (drop l.name-index l.names)) ≡ greatest_level l.names
