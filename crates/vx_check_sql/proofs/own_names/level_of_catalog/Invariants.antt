use Rattle.std.proofs.Common.{◌≡◌, max, drop}
use Rattle.std.specs.List.{flat_map}
use Rattle.vx_check_sql.specs.OwnNames.{names_of, greatest_level}
use Rattle.vx_check_sql.proofs.own_names.level_of_catalog.Given as goal

abbrev pub invariant-loop-i : goal.invariant-loop-i
invariant-loop-i l =
    max l.greatest (greatest_level (flat_map names_of (drop l.i l.catalog))) ≡ greatest_level (flat_map names_of l.catalog)
