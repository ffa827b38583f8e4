-- What the rows of a build side show.
use Rattle.vx_rows.specs.View.{RowsView}
use Rattle.vx_match_join.specs.declared.build_rows.BuildRows.{BuildRows}
use Rattle.vx_match_join.specs.declared.build_rows.BuildRows.TheVariants.{One, Several}

abbrev pub side_rows : BuildRows → RowsView
side_rows (One c) = c
side_rows (Several p) = p
