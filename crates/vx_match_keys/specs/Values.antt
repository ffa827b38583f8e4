-- What a column of values shows.
use Rattle.std.specs.Prelude.{List}
use Rattle.vx_rows_values.specs.Values.{Row}
use Rattle.vx_match_keys.specs.declared.columns.ValueColumn.{ValueColumn}
use Rattle.vx_match_keys.specs.declared.columns.ValueColumn.TheVariants as value_column

abbrev pub value_keys : ValueColumn → List Row
value_keys (value_column.Ints c) = c
value_keys (value_column.Texts c) = c
