-- The columns that a set of the program holds.
use Rattle.std.specs.Prelude.{◌&&◌, ◌==◌, nat_lt}
use Rattle.std.specs.Int.{bit_at}
use Rattle.vx_rows_values.specs.Limits.{max_columns}
use Rattle.vx_plan_facts.specs.declared.column_set.ColumnSet as rust_set
use Rattle.vx_plan_facts.specs.Determined.{Columns}

abbrev pub set_of_columns : rust_set.ColumnSet → Columns
set_of_columns s c = nat_lt c max_columns && (bit_at s.held c == 1)
