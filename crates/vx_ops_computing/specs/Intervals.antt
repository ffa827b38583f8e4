-- Rows by an interval of the numbers of one column.
use Rattle.std.specs.Prelude.{◌≡◌, ◌&&◌, ℤ, int_le, Bool, true}
use Rattle.vx_rows_values.specs.Types.{fits_64}
use Rattle.vx_rows_values.specs.Values.{Row, num, value_at}
use Rattle.vx_rows_views.specs.Selected.{of_number}
use Rattle.vx_plan_nodes.specs.declared.typed.Condition.{Condition}
use Rattle.vx_ops_kernels.specs.Holds.{holds_of}
use Rattle.vx_ops_computing.specs.declared.intervals.Interval.{Interval}

-- a number lies from low to high
abbrev pub lies_from : ℤ → ℤ → ℤ → Bool
lies_from low high z = int_le low z && int_le z high

-- the number of a row in the column of an interval lies in it
abbrev pub lies_in : Interval → Row → Bool
lies_in i row = of_number (lies_from i.low i.high) (value_at row i.column)

-- of a row with a number in the column: it lies in this interval where it lies in another one and a condition holds of the row
abbrev pub IsMeet : Interval → Condition → Interval → Type 0
IsMeet before condition i = (row : Row) (z : ℤ) → value_at row i.column ≡ num z → fits_64 z ≡ true → lies_from i.low i.high z ≡ (lies_from before.low before.high z && holds_of condition row)
