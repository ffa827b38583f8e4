-- What a caller sees of the kernel of a sort, and what it has read.
use Rattle.std.specs.Prelude.{◌≡◌, ℕ, Bool, List, length}
use Rattle.vx_rows_values.specs.declared.order.OrderEntry.{OrderEntry}
use Rattle.vx_rows_values.specs.Values.{Row}
use Rattle.vx_rows.specs.View.{RowsView}
use Rattle.vx_plan_nodes.specs.Plan.{Unary, sort}
use Rattle.vx_ops.specs.Turn.{Shape}

-- whether it sorts parts of groups, the order that it puts rows in, and the rows that it has read
pub record SortingView : Type 0 where
  pub of_parts : Bool
  pub order : List OrderEntry
  pub table : RowsView

abbrev pub sorting : SortingView → Unary
sorting s = sort s.of_parts s.order

abbrev pub sorting_types : SortingView → Shape
sorting_types s = record { left = s.table.types; right = s.table.types; out = s.table.types }

abbrev pub SortingHasRead : SortingView → List Row → Type 0
SortingHasRead s xs = s.table.rows ≡ xs

-- the rows that it has to sort
abbrev pub sorting_held : SortingView → ℕ
sorting_held s = length s.table.rows
