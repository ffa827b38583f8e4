use Rattle.std.proofs.Common.{◌≡◌, ◌++◌, true, map, take}
use Rattle.std.specs.List.{list_all}
use Rattle.vx_rows_values.specs.ValueView.{cell_val}
use Rattle.vx_match_grouping.specs.Groups.{held_at, held_fits}
use Rattle.vx_match_grouping.specs.Shown.{column_held}
use Rattle.vx_match_grouping.proofs.grouping.cells_of.Given as goal

abbrev pub invariant-loop-column : goal.invariant-loop-column
invariant-loop-column l =
    (map cell_val l.cells.items ≡ map cell_val l.fn.key.items ++ map (λ h. h.value) (held_at l.number (map column_held (take l.column-index l.columns))))
    × (list_all held_fits (held_at l.number (map column_held (take l.column-index l.columns))) ≡ true)
