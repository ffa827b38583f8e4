use Rattle.std.proofs.Common.{◌≡◌, ◌++◌}
use Rattle.std.specs.Vec.Iter.{into_iter_items}
use Rattle.vx_rows.specs.Parts.{rows_of_all, HaveTypes}
use Rattle.vx_catalog_loading.proofs.pieces.append_tables.Given as goal

abbrev pub invariant-loop-table : goal.invariant-loop-table
invariant-loop-table l =
    (goal.iterator-loop-table).can_next l.table-iterator
    × (goal.iterator-loop-table).is_finite l.table-iterator
    × (l.rows.types ≡ l.initial.rows.types)
    × HaveTypes l.initial.rows.types (into_iter_items l.table-iterator)
    × (l.initial.rows.rows ++ rows_of_all l.fn.tables.items ≡ l.rows.rows ++ rows_of_all (into_iter_items l.table-iterator))
