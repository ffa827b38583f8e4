use Rattle.std.proofs.Common.{◌≡◌, ℕ, ◌+◌, ◌≤◌, List, length, drop}
use Rattle.std.specs.Vec.Iter.{into_iter_items}
use Rattle.vx_rows_values.specs.Values.{Row}
use Rattle.vx_rows_values.specs.declared.value.ColType.{ColType}
use Rattle.vx_rows.specs.Parts.{rows_of_all}
use Rattle.vx_catalog_loading.specs.Pieces.{ArePieces, Joined}
use Rattle.vx_catalog_loading.proofs.pieces.tables_of.Given as goal
use Rattle.vx_rows_values.specs.Limits.{max_rows}

abbrev pub invariant-loop-part : goal.invariant-loop-part
invariant-loop-part l =
    (goal.iterator-loop-part).can_next l.part-iterator
    × (goal.iterator-loop-part).is_finite l.part-iterator
    × (into_iter_items l.part-iterator ≡ drop (length l.tables.items) l.fn.parts.items)
    × (length l.tables.items ≤ length l.fn.parts.items)
    × (l.count ≡ l.before + length (rows_of_all l.tables.items))
    × (l.count ≤ max_rows)
    × ((types : List ColType) (front : List Row) (left : ℕ → List ℕ) → length front ≡ l.before → ArePieces types l.fn.parts.items left → Joined types front left l.tables.items)
