use Rattle.std.proofs.Common.{◌≡◌, ◌++◌, List, length}
use Rattle.std.specs.Prelude.{All}
use Rattle.vx_rows.specs.View.{RowsView}
use Rattle.vx_rows_views.specs.Chunks.{all_rows}
use Rattle.vx_rows_views.specs.Marks.{IsMark}
use Rattle.vx_rows_views.proofs.marks.add_marks.Given as goal

abbrev pub invariant-loop-i : goal.invariant-loop-i
invariant-loop-i l = (xs ys : List RowsView) → l.chunks ≡ length xs → l.rows ≡ length (all_rows xs) → All (IsMark (xs ++ ys)) l.initial.marks → All (IsMark ys) l.others → All (IsMark (xs ++ ys)) l.marks
