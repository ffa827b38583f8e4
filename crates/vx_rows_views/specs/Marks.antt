-- Where chunks begin among the rows of all (our own).
use Rattle.std.specs.Prelude.{◌≡◌, ℕ, ◌≤◌, List, [], length, take, drop, Option, None, Some, Vec, Box}
use Rattle.std.specs.Global.{Global}
use Rattle.vx_rows.specs.View.{RowsView}
use Rattle.vx_rows_views.specs.Chunks.{all_rows}
use Rattle.vx_rows_views.specs.declared.marks.Mark.{Mark}

-- the chunk is there, or would be the next one, and so many rows stand before it
abbrev pub IsMark : List RowsView → Mark → Type 0
IsMark chunks m = (m.chunk ≤ length chunks) × (m.rows ≡ length (all_rows (take m.chunk chunks)))

-- the marks that are listed, if there are any
abbrev pub marks_in : Option (Box (Vec Mark Global) Global) → List Mark
marks_in None = []
marks_in (Some marks) = marks.value.items

-- the first chunk
abbrev pub first_mark : Mark
first_mark = record { chunk = 0; rows = 0 }

-- the chunks from one on, before which so many rows stand
pub record IsRest (chunks rest : List RowsView) (rows : ℕ) : Type 0 where
  pub chunk : ℕ
  pub near : chunk ≤ length chunks
  pub same : rest ≡ drop chunk chunks
  pub before : rows ≡ length (all_rows (take chunk chunks))
