-- Rows in blocks that follow one another, and the lines of each.
use Rattle.std.specs.Prelude.{◌≡◌, ℕ, ◌<◌, List, [], Option, Some, None, true, flat_map, length, slice_index_or, IfSome}
use Rattle.std.specs.Option.{is_some}
use Rattle.vx_rows_values.specs.Values.{Row}
use Rattle.vx_catalog.specs.Csv.{line_text}
use Rattle.vx_catalog_writing.specs.declared.blocks.Block.{Block}

-- the lines of the rows, without a header
abbrev pub lines_text : List Row → List ℕ
lines_text rows = flat_map line_text rows

-- the rows of blocks, one behind the other
abbrev pub rows_of_blocks : List Block → List Row
rows_of_blocks blocks = flat_map (λ b. b.rows.rows) blocks

-- the lines of a block, or none if memory ran out
abbrev pub made_lines : Option (List ℕ) → List ℕ
made_lines (Some lines) = lines
made_lines None = []

abbrev pub lines_in : Block → List ℕ
lines_in b = made_lines b.lines

-- its lines were made
abbrev pub IsMade : Block → Type 0
IsMade b = is_some b.lines ≡ true

-- each block has the lines of the rows that it had before, unless memory ran out
abbrev pub HaveLines : List Block → List Block → Type 0
HaveLines before after = (i : ℕ) (d : Block) → i < length before → IfSome (slice_index_or after i d).lines (λ l. l ≡ lines_text (slice_index_or before i d).rows.rows)
