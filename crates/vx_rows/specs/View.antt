-- What a caller sees of rows.
use Rattle.std.specs.Prelude.{◌≡◌, ℕ, ◌<◌, List, [], map, slice_index_or, All}
use Rattle.vx_rows_values.specs.declared.value.ColType.{ColType}
use Rattle.vx_rows_values.specs.Values.{Row}
use Rattle.vx_rows_values.specs.Types.{type_of}

-- a row has one value of each of these types, in order: of values that a program holds this is all of `Fits`
abbrev pub HasTypes : List ColType → Row → Type 0
HasTypes types row = map type_of row ≡ types

-- what a caller sees of rows
pub record RowsView : Type 0 where
  pub types : List ColType
  pub rows : List Row

-- row i, counted from 0, and one of no values past the end
abbrev pub row : RowsView → ℕ → Row
row t i = slice_index_or t.rows i []

-- each of these columns is one of so many
abbrev pub AreColumns : ℕ → List ℕ → Type 0
AreColumns n cols = All (λ c. c < n) cols

-- each of these is the position of one of so many rows
abbrev pub ArePositions : ℕ → List ℕ → Type 0
ArePositions n positions = All (λ i. i < n) positions
