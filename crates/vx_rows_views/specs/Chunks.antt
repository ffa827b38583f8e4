-- Rows whose values lie in several tables side by side.
use Rattle.std.specs.Prelude.{◌≡◌, ℕ, ◌+◌, ◌<◌, List, [], map, flat_map, length, slice_index_or, slice_range, All}
use Rattle.vx_rows_values.specs.declared.value.ColType.{ColType}
use Rattle.vx_rows_values.specs.Values.{Val, Row, value_at}
use Rattle.vx_rows_values.specs.Types.{type_at, Fits}
use Rattle.vx_rows.specs.View.{RowsView, row}
use Rattle.vx_rows_views.specs.declared.chunk.Field.{Field}

-- the rows, and the types, of table p; none past the end
abbrev pub rows_in : List RowsView → ℕ → List Row
rows_in tables p = slice_index_or (map (λ t. t.rows) tables) p []

abbrev pub types_in : List RowsView → ℕ → List ColType
types_in tables p = slice_index_or (map (λ t. t.types) tables) p []

-- the value of row k that a field names
abbrev pub value_in : List RowsView → ℕ → Field → Val
value_in tables k f = value_at (slice_index_or (rows_in tables f.part) k []) f.column

-- row k
abbrev pub row_in : List RowsView → List Field → ℕ → Row
row_in tables fields k = map (value_in tables k) fields

-- the type of a field
abbrev pub type_in : List RowsView → Field → ColType
type_in tables f = type_at (types_in tables f.part) f.column

-- a field names a column that is there
abbrev pub IsThere : List RowsView → Field → Type 0
IsThere tables f = (f.part < length tables) × (f.column < length (types_in tables f.part))

-- the parts of rows
pub record IsChunk (types : List ColType) (tables : List RowsView) (fields : List Field) (count : ℕ) : Type 0 where
  pub kinds : types ≡ map (type_in tables) fields
  pub long : (p : ℕ) → p < length tables → length (rows_in tables p) ≡ count
  pub there : All (IsThere tables) fields
  pub fits : (p k : ℕ) → p < length tables → k < count → Fits (types_in tables p) (slice_index_or (rows_in tables p) k [])

-- a part of a table's rows
abbrev pub sliced : ℕ → ℕ → RowsView → RowsView
sliced a b t = record { types = t.types; rows = slice_range t.rows a b }

-- a table's rows at some places
abbrev pub chosen : List ℕ → RowsView → RowsView
chosen places t = record { types = t.types; rows = map (row t) places }

-- field c; past the end the first column of the first part
abbrev pub field_at : List Field → ℕ → Field
field_at fields c = slice_index_or fields c (record { part = 0; column = 0 })

-- a column of the first part
abbrev pub own_field : ℕ → Field
own_field c = record { part = 0; column = c }

-- the same field, where so many parts stand before its own
abbrev pub shifted : ℕ → Field → Field
shifted n f = record { part = f.part + n; column = f.column }

-- the rows of tables, one behind the other
abbrev pub all_rows : List RowsView → List Row
all_rows tables = flat_map (λ t. t.rows) tables
