-- What is read of a text and of its first line, and where its other bytes are.
use Rattle.std.specs.Prelude.{◌≡◌, ◌≢◌, ℕ, ◌≤◌, List, [], ◌++◌, length, Option, Some, None, ⊤, Result, Ok}
use Rattle.vx_rows_values.specs.Values.{Row}
use Rattle.vx_rows_values.specs.declared.value.ColType.{ColType}
use Rattle.vx_rows.specs.View.{RowsView}
use Rattle.vx_catalog_relations.specs.Relation.{Relation}
use Rattle.vx_catalog.specs.declared.fault.LoadFault.{LoadFault}
use Rattle.vx_catalog.specs.Loading.{records_of, under_header}
use Rattle.vx_catalog_loading.specs.Pieces.{rows_of_text}
use Rattle.vx_rows_values.specs.Limits.{max_rows}

-- the rows under the header of a text
abbrev pub rows_under : Relation → List ℕ → Result (List Row) LoadFault
rows_under relation text = under_header relation.names relation.types (records_of text)

-- the first line of a text begins with the header of a relation, and these are the rows behind it; or nothing is said of it
abbrev pub IsFirstLine : Relation → List ℕ → Option RowsView → Type 0
IsFirstLine relation line None = Unit {0}
IsFirstLine relation line (Some table) =
    (records_of line ≢ []) × (rows_under relation line ≡ Ok table.rows) × (table.types ≡ relation.types) × (length table.rows ≤ max_rows)

-- bytes went from a source into a buffer, behind those that this held before; what the source has left is given before and after, where it is known
abbrev pub Moves : List ℕ → Option (List ℕ) → List ℕ → Option (List ℕ) → Type 0
Moves held None now left = ⊤
Moves held (Some before) now None = ⊥
Moves held (Some before) now (Some left) = held ++ before ≡ now ++ left

-- the rows of the bytes that a buffer holds and a source has left, behind those at the front, are those of what they have now, behind the rows now
abbrev pub ComesFrom : List ColType → List Row → List ℕ → Option (List ℕ) → List Row → List ℕ → Option (List ℕ) → Type 0
ComesFrom types front held None rows now left = ⊤
ComesFrom types front held (Some before) rows now None = ⊥
ComesFrom types front held (Some before) rows now (Some left) = rows_of_text types front (held ++ before) ≡ rows_of_text types rows (now ++ left)

-- a text whose front was read: its rows are these and those of the bytes that are held and left, or nothing of it was read
abbrev pub IsFront : Relation → List ℕ → Option (List Row) → List ℕ → Type 0
IsFront relation text None left = text ≡ left
IsFront relation text (Some rows) left = rows_under relation text ≡ rows_of_text relation.types rows left

-- the same of a text that a buffer held and a source had left, where it is known
abbrev pub BeginsFrom : Relation → List ℕ → Option (List ℕ) → Option (List Row) → List ℕ → Option (List ℕ) → Type 0
BeginsFrom relation held None rows now left = ⊤
BeginsFrom relation held (Some before) rows now None = ⊥
BeginsFrom relation held (Some before) rows now (Some left) = IsFront relation (held ++ before) rows (now ++ left)
