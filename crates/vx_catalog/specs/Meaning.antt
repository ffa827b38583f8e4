-- What the text of a relation says, apart from how it is read.
use Rattle.std.specs.Prelude.{◌≡◌, ◌↔◌, ℕ, ◌≤◌, List, [], ◌∷◌, length, Some, Ok, true}
use Rattle.std.specs.List.{AllZip}
use Rattle.std.specs.Str.{is_utf8}
use Rattle.vx_rows_values.specs.Values.{Val, num, text, Row}
use Rattle.vx_rows_values.specs.Order.{sorted}
use Rattle.vx_rows_values.specs.declared.value.ColType.{ColType}
use Rattle.vx_rows_values.specs.declared.value.ColType.TheVariants as kind
use Rattle.vx_catalog_relations.specs.Relation.{Relation, KeysHold}
use Rattle.vx_catalog.specs.Number.{number_of}
use Rattle.vx_catalog.specs.Loading.{records_of, is_header, load_of}
use Rattle.vx_rows_values.specs.Limits.{max_rows, max_text_bytes}

-- a field of a column of this type stands for this value
abbrev pub IsValueOf : ColType → List ℕ → Val → Type 0
IsValueOf kind.Int field (num z) = number_of field ≡ Some z
IsValueOf kind.Int field (text s) = ⊥
IsValueOf kind.Text field (num z) = ⊥
IsValueOf kind.Text field (text s) = (is_utf8 field ≡ true) × (field ≡ s)

-- a record has a field for each column, which stand for these values
abbrev pub IsRowOf : List ColType → List (List ℕ) → Row → Type 0
IsRowOf [] [] [] = Unit {0}
IsRowOf [] [] (v ∷ vs) = ⊥
IsRowOf [] (f ∷ fs) vs = ⊥
IsRowOf (t ∷ ts) [] vs = ⊥
IsRowOf (t ∷ ts) (f ∷ fs) [] = ⊥
IsRowOf (t ∷ ts) (f ∷ fs) (v ∷ vs) = IsValueOf t f v × IsRowOf ts fs vs

-- the first record is the header, and each of the others stands for its row
abbrev pub Under : Relation → List (List (List ℕ)) → List Row → Type 0
Under relation [] rows = ⊥
Under relation (header ∷ records) rows = (is_header relation.names header ≡ true) × AllZip (IsRowOf relation.types) records rows

-- the bytes are a text of a relation with these rows, within the limits, and the rows meet its keys and its order
pub record IsTextOf (relation : Relation) (bytes : List ℕ) (rows : List Row) : Type 0 where
  pub small : length bytes ≤ max_text_bytes
  pub under : Under relation (records_of bytes) rows
  pub few : length rows ≤ max_rows
  pub keys : KeysHold relation.keys rows
  pub order : sorted relation.order rows ≡ true

-- these rows are loaded of bytes exactly where the bytes are a text with these rows
pub record LoadLaw : Type 0 where
  pub loads : (relation : Relation) (bytes : List ℕ) (rows : List Row) → (load_of relation bytes ≡ Ok rows) ↔ IsTextOf relation bytes rows
