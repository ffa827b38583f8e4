-- Steps into a JSON text, and the values that they lead to.
use Rattle.std.specs.Prelude.{◌≡◌, ℕ, List, [], ◌∷◌, take, Option, Some, option_and_then, slice_range, slice_index, false}
use Rattle.volcano_documents.specs.Spans.{is_blank}
use Rattle.serde_json.specs.Data.{Data}
use Rattle.serde_json.specs.Read.{read}
use Rattle.serde_json.specs.Find.{get, at}
use Rattle.volcano_documents.specs.declared.steps.Step.{Step}
use Rattle.volcano_documents.specs.declared.steps.Step.TheVariants.{Member, Item}
use Rattle.volcano_documents.specs.Places.{line_of, column_of}

abbrev pub step_value : Step → Data → Option Data
step_value (Member name) value = get name.now value
step_value (Item number) value = at number value

-- the value that steps lead to from another
abbrev pub value_at : List Step → Data → Option Data
value_at [] value = Some value
value_at (step ∷ steps) value = option_and_then (value_at steps) (step_value step value)

-- a part of the text that begins at an offset, and not with a blank, reads as this value
abbrev pub BeginsValue : List ℕ → ℕ → Option Data → Type 0
BeginsValue text offset value = (is_blank (slice_index text offset) ≡ false) × ((end : ℕ) × (part : Data) × (value ≡ Some part) × (read (slice_range text offset end) ≡ Some part))

-- a line and a column are those of an offset at which the value begins that steps lead to in what the text reads as
abbrev pub IsValuePlace : List ℕ → List Step → ℕ → ℕ → Type 0
IsValuePlace text steps line column = (offset : ℕ) × (line ≡ line_of (take offset text)) × (column ≡ column_of (take offset text)) × BeginsValue text offset (option_and_then (value_at steps) (read text))
