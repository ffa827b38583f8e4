-- Where a name stands in a JSON text.
use Rattle.std.specs.Prelude.{◌≡◌, ℕ, List, take, Some, option_and_then, slice_range, slice_index}
use Rattle.serde_json.specs.Read.{read}
use Rattle.serde_json.specs.Find.{as_str}
use Rattle.volcano_documents.specs.Places.{line_of, column_of}

-- a line and a column are those of an offset at which a quote stands and a part of the text begins that reads as the name
abbrev pub IsNamePlace : List ℕ → List ℕ → ℕ → ℕ → Type 0
IsNamePlace text name line column = (offset : ℕ) × (line ≡ line_of (take offset text)) × (column ≡ column_of (take offset text)) × (slice_index text offset ≡ 34) × ((end : ℕ) × (option_and_then as_str (read (slice_range text offset end)) ≡ Some name))
