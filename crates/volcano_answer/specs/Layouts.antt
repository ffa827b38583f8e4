-- The layouts of rows, and the words for them.
use Rattle.std.specs.Prelude.{ℕ, List, [], ◌∷◌, Bool, true, false, Option, Some, None, option_and_then, unwrap_or, bytes_eq, codes, if◌then◌else◌}
use Rattle.std.specs.Option.{is_some}
use Rattle.vx_rows_values.specs.Values.{Row}
use Rattle.vx_catalog.specs.Csv.{csv_text}
use Rattle.vx_catalog_formats.specs.Table.{table_text}
use Rattle.vx_catalog_formats.specs.JsonLines.{json_text}
use Rattle.volcano_answer.specs.declared.layouts.Layout.{Layout}
use Rattle.volcano_answer.specs.declared.layouts.Layout.TheVariants as layouts

-- the text of rows under these names
abbrev pub rows_text : Layout → List (List ℕ) → List Row → List ℕ
rows_text layouts.Csv names rows = csv_text names rows
rows_text (layouts.Table columns) names rows = table_text columns names rows
rows_text layouts.Json names rows = json_text names rows

-- the layout that a word stands for, if it does; a table on a screen of so many columns, if that is known
abbrev pub layout_named : Option ℕ → List ℕ → Option Layout
layout_named columns word =
    if bytes_eq word (codes "csv") then Some layouts.Csv
    else if bytes_eq word (codes "table") then Some (layouts.Table columns)
    else if bytes_eq word (codes "json") then Some layouts.Json
    else None

-- a word stands for a layout
abbrev pub names_layout : List ℕ → Bool
names_layout word = is_some (layout_named None word)

-- the layout that a word asks for; without one it is CSV
abbrev pub layout_of_word : Option ℕ → Option (List ℕ) → Layout
layout_of_word columns word = unwrap_or (option_and_then (layout_named columns) word) layouts.Csv

-- a list with nothing in it
abbrev pub is_empty : {X : Type 0} → List X → Bool
is_empty [] = true
is_empty (x ∷ xs) = false

-- a path, unless it stands for standard output
abbrev pub unless_output : Option (List ℕ) → Option (List ℕ)
unless_output path = option_and_then (λ p. if bytes_eq p (codes "-") then None else Some p) path
