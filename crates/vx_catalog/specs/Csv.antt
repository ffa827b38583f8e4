-- The text of a relation: the header and the rows as `csv` writes them by default, each line ended by a line feed.
use Rattle.std.specs.Prelude.{ℕ, List, ◌++◌, map, flat_map}
use Rattle.std.specs.Fmt.{signed_decimal}
use Rattle.csv.specs.Writing.{default_writer, row_text}
use Rattle.vx_rows_values.specs.Values.{Val, num, text, Row}

-- the bytes of a value: a plain decimal number, or the text itself
abbrev pub field_text : Val → List ℕ
field_text (num n) = signed_decimal n
field_text (text s) = s

-- a row's line
abbrev pub line_text : Row → List ℕ
line_text row = row_text default_writer (map field_text row)

-- the header with these names, and a line for each row
abbrev pub csv_text : List (List ℕ) → List Row → List ℕ
csv_text names rows = row_text default_writer names ++ flat_map line_text rows
