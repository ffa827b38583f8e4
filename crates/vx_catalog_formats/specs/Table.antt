-- Rows as a table for people: columns side by side, and a line that says how many rows there are.
use Rattle.std.specs.Prelude.{ℕ, ◌+◌, ◌-◌, ◌==◌, ◌&&◌, List, [], ◌∷◌, ◌++◌, flat_map, fold, map, max, length, replicate, codes, decimal, nat_lt, if◌then◌else◌, false, Option, Some, None, unwrap_or}
use Rattle.std.specs.Fmt.{signed_decimal}
use Rattle.std.specs.Char.{encode_utf8}
use Rattle.std.specs.Str.{chars}
use Rattle.std.specs.List.{zip}
use Rattle.unicode_width.specs.Width.{char_width, str_width}
use Rattle.vx_rows_values.specs.Values.{Val, num, text, Row}

-- what stands for a character: for a control character, which would break the table, the sign for it, as U+240A for the end of a line
abbrev pub shown : ℕ → ℕ
shown c = if nat_lt c 32 then 9216 + c else if nat_lt 126 c && nat_lt c 160 then 9249 else c

-- the text of a value in a table
abbrev pub cell_text : Val → List ℕ
cell_text (num n) = signed_decimal n
cell_text (text s) = flat_map (λ c. encode_utf8 (shown c)) (chars s)

-- how wide it is on a terminal, where some characters are twice as wide as others and some have no width
abbrev pub cell_width : Val → ℕ
cell_width v = str_width false (chars (cell_text v))

-- so many spaces
abbrev pub spaces : ℕ → List ℕ
spaces n = replicate n 32

-- a value in a column of this width: numbers stand to the right, texts to the left
abbrev pub padded : ℕ → Val → List ℕ
padded width (num n) = spaces (width - cell_width (num n)) ++ cell_text (num n)
padded width (text s) = cell_text (text s) ++ spaces (width - cell_width (text s))

-- a column's part of a line
abbrev pub field : ℕ × Val → List ℕ
field p = codes "| " ++ (padded p.0 p.1 ++ codes " ")

-- a line with these values, in columns of these widths
abbrev pub line : List ℕ → Row → List ℕ
line widths row = flat_map field (zip widths row) ++ codes "|"

-- a column's part of the line below the names
abbrev pub dashes : ℕ → List ℕ
dashes width = codes "|-" ++ (replicate width 45 ++ codes "-")

-- the line below the names
abbrev pub rule : List ℕ → List ℕ
rule widths = flat_map dashes widths ++ codes "|"

-- the widths, each made as large as the value in its column needs
abbrev pub widened : List ℕ → Row → List ℕ
widened [] row = []
widened (width ∷ widths) [] = width ∷ widths
widened (width ∷ widths) (v ∷ row) = max width (cell_width v) ∷ widened widths row

-- each column is as wide as the widest of its name and its values
abbrev pub widths_of : List (List ℕ) → List Row → List ℕ
widths_of names rows = fold widened (map (λ name. cell_width (text name)) names) rows

-- how wide a character is by itself
abbrev pub width_alone : ℕ → ℕ
width_alone c = unwrap_or (char_width false c) 0

-- the first characters, as many as there is room for
abbrev pub front : ℕ → List ℕ → List ℕ
front room [] = []
front room (c ∷ cs) = if nat_lt room (width_alone c) then [] else encode_utf8 c ++ front (room - width_alone c) cs

-- what a screen shows of a line: all of it, or what fits into so many columns
abbrev pub cut : Option ℕ → List ℕ → List ℕ
cut None line = line
cut (Some columns) line = front columns (chars line)

-- it, and the end of the line
abbrev pub cut_line : Option ℕ → List ℕ → List ℕ
cut_line columns line = cut columns line ++ codes "\n"

-- how many rows there are
abbrev pub count_line : ℕ → List ℕ
count_line n = codes "(" ++ (decimal n ++ (if n == 1 then codes " row)\n" else codes " rows)\n"))

-- the lines of a table with columns of these widths
abbrev pub table_lines : Option ℕ → List ℕ → List (List ℕ) → List Row → List ℕ
table_lines columns widths names rows =
    cut_line columns (line widths (map text names)) ++ (cut_line columns (rule widths) ++ flat_map (λ row. cut_line columns (line widths row)) rows)

-- the names, and a line for each row; on a screen of so many columns, if that is known
abbrev pub table_text : Option ℕ → List (List ℕ) → List Row → List ℕ
table_text columns names rows = table_lines columns (widths_of names rows) names rows ++ count_line (length rows)
