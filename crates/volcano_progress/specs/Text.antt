-- The lines that say how much of a relation's text has been read, and how far a run has come.
use Rattle.std.specs.Prelude.{ℕ, ◌*◌, ◌/◌, ◌%◌, ◌==◌, ◌&&◌, Bool, List, [], ◌∷◌, ◌++◌, Option, Some, None, length, codes, decimal, nat_lt, nat_le, if◌then◌else◌}

-- so many digits are whole groups of three
abbrev pub are_groups : ℕ → Bool
are_groups n = nat_lt 0 n && n % 3 == 0

-- digits with a comma before each group of three
abbrev pub grouped : List ℕ → List ℕ
grouped [] = []
grouped (d ∷ ds) = d ∷ (if are_groups (length ds) then 44 ∷ grouped ds else grouped ds)

-- a number in decimal digits, in groups of three
abbrev pub number_text : ℕ → List ℕ
number_text n = grouped (decimal n)

-- how many whole units these bytes are. The unit is that of a size: a megabyte from a million bytes on, else a kilobyte
abbrev pub units : ℕ → ℕ → ℕ
units size bytes = if nat_lt size 1_000_000 then bytes / 1_000 else bytes / 1_000_000

-- the name of that unit
abbrev pub unit_name : ℕ → List ℕ
unit_name size = if nat_lt size 1_000_000 then codes " kB" else codes " MB"

-- so many bytes, of a file whose size is not known
abbrev pub bytes_text : ℕ → List ℕ
bytes_text bytes = number_text (units bytes bytes) ++ unit_name bytes

-- so many bytes of a file of this size
abbrev pub part_text : ℕ → ℕ → List ℕ
part_text bytes size = number_text (units size bytes) ++ codes " of " ++ number_text (units size size) ++ unit_name size ++ codes " (" ++ decimal (bytes * 100 / size) ++ codes "%)"

-- these bytes are a part of a file of this size, which is not empty
abbrev pub is_part : ℕ → ℕ → Bool
is_part bytes size = nat_lt 0 size && nat_le bytes size

-- so many bytes of a file whose size is known or not. A file that has grown is one whose size is not known
abbrev pub amount_text : Option ℕ → ℕ → List ℕ
amount_text None bytes = bytes_text bytes
amount_text (Some size) bytes = if is_part bytes size then part_text bytes size else bytes_text bytes

-- the line without what moves the cursor
abbrev pub line_text : List ℕ → Option ℕ → ℕ → ℕ → List ℕ
line_text name size bytes lines = name ++ codes ": " ++ amount_text size bytes ++ codes ", " ++ number_text lines ++ codes " lines"

-- to the first column; and all erased from the cursor on
abbrev pub start : List ℕ
start = 13 ∷ []

abbrev pub erased : List ℕ
erased = 27 ∷ codes "[K"

-- what is written for the line: over the one before it, of which nothing is left
abbrev pub shown_text : List ℕ → Option ℕ → ℕ → ℕ → List ℕ
shown_text name size bytes lines = start ++ line_text name size bytes lines ++ erased

-- the line of a run, without what moves the cursor
abbrev pub run_line_text : List ℕ → ℕ → ℕ → List ℕ
run_line_text name rows seconds = name ++ codes ": " ++ number_text rows ++ codes " rows, " ++ number_text seconds ++ codes " s"

-- what is written for it
abbrev pub shown_run_text : List ℕ → ℕ → ℕ → List ℕ
shown_run_text name rows seconds = start ++ run_line_text name rows seconds ++ erased
