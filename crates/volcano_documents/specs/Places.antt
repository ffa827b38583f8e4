-- Lines and columns in a text, as an editor counts them.
use Rattle.std.specs.Prelude.{◌≡◌, ℕ, ◌+◌, ◌-◌, ◌==◌, ◌||◌, List, length, take, drop, count_by, Bool, not, nat_lt, nat_le}
use Rattle.std.specs.List.{suffix_len}

abbrev pub is_line_feed : ℕ → Bool
is_line_feed b = b == 10

-- whether a byte begins a character of UTF-8: it does not go on with one
abbrev pub begins_character : ℕ → Bool
begins_character b = nat_lt b 128 || nat_le 192 b

-- what stands behind the last line feed
abbrev pub last_line : List ℕ → List ℕ
last_line front = drop (length front - suffix_len (λ b. not (is_line_feed b)) front) front

abbrev pub line_of : List ℕ → ℕ
line_of front = 1 + count_by is_line_feed front

abbrev pub column_of : List ℕ → ℕ
column_of front = 1 + count_by begins_character (last_line front)

-- a line and a column are those of an offset in a text
abbrev pub IsPosition : List ℕ → ℕ → ℕ → Type 0
IsPosition text line column = (at : ℕ) × (line ≡ line_of (take at text)) × (column ≡ column_of (take at text))
