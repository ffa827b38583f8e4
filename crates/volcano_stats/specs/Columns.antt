-- Words, numbers and times in columns.
use Rattle.std.specs.Prelude.{ℕ, ◌+◌, ◌-◌, ◌/◌, ◌%◌, List, [], ◌∷◌, ◌++◌, length, replicate, decimal, codes, Option, Some, None}

-- a word at the left of a column of so many places
abbrev pub at_left : ℕ → List ℕ → List ℕ
at_left width word = word ++ replicate (width - length word) 32

-- and at the right
abbrev pub at_right : ℕ → List ℕ → List ℕ
at_right width word = replicate (width - length word) 32 ++ word

-- a number at the right of a column, behind a space
unfoldable pub column : ℕ → ℕ → List ℕ
column width n = codes " " ++ at_right width (decimal n)

-- a point and three digits
abbrev pub thousandths : ℕ → List ℕ
thousandths n = 46 ∷ (48 + n / 100) ∷ (48 + n / 10 % 10) ∷ (48 + n % 10) ∷ []

-- so many microseconds in milliseconds, with three digits behind the point; a dash where the time is not known
abbrev pub milliseconds : Option ℕ → List ℕ
milliseconds None = at_right 14 (codes "-")
milliseconds (Some n) = at_right 10 (decimal (n / 1000)) ++ thousandths (n % 1000)

-- so many microseconds as a JSON value
abbrev pub microseconds : Option ℕ → List ℕ
microseconds None = codes "null"
microseconds (Some n) = decimal n
