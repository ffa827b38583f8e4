-- Types of columns, and rows that fit them.
use Rattle.std.specs.Prelude.{◌≡◌, ℕ, ℤ, pos, negsuc, int_le, Bool, true, ◌&&◌, List, map, slice_index_or}
use Rattle.std.specs.List.{list_all}
use Rattle.std.specs.Str.{is_utf8}
use Rattle.vx_rows_values.specs.declared.value.ColType.{ColType}
use Rattle.vx_rows_values.specs.declared.value.ColType.TheVariants.{Int, Text}
use Rattle.vx_rows_values.specs.Values.{Val, num, text, Row}

-- the type of a value
abbrev pub type_of : Val → ColType
type_of (num z) = Int
type_of (text s) = Text

-- from -2^63 to 2^63 - 1
abbrev pub fits_64 : ℤ → Bool
fits_64 z = int_le (negsuc 9223372036854775807) z && int_le z (pos 9223372036854775807)

-- a value that a program can hold: a number of 64 signed bits, a text in UTF-8
abbrev pub is_held : Val → Bool
is_held (num z) = fits_64 z
is_held (text s) = is_utf8 s

-- a row fits types if it has one value of each, in order
pub record Fits (types : List ColType) (row : Row) : Type 0 where
  pub types_are : map type_of row ≡ types
  pub values_are : list_all is_held row ≡ true

-- the type of column c, counted from 0; past the end that of a number
abbrev pub type_at : List ColType → ℕ → ColType
type_at types c = slice_index_or types c Int
