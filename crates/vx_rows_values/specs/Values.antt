-- Names, values and rows. A value is a number or a text; a row is a list of values (relational algebra over lists).
use Rattle.std.specs.Prelude.{ℕ, ℤ, pos, Bool, List, map, slice_index_or}
use Rattle.std.specs.declared.cmp.Ordering.{Ordering}
use Rattle.std.specs.declared.cmp.Ordering.TheVariants.{Less, Greater}
use Rattle.std.specs.Ordering.{nat_cmp, int_cmp, is_eq}
use Rattle.std.specs.Cmp.Lexicographic.{slice_cmp}

-- a name by its bytes
abbrev pub Name : Type 0
Name = List ℕ

-- a number, or a text by its bytes
pub data Val : Type 0 where
  num : ℤ → Val
  text : List ℕ → Val

-- a list of values
abbrev pub Row : Type 0
Row = List Val

-- numbers by size, texts by their bytes; a number comes before a text, which no column has both of
abbrev pub val_cmp : Val → Val → Ordering
val_cmp (num x) (num y) = int_cmp x y
val_cmp (num x) (text y) = Less
val_cmp (text x) (num y) = Greater
val_cmp (text x) (text y) = slice_cmp nat_cmp x y

-- value by value, the first difference decides
abbrev pub row_cmp : Row → Row → Ordering
row_cmp = slice_cmp val_cmp

-- the same values
abbrev pub row_eq : Row → Row → Bool
row_eq a b = is_eq (row_cmp a b)

-- the value in column c, counted from 0; a row that is too short has the number 0 there
abbrev pub value_at : Row → ℕ → Val
value_at row c = slice_index_or row c (num (pos 0))

-- the values in these columns
abbrev pub pick : List ℕ → Row → Row
pick cols row = map (λ c. value_at row c) cols
