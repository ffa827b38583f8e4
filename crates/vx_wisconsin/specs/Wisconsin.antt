-- A relation for measuring: each value of a row is a formula on the row's number and the number of rows.
use Rattle.std.specs.Prelude.{◌≡◌, ℕ, pos, ◌+◌, ◌*◌, ◌/◌, ◌%◌, ◌^◌, ◌≤◌, ◌==◌, if◌then◌else◌, List, [], ◌∷◌, ◌++◌, length, map, replicate, codes, slice_index, Ok}
use Rattle.std.specs.List.{range_with_len}
use Rattle.vx_rows_values.specs.Values.{num, text, Row}
use Rattle.vx_rows_values.specs.declared.value.ColType.{ColType}
use Rattle.vx_rows_values.specs.declared.value.ColType.TheVariants.{Int, Text}
use Rattle.vx_rows_values.specs.Order.{rising}
use Rattle.vx_catalog.specs.Csv.{csv_text}
use Rattle.vx_catalog.specs.Loading.{load_of}
use Rattle.vx_catalog_relations.specs.Relation.{Relation, Meets}
use Rattle.vx_rows_values.specs.Limits.{max_generated_rows}

-- the first column of row i of n: the numbers below n, the small ones in the even rows and the others in the odd ones
unfoldable pub unique1 : ℕ → ℕ → ℕ
unique1 n i = if i % 2 == 0 then i / 2 else (n + 1) / 2 + i / 2

-- the columns of numbers, by the first two
abbrev pub numbers : ℕ → ℕ → List ℕ
numbers u i =
    u ∷ i ∷ (u % 2) ∷ (u % 4) ∷ (u % 10) ∷ (u % 20)
    ∷ (u % 100) ∷ (u % 10) ∷ (u % 5) ∷ (u % 2)
    ∷ u ∷ (u % 100 * 2) ∷ (u % 100 * 2 + 1) ∷ []

-- A for 0 to Z for 25, and A again for 26
abbrev pub letter : ℕ → ℕ
letter d = 65 + d % 26

-- a number in base 26, in seven letters
unfoldable pub seven_letters : ℕ → List ℕ
seven_letters k = map (λ place. letter (k / 26 ^ place)) (6 ∷ 5 ∷ 4 ∷ 3 ∷ 2 ∷ 1 ∷ 0 ∷ [])

-- so many letters x
abbrev pub filler : ℕ → List ℕ
filler n = replicate n 120

-- the text of a number
abbrev pub text_of : ℕ → List ℕ
text_of k = seven_letters k ++ filler 45

-- the text of row i that only four rows in turn tell apart: AAAA, HHHH, OOOO and VVVV
unfoldable pub string4 : ℕ → List ℕ
string4 i = replicate 4 (slice_index (codes "AHOV") (i % 4)) ++ filler 48

-- row i of n
unfoldable pub row_of : ℕ → ℕ → Row
row_of n i = map (λ k. num (pos k)) (numbers (unique1 n i) i) ++ text (text_of (unique1 n i)) ∷ text (text_of i) ∷ text (string4 i) ∷ []

-- the n rows
abbrev pub wisconsin : ℕ → List Row
wisconsin n = map (row_of n) (range_with_len 0 n)

-- the names of the columns
unfoldable pub column_names : List (List ℕ)
column_names =
    codes "unique1" ∷ codes "unique2" ∷ codes "two" ∷ codes "four" ∷ codes "ten" ∷ codes "twenty"
    ∷ codes "onePercent" ∷ codes "tenPercent" ∷ codes "twentyPercent" ∷ codes "fiftyPercent"
    ∷ codes "unique3" ∷ codes "evenOnePercent" ∷ codes "oddOnePercent"
    ∷ codes "stringu1" ∷ codes "stringu2" ∷ codes "string4" ∷ []

-- the types of the columns
abbrev pub column_types : List ColType
column_types = replicate 13 Int ++ replicate 3 Text

-- what a catalog declares of such a relation: the keys unique1 and unique2, and the order unique2
abbrev pub relation_named : List ℕ → Relation
relation_named name = record { name = name; names = column_names; types = column_types; keys = (0 ∷ []) ∷ (1 ∷ []) ∷ []; order = rising (1 ∷ []) }

-- the rows are as many as asked for; they fit, have both keys and are sorted; and their text is loaded as these rows
pub record WisconsinLaw : Type 0 where
  pub many : (n : ℕ) → length (wisconsin n) ≡ n
  pub meets : (name : List ℕ) (n : ℕ) → n ≤ max_generated_rows → Meets (relation_named name) (wisconsin n)
  pub loads : (name : List ℕ) (n : ℕ) → n ≤ max_generated_rows → load_of (relation_named name) (csv_text column_names (wisconsin n)) ≡ Ok (wisconsin n)
