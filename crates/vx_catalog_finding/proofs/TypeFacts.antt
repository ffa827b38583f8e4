-- The types of columns, row by row and column by column.
use Rattle.std.proofs.Common.{◌≡◌, ℕ, ◌+◌, ◌<◌, ◌≤◌, List, [], ◌∷◌, ◌++◌, true, false, Some, None, Result, Ok, Err, refl, ap, length, get_or, take, take_all, map, string_bytes, w64, arith}
use Rattle.std.specs.Prelude.{ℤ, String}
use Rattle.std.specs.declared.alloc.Global.{Global}
use Rattle.std.specs.List.{list_all, range_with_len}
use Rattle.std.specs.Result.{result_ok}
use Rattle.std.specs.Str.Parse.{ParsesSigned}
use Rattle.std.proofs.lemmas.List.Folds.{list_all_at, list_all_more}
use Rattle.std.proofs.lemmas.List.FromFn.{map-range_with_len_more}
use Rattle.vx_rows_values.specs.Values.{Row, value_at}
use Rattle.vx_rows_values.specs.declared.value.ColType.TheVariants as kind
use Rattle.vx_catalog.specs.Number.{number_of}
use Rattle.vx_catalog.proofs.NumberFacts.{number_is}
use Rattle.vx_catalog_finding.specs.Found.{is_plain_number, all_texts, type_in, types_in}

-- what `parse` answers is what the loader reads
pub number_read : {E : Type 0} (text : List ℕ) (r : Result ℤ E) → ParsesSigned w64 10 text r → result_ok r ≡ number_of text
number_read text (Ok n) h = number_is text (Some n) h
number_read text (Err e) h = number_is text None h

pub no_rows : (column : ℕ) (rows : List Row) → length rows ≡ 0 → kind.Text ≡ type_in column rows
no_rows column [] h = refl
no_rows column (row ∷ rows) h = absurd (omega (arith, h))

pub text_found : (column i : ℕ) (rows : List Row) → i < length rows → is_plain_number (value_at (get_or rows i []) column) ≡ false → kind.Text ≡ type_in column rows
text_found column i [] h bad = refl
text_found column i (first ∷ rows) h bad = rw (list_all_at (λ (row : Row). is_plain_number (value_at row column)) (first ∷ rows) i [] h bad) refl

pub numbers_more : (column i : ℕ) (rows : List Row) → i < length rows → list_all (λ (row : Row). is_plain_number (value_at row column)) (take i rows) ≡ true
    → is_plain_number (value_at (get_or rows i []) column) ≡ true → list_all (λ (row : Row). is_plain_number (value_at row column)) (take (i + 1) rows) ≡ true
numbers_more column i rows h so_far good = rw (list_all_more (λ (row : Row). is_plain_number (value_at row column)) rows i [] h, so_far, good) refl

pub numbers_found : (column i : ℕ) (rows : List Row) → (length rows ≡ 0 → ⊥) → length rows ≤ i → list_all (λ (row : Row). is_plain_number (value_at row column)) (take i rows) ≡ true → kind.Int ≡ type_in column rows
numbers_found column i [] some h so_far = absurd (some refl)
numbers_found column i (row ∷ rows) some h so_far = rw (rw (take_all i (row ∷ rows) h) at so_far) refl

pub types_more : (n : ℕ) (rows : List Row) → types_in (n + 1) rows ≡ types_in n rows ++ type_in n rows ∷ []
types_more n rows = map-range_with_len_more (λ column. type_in column rows) 0 n n (omega arith)

-- a column of texts for each name, from the names as they are held
pub texts_named : (names : List (String Global)) → map (λ _. kind.Text) names ≡ all_texts (map string_bytes names)
texts_named [] = refl
texts_named (name ∷ names) = ap (λ l. kind.Text ∷ l) (texts_named names)

pub ruleset type_steps = (no_rows, text_found, numbers_more, numbers_found, types_more)
