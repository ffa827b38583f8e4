-- Tests of texts, row by row.
use Rattle.std.specs.Prelude.{◌≡◌, ℕ, ◌<◌, ℤ, pos, Bool, List, length, Option, Some, None, slice_index_or}
use Rattle.vx_rows_values.specs.Values.{Val, num, text}
use Rattle.vx_functions.specs.Numbers.{truth}

-- what a test answers of a value: 1 of a text that passes, 0 of another one, and nothing of a number
abbrev pub test_answer : (List ℕ → Bool) → Val → Option Val
test_answer passes (text s) = Some (num (truth (passes s)))
test_answer passes (num z) = None

-- what it answers of so many values
pub record AreTested (passes : List ℕ → Bool) (values : ℕ → Val) (n : ℕ) (numbers : List ℤ) : Type 0 where
  pub long : length numbers ≡ n
  pub each : (k : ℕ) → k < n → test_answer passes (values k) ≡ Some (num (slice_index_or numbers k (pos 0)))
