-- What is known of a text from each of its characters on, and of its end.
use Rattle.std.specs.Prelude.{◌≡◌, ℕ, suc, ◌≤◌, Bool, false, List, length, drop, slice_index_or}

-- for each place of a text whether a test holds from there on
pub record IsRow (f : List ℕ → Bool) (text : List ℕ) (row : List Bool) : Type 0 where
  pub long : length row ≡ suc (length text)
  pub each : (i : ℕ) → i ≤ length text → slice_index_or row i false ≡ f (drop i text)
