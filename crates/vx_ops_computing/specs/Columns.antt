-- Columns of their own.
use Rattle.std.specs.Prelude.{◌≡◌, ℕ, ◌<◌, List, [], ◌∷◌, length, slice_index_or}
use Rattle.vx_rows_values.specs.Values.{Val, Row}

-- rows of one value each, these
pub record IsColumn (values : ℕ → Val) (n : ℕ) (rows : List Row) : Type 0 where
  pub long : length rows ≡ n
  pub each : (k : ℕ) → k < n → slice_index_or rows k [] ≡ values k ∷ []
