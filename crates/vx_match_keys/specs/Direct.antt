-- Keys that are numbers from 0 on, found by a table.
use Rattle.std.specs.Prelude.{◌≡◌, ℕ, ◌+◌, ◌<◌, pos, List, length, slice_index}
use Rattle.vx_rows_values.specs.Values.{Row}
use Rattle.vx_match_keys.specs.Columns.{number_key}

-- a number from 0 on, as a key
abbrev pub direct_key : ℕ → Row
direct_key v = number_key (pos v)

-- at each of these keys the table has one more than the key's number, and at all others, and past its end, 0
pub record IsTable (keys table : List ℕ) : Type 0 where
  pub marked : (n : ℕ) → n < length keys → slice_index table (slice_index keys n) ≡ n + 1
  pub only : (v n : ℕ) → slice_index table v ≡ n + 1 → (n < length keys) × (slice_index keys n ≡ v)
