-- The numbers of keys that come one by one.
use Rattle.std.specs.Prelude.{ℕ, List, [], ◌∷◌}
use Rattle.std.specs.List.{position_or_len}
use Rattle.vx_rows_values.specs.Values.{Row, row_eq}
use Rattle.indexmap.specs.IndexSet.{insert_key}

-- the number of each key when it comes, where these are known before: its own, or the next one if it is new
abbrev pub numbers_of : List Row → List Row → List ℕ
numbers_of known [] = []
numbers_of known (x ∷ xs) = position_or_len (row_eq x) known ∷ numbers_of (insert_key row_eq known x) xs
