-- Numbers for the rows of a chunk, gathered for a loop.
use Rattle.std.specs.Prelude.{◌≡◌, ℕ, ◌<◌, ℤ, pos, length, slice_index_or}
use Rattle.vx_rows_values.specs.Values.{Val, num}
use Rattle.vx_ops_computing.specs.declared.numbers.Gathered.{Gathered}
use Rattle.vx_ops_computing.specs.declared.numbers.Gathered.TheVariants as gathered

-- the number for row k
abbrev pub gathered_at : Gathered → ℕ → ℤ
gathered_at (gathered.Same z) k = z
gathered_at (gathered.Narrow list) k = slice_index_or list.now k (pos 0)
gathered_at (gathered.Wide list) k = slice_index_or list.now k (pos 0)
gathered_at (gathered.Copied v) k = slice_index_or v.items k (pos 0)

-- there is one
abbrev pub HasGathered : Gathered → ℕ → Type 0
HasGathered (gathered.Same z) k = Unit {0}
HasGathered (gathered.Narrow list) k = k < length list.now
HasGathered (gathered.Wide list) k = k < length list.now
HasGathered (gathered.Copied v) k = k < length v.items

-- for each of so many rows there is a number, and it is this value
pub record IsGathered (n : ℕ) (values : ℕ → Val) (g : Gathered) : Type 0 where
  pub there : (k : ℕ) → k < n → HasGathered g k
  pub same : (k : ℕ) → k < n → values k ≡ num (gathered_at g k)
