-- Morsels: the parts into which a scan cuts its relation, and how the workers of a scan got them.
use Rattle.std.specs.Prelude.{◌≡◌, ℕ, ◌+◌, ◌-◌, ◌*◌, ◌/◌, ◌<◌, ◌≤◌, true, List, [], ◌∷◌, ◌++◌, take, drop}
use Rattle.vx_rows_values.specs.Values.{Row}
use Rattle.vx_plan_nodes.specs.Streams.{across}
use Rattle.vx_morsel.specs.Draws.{Draws, times, once_below, Rises}

-- morsel k of a list, for morsels of m rows
abbrev pub morsel_of : (m : ℕ) → List Row → (k : ℕ) → List Row
morsel_of m xs k = take m (drop (k * m) xs)

-- how many morsels n rows have: rounded up
abbrev pub morsel_count : (m n : ℕ) → ℕ
morsel_count m n = (n + (m - 1)) / m

-- the rows of the morsels with these numbers
abbrev pub morsels : (ℕ → List Row) → List ℕ → List Row
morsels f [] = []
morsels f (k ∷ ks) = f k ++ morsels f ks

-- what n seats drew of m morsels: the numbers below one number t, each once; all of them if some seat met the end
pub record Dispatched (n m : ℕ) (seats : ℕ → Draws) : Type 0 where
  pub t : ℕ
  pub rise : (w : ℕ) → w < n → Rises (seats w).numbers
  pub each : (x : ℕ) → across n (λ w. times x (seats w).numbers) ≡ once_below x t
  pub most : t ≤ m
  pub ended : (w : ℕ) → w < n → (seats w).met_end ≡ true → t ≡ m
