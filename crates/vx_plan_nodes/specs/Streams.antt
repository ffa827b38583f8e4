-- Streams: a list of rows for each worker of a node, and lists that are dealt out or shuffled.
use Rattle.std.specs.Prelude.{◌≡◌, ℕ, zero, suc, ◌+◌, ◌<◌, ◌==◌, nat_lt, true, cond, List, [], ◌∷◌, ◌++◌, map}
use Rattle.std.specs.List.{list_all}
use Rattle.vx_rows_values.specs.Values.{Row}
use Rattle.vx_plan_nodes.specs.Plan.{Size, one_worker, group_of}

-- how many workers a size has, where each declared size name is bound to a number
abbrev pub workers : (ℕ → ℕ) → Size → ℕ
workers sizes one_worker = 1
workers sizes (group_of k) = sizes k

-- the sum of a number that each of n workers has
abbrev pub across : ℕ → (ℕ → ℕ) → ℕ
across zero g = 0
across (suc n) g = across n g + g n

-- a list of rows for each worker
abbrev pub Streams : Type 0
Streams = ℕ → List Row

-- the streams of the first n workers, one behind the other
abbrev pub joined : ℕ → Streams → List Row
joined zero s = []
joined (suc n) s = joined n s ++ s n

-- the rows that bear the number i, in order
abbrev pub bearing : ℕ → List (ℕ × Row) → List Row
bearing i [] = []
bearing i (t ∷ ts) = cond (t.0 == i) (t.1 ∷ bearing i ts) (bearing i ts)

-- the positions of the list are dealt out to n lists, and each list has its rows in the list's own order;
-- read the other way round, the list is a shuffle of the n lists
pub record Dealt (n : ℕ) (xs : List Row) (lists : Streams) : Type 0 where
  pub numbered : List (ℕ × Row)
  pub whole : map (λ t. t.1) numbered ≡ xs
  pub in_range : list_all (λ t. nat_lt t.0 n) numbered ≡ true
  pub lists_are : (i : ℕ) → i < n → bearing i numbered ≡ lists i
