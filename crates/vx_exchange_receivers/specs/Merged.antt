-- Sorted streams, merged while they still grow.
use Rattle.std.specs.Prelude.{ℕ, ◌≡◌, ◌<◌, ◌==◌, cond, Bool, true, List, [], ◌∷◌, ◌++◌}
use Rattle.std.specs.Ordering.{is_le}
use Rattle.vx_rows_values.specs.declared.order.OrderEntry.{OrderEntry}
use Rattle.vx_rows_values.specs.Values.{Row}
use Rattle.vx_rows_values.specs.Order.{sorted, compare_on}
use Rattle.vx_plan_nodes.specs.Streams.{Streams, Dealt}

-- the same streams, with more rows behind one of them
abbrev pub with_more : Streams → ℕ → List Row → Streams
with_more s i xs j = cond (j == i) (s j ++ xs) (s j)

-- the same streams, but one
abbrev pub instead : Streams → ℕ → List Row → Streams
instead s i xs j = cond (j == i) xs (s j)

-- of each of n streams some rows were taken and some are left at hand; what was given is a sorted shuffle of the rows taken,
-- and it goes on in order with what is left of any stream and whatever more this stream may still bring without a fall
pub record Merged (n : ℕ) (merge : List OrderEntry) (ended : ℕ → Bool) (taken left : Streams) (given : List Row) : Type 0 where
  pub dealt : Dealt n given taken
  pub rises : sorted merge given ≡ true
  pub inputs : (i : ℕ) → i < n → sorted merge (taken i ++ left i) ≡ true
  pub goes_on : (i : ℕ) → i < n → (more : List Row) → (ended i ≡ true → more ≡ []) → sorted merge (taken i ++ (left i ++ more)) ≡ true
      → sorted merge (given ++ (left i ++ more)) ≡ true

-- the first row left of stream p is the least of all: no stream that has not ended is without a row, no head is less
pub record IsLeast (n : ℕ) (merge : List OrderEntry) (ended : ℕ → Bool) (left : Streams) (p : ℕ) (x : Row) (rest : List Row) : Type 0 where
  pub in_range : p < n
  pub head : left p ≡ x ∷ rest
  pub at_hand : (j : ℕ) → j < n → left j ≡ [] → ended j ≡ true
  pub least : (j : ℕ) → j < n → (y : Row) (ys : List Row) → left j ≡ y ∷ ys → is_le (compare_on merge x y) ≡ true
