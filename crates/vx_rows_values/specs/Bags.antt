-- Lists of rows as bags: which rows, and how often each.
use Rattle.std.specs.Prelude.{◌≡◌, ℕ, ◌+◌, Bool, cond, List, [], ◌∷◌}
use Rattle.vx_rows_values.specs.Values.{Row}

-- the total of a number that each element has
abbrev pub total : {X : Type 0} → (X → ℕ) → List X → ℕ
total f [] = 0
total f (x ∷ xs) = f x + total f xs

-- how many elements pass a test
abbrev pub count : {X : Type 0} → (X → Bool) → List X → ℕ
count p xs = total (λ x. cond (p x) 1 0) xs

-- the same rows, each as often: whatever number each row has, the totals are equal.
-- The law `same_rows_is_a_permutation` shows that this is a permutation, and equal counts of each row
pub record SameRows (xs ys : List Row) : Type 0 where
  pub totals : (f : Row → ℕ) → total f xs ≡ total f ys
