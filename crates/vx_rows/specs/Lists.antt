-- Definitions on lists.
use Rattle.std.specs.Prelude.{◌≡◌, ℕ, zero, suc, List, [], ◌∷◌, ◌++◌}

-- the first list is a prefix of the second
pub record IsBeginning {X : Type 0} (xs ys : List X) : Type 0 where
  pub rest : List X
  pub joined : xs ++ rest ≡ ys

-- f 0, f 1, and so on, n of them
unfoldable pub each_below : {A : Type 0} → ℕ → (ℕ → A) → List A
each_below zero f = []
each_below (suc n) f = each_below n f ++ f n ∷ []
