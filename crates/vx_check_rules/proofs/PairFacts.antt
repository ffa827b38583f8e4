-- The pairs of a join, one by one.
use Rattle.std.proofs.Common.{◌≡◌, ℕ, suc, false, List, [], ◌∷◌, length, refl, ap}
use Rattle.std.proofs.Math.Bool.{and-false}
use Rattle.vx_check_rules.specs.Rules.{has_pair, all_pairs}

-- lists of unequal lengths are not paired
pub pairs-length : (on : List (ℕ × ℕ)) (ls rs : List ℕ) → (length ls ≡ length rs → ⊥) → all_pairs on ls rs ≡ false
pairs-length on [] [] other = absurd (other refl)
pairs-length on [] (y ∷ ys) other = refl
pairs-length on (x ∷ xs) [] other = refl
pairs-length on (x ∷ xs) (y ∷ ys) other = rw (pairs-length on xs ys (λ e. other (ap suc e))) (and-false (has_pair on x y))
