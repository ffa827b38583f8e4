-- As many directions that rise as there are pairs.
use Rattle.std.proofs.Common.{◌≡◌, ℕ, ◌+◌, List, [], ◌∷◌, ◌++◌, Bool, false, map, length, replicate, refl, sym}
use Rattle.std.proofs.lemmas.List.{replicate-append-replicate}
use Rattle.std.proofs.lemmas.Simd.{splat_is_map}

pub one_more : (k : ℕ) (b : Bool) → replicate (k + 1) b ≡ replicate k b ++ (b ∷ [])
one_more k b = sym (replicate-append-replicate k 1 b)

pub as_many : (on : List (ℕ × ℕ)) → replicate (length on) false ≡ map (λ (p : ℕ × ℕ). false) on
as_many on = splat_is_map on (length on) false refl
