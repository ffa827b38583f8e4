-- One underscore more.
use Rattle.std.proofs.Common.{◌≡◌, ℕ, ◌+◌, [], ◌∷◌, ◌++◌, replicate, sym}
use Rattle.std.proofs.lemmas.List.{replicate-append-replicate}

pub one_more : (k b : ℕ) → replicate (k + 1) b ≡ replicate k b ++ (b ∷ [])
one_more k b = sym (replicate-append-replicate k 1 b)
