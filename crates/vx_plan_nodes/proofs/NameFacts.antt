-- Names without a prefix.
use Rattle.std.proofs.Common.{◌≡◌, ℕ, List, [], ◌∷◌, ◌++◌, refl, ap, ◌∙◌, map}

same-names : (ns : List (List ℕ)) → map (λ (n : List ℕ). [] ++ n) ns ≡ ns
same-names [] = refl
same-names (n ∷ ns) = ap (λ (r : List (List ℕ)). n ∷ r) (same-names ns)

-- an empty prefix changes no name
pub plain-names : (p : List ℕ) (ns : List (List ℕ)) → p ≡ [] → map (λ (n : List ℕ). p ++ n) ns ≡ ns
plain-names p ns e = ap (λ (q : List ℕ). map (λ (n : List ℕ). q ++ n) ns) e ∙ same-names ns
