-- Arguments, spelled out one after the other.
use Rattle.std.proofs.Common.{◌≡◌, ◌∙◌, ℕ, ◌+◌, ◌<◌, ◌≤◌, zero, suc, List, [], ◌∷◌, ◌++◌, take, length, get_or, refl, sym, ap, subst, arith}
use Rattle.std.proofs.lemmas.List.{take_more}
use Rattle.std.proofs.Math.Seq.{take-length}
use Rattle.volcano_answer.specs.CommandLine.{spelled_out, spelled}

-- they are as many
pub spelled_length : (command : List ℕ) (ws : List (List ℕ)) → length (spelled command ws) ≡ length ws
spelled_length command [] = refl
spelled_length command (w ∷ ws) = ap suc (spelled_length command ws)

-- each is spelled by itself and the next one
pub spelled_at : (command : List ℕ) (ws : List (List ℕ)) (i : ℕ) → i < length ws → get_or (spelled command ws) i [] ≡ spelled_out command (get_or ws i []) (get_or ws (i + 1) [])
spelled_at command [] i there = absurd (omega (arith, there))
spelled_at command (w ∷ ws) zero there = refl
spelled_at command (w ∷ ws) (suc i) there =
    let behind : suc (i + 1) ≡ suc i + 1 = omega arith in
    subst (λ n. get_or (spelled command ws) i [] ≡ spelled_out command (get_or ws i []) (get_or (w ∷ ws) n [])) behind (spelled_at command ws i (omega (arith, there)))

-- the arguments so far, and the next one
pub spelled_more : (command : List ℕ) (ws : List (List ℕ)) (i : ℕ) (name : List ℕ) (all grown : List (List ℕ)) (next : List ℕ) → i < length ws
    → all ≡ name ∷ take i (spelled command ws) → grown ≡ all ++ next ∷ [] → next ≡ spelled_out command (get_or ws i []) (get_or ws (i + 1) [])
    → grown ≡ name ∷ take (i + 1) (spelled command ws)
spelled_more command ws i name all grown next there so_far more is =
    let inside : i < length (spelled command ws) = subst (λ n. i < n) (sym (spelled_length command ws)) there in
    more ∙ ap (λ x. x ++ next ∷ []) so_far ∙ ap (λ w. name ∷ (take i (spelled command ws) ++ w ∷ [])) (is ∙ sym (spelled_at command ws i there)) ∙ ap (λ x. name ∷ x) (sym (take_more (spelled command ws) i [] inside))

-- all of them
pub spelled_all : (command given : List ℕ) (ws : List (List ℕ)) (n : ℕ) (name : List ℕ) (all : List (List ℕ)) → length ws ≤ n → n ≤ length ws → all ≡ name ∷ take n (spelled command ws) → command ≡ given
    → all ≡ name ∷ spelled given ws
spelled_all command given ws n name all past within so_far same =
    let many : n ≡ length ws = omega (arith, past, within) in
    let end : n ≡ length (spelled command ws) = many ∙ sym (spelled_length command ws) in
    so_far ∙ ap (λ x. name ∷ x) (ap (λ m. take m (spelled command ws)) end ∙ take-length (spelled command ws)) ∙ ap (λ c. name ∷ spelled c ws) same
