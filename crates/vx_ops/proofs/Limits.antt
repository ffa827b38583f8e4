-- The first rows of lists that come one behind the other.
use Rattle.std.proofs.Common.{◌≡◌, ℕ, zero, suc, ◌-◌, ◌≤◌, List, [], ◌∷◌, ◌++◌, length, take, refl, sym, ap, ◌∙◌, arith}
use Rattle.std.proofs.lemmas.List.{take_all, length-append}

pub take-both : {X : Type 0} (n : ℕ) (xs ys : List X) → take n (xs ++ ys) ≡ take n xs ++ take (n - length xs) ys
take-both zero xs ys = let none : 0 - length xs ≡ 0 = omega arith in rw none refl
take-both (suc n) [] ys = let all : suc n - 0 ≡ suc n = omega arith in rw all refl
take-both (suc n) (x ∷ xs) ys =
    let less : suc n - length (x ∷ xs) ≡ n - length xs = omega arith in
    rw less (ap (λ zs. x ∷ zs) (take-both n xs ys))

-- all of a batch are among the first rows, if no more than are missing
pub limit-all : {X : Type 0} (n : ℕ) (xs ys batch : List X) → ys ≡ take n xs → length batch ≤ n - length xs → ys ++ batch ≡ take n (xs ++ batch)
limit-all n xs ys batch made few =
    ap (λ zs. zs ++ batch) made ∙ (ap (λ zs. take n xs ++ zs) (sym (take_all (n - length xs) batch few)) ∙ sym (take-both n xs batch))

-- else the first of them are
pub limit-front : {X : Type 0} (n missing : ℕ) (xs ys batch : List X) → ys ≡ take n xs → missing ≡ n - length xs → ys ++ take missing batch ≡ take n (xs ++ batch)
limit-front n missing xs ys batch made are =
    ap (λ zs. zs ++ take missing batch) made ∙ (ap (λ k. take n xs ++ take k batch) are ∙ sym (take-both n xs batch))

-- so many fewer are missing then
pub limit-less : {X : Type 0} (n missing : ℕ) (xs batch : List X) → missing ≡ n - length xs → missing - length batch ≡ n - length (xs ++ batch)
limit-less n missing xs batch are = let both = length-append xs batch in omega (arith, both, are)
