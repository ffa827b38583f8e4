-- Rows that all bear one number, behind rows that bear any.
use Rattle.std.proofs.Common.{◌≡◌, ◌≢◌, ℕ, ◌<◌, ◌==◌, ◌&&◌, nat_lt, Bool, true, false, cond, List, [], ◌∷◌, ◌++◌, map, refl, ap, arith, lt-ltb}
use Rattle.std.specs.List.{list_all}
use Rattle.std.proofs.lemmas.List.{map-append}
use Rattle.std.proofs.lemmas.Bool.Decides.{nat_tests}
use Rattle.vx_rows_values.specs.Values.{Row}
use Rattle.vx_plan_nodes.specs.Streams.{bearing}

-- each of these rows with this number
abbrev pub numbered_same : (i : ℕ) → List Row → List (ℕ × Row)
numbered_same i [] = []
numbered_same i (x ∷ xs) = (i, x) ∷ numbered_same i xs

pub rows-numbered_same : (i : ℕ) (xs : List Row) → map (λ t. t.1) (numbered_same i xs) ≡ xs
rows-numbered_same i [] = refl
rows-numbered_same i (x ∷ xs) = ap (λ ys. x ∷ ys) (rows-numbered_same i xs)

pub range-numbered_same : (n i : ℕ) (xs : List Row) → i < n → list_all (λ t. nat_lt t.0 n) (numbered_same i xs) ≡ true
range-numbered_same n i [] lt = refl
range-numbered_same n i (x ∷ xs) lt = rw (lt-ltb i n lt, range-numbered_same n i xs lt) refl

pub bearing-same : (i : ℕ) (xs : List Row) → bearing i (numbered_same i xs) ≡ xs
bearing-same i [] = refl
bearing-same i (x ∷ xs) = let e : (i == i) ≡ true = grind (arith, nat_tests) in rw e (ap (λ ys. x ∷ ys) (bearing-same i xs))

pub bearing-other : (j i : ℕ) (xs : List Row) → j ≢ i → bearing j (numbered_same i xs) ≡ []
bearing-other j i [] ne = refl
bearing-other j i (x ∷ xs) ne = let e : (i == j) ≡ false = grind (arith, nat_tests) in rw e (bearing-other j i xs ne)

pub bearing-append : (j : ℕ) (a b : List (ℕ × Row)) → bearing j (a ++ b) ≡ bearing j a ++ bearing j b
bearing-append j [] b = refl
bearing-append j (t ∷ a) b = go (t.0 == j) (bearing-append j a b)
  where
    go : (v : Bool) → bearing j (a ++ b) ≡ bearing j a ++ bearing j b → cond v (t.1 ∷ bearing j (a ++ b)) (bearing j (a ++ b)) ≡ cond v (t.1 ∷ bearing j a) (bearing j a) ++ bearing j b
    go true e = ap (λ ys. t.1 ∷ ys) e
    go false e = e

pub numbers-append : (a b : List (ℕ × Row)) → map (λ (t : ℕ × Row). t.1) (a ++ b) ≡ map (λ (t : ℕ × Row). t.1) a ++ map (λ (t : ℕ × Row). t.1) b
numbers-append a b = map-append (λ (t : ℕ × Row). t.1) a b

pub ranges-append : (n : ℕ) (a b : List (ℕ × Row)) → list_all (λ t. nat_lt t.0 n) a ≡ true → list_all (λ t. nat_lt t.0 n) b ≡ true → list_all (λ t. nat_lt t.0 n) (a ++ b) ≡ true
ranges-append n [] b h k = k
ranges-append n (t ∷ a) b h k = go (nat_lt t.0 n) (λ e. ranges-append n a b e k) h
  where
    go : (v : Bool) → (list_all (λ t. nat_lt t.0 n) a ≡ true → list_all (λ t. nat_lt t.0 n) (a ++ b) ≡ true)
        → (v && list_all (λ t. nat_lt t.0 n) a) ≡ true → (v && list_all (λ t. nat_lt t.0 n) (a ++ b)) ≡ true
    go true f e = f e
    go false f e = cc
