-- Lists of columns, in the words of the program's tests.
use Rattle.std.proofs.Common.{Vec, Global, map, ◌≡◌, ℕ, zero, suc, ◌+◌, ◌<◌, Bool, List, [], ◌∷◌, ◌++◌, length, drop, get_or, drop-cons, nat_lt, ◌==◌, ◌&&◌, ◌||◌, refl, sym, ap, ◌∙◌, arith, add-one, eqb}
use Rattle.std.specs.List.{list_all, list_any}
use Rattle.std.specs.Cmp.Lexicographic.{pointwise}
use Rattle.std.proofs.lemmas.Bool.Decides.{nat_tests}
use Rattle.vx_plan_nodes.specs.Phases.{columns_from, first_columns}
use Rattle.vx_check_rules.specs.Rules.{numbers_eq, contains, within, numbers_below}

pub list_all-ext : {X : Type 0} (p q : X → Bool) (xs : List X) → ((x : X) → p x ≡ q x) → list_all p xs ≡ list_all q xs
list_all-ext p q [] h = refl
list_all-ext p q (x ∷ xs) h = rw (h x, list_all-ext p q xs h) refl

pub list_any-ext : {X : Type 0} (p q : X → Bool) (xs : List X) → ((x : X) → p x ≡ q x) → list_any p xs ≡ list_any q xs
list_any-ext p q [] h = refl
list_any-ext p q (x ∷ xs) h = rw (h x, list_any-ext p q xs h) refl

-- the list at this place, and those behind it
pub lists-here : (test : List ℕ → Bool) (vs : List (Vec ℕ Global)) (i : ℕ) (v : Vec ℕ Global) → i < length vs → v ≡ get_or vs i v
    → list_all test (map (λ (w : Vec ℕ Global). w.items) (drop i vs)) ≡ (test v.items && list_all test (map (λ (w : Vec ℕ Global). w.items) (drop (i + 1) vs)))
lists-here test vs i v h e =
    rw (drop-cons vs i v h, add-one) (ap (λ (w : Vec ℕ Global). test w.items && list_all test (map (λ (w : Vec ℕ Global). w.items) (drop (suc i) vs))) (sym e))

below_suc : (c n : ℕ) → ((c == n) || nat_lt c n) ≡ nat_lt c (suc n)
below_suc c n = grind (arith, nat_tests)

-- the numbers below n are those that are below n
pub contains-below : (n c : ℕ) → contains (numbers_below n) c ≡ nat_lt c n
contains-below zero c = grind (arith, nat_tests)
contains-below (suc n) c = ap (λ b. (c == n) || b) (contains-below n c) ∙ below_suc c n

pub within-below : (n : ℕ) (xs : List ℕ) → list_all (λ c. nat_lt c n) xs ≡ within xs (numbers_below n)
within-below n xs = list_all-ext _ _ xs (λ c. sym (contains-below n c))

-- one column more
columns-push : (i n : ℕ) → columns_from i (suc n) ≡ columns_from i n ++ (i + n) ∷ []
columns-push i zero = let z : i + 0 ≡ i = omega arith in ap (λ x. x ∷ []) (sym z)
columns-push i (suc n) = let e : suc i + n ≡ i + suc n = omega arith in ap (λ xs. i ∷ xs) (columns-push (suc i) n ∙ ap (λ x. columns_from (suc i) n ++ x ∷ []) e)

pub first-suc : (n : ℕ) → first_columns (suc n) ≡ first_columns n ++ n ∷ []
first-suc n = let z : 0 + n ≡ n = omega arith in columns-push 0 n ∙ ap (λ x. first_columns n ++ x ∷ []) z

pub first_push : (n : ℕ) → first_columns (n + 1) ≡ first_columns n ++ n ∷ []
first_push n = rw add-one (first-suc n)

from-at : (s n i : ℕ) → i < n → get_or (columns_from s n) i 0 ≡ s + i
from-at s zero i h = absurd (omega (arith, h))
from-at s (suc n) zero h = omega arith
from-at s (suc n) (suc i) h = let e = from-at (suc s) n i (omega (arith, h)) in omega (arith, e)

pub first_at : (n i : ℕ) → i < n → get_or (first_columns n) i 0 ≡ i
first_at n i h = let e = from-at 0 n i h in omega (arith, e)

from-length : (s n : ℕ) → length (columns_from s n) ≡ n
from-length s zero = refl
from-length s (suc n) = let e = from-length (suc s) n in omega (arith, e)

pub first_length : (n : ℕ) → length (first_columns n) ≡ n
first_length n = from-length 0 n

-- texts are compared byte by byte
pub numbers-pointwise : (xs ys : List ℕ) → pointwise eqb xs ys ≡ numbers_eq xs ys
numbers-pointwise [] [] = refl
numbers-pointwise [] (y ∷ ys) = refl
numbers-pointwise (x ∷ xs) [] = refl
numbers-pointwise (x ∷ xs) (y ∷ ys) = ap (λ b. (x == y) && b) (numbers-pointwise xs ys)
