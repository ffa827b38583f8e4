-- Lists in which each element stands in a relation to all later ones: one more element, and which elements they have.
use Rattle.std.proofs.Common.{ℕ, zero, suc, ◌≡◌, ◌≤◌, ◌⊎◌, inl, inr, arith, List, [], ◌∷◌, length, All}
use Rattle.std.specs.List.{AllWithin, AllPairs, Contains, insert}
use Rattle.std.proofs.lemmas.List.Elements.{All-cons}
use Rattle.std.proofs.lemmas.List.Kept.{AllPairs-cons}

pub pairs-tail : {X : Type 0} (R : X → X → Type 0) (x : X) (xs : List X) → AllPairs R (x ∷ xs) → AllPairs R xs
pairs-tail R x xs h i j d a b = h (suc i) (suc j) d (omega (arith, a)) (omega (arith, b))

pub pairs-head : {X : Type 0} (R : X → X → Type 0) (x : X) (xs : List X) → AllPairs R (x ∷ xs) → All (R x) xs
pairs-head R x xs h k d l = h zero (suc k) d (omega arith) (omega (arith, l))

pub all-tail : {X : Type 0} (P : X → Type 0) (x : X) (xs : List X) → All P (x ∷ xs) → All P xs
all-tail P x xs h k d l = h (suc k) d (omega (arith, l))

pub all-insert : {X : Type 0} (P : X → Type 0) (xs : List X) (k : ℕ) (x : X) → All P xs → P x → All P (insert xs k x)
all-insert P [] zero x h p = All-cons P x [] p h
all-insert P [] (suc k) x h p = All-cons P x [] p h
all-insert P (y ∷ ys) zero x h p = All-cons P x (y ∷ ys) p h
all-insert P (y ∷ ys) (suc k) x h p = All-cons P y (insert ys k x) (h zero y (omega arith)) (all-insert P ys k x (all-tail P y ys h) p)

pub pairs-insert : {X : Type 0} (R : X → X → Type 0) (xs : List X) (k : ℕ) (x : X) → AllPairs R xs → AllWithin (λ y. R y x) xs 0 k → AllWithin (λ y. R x y) xs k (length xs)
    → k ≤ length xs → AllPairs R (insert xs k x)
pairs-insert R [] zero x h a b l = λ i j d s t. absurd (omega (arith, s, t))
pairs-insert R [] (suc k) x h a b l = absurd (omega (arith, l))
pairs-insert R (y ∷ ys) zero x h a b l = AllPairs-cons R x (y ∷ ys) (λ k d s. b k d (omega arith) s) h
pairs-insert R (y ∷ ys) (suc k) x h a b l =
    AllPairs-cons R y (insert ys k x)
    (all-insert (R y) ys k x (pairs-head R y ys h) (a zero y (omega arith) (omega arith)))
    (pairs-insert R ys k x (pairs-tail R y ys h) (λ i d s t. a (suc i) d (omega arith) (omega (arith, t))) (λ i d s t. b (suc i) d (omega (arith, s)) (omega (arith, t))) (omega (arith, l)))

has-tail : {X : Type 0} (y : X) (ys : List X) (x : X) → Contains ys x → Contains (y ∷ ys) x
has-tail y ys x h = let l = h.1 in (suc h.0, omega (arith, l), h.2)

pub has-either : {X : Type 0} (y : X) (ys : List X) (x : X) → Contains (y ∷ ys) x → (y ≡ x) ⊎ Contains ys x
has-either y ys x (zero, l, e) = inl e
has-either y ys x (suc k, l, e) = inr (k, omega (arith, l), e)

pub has-kept : {X : Type 0} (xs : List X) (k : ℕ) (x y : X) → Contains xs y → Contains (insert xs k x) y
has-kept [] k x y (n, l, e) = absurd (omega (arith, l))
has-kept (z ∷ zs) zero x y h = has-tail x (z ∷ zs) y h
has-kept (z ∷ zs) (suc k) x y (zero, l, e) = (zero, omega arith, e)
has-kept (z ∷ zs) (suc k) x y (suc n, l, e) = has-tail z (insert zs k x) y (has-kept zs k x y (n, omega (arith, l), e))
