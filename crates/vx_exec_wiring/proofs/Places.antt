-- What stands at the places of a list that grew by one (our own).
use Rattle.std.proofs.Common.{ℕ, zero, suc, ◌≡◌, ◌<◌, ◌⊎◌, List, [], ◌∷◌, ◌++◌, length, Some, refl, sym, ap, ◌∙◌, arith, inl, inr, slice_get}
use Rattle.std.proofs.lemmas.Option.{same_Some, none-some}

-- two readings of one place
pub one-place : {A : Type 0} (xs : List A) (k : ℕ) (x y : A) → slice_get xs k ≡ Some x → slice_get xs k ≡ Some y → x ≡ y
one-place xs k x y ex ey = same_Some x y (sym ex ∙ ey)

pub get-front : {A : Type 0} (xs ys : List A) (k : ℕ) (x : A) → slice_get xs k ≡ Some x → slice_get (xs ++ ys) k ≡ Some x
get-front [] ys k x e = absurd (none-some x e)
get-front (z ∷ xs) ys zero x e = e
get-front (z ∷ xs) ys (suc k) x e = get-front xs ys k x e

pub get-last : {A : Type 0} (xs : List A) (x : A) → slice_get (xs ++ x ∷ []) (length xs) ≡ Some x
get-last [] x = refl
get-last (z ∷ xs) x = get-last xs x

-- of one that is longer by one: a place of before, or the last
pub get-snoc : {A : Type 0} (xs : List A) (x : A) (k : ℕ) (z : A) → slice_get (xs ++ x ∷ []) k ≡ Some z
    → (slice_get xs k ≡ Some z) ⊎ ((k ≡ length xs) × (z ≡ x))
get-snoc [] x zero z e = inr (refl, same_Some z x (sym e))
get-snoc [] x (suc k) z e = absurd (none-some z e)
get-snoc (y ∷ xs) x zero z e = inl e
get-snoc (y ∷ xs) x (suc k) z e = elim (get-snoc xs x k z e) [
  | inl h ↦ inl h
  | inr h ↦ inr (ap suc h.0, h.1)
]

pub get-below : {A : Type 0} (xs : List A) (k : ℕ) → k < length xs → (x : A) × (slice_get xs k ≡ Some x)
get-below [] k l = absurd (omega (arith, l))
get-below (x ∷ xs) zero l = (x, refl)
get-below (x ∷ xs) (suc k) l = get-below xs k (omega (arith, l))
