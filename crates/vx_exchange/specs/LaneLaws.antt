-- Laws on lists of lanes, for those that a trait asks for.
use Rattle.std.specs.Prelude.{ℕ, zero, suc, ◌≡◌, ◌<◌, ◌||◌, Bool, true, false, List, [], ◌∷◌, length, Some, slice_get, slice_index_or}
use Rattle.std.proofs.Common.{refl, sym, ap, ◌∙◌, true≢false, le_of_suc-le-suc, not-suc-le-zero}
use Rattle.std.proofs.lemmas.Option.{none-some, same_Some}
use Rattle.vx_exchange.specs.LaneView.{LaneView}
use Rattle.vx_exchange.specs.Lanes.{IsLane, any_closed}

-- each place of a list has an element
pub element_at : {X : Type 0} (xs : List X) (j : ℕ) → j < length xs → (x : X) × (slice_get xs j ≡ Some x)
element_at [] j l = absurd (not-suc-le-zero l)
element_at (x ∷ xs) zero l = (x, refl)
element_at (x ∷ xs) (suc j) l = element_at xs j (le_of_suc-le-suc l)

-- where each element has a choice, a list of choices
chosen : {X A : Type 0} (P : ℕ → A → Type 0) (xs : List X) → ((j : ℕ) (x : X) → slice_get xs j ≡ Some x → (a : A) × P j a) → List A
chosen P [] h = []
chosen P (x ∷ xs) h = (h 0 x refl).0 ∷ chosen (λ j. P (suc j)) xs (λ j y e. h (suc j) y e)

chosen-at : {X A : Type 0} (P : ℕ → A → Type 0) (xs : List X) (h : (j : ℕ) (x : X) → slice_get xs j ≡ Some x → (a : A) × P j a) (d : A) (j : ℕ) (x : X)
    → slice_get xs j ≡ Some x → P j (slice_index_or (chosen P xs h) j d)
unfolding chosen
chosen-at P [] h d j x e = absurd (none-some x e)
chosen-at P (x ∷ xs) h d zero y e = (h 0 x refl).1
chosen-at P (x ∷ xs) h d (suc j) y e = chosen-at (λ k. P (suc k)) xs (λ k z f. h (suc k) z f) d j y e

-- one function in place of a choice for each element
pub choose : {X A : Type 0} (P : ℕ → A → Type 0) (d : A) (xs : List X) → ((j : ℕ) (x : X) → slice_get xs j ≡ Some x → (a : A) × P j a)
    → (f : ℕ → A) × ((j : ℕ) (x : X) → slice_get xs j ≡ Some x → P j (f j))
choose P d xs h = (λ j. slice_index_or (chosen P xs h) j d, λ j x e. chosen-at P xs h d j x e)

or-first : (a b : Bool) → (a || b) ≡ false → a ≡ false
or-first false b e = refl
or-first true b e = absurd (true≢false e)

or-second : (a b : Bool) → (a || b) ≡ false → b ≡ false
or-second false b e = e
or-second true b e = absurd (true≢false e)

-- where no lane has closed, this one has not
pub open_at : (lanes : List LaneView) (j : ℕ) (o : LaneView) → any_closed lanes ≡ false → IsLane lanes j o → o.closed ≡ false
open_at [] j o e h = absurd (none-some o h)
open_at (x ∷ lanes) zero o e h = ap (λ (z : LaneView). z.closed) (sym (same_Some x o h)) ∙ or-first x.closed (any_closed lanes) e
open_at (x ∷ lanes) (suc j) o e h = open_at lanes j o (or-second x.closed (any_closed lanes) e) h
