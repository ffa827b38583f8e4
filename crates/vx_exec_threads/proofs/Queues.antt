-- The queues of a worker, as packets are taken early.
use Rattle.std.proofs.Common.{ℕ, ◌≡◌, Bool, true, false, List, Some, Result, Ok, Err, IfOk, OnErr, slice_get, ◌||◌, true≢false, refl, ◌∙◌}
use Rattle.std.proofs.Math.ListN.{set}
use Rattle.vx_exec_threads.specs.declared.inlet.Inlet.{Inlet}
use Rattle.vx_exec_threads.specs.Gathering.{QueuesStay, IsFilled, FillsAt}
use Rattle.vx_exec_threads.proofs.Bearing.{same-all, same-set, set-here}

abbrev SameQueue : Inlet → Inlet → Type 0
SameQueue a b = b.queue.items ≡ a.queue.items

pub stays-self : (xs : List Inlet) → QueuesStay xs xs
stays-self xs = same-all SameQueue (λ x. refl) xs

pub stays-set : (xs : List Inlet) (k : ℕ) (a b : Inlet) → slice_get xs k ≡ Some a → b.queue.items ≡ a.queue.items → QueuesStay xs (set xs k b)
stays-set xs k a b at same = same-set SameQueue (λ x. refl) xs k a b at same

pub stays-then : (xs ys zs : List Inlet) → QueuesStay xs ys → QueuesStay ys zs → QueuesStay xs zs
stays-then xs ys zs h g k a at = let u = h k a at in let v = g k u.0 u.1 in (v.0, v.1, v.2 ∙ u.2)

-- the same of what one ring's gathering answered
pub stays-taken : {E : Type 0} (xs : List Inlet) (k : ℕ) (a b : Inlet) (r : Result Bool E) → slice_get xs k ≡ Some a
    → IfOk r (λ m. m ≡ false → b.queue.items ≡ a.queue.items) → IfOk r (λ m. m ≡ false → QueuesStay xs (set xs k b))
stays-taken xs k a b (Ok m) at h = λ e. stays-set xs k a b at (h e)
stays-taken xs k a b (Err x) at h = h

pub filled-set : {E : Type 0} (xs : List Inlet) (k : ℕ) (a b : Inlet) (r : Result Bool E) → slice_get xs k ≡ Some a
    → OnErr r (IsFilled a b) → OnErr r (FillsAt k xs (set xs k b))
filled-set xs k a b (Ok m) at h = h
filled-set xs k a b (Err x) at h = (a, b, at, set-here xs k a b at, h)

pub on-err : {A E : Type 0} (P : Type 0) (r : Result A E) → P → OnErr r P
on-err P (Ok x) h = tt
on-err P (Err e) h = h

-- as far as the loop came, and at this place
pub stays-both : (xs ys zs : List Inlet) (a b : Bool) → (a ≡ false → QueuesStay xs ys) → (b ≡ false → QueuesStay ys zs) → (a || b) ≡ false → QueuesStay xs zs
stays-both xs ys zs true b h g e = absurd (true≢false e)
stays-both xs ys zs false b h g e = stays-then xs ys zs (h refl) (g e)
