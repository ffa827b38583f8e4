-- Columns in directions, one after another.
use Rattle.std.proofs.Common.{◌≡◌, ℕ, zero, suc, ◌+◌, ◌<◌, ◌≤◌, min, Bool, List, [], ◌∷◌, ◌++◌, refl, ap, ◌∙◌, drop, get_or, length, drop-cons, add-one, arith, append_assoc}
use Rattle.std.proofs.lemmas.List.{append-nil}
use Rattle.std.proofs.Math.Seq.{drop-nil}
use Rattle.vx_rows_values.specs.declared.order.OrderEntry.{OrderEntry}
use Rattle.vx_rows_values.specs.Order.{in_directions}

pub direction_next : (order : List OrderEntry) (cols : List ℕ) (falls : List Bool) (i c : ℕ) (f : Bool) → i < length cols → i < length falls
    → (order ++ record { column = get_or cols i c; falling = get_or falls i f } ∷ []) ++ in_directions (drop (i + 1) cols) (drop (i + 1) falls) ≡ order ++ in_directions (drop i cols) (drop i falls)
direction_next order cols falls i c f h k = rw (drop-cons cols i c, drop-cons falls i f, add-one) (append_assoc order _ _)

none_left : (cols : List ℕ) (falls : List Bool) (i : ℕ) → min (length cols) (length falls) ≤ i → in_directions (drop i cols) (drop i falls) ≡ []
none_left [] falls i h = rw (drop-nil i) refl
none_left (c ∷ cols) [] i h = rw (drop-nil {A = Bool} i) (no_falls (drop i (c ∷ cols)))
  where
    no_falls : (cs : List ℕ) → in_directions cs [] ≡ []
    no_falls [] = refl
    no_falls (d ∷ ds) = refl
none_left (c ∷ cols) (f ∷ falls) zero h = absurd (omega arith)
none_left (c ∷ cols) (f ∷ falls) (suc i) h = none_left cols falls i (omega arith)

pub direction_done : (order : List OrderEntry) (cols : List ℕ) (falls : List Bool) (i : ℕ) → min (length cols) (length falls) ≤ i → order ++ in_directions (drop i cols) (drop i falls) ≡ order
direction_done order cols falls i h = ap (λ l. order ++ l) (none_left cols falls i h) ∙ append-nil order

pub ruleset direction_steps = (direction_next, direction_done)
