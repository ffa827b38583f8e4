-- Numbers that rise, or fall.
use Rattle.std.specs.Prelude.{◌≡◌, ◌<◌, ℕ, ℤ, Bool, List, pos, true, false, MatchBool, slice_index_or}
use Rattle.std.specs.List.{IsAllAdjacentAnswer}
use Rattle.std.specs.Ordering.{is_le, int_cmp}
use Rattle.vx_rows_values.specs.Values.{num}
use Rattle.vx_rows_values.specs.Order.{compare_values}

-- whether none of the numbers goes before the one in front of it
abbrev pub IsRiseAnswer : (falling : Bool) → List ℤ → Bool → Type 0
IsRiseAnswer falling numbers answer = IsAllAdjacentAnswer (λ x y b. is_le (compare_values falling (num x) (num y)) ≡ b) numbers answer

-- whether of so many numbers each is at most the one at its place in another list
abbrev pub AtMostAnswer : List ℤ → List ℤ → ℕ → Bool → Type 0
AtMostAnswer lower upper count answer = MatchBool answer
    ((k : ℕ) → k < count → is_le (int_cmp (slice_index_or lower k (pos 0)) (slice_index_or upper k (pos 0))) ≡ true)
    ((k : ℕ) × (k < count) × (is_le (int_cmp (slice_index_or lower k (pos 0)) (slice_index_or upper k (pos 0))) ≡ false))
