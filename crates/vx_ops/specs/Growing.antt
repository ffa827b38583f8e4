-- Where less may still come a source has less left to do: laws that the trait asks for.
use Rattle.std.specs.Prelude.{ℕ, zero, suc, ◌≤◌}
use Rattle.std.proofs.Common.{le_refl, add-le-add}
use Rattle.vx_ops.specs.Turn.{sum_below, if_running}
use Rattle.vx_ops.specs.declared.fault.StreamState.{StreamState}
use Rattle.vx_ops.specs.declared.fault.StreamState.TheVariants.{Running, Ended, Failed}

pub sum-grows : (n : ℕ) (f g : ℕ → ℕ) → ((i : ℕ) → f i ≤ g i) → sum_below n f ≤ sum_below n g
sum-grows zero f g h = le_refl 0
sum-grows (suc n) f g h = add-le-add (sum-grows n f g h) (h n)

pub running-grows : (over : StreamState) (m n : ℕ) → m ≤ n → if_running over m ≤ if_running over n
running-grows Running m n h = h
running-grows Ended m n h = le_refl 0
running-grows (Failed f) m n h = le_refl 0
