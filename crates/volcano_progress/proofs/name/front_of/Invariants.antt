use Rattle.std.proofs.Common.{◌≡◌, ℕ, List, ◌<◌, ◌≤◌, length, true, slice_index}
use Rattle.volcano_progress.specs.Name.{is_continuation}
use Rattle.volcano_progress.proofs.name.front_of.Given as goal

-- no character ends behind here
pub record IsNear (name : List ℕ) (end : ℕ) : Type 0 where
  pub within : end ≤ length name
  pub short : end ≤ 40
  pub whole : length name ≤ 40 → end ≡ length name
  pub longest : (k : ℕ) → end < k → k ≤ 40 → k < length name → is_continuation (slice_index name k) ≡ true

abbrev pub invariant-loop-end : goal.invariant-loop-end
invariant-loop-end l = IsNear l.name l.end

abbrev pub decreases-loop-end : goal.decreases-loop-end
decreases-loop-end l = l.end
