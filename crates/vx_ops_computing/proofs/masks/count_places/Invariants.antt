use Rattle.std.proofs.Common.{◌≡◌, ◌≤◌, length, take}
use Rattle.vx_rows_views.specs.Selected.{places_of}
use Rattle.vx_ops_computing.proofs.masks.count_places.Given as goal

abbrev pub invariant-loop-k : goal.invariant-loop-k
invariant-loop-k l = (l.count ≡ length (places_of (λ b. b) (take l.k l.mask))) × (l.count ≤ l.k)
