use Rattle.std.proofs.Common.{◌≡◌, ◌-◌, ◌≤◌, length, take}
use Rattle.vx_rows_views.specs.Selected.{places_of}
use Rattle.vx_ops_computing.proofs.masks.fill_places.Given as goal

abbrev pub invariant-loop-found : goal.invariant-loop-found
invariant-loop-found l = record {
  count : l.found ≡ length (places_of (λ b. b) (take l.k l.mask));
  near : l.k ≤ length l.mask;
  done : take l.found l.places ≡ places_of (λ b. b) (take l.k l.mask);
  long : length l.places ≡ length (places_of (λ b. b) l.mask);
}

abbrev pub decreases-loop-found : goal.decreases-loop-found
decreases-loop-found l = length l.mask - l.k
