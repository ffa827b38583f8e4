use Rattle.std.proofs.Common.{◌≡◌, ◌-◌, ◌≤◌, ◌<◌, ℕ, [], true, is_le, get_or, length}
use Rattle.vx_rows_values.specs.Order.{compare_on}
use Rattle.vx_exchange_receivers.specs.Heads.{position_at, held_at, next_at}
use Rattle.vx_exchange_receivers.proofs.heads.gallop.Given as goal

abbrev pub invariant-doubles : goal.invariant-doubles
invariant-doubles l = record {
  more : position_at l.heads l.p < l.low;
  within : l.low ≤ length (held_at l.heads l.p);
  least : (k : ℕ) → position_at l.heads l.p ≤ k → k < l.low → is_le (compare_on l.merge (get_or (held_at l.heads l.p) k []) (next_at l.heads l.q)) ≡ true;
}

abbrev pub decreases-doubles : goal.decreases-doubles
decreases-doubles l = l.count - l.low
