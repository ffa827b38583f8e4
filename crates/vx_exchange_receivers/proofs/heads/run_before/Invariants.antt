use Rattle.std.proofs.Common.{◌≡◌, ◌-◌, ◌≤◌, ◌<◌, ℕ, [], true, is_le, get_or, length}
use Rattle.vx_rows_values.specs.Order.{compare_on}
use Rattle.vx_exchange_receivers.specs.Heads.{position_at, held_at, next_at}
use Rattle.vx_exchange_receivers.proofs.heads.run_before.Given as goal

abbrev pub invariant-halves : goal.invariant-halves
invariant-halves l = record {
  more : position_at l.heads l.p < l.low;
  order : l.low ≤ l.high;
  within : l.high ≤ length (held_at l.heads l.p);
  least : (k : ℕ) → position_at l.heads l.p ≤ k → k < l.low → is_le (compare_on l.merge (get_or (held_at l.heads l.p) k []) (next_at l.heads l.q)) ≡ true;
}

abbrev pub decreases-halves : goal.decreases-halves
decreases-halves l = l.high - l.low
