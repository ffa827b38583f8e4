use Rattle.std.proofs.Common.{◌≡◌, ◌≤◌, ◌<◌, ◌-◌, ℕ, true, false, length, get_or, pos, is_le}
use Rattle.vx_rows_values.specs.Values.{val_cmp, num}
use Rattle.vx_rows_values.specs.ValueView.{cell_val}
use Rattle.vx_exchange.proofs.ranges.Ranges.not_above.Given as goal

abbrev pub invariant-loop-low : goal.invariant-loop-low
invariant-loop-low l = record {
  order : l.low ≤ l.high;
  within : l.high ≤ length l.self;
  not_above : (k : ℕ) → k < l.low → is_le (val_cmp (get_or l.self k (num (pos 0))) (cell_val l.value)) ≡ true;
  above : (k : ℕ) → l.high ≤ k → k < length l.self → is_le (val_cmp (get_or l.self k (num (pos 0))) (cell_val l.value)) ≡ false;
}

abbrev pub decreases-loop-low : goal.decreases-loop-low
decreases-loop-low l = l.high - l.low
