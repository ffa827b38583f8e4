use Rattle.std.proofs.Common.{ℕ, ◌<◌, ◌≤ℤ◌}
use Rattle.vx_rows.specs.Numbers.{number_at}
use Rattle.vx_rows.proofs.spans.span_of.Given as goal

abbrev pub invariant-loop-i : goal.invariant-loop-i
invariant-loop-i l = record {
  low : (k : ℕ) → k < l.i → l.low ≤ℤ (number_at l.numbers k);
  high : (k : ℕ) → k < l.i → (number_at l.numbers k) ≤ℤ l.high;
}
