use Rattle.std.proofs.Common.{ℕ, ◌-◌, ◌<◌, ◌≤◌, get_or}
use Rattle.vx_rows_views.proofs.rows.run_end.Given as goal

abbrev pub invariant-loop-k : goal.invariant-loop-k
invariant-loop-k l = record {
  low : (j : ℕ) → l.from ≤ j → j < l.k → l.start ≤ get_or l.places j 0;
  high : (j : ℕ) → l.from ≤ j → j < l.k → get_or l.places j 0 - l.start < l.count;
}
