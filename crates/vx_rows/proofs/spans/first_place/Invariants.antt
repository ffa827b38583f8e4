use Rattle.std.proofs.Common.{ℕ, ◌<◌, ◌≢◌}
use Rattle.vx_rows.specs.Numbers.{number_at}
use Rattle.vx_rows.proofs.spans.first_place.Given as goal

abbrev pub invariant-loop-i : goal.invariant-loop-i
invariant-loop-i l = (k : ℕ) → k < l.i → number_at l.numbers l.second ≢ number_at l.numbers k
