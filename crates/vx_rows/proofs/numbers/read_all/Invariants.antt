use Rattle.std.proofs.Common.{◌≡◌, ℕ, ◌<◌, pos, true}
use Rattle.std.specs.Prelude.{slice_index_or}
use Rattle.vx_rows_values.specs.Types.{fits_64}
use Rattle.vx_rows.proofs.numbers.read_all.Given as goal

abbrev pub invariant-loop-i : goal.invariant-loop-i
invariant-loop-i l = (k : ℕ) → k < l.i → fits_64 (slice_index_or l.numbers k (pos 0)) ≡ true
