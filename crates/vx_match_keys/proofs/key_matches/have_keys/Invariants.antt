use Rattle.std.proofs.Common.{◌≡◌, ℕ, ◌+◌, ◌<◌, take, length, get_or}
use Rattle.vx_rows_values.specs.Values.{pick}
use Rattle.vx_rows.specs.View.{row}
use Rattle.vx_match_keys.proofs.key_matches.have_keys.Given as goal

abbrev pub invariant-loop-j : goal.invariant-loop-j
invariant-loop-j l = (k : ℕ) → k < length l.places → take l.j (row l.keys (get_or l.places k 0)) ≡ take l.j (pick l.columns (row l.chunk (l.from + k)))
