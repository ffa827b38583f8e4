use Rattle.std.proofs.Common.{◌≡◌, ℕ, ◌+◌, ◌<◌, [], get_or}
use Rattle.vx_match_keys.specs.Columns.{text_key}
use Rattle.vx_match_keys.proofs.key_matches.have_texts.Given as goal

abbrev pub invariant-loop-i : goal.invariant-loop-i
invariant-loop-i l = (k : ℕ) → k < l.i → text_key (get_or l.known (get_or l.places k 0) []) ≡ get_or l.column (l.from + k) []
