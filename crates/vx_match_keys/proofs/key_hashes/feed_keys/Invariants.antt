use Rattle.std.proofs.Common.{◌≡◌, ◌+◌, take, length}
use Rattle.vx_rows_values.specs.Values.{pick}
use Rattle.vx_rows.specs.View.{row}
use Rattle.vx_match_keys.specs.Hashed.{AreFed}
use Rattle.vx_match_keys.proofs.key_hashes.feed_keys.Given as goal

abbrev pub invariant-loop-j : goal.invariant-loop-j
invariant-loop-j l = record {
  len : length l.hashers ≡ length l.fn.hashers;
  fed : AreFed l.fn.hashers (λ k. pick (take l.j l.columns) (row l.chunk (l.from + k))) l.hashers;
}
