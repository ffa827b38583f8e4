use Rattle.std.proofs.Common.{◌≡◌, ℕ, ◌+◌, ◌<◌, ◌≤◌, [], length, get_or, fold}
use Rattle.std.specs.Hash.FoldHasher.{write}
use Rattle.std.specs.declared.hash.FoldHasher.{FoldHasher}
use Rattle.vx_rows.specs.Hashing.{row_feed}
use Rattle.vx_match_keys.proofs.key_hashes.feed_texts.Given as goal

abbrev pub invariant-loop-i : goal.invariant-loop-i
invariant-loop-i l = record {
  len : length l.hashers ≡ length l.fn.hashers;
  fed : (k : ℕ) → k < l.i → (d : FoldHasher) → get_or l.hashers k d ≡ fold write (get_or l.fn.hashers k d) (row_feed (get_or l.column (l.from + k) []));
  rest : (k : ℕ) → l.i ≤ k → (d : FoldHasher) → get_or l.hashers k d ≡ get_or l.fn.hashers k d;
}
