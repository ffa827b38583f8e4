use Rattle.std.proofs.Common.{◌≡◌, map, take, length}
use Rattle.std.specs.Hash.FoldHasher.{finish}
use Rattle.vx_match_keys.proofs.key_hashes.finish_all.Given as goal

abbrev pub invariant-loop-i : goal.invariant-loop-i
invariant-loop-i l = record {
  len : length l.hashes ≡ length l.fn.hashes;
  hashes : take l.i l.hashes ≡ map finish (take l.i l.hashers);
}
