use Rattle.std.proofs.Common.{◌≡◌, map, take, length, nat_eq}
use Rattle.std.specs.List.{position_or_len}
use Rattle.vx_match_keys.proofs.column_keys.find_hashes.Given as goal

abbrev pub invariant-loop-i : goal.invariant-loop-i
invariant-loop-i l = record {
  len : length l.found ≡ length l.fn.found;
  numbers : take l.i l.found ≡ map (λ h. position_or_len (nat_eq h) l.hashes.keys) (take l.i l.wanted);
}
