use Rattle.std.proofs.Common.{◌≡◌, take}
use Rattle.vx_match_keys.proofs.int_keys.IntKeys.as_direct.Given as goal

abbrev pub invariant-loop-number : goal.invariant-loop-number
invariant-loop-number l = l.direct ≡ take l.number l.self
