use Rattle.std.proofs.Common.{◌≡◌, take}
use Rattle.vx_match_keys.proofs.composite_keys.CompositeKeys.as_rows.Given as goal

abbrev pub invariant-loop-number : goal.invariant-loop-number
invariant-loop-number l = l.rows ≡ take l.number l.self
