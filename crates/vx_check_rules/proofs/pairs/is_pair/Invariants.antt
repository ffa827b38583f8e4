use Rattle.std.proofs.Common.{◌≡◌, drop}
use Rattle.vx_check_rules.specs.Rules.{has_pair}
use Rattle.vx_check_rules.proofs.pairs.is_pair.Given as goal

abbrev pub invariant-loop-pair : goal.invariant-loop-pair
invariant-loop-pair l = has_pair l.on l.left l.right ≡ has_pair (drop l.pair-index l.on) l.left l.right
