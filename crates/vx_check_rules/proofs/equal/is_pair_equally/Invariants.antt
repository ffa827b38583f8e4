use Rattle.std.proofs.Common.{◌≡◌, drop}
use Rattle.vx_check_rules.specs.Derived.{has_pair_equally}
use Rattle.vx_check_rules.specs.DerivedView.{equality_of}
use Rattle.vx_check_rules.proofs.equal.is_pair_equally.Given as goal

abbrev pub invariant-loop-pair : goal.invariant-loop-pair
invariant-loop-pair l =
    has_pair_equally (equality_of l.left) (equality_of l.right) l.on l.column l.other
    ≡ has_pair_equally (equality_of l.left) (equality_of l.right) (drop l.pair-index l.on) l.column l.other
