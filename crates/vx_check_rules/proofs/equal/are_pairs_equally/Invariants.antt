use Rattle.std.proofs.Common.{◌≡◌, drop, length}
use Rattle.vx_check_rules.specs.Derived.{all_pairs_equally}
use Rattle.vx_check_rules.specs.DerivedView.{equality_of}
use Rattle.vx_check_rules.proofs.equal.are_pairs_equally.Given as goal

abbrev pub invariant-loop-i : goal.invariant-loop-i
invariant-loop-i l = record {
  as_long : length l.lefts ≡ length l.rights;
  rest : all_pairs_equally (equality_of l.left) (equality_of l.right) l.on (drop l.i l.lefts) (drop l.i l.rights)
      ≡ all_pairs_equally (equality_of l.left) (equality_of l.right) l.on l.lefts l.rights;
}
