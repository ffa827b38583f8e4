use Rattle.std.proofs.Common.{◌≡◌, drop, length}
use Rattle.vx_check_rules.specs.Rules.{all_pairs}
use Rattle.vx_check_rules.proofs.pairs.are_pairs.Given as goal

abbrev pub invariant-loop-i : goal.invariant-loop-i
invariant-loop-i l = record {
  as_long : length l.lefts ≡ length l.rights;
  rest : all_pairs l.on (drop l.i l.lefts) (drop l.i l.rights) ≡ all_pairs l.on l.lefts l.rights;
}
