use Rattle.std.proofs.Common.{◌≡◌, drop, length}
use Rattle.vx_plan_facts.specs.Following.{equal_lists}
use Rattle.vx_check_rules.specs.DerivedView.{equality_of}
use Rattle.vx_check_rules.proofs.equal.are_equal_lists.Given as goal

abbrev pub invariant-loop-i : goal.invariant-loop-i
invariant-loop-i l = record {
  as_long : length l.columns ≡ length l.others;
  rest : equal_lists (equality_of l.facts) (drop l.i l.columns) (drop l.i l.others) ≡ equal_lists (equality_of l.facts) l.columns l.others;
}
