use Rattle.std.proofs.Common.{◌≡◌, drop, length}
use Rattle.vx_plan_nodes.specs.DescribeView.{copying_of}
use Rattle.vx_plan_facts.specs.FactsView.{width_of}
use Rattle.vx_check_rules.specs.Derived.{stand_for}
use Rattle.vx_check_rules.specs.DerivedView.{equality_of}
use Rattle.vx_check_rules.proofs.routed.stand_for.Given as goal

abbrev pub invariant-loop-i : goal.invariant-loop-i
invariant-loop-i l = record {
  as_long : length l.columns ≡ length l.others;
  rest : stand_for (width_of l.output) (copying_of l.copying) (equality_of l.input) (equality_of l.output) (drop l.i l.columns) (drop l.i l.others)
      ≡ stand_for (width_of l.output) (copying_of l.copying) (equality_of l.input) (equality_of l.output) l.columns l.others;
}
