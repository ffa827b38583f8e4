use Rattle.std.proofs.Common.{◌≡◌, drop, length}
use Rattle.vx_plan_nodes.specs.DescribeView.{copying_of}
use Rattle.vx_check_rules.proofs.CopyFacts.{stands}
use Rattle.vx_check_rules.proofs.sources.are_copies_of.Given as goal

abbrev pub invariant-loop-i : goal.invariant-loop-i
invariant-loop-i l = record {
  as_long : length l.columns ≡ length l.inputs;
  rest : stands (copying_of l.copying) (drop l.i l.columns) (drop l.i l.inputs) ≡ stands (copying_of l.copying) l.columns l.inputs;
}
