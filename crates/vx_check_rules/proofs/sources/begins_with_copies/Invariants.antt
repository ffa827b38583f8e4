use Rattle.std.proofs.Common.{◌≡◌, ◌≤◌, drop, length}
use Rattle.vx_plan_nodes.specs.DescribeView.{copying_of}
use Rattle.vx_check_rules.proofs.FrontFacts.{copies_begin}
use Rattle.vx_check_rules.proofs.sources.begins_with_copies.Given as goal

abbrev pub invariant-loop-i : goal.invariant-loop-i
invariant-loop-i l = record {
  as_long : length l.order ≤ length l.input;
  rest : copies_begin (copying_of l.copying) (drop l.i l.order) (drop l.i l.input) ≡ copies_begin (copying_of l.copying) l.order l.input;
}
