use Rattle.std.proofs.Common.{◌≤◌, ◌-◌, length}
use Rattle.vx_ops_computing.specs.Blocks.{AreAnswers}
use Rattle.vx_ops_computing.specs.Given.{expression_by}
use Rattle.vx_ops_computing.proofs.blocks.computed_numbers.Given as goal

abbrev pub invariant-loop-from : goal.invariant-loop-from
invariant-loop-from g l = record {
  near : l.from ≤ length l.chunk.rows;
  answers : AreAnswers (expression_by (g.F.PlanFunctions.functions l.functions) l.expression) l.chunk.rows l.from l.numbers.items;
}

abbrev pub decreases-loop-from : goal.decreases-loop-from
decreases-loop-from g l = l.count - l.from
