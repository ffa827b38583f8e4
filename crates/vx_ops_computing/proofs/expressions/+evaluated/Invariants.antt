use Rattle.std.proofs.Common.{take}
use Rattle.vx_ops_computing.proofs.AnswerFacts.{AreAnswered}
use Rattle.vx_plan_nodes.specs.Outline.{expression_of}
use Rattle.vx_ops_computing.proofs.Depths.{depth}
use Rattle.vx_ops_computing.proofs.expressions.+evaluated.Given as goal

abbrev pub decreases-evaluated : goal.decreases-evaluated
decreases-evaluated g l = depth (expression_of l.expression.now)

abbrev pub invariant-loop-inner : goal.invariant-loop-inner
invariant-loop-inner g l = AreAnswered (g.F.PlanFunctions.functions l.functions) l.chunk.types (take l.inner-index l.inner-items) l.chunk.rows l.operands.items
