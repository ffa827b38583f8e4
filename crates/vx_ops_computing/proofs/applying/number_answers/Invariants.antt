use Rattle.vx_ops_computing.specs.Applied.{AreNumbersOf}
use Rattle.vx_ops_computing.proofs.applying.number_answers.Given as goal

abbrev pub invariant-loop-k : goal.invariant-loop-k
invariant-loop-k g l = AreNumbersOf (g.A.Answers.says l.function) l.operands l.k l.numbers.items
