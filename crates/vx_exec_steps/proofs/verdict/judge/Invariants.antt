use Rattle.vx_exec_steps.specs.Verdicts.{JudgedBelow}
use Rattle.vx_exec_steps.proofs.verdict.judge.Given as goal

abbrev pub invariant-loop-worker : goal.invariant-loop-worker
invariant-loop-worker g l = JudgedBelow l.workers l.worker-index l.verdict
