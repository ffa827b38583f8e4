use Rattle.std.proofs.Common.{ℕ, ◌<◌, slice_index_or}
use Rattle.vx_exec_steps.proofs.run.bad_step.Given as goal

abbrev pub invariant-loop-index : goal.invariant-loop-index
invariant-loop-index l = (k : ℕ) → k < l.index → slice_index_or l.steps k 0 < l.workers
