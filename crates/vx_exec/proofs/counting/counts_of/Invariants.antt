use Rattle.std.proofs.Common.{take}
use Rattle.vx_exec.specs.Counts.{AreCountsOf}
use Rattle.vx_exec.proofs.counting.counts_of.Given as goal

abbrev pub invariant-loop-worker : goal.invariant-loop-worker
invariant-loop-worker g l = AreCountsOf (take l.worker-index l.workers) l.counts.items
