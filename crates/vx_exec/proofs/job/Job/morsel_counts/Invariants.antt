use Rattle.vx_exec.proofs.Counts.{AreCounts}
use Rattle.vx_exec.proofs.job.Job.morsel_counts.Given as goal

abbrev pub invariant-loop-relation : goal.invariant-loop-relation
invariant-loop-relation g l = AreCounts l.self.morsel l.self.database.now l.relation l.counts.items
