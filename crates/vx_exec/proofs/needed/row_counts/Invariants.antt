use Rattle.vx_exec.proofs.Counts.{AreCounts}
use Rattle.vx_exec.proofs.needed.row_counts.Given as goal

abbrev pub invariant-loop-relation : goal.invariant-loop-relation
invariant-loop-relation l = AreCounts 1 l.database l.relation l.counts.items
