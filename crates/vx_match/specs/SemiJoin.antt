-- When a semi or an anti join may have received and returned what a ledger says.
use Rattle.std.proofs.Common.{le_refl}
use Rattle.vx_ops.specs.Ledger.{Ledger, Op}
use Rattle.vx_ops.specs.Turn.{Shape}
use Rattle.vx_ops.specs.Meaning.{Meaning}
use Rattle.vx_ops.specs.Probing.{ProbingView, probing_op, probing_types, ProbingStands, probing_meaning}
use Rattle.vx_match.specs.SemiJoining.{SemiJoiningView, semi_joining, semi_joining_types, SemiJoiningHasRead, SemiJoiningHasBuilt, semi_joining_each}

abbrev pub SemiJoin : Type 0
SemiJoin = ProbingView SemiJoiningView

abbrev pub semi_join_op : SemiJoin → Op
semi_join_op s = probing_op semi_joining s

abbrev pub semi_join_types : SemiJoin → Shape
semi_join_types s = probing_types semi_joining_types s

abbrev pub SemiJoinStands : SemiJoin → Ledger → Type 0
SemiJoinStands s l = ProbingStands semi_joining SemiJoiningHasRead SemiJoiningHasBuilt s l

abbrev pub semi_join_meaning : SemiJoin → Meaning
semi_join_meaning s = probing_meaning semi_joining semi_joining_types SemiJoiningHasRead SemiJoiningHasBuilt semi_joining_each (λ k m n h. le_refl 1) s
