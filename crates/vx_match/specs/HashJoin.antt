-- When a hash join may have received and returned what a ledger says.
use Rattle.vx_ops.specs.Ledger.{Ledger, Op}
use Rattle.vx_ops.specs.Turn.{Shape}
use Rattle.vx_ops.specs.Meaning.{Meaning}
use Rattle.vx_ops.specs.Probing.{ProbingView, probing_op, probing_types, ProbingStands, probing_meaning}
use Rattle.vx_match.specs.HashJoining.{HashJoiningView, hash_joining, hash_joining_types, HashJoiningHasRead, HashJoiningHasBuilt, hash_joining_each, hash-joining-grows}

abbrev pub HashJoin : Type 0
HashJoin = ProbingView HashJoiningView

abbrev pub hash_join_op : HashJoin → Op
hash_join_op s = probing_op hash_joining s

abbrev pub hash_join_types : HashJoin → Shape
hash_join_types s = probing_types hash_joining_types s

abbrev pub HashJoinStands : HashJoin → Ledger → Type 0
HashJoinStands s l = ProbingStands hash_joining HashJoiningHasRead HashJoiningHasBuilt s l

abbrev pub hash_join_meaning : HashJoin → Meaning
hash_join_meaning s = probing_meaning hash_joining hash_joining_types HashJoiningHasRead HashJoiningHasBuilt hash_joining_each hash-joining-grows s
