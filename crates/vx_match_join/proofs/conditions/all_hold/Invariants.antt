use Rattle.std.proofs.Common.{◌≡◌, ◌++◌, true, take}
use Rattle.std.specs.List.{list_all}
use Rattle.vx_rows.specs.View.{row}
use Rattle.vx_ops_kernels.specs.Holds.{holds_of}
use Rattle.vx_match_join.proofs.conditions.all_hold.Given as goal

abbrev pub invariant-loop-k : goal.invariant-loop-k
invariant-loop-k l = list_all (λ c. holds_of c (row l.left l.i ++ row l.right l.place)) (take l.k l.conditions) ≡ true
