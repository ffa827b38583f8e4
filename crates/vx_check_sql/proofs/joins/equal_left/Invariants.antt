use Rattle.std.proofs.Common.{◌≡◌, drop}
use Rattle.vx_check_sql.specs.Operators.{equal_left}
use Rattle.vx_check_sql.proofs.joins.equal_left.Given as goal

abbrev pub invariant-loop-pair : goal.invariant-loop-pair
invariant-loop-pair l =
    equal_left (drop l.pair-index l.on) l.right ≡ equal_left l.on l.right
