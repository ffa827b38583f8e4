use Rattle.std.proofs.Common.{◌≡◌, drop}
use Rattle.vx_check_sql.specs.Statement.{begins}
use Rattle.vx_check_sql.proofs.statement.begins.Given as goal

abbrev pub invariant-loop-i : goal.invariant-loop-i
invariant-loop-i l =
    begins (drop l.i l.order) (drop l.i l.entries) ≡ begins l.order l.entries
