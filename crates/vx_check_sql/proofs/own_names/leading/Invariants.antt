use Rattle.std.proofs.Common.{◌≡◌, ◌+◌, drop}
use Rattle.vx_check_sql.specs.OwnNames.{leading}
use Rattle.vx_check_sql.proofs.own_names.leading.Given as goal

abbrev pub invariant-loop-i : goal.invariant-loop-i
invariant-loop-i l =
    l.i + leading (drop l.i l.bytes) ≡ leading l.bytes
