use Rattle.std.proofs.Common.{◌≡◌, ◌≤◌, ◌+◌, drop}
use Rattle.vx_check_sql.specs.Statement.{times}
use Rattle.vx_check_sql.proofs.nodes.is_once.Given as goal

abbrev pub invariant-loop-other : goal.invariant-loop-other
invariant-loop-other l =
    (l.count + times l.relation (drop l.other-index l.scanned) ≡ times l.relation l.scanned) × (l.count ≤ l.other-index)
