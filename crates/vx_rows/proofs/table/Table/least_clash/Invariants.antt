use Rattle.std.proofs.Common.{◌≤◌, ◌+◌, length}
use Rattle.vx_rows.proofs.PairFacts.{Least}
use Rattle.vx_rows.proofs.table.Table.least_clash.Given as goal

abbrev pub invariant-loop-k : goal.invariant-loop-k
invariant-loop-k l = record {
  bound : l.k ≤ length l.positions + 1;
  least : Least l.cols l.self.rows l.positions l.k l.best;
}
