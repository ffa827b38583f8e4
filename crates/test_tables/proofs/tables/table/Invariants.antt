use Rattle.std.proofs.Common.{◌≡◌}
use Rattle.test_tables.proofs.tables.table.Given as goal

abbrev pub invariant-loop-entry : goal.invariant-loop-entry
invariant-loop-entry l = l.rows.types ≡ l.initial.rows.types
