use Rattle.std.proofs.Common.{◌≡◌, ◌≤◌, true, length}
use Rattle.std.specs.Io.KnownBytes.{IsAtEnd}
use Rattle.vx_catalog_loading.specs.Reading.{ComesFrom}
use Rattle.vx_catalog_loading.proofs.rounds.read_rounds.Given as goal
use Rattle.vx_rows_values.specs.Limits.{max_rows}

abbrev pub invariant-loop : goal.invariant-loop
invariant-loop g l = record {
  types : l.rows.types ≡ l.initial.rows.types;
  few : length l.rows.rows ≤ max_rows;
  end : l.bytes.is_at_end ≡ true → IsAtEnd (g.S.Read.remaining l.source);
  rows : ComesFrom l.initial.rows.types l.initial.rows.rows l.fn.buffer.items (g.S.Read.remaining l.initial.source)
      l.rows.rows l.bytes.held.items (g.S.Read.remaining l.source);
}
