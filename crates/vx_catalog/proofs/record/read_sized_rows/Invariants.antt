use Rattle.std.proofs.Common.{◌≡◌, ◌≤◌, [], length}
use Rattle.csv.specs.Reading.{source_of}
use Rattle.vx_catalog.specs.Counting.{StaysKnown}
use Rattle.vx_catalog.specs.Records.{IsPlain, rest_of}
use Rattle.vx_catalog.proofs.RowsReported.{RowsSoFar}
use Rattle.vx_catalog.proofs.record.read_sized_rows.Given as goal
use Rattle.vx_rows_values.specs.Limits.{max_rows}

abbrev pub invariant-loop : goal.invariant-loop
invariant-loop g l = record {
  plain : IsPlain l.reader;
  so_far : RowsSoFar l.types l.rows.rows (rest_of g.S.Read.remaining l.initial.reader) (rest_of g.S.Read.remaining l.reader);
  known : StaysKnown (source_of g.S.Read.remaining l.initial.reader) (source_of g.S.Read.remaining l.reader);
  types : l.rows.types ≡ l.types;
  front : l.rows.front ≡ [];
  count : l.counter ≡ length l.rows.rows;
  few : length l.rows.rows ≤ max_rows;
}
