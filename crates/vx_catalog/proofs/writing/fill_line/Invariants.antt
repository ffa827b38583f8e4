use Rattle.std.proofs.Common.{◌≡◌, ◌++◌, map, drop}
use Rattle.csv.specs.Records.{fields_of}
use Rattle.vx_rows.specs.View.{row}
use Rattle.vx_catalog.specs.Csv.{field_text}
use Rattle.vx_catalog.proofs.writing.fill_line.Given as goal

abbrev pub invariant-loop-column : goal.invariant-loop-column
invariant-loop-column l = fields_of l.line ++ map field_text (drop l.column (row l.chunk l.i)) ≡ map field_text (row l.chunk l.i)
