use Rattle.vx_rows.specs.Columns.{LongTo}
use Rattle.vx_rows.proofs.parts.are_long.Given as goal

abbrev pub invariant-loop-column : goal.invariant-loop-column
invariant-loop-column l = LongTo l.count l.column-index l.columns
