use Rattle.vx_rows.proofs.Fill.{no_rows}
use Rattle.vx_rows.proofs.table.Table.new.Goals as goal

pub returns-clause-rows : goal.returns-clause-rows
returns-clause-rows c = no_rows _
