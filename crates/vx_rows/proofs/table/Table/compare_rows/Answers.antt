use Rattle.std.proofs.Common.{length}
use Rattle.vx_rows.proofs.OrderFacts.{column-there}
use Rattle.vx_rows.proofs.table.Table.compare_rows.Goals as goal

pub cell_or_zero-a-requires : goal.cell_or_zero-a-requires
cell_or_zero-a-requires c = column-there (length c.args.self.now.types) c.args.order.now c.loop-entry.entry-index _ c.requires c.loop-entry-test.true

pub cell_or_zero-b-requires : goal.cell_or_zero-b-requires
cell_or_zero-b-requires c = column-there (length c.args.self.now.types) c.args.order.now c.loop-entry.entry-index _ c.requires c.loop-entry-test.true
