use Rattle.vx_rows.proofs.OrderFacts.{column-there}
use Rattle.vx_match_keys.proofs.rising.compare_in.Goals as goal

pub cell-requires-clause-column : goal.cell-requires-clause-column
cell-requires-clause-column c = column-there _ c.args.order.now c.loop-entry.entry-index _ c.requires.columns c.loop-entry-test.true

pub cell-requires-in-loop-entry-clause-column : goal.cell-requires-in-loop-entry-clause-column
cell-requires-in-loop-entry-clause-column c = column-there _ c.args.order.now c.loop-entry.entry-index _ c.requires.columns c.loop-entry-test.true
