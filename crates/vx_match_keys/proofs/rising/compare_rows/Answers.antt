use Rattle.std.proofs.Common.{List, length, subst}
use Rattle.vx_rows_values.specs.declared.value.ColType.{ColType}
use Rattle.vx_rows_values.specs.Order.{order_columns}
use Rattle.vx_rows.specs.View.{AreColumns}
use Rattle.vx_rows.proofs.OrderFacts.{column-there}
use Rattle.vx_match_keys.proofs.rising.compare_rows.Goals as goal

pub cell-requires-clause-column : goal.cell-requires-clause-column
cell-requires-clause-column c = column-there _ c.args.order.now c.loop-entry.entry-index _ c.requires.columns c.loop-entry-test.true

pub cell-requires-in-loop-entry-clause-column : goal.cell-requires-in-loop-entry-clause-column
cell-requires-in-loop-entry-clause-column c =
    let order = c.args.order.now in
    let there = subst (λ (types : List ColType). AreColumns (length types) (order_columns order)) c.requires.types c.requires.columns in
    column-there _ order c.loop-entry.entry-index _ there c.loop-entry-test.true
