use Rattle.std.proofs.Common.{arith, ap, ◌∙◌, sym}
use Rattle.vx_rows_values.specs.ValueView.{cell_val, val_of}
use Rattle.vx_rows_values.specs.Types.{type_of, type_at}
use Rattle.vx_rows.proofs.Fill.{map_at, keep_more}
use Rattle.vx_rows.proofs.NextColumn.{type_next, value_next, held_next, all_held, values_end}
use Rattle.vx_rows.proofs.writes.put_values.Goals as goal

pub put_cell-requires-clause-kind : goal.put_cell-requires-clause-kind
put_cell-requires-clause-kind c =
    let j = c.loop-j.j in
    let t = type_next val_of c.args.values.now j c.index-values-j.result c.loop-j-test.true c.index-values-j.is in
    ap (λ l. type_at l j) c.loop-j.invariant.rows.kinds ∙ (c.requires.kinds j c.loop-j-test.true ∙ (t ∙ ap type_of (sym c.cell.ensures.same)))

pub returns-in_err-put_cell-clause-rows : goal.returns-in_err-put_cell-clause-rows
returns-in_err-put_cell-clause-rows c = keep_more _ _ _ _ c.loop-j.invariant.rows c.in_err-put_cell.ensures.rows

pub loop-j-preserved : goal.loop-j-preserved
loop-j-preserved c =
    let values = c.args.values.now in
    let j = c.loop-j.j in
    let v = cell_val c.cell.result in
    let e = c.cell.ensures.same ∙ sym (map_at val_of values j c.index-values-j.result v c.loop-j-test.true c.index-values-j.is) in
    record {
      rows = keep_more _ _ _ _ c.loop-j.invariant.rows c.in_ok-put_cell.ensures.rows;
      fills = value_next val_of values c.args.at j _ _ _ v c.loop-j-test.true e c.loop-j.invariant.fills c.in_ok-put_cell.ensures.ok;
      held = held_next val_of values j v c.loop-j-test.true e c.loop-j.invariant.held c.in_ok-put_cell.ensures.held;
    }

pub returns-clause-held : goal.returns-clause-held
returns-clause-held c = all_held val_of c.args.values.now c.loop-j.j (omega (arith, c.loop-j-test.false)) c.loop-j.invariant.held

pub returns-clause-ok : goal.returns-clause-ok
returns-clause-ok c = values_end val_of c.args.values.now c.args.at c.loop-j.j _ _ (omega (arith, c.loop-j-test.false, c.loop-j.auto.j-end)) c.loop-j.invariant.fills
