use Rattle.std.proofs.Common.{arith, ap, ◌∙◌, sym, get_or, pos}
use Rattle.std.proofs.lemmas.List.{get_or_default}
use Rattle.vx_rows_values.specs.declared.value.Cell.TheVariants as cell
use Rattle.vx_rows_values.specs.ValueView.{cell_val}
use Rattle.vx_rows_values.specs.Types.{type_at}
use Rattle.vx_rows.proofs.Fill.{map_at, keep_more}
use Rattle.vx_rows.proofs.NextColumn.{type_next, value_next, held_next, all_held, values_end}
use Rattle.vx_rows.proofs.writes.put_cells.Goals as goal

pub put_cell-requires-clause-kind : goal.put_cell-requires-clause-kind
put_cell-requires-clause-kind c =
    let cells = c.args.cells.now in
    let j = c.loop-j.j in
    let v = get_or cells j (cell.Int (pos 0)) in
    let t = type_next cell_val cells j v c.loop-j-test.true (get_or_default cells j (cell.Int (pos 0)) v c.loop-j-test.true) in
    ap (λ l. type_at l j) c.loop-j.invariant.rows.kinds ∙ (c.requires.kinds j c.loop-j-test.true ∙ t)

pub returns-in_err-put_cell-clause-rows : goal.returns-in_err-put_cell-clause-rows
returns-in_err-put_cell-clause-rows c = keep_more _ _ _ _ c.loop-j.invariant.rows c.in_err-put_cell.ensures.rows

pub loop-j-preserved : goal.loop-j-preserved
loop-j-preserved c =
    let cells = c.args.cells.now in
    let j = c.loop-j.j in
    let v = get_or cells j (cell.Int (pos 0)) in
    let e = sym (map_at cell_val cells j v (cell_val v) c.loop-j-test.true (get_or_default cells j (cell.Int (pos 0)) v c.loop-j-test.true)) in
    record {
      rows = keep_more _ _ _ _ c.loop-j.invariant.rows c.in_ok-put_cell.ensures.rows;
      fills = value_next cell_val cells c.args.at j _ _ _ (cell_val v) c.loop-j-test.true e c.loop-j.invariant.fills c.in_ok-put_cell.ensures.ok;
      held = held_next cell_val cells j (cell_val v) c.loop-j-test.true e c.loop-j.invariant.held c.in_ok-put_cell.ensures.held;
    }

pub returns-clause-held : goal.returns-clause-held
returns-clause-held c = all_held cell_val c.args.cells.now c.loop-j.j (omega (arith, c.loop-j-test.false)) c.loop-j.invariant.held

pub returns-clause-ok : goal.returns-clause-ok
returns-clause-ok c = values_end cell_val c.args.cells.now c.args.at c.loop-j.j _ _ (omega (arith, c.loop-j-test.false, c.loop-j.auto.j-end)) c.loop-j.invariant.fills
