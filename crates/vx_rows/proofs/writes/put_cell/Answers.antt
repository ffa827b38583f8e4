use Rattle.std.proofs.Common.{◌≡◌, ◌+◌, arith, ap, ◌∙◌}
use Rattle.vx_rows.specs.Columns.{entry, size}
use Rattle.vx_rows_values.specs.ValueView.{cell_val}
use Rattle.vx_rows.proofs.Splice.{on_ok_both}
use Rattle.vx_rows.proofs.Fill.{keep_set, fill_set}
use Rattle.vx_rows.proofs.NextColumn.{long_at}
use Rattle.vx_rows.proofs.writes.put_cell.Goals as goal

pub put-requires-clause-room : goal.put-requires-clause-room
put-requires-clause-room c = long_at _ _ _ _ c.requires.long c.requires.column c.index_mut-column.ensures.value

pub returns-clause-rows : goal.returns-clause-rows
returns-clause-rows c = keep_set c.args.at c.args.columns.now.items c.args.j c.index_mut-column.result.now c.put.new.self c.requires.column c.index_mut-column.ensures.value c.put.ensures.front

pub returns-clause-ok : goal.returns-clause-ok
returns-clause-ok c =
    on_ok_both c.put.result
    (λ (v : entry c.put.new.self c.args.at ≡ cell_val c.args.cell) (s : size c.put.new.self ≡ c.args.at + 1).
    fill_set c.args.at 1 c.args.columns.now.items c.args.j c.put.new.self (λ k. cell_val c.args.cell) c.requires.column (omega arith)
    (λ k h. let e : c.args.at + k ≡ c.args.at = omega arith in ap (λ i. entry c.put.new.self i) e ∙ v))
    c.put.ensures.ok c.put.ensures.ok_long
