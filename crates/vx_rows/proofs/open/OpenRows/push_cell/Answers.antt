use Rattle.std.proofs.Common.{◌<◌, ◌∙◌, refl, arith, ap, length}
use Rattle.vx_rows_values.specs.ValueView.{cell_val}
use Rattle.vx_rows.proofs.Fill.{width_is, same_rows, on_err_any}
use Rattle.vx_rows.proofs.OpenFacts.{open_rows, open_front, open_types, front_length, same_front, still_open, now_open}
use Rattle.vx_rows.proofs.open.OpenRows.push_cell.Goals as goal

pub invariant_of-self : goal.invariant_of-self
invariant_of-self c = still_open _ _ _ _ _ c.self.invariant c.in_err-put_cell.ensures.rows c.in_err-put_cell.ensures.before

pub returns-in_err-put_cell-clause-rows : goal.returns-in_err-put_cell-clause-rows
returns-in_err-put_cell-clause-rows c =
    let s = c.self.inside in
    same_rows s.count s.columns.items _ c.in_err-put_cell.ensures.rows ∙ open_rows c.args.self.now s.types.items s.count s.filled s.columns.items c.self.view_is

pub returns-in_err-put_cell-clause-err : goal.returns-in_err-put_cell-clause-err
returns-in_err-put_cell-clause-err c =
    let s = c.self.inside in
    on_err_any _ (same_front s.filled s.count s.columns.items _ c.in_err-put_cell.ensures.before ∙ open_front c.args.self.now s.types.items s.count s.filled s.columns.items c.self.view_is)

pub invariant_of-self-2 : goal.invariant_of-self-2
invariant_of-self-2 c =
    let s = c.self.inside in
    let r = c.args.self.now in
    let w = width_is s.types.items s.columns.items c.self.invariant.rows.kinds in
    let t = ap length (open_types r s.types.items s.count s.filled s.columns.items c.self.view_is) in
    let f = ap length (open_front r s.types.items s.count s.filled s.columns.items c.self.view_is) in
    let l = front_length s.filled s.count s.columns.items c.self.invariant.room in
    let room = c.requires.room in
    let near : s.filled < length s.columns.items = omega (arith, w, t, f, l, room) in
    now_open s.types.items s.count s.filled _ s.columns.items _ (cell_val c.args.cell) c.self.invariant c.in_ok-put_cell.ensures.rows near c.in_ok-put_cell.ensures.ok c.in_ok-put_cell.ensures.held refl

pub returns-clause-rows : goal.returns-clause-rows
returns-clause-rows c =
    let s = c.self.inside in
    same_rows s.count s.columns.items _ c.in_ok-put_cell.ensures.rows ∙ open_rows c.args.self.now s.types.items s.count s.filled s.columns.items c.self.view_is
