use Rattle.std.proofs.Common.{refl, length, map}
use Rattle.vx_rows_values.specs.ValueView.{cell_val}
use Rattle.vx_rows.proofs.Fill.{still_rows, on_err_any}
use Rattle.vx_rows.proofs.Grown.{seen, width_of, still_seen, Grown, grown, grown_one}
use Rattle.vx_rows.proofs.table.Table.push_cells.Goals as goal
use Rattle.vx_rows.proofs.table.Table.push_cells.Goals.{In_ok-put_cells}

pub invariant_of-self : goal.invariant_of-self
invariant_of-self c = still_rows _ _ _ _ c.self.invariant c.in_err-put_cells.ensures.rows

pub returns-in_err-put_cells-clause-err : goal.returns-in_err-put_cells-clause-err
returns-in_err-put_cells-clause-err c = on_err_any _ (still_seen (seen c.self.view_is c.self.invariant) _ c.in_err-put_cells.ensures.rows)

after : (c : In_ok-put_cells) → Grown c.args.self.now c.self.inside.types.items c.in-Some.count 1 c.put_cells.new.columns.items (λ _. map cell_val c.args.cells.now)
after c =
    grown (seen c.self.view_is c.self.invariant) 1 (length c.args.cells.now) _ _ _ c.in_ok-put_cells.ensures.rows (width_of cell_val c.args.cells.now _ c.requires)
    c.in_ok-put_cells.ensures.ok
    (λ k h. c.in_ok-put_cells.ensures.held) c.in-Some.ensures.1

pub invariant_of-self-2 : goal.invariant_of-self-2
invariant_of-self-2 c = (after (goal.at.invariant_of-self-2 c).In_ok-put_cells).are

pub returns-clause-ok : goal.returns-clause-ok
returns-clause-ok c = grown_one (after (goal.at.returns-clause-ok c).In_ok-put_cells) _ refl
