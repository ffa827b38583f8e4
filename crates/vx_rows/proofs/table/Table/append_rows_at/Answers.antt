use Rattle.std.proofs.Common.{◌+◌, arith, ap, length, get_or}
use Rattle.vx_rows.specs.Columns.{row_of}
use Rattle.vx_rows.proofs.Fill.{still_rows, on_err_any}
use Rattle.vx_rows.proofs.Grown.{seen, width_seen, long_seen, held_seen, still_seen, Grown, grown, grown_at}
use Rattle.vx_rows.proofs.table.Table.append_rows_at.Goals as goal
use Rattle.vx_rows.proofs.table.Table.append_rows_at.Goals.{In_ok-put_rows_at}

pub put_rows_at-requires-clause-there : goal.put_rows_at-requires-clause-there
put_rows_at-requires-clause-there c = let o = seen c.other.view_is c.other.invariant in λ k h i d near. omega (arith, long_seen o k h, c.requires.there i d near)

pub invariant_of-self : goal.invariant_of-self
invariant_of-self c = still_rows _ _ _ _ c.self.invariant c.in_err-put_rows_at.ensures.rows

pub returns-in_err-put_rows_at-clause-err : goal.returns-in_err-put_rows_at-clause-err
returns-in_err-put_rows_at-clause-err c = on_err_any _ (still_seen (seen c.self.view_is c.self.invariant) _ c.in_err-put_rows_at.ensures.rows)

after : (c : In_ok-put_rows_at)
    → Grown c.args.self.now c.self.inside.types.items c.in-Some.count (length c.args.positions.now) c.put_rows_at.new.columns.items
    (λ k. row_of c.other.inside.columns.items (get_or c.args.positions.now k 0))
after c =
    let o = seen c.other.view_is c.other.invariant in
    grown (seen c.self.view_is c.self.invariant) (length c.args.positions.now) (0 + length c.other.inside.columns.items) _ _ _ c.in_ok-put_rows_at.ensures.rows
    (omega (arith, width_seen o, ap length c.requires.same_types))
    c.in_ok-put_rows_at.ensures.ok (λ k h. held_seen o (get_or c.args.positions.now k 0) (c.requires.there k 0 h)) c.in-Some.ensures.1

pub invariant_of-self-2 : goal.invariant_of-self-2
invariant_of-self-2 c = (after (goal.at.invariant_of-self-2 c).In_ok-put_rows_at).are

pub returns-clause-ok : goal.returns-clause-ok
returns-clause-ok c = grown_at c.args.positions.now (after (goal.at.returns-clause-ok c).In_ok-put_rows_at) (seen c.other.view_is c.other.invariant) c.requires.there
