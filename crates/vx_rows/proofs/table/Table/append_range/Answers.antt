use Rattle.std.proofs.Common.{◌+◌, ◌-◌, arith, ap, length}
use Rattle.vx_rows.specs.Columns.{row_of}
use Rattle.vx_rows.proofs.Fill.{still_rows, on_err_any}
use Rattle.vx_rows.proofs.Grown.{seen, width_seen, long_seen, held_seen, still_seen, Grown, grown, grown_part}
use Rattle.vx_rows.proofs.table.Table.append_range.Goals as goal
use Rattle.vx_rows.proofs.table.Table.append_range.Goals.{In_ok-put_rows}

pub put_rows-requires-clause-there : goal.put_rows-requires-clause-there
put_rows-requires-clause-there c = let o = seen c.other.view_is c.other.invariant in λ k h. omega (arith, long_seen o k h, c.requires.there)

pub invariant_of-self : goal.invariant_of-self
invariant_of-self c = still_rows _ _ _ _ c.self.invariant c.in_err-put_rows.ensures.rows

pub returns-in_err-put_rows-clause-err : goal.returns-in_err-put_rows-clause-err
returns-in_err-put_rows-clause-err c = on_err_any _ (still_seen (seen c.self.view_is c.self.invariant) _ c.in_err-put_rows.ensures.rows)

after : (c : In_ok-put_rows)
    → Grown c.args.self.now c.self.inside.types.items c.in-Some.count (c.args.to - c.args.from) c.put_rows.new.columns.items (λ k. row_of c.other.inside.columns.items (c.args.from + k))
after c =
    let o = seen c.other.view_is c.other.invariant in
    grown (seen c.self.view_is c.self.invariant) (c.args.to - c.args.from) (length c.other.inside.columns.items) _ _ _ c.in_ok-put_rows.ensures.rows
    (omega (arith, width_seen o, ap length c.requires.same_types))
    c.in_ok-put_rows.ensures.ok (λ k h. held_seen o (c.args.from + k) (omega (arith, h, c.requires.there, c.requires.order))) c.in-Some.ensures.1

pub invariant_of-self-2 : goal.invariant_of-self-2
invariant_of-self-2 c = (after (goal.at.invariant_of-self-2 c).In_ok-put_rows).are

pub returns-clause-ok : goal.returns-clause-ok
returns-clause-ok c = grown_part c.args.from c.args.to (after (goal.at.returns-clause-ok c).In_ok-put_rows) (seen c.other.view_is c.other.invariant) c.requires.order c.requires.there
