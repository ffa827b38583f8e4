use Rattle.std.proofs.Common.{◌≡◌, ℕ, ◌+◌, ◌<◌, ◌≤◌, length, get_or}
use Rattle.vx_rows.specs.Columns.{entry, size}
use Rattle.vx_rows.proofs.Splice.{on_ok_both}
use Rattle.vx_rows.proofs.Fill.{keep_set, fill_set}
use Rattle.vx_rows.proofs.NextColumn.{long_at}
use Rattle.vx_rows.proofs.writes.put_part_at.Goals as goal

pub put_at-requires-clause-room : goal.put_at-requires-clause-room
put_at-requires-clause-room c = long_at _ _ _ _ c.requires.long c.requires.column c.index_mut-column.ensures.value

pub returns-clause-rows : goal.returns-clause-rows
returns-clause-rows c = keep_set c.args.at c.args.columns.now.items c.args.j c.index_mut-column.result.now c.put_at.new.self c.requires.column c.index_mut-column.ensures.value c.put_at.ensures.front

pub returns-clause-ok : goal.returns-clause-ok
returns-clause-ok c =
    let positions = c.args.positions.now in
    on_ok_both c.put_at.result
    (λ (v : (k : ℕ) → k < length positions → entry c.put_at.new.self (c.args.at + k) ≡ entry c.args.other.now (get_or positions k 0)) (s : c.args.at + length positions ≤ size c.put_at.new.self).
    fill_set c.args.at (length positions) c.args.columns.now.items c.args.j c.put_at.new.self (λ k. entry c.args.other.now (get_or positions k 0)) c.requires.column s v)
    c.put_at.ensures.ok c.put_at.ensures.ok_long
