use Rattle.std.proofs.Common.{◌≡◌, ℕ, ◌+◌, ◌-◌, ◌<◌, arith}
use Rattle.vx_rows.specs.Columns.{entry, size}
use Rattle.vx_rows.proofs.Splice.{on_ok_both}
use Rattle.vx_rows.proofs.Fill.{keep_set, fill_set}
use Rattle.vx_rows.proofs.NextColumn.{long_at}
use Rattle.vx_rows.proofs.writes.put_part.Goals as goal

pub put_range-requires-clause-room : goal.put_range-requires-clause-room
put_range-requires-clause-room c = long_at _ _ _ _ c.requires.long c.requires.column c.index_mut-column.ensures.value

pub returns-clause-rows : goal.returns-clause-rows
returns-clause-rows c = keep_set c.args.at c.args.columns.now.items c.args.j c.index_mut-column.result.now c.put_range.new.self c.requires.column c.index_mut-column.ensures.value c.put_range.ensures.front

pub returns-clause-ok : goal.returns-clause-ok
returns-clause-ok c =
    on_ok_both c.put_range.result
    (λ (v : (k : ℕ) → k < c.args.to - c.args.from → entry c.put_range.new.self (c.args.at + k) ≡ entry c.args.other.now (c.args.from + k)) (s : size c.put_range.new.self ≡ c.args.at + (c.args.to - c.args.from)).
    fill_set c.args.at (c.args.to - c.args.from) c.args.columns.now.items c.args.j c.put_range.new.self (λ k. entry c.args.other.now (c.args.from + k)) c.requires.column (omega arith) v)
    c.put_range.ensures.ok c.put_range.ensures.ok_long
