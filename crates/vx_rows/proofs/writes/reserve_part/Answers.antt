use Rattle.vx_rows.proofs.Fill.{keep_set}
use Rattle.vx_rows.proofs.NextColumn.{long_at}
use Rattle.vx_rows.proofs.writes.reserve_part.Goals as goal

pub reserve-requires : goal.reserve-requires
reserve-requires c = long_at _ _ _ _ c.requires.long c.requires.column c.index_mut-column.ensures.value

pub returns : goal.returns
returns c = keep_set c.args.at c.args.columns.now.items c.args.j c.index_mut-column.result.now c.reserve.new.self c.requires.column c.index_mut-column.ensures.value c.reserve.ensures
