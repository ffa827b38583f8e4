use Rattle.vx_rows.proofs.Fill.{keep_more}
use Rattle.vx_rows.proofs.writes.reserve_rows.Goals as goal

pub returns-in_err-reserve_part : goal.returns-in_err-reserve_part
returns-in_err-reserve_part c = keep_more _ _ _ _ c.loop-j.invariant c.reserve_part.ensures

pub loop-j-preserved : goal.loop-j-preserved
loop-j-preserved c = keep_more _ _ _ _ c.loop-j.invariant c.reserve_part.ensures
