use Rattle.vx_exec_laws.proofs.CutLaws.{rows-so-far-agree}
use Rattle.vx_exec_laws.proofs.cut_rows.rows_so_far_agree.Goals as goal

pub returns : goal.returns
returns c = rows-so-far-agree
