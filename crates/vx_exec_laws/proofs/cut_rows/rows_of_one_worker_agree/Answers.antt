use Rattle.vx_exec_laws.proofs.CutLaws.{one-worker-agrees}
use Rattle.vx_exec_laws.proofs.cut_rows.rows_of_one_worker_agree.Goals as goal

pub returns : goal.returns
returns c = one-worker-agrees
