use Rattle.vx_exec_laws.proofs.Strangers.{no-stranger}
use Rattle.vx_exec_laws.proofs.derived_faults.no_stranger_in_a_run.Goals as goal

pub returns : goal.returns
returns c = no-stranger
