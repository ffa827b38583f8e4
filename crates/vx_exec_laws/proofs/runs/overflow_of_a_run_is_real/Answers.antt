use Rattle.vx_exec_laws.proofs.Overflows.{overflow-is-real}
use Rattle.vx_exec_laws.proofs.runs.overflow_of_a_run_is_real.Goals as goal

pub returns : goal.returns
returns c = overflow-is-real
