use Rattle.vx_exec_laws.proofs.Overflows.{overflow-is-real-derived}
use Rattle.vx_exec_laws.proofs.derived_faults.overflow_of_a_derived_run_is_real.Goals as goal

pub returns : goal.returns
returns c = overflow-is-real-derived
