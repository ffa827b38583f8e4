use Rattle.vx_exec_laws.proofs.CutFaults.{no-order-fault-derived}
use Rattle.vx_exec_laws.proofs.derived_faults.no_order_fault_in_a_derived_run.Goals as goal

pub returns : goal.returns
returns c = no-order-fault-derived
