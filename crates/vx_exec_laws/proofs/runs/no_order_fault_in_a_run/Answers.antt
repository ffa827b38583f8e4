use Rattle.vx_exec_laws.proofs.OrderFaults.{no-order-fault}
use Rattle.vx_exec_laws.proofs.runs.no_order_fault_in_a_run.Goals as goal

pub returns : goal.returns
returns c = no-order-fault
