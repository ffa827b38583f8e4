use Rattle.vx_exec_laws.proofs.CutFaults.{numbered-orders-derived}
use Rattle.vx_exec_laws.proofs.derived_faults.no_numbered_order_fault.Goals as goal

pub returns : goal.returns
returns c = numbered-orders-derived
