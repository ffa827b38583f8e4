use Rattle.vx_exec_laws.proofs.Numbered.{numbered-overflows-derived}
use Rattle.vx_exec_laws.proofs.derived_faults.numbered_overflows_are_real.Goals as goal

pub returns : goal.returns
returns c = numbered-overflows-derived
