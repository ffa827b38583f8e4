use Rattle.vx_exec_laws.proofs.Erased.{erased-overflows}
use Rattle.vx_exec_laws.proofs.runs.erased_plan_overflows_alike.Goals as goal

pub returns : goal.returns
returns c = erased-overflows
