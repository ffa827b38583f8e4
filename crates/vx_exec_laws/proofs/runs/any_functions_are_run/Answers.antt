use Rattle.vx_exec_laws.proofs.UnderAny.{any-functions}
use Rattle.vx_exec_laws.proofs.runs.any_functions_are_run.Goals as goal

pub returns : goal.returns
returns c = any-functions
