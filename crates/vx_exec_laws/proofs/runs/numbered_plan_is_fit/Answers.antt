use Rattle.vx_exec_laws.proofs.Layouts.{numbered-is-fit}
use Rattle.vx_exec_laws.proofs.runs.numbered_plan_is_fit.Goals as goal

pub returns : goal.returns
returns c = numbered-is-fit
