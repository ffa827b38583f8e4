use Rattle.vx_exec_laws.proofs.TypedPlans.{erased-is-typed}
use Rattle.vx_exec_laws.proofs.erased_plan_is_typed.Goals as goal

pub returns : goal.returns
returns c = erased-is-typed
