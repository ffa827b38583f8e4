use Rattle.vx_exec_laws.proofs.TypedPlans.{typed-is-well-formed}
use Rattle.vx_exec_laws.proofs.typed_plan_is_well_formed.Goals as goal

pub returns : goal.returns
returns c = typed-is-well-formed
