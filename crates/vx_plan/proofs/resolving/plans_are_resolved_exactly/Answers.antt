use Rattle.vx_plan.proofs.PlanExact.{plans_resolved_exactly}
use Rattle.vx_plan.proofs.resolving.plans_are_resolved_exactly.Goals as goal

pub returns : goal.returns
returns c = plans_resolved_exactly
