use Rattle.std.proofs.Common.{inl, refl}
use Rattle.std.proofs.lemmas.Result.{err_from_is_err_and}
use Rattle.vx_plan_json.specs.declared.fault.PlanFault.TheVariants.{NoMemory}
use Rattle.vx_plan_nodes.specs.TypedView.{resolved_of}
use Rattle.volcano_embedding.specs.Planning.{for_fault, for_plan, for_rule}
use Rattle.volcano_embedding.proofs.session.Session.accepted.Goals as goal

pub returns-in_err-plan-clause-refused : goal.returns-in_err-plan-clause-refused
returns-in_err-plan-clause-refused c =
    let p = err_from_is_err_and c.from_residual.result c.from_residual.ensures.1 in
    rw (p.1, p.2) (for_plan c.in_err-plan.ensures.refused)

pub returns-in-Err-Refused-clause-refused : goal.returns-in-Err-Refused-clause-refused
returns-in-Err-Refused-clause-refused c =
    let fault = rw c.in-Err-Refused.field-0-is at c.in-Err-Refused.ensures.refused in
    for_rule (resolved_of c.in_ok-plan.plan) c.in-Err-Refused.refused.rule c.in-Err-Refused.refused.node c.in_ok-plan.ensures.plan fault.0 refl

-- no memory for what is known of columns is no memory for the plan
pub returns-in-Err-NoMemory-clause-refused : goal.returns-in-Err-NoMemory-clause-refused
returns-in-Err-NoMemory-clause-refused c = for_plan (for_fault NoMemory refl (inl refl))
