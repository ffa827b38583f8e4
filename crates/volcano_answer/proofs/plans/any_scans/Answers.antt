use Rattle.std.proofs.Common.{rules, ◌≡◌, ◌<◌, ◌∙◌, length, true, sym, subst}
use Rattle.vx_plan_nodes.specs.Outline.{plan_in}
use Rattle.volcano_tables.specs.Filled.{scans}
use Rattle.volcano_answer.specs.PlansView.{named_is}
use Rattle.volcano_answer.specs.declared.plans.AcceptedPlan.{AcceptedPlan}
use Rattle.volcano_answer.proofs.PlansFacts.{any_found}
use Rattle.volcano_answer.proofs.plans.any_scans.Goals as goal

pub returns-then-scans : goal.returns-then-scans
returns-then-scans c =
    let there : c.loop-accepted.accepted-index < length c.args.plans.now = search rules in
    let P : AcceptedPlan → Type 0 = λ a. scans (plan_in (named_is a).plan.root) c.args.relation ≡ true in
    let found : P c.accepted-item.result = rw c.plan.ensures.same at (sym c.scans.ensures ∙ c.if-scans.true) in
    sym (any_found named_is c.args.plans.now c.loop-accepted.accepted-index _ c.args.relation there (subst P c.accepted-item.is found))
