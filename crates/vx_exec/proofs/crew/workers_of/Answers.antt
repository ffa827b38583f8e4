use Rattle.std.proofs.Common.{◌≡◌, ◌∷◌, ◌++◌, ◌∙◌, [], map, ap, subst}
use Rattle.std.proofs.lemmas.List.Elements.{All-nil, All-push, All-same}
use Rattle.vx_plan_nodes.specs.Outline.{plan_of}
use Rattle.vx_plan_nodes.specs.TypedView.{plan as whole_plan}
use Rattle.vx_plan_nodes.specs.Under.{under}
use Rattle.vx_exec_steps.specs.Crews.{root_duty, duties_below}
use Rattle.vx_exec.specs.Crew.{duty, IsNew}
use Rattle.vx_exec.specs.Job.{model_of}
use Rattle.vx_exec.proofs.Parts.{root-is-part}
use Rattle.vx_exec.proofs.crew.workers_of.Goals as goal

pub root_worker-requires : goal.root_worker-requires
root_worker-requires g c = root-is-part g.F.PlanFunctions c.args.job.now c.requires c.plan.result.now c.root-root.result.now c.plan.ensures.same c.root-root.ensures.root

pub add_below-requires-clause-part : goal.add_below-requires-clause-part
add_below-requires-clause-part g c = root-is-part g.F.PlanFunctions c.args.job.now c.requires c.plan.result.now c.root-root.result.now c.plan.ensures.same c.root-root.ensures.root

pub returns-clause-duties : goal.returns-clause-duties
returns-clause-duties g c = λ hash.
    let given = g.F.PlanFunctions in
    let functions = given.functions c.args.job.now.functions in
    let S = model_of hash c.args.job.now in
    let first = c.in_ok-root_worker in
    let root = under functions (plan_of c.root-root.result.now) in
    subst (λ z. map (duty given) c.add_below.new.crew.items ≡ root_duty S z ∷ duties_below S z) (ap (under functions) (c.root-root.ensures.plan ∙ ap whole_plan c.plan.ensures.same))
    (c.in_ok-add_below.ensures.duties hash
    ∙ ap (λ z. map (duty given) z ++ duties_below S root) (c.in_ok-push.ensures.items ∙ ap (λ z. z ++ first.field-0 ∷ []) c.new-crew.ensures.items)
    ∙ ap (λ z. z ∷ duties_below S root) (first.ensures.duty hash))

pub add_below-requires-clause-new : goal.add_below-requires-clause-new
add_below-requires-clause-new g c =
    let first = c.in_ok-root_worker in
    let old = c.new-crew.result.items in
    All-same (IsNew g.F.PlanFunctions c.args.job.now) c.push.new.self.items (old ++ first.field-0 ∷ []) c.in_ok-push.ensures.items
    (All-push (IsNew g.F.PlanFunctions c.args.job.now) old first.field-0
    (All-same (IsNew g.F.PlanFunctions c.args.job.now) old [] c.new-crew.ensures.items (All-nil (IsNew g.F.PlanFunctions c.args.job.now))) first.ensures.new)
