use Rattle.std.proofs.Common.{sym, ap, ◌∙◌}
use Rattle.std.proofs.lemmas.Result.{IfOk-weaker}
use Rattle.vx_plan_nodes.specs.Outline.{plan_of}
use Rattle.vx_plan_nodes.specs.Under.{under}
use Rattle.vx_plan_nodes.proofs.UnderFacts.{types-under}
use Rattle.vx_check_rules.specs.Checked.{relations}
use Rattle.vx_exchange_ends.specs.Tasks.{keeps}
use Rattle.vx_worker.specs.Fragment.{fragment}
use Rattle.vx_exec.specs.Job.{model_of}
use Rattle.vx_exec.proofs.Workers.{does-at}
use Rattle.vx_exec.proofs.worker.root_worker.Goals as goal

pub returns-clause-duty : goal.returns-clause-duty
returns-clause-duty g c =
    IfOk-weaker c.fragment_worker.result _ _
    (λ w does hash.
    let functions = g.F.PlanFunctions.functions c.args.job.now.functions in
    let catalog = relations c.args.job.now.plan.now in
    does hash
    ∙ does-at (fragment (model_of hash c.args.job.now) 0 (under functions (plan_of c.args.node.now))) _ _
    (c.in_ok-collector.ensures.post ∙ ap keeps (c.output_types.ensures catalog c.requires.outputs ∙ sym (types-under functions catalog (plan_of c.args.node.now)))))
    c.fragment_worker.ensures.duty
