use Rattle.std.proofs.Common.{ℕ, List, refl, ap, ◌∙◌, sym}
use Rattle.std.proofs.lemmas.Result.{IfOk-weaker}
use Rattle.vx_rows_values.specs.Values.{Row}
use Rattle.vx_plan_nodes.specs.Outline.{plan_of, kind_of}
use Rattle.vx_plan_nodes.specs.Plan.{target}
use Rattle.vx_plan_nodes.specs.Streams.{workers}
use Rattle.vx_plan_nodes.specs.Under.{under}
use Rattle.vx_plan_nodes.specs.Workers.{worker_group_at}
use Rattle.vx_check_rules.specs.Checked.{relations}
use Rattle.vx_exchange_ends.specs.Tasks.{post_types, sends_by_ship}
use Rattle.vx_worker.specs.Fragment.{fragment}
use Rattle.vx_worker.specs.Worker.{closing_of}
use Rattle.vx_exec_laws.specs.RunOf.{ship_of}
use Rattle.vx_exec.specs.Job.{model_of}
use Rattle.vx_exec.proofs.FunctionFacts.{ships-under}
use Rattle.vx_exec.proofs.Workers.{does-at, closes-as}
use Rattle.vx_exec.proofs.worker.producer.Goals as goal

-- any hash: which one it is makes no difference to what a producer sends by
any : List ℕ → Row → ℕ → ℕ
any name key n = 0

pub fragment_worker-requires-clause-types : goal.fragment_worker-requires-clause-types
fragment_worker-requires-clause-types g c = sym (ap post_types (c.in_ok-sender.ensures.post any))

pub fragment_worker-requires-clause-closing : goal.fragment_worker-requires-clause-closing
fragment_worker-requires-clause-closing g c =
    closes-as c.args.job.now any c.args.exchange c.args.place (kind_of c.args.kind.now) (plan_of c.args.node.now) c.workers-consumers.result c.in_ok-closing.closing.items
    (c.workers-consumers.ensures.value ∙ ap (λ z. workers (worker_group_at c.args.job.now.layout.worker_groups.items) z) c.target.ensures)
    (c.in_ok-closing.ensures (ship_of (model_of any c.args.job.now) c.args.exchange c.args.place (kind_of c.args.kind.now) (plan_of c.args.node.now)) refl refl
    (sym (c.output_types.ensures (relations c.args.job.now.plan.now) c.requires.part.outputs)))
    ∙ sym (ap closing_of (c.in_ok-sender.ensures.post any))

pub returns-clause-duty : goal.returns-clause-duty
returns-clause-duty g c =
    IfOk-weaker c.fragment_worker.result _ _
    (λ w does hash.
    let job = c.args.job.now in
    let functions = g.F.PlanFunctions.functions job.functions in
    let node = plan_of c.args.node.now in
    does hash
    ∙ does-at (fragment (model_of hash job) c.args.place (under functions node)) _ _
    (c.in_ok-sender.ensures.post hash ∙ ap sends_by_ship (sym (ships-under functions (model_of hash job) c.args.exchange c.args.place (kind_of c.args.kind.now) node))))
    c.fragment_worker.ensures.duty
