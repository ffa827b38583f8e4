use Rattle.std.proofs.Common.{◌≡◌, true, List, ap, ◌∙◌, sym, subst}
use Rattle.vx_plan_nodes.specs.Outline.{plan_of, kind_of}
use Rattle.vx_plan_nodes.specs.Plan.{ExchangeKind}
use Rattle.vx_plan_nodes.specs.Streams.{workers}
use Rattle.vx_plan_nodes.specs.Typed.{is_kind}
use Rattle.vx_plan_nodes.specs.TypedView.{scope}
use Rattle.vx_rows_values.specs.Values.{Val}
use Rattle.vx_check_rules.specs.Checked.{relations}
use Rattle.vx_exchange.specs.Lanes.{kind_of as kind_dealt}
use Rattle.vx_exchange_ends.specs.Sending.{KindRoutesAs, RoutesAs}
use Rattle.vx_exchange_ends.specs.Tasks.{Post}
use Rattle.vx_exec_operators.specs.Destination.{bounds_of}
use Rattle.vx_worker.specs.Fragment.{goes}
use Rattle.vx_exec_operators.specs.declared.destination.Destination.TheVariants as destination
use Rattle.vx_plan_nodes.specs.Workers.{worker_group_at}
use Rattle.vx_exec.specs.Job.{model_of}
use Rattle.vx_exec.proofs.Dealing.{deal-serves, deal-columns, deal-routes}
use Rattle.vx_exec.proofs.Workers.{sends-as}
use Rattle.vx_exec.proofs.worker.sender_of.Goals as goal

pub new-requires-clause-served : goal.new-requires-clause-served
new-requires-clause-served g c =
    deal-serves (worker_group_at c.args.job.now.layout.worker_groups.items) c.in_ok-deal.deal (kind_of c.args.kind.now) c.workers-consumers.result c.in_ok-deal.ensures.kind c.workers-consumers.ensures.some
    (c.workers-consumers.ensures.value ∙ ap (λ z. workers (worker_group_at c.args.job.now.layout.worker_groups.items) z) c.target.ensures)

pub new-requires-clause-columns : goal.new-requires-clause-columns
new-requires-clause-columns g c =
    let s = scope c.args.job.now.plan.now in
    let types = c.output_types-types.result.now in
    deal-columns s types c.in_ok-deal.deal
    (subst (λ z. is_kind s types z ≡ true) (sym c.in_ok-deal.ensures.kind)
    (subst (λ z. is_kind s z (kind_of c.args.kind.now) ≡ true) (sym (c.output_types-types.ensures (relations c.args.job.now.plan.now) c.requires.outputs)) c.requires.kind))

pub deal_of-requires : goal.deal_of-requires
deal_of-requires g c =
    subst (λ z. is_kind (scope c.args.job.now.plan.now) z (kind_of c.args.kind.now) ≡ true)
    (sym (c.output_types-types.ensures (relations c.args.job.now.plan.now) c.requires.outputs)) c.requires.kind

pub returns-clause-post : goal.returns-clause-post
returns-clause-post g c = λ hash.
    c.in_ok-sender.ensures.post
    ∙ sends-as c.args.job.now hash c.args.exchange c.args.place (kind_of c.args.kind.now) (plan_of c.args.node.now)
    c.workers-consumers.result c.output_types-types.result.now (kind_dealt c.in_ok-deal.deal) c.packet.result
    (c.workers-consumers.ensures.value ∙ ap (λ z. workers (worker_group_at c.args.job.now.layout.worker_groups.items) z) c.target.ensures)
    (c.output_types-types.ensures (relations c.args.job.now.plan.now) c.requires.outputs) c.in_ok-deal.ensures.kind c.packet.ensures.value

pub returns-clause-unused : goal.returns-clause-unused
returns-clause-unused g c = record {
  opened = c.in_ok-sender.ensures.open;
  stands = c.in_ok-sender.ensures.stands;
  routes = λ hash.
      let kind = kind_of c.args.kind.now in
      let bounds = bounds_of (destination.Send c.in_ok-sender.sender) in
      let P : Post → Type 0 = λ z. RoutesAs z bounds hash (goes (model_of hash c.args.job.now)) in
      let K : ExchangeKind → Type 0 = λ z. KindRoutesAs z bounds hash (goes (model_of hash c.args.job.now)) in
      let B : List Val → Type 0 = λ z. KindRoutesAs kind z hash (goes (model_of hash c.args.job.now)) in
      subst P (sym c.in_ok-sender.ensures.post) (subst K (sym c.in_ok-deal.ensures.kind)
      (subst B (sym (c.in_ok-sender.ensures.bounds ∙ c.in_ok-deal.ensures.bounds)) (deal-routes c.args.job.now hash kind)));
  empty = c.in_ok-sender.ensures.fresh;
}
