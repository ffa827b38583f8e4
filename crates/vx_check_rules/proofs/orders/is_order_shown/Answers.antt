use Rattle.std.proofs.Common.{◌∙◌, sym, ap}
use Rattle.std.specs.List.{list_any}
use Rattle.vx_catalog_relations.specs.Catalog.{relation_at}
use Rattle.vx_plan_nodes.specs.Plan.{claim}
use Rattle.vx_plan_nodes.specs.Outline.{plan_of}
use Rattle.vx_check_rules.specs.Behaviour.{behaviour, sorts, shown_order}
use Rattle.vx_check_rules.proofs.Exact.{orders-exactly}
use Rattle.vx_check_rules.proofs.orders.is_order_shown.Goals as goal

pub returns : goal.returns
returns c =
    let catalog = relation_at c.args.catalog.now in
    let p = plan_of c.args.node.now in
    c.show_order.ensures ∙ (ap (list_any (λ s. sorts s c.claimed_order.result.now)) c.node_sortings.ensures
    ∙ (ap (shown_order (behaviour catalog p)) c.claimed_order.ensures ∙ sym (orders-exactly catalog p (claim p).order)))
