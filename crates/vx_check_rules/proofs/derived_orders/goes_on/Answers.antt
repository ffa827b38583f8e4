use Rattle.std.proofs.Common.{◌∙◌, sym}
use Rattle.vx_plan_nodes.specs.Outline.{plan_of}
use Rattle.vx_plan_nodes.specs.Types.{width}
use Rattle.vx_plan_facts.specs.Equal.{equal_at}
use Rattle.vx_plan_facts.specs.Following.{equal_entries}
use Rattle.vx_check_rules.specs.Seen.{order_seen}
use Rattle.vx_check_rules.proofs.OrderSteps.{entry-at, next-passes}
use Rattle.vx_check_rules.proofs.derived_orders.goes_on.Goals as goal

pub are_alike-requires : goal.are_alike-requires
are_alike-requires c =
    (c.requires.0, c.requires.1, c.requires.3, entry-at (width c.requires.0 (plan_of c.args.node.now)) (order_seen c.args.order) c.args.next c.at.result c.requires.2 c.at.ensures)

pub returns-then-next-len : goal.returns-then-next-len
returns-then-next-len c = λ catalog known below here.
    c.are_alike.ensures catalog known here (entry-at (width catalog (plan_of c.args.node.now)) (order_seen c.args.order) c.args.next c.at.result below c.at.ensures)
    ∙ sym (next-passes (equal_entries (equal_at catalog (plan_of c.args.node.now)) c.args.entry) (order_seen c.args.order) c.args.next c.at.result c.at.ensures)
