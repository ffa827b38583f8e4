use Rattle.std.proofs.Common.{◌∙◌, ◌||◌, Bool, ℕ, ap}
use Rattle.vx_rows_values.specs.Order.{order_columns}
use Rattle.vx_plan_nodes.specs.Plan.{Claim, claim}
use Rattle.vx_plan_nodes.specs.Outline.{plan_of}
use Rattle.vx_check_rules.specs.Rules.{covers, within, numbers_below}
use Rattle.vx_check_rules.proofs.orders.is_order_total.Goals as goal

pub returns : goal.returns
returns c = λ catalog given.
    let total : Claim → ℕ → Bool = λ d w. covers d.keys (order_columns d.order) || within (numbers_below w) (order_columns d.order) in
    c.is_total.ensures ∙ (ap (λ d. total d c.width_of.result) c.head.ensures.claim ∙ ap (total (claim (plan_of c.args.node.now))) (c.width_of.ensures catalog given))
