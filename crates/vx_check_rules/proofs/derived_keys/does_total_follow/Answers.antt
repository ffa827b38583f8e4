use Rattle.std.proofs.Common.{◌≡◌, ◌∙◌, ◌||◌, Bool, ap, sym}
use Rattle.std.specs.List.{list_all}
use Rattle.vx_rows_values.specs.Order.{order_columns}
use Rattle.vx_plan_nodes.specs.Outline.{plan_of}
use Rattle.vx_plan_nodes.specs.Phases.{first_columns}
use Rattle.vx_plan_nodes.specs.Plan.{claim}
use Rattle.vx_plan_nodes.specs.Types.{width}
use Rattle.vx_plan_facts.specs.ColumnSetView.{set_of_columns}
use Rattle.vx_plan_facts.specs.Determined.{determined}
use Rattle.vx_plan_facts.specs.Following.{set_of}
use Rattle.vx_check_rules.proofs.KeySteps.{key-found, all-within}
use Rattle.vx_check_rules.proofs.derived_keys.does_total_follow.Goals as goal

pub returns-then-is_key_within-clause-follows : goal.returns-then-is_key_within-clause-follows
returns-then-is_key_within-clause-follows c = λ catalog known.
    let p = plan_of c.args.node.now in
    let order = order_columns (claim p).order in
    let det = determined catalog p (set_of order) in
    let all : Bool = list_all det (first_columns (width catalog p)) in
    let of = rw c.claimed_order.ensures at c.of_order.ensures in
    let keyed = key-found catalog c.args.known.now p known (set_of_columns c.of_order.result) (set_of order) (set_of_columns c.determined-found.result) of
    (c.determined-found.ensures.answer catalog known) c.claimed_keys.result.now c.claimed_keys.ensures in
    sym (ap (λ b. b || all) (sym keyed ∙ sym c.is_key_within.ensures ∙ c.if-is_key_within.true))

pub returns-clause-follows : goal.returns-clause-follows
returns-clause-follows c = λ catalog known.
    let p = plan_of c.args.node.now in
    let order = order_columns (claim p).order in
    let det = determined catalog p (set_of order) in
    let all : Bool = list_all det (first_columns (width catalog p)) in
    let of = rw c.claimed_order.ensures at c.of_order.ensures in
    let found = set_of_columns c.determined-found.result in
    let answer = c.determined-found.ensures.answer catalog known in
    let keyed = key-found catalog c.args.known.now p known (set_of_columns c.of_order.result) (set_of order) found of answer c.claimed_keys.result.now c.claimed_keys.ensures in
    let wide : c.width-width.result ≡ width catalog p = c.width-width.ensures ∙ (c.facts_of.ensures catalog known).wide in
    let rest = all-within catalog c.args.known.now p known (set_of_columns c.of_order.result) (set_of order) found (set_of_columns c.first.result) of answer c.width-width.result wide
    c.first.ensures c.is_within.result c.is_within.ensures.all c.is_within.ensures.one in
    rest ∙ sym (ap (λ b. b || all) (sym keyed ∙ sym c.is_key_within.ensures ∙ c.if-is_key_within.false))
