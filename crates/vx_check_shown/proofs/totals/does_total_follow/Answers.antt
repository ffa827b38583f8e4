use Rattle.std.proofs.Common.{◌≡◌, ◌∙◌, ◌||◌, Bool, ap, sym}
use Rattle.std.specs.List.{list_all, list_any}
use Rattle.vx_rows_values.specs.Order.{order_columns}
use Rattle.vx_plan_nodes.specs.Outline.{plan_of}
use Rattle.vx_plan_nodes.specs.Phases.{first_columns}
use Rattle.vx_plan_nodes.specs.Plan.{claim}
use Rattle.vx_plan_nodes.specs.Types.{width}
use Rattle.vx_plan_facts.specs.ColumnSetView.{set_of_columns}
use Rattle.vx_plan_facts.specs.Determined.{determined}
use Rattle.vx_plan_facts.specs.Following.{set_of}
use Rattle.vx_check_rules.proofs.KeySteps.{key-found, all-within}
use Rattle.vx_check_shown.proofs.totals.does_total_follow.Goals as goal

pub returns-then-is_key_within : goal.returns-then-is_key_within
returns-then-is_key_within c = λ catalog is.
    let p = plan_of c.args.node.now in
    let order = order_columns c.args.claim.now.order.items in
    let det = determined catalog p (set_of order) in
    let all : Bool = list_all det (first_columns (width catalog p)) in
    let of = rw c.as_slice.ensures.value at c.of_order.ensures in
    let keyed = key-found catalog c.args.known.now p is.known (set_of_columns c.of_order.result) (set_of order) (set_of_columns c.determined-found.result) of
    (c.determined-found.ensures.answer catalog is.known) c.args.claim.now.keys.items is.keys in
    let within = rw c.as_slice-2.ensures.value at c.is_key_within.ensures in
    sym (ap (λ b. b || all) (ap (list_any (list_all det)) is.keys ∙ (sym keyed ∙ (sym within ∙ c.if-is_key_within.true))))

pub returns : goal.returns
returns c = λ catalog is.
    let p = plan_of c.args.node.now in
    let order = order_columns c.args.claim.now.order.items in
    let det = determined catalog p (set_of order) in
    let all : Bool = list_all det (first_columns (width catalog p)) in
    let of = rw c.as_slice.ensures.value at c.of_order.ensures in
    let found = set_of_columns c.determined-found.result in
    let answer = c.determined-found.ensures.answer catalog is.known in
    let keyed = key-found catalog c.args.known.now p is.known (set_of_columns c.of_order.result) (set_of order) found of answer c.args.claim.now.keys.items is.keys in
    let within = rw c.as_slice-2.ensures.value at c.is_key_within.ensures in
    let wide : c.width-width.result ≡ width catalog p = c.width-width.ensures ∙ (c.facts_of.ensures catalog is.known).wide in
    let rest = all-within catalog c.args.known.now p is.known (set_of_columns c.of_order.result) (set_of order) found (set_of_columns c.first.result) of answer c.width-width.result wide
    c.first.ensures c.is_within.result c.is_within.ensures.all c.is_within.ensures.one in
    rest ∙ sym (ap (λ b. b || all) (ap (list_any (list_all det)) is.keys ∙ (sym keyed ∙ (sym within ∙ c.if-is_key_within.false))))
