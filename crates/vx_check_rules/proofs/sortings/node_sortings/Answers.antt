use Rattle.std.proofs.Common.{◌≡◌, ◌∙◌, ℕ, [], ◌∷◌, length, refl, ap}
use Rattle.vx_catalog_relations.specs.Catalog.{relation_at}
use Rattle.vx_plan_nodes.specs.Plan.{Binary, union, join, semi_join}
use Rattle.vx_plan_nodes.specs.Outline.{binary_of, plan_of}
use Rattle.vx_plan_nodes.specs.Types.{width}
use Rattle.vx_plan_nodes.specs.Describe.{whole_rows, described_both}
use Rattle.vx_plan_nodes.specs.DescribeView.{described_both_of}
use Rattle.vx_check_rules.specs.Behaviour.{sorted_by, order_over}
use Rattle.vx_check_rules.proofs.sortings.node_sortings.Goals as goal

-- how rows come together does not depend on the left input's width
meeting-same : (v w : ℕ) (op : Binary) → (described_both v op).meeting ≡ (described_both w op).meeting
meeting-same v w union = refl
meeting-same v w (join m on) = refl
meeting-same v w (semi_join matched on conditions) = refl

pub returns-in-Binary : goal.returns-in-Binary
returns-in-Binary c =
    let left = plan_of c.in-Binary.left.value in
    let op : Binary = binary_of c.in-Binary.operator in
    let w : ℕ = width (relation_at c.args.catalog.now) left in
    let meeting : (described_both_of c.described-in-Binary.result).meeting ≡ (described_both w op).meeting =
    ap (λ d. d.meeting) c.described-in-Binary.ensures ∙ meeting-same (length c.output_types.result.now) w op in
    let below = rw c.deref-in-Binary-2.ensures at c.claimed_order-in-Binary.ensures in
    let sorted = c.sorted_over_both.ensures ∙ (ap (λ o. sorted_by whole_rows (order_over o c.claimed_order-in-Binary.result.now)) meeting ∙ ap (λ order. sorted_by whole_rows (order_over (described_both w op).meeting order)) below) in
    rw c.in-Binary.is (c.only-in-Binary.ensures ∙ ap (λ s. s ∷ []) sorted)
