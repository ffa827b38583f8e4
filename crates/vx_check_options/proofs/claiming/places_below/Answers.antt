use Rattle.std.proofs.Common.{◌∙◌, Vec, Global, map, ap}
use Rattle.vx_rows_values.specs.declared.order.OrderEntry.{OrderEntry}
use Rattle.vx_catalog_relations.specs.Catalog.{relation_at}
use Rattle.vx_plan_nodes.specs.Describe.{whole_rows}
use Rattle.vx_plan_nodes.specs.Outline.{part_of, binary_of, plan_of}
use Rattle.vx_check_rules.specs.Seen.{order_seen}
use Rattle.vx_check_options.specs.Options.{places_at}
use Rattle.vx_check_options.specs.Placed.{order_along, order_to_left}
use Rattle.vx_check_options.proofs.ClaimLists.{both-parts}
use Rattle.vx_check_options.proofs.claiming.places_below.Goals as goal

pub returns-clause-parts : goal.returns-clause-parts
returns-clause-parts c =
    both-parts (relation_at c.args.catalog.now) (plan_of c.args.node.now) (part_of c.args.place.now.part) _ _ _ _ _ _ _ _ c.in_ok-first.ensures.part c.in_ok-second.ensures.part c.parts_below.ensures
    (ap (map part_of) c.as_slice.ensures.value ∙ c.in_ok-lefts.ensures.parts) (ap (map part_of) c.as_slice-2.ensures.value ∙ c.in_ok-rights.ensures.parts)

pub returns-clause-left : goal.returns-clause-left
returns-clause-left c =
    let places = places_at (relation_at c.args.catalog.now) (plan_of c.args.left.now) in
    c.in_ok-first.ensures.order
    ∙ ap (order_along whole_rows (order_seen c.wanted_left-order.result)) (ap (map (λ (v : Vec OrderEntry Global). v.items)) c.as_slice-choices.ensures.value ∙ c.in_ok-lefts.ensures.choices)
    ∙ c.wanted_left-order.ensures places ∙ ap (λ o. order_to_left (binary_of c.args.operator.now) o places) c.as_slice-3.ensures.value

pub returns-clause-right : goal.returns-clause-right
returns-clause-right c =
    c.in_ok-second.ensures.order
    ∙ ap (order_along whole_rows (order_seen c.wanted_right-order.result)) (ap (map (λ (v : Vec OrderEntry Global). v.items)) c.as_slice-choices-2.ensures.value ∙ c.in_ok-rights.ensures.choices)
    ∙ c.wanted_right-order.ensures (places_at (relation_at c.args.catalog.now) (plan_of c.args.right.now))
