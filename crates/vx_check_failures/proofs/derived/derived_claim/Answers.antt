use Rattle.std.proofs.Common.{◌≡◌, ◌∙◌, List, [], ℕ, ap, sym, subst, map}
use Rattle.std.specs.List.{list_all}
use Rattle.vx_catalog_relations.specs.Relation.{Relation}
use Rattle.vx_catalog_relations.specs.Catalog.{relation_at, all_below}
use Rattle.vx_plan_nodes.specs.Plan.{Plan, Part, Claim}
use Rattle.vx_plan_nodes.specs.Outline.{part_of, plan_of}
use Rattle.vx_plan_nodes.specs.Types.{width}
use Rattle.vx_plan_facts.specs.Equal.{equal_at}
use Rattle.vx_plan_facts.specs.FactsView.{width_of}
use Rattle.vx_check_rules.specs.Behaviour.{node_keys}
use Rattle.vx_check_shown.specs.Standing.{first_equal}
use Rattle.vx_check_shown.specs.ShownPart.{are_named, shown_part}
use Rattle.vx_check_shown.specs.ShownOrder.{are_of_input, shown_order}
use Rattle.vx_check_shown.proofs.Equivalent.{equal-equivalence}
use Rattle.vx_check_shown.proofs.Standing.{first-kept}
use Rattle.vx_check_failures.specs.Shown.{first_input, second_input, with_named_keys, derived_claim}
use Rattle.vx_check_failures.proofs.CarriedKeys.{node-keys-below}
use Rattle.vx_check_failures.proofs.DerivedFacts.{parts-named, order-named, inputs-keys-below, keys-same, claim-is}
use Rattle.vx_check_failures.proofs.derived.derived_claim.Goals as goal

pub shown_part-requires : goal.shown_part-requires
shown_part-requires c =
    let catalog = relation_at c.args.catalog.now in
    let p = plan_of c.args.node.now in
    let left = ap (λ (x : Claim). x.part) c.first_claim-first.ensures in
    let right = ap (λ (x : Claim). x.part) c.second_claim.ensures in
    (c.args.catalog.now, record { known = c.requires.known; outputs = c.requires.outputs; named = rw (left, right) (parts-named catalog c.args.known.now p c.requires.known.known) })

pub named_keys-requires : goal.named_keys-requires
named_keys-requires c =
    let catalog = relation_at c.args.catalog.now in
    let p = plan_of c.args.node.now in
    let below = node-keys-below catalog p (inputs-keys-below c.args.catalog.now c.args.known.now p c.len-relations.ensures.fine c.requires.known) in
    rw (c.as_slice.ensures.value, c.in_ok-carried.ensures, (c.facts_of.ensures catalog c.requires.known.known).wide) below

pub shown_order-requires-clause-input : goal.shown_order-requires-clause-input
shown_order-requires-clause-input c =
    let catalog = relation_at c.args.catalog.now in
    let p = plan_of c.args.node.now in
    let order = ap (λ (x : Claim). x.order) c.first_claim-first.ensures in
    let left = ap (λ (x : Claim). x.part) c.first_claim-first.ensures in
    rw (c.as_slice-below.ensures.value, order, left) (order-named catalog c.args.known.now p c.requires.known.known)

pub returns-clause-claim : goal.returns-clause-claim
returns-clause-claim c =
    let catalog = relation_at c.args.catalog.now in
    let p = plan_of c.args.node.now in
    let known = c.requires.known.known in
    let left = ap (λ (x : Claim). x.part) c.first_claim-first.ensures in
    let right = ap (λ (x : Claim). x.part) c.second_claim.ensures in
    let below = ap (λ (x : Claim). x.order) c.first_claim-first.ensures in
    let facts = c.facts_of.ensures catalog known in
    let keys-below = node-keys-below catalog p (inputs-keys-below c.args.catalog.now c.args.known.now p c.len-relations.ensures.fine c.requires.known) in
    let part = c.in_ok-part.ensures c.args.catalog.now (record { known = c.requires.known; outputs = c.requires.outputs; named = rw (left, right) (parts-named catalog c.args.known.now p known) }) in
    let first = first-kept (width catalog p) (equal_at catalog p) (equal-equivalence catalog p) c.facts_of.result.now.firsts.items c.facts_of.result.now.named facts.equal facts.wide in
    let keys = (rw (c.as_slice.ensures.value, c.in_ok-carried.ensures) at c.in_ok-keys.ensures) ∙ keys-same (width catalog p) _ (first_equal (width catalog p) (equal_at catalog p)) first [] (node_keys catalog p) keys-below in
    claim-is catalog p _ _ _ (rw (left, right) at part) (rw (c.as_slice-below.ensures.value, left, below) at c.in_ok-order.ensures.shown) keys
