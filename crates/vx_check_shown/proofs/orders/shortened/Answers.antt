use Rattle.std.proofs.Common.{◌≡◌, ◌∙◌, ℕ, List, [], true, map, slice_index, ap, sym, subst}
use Rattle.std.specs.Prelude.{IfOk}
use Rattle.vx_rows_values.specs.declared.order.OrderEntry.{OrderEntry}
use Rattle.vx_rows_values.specs.Order.{order_columns}
use Rattle.vx_catalog_relations.specs.Catalog.{all_below}
use Rattle.vx_plan_nodes.specs.Outline.{plan_of}
use Rattle.vx_plan_nodes.specs.Types.{width}
use Rattle.vx_plan_facts.specs.Determined.{determined}
use Rattle.vx_plan_facts.specs.Equal.{equal_at}
use Rattle.vx_plan_facts.specs.FactsView.{facts_of}
use Rattle.vx_plan_facts.specs.Following.{short}
use Rattle.vx_check_rules.specs.Rules.{entry_at}
use Rattle.vx_check_rules.proofs.OrderSteps.{short-below}
use Rattle.vx_check_shown.proofs.Equivalent.{equal-equivalence}
use Rattle.vx_check_shown.proofs.Standing.{ordered-kept}
use Rattle.vx_check_shown.proofs.orders.shortened.Goals as goal

pub firsts_of-requires : goal.firsts_of-requires
firsts_of-requires c =
    let catalog = c.requires.0 in
    let orders = c.requires.1 in
    let p = plan_of c.args.node.now in
    let det = determined catalog p in
    let list : c.as_slice.result.now ≡ short det c.args.given.now = c.as_slice.ensures.value ∙ c.short-order.ensures.short catalog orders in
    let facts = c.facts_of.ensures catalog (c.short-order.ensures.kept catalog orders.known p orders.known) in
    let P : ℕ → Type 0 = λ w. all_below w (order_columns c.as_slice.result.now) ≡ true in
    let Q : List OrderEntry → Type 0 = λ xs. all_below (width catalog p) (order_columns xs) ≡ true in
    subst P (sym facts.wide) (subst Q (sym list) (short-below (width catalog p) det [] c.args.given.now orders.given_below))

pub returns-clause-shortened : goal.returns-clause-shortened
returns-clause-shortened c = λ catalog orders.
    let p = plan_of c.args.node.now in
    let det = determined catalog p in
    let list : c.as_slice.result.now ≡ short det c.args.given.now = c.as_slice.ensures.value ∙ c.short-order.ensures.short catalog orders in
    let facts = c.facts_of.ensures catalog (c.short-order.ensures.kept catalog orders.known p orders.known) in
    let firsts = (facts_of c.facts_of.result.now).firsts in
    let named = ordered-kept (width catalog p) (equal_at catalog p) (equal-equivalence catalog p) firsts c.facts_of.result.now.named facts.equal facts.wide (short det c.args.given.now)
    (short-below (width catalog p) det [] c.args.given.now orders.given_below) in
    let P : List OrderEntry → Type 0 = λ xs. IfOk c.firsts_of.result (λ v. v.items ≡ xs) in
    subst P (ap (map (λ (e : OrderEntry). entry_at (slice_index firsts e.column) e)) list ∙ named) c.firsts_of.ensures
