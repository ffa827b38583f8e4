use Rattle.std.proofs.Common.{◌≡◌, ◌∙◌, ℕ, List, ap, sym, subst}
use Rattle.std.specs.Prelude.{IfOk}
use Rattle.vx_rows_values.specs.declared.order.OrderEntry.{OrderEntry}
use Rattle.vx_plan_nodes.specs.DescribeView.{copying_of}
use Rattle.vx_plan_nodes.specs.Outline.{plan_of}
use Rattle.vx_plan_nodes.specs.Types.{width}
use Rattle.vx_plan_facts.specs.Determined.{determined}
use Rattle.vx_plan_facts.specs.Equal.{equal_at}
use Rattle.vx_plan_facts.specs.Following.{short}
use Rattle.vx_check_rules.specs.Derived.{front_copies}
use Rattle.vx_check_rules.specs.KnownNode.{AreCopiesOf}
use Rattle.vx_check_shown.specs.ShownOrder.{shortened}
use Rattle.vx_check_shown.proofs.OrderNodes.{copies-orders}
use Rattle.vx_check_shown.proofs.orders.shown_carried.Goals as goal

pub shortened-requires : goal.shortened-requires
shortened-requires c =
    let catalog = c.requires.0 in
    let p = plan_of c.args.node.now in
    let q = plan_of c.args.input.now in
    let h = c.requires.1 in
    let copying = copying_of c.args.copying in
    let below = short (determined catalog q) c.args.below.now in
    let wide : c.width-outputs.result ≡ width catalog p = c.width-outputs.ensures ∙ (c.facts_of.ensures catalog h.known).wide in
    let P : ℕ → Type 0 = λ w. AreCopiesOf catalog c.args.known.now q w copying in
    let made = c.carried_order-given.ensures.carried catalog (subst P (sym wide) h.copies) c.requires.2 in
    let list = c.as_slice.ensures.value ∙ made ∙ ap (λ w. front_copies w copying (equal_at catalog q) below) wide in
    (catalog, copies-orders catalog c.carried_order-given.new.known p copying (equal_at catalog q) below (c.carried_order-given.ensures.kept catalog h.copies.known p h.known) c.as_slice.result.now list)

pub returns-clause-shown : goal.returns-clause-shown
returns-clause-shown c = λ catalog h of_input.
    let p = plan_of c.args.node.now in
    let q = plan_of c.args.input.now in
    let copying = copying_of c.args.copying in
    let below = short (determined catalog q) c.args.below.now in
    let wide : c.width-outputs.result ≡ width catalog p = c.width-outputs.ensures ∙ (c.facts_of.ensures catalog h.known).wide in
    let P : ℕ → Type 0 = λ w. AreCopiesOf catalog c.args.known.now q w copying in
    let made = c.carried_order-given.ensures.carried catalog (subst P (sym wide) h.copies) of_input in
    let list = c.as_slice.ensures.value ∙ made ∙ ap (λ w. front_copies w copying (equal_at catalog q) below) wide in
    let orders = copies-orders catalog c.carried_order-given.new.known p copying (equal_at catalog q) below (c.carried_order-given.ensures.kept catalog h.copies.known p h.known) c.as_slice.result.now list in
    let Q : List OrderEntry → Type 0 = λ xs. IfOk c.shortened.result (λ v. v.items ≡ xs) in
    subst Q (ap (shortened catalog p) list) (c.shortened.ensures.shortened catalog orders)
