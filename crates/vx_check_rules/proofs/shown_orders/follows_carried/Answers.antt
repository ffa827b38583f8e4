use Rattle.std.proofs.Common.{◌≡◌, ◌∙◌, ℕ, List, true, ap, sym, subst}
use Rattle.vx_rows_values.specs.declared.order.OrderEntry.{OrderEntry}
use Rattle.vx_rows_values.specs.Order.{order_columns}
use Rattle.vx_catalog_relations.specs.Catalog.{all_below}
use Rattle.vx_plan_nodes.specs.DescribeView.{copying_of}
use Rattle.vx_plan_nodes.specs.Outline.{plan_of}
use Rattle.vx_plan_nodes.specs.Plan.{claim}
use Rattle.vx_plan_nodes.specs.Types.{width}
use Rattle.vx_plan_facts.specs.Determined.{determined}
use Rattle.vx_plan_facts.specs.Equal.{equal_at}
use Rattle.vx_plan_facts.specs.Following.{short}
use Rattle.vx_check_rules.specs.Derived.{front_copies, follows_at}
use Rattle.vx_check_rules.specs.KnownNode.{AreCopiesOf}
use Rattle.vx_check_rules.proofs.NamedNodes.{order-below}
use Rattle.vx_check_rules.proofs.ShownNodes.{copied-orders}
use Rattle.vx_check_rules.proofs.shown_orders.follows_carried.Goals as goal

pub carried_order-given-requires : goal.carried_order-given-requires
carried_order-given-requires c =
    let catalog = c.requires.0 in
    let p = plan_of c.args.node.now in
    let h = c.requires.1 in
    let wide : c.width-outputs.result ≡ width catalog p = c.width-outputs.ensures ∙ (c.facts_of.ensures catalog h.known).wide in
    let P : ℕ → Type 0 = λ w. AreCopiesOf catalog c.args.known.now (plan_of c.args.input.now) w (copying_of c.args.copying) in
    let q = plan_of c.args.input.now in
    let Q : List OrderEntry → Type 0 = λ xs. all_below (width catalog q) (order_columns xs) ≡ true in
    (catalog, subst P (sym wide) h.copies, subst Q (sym c.claimed_order.ensures) (order-below catalog c.args.known.now q h.copies.known))

pub follows_from-requires : goal.follows_from-requires
follows_from-requires c =
    let catalog = c.requires.0 in
    let p = plan_of c.args.node.now in
    let q = plan_of c.args.input.now in
    let h = c.requires.1 in
    let copying = copying_of c.args.copying in
    let below = short (determined catalog q) (claim q).order in
    let wide : c.width-outputs.result ≡ width catalog p = c.width-outputs.ensures ∙ (c.facts_of.ensures catalog h.known).wide in
    let P : ℕ → Type 0 = λ w. AreCopiesOf catalog c.args.known.now q w copying in
    let Q : List OrderEntry → Type 0 = λ xs. all_below (width catalog q) (order_columns xs) ≡ true in
    let made =
    c.carried_order-given.ensures.carried catalog (subst P (sym wide) h.copies) (subst Q (sym c.claimed_order.ensures) (order-below catalog c.args.known.now q h.copies.known))
    ∙ ap (λ xs. front_copies c.width-outputs.result copying (equal_at catalog q) (short (determined catalog q) xs)) c.claimed_order.ensures in
    let list = c.as_slice.ensures.value ∙ made ∙ ap (λ w. front_copies w copying (equal_at catalog q) below) wide in
    (catalog, copied-orders catalog c.carried_order-given.new.known p copying (equal_at catalog q) below (c.carried_order-given.ensures.kept catalog h.copies.known p h.known) c.as_slice.result.now list)

pub returns-clause-follows : goal.returns-clause-follows
returns-clause-follows c = λ catalog h.
    let p = plan_of c.args.node.now in
    let q = plan_of c.args.input.now in
    let copying = copying_of c.args.copying in
    let below = short (determined catalog q) (claim q).order in
    let wide : c.width-outputs.result ≡ width catalog p = c.width-outputs.ensures ∙ (c.facts_of.ensures catalog h.known).wide in
    let P : ℕ → Type 0 = λ w. AreCopiesOf catalog c.args.known.now q w copying in
    let Q : List OrderEntry → Type 0 = λ xs. all_below (width catalog q) (order_columns xs) ≡ true in
    let made =
    c.carried_order-given.ensures.carried catalog (subst P (sym wide) h.copies) (subst Q (sym c.claimed_order.ensures) (order-below catalog c.args.known.now q h.copies.known))
    ∙ ap (λ xs. front_copies c.width-outputs.result copying (equal_at catalog q) (short (determined catalog q) xs)) c.claimed_order.ensures in
    let list = c.as_slice.ensures.value ∙ made ∙ ap (λ w. front_copies w copying (equal_at catalog q) below) wide in
    let orders = copied-orders catalog c.carried_order-given.new.known p copying (equal_at catalog q) below (c.carried_order-given.ensures.kept catalog h.copies.known p h.known) c.as_slice.result.now list in
    c.follows_from.ensures.follows catalog orders ∙ ap (λ xs. follows_at catalog p xs (claim p).order) list

pub returns-clause-kept : goal.returns-clause-kept
returns-clause-kept c = λ catalog h q known.
    let first = c.carried_order-given.ensures.kept catalog h.copies.known in
    c.follows_from.ensures.kept catalog (first (plan_of c.args.node.now) h.known) q (first q known)
