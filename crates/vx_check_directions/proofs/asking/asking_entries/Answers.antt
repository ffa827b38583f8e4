use Rattle.std.proofs.Common.{◌≡◌, ◌∙◌, [], List, IfOk, sym, ap, subst}
use Rattle.vx_rows_values.specs.declared.order.OrderEntry.{OrderEntry}
use Rattle.vx_catalog_relations.specs.Catalog.{relation_at}
use Rattle.vx_plan_nodes.specs.Outline.{plan_of}
use Rattle.vx_plan_nodes.specs.Plan.{Plan, claim}
use Rattle.vx_plan_facts.specs.Determined.{determined}
use Rattle.vx_plan_facts.specs.Following.{short}
use Rattle.vx_check_rules.specs.declared.table.Table.{Table}
use Rattle.vx_check_rules.specs.TableView.{derives, Judges}
use Rattle.vx_check_directions.specs.Directed.{determined_by}
use Rattle.vx_check_directions.proofs.Accepting.{nothing-short}
use Rattle.vx_check_directions.proofs.AskingSteps.{orders-of}
use Rattle.vx_check_directions.proofs.asking.asking_entries.Goals as goal

pub short-short-requires : goal.short-short-requires
short-short-requires c =
    let p : Plan = plan_of c.args.node.now in
    let P : Table → Type 0 = λ t. Judges c.requires.0 t p in
    (relation_at c.requires.0, orders-of c.requires.0 c.in-Second.known p c.claimed_order-order.result.now (subst P c.in-Second.is c.requires.1) c.claimed_order-order.ensures)

pub returns-in-First-clause-short : goal.returns-in-First-clause-short
returns-in-First-clause-short c = λ catalog h.
    let p : Plan = plan_of c.args.node.now in
    let plain : short (determined_by (derives c.args.table.now) (relation_at catalog) p) (claim p).order ≡ (claim p).order =
    ap (λ b. short (determined_by b (relation_at catalog) p) (claim p).order) (ap derives c.in-First.is) ∙ nothing-short [] (claim p).order in
    let P : List OrderEntry → Type 0 = λ o. IfOk c.from_slice.result (λ v. v.items ≡ o) in
    subst P (c.claimed_order-order.ensures ∙ sym plain) c.from_slice.ensures.items

pub returns-in-Second-clause-short : goal.returns-in-Second-clause-short
returns-in-Second-clause-short c = λ catalog h.
    let p : Plan = plan_of c.args.node.now in
    let T : Table → Type 0 = λ t. Judges catalog t p in
    let orders = orders-of catalog c.in-Second.known p c.claimed_order-order.result.now (subst T c.in-Second.is h) c.claimed_order-order.ensures in
    let told : c.short-short.result.items ≡ short (determined (relation_at catalog) p) c.claimed_order-order.result.now = c.short-short.ensures.short (relation_at catalog) orders in
    let here : short (determined (relation_at catalog) p) c.claimed_order-order.result.now ≡ short (determined_by (derives c.args.table.now) (relation_at catalog) p) (claim p).order =
    ap (short (determined (relation_at catalog) p)) c.claimed_order-order.ensures ∙ sym (ap (λ b. short (determined_by b (relation_at catalog) p) (claim p).order) (ap derives c.in-Second.is)) in
    let P : List OrderEntry → Type 0 = λ o. IfOk c.from_slice-in-Second.result (λ v. v.items ≡ o) in
    subst P (c.as_slice.ensures.value ∙ (told ∙ here)) c.from_slice-in-Second.ensures.items
