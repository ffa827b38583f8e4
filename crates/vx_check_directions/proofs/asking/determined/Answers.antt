use Rattle.std.proofs.Common.{◌∙◌, sym, ap, subst}
use Rattle.vx_catalog_relations.specs.Catalog.{relation_at}
use Rattle.vx_plan_nodes.specs.Outline.{plan_of}
use Rattle.vx_plan_facts.specs.ColumnSetView.{set_of_columns}
use Rattle.vx_check_rules.specs.declared.table.Table.{Table}
use Rattle.vx_check_rules.specs.TableView.{derives, Judges}
use Rattle.vx_check_rules.proofs.OrderSteps.{found-is}
use Rattle.vx_check_directions.specs.Directed.{determined_by}
use Rattle.vx_check_directions.proofs.asking.determined.Goals as goal

pub returns-in-Second-clause-answer : goal.returns-in-Second-clause-answer
returns-in-Second-clause-answer c = λ catalog h col l.
    let p = plan_of c.args.node.now in
    let P : Table → Type 0 = λ t. Judges catalog t p in
    let known = subst P c.in-Second.is h in
    let s = set_of_columns c.args.set.now in
    let found = set_of_columns c.determined.result in
    found-is (relation_at catalog) p s found (c.determined.ensures.answer (relation_at catalog) known.known) col (l (ap derives c.in-Second.is))
    ∙ ap (λ b. determined_by b (relation_at catalog) p s col) (sym (ap derives c.in-Second.is))
