use Rattle.std.proofs.Common.{◌∙◌, sym, ap}
use Rattle.vx_catalog_relations.specs.Catalog.{relation_at}
use Rattle.vx_plan_nodes.specs.Outline.{plan_of}
use Rattle.vx_check_rules.specs.Tables.{part_shown_by}
use Rattle.vx_check_rules.specs.TableView.{derives}
use Rattle.vx_check_rules.proofs.table.Table.is_part_shown.Goals as goal

pub returns-in-First : goal.returns-in-First
returns-in-First c = λ catalog h given.
    c.is_part_shown.ensures (relation_at catalog) given ∙ ap (λ t. part_shown_by (derives t) (relation_at catalog) (plan_of c.args.node.now)) (sym c.in-First.is)
