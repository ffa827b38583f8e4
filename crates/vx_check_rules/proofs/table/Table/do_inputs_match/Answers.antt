use Rattle.std.proofs.Common.{◌∙◌, sym, ap}
use Rattle.vx_catalog_relations.specs.Catalog.{relation_at}
use Rattle.vx_plan_nodes.specs.Outline.{plan_of}
use Rattle.vx_check_rules.specs.Tables.{inputs_match_by}
use Rattle.vx_check_rules.specs.TableView.{derives}
use Rattle.vx_check_rules.proofs.table.Table.do_inputs_match.Goals as goal

pub returns-in-First : goal.returns-in-First
returns-in-First c = λ catalog h given.
    c.do_inputs_match.ensures (relation_at catalog) given ∙ ap (λ t. inputs_match_by (derives t) (relation_at catalog) (plan_of c.args.node.now)) (sym c.in-First.is)
