use Rattle.std.proofs.Common.{map}
use Rattle.vx_catalog_relations.specs.Catalog.{relation_at}
use Rattle.vx_plan_nodes.specs.Outline.{plan_of}
use Rattle.vx_plan_facts.specs.FactsView.{facts_of}
use Rattle.vx_check_formats.proofs.NodeFacts.{top-stands}
use Rattle.vx_check_formats.proofs.json.+push_nodes.Goals as goal

pub push_node-requires : goal.push_node-requires
push_node-requires t c = top-stands (relation_at c.args.plan.now.catalog) (map facts_of c.args.facts.now) (plan_of c.args.node.now) c.requires
