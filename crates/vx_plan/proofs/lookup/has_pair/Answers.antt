use Rattle.std.proofs.Common.{sym, ◌∙◌}
use Rattle.vx_plan_json.specs.Document.{pair_form}
use Rattle.vx_plan.specs.Lookup.{pair_eq}
use Rattle.vx_catalog_relations.proofs.NameFacts.{list_any-map}
use Rattle.vx_plan.proofs.lookup.has_pair.Goals as goal

pub returns : goal.returns
returns c = c.is_any_pair.ensures ∙ sym (list_any-map (pair_eq (pair_form c.args.pair.now)) pair_form c.args.pairs.now)
