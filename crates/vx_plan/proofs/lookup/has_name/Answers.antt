use Rattle.std.proofs.Common.{sym, ◌∙◌, bytes_eq, string_bytes}
use Rattle.vx_catalog_relations.proofs.NameFacts.{list_any-map}
use Rattle.vx_plan.proofs.lookup.has_name.Goals as goal

pub returns : goal.returns
returns c = c.is_any.ensures ∙ sym (list_any-map (bytes_eq c.args.name.now) string_bytes c.args.names.now)
