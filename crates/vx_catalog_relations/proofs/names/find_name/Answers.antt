use Rattle.std.proofs.Common.{◌∙◌, sym, bytes_eq, string_bytes, String, Global}
use Rattle.vx_catalog_relations.proofs.NameFacts.{position-map}
use Rattle.vx_catalog_relations.proofs.names.find_name.Goals as goal

pub returns : goal.returns
returns c = c.position_of.ensures ∙ sym (position-map (bytes_eq c.args.name.now) (λ (n : String Global). string_bytes n) c.args.names.now)
