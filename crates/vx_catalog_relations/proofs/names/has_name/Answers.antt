use Rattle.std.proofs.Common.{◌∙◌, sym, bytes_eq, string_bytes, String, Global}
use Rattle.vx_catalog_relations.proofs.NameFacts.{list_any-map}
use Rattle.vx_catalog_relations.proofs.names.has_name.Goals as goal

pub returns : goal.returns
returns c = c.is_any.ensures ∙ sym (list_any-map (λ n. bytes_eq n c.args.name.now) (λ (n : String Global). string_bytes n) c.args.names.now)
