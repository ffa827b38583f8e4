use Rattle.std.proofs.Common.{◌≡◌, ap, ◌∙◌, refl, map, string_bytes}
use Rattle.vx_rows_values.specs.declared.value.ColType.TheVariants as kind
use Rattle.vx_catalog_finding.specs.Found.{all_texts}
use Rattle.vx_catalog_finding.proofs.TypeFacts.{texts_named}
use Rattle.vx_catalog_finding.proofs.RelationFacts.{header_is}
use Rattle.vx_catalog_finding.proofs.relation.header_relation.Goals as goal

pub returns : goal.returns
returns c =
    let names = map string_bytes c.in_ok-names.names.items in
    let texts : c.in_ok-types.types.items ≡ all_texts names =
    c.in_ok-types.ensures ∙ (ap (λ l. map (λ _. kind.Text) l) c.as_slice.ensures.value ∙ texts_named c.in_ok-names.names.items) in
    header_is c.args.name.now c.args.text.now names _ c.in_ok-names.ensures c.in_ok-from_str.ensures.ok refl texts (ap (λ l. map (λ k. k.items) l) c.new.ensures.items) c.new-2.ensures.items
