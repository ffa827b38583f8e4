use Rattle.std.proofs.Common.{sym, ◌∙◌, bytes_eq}
use Rattle.vx_rows_values.specs.Ranges.{RangeForm, range_form}
use Rattle.vx_catalog_relations.proofs.NameFacts.{position-map}
use Rattle.vx_plan.proofs.lookup.range_number.Goals as goal

pub returns : goal.returns
returns c = c.range_at_name.ensures ∙ sym (position-map (λ (r : RangeForm). bytes_eq c.args.name.now r.name) range_form c.args.ranges.now)
