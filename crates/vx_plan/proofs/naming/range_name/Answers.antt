use Rattle.std.proofs.Common.{◌∙◌, ap, map, sym}
use Rattle.vx_rows_values.specs.Ranges.{RangeForm, range_form}
use Rattle.vx_catalog_relations.specs.Naming.{name_at}
use Rattle.vx_plan.proofs.NamingFacts.{name-range}
use Rattle.vx_plan.proofs.naming.range_name.Goals as goal

pub returns-in-Some : goal.returns-in-Some
returns-in-Some c = λ s given.
    let k = c.in-Some.ensures.lookup in
    c.as_str.ensures.value ∙ name-range range_form (λ (r : RangeForm). r.name) c.args.ranges.now c.args.range c.in-Some.range.now k.3.0 k.1
    ∙ ap (λ rs. name_at (map (λ (r : RangeForm). r.name) rs) c.args.range) (sym given)
