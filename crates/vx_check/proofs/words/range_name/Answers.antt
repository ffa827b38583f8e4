use Rattle.std.proofs.Common.{◌∙◌, ap, map}
use Rattle.vx_rows_values.specs.Ranges.{RangeForm, range_form}
use Rattle.vx_check.specs.Explain.{name_at}
use Rattle.vx_check.proofs.WordFacts.{name-range}
use Rattle.vx_check.proofs.words.range_name.Goals as goal

pub returns-in-Some : goal.returns-in-Some
returns-in-Some c =
    let k = c.in-Some.ensures.lookup in
    c.as_str.ensures.value ∙ name-range range_form (λ (r : RangeForm). r.name) c.ranges-2.result.now c.args.range c.in-Some.range.now k.3.0 k.1
    ∙ ap (λ rs. name_at (map (λ (r : RangeForm). r.name) rs) c.args.range) c.ranges-2.ensures
