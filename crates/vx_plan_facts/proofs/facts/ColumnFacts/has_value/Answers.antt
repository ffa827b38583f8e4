use Rattle.std.proofs.Common.{◌∙◌, ap, map}
use Rattle.std.proofs.lemmas.Grind.{get_or_default_zero}
use Rattle.vx_rows_values.specs.ValueView.{val_of}
use Rattle.vx_plan_facts.specs.Fixed.{has_value}
use Rattle.vx_plan_facts.specs.Facts.{values_in}
use Rattle.vx_plan_facts.specs.FactsView.{fixed_of, facts_of}
use Rattle.vx_plan_facts.proofs.Told.{told-has}
use Rattle.vx_plan_facts.proofs.facts.ColumnFacts.has_value.Goals as goal

pub returns-clause-value : goal.returns-clause-value
returns-clause-value c w e f keeps =
    let self = c.args.self.now in
    let v = val_of c.args.value.now in
    c.is_among.ensures ∙ ap (λ xs. has_value (values_in (map fixed_of xs) c.index.result.now) v) c.as_slice.ensures.value
    ∙ ap (λ i. has_value (values_in (map fixed_of self.fixed.items) i) v) (c.index.ensures ∙ get_or_default_zero self.firsts.items c.args.column c.index.result.now c.requires)
    ∙ told-has w e f (facts_of self) keeps c.args.column c.requires v
