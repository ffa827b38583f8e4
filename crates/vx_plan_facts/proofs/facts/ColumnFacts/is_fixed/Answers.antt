use Rattle.std.proofs.Common.{◌∙◌, ap, map}
use Rattle.std.proofs.lemmas.Grind.{get_or_default_zero}
use Rattle.vx_rows_values.specs.Lists.{is_some_list}
use Rattle.vx_plan_facts.specs.Facts.{values_in}
use Rattle.vx_plan_facts.specs.FactsView.{fixed_of, facts_of}
use Rattle.vx_plan_facts.proofs.Told.{told-fixed}
use Rattle.vx_plan_facts.proofs.facts.ColumnFacts.is_fixed.Goals as goal

pub returns-clause-fixed : goal.returns-clause-fixed
returns-clause-fixed c w e f keeps =
    let self = c.args.self.now in
    c.is_beside.ensures ∙ ap (λ xs. is_some_list (values_in (map fixed_of xs) c.index.result.now)) c.as_slice.ensures.value
    ∙ ap (λ i. is_some_list (values_in (map fixed_of self.fixed.items) i)) (c.index.ensures ∙ get_or_default_zero self.firsts.items c.args.column c.index.result.now c.requires)
    ∙ told-fixed w e f (facts_of self) keeps c.args.column c.requires
