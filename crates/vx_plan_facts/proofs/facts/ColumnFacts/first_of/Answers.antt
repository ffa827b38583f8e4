use Rattle.std.proofs.Common.{◌∙◌, ◌==◌, ap}
use Rattle.std.proofs.lemmas.Grind.{get_or_default_zero}
use Rattle.vx_plan_facts.specs.FactsView.{facts_of}
use Rattle.vx_plan_facts.proofs.Told.{told-first}
use Rattle.vx_plan_facts.proofs.facts.ColumnFacts.first_of.Goals as goal

pub returns-clause-least : goal.returns-clause-least
returns-clause-least c w e f keeps =
    let self = c.args.self.now in
    ap (λ r. r == c.args.column) (c.index.ensures ∙ get_or_default_zero self.firsts.items c.args.column c.index.result.now c.requires) ∙ told-first w e f (facts_of self) self.named keeps c.args.column c.requires
