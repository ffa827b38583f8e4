use Rattle.std.proofs.Common.{◌∙◌}
use Rattle.std.proofs.lemmas.Result.{IfOk-weaker}
use Rattle.vx_plan_facts.specs.FactsView.{facts_of}
use Rattle.vx_plan_facts.proofs.Told.{told-class}
use Rattle.vx_plan_facts.proofs.facts.ColumnFacts.class_of.Goals as goal

pub returns : goal.returns
returns c w e f keeps =
    let found = rw c.as_slice.ensures.value at c.class_in.ensures in
    IfOk-weaker c.class_in.result _ _ (λ v h. h ∙ told-class w e f (facts_of c.args.self.now) keeps c.args.column c.requires) found
