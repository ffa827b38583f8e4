use Rattle.std.proofs.Common.{◌≡◌, Some}
use Rattle.serde_json.specs.View.{view}
use Rattle.volcano_documents.specs.Steps.{value_at}
use Rattle.volcano_documents.proofs.StepFacts.{depth_of_value}
use Rattle.volcano_documents.proofs.steps.is_value_at.Goals as goal

pub is_same-requires-clause-value : goal.is_same-requires-clause-value
is_same-requires-clause-value c =
    let e : value_at c.args.steps.now (view c.args.whole.now) ≡ Some (view c.in-Some-value_behind.value.now) = cc (c.in-Some-value_behind.ensures) in
    depth_of_value _ _ _ _ e c.requires
