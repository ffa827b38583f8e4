use Rattle.std.proofs.Common.{◌≡◌, drop}
use Rattle.serde_json.specs.View.{view}
use Rattle.volcano_documents.specs.Steps.{value_at}
use Rattle.volcano_documents.proofs.steps.value_behind.Given as goal

abbrev pub invariant-loop-step : goal.invariant-loop-step
invariant-loop-step l = value_at (drop l.step-index l.steps) (view l.found) ≡ value_at l.steps (view l.initial.found)
