use Rattle.std.proofs.Common.{◌≤◌, length}
use Rattle.volcano_documents.proofs.steps.offset_of.Given as goal

abbrev pub invariant-loop-step : goal.invariant-loop-step
invariant-loop-step l = l.at ≤ length l.text
