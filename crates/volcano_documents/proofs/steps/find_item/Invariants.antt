use Rattle.std.proofs.Common.{◌≤◌, length}
use Rattle.volcano_documents.proofs.steps.find_item.Given as goal

abbrev pub invariant-loop : goal.invariant-loop
invariant-loop l = l.at ≤ length l.text
