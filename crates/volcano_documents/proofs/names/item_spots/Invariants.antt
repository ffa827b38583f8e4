use Rattle.std.proofs.Common.{◌≤◌, ◌-◌, length}
use Rattle.volcano_documents.proofs.names.item_spots.Given as goal

abbrev pub invariant-loop-item : goal.invariant-loop-item
invariant-loop-item l = l.at ≤ length l.text

abbrev pub decreases-loop-item : goal.decreases-loop-item
decreases-loop-item l = length l.text - l.at
