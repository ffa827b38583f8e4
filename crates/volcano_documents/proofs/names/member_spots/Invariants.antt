use Rattle.std.proofs.Common.{◌≤◌, ◌-◌, length}
use Rattle.volcano_documents.proofs.names.member_spots.Given as goal

abbrev pub invariant-loop-member : goal.invariant-loop-member
invariant-loop-member l = l.at ≤ length l.text

abbrev pub decreases-loop-member : goal.decreases-loop-member
decreases-loop-member l = length l.text - l.at
