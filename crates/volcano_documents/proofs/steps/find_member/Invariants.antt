use Rattle.std.proofs.Common.{◌≤◌, ◌-◌, length, IfSome}
use Rattle.volcano_documents.specs.Spans.{IsMemberSpan}
use Rattle.volcano_documents.proofs.steps.find_member.Given as goal

abbrev pub invariant-loop-member : goal.invariant-loop-member
invariant-loop-member l = record {
  within : l.at ≤ length l.text;
  kept : IfSome l.found (IsMemberSpan l.text 0);
}

abbrev pub decreases-loop-member : goal.decreases-loop-member
decreases-loop-member l = length l.text - l.at
