use Rattle.std.proofs.Common.{◌≡◌, ◌+◌, ◌≤◌, length, take, not}
use Rattle.std.specs.List.{suffix_len}
use Rattle.volcano_documents.specs.Places.{is_line_feed}
use Rattle.volcano_documents.proofs.places.start_of_line.Given as goal

abbrev pub invariant-loop-start : goal.invariant-loop-start
invariant-loop-start l = (l.start ≤ length l.front) × (l.start + suffix_len (λ b. not (is_line_feed b)) l.front ≡ length l.front + suffix_len (λ b. not (is_line_feed b)) (take l.start l.front))

abbrev pub decreases-loop-start : goal.decreases-loop-start
decreases-loop-start l = l.start
