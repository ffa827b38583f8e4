use Rattle.std.proofs.Common.{◌≡◌, ◌++◌, length}
use Rattle.volcano_progress.specs.Text.{grouped}
use Rattle.volcano_progress.proofs.text.push_grouped.Given as goal

-- what was added, and what is to come
abbrev pub invariant-loop-digit : goal.invariant-loop-digit
invariant-loop-digit l = l.text.items ++ grouped l.rest ≡ l.fn.text.items ++ grouped l.fn.digits

abbrev pub decreases-loop-digit : goal.decreases-loop-digit
decreases-loop-digit l = length l.rest
