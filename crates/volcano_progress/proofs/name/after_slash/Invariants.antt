use Rattle.std.proofs.Common.{◌≡◌, length}
use Rattle.volcano_progress.specs.Name.{after_slash}
use Rattle.volcano_progress.proofs.NameFacts.{last_part}
use Rattle.volcano_progress.proofs.name.after_slash.Given as goal

abbrev pub invariant-loop-byte : goal.invariant-loop-byte
invariant-loop-byte l = last_part l.rest l.name ≡ after_slash l.fn.path

abbrev pub decreases-loop-byte : goal.decreases-loop-byte
decreases-loop-byte l = length l.rest
