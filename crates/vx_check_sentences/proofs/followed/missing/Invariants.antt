use Rattle.std.proofs.Common.{◌≡◌, ◌++◌, drop}
use Rattle.vx_check_sentences.specs.Shown.{missing}
use Rattle.vx_check_sentences.proofs.followed.missing.Given as goal

abbrev pub invariant-loop-column : goal.invariant-loop-column
invariant-loop-column l = l.list.items ++ missing l.order (drop l.column-index l.columns) ≡ missing l.order l.columns
