use Rattle.std.proofs.Common.{◌≡◌, ◌++◌, drop}
use Rattle.volcano_stats.specs.Lines.{lines_from, lines_of}
use Rattle.volcano_stats.proofs.lines.lines_of.Given as goal

abbrev pub invariant-loop-number : goal.invariant-loop-number
invariant-loop-number l = l.lines.items ++ lines_from l.number (drop l.number l.workers) ≡ lines_of l.workers
