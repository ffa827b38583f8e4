use Rattle.std.proofs.Common.{◌≡◌, replicate}
use Rattle.volcano_drawing.specs.Totals.{nothing}
use Rattle.volcano_drawing.proofs.totals.nothing_counted.Given as goal

abbrev pub invariant-loop-node : goal.invariant-loop-node
invariant-loop-node l = l.counts.items ≡ replicate l._node nothing
