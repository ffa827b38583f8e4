use Rattle.std.proofs.Common.{map, take}
use Rattle.volcano_drawing.specs.Entries.{entries_of}
use Rattle.volcano_drawing.specs.Totals.{AreTotals}
use Rattle.volcano_drawing.proofs.totals.add_up.Given as goal

abbrev pub invariant-loop-entry : goal.invariant-loop-entry
invariant-loop-entry l = AreTotals (map (λ w. w.now) l.words) (entries_of (take l.entry-index l.entries)) l.counts.items
