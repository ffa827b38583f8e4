use Rattle.std.proofs.Common.{◌≡◌, drop}
use Rattle.std.specs.List.{list_all}
use Rattle.volcano_drawing.specs.Totals.{is_run}
use Rattle.volcano_drawing.proofs.totals.first_idle.Given as goal

abbrev pub invariant-loop-node : goal.invariant-loop-node
invariant-loop-node l = list_all is_run (drop l.node l.counts) ≡ list_all is_run l.counts
