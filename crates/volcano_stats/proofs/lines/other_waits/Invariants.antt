use Rattle.std.proofs.Common.{◌≡◌, drop}
use Rattle.volcano_stats.specs.Lines.{other_waits}
use Rattle.volcano_stats.proofs.lines.other_waits.Given as goal

abbrev pub invariant-loop-node : goal.invariant-loop-node
invariant-loop-node l = other_waits l.left (drop l.node-index l.nodes) ≡ other_waits l.waits l.nodes
