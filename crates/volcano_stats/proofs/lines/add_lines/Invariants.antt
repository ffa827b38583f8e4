use Rattle.std.proofs.Common.{◌≡◌, ◌++◌, drop}
use Rattle.volcano_stats.specs.Lines.{node_lines, worker_lines}
use Rattle.volcano_stats.proofs.lines.add_lines.Given as goal

abbrev pub invariant-loop-node : goal.invariant-loop-node
invariant-loop-node l =
    l.lines.items ++ node_lines l.number l.puts l.full (drop l.node-index l.nodes) ≡ l.initial.lines.items ++ worker_lines l.number l.worker
