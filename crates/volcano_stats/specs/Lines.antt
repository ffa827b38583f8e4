-- The lines of a run's counts: one for each node in each worker, the workers in the order of their numbers and the nodes of each in preorder.
use Rattle.std.specs.Prelude.{ℕ, ◌+◌, ◌-◌, List, [], ◌∷◌, ◌++◌}
use Rattle.vx_exec_setup.specs.declared.counts.NodeCounts.{NodeCounts}
use Rattle.vx_exec_setup.specs.declared.counts.WorkerCounts.{WorkerCounts}
use Rattle.volcano_stats.specs.declared.lines.Line.{Line}

-- the line of a node, with what its worker counted of its own steps: the packets that it put, and the steps in which it waited for room
abbrev pub line_of : (worker puts full : ℕ) → NodeCounts → Line
line_of worker puts full c = record { node = c.node; worker = worker; counts = c.counts; puts = puts; full = full }

-- a line for each of these nodes, of which the first has what the worker counted of its own steps
abbrev pub node_lines : (worker puts full : ℕ) → List NodeCounts → List Line
node_lines worker puts full [] = []
node_lines worker puts full (c ∷ cs) = line_of worker puts full c ∷ node_lines worker 0 0 cs

-- so many waits without those for a packet that one of these nodes wanted
abbrev pub other_waits : ℕ → List NodeCounts → ℕ
other_waits waits [] = waits
other_waits waits (c ∷ cs) = other_waits (waits - c.counts.waits) cs

-- the lines of the worker with this number
abbrev pub worker_lines : ℕ → WorkerCounts → List Line
worker_lines number w = node_lines number w.steps.puts (other_waits w.steps.waits w.nodes.items) w.nodes.items

-- the lines of these workers, of which the first has this number
abbrev pub lines_from : ℕ → List WorkerCounts → List Line
lines_from number [] = []
lines_from number (w ∷ ws) = worker_lines number w ++ lines_from (number + 1) ws

-- the lines of all workers of a run
abbrev pub lines_of : List WorkerCounts → List Line
lines_of ws = lines_from 0 ws
