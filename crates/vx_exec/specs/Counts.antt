-- What the workers of a run counted.
use Rattle.std.specs.Prelude.{◌≡◌, List, [], ◌∷◌, ◌++◌, map}
use Rattle.vx_plan_nodes.specs.declared.functions.PlanFunctions.{Ghosts}
use Rattle.vx_exec_operators.specs.Operator.{node_in, counts_in as operator_counts}
use Rattle.vx_exec_operators.specs.declared.operator.Operator.{Operator}
use Rattle.vx_exec_operators.specs.declared.destination.Destination.{Destination}
use Rattle.vx_worker.specs.Worker.{tree_of, counts_of as step_counts}
use Rattle.vx_worker.specs.declared.tree.Tree.{Tree, Leaf, One', Two'}
use Rattle.vx_worker.specs.declared.worker.Worker.{Worker}
use Rattle.vx_exec_setup.specs.declared.counts.NodeCounts.{NodeCounts}
use Rattle.vx_exec_setup.specs.declared.counts.WorkerCounts.{WorkerCounts}

-- the counts of an operator, under its node's number
abbrev pub line_of : {F : Type 0} {given : Ghosts F} → Operator F given → NodeCounts
line_of o = record { node = node_in o; counts = operator_counts o }

-- a line for each operator of a tree, the top one first
abbrev pub lines_of : {F : Type 0} {given : Ghosts F} → Tree (Operator F given) → List NodeCounts
lines_of (Leaf n o) = line_of o ∷ []
lines_of (One' o p c) = line_of o ∷ lines_of c
lines_of (Two' o p a q b) = line_of o ∷ (lines_of a ++ lines_of b)

-- what this worker counted of its steps, and a line for each of its operators
pub record IsCountOf {F : Type 0} {given : Ghosts F} (w : Worker (Operator F given) Destination) (c : WorkerCounts) : Type 0 where
  pub steps : c.steps ≡ step_counts w
  pub nodes : c.nodes.items ≡ lines_of (tree_of w)

-- the counts of these workers, in their order
pub record AreCountsOf {F : Type 0} {given : Ghosts F} (ws : List (Worker (Operator F given) Destination)) (cs : List WorkerCounts) : Type 0 where
  pub steps : map (λ (c : WorkerCounts). c.steps) cs ≡ map step_counts ws
  pub nodes : map (λ (c : WorkerCounts). c.nodes.items) cs ≡ map (λ (w : Worker (Operator F given) Destination). lines_of (tree_of w)) ws
