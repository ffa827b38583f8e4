-- How many workers the worker groups of a plan have in a run.
use Rattle.std.specs.Prelude.{ℕ, ◌+◌, ◌≤◌, List}
use Rattle.std.specs.List.{slice_index_or}
use Rattle.vx_plan_nodes.specs.Plan.{Plan, scan, unary, binary, exchange, size}
use Rattle.vx_plan_nodes.specs.Streams.{workers}

-- the workers of the size name with this number; past the last name one
abbrev pub worker_group_at : List ℕ → ℕ → ℕ
worker_group_at worker_groups k = slice_index_or worker_groups k 1

-- a number within these limits
abbrev pub IsWithin : (low high n : ℕ) → Type 0
IsWithin low high n = (low ≤ n) × (n ≤ high)

-- how many workers the fragments below the plan's top fragment have
abbrev pub workers_below : (ℕ → ℕ) → Plan → ℕ
workers_below sizes (scan n c r m z) = 0
workers_below sizes (unary n c op p) = workers_below sizes p
workers_below sizes (binary n c op p q) = workers_below sizes p + workers_below sizes q
workers_below sizes (exchange n c k m p) = workers sizes (size p) + workers_below sizes p

-- how many workers a plan has with worker groups of these sizes: one at its root, and those below
abbrev pub crew_size : (ℕ → ℕ) → Plan → ℕ
crew_size sizes p = 1 + workers_below sizes p
