-- What a run counts of itself. A count stays at the largest number of 64 bits.
use Rattle.std.specs.Prelude.{ℕ, ◌+◌, ◌-◌, ◌^◌, min, Bool, List}
use Rattle.vx_exec_setup.specs.declared.counts.StepCounts.{StepCounts}
use Rattle.vx_exec_setup.specs.declared.counts.OperatorCounts.{OperatorCounts}
use Rattle.vx_exec_setup.specs.declared.counts.WorkerCounts.{WorkerCounts}
use Rattle.vx_exec_setup.specs.declared.counts.RunCounts.{RunCounts}

-- as much of a number as a count holds
abbrev pub capped : ℕ → ℕ
capped n = min n (2 ^ 64 - 1)

-- of a worker that made no step
abbrev pub no_steps : StepCounts
no_steps = record { puts = 0; waits = 0 }

abbrev pub with_put : StepCounts → StepCounts
with_put c = record c { puts = capped (c.puts + 1) }

abbrev pub with_wait : StepCounts → StepCounts
with_wait c = record c { waits = capped (c.waits + 1) }

-- of an operator that took no turn
abbrev pub no_turns : OperatorCounts
no_turns = record { left = 0; right = 0; gave = 0; morsels = 0; packets = 0; waits = 0 }

abbrev pub is_wanted : RunCounts → Bool
is_wanted c = c.is_wanted

-- the counts of each worker
abbrev pub counts_in : RunCounts → List WorkerCounts
counts_in c = c.workers.items
