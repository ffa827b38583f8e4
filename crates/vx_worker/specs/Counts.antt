-- What a worker counts of its steps.
use Rattle.vx_exec_setup.specs.Counts.{with_put, with_wait}
use Rattle.vx_exec_setup.specs.declared.counts.StepCounts.{StepCounts}
use Rattle.vx_worker.specs.Trace.{Event, put_one}
use Rattle.vx_worker.specs.declared.worker.StepOutcome.{StepOutcome}
use Rattle.vx_worker.specs.declared.worker.StepOutcome.TheVariants as step_outcome

-- with what happened in a step: a packet that was put is counted
abbrev pub with_event : StepCounts → Event → StepCounts
with_event c (put_one to packet) = with_put c
with_event c _ = c

-- with what a step answered: one that only waited is counted
abbrev pub with_answer : StepCounts → StepOutcome → StepCounts
with_answer c step_outcome.Waiting = with_wait c
with_answer c _ = c
