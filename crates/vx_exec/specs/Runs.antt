-- What the workers of a run come to, and by which steps.
use Rattle.std.specs.Prelude.{ℕ, ◌≡◌, ◌<◌, ◌⊎◌, List, Result, Ok, Err}
use Rattle.std.specs.List.{All, slice_index_or}
use Rattle.vx_rows_values.specs.Values.{Row}
use Rattle.vx_plan_nodes.specs.Plan.{Plan}
use Rattle.vx_ops.specs.declared.fault.Code.TheVariants.{Overflow, NoMemory, Unsorted, Stranger}
use Rattle.vx_ops.specs.declared.fault.Fault.{Fault}
use Rattle.vx_ops.specs.declared.fault.Fault.TheVariants.{Own, Passed}
use Rattle.vx_exchange_ends.specs.Tasks.{keep, keeps}
use Rattle.vx_exec_operators.specs.Operator.{OperatorStands, operator_op, operator_want, operator_most, operator_idle}
use Rattle.vx_exec_operators.specs.Destination.{DestinationStands, task_of, post_of, bounds_of, held_in, unclosed_in}
use Rattle.vx_worker.specs.Fragment.{RunModel}
use Rattle.vx_worker.specs.Trace.{scan_morsels}
use Rattle.vx_worker.specs.Worker.{sender_of}
use Rattle.vx_exec_operators.specs.declared.operator.Operator.{Operator}
use Rattle.vx_exec_operators.specs.declared.destination.Destination.{Destination}
use Rattle.vx_worker.specs.declared.worker.Worker.{Worker}
use Rattle.vx_exec_steps.specs.Endings.{FailsFirst}
use Rattle.vx_exec_steps.specs.Following.{Follows, FollowsRounds}
use Rattle.vx_exec_steps.specs.LinksView.{LinksView}
use Rattle.vx_exec_steps.specs.Ready.{Ready}
use Rattle.vx_exec_steps.specs.Verdicts.{Judged}
use Rattle.vx_plan_nodes.specs.Workers.{crew_size}
use Rattle.vx_plan_nodes.specs.declared.functions.PlanFunctions.{Ghosts}
use Rattle.vx_exec_steps.specs.Schedules.{IsBadStep}
use Rattle.vx_exec_steps.specs.declared.verdict.RunState.{RunState}
use Rattle.vx_exec_steps.specs.declared.verdict.RunState.TheVariants as run_state
use Rattle.vx_exec_runs.specs.Promise.{Reports}
use Rattle.vx_exec.specs.Counts.{AreCountsOf}
use Rattle.vx_exec_setup.specs.declared.fault.RunFault.{RunFault}
use Rattle.vx_exec_setup.specs.declared.fault.RunFault.TheVariants as fault
use Rattle.vx_exec_setup.specs.declared.counts.WorkerCounts.{WorkerCounts}
use Rattle.vx_exec_runs.specs.declared.outcome.RunOutcome.{RunOutcome}
use Rattle.vx_exec_runs.specs.declared.outcome.RunOutcome.TheVariants as run_outcome

-- how the fault of a worker is reported. A run of an accepted plan never reports one that only came in a packet, since some worker first fails by itself, so any
-- value will do for that
abbrev pub fault_reported : Fault → RunFault
fault_reported (Own Overflow node) = fault.Overflow node
fault_reported (Own NoMemory node) = fault.NoMemory
fault_reported (Own Unsorted node) = fault.Unsorted node
fault_reported (Own Stranger node) = fault.Stranger node
fault_reported Passed = fault.NoMemory

-- whose fault a run reports: out of memory, or that of the lowest-numbered worker that failed by itself, where all workers of the run ended
abbrev pub IsFirstReported : RunModel → Plan → RunFault → Type 0
IsFirstReported W p e = (e ≡ fault.NoMemory) ⊎ ((f : Fault) × (e ≡ fault_reported f) × FailsFirst W p f)

-- the result of workers with such a verdict: the rows that the first of them kept, or the fault
abbrev pub ComesTo : {F : Type 0} {given : Ghosts F} → List (Worker (Operator F given) Destination) → RunState → Result RunOutcome RunFault → Type 0
ComesTo {F} {given} ws run_state.Done (Ok (run_outcome.Done t)) =
    (d : Worker (Operator F given) Destination) → (task_of (sender_of (slice_index_or ws 0 d)) ≡ keep t.rows) × (post_of (sender_of (slice_index_or ws 0 d)) ≡ keeps t.types)
ComesTo ws run_state.Unfinished (Ok run_outcome.Unfinished) = Unit {0}
ComesTo ws (run_state.Failed f) (Err e) = e ≡ fault_reported f
ComesTo ws v r = ⊥

-- a step of the schedule names no worker of the plan
abbrev pub IsBadStepOf : (steps : List ℕ) → Reports
IsBadStepOf steps sizes p (fault.BadStep index) = IsBadStep steps (crew_size sizes p) index
IsBadStepOf steps sizes p e = ⊥

-- what a schedule comes to first: its bad step is reported unless memory ran out, so with anything else each step names a worker
abbrev pub NamesFirst : (steps : List ℕ) → RunModel → Plan → Result RunOutcome RunFault → Type 0
NamesFirst steps W p (Ok r) = All (λ s. s < crew_size W.sizes p) steps
NamesFirst steps W p (Err e) = (e ≡ fault.NoMemory) ⊎ IsBadStepOf steps W.sizes p e ⊎ All (λ s. s < crew_size W.sizes p) steps

-- workers of a plan in a setting made steps, none of which had made any before: those with which they began, those that they became, and what
-- these come to, which the result says. Their operators compute by such functions
module _ {F : Type 0} (given : Ghosts F) (hash : List ℕ → Row → ℕ → ℕ) (W : RunModel) (p : Plan) where
  -- exactly these steps, in this order
  pub record IsScheduled (steps : List ℕ) (result : Result RunOutcome RunFault) : Type 0 where
    pub begun : List (Worker (Operator F given) Destination)
    pub links : LinksView
    pub ready : Ready (OperatorStands given) (operator_op given) DestinationStands task_of post_of bounds_of hash (scan_morsels W) W p begun links
    pub ended : List (Worker (Operator F given) Destination)
    pub links_after : LinksView
    pub follows : Follows (OperatorStands given) (operator_want given) (operator_op given) (operator_most given) (operator_idle given) DestinationStands task_of post_of bounds_of held_in unclosed_in hash (scan_morsels W) steps begun links ended links_after
    pub verdict : RunState
    pub judged : Judged ended verdict
    pub comes : ComesTo ended verdict result

  -- rounds of all workers: as many as the limit says, or fewer where all have ended
  pub record IsInRounds (limit : ℕ) (result : Result RunOutcome RunFault) : Type 0 where
    pub begun : List (Worker (Operator F given) Destination)
    pub links : LinksView
    pub ready : Ready (OperatorStands given) (operator_op given) DestinationStands task_of post_of bounds_of hash (scan_morsels W) W p begun links
    pub ended : List (Worker (Operator F given) Destination)
    pub links_after : LinksView
    pub follows : FollowsRounds (OperatorStands given) (operator_want given) (operator_op given) (operator_most given) (operator_idle given) DestinationStands task_of post_of bounds_of held_in unclosed_in hash (scan_morsels W) limit begun links ended links_after
    pub verdict : RunState
    pub judged : Judged ended verdict
    pub comes : ComesTo ended verdict result

  -- what a schedule comes to: memory was refused before a step was made, a step names no worker, or all steps were made
  abbrev pub Scheduled : (steps : List ℕ) → Result RunOutcome RunFault → Type 0
  Scheduled steps (Ok r) = IsScheduled steps (Ok r)
  Scheduled steps (Err e) = (e ≡ fault.NoMemory) ⊎ IsBadStepOf steps W.sizes p e ⊎ IsScheduled steps (Err e)

  -- what rounds come to: memory was refused before a step was made, or they were made
  abbrev pub InRounds : (limit : ℕ) → Result RunOutcome RunFault → Type 0
  InRounds limit (Ok r) = IsInRounds limit (Ok r)
  InRounds limit (Err e) = (e ≡ fault.NoMemory) ⊎ IsInRounds limit (Err e)

  -- rounds of all workers, whose counts these are in the end
  pub record IsCountedInRounds (limit : ℕ) (result : Result RunOutcome RunFault) (counts : List WorkerCounts) : Type 0 where
    pub run : IsInRounds limit result
    pub counted : AreCountsOf run.ended counts

  -- memory was refused, or rounds were made, and these are the counts of their workers in the end
  abbrev pub CountedInRounds : (limit : ℕ) → Result RunOutcome RunFault → List WorkerCounts → Type 0
  CountedInRounds limit (Ok r) counts = IsCountedInRounds limit (Ok r) counts
  CountedInRounds limit (Err e) counts = (e ≡ fault.NoMemory) ⊎ IsCountedInRounds limit (Err e) counts
