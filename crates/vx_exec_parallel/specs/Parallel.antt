-- What a run whose workers are threads comes to.
use Rattle.std.specs.Prelude.{ℕ, ◌≡◌, ◌<◌, ◌⊎◌, Result, Ok, Err, List, length, map}
use Rattle.vx_rows_values.specs.Values.{Row}
use Rattle.vx_plan_nodes.specs.declared.functions.PlanFunctions.{Ghosts}
use Rattle.vx_plan_nodes.specs.Plan.{Plan}
use Rattle.vx_worker.specs.Fragment.{RunModel}
use Rattle.vx_worker.specs.Trace.{scan_morsels}
use Rattle.vx_worker.specs.declared.worker.Worker.{Worker}
use Rattle.vx_exec_operators.specs.Operator.{OperatorStands, operator_op}
use Rattle.vx_exec_operators.specs.Destination.{DestinationStands, task_of, post_of, bounds_of}
use Rattle.vx_exec_operators.specs.declared.operator.Operator.{Operator}
use Rattle.vx_exec_operators.specs.declared.destination.Destination.{Destination}
use Rattle.vx_exec_steps.specs.Ready.{Settled}
use Rattle.vx_exec_steps.specs.Verdicts.{Judged}
use Rattle.vx_plan_nodes.specs.Workers.{crew_size}
use Rattle.vx_exec_steps.specs.declared.verdict.RunState.{RunState}
use Rattle.vx_morsel_decks.specs.Seats.{DeckView}
use Rattle.vx_exec_threads.specs.declared.deck_place.DeckPlace.{DeckPlace}
use Rattle.vx_exec_spawn.specs.declared.member.Joined.{Joined}
use Rattle.vx_exec_assembly.specs.Assembly.{WasRun}
use Rattle.vx_exec_assembly.specs.Parts.{worker_in}
use Rattle.vx_exec_setup.specs.declared.fault.RunFault.{RunFault}
use Rattle.vx_exec_setup.specs.declared.fault.RunFault.TheVariants as fault
use Rattle.vx_exec.specs.Counts.{AreCountsOf}
use Rattle.vx_exec.specs.Runs.{ComesTo}
use Rattle.vx_exec_setup.specs.declared.counts.WorkerCounts.{WorkerCounts}
use Rattle.vx_exec_runs.specs.declared.outcome.RunOutcome.{RunOutcome}

-- where there are more workers than threads may be started, the result is that no thread was started, or that memory was refused
abbrev pub NeedsFew : (most workers : ℕ) → Result RunOutcome RunFault → Type 0
NeedsFew most workers result = most < workers → (result ≡ Err fault.NoThread) ⊎ (result ≡ Err fault.NoMemory)

module _ {F : Type 0} (given : Ghosts F) (hash : List ℕ → Row → ℕ → ℕ) (W : RunModel) (p : Plan) where
  -- the workers that were joined, in the order of their numbers: one for each place of the plan, which was given to a thread before its first step, wired as the
  -- plan says, and which that thread gave back once it had ended (`WasRun`). Their traces are those of a run that comes to this verdict (`Settled`)
  pub record WereJoined (ended : List (Worker (Operator F given) Destination)) (verdict : RunState) : Type 0 where
    pub decks : List DeckView
    pub places : List DeckPlace
    pub joined : List (Joined (Operator F given) Destination)
    pub run : WasRun (OperatorStands given) (operator_op given) DestinationStands task_of post_of bounds_of hash (scan_morsels W) W p decks places joined
    pub workers : ended ≡ map worker_in joined
    pub settled : Settled task_of W p ended verdict

  -- the workers that were joined came to this result: all have ended, and a fault is that of the lowest-numbered one of them that failed by itself
  pub record IsJoinedCrew (result : Result RunOutcome RunFault) : Type 0 where
    pub ended : List (Worker (Operator F given) Destination)
    pub as_many : length ended ≡ crew_size W.sizes p
    pub verdict : RunState
    pub joined : WereJoined ended verdict
    pub judged : Judged ended verdict
    pub comes : ComesTo ended verdict result

  -- memory or a thread was refused, or threads ran workers to their end
  abbrev pub RanByThreads : Result RunOutcome RunFault → Type 0
  RanByThreads (Ok r) = IsJoinedCrew (Ok r)
  RanByThreads (Err e) = (e ≡ fault.NoMemory) ⊎ (e ≡ fault.NoThread) ⊎ IsJoinedCrew (Err e)

  -- and these are the counts of those workers in the end, of each its own
  pub record IsCountedCrew (result : Result RunOutcome RunFault) (counts : List WorkerCounts) : Type 0 where
    pub run : IsJoinedCrew result
    pub counted : AreCountsOf run.ended counts

  -- memory or a thread was refused, or threads ran workers to their end, and these counted this
  abbrev pub CountedByThreads : Result RunOutcome RunFault → List WorkerCounts → Type 0
  CountedByThreads (Ok r) counts = IsCountedCrew (Ok r) counts
  CountedByThreads (Err e) counts = (e ≡ fault.NoMemory) ⊎ (e ≡ fault.NoThread) ⊎ IsCountedCrew (Err e) counts
