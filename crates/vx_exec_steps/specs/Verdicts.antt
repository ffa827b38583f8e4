-- What the outcomes of all workers come to.
use Rattle.std.specs.Prelude.{ℕ, ◌≡◌, ◌<◌, ◌≤◌, List, length, Some, None, IsSome}
use Rattle.std.specs.List.{slice_index_or}
use Rattle.vx_ops.specs.declared.fault.Fault.{Fault}
use Rattle.vx_ops.specs.declared.fault.Fault.TheVariants.{Own, Passed}
use Rattle.vx_worker.specs.Worker.{outcome_of}
use Rattle.vx_worker.specs.declared.worker.Worker.{Worker}
use Rattle.vx_worker.specs.declared.worker.WorkerOutcome.{WorkerOutcome}
use Rattle.vx_worker.specs.declared.worker.WorkerOutcome.TheVariants as worker_outcome
use Rattle.vx_exec_steps.specs.declared.verdict.RunState.{RunState}
use Rattle.vx_exec_steps.specs.declared.verdict.RunState.TheVariants as run_state

-- a worker failed by itself, and not by a Fault that came in a packet
abbrev pub IsOwn : Fault → Type 0
IsOwn (Own code node) = Unit {0}
IsOwn Passed = ⊥

-- it ended, well or not
abbrev pub HasEnded : {O S : Type 0} → Worker O S → Type 0
HasEnded w = IsSome (outcome_of w)

-- the worker with this number has ended
abbrev pub EndsAt : {O S : Type 0} → List (Worker O S) → (k : ℕ) → Type 0
EndsAt {O} {S} ws k = (d : Worker O S) → HasEnded (slice_index_or ws k d)

-- all but the one at this place are as they were
abbrev pub SameBut : {X : Type 0} → (place : ℕ) → (old new : List X) → Type 0
SameBut {X} i old new = (k : ℕ) (d : X) → (k ≡ i → ⊥) → slice_index_or new k d ≡ slice_index_or old k d

-- the workers below number n ended well
abbrev pub AreWell : {O S : Type 0} → List (Worker O S) → (n : ℕ) → Type 0
AreWell {O} {S} ws n = (k : ℕ) (d : Worker O S) → k < n → outcome_of (slice_index_or ws k d) ≡ Some worker_outcome.Well

-- the workers below number n ended, and one of them with this fault, which is that of the first one that failed by itself if any did
pub record FailWith {O S : Type 0} (ws : List (Worker O S)) (n : ℕ) (f : Fault) : Type 0 where
  pub ended : (k : ℕ) (d : Worker O S) → k < n → HasEnded (slice_index_or ws k d)
  pub number : ℕ
  pub within : number < n
  pub here : (d : Worker O S) → outcome_of (slice_index_or ws number d) ≡ Some (worker_outcome.Failed f)
  pub first : (k : ℕ) (d : Worker O S) (g : Fault) → k < n → IsOwn g → outcome_of (slice_index_or ws k d) ≡ Some (worker_outcome.Failed g) → IsOwn f × (number ≤ k)

-- one worker has not ended
pub record GoesOn {O S : Type 0} (ws : List (Worker O S)) : Type 0 where
  pub number : ℕ
  pub within : number < length ws
  pub here : (d : Worker O S) → outcome_of (slice_index_or ws number d) ≡ None

-- what the workers below number n come to, all of which have ended
abbrev pub JudgedBelow : {O S : Type 0} → List (Worker O S) → (n : ℕ) → RunState → Type 0
JudgedBelow ws n run_state.Done = AreWell ws n
JudgedBelow ws n run_state.Unfinished = ⊥
JudgedBelow ws n (run_state.Failed f) = FailWith ws n f

-- a verdict with one more worker that ended
abbrev pub with_outcome : RunState → WorkerOutcome → RunState
with_outcome v worker_outcome.Well = v
with_outcome run_state.Done (worker_outcome.Failed f) = run_state.Failed f
with_outcome run_state.Unfinished (worker_outcome.Failed f) = run_state.Unfinished
with_outcome (run_state.Failed (Own code node)) (worker_outcome.Failed f) = run_state.Failed (Own code node)
with_outcome (run_state.Failed Passed) (worker_outcome.Failed f) = run_state.Failed f

-- what all workers come to
abbrev pub Judged : {O S : Type 0} → List (Worker O S) → RunState → Type 0
Judged ws run_state.Done = AreWell ws (length ws)
Judged ws run_state.Unfinished = GoesOn ws
Judged ws (run_state.Failed f) = FailWith ws (length ws) f
