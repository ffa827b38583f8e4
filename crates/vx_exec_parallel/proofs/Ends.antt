-- What a run in threads comes to, from what its workers came to.
use Rattle.std.proofs.Common.{Vec, Global, ◌≡◌, ◌≤◌, ◌⊎◌, ℕ, List, Ok, Err, Result, sym, ap, ◌∙◌, subst, inl, inr, map, length, vec_len, arith}
use Rattle.std.specs.List.{All}
use Rattle.std.specs.Result.{IsErrAnd}
use Rattle.vx_rows_values.specs.Values.{Row}
use Rattle.vx_plan_nodes.specs.declared.functions.PlanFunctions.{Ghosts}
use Rattle.vx_plan_nodes.specs.Plan.{Plan}
use Rattle.vx_worker.specs.Fragment.{RunModel}
use Rattle.vx_worker.specs.Trace.{scan_morsels}
use Rattle.vx_worker.specs.Worker.{role_of}
use Rattle.vx_worker.specs.declared.worker.Worker.{Worker}
use Rattle.vx_exec_operators.specs.Operator.{OperatorStands, operator_op}
use Rattle.vx_exec_operators.specs.Destination.{DestinationStands, task_of, post_of, bounds_of}
use Rattle.vx_exec_operators.specs.declared.operator.Operator.{Operator}
use Rattle.vx_exec_operators.specs.declared.destination.Destination.{Destination}
use Rattle.vx_exec_steps.proofs.RunSteps.{map-length}
use Rattle.vx_exec_steps.specs.LinksView.{LinksView}
use Rattle.vx_exec_steps.specs.Ready.{Ready}
use Rattle.vx_exec_setup.specs.declared.fault.RunFault.{RunFault}
use Rattle.vx_exec_setup.specs.declared.fault.RunFault.TheVariants as fault
use Rattle.vx_exec.specs.Crew.{IsNew}
use Rattle.vx_exec.specs.Job.{model_of, job_plan}
use Rattle.vx_exec.specs.Links.{board_of}
use Rattle.vx_exec_setup.specs.declared.counts.WorkerCounts.{WorkerCounts}
use Rattle.vx_exec.specs.declared.crew.Crew.{Crew}
use Rattle.vx_exec.specs.declared.job.Job.{Job}
use Rattle.vx_exec_runs.specs.declared.outcome.RunOutcome.{RunOutcome}
use Rattle.vx_exec_parallel.specs.Crew.{AreNew}
use Rattle.vx_exec_parallel.specs.Parallel.{NeedsFew, IsJoinedCrew, RanByThreads, IsCountedCrew, CountedByThreads}

-- the workers of a crew are new
pub new-parts : {F : Type 0} (given : Ghosts F) (j : Job F) (crew : Crew F given) (ws : Vec (Worker (Operator F given) Destination) Global) (w : LinksView) → ws ≡ crew.workers → w ≡ board_of crew
    → ((hash : List ℕ → Row → ℕ → ℕ)
    → Ready (OperatorStands given) (operator_op given) DestinationStands task_of post_of bounds_of hash (scan_morsels (model_of hash j)) (model_of hash j) (job_plan given j) crew.workers.items (board_of crew))
    → All (IsNew given j) crew.workers.items → AreNew given j ws.items
new-parts {F} given j crew ws w e f ready new =
    let items = ap (λ (v : Vec (Worker (Operator F given) Destination) Global). v.items) e in
    record {
      ready = λ hash. (
        board_of crew,
        subst (λ z. Ready (OperatorStands given) (operator_op given) DestinationStands task_of post_of bounds_of hash (scan_morsels (model_of hash j)) (model_of hash j) (job_plan given j) z (board_of crew))
            (sym items) (ready hash),
      );
      new = subst (λ z. All (IsNew given j) z) (sym items) new;
    }

-- no thread was started, or memory was refused
abbrev pub IsRefusal : RunFault → Type 0
IsRefusal e = (e ≡ fault.NoMemory) ⊎ (e ≡ fault.NoThread)

-- what holds of either refusal holds of a result that hands one on
pub refusal-reported : (P : Result RunOutcome RunFault → Type 0) (r : Result RunOutcome RunFault) (e : RunFault) → IsErrAnd r (λ y. y ≡ e) → IsRefusal e → P (Err fault.NoMemory) → P (Err fault.NoThread)
    → P r
refusal-reported P (Ok x) e handed h memory thread = absurd handed
refusal-reported P (Err y) e handed h memory thread = elim h [
  | inl m ↦ subst (λ z. P (Err z)) (sym (handed ∙ m)) memory
  | inr t ↦ subst (λ z. P (Err z)) (sym (handed ∙ t)) thread
]

module _ {F : Type 0} (given : Ghosts F) (hash : List ℕ → Row → ℕ → ℕ) (W : RunModel) (p : Plan) where
  -- the workers came to this, whatever it is
  pub ran-reported : (r : Result RunOutcome RunFault) → IsJoinedCrew given hash W p r → RanByThreads given hash W p r
  ran-reported (Ok x) h = h
  ran-reported (Err e) h = inr (inr h)

  pub counted-reported : (r : Result RunOutcome RunFault) (counts : List WorkerCounts) → IsCountedCrew given hash W p r counts → CountedByThreads given hash W p r counts
  counted-reported (Ok x) counts h = h
  counted-reported (Err e) counts h = inr (inr h)

-- where there are no more workers than threads may be started, nothing is asked
pub none-asked : (most workers count : ℕ) (r : Result RunOutcome RunFault) → count ≡ workers → count ≤ most → NeedsFew most workers r
none-asked most workers count r same few = λ lt. absurd (omega (arith, same, few, lt))

-- workers with the same roles are as many
pub same-count : {F : Type 0} (given : Ghosts F) (old : Vec (Worker (Operator F given) Destination) Global) (new : List (Worker (Operator F given) Destination))
    → map (role_of (operator_op given) post_of bounds_of) new ≡ map (role_of (operator_op given) post_of bounds_of) old.items → length new ≡ vec_len old
same-count given old new e =
    let a = map-length (role_of (operator_op given) post_of bounds_of) new in
    let b = map-length (role_of (operator_op given) post_of bounds_of) old.items in
    let k = ap length e in
    let ok = old.ok in
    omega (arith, a, b, k, ok)
