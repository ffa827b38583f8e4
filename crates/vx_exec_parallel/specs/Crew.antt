-- The workers of a job, wired as its plan says, and what they come to.
use Rattle.std.specs.Prelude.{ℕ, ◌≡◌, List, map}
use Rattle.std.specs.List.{All}
use Rattle.vx_rows_values.specs.Values.{Row}
use Rattle.vx_plan_nodes.specs.declared.functions.PlanFunctions.{Ghosts}
use Rattle.vx_plan_nodes.specs.TypedView.{resolved_of}
use Rattle.vx_worker.specs.Trace.{scan_morsels}
use Rattle.vx_worker.specs.Worker.{role_of}
use Rattle.vx_worker.specs.declared.worker.Worker.{Worker}
use Rattle.vx_exec_operators.specs.Operator.{OperatorStands, operator_op}
use Rattle.vx_exec_operators.specs.Destination.{DestinationStands, task_of, post_of, bounds_of}
use Rattle.vx_exec_operators.specs.declared.operator.Operator.{Operator}
use Rattle.vx_exec_operators.specs.declared.destination.Destination.{Destination}
use Rattle.vx_exec_steps.specs.Endings.{ReportsFirst}
use Rattle.vx_exec_steps.specs.Headline.{IsAccepted, Answers}
use Rattle.vx_exec_steps.specs.LinksView.{LinksView}
use Rattle.vx_exec_steps.specs.Ready.{Ready}
use Rattle.vx_exec_steps.specs.declared.verdict.RunState.{RunState}
use Rattle.vx_exec_steps.specs.declared.verdict.RunState.TheVariants as run_state
use Rattle.vx_exec_threads.specs.Carrying.{hold_of}
use Rattle.vx_exec_threads.specs.Drawers.{Sits}
use Rattle.vx_exec_threads.specs.Wired.{IsWired}
use Rattle.vx_exec_threads.specs.declared.ends.Ends.{Ends}
use Rattle.vx_exec_spawn.specs.Each.{EachHonest}
use Rattle.vx_exec_spawn.specs.declared.member.CrewMember.{CrewMember}
use Rattle.vx_exec_spawn.specs.declared.member.Joined.{Joined}
use Rattle.vx_exec_wiring.specs.declared.wiring.Wiring.{Wiring}
use Rattle.vx_exec.specs.Crew.{IsNew}
use Rattle.vx_exec.specs.Job.{model_of, job_plan}
use Rattle.vx_exec.specs.declared.job.Job.{Job}

-- of a job that computes by the functions that `given` says it holds
module _ {F : Type 0} (given : Ghosts F) where
  -- what the threads of a job's workers hold before the first step
  pub record IsWiringOf (j : Job F) (w : Wiring) : Type 0 where
    pub wired : (hash : List ℕ → Row → ℕ → ℕ) → IsWired (model_of hash j) (job_plan given j) w.decks.items w.places.items (map hold_of w.ends.items)
    pub sits : All (λ (e : Ends). All (Sits w.decks.items) e.draws.items) w.ends.items

  -- the workers of a job, none of which made a step
  pub record AreNew (j : Job F) (ws : List (Worker (Operator F given) Destination)) : Type 0 where
    pub ready : (hash : List ℕ → Row → ℕ → ℕ) → (w : LinksView)
        × Ready (OperatorStands given) (operator_op given) DestinationStands task_of post_of bounds_of hash (scan_morsels (model_of hash j)) (model_of hash j) (job_plan given j) ws w
    pub new : All (IsNew given j) ws

  -- what came back of a job's workers, each of which went into a thread, is honest
  abbrev pub AreHonest : (hash : List ℕ → Row → ℕ → ℕ) → Job F → List (CrewMember (Operator F given) Destination) → List (Joined (Operator F given) Destination) → Type 0
  AreHonest hash j cs js = EachHonest (OperatorStands given) (operator_op given) DestinationStands task_of post_of bounds_of hash (scan_morsels (model_of hash j)) cs js

  -- the plan of a job is accepted
  abbrev pub IsAcceptedJob : (hash : List ℕ → Row → ℕ → ℕ) → Job F → Type 0
  IsAcceptedJob hash j = IsAccepted (model_of hash j) (resolved_of j.plan.now).total (job_plan given j)

  -- workers with the same roles, all of which have ended, and a verdict on them that is worth what it says
  pub record HaveRun (hash : List ℕ → Row → ℕ → ℕ) (j : Job F) (old new : List (Worker (Operator F given) Destination)) (v : RunState) : Type 0 where
    pub roles : map (role_of (operator_op given) post_of bounds_of) new ≡ map (role_of (operator_op given) post_of bounds_of) old
    pub answers : Answers task_of (model_of hash j) (resolved_of j.plan.now).total (job_plan given j) new v
    pub first : ReportsFirst (model_of hash j) (job_plan given j) v
    pub whole : v ≡ run_state.Unfinished → ⊥
