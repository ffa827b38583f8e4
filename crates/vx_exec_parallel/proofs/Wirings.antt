-- What the threads of a job's workers hold, made before the first step.
use Rattle.std.proofs.Common.{◌≡◌, ℕ, Bool, true, List, Result, Ok, Err, map, IfOk, refl, sym, ◌∙◌, arith, true≢false}
use Rattle.std.specs.declared.alloc.AllocError.{AllocError}
use Rattle.std.specs.List.{All}
use Rattle.vx_rows_values.specs.Values.{Row}
use Rattle.vx_plan_nodes.specs.declared.functions.PlanFunctions.{Ghosts}
use Rattle.vx_plan_nodes.specs.Numbering.{relation_in}
use Rattle.vx_plan_nodes.specs.Plan.{Plan, Size, one_worker, group_of, size, is_one}
use Rattle.vx_plan_nodes.specs.Streams.{workers}
use Rattle.vx_plan_nodes.specs.TypedView.{plan, resolved_of}
use Rattle.vx_check_rules.specs.Checked.{relations, is_allowed, is_root_allowed}
use Rattle.vx_exec_laws.proofs.EitherTable.{root-is-one}
use Rattle.vx_exec_laws.proofs.Layouts.{numbered-is-fit}
use Rattle.vx_exec_threads.specs.Carrying.{hold_of}
use Rattle.vx_exec_threads.specs.Drawers.{Sits}
use Rattle.vx_exec_threads.specs.Wired.{IsWired}
use Rattle.vx_exec_threads.specs.declared.ends.Ends.{Ends}
use Rattle.vx_exec_wiring.specs.declared.wiring.Wiring.{Wiring}
use Rattle.vx_plan_nodes.specs.Workers.{worker_group_at}
use Rattle.vx_exec_layout.specs.Layout.{spans_of}
use Rattle.vx_exec_layout.specs.Order.{AreInOrder}
use Rattle.vx_exec_layout.specs.declared.span.NodeSpan.{NodeSpan}
use Rattle.vx_exec_layout.proofs.Order.{plan-in-order}
use Rattle.vx_exec_layout.proofs.UnderFacts.{layout-stays}
use Rattle.vx_exec.specs.Job.{model_of, job_plan}
use Rattle.vx_exec.specs.declared.job.Job.{Job}
use Rattle.vx_exec_parallel.specs.Crew.{IsWiringOf}

-- the layout of a job is its plan's, whatever its functions are
pub laid-under : {F : Type 0} (given : Ghosts F) (j : Job F) (spans : List NodeSpan) → spans ≡ spans_of (worker_group_at j.layout.worker_groups.items) (plan j.plan.now) 0 1
    → spans ≡ spans_of (worker_group_at j.layout.worker_groups.items) (job_plan given j) 0 1
laid-under given j spans laid = laid ∙ sym (layout-stays.spans (given.functions j.functions) (worker_group_at j.layout.worker_groups.items) (plan j.plan.now) 0 1)

-- the layout of an accepted plan, which has one worker at its root, is in the order of its nodes
pub job-ordered : {F : Type 0} (j : Job F) → is_allowed j.plan.now ≡ true → is_root_allowed j.plan.now ≡ true → AreInOrder 0 1 (spans_of (worker_group_at j.layout.worker_groups.items) (plan j.plan.now) 0 1)
job-ordered j allowed root =
    let p : Plan = plan j.plan.now in
    let derives : Bool = (resolved_of j.plan.now).derives in
    let g = worker_group_at j.layout.worker_groups.items in
    let one = one-worker g (size p) (root-is-one derives (relations j.plan.now) (resolved_of j.plan.now).total p root) in
    plan-in-order j.layout.worker_groups.items j.within.worker_groups (relation_in p) p 0 0 1 j.plan.now.numbered (numbered-is-fit derives (relations j.plan.now) p j.plan.now.numbered allowed) (omega (arith, one))
  where
    one-worker : (sizes : ℕ → ℕ) (z : Size) → is_one z ≡ true → workers sizes z ≡ 1
    one-worker sizes one_worker h = refl
    one-worker sizes (group_of k) h = absurd (true≢false (sym h))

-- the wiring for one setting is that of all
pub wiring-of-all : {F : Type 0} (given : Ghosts F) (j : Job F) (r : Result Wiring AllocError)
    → ((hash : List ℕ → Row → ℕ → ℕ) → IfOk r (λ w. IsWired (model_of hash j) (job_plan given j) w.decks.items w.places.items (map hold_of w.ends.items)))
    → IfOk r (λ w. All (λ (e : Ends). All (Sits w.decks.items) e.draws.items) w.ends.items) → IfOk r (λ w. IsWiringOf given j w)
wiring-of-all given j (Ok w) wired sits = record { wired = wired; sits = sits }
wiring-of-all given j (Err e) wired sits = tt
