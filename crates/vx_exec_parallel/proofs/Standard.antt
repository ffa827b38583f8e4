-- Runs by the standard functions are runs of the plan as it was typed.
use Rattle.std.proofs.Common.{ℕ, List, Result, sym, subst}
use Rattle.vx_rows_values.specs.Values.{Row}
use Rattle.vx_catalog.specs.Database.{Database}
use Rattle.vx_plan_nodes.specs.Outline.{function_of}
use Rattle.vx_plan_nodes.specs.Plan.{Plan}
use Rattle.vx_plan_nodes.specs.TypedView.{plan, resolved_of}
use Rattle.vx_plan_nodes.specs.Under.{typed_plan_under}
use Rattle.vx_plan_nodes.specs.declared.typed_plan.TypedPlan.{TypedPlan}
use Rattle.vx_plan_nodes.proofs.UnderErased.{last-functions-stand}
use Rattle.vx_worker.specs.Fragment.{RunModel}
use Rattle.vx_exec.specs.Model.{run_model}
use Rattle.vx_exec.specs.Promise.{WhereSet}
use Rattle.vx_exec_runs.specs.Promise.{Reports, RunPromise}
use Rattle.vx_exec_runs.specs.Runs.{IsSetUp}
use Rattle.vx_exec_runs.specs.Sizes.{Sizes}
use Rattle.vx_exec_runs.specs.declared.outcome.RunOutcome.{RunOutcome}
use Rattle.vx_exec_setup.specs.Setup.{SetupView}
use Rattle.vx_exec_setup.specs.declared.fault.RunFault.{RunFault}

-- they promise the same of it
pub promise-own : (hash : List ℕ → Row → ℕ → ℕ) (Other : Reports) (p : TypedPlan) (db : Database) (setup : SetupView) (r : Result RunOutcome RunFault)
    → RunPromise hash Other (typed_plan_under function_of (resolved_of p)) db setup r → RunPromise hash Other (resolved_of p) db setup r
promise-own hash Other p db setup r h = subst (λ v. RunPromise hash Other v db setup r) (last-functions-stand.own_plan p) h

-- it is set up as it is under them
pub set-own : (p : TypedPlan) (db : Database) (setup : SetupView) (s : Sizes) → IsSetUp (resolved_of p) db setup s → IsSetUp (typed_plan_under function_of (resolved_of p)) db setup s
set-own p db setup s h = subst (λ v. IsSetUp v db setup s) (sym (last-functions-stand.own_plan p)) h

-- and what holds of it under them holds of it
pub where-own : (hash : List ℕ → Row → ℕ → ℕ) (p : TypedPlan) (db : Database) (setup : SetupView) (P : RunModel → Plan → Type 0) → WhereSet hash function_of p db setup P
    → (s : Sizes) → IsSetUp (resolved_of p) db setup s → P (run_model hash p db s) (plan p)
where-own hash p db setup P h s set = subst (λ q. P (run_model hash p db s) q) (last-functions-stand.own p.root) (h s (set-own p db setup s set))
