-- A run by rounds that gives up is one whose plan needs more rounds; one by threads never gives up.
use Rattle.std.proofs.Common.{ℕ, ◌<◌, ◌≤◌, Result, Ok, Err, arith}
use Rattle.std.specs.Prelude.{IfOk}
use Rattle.vx_catalog.specs.Database.{Database, rows_at}
use Rattle.vx_exec_layout.specs.Needed.{rounds_needed}
use Rattle.vx_plan_nodes.specs.Names.{TypedPlanView}
use Rattle.vx_plan_nodes.specs.Outline.{plan_in}
use Rattle.vx_plan_nodes.specs.Workers.{worker_group_at}
use Rattle.vx_exec_runs.specs.Runs.{IsWhole, IfUnfinished, IsSetUp, NeedsMoreRounds}
use Rattle.vx_exec_runs.specs.Sizes.{Sizes}
use Rattle.vx_exec_runs.specs.declared.outcome.RunOutcome.{RunOutcome}
use Rattle.vx_exec_runs.specs.declared.outcome.RunOutcome.TheVariants as run_outcome
use Rattle.vx_exec_runs.specs.declared.runs.TheConstants.{MAX_ROUNDS}
use Rattle.vx_exec_setup.specs.Setup.{SetupView}
use Rattle.vx_exec_setup.specs.declared.fault.RunFault.{RunFault}

more : (most needed : ℕ) → (needed ≤ most → ⊥) → most < needed
more most needed h = grind arith

-- X is what is known of the mode
pub gives-up : (X : Type 0) → X → (p : TypedPlanView) (db : Database) (setup : SetupView) (r : Result RunOutcome RunFault) → IfOk r (λ _. (s : Sizes) × IsSetUp p db setup s)
    → ((s : Sizes) → IsSetUp p db setup s → rounds_needed (rows_at db) (worker_group_at s.worker_groups) (plan_in p.root) ≤ MAX_ROUNDS → IfOk r IsWhole)
    → IfOk r (IfUnfinished (X × ((s : Sizes) × IsSetUp p db setup s × NeedsMoreRounds p db s)))
gives-up X x p db setup (Ok (run_outcome.Done rows)) set ends = tt
gives-up X x p db setup (Ok run_outcome.Unfinished) set ends =
    let needed = rounds_needed (rows_at db) (worker_group_at set.0.worker_groups) (plan_in p.root) in
    (x, (set.0, set.1, more MAX_ROUNDS needed (ends set.0 set.1)))
gives-up X x p db setup (Err e) set ends = tt

pub never-gives-up : (X : Type 0) (r : Result RunOutcome RunFault) → IfOk r IsWhole → IfOk r (IfUnfinished X)
never-gives-up X (Ok (run_outcome.Done rows)) whole = tt
never-gives-up X (Ok run_outcome.Unfinished) whole = absurd whole
never-gives-up X (Err e) whole = tt
