use Rattle.std.proofs.Common.{rules, ◌≡◌, ◌≤◌, sym, subst}
use Rattle.std.specs.Prelude.{IfOk}
use Rattle.vx_catalog.specs.Database.{rows_at}
use Rattle.vx_exec_setup.specs.declared.setting.Mode.TheVariants as mode
use Rattle.vx_plan_nodes.specs.ByteRouter.{byte_route}
use Rattle.vx_plan_nodes.specs.Outline.{plan_in}
use Rattle.vx_plan_nodes.specs.TypedView.{resolved_of}
use Rattle.vx_plan_nodes.specs.contracts.functions.StandardFunctionsPlanFunctions.TheImpl as standard
use Rattle.vx_plan_nodes.specs.Workers.{worker_group_at}
use Rattle.vx_check_rules.specs.CheckedView.{typed_plan}
use Rattle.vx_exec_layout.specs.Needed.{rounds_needed}
use Rattle.vx_exec_setup.specs.Counts.{counts_in}
use Rattle.vx_exec.specs.Runs.{CountedInRounds}
use Rattle.vx_exec_runs.specs.Promise.{NothingElse, NoThreadStarted, MayReport, RunPromise}
use Rattle.vx_exec_runs.specs.Runs.{IsSetUp, IsWhole}
use Rattle.vx_exec_runs.specs.Sizes.{Sizes}
use Rattle.vx_exec_runs.specs.declared.runs.TheConstants.{MAX_ROUNDS}
use Rattle.vx_exec_parallel.proofs.GivingUp.{gives-up, never-gives-up}
use Rattle.vx_exec_parallel.proofs.Standard.{promise-own, where-own}
use Rattle.vx_exec_parallel.specs.Engine.{CountedIn}
use Rattle.vx_exec_parallel.specs.Parallel.{CountedByThreads}
use Rattle.vx_exec_parallel.proofs.engine.EngineRuns.run.Goals as goal

pub returns-in-Rounds-clause-promise : goal.returns-in-Rounds-clause-promise
returns-in-Rounds-clause-promise g c =
    let p = typed_plan c.args.plan.now in
    let db = c.args.database.now in
    let r = c.run_rounds.result in
    let rounds : c.args.setting.now.mode ≡ mode.Rounds = search rules in
    let mine = promise-own byte_route NothingElse p db c.setup-setup.result.now r c.run_rounds.ensures.promise.run in
    subst (λ m. RunPromise byte_route (MayReport m) (resolved_of p) db c.args.setting.now.setup r) (sym rounds)
    (subst (λ z. RunPromise byte_route NothingElse (resolved_of p) db z r) c.setup-setup.ensures mine)

pub returns-in-Threads-clause-promise : goal.returns-in-Threads-clause-promise
returns-in-Threads-clause-promise g c =
    let p = typed_plan c.args.plan.now in
    let db = c.args.database.now in
    let r = c.run_threads.result in
    let threads : c.args.setting.now.mode ≡ mode.Threads = search rules in
    let mine = promise-own byte_route NoThreadStarted p db c.setup-setup.result.now r c.run_threads.ensures.promise.run in
    subst (λ m. RunPromise byte_route (MayReport m) (resolved_of p) db c.args.setting.now.setup r) (sym threads)
    (subst (λ z. RunPromise byte_route NoThreadStarted (resolved_of p) db z r) c.setup-setup.ensures mine)

pub returns-in-Rounds-clause-counts : goal.returns-in-Rounds-clause-counts
returns-in-Rounds-clause-counts g c = λ wanted s set.
    let p = typed_plan c.args.plan.now in
    let db = c.args.database.now in
    let r = c.run_rounds.result in
    let ws = counts_in c.run_rounds.new.counts in
    let rounds : c.args.setting.now.mode ≡ mode.Rounds = search rules in
    let mine = subst (λ z. IsSetUp (resolved_of p) db z s) (sym c.setup-setup.ensures) set in
    let counted = where-own byte_route p db c.setup-setup.result.now (λ W q. CountedInRounds standard.ghosts byte_route W q MAX_ROUNDS r ws) (c.run_rounds.ensures.counted wanted) s mine in
    subst (λ m. CountedIn standard.ghosts m p db s r ws) (sym rounds) counted

pub returns-in-Threads-clause-counts : goal.returns-in-Threads-clause-counts
returns-in-Threads-clause-counts g c = λ wanted s set.
    let p = typed_plan c.args.plan.now in
    let db = c.args.database.now in
    let r = c.run_threads.result in
    let ws = counts_in c.run_threads.new.counts in
    let threads : c.args.setting.now.mode ≡ mode.Threads = search rules in
    let mine = subst (λ z. IsSetUp (resolved_of p) db z s) (sym c.setup-setup.ensures) set in
    let counted = where-own byte_route p db c.setup-setup.result.now (λ W q. CountedByThreads standard.ghosts byte_route W q r ws) (c.run_threads.ensures.counted wanted) s mine in
    subst (λ m. CountedIn standard.ghosts m p db s r ws) (sym threads) counted

pub returns-in-Rounds-clause-unfinished : goal.returns-in-Rounds-clause-unfinished
returns-in-Rounds-clause-unfinished g c =
    let plan = typed_plan c.args.plan.now in
    let p = resolved_of plan in
    let db = c.args.database.now in
    let result = c.run_rounds.result in
    let rounds : c.args.setting.now.mode ≡ mode.Rounds = search rules in
    let mine = promise-own byte_route NothingElse plan db c.setup-setup.result.now result c.run_rounds.ensures.promise.run in
    let set = subst (λ z. IfOk result (λ _. (s : Sizes) × IsSetUp p db z s)) c.setup-setup.ensures mine.set in
    let enough = where-own byte_route plan db c.setup-setup.result.now (λ W q. rounds_needed W.db W.sizes q ≤ MAX_ROUNDS → IfOk result IsWhole) c.run_rounds.ensures.ends in
    let ends = subst (λ z. (s : Sizes) → IsSetUp p db z s → rounds_needed (rows_at db) (worker_group_at s.worker_groups) (plan_in p.root) ≤ MAX_ROUNDS → IfOk result IsWhole) c.setup-setup.ensures enough in
    gives-up _ rounds p db c.args.setting.now.setup result set ends

pub returns-in-Threads-clause-unfinished : goal.returns-in-Threads-clause-unfinished
returns-in-Threads-clause-unfinished g c = never-gives-up _ c.run_threads.result c.run_threads.ensures.whole
