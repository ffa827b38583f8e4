-- What a run of a plan over a database comes to.
use Rattle.std.specs.Prelude.{ℕ, ◌≡◌, ◌≢◌, ◌<◌, List, Ok, Option, Some, None}
use Rattle.vx_rows_values.specs.Values.{Row}
use Rattle.vx_rows.specs.View.{RowsView}
use Rattle.vx_catalog_relations.specs.Catalog.{relation_at}
use Rattle.vx_catalog.specs.Database.{Database, rows_at}
use Rattle.vx_plan_nodes.specs.Known.{first_unknown}
use Rattle.vx_plan_nodes.specs.Names.{scope_of, TypedPlanView}
use Rattle.vx_plan_nodes.specs.Outline.{plan_in}
use Rattle.vx_plan_nodes.specs.Real.{IsReal}
use Rattle.vx_plan_nodes.specs.Routes.{sends_by}
use Rattle.vx_plan_nodes.specs.Runs.{Runs}
use Rattle.vx_plan_nodes.specs.Typed.{bounds_at}
use Rattle.vx_plan_nodes.specs.Types.{types_of}
use Rattle.vx_plan_nodes.specs.Workers.{worker_group_at}
use Rattle.vx_check_rules.specs.Claims.{Delivers}
use Rattle.vx_exec_layout.specs.Needed.{rounds_needed}
use Rattle.vx_exec_runs.specs.Setup.{sizes_set, Fails}
use Rattle.vx_exec_runs.specs.Sizes.{Sizes}
use Rattle.vx_exec_runs.specs.declared.outcome.RunOutcome.{RunOutcome}
use Rattle.vx_exec_runs.specs.declared.outcome.RunOutcome.TheVariants as run_outcome
use Rattle.vx_exec_runs.specs.declared.runs.TheConstants.{MAX_ROUNDS}
use Rattle.vx_exec_setup.specs.Setup.{SetupView}
use Rattle.vx_exec_setup.specs.declared.fault.RunFault.{RunFault}
use Rattle.vx_exec_setup.specs.declared.fault.RunFault.TheVariants as fault

-- rows that a run gave, of the output's types. They are stream 0 of a run of the plan relation with worker groups of these sizes, where a hash route sends
-- keys so. They are those of the plan without its exchanges, each as often, and the same list where the root claims a total order
pub record IsRunOf (hash : List ℕ → Row → ℕ → ℕ) (p : TypedPlanView) (db : Database) (worker_groups : List ℕ) (rows : RowsView) : Type 0 where
  pub types : rows.types ≡ types_of (relation_at p.names.catalog) (plan_in p.root)
  pub runs : Runs (rows_at db) (worker_group_at worker_groups) (sends_by hash (bounds_at (scope_of p.names).ranges)) (plan_in p.root) (λ _. rows.rows)
  pub delivers : Delivers (rows_at db) p.total (plan_in p.root) rows.rows

-- a fact of the rows, where every worker has ended
abbrev pub IfDone : (RowsView → Type 0) → RunOutcome → Type 0
IfDone P (run_outcome.Done rows) = P rows
IfDone P run_outcome.Unfinished = Unit {0}

-- every worker has ended
abbrev pub IsWhole : RunOutcome → Type 0
IsWhole (run_outcome.Done rows) = Unit {0}
IsWhole run_outcome.Unfinished = ⊥

-- a fact of a run in which some worker has not ended
abbrev pub IfUnfinished : Type 0 → RunOutcome → Type 0
IfUnfinished P (run_outcome.Done rows) = Unit {0}
IfUnfinished P run_outcome.Unfinished = P

-- why a run that began gives no rows: memory was refused, or a sum, a count or a function overflows of the data. No rows fall, and no packet is a stranger
abbrev pub IsTrueOf : TypedPlanView → Database → RunFault → Type 0
IsTrueOf p db fault.NoMemory = Unit {0}
IsTrueOf p db (fault.Overflow node) = IsReal (rows_at db) (plan_in p.root)
IsTrueOf p db _ = ⊥

-- the database is one of the plan's catalog, and the setup comes to these sizes
pub record HasSizes (p : TypedPlanView) (db : Database) (setup : SetupView) (s : Sizes) : Type 0 where
  pub same : db.catalog ≡ p.names.catalog
  pub sizes : sizes_set setup p.names.sizes (plan_in p.root) ≡ Ok s

-- the number of the first node, inputs before their node, that names a function which has no signature for the types of its operands, or another answer than
-- the plan says
abbrev pub unknown_in : TypedPlanView → Option ℕ
unknown_in p = first_unknown (relation_at p.names.catalog) (plan_in p.root)

-- what `HasSizes` says, and each function that the plan names has a signature for the types of its operands, with the answer that the plan says
pub record IsSetUp (p : TypedPlanView) (db : Database) (setup : SetupView) (s : Sizes) : Type 0 where
  pub same : db.catalog ≡ p.names.catalog
  pub sizes : sizes_set setup p.names.sizes (plan_in p.root) ≡ Ok s
  pub known : unknown_in p ≡ None

-- with worker groups of these sizes the plan needs more rounds over the database, by the bound `rounds_needed`, than a run makes at most
abbrev pub NeedsMoreRounds : TypedPlanView → Database → Sizes → Type 0
NeedsMoreRounds p db s = MAX_ROUNDS < rounds_needed (rows_at db) (worker_group_at s.worker_groups) (plan_in p.root)

-- why a plan gives no rows over a database: another catalog, the first refusal of the setup, a function that has no such signature, or what the run came to
pub data RunFails (p : TypedPlanView) (db : Database) (setup : SetupView) (e : RunFault) : Type 0 where
  for_catalog : e ≡ fault.OtherCatalog → db.catalog ≢ p.names.catalog → RunFails p db setup e
  for_setup : db.catalog ≡ p.names.catalog → Fails e (sizes_set setup p.names.sizes (plan_in p.root)) → RunFails p db setup e
  for_function : (s : Sizes) → HasSizes p db setup s → (node : ℕ) → e ≡ fault.BadFunction node → unknown_in p ≡ Some node → RunFails p db setup e
  for_fault : (s : Sizes) → IsSetUp p db setup s → IsTrueOf p db e → RunFails p db setup e
