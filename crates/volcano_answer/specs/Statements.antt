-- A plan as a statement of SQL, as the program prints it.
use Rattle.std.specs.Prelude.{◌≡◌, ◌⊎◌, ℕ, List, Option, Some, None, bytes_eq, codes, if◌then◌else◌}
use Rattle.vx_plan_nodes.specs.Names.{TypedPlanView}
use Rattle.vx_exec_setup.specs.declared.fault.RunFault.TheVariants as run
use Rattle.vx_exec_runs.specs.Runs.{unknown_in}
use Rattle.volcano_refusals.specs.declared.refusal.Refusal.{Refusal}
use Rattle.volcano_refusals.specs.declared.refusal.Refusal.TheVariants as refusal
use Rattle.vx_check_sql.specs.Statement.{outline_sql}
use Rattle.vx_check_sql.specs.declared.dialect.Dialect.{Dialect}
use Rattle.vx_check_sql.specs.declared.dialect.Dialect.TheVariants as dialect

-- the dialect that a name stands for, if it does
abbrev pub dialect_named : List ℕ → Option Dialect
dialect_named name =
    if bytes_eq name (codes "sqlite") then Some dialect.Sqlite
    else if bytes_eq name (codes "postgres") then Some dialect.Postgres
    else if bytes_eq name (codes "clickhouse") then Some dialect.ClickHouse
    else None

-- the text is the plan without its exchanges, whose functions are the program's, in the SQL of a dialect
abbrev pub IsStatement : Dialect → TypedPlanView → List ℕ → Type 0
IsStatement d p text = (unknown_in p ≡ None) × (text ≡ outline_sql d p.names p.root)

-- why there is none: the first node with a function that is not the program's; out of memory may come anywhere
abbrev pub StatementFails : TypedPlanView → Refusal → Type 0
StatementFails p e = (e ≡ refusal.NoMemory) ⊎ ((node : ℕ) × (e ≡ refusal.Run (run.BadFunction node)) × (unknown_in p ≡ Some node))
