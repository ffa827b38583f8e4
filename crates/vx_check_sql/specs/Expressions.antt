-- What expressions are in SQL.
use Rattle.std.specs.Prelude.{ℕ, ◌++◌, Bool, List, [], ◌∷◌, codes}
use Rattle.vx_rows_values.specs.Values.{Val, num, text}
use Rattle.vx_functions.specs.Standard.{named}
use Rattle.vx_plan_nodes.specs.Plan.{Expression, input, value, call, Operands, no_operands, operand}
use Rattle.vx_check_sql.specs.declared.dialect.Dialect.{Dialect}
use Rattle.vx_check_sql.specs.declared.dialect.Dialect.TheVariants.{Sqlite, Postgres, ClickHouse}
use Rattle.vx_catalog_relations.specs.Naming.{name_at}
use Rattle.vx_check_sql.specs.Words.{value_sql}
use Rattle.vx_check_sql.specs.Functions.{call_sql, tests_operands}

-- a value that is a column or an operand: a number of 64 bits, and a text that compares by its bytes, which PostgreSQL and ClickHouse have to be told
abbrev pub constant_before : Dialect → Val → List ℕ
constant_before Sqlite v = []
constant_before Postgres (num z) = codes "CAST("
constant_before Postgres (text t) = codes "(CAST("
constant_before ClickHouse (num z) = codes "toInt64("
constant_before ClickHouse (text t) = []

abbrev pub constant_after : Dialect → Val → List ℕ
constant_after Sqlite v = []
constant_after Postgres (num z) = codes " AS bigint)"
constant_after Postgres (text t) = codes " AS text) COLLATE \"C\")"
constant_after ClickHouse (num z) = codes ")"
constant_after ClickHouse (text t) = []

abbrev pub constant_sql : Dialect → Val → List ℕ
constant_sql d v = constant_before d v ++ (value_sql d v ++ constant_after d v)

-- an expression over columns, each as it is written; whether what stands around it asks for a test of its answer
abbrev mutual
  pub expression_sql : Dialect → (columns : List (List ℕ)) → (asks : Bool) → Expression → List ℕ
  expression_sql d cs asks (input c) = name_at cs c
  expression_sql d cs asks (value v) = constant_sql d v
  expression_sql d cs asks (call f t es) = call_sql d asks (named f.name) (operands_sql d cs (tests_operands (named f.name)) es)

  pub operands_sql : Dialect → (columns : List (List ℕ)) → (asks : Bool) → Operands → List (List ℕ)
  operands_sql d cs asks no_operands = []
  operands_sql d cs asks (operand e es) = expression_sql d cs asks e ∷ operands_sql d cs asks es
