-- What the evaluation of a plan over a database gives.
use Rattle.std.specs.Prelude.{ℕ, ◌≡◌, ◌≢◌, ◌⊎◌, List, Option, Some, None}
use Rattle.vx_rows_values.specs.Values.{Row}
use Rattle.vx_rows.specs.View.{RowsView}
use Rattle.vx_catalog_relations.specs.Catalog.{relation_at}
use Rattle.vx_catalog.specs.Database.{Database, rows_at}
use Rattle.vx_plan_nodes.specs.Outline.{plan_in}
use Rattle.vx_plan_nodes.specs.Known.{first_unknown}
use Rattle.vx_plan_nodes.specs.Plan.{Plan}
use Rattle.vx_plan_nodes.specs.Names.{TypedPlanView}
use Rattle.vx_plan_nodes.specs.Serial.{SerialResult, rows, overflow, serial, HasTooLong}
use Rattle.vx_plan_nodes.specs.Types.{types_of}
use Rattle.vx_serial.specs.Evaluated.{first_exchange, evaluated}
use Rattle.vx_exec_setup.specs.declared.eval_fault.EvalFault.{EvalFault}
use Rattle.vx_exec_setup.specs.declared.eval_fault.EvalFault.TheVariants as fault

-- a fault is the overflow of an outcome; want of memory excuses
abbrev pub IsFaultOf : SerialResult → EvalFault → Type 0
IsFaultOf o fault.NoMemory = Unit {0}
IsFaultOf o (fault.Overflow node) = o ≡ overflow node
IsFaultOf o _ = ⊥

-- a fault of one operator with this number: its overflow, or want of memory
abbrev pub IsFaultAt : ℕ → Option (List Row) → EvalFault → Type 0
IsFaultAt n made fault.NoMemory = Unit {0}
IsFaultAt n made (fault.Overflow node) = (node ≡ n) × (made ≡ None)
IsFaultAt n made _ = ⊥

-- the database is one of the plan's catalog, and the plan has no exchange
pub record IsPlain (p : TypedPlanView) (db : Database) : Type 0 where
  pub same : db.catalog ≡ p.names.catalog
  pub none : first_exchange (plan_in p.root) ≡ None

-- the number of the first node with a function that is not known
abbrev pub unknown_in : TypedPlanView → Option ℕ
unknown_in p = first_unknown (relation_at p.names.catalog) (plan_in p.root)

-- rows of a plan over a database: those of its serial meaning, of the output's types
pub record IsSerialOf (p : TypedPlanView) (db : Database) (t : RowsView) : Type 0 where
  pub plain : IsPlain p db
  pub known : unknown_in p ≡ None
  pub meaning : serial (rows_at db) (plan_in p.root) ≡ rows t.rows
  pub types : t.types ≡ types_of (relation_at p.names.catalog) (plan_in p.root)

-- evaluation ends at this node: the first that overflows or whose grouping is too long. So the serial meaning overflows there, or some grouping is too long
pub record EndsAt (db : ℕ → List Row) (p : Plan) (node : ℕ) : Type 0 where
  pub first : evaluated db p ≡ overflow node
  pub real : (serial db p ≡ overflow node) ⊎ HasTooLong db p

-- why a plan has no rows over a database: another catalog, its first exchange, the first node with a function that is not known, or the first overflow; want of
-- memory may come anywhere
abbrev pub EvalFails : TypedPlanView → Database → EvalFault → Type 0
EvalFails p db fault.OtherCatalog = db.catalog ≢ p.names.catalog
EvalFails p db (fault.HasExchange node) = (db.catalog ≡ p.names.catalog) × (first_exchange (plan_in p.root) ≡ Some node)
EvalFails p db (fault.BadFunction node) = IsPlain p db × (unknown_in p ≡ Some node)
EvalFails p db (fault.Overflow node) = IsPlain p db × (unknown_in p ≡ None) × EndsAt (rows_at db) (plan_in p.root) node
EvalFails p db fault.NoMemory = Unit {0}
