-- The serial rows of a plan over the texts of a session's tables, and why there are none.
use Rattle.std.specs.Prelude.{◌≡◌, ℕ, List, false, Ok}
use Rattle.vx_rows.specs.View.{RowsView}
use Rattle.vx_catalog.specs.Csv.{csv_text}
use Rattle.vx_catalog.specs.Database.{Database}
use Rattle.vx_plan_nodes.specs.Erased.{erased_from}
use Rattle.vx_plan_nodes.specs.Outline.{columns, plan_in}
use Rattle.vx_plan_nodes.specs.Names.{TypedPlanView}
use Rattle.vx_serial.specs.Results.{IsSerialOf, EvalFails}
use Rattle.vx_exec_setup.specs.declared.eval_fault.EvalFault.{EvalFault}
use Rattle.volcano_tables.specs.Filled.{IsFilled, IsFirstMissing}
use Rattle.volcano_tables.specs.Texts.{holds_in, lacks_in}
use Rattle.volcano_refusals.specs.declared.refusal.Refusal.{Refusal}
use Rattle.volcano_refusals.specs.declared.refusal.Refusal.TheVariants as refusal
use Rattle.volcano_bundle.specs.Named.{Named}
use Rattle.vx_catalog_relations.specs.Relation.{Relation}
use Rattle.volcano_embedding.specs.Planning.{plan_text, NoPlan}

-- the plan without its exchanges, with its names
abbrev pub erased : TypedPlanView → TypedPlanView
erased p = record { names = p.names; total = false; derives = false; root = erased_from 0 p.root }

-- a database of a plan's catalog, with the rows that the texts have of what the plan scans
pub record IsDatabaseFor (p : TypedPlanView) (tables : Named (List ℕ)) (db : Database) : Type 0 where
  pub same : db.catalog ≡ p.names.catalog
  pub filled : IsFilled (plan_in p.root) (holds_in tables) db

-- the output is the text of the serial rows of the plan without its exchanges, under the names of the plan's output
abbrev pub IsSerial : List Relation → Named (List ℕ) → List ℕ → List ℕ → Type 0
IsSerial relations tables text output =
    (p : TypedPlanView) × (db : Database) × (rows : RowsView) × (plan_text relations text ≡ Ok p) × IsDatabaseFor p tables db × IsSerialOf (erased p) db rows
    × (output ≡ csv_text (columns p.root).names rows.rows)

-- why there are no serial rows: no plan, then the tables, then the first function of the plan without its exchanges, in which nodes are numbered anew, that the
-- program does not have, then the first overflow there
pub data SerialRefuses (relations : List Relation) (tables : Named (List ℕ)) (text : List ℕ) (e : Refusal) : Type 0 where
  serial_memory : e ≡ refusal.NoMemory → SerialRefuses relations tables text e
  for_plan : NoPlan relations text e → SerialRefuses relations tables text e
  for_texts : (p : TypedPlanView) → plan_text relations text ≡ Ok p → IsFirstMissing (plan_in p.root) (holds_in tables) (lacks_in tables) p.names.catalog e → SerialRefuses relations tables text e
  for_evaluation : (p : TypedPlanView) (db : Database) (fault : EvalFault) → plan_text relations text ≡ Ok p → IsDatabaseFor p tables db → e ≡ refusal.Eval fault → EvalFails (erased p) db fault
      → SerialRefuses relations tables text e
