-- What a command makes of a plan over tables, and why it makes nothing of it. `holds` says what the tables have of a relation, and `lacks` how they refuse one.
use Rattle.std.specs.Prelude.{◌≡◌, ◌⊎◌, ℕ, List, Bool, true, false, Option, Some, None}
use Rattle.vx_rows_values.specs.Values.{Row}
use Rattle.vx_rows.specs.View.{RowsView}
use Rattle.vx_catalog_relations.specs.Relation.{Relation}
use Rattle.vx_catalog_relations.specs.Catalog.{relation_at}
use Rattle.vx_catalog.specs.Database.{Database}
use Rattle.vx_plan_json.specs.declared.fault.PlanFault.TheVariants.{NoMemory}
use Rattle.vx_plan_nodes.specs.Erased.{erased_from}
use Rattle.vx_plan_nodes.specs.Outline.{columns, plan_in}
use Rattle.vx_plan_nodes.specs.Names.{TypedPlanView}
use Rattle.vx_check_rules.specs.Refusal.{Rule}
use Rattle.vx_check_rules.specs.Tables.{refusal_by}
use Rattle.vx_check_rules.specs.RuleView.{rule_of}
use Rattle.vx_check.specs.Accepted.{accepted_text}
use Rattle.vx_check.specs.Explain.{explain_text}
use Rattle.vx_check_rules.specs.declared.rule.Rule as rust_rule
use Rattle.vx_exec_runs.specs.Sizes.{Sizes}
use Rattle.vx_exec_runs.specs.Runs.{IsRunOf, IsSetUp, NeedsMoreRounds, RunFails}
use Rattle.vx_exec_setup.specs.declared.fault.RunFault.{RunFault}
use Rattle.vx_serial.specs.Results.{IsSerialOf, EvalFails}
use Rattle.vx_exec_setup.specs.declared.eval_fault.EvalFault.{EvalFault}
use Rattle.vx_exec_setup.specs.declared.fault.RunFault.TheVariants as run_fault
use Rattle.vx_exec_setup.specs.declared.setting.Mode.TheVariants as mode
use Rattle.volcano_bundle.specs.declared.command.Command.{Command}
use Rattle.volcano_bundle.specs.declared.command.Command.TheVariants as command
use Rattle.volcano_refusals.specs.declared.refusal.Refusal.{Refusal}
use Rattle.volcano_refusals.specs.declared.refusal.Refusal.TheVariants as refusal
use Rattle.vx_plan_nodes.specs.ByteRouter.{byte_route}
use Rattle.volcano_answer.specs.declared.layouts.Layout.{Layout}
use Rattle.volcano_answer.specs.Layouts.{rows_text}
use Rattle.volcano_tables.specs.Filled.{IsFilled, IsFirstMissing}
use Rattle.vx_exec_setup.specs.Setting.{Setting}

-- what tables have of a relation
abbrev pub Holding : Type 1
Holding = Relation → List Row → Type 0

-- how tables refuse a relation
abbrev pub Lacking : Type 1
Lacking = Relation → Refusal → Type 0

-- the first node whose claim is not shown by the rule table that the plan asks for, and the rule that says so
abbrev pub refusal_in : TypedPlanView → Option (ℕ × Rule)
refusal_in p = refusal_by p.derives (relation_at p.names.catalog) p.total (plan_in p.root)

-- the text is that of the rows of a run of this plan over this database, set up like this, in a layout and under the names of the plan's output
abbrev pub IsRunOver : Layout → TypedPlanView → Database → Setting → List ℕ → Type 0
IsRunOver layout p db setting text =
    (rows : RowsView) × (s : Sizes) × IsSetUp p db setting.setup s × IsRunOf byte_route p db s.worker_groups rows × (text ≡ rows_text layout (columns p.root).names rows.rows)

-- why a run of this plan over this database gives no text: it was set up rightly, and by rounds it may need more of them than a run makes, or its threads were
-- not started; memory ran out; or it failed
pub data RunRefuses (p : TypedPlanView) (db : Database) (setting : Setting) (e : Refusal) : Type 0 where
  for_rounds : setting.mode ≡ mode.Rounds → (s : Sizes) → IsSetUp p db setting.setup s → NeedsMoreRounds p db s → e ≡ refusal.Unfinished → RunRefuses p db setting e
  for_threads : setting.mode ≡ mode.Threads → (s : Sizes) → IsSetUp p db setting.setup s → e ≡ refusal.Run run_fault.NoThread → RunRefuses p db setting e
  run_memory : e ≡ refusal.NoMemory → RunRefuses p db setting e
  for_fault : (fault : RunFault) → e ≡ refusal.Run fault → RunFails p db setting.setup fault → RunRefuses p db setting e

-- a database of a plan's catalog, with the rows that the tables have of what the plan scans
pub record IsDatabaseFor (p : TypedPlanView) (holds : Holding) (db : Database) : Type 0 where
  pub same : db.catalog ≡ p.names.catalog
  pub filled : IsFilled (plan_in p.root) holds db

-- the text answers a run of this plan over the tables
abbrev pub IsRun : Layout → TypedPlanView → Holding → Setting → List ℕ → Type 0
IsRun layout p holds setting text = (db : Database) × IsDatabaseFor p holds db × IsRunOver layout p db setting text

-- why this plan gives no text: the tables, then the run
pub data PlanRefuses (p : TypedPlanView) (holds : Holding) (lacks : Lacking) (setting : Setting) (e : Refusal) : Type 0 where
  for_tables : IsFirstMissing (plan_in p.root) holds lacks p.names.catalog e → PlanRefuses p holds lacks setting e
  for_run : (db : Database) → IsDatabaseFor p holds db → RunRefuses p db setting e → PlanRefuses p holds lacks setting e

-- the plan without its exchanges, with its names
abbrev pub erased : TypedPlanView → TypedPlanView
erased p = record { names = p.names; total = false; derives = false; root = erased_from 0 p.root }

-- the text answers a serial evaluation of this plan over the tables: it is that of the serial rows of the plan without its exchanges, under the names of the plan's output
abbrev pub IsSerial : Layout → TypedPlanView → Holding → List ℕ → Type 0
IsSerial layout p holds text =
    (db : Database) × (rows : RowsView) × IsDatabaseFor p holds db × IsSerialOf (erased p) db rows × (text ≡ rows_text layout (columns p.root).names rows.rows)

-- why this plan has no serial text: the tables, then the first function of the plan without its exchanges, in which nodes are numbered anew, that the program does
-- not have, then the first overflow there; out of memory may come anywhere
pub data SerialRefuses (p : TypedPlanView) (holds : Holding) (lacks : Lacking) (e : Refusal) : Type 0 where
  serial_memory : e ≡ refusal.NoMemory → SerialRefuses p holds lacks e
  for_texts : IsFirstMissing (plan_in p.root) holds lacks p.names.catalog e → SerialRefuses p holds lacks e
  for_evaluation : (db : Database) (fault : EvalFault) → IsDatabaseFor p holds db → e ≡ refusal.Eval fault → EvalFails (erased p) db fault → SerialRefuses p holds lacks e

-- each claim of the plan is shown: the checker accepts it
abbrev pub IsShown : TypedPlanView → Type 0
IsShown p = refusal_in p ≡ None

-- the checker refuses the plan: its first claim that is not shown, with the rule that says so; or it has no memory for what is known of the columns of a plan
-- that asks for that, as where names are looked up
abbrev pub IsNotShown : TypedPlanView → Refusal → Type 0
IsNotShown p e =
    ((rule : rust_rule.Rule) × (node : ℕ) × (e ≡ refusal.Check rule node) × (refusal_in p ≡ Some (node, rule_of rule)))
    ⊎ ((p.derives ≡ true) × (e ≡ refusal.Plan NoMemory))

-- the text is what a command asks for of a plan over tables; a serial evaluation asks nothing of the claims, the other commands ask the checker first
abbrev pub IsResultOf : Layout → Command → TypedPlanView → Holding → Setting → List ℕ → Type 0
IsResultOf layout command.Run p holds setting text = IsShown p × IsRun layout p holds setting text
IsResultOf layout command.Serial p holds setting text = IsSerial layout p holds text
IsResultOf layout command.Check p holds setting text = IsShown p × (text ≡ accepted_text p.total)
IsResultOf layout command.Explain p holds setting text = IsShown p × (text ≡ explain_text p.names p.total p.derives p.root)

-- a command that asks the checker
abbrev pub is_checked : Command → Bool
is_checked command.Run = true
is_checked command.Serial = false
is_checked command.Check = true
is_checked command.Explain = true

-- the first reason why a command gives nothing for a plan: a claim that is not shown, then the run or the evaluation; out of memory may come anywhere
pub data CommandRefuses (c : Command) (p : TypedPlanView) (holds : Holding) (lacks : Lacking) (setting : Setting) (e : Refusal) : Type 0 where
  command_memory : e ≡ refusal.NoMemory → CommandRefuses c p holds lacks setting e
  for_rule : is_checked c ≡ true → IsNotShown p e → CommandRefuses c p holds lacks setting e
  for_rest : c ≡ command.Run → IsShown p → PlanRefuses p holds lacks setting e → CommandRefuses c p holds lacks setting e
  for_serial : c ≡ command.Serial → SerialRefuses p holds lacks e → CommandRefuses c p holds lacks setting e
