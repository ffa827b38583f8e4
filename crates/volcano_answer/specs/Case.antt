-- A case: a bundle whose catalog and plan read and resolve, whose plan the checker accepts, and whose tables load. And what status 3 says of one.
use Rattle.std.specs.Prelude.{◌≡◌, ◌⊎◌, ℕ, ◌<◌, List, length, Bool, true, false, Some}
use Rattle.vx_rows_values.specs.Values.{Row}
use Rattle.vx_catalog_relations.specs.Catalog.{relation_at}
use Rattle.vx_plan_nodes.specs.Outline.{plan_in}
use Rattle.vx_plan_nodes.specs.Names.{TypedPlanView}
use Rattle.vx_exec_setup.specs.declared.fault.RunFault.{RunFault}
use Rattle.vx_exec_setup.specs.declared.fault.RunFault.TheVariants as run
use Rattle.vx_exec_setup.specs.declared.eval_fault.EvalFault.TheVariants as eval
use Rattle.vx_exec_runs.specs.Runs.{unknown_in}
use Rattle.volcano_bundle.specs.Bundle.{Bundle}
use Rattle.volcano_refusals.specs.declared.refusal.Refusal.{Refusal}
use Rattle.volcano_refusals.specs.declared.refusal.Refusal.TheVariants as refusal
use Rattle.volcano_tables.specs.Filled.{scans}
use Rattle.volcano_refusals.specs.Status.{status_of}
use Rattle.volcano_tables.specs.Texts.{holds_in}
use Rattle.volcano_answer.specs.Commands.{IsShown, erased}
use Rattle.volcano_answer.specs.Answer.{IsBundlePlan, Refuses}

pub record IsCase (b : Bundle) (p : TypedPlanView) : Type 0 where
  pub planned : IsBundlePlan b p
  pub shown : IsShown p
  pub loaded : (i : ℕ) → i < length p.names.catalog → scans (plan_in p.root) i ≡ true → (rows : List Row) × holds_in b.tables (relation_at p.names.catalog i) rows

-- a fault of the setup: X1 to X4, X12 and X14
abbrev pub is_of_setup : RunFault → Bool
is_of_setup (run.SizeMissing name) = true
is_of_setup (run.SizeOutOfRange name) = true
is_of_setup run.BadPacket = true
is_of_setup run.BadMorsel = true
is_of_setup (run.BadStep index) = false
is_of_setup run.OtherCatalog = false
is_of_setup (run.Overflow node) = false
is_of_setup run.NoMemory = false
is_of_setup run.NoThread = false
is_of_setup (run.Unsorted node) = false
is_of_setup (run.Stranger exchange) = false
is_of_setup (run.TooManyWorkers number) = true
is_of_setup run.BadSlack = true
is_of_setup (run.BadFunction node) = false

-- a refusal of the setup
abbrev pub IsOfSetup : Refusal → Type 0
IsOfSetup e = (fault : RunFault) × (e ≡ refusal.Run fault) × (is_of_setup fault ≡ true)

-- a refusal for the first node with a function that is not the program's, in a run or in a serial evaluation, whose nodes are numbered anew
abbrev pub IsForFunction : TypedPlanView → Refusal → Type 0
IsForFunction p e =
    ((node : ℕ) × (e ≡ refusal.Run (run.BadFunction node)) × (unknown_in p ≡ Some node))
    ⊎ ((node : ℕ) × (e ≡ refusal.Eval (eval.BadFunction node)) × (unknown_in (erased p) ≡ Some node))

-- a case is refused with status 3 only by its setup, or for a function that is not the program's
abbrev pub CaseIsRefusedBySetup : Type 0
CaseIsRefusedBySetup = (b : Bundle) (p : TypedPlanView) (e : Refusal) → IsCase b p → Refuses b e → status_of e ≡ 3 → IsOfSetup e ⊎ IsForFunction p e
