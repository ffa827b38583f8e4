-- The status with which the program ends after a refusal: 3 for what its user can mend, 4 where the machine or the run failed.
use Rattle.std.specs.Prelude.{ℕ}
use Rattle.vx_catalog_relations.specs.declared.fault.CatalogFault.{CatalogFault}
use Rattle.vx_catalog_relations.specs.declared.fault.CatalogFault.TheVariants as catalog
use Rattle.vx_catalog.specs.declared.fault.LoadFault.{LoadFault}
use Rattle.vx_catalog.specs.declared.fault.LoadFault.TheVariants as load
use Rattle.vx_plan_json.specs.declared.fault.PlanFault.{PlanFault}
use Rattle.vx_plan_json.specs.declared.fault.PlanFault.TheVariants as plan
use Rattle.vx_check_rules.specs.declared.rule.Rule.{Rule}
use Rattle.vx_check_rules.specs.declared.rule.Rule.TheVariants as rule
use Rattle.vx_exec_setup.specs.declared.fault.RunFault.{RunFault}
use Rattle.vx_exec_setup.specs.declared.fault.RunFault.TheVariants as run
use Rattle.vx_exec_setup.specs.declared.eval_fault.EvalFault.{EvalFault}
use Rattle.vx_exec_setup.specs.declared.eval_fault.EvalFault.TheVariants as eval
use Rattle.volcano_refusals.specs.declared.refusal.Refusal.{Refusal}
use Rattle.volcano_refusals.specs.declared.refusal.Refusal.TheVariants as refusal

-- of a catalog: C1 to C3 and C12, and out of memory
abbrev pub catalog_status : CatalogFault → ℕ
catalog_status catalog.BadCatalog = 3
catalog_status (catalog.DuplicateName name) = 3
catalog_status (catalog.UnknownColumn name) = 3
catalog_status catalog.NoMemory = 4
catalog_status catalog.TooLarge = 3

-- of a relation's text: C4 to C10 and C12, and out of memory
abbrev pub load_status : LoadFault → ℕ
load_status load.HeaderMismatch = 3
load_status (load.BadWidth row) = 3
load_status (load.BadInt row col) = 3
load_status (load.NotUtf8 row) = 3
load_status (load.KeyBroken key first second) = 3
load_status (load.OrderBroken row) = 3
load_status load.ReadFailed = 3
load_status load.NoMemory = 4
load_status load.TooLarge = 3

-- of a plan: P1 to P10, P12 and P13, and out of memory
abbrev pub plan_status : PlanFault → ℕ
plan_status plan.NotJson = 3
plan_status (plan.BadNode path) = 3
plan_status plan.TooDeep = 3
plan_status (plan.UnknownRelation node name) = 3
plan_status (plan.UnknownColumn node name) = 3
plan_status (plan.DuplicateColumn node name) = 3
plan_status (plan.TypeMismatch node) = 3
plan_status (plan.UnknownRange node name) = 3
plan_status (plan.BadRange name) = 3
plan_status (plan.BadSize name) = 3
plan_status plan.NoMemory = 4
plan_status (plan.TooWide node) = 3
plan_status (plan.PhaseMismatch node) = 3

-- of the checker: K1 to K9 and K11
abbrev pub rule_status : Rule → ℕ
rule_status rule.SizeMismatch = 3
rule_status rule.RootNotOne = 3
rule_status rule.PartNotShown = 3
rule_status rule.InputsNotMatched = 3
rule_status rule.ReplicatedInput = 3
rule_status rule.OrderNotShown = 3
rule_status rule.OrderNeeded = 3
rule_status rule.KeyNotShown = 3
rule_status rule.TotalNotShown = 3
rule_status rule.FirstRowsOpen = 3

-- of a run: X1 to X6, X12, X14 and X15 are reported before it begins (X5 by no bundle), X7 to X11 end it
abbrev pub run_status : RunFault → ℕ
run_status (run.SizeMissing name) = 3
run_status (run.SizeOutOfRange name) = 3
run_status run.BadPacket = 3
run_status run.BadMorsel = 3
run_status (run.BadStep index) = 3
run_status run.OtherCatalog = 3
run_status (run.Overflow node) = 4
run_status run.NoMemory = 4
run_status run.NoThread = 4
run_status (run.Unsorted node) = 4
run_status (run.Stranger exchange) = 4
run_status (run.TooManyWorkers number) = 3
run_status run.BadSlack = 3
run_status (run.BadFunction node) = 3

-- of a serial evaluation: X6, X13 and X15 are reported before it begins, X7 and X8 end it
abbrev pub eval_status : EvalFault → ℕ
eval_status eval.OtherCatalog = 3
eval_status (eval.HasExchange node) = 3
eval_status (eval.Overflow node) = 4
eval_status eval.NoMemory = 4
eval_status (eval.BadFunction node) = 3

-- of the program: V1 to V3 and V6 are 3, V4, V5 and out of memory are 4
abbrev pub status_of : Refusal → ℕ
status_of (refusal.Catalog fault) = catalog_status fault
status_of (refusal.Load fault) = load_status fault
status_of (refusal.Plan fault) = plan_status fault
status_of (refusal.Check rule node) = rule_status rule
status_of (refusal.Run fault) = run_status fault
status_of (refusal.Eval fault) = eval_status fault
status_of refusal.BadBundle = 3
status_of (refusal.NoTable name) = 3
status_of (refusal.FileUnreadable path) = 3
status_of refusal.InputUnreadable = 3
status_of refusal.WriteFailed = 4
status_of refusal.Unfinished = 4
status_of refusal.TooLarge = 3
status_of refusal.NoMemory = 4
