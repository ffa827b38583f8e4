-- Runs of several plans over tables that are loaded once: the plans, what is printed of their runs, and why there is less. `files`, `reliable`, `input` and `failed` are as in `Files`.
use Rattle.std.specs.Prelude.{◌≡◌, ℕ, ◌++◌, List, [], ◌∷◌, map, Bool, true, Option, Result, Ok, codes}
use Rattle.std.specs.List.{list_any}
use Rattle.vx_catalog_relations.specs.Relation.{Relation}
use Rattle.vx_catalog_relations.specs.Naming.{catalog_text}
use Rattle.vx_catalog_relations.specs.Naming as catalog
use Rattle.vx_catalog_relations.specs.declared.fault.CatalogFault.{CatalogFault}
use Rattle.vx_catalog.specs.Database.{Database, rows_at}
use Rattle.vx_plan_json.specs.Document.{Document}
use Rattle.vx_plan_json.specs.Fault as plan
use Rattle.vx_plan_json.specs.Reading.{document_of_text}
use Rattle.vx_plan_nodes.specs.Names.{TypedPlanView}
use Rattle.vx_plan_nodes.specs.Outline.{plan_in}
use Rattle.volcano_arguments.specs.Asked.{ManyPaths}
use Rattle.vx_exec_setup.specs.Setting.{Setting}
use Rattle.vx_catalog_bytes.specs.Stored.{Stored}
use Rattle.volcano_refusals.specs.declared.refusal.Refusal.{Refusal}
use Rattle.volcano_refusals.specs.declared.refusal.Refusal.TheVariants as refusal
use Rattle.volcano_tables.specs.Filled.{scans, IsFilledBy, IsFirstMissingOf}
use Rattle.volcano_tables.specs.Folder.{holds_at, LacksAt}
use Rattle.volcano_answer.specs.declared.layouts.Layout.{Layout}
use Rattle.volcano_answer.specs.Commands.{Holding, IsShown, IsNotShown, IsDatabaseFor, IsRunOver, RunRefuses}
use Rattle.volcano_answer.specs.Files.{known_at, input_after, IsReadRefusal}
use Rattle.volcano_answer.specs.Planning.{Reading, exactly, read_from, IsPlanned, IsPlanRefusal}

-- why there is no catalog under a path: its bytes, or the catalog
pub data IsNoCatalog (files : List ℕ → Stored) (reliable : List ℕ → Bool) (input : Option (List ℕ)) (failed : Bool) (path : List ℕ) (e : Refusal) : Type 0 where
  for_catalog_bytes : IsReadRefusal files reliable input failed path e → IsNoCatalog files reliable input failed path e
  for_catalog_text : (fault : CatalogFault) → e ≡ refusal.Catalog fault → read_from (known_at files input path) catalog_text (catalog.Fails fault) → IsNoCatalog files reliable input failed path e

-- a plan, and the path that it was read from
pub record NamedPlan : Type 0 where
  pub path : List ℕ
  pub plan : TypedPlanView

abbrev pub paths_of : List NamedPlan → List (List ℕ)
paths_of ns = map (λ n. n.path) ns

-- what is known of the plan under a path
abbrev pub plan_under : (List ℕ → Stored) → Option (List ℕ) → List ℕ → Reading (Result Document plan.Refusal)
plan_under files input path = read_from (known_at files input path) document_of_text

-- plans over these relations that the checker accepts, read from their paths one after the other: standard input is read once
abbrev pub AreAccepted : (List ℕ → Stored) → Option (List ℕ) → List Relation → List NamedPlan → Type 0
AreAccepted files input relations [] = Unit {0}
AreAccepted files input relations (n ∷ ns) =
    IsPlanned (exactly (Ok relations)) (plan_under files input n.path) n.plan × IsShown n.plan × AreAccepted files (input_after input n.path) relations ns

-- what standard input has left once these paths were read
abbrev pub input_after_all : Option (List ℕ) → List (List ℕ) → Option (List ℕ)
input_after_all input [] = input
input_after_all input (path ∷ paths) = input_after_all (input_after input path) paths

-- why the plan under a path is not run: its bytes, the plan, or a claim that is not shown
pub data IsNotAccepted (files : List ℕ → Stored) (reliable : List ℕ → Bool) (input : Option (List ℕ)) (failed : Bool) (relations : List Relation) (path : List ℕ) (e : Refusal) : Type 0 where
  for_bytes : IsReadRefusal files reliable input failed path e → IsNotAccepted files reliable input failed relations path e
  for_plan_under : IsPlanRefusal (exactly (Ok relations)) (plan_under files input path) e → IsNotAccepted files reliable input failed relations path e
  for_notes : (p : TypedPlanView) → IsPlanned (exactly (Ok relations)) (plan_under files input path) p → IsNotShown p e → IsNotAccepted files reliable input failed relations path e

-- the first of these paths of which the plan is not run, and why: the plans before it are accepted; out of memory may come anywhere
pub data AreNotAccepted (files : List ℕ → Stored) (reliable : List ℕ → Bool) (input : Option (List ℕ)) (failed : Bool) (relations : List Relation) (paths : List (List ℕ)) (e : Refusal) : Type 0 where
  accepting_memory : e ≡ refusal.NoMemory → AreNotAccepted files reliable input failed relations paths e
  for_first : (before : List NamedPlan) (path : List ℕ) (rest : List (List ℕ)) → paths ≡ paths_of before ++ path ∷ rest → AreAccepted files input relations before
      → IsNotAccepted files reliable (input_after_all input (paths_of before)) failed relations path e → AreNotAccepted files reliable input failed relations paths e

-- these are the plans of the paths, over the relations of the catalog
pub record ArePlansAt (files : List ℕ → Stored) (input : Option (List ℕ)) (paths : ManyPaths) (relations : List Relation) (ns : List NamedPlan) : Type 0 where
  pub declares : read_from (known_at files input paths.catalog) catalog_text (λ r. r ≡ Ok relations)
  pub named : paths_of ns ≡ paths.plans
  pub accepted : AreAccepted files (input_after input paths.catalog) relations ns

-- one of the plans scans the relation with this number
abbrev pub any_scans : List NamedPlan → ℕ → Bool
any_scans ns i = list_any (λ n. scans (plan_in n.plan.root) i) ns

-- a database of the relations with the rows that the tables have of each that one of the plans scans, the others empty
pub record IsLoadedFor (relations : List Relation) (ns : List NamedPlan) (holds : Holding) (all : Database) : Type 0 where
  pub same : all.catalog ≡ relations
  pub filled : IsFilledBy (any_scans ns) holds all

-- the share of one plan: a database for it, with the same rows of what it scans
pub record IsShareFor (p : TypedPlanView) (holds : Holding) (all db : Database) : Type 0 where
  pub own : IsDatabaseFor p holds db
  pub same : (i : ℕ) → scans (plan_in p.root) i ≡ true → rows_at db i ≡ rows_at all i

-- the text answers a run of this plan over its share: as a run of it alone over the tables
abbrev pub IsRunIn : Layout → Database → Holding → Setting → TypedPlanView → List ℕ → Type 0
IsRunIn layout all holds setting p text = (db : Database) × IsShareFor p holds all db × IsRunOver layout p db setting text

-- why a run of this plan over its share gives no text
abbrev pub RunRefusesIn : Database → Holding → Setting → TypedPlanView → Refusal → Type 0
RunRefusesIn all holds setting p e = (db : Database) × IsShareFor p holds all db × RunRefuses p db setting e

-- the line before the answer of the plan from this path
abbrev pub title : List ℕ → List ℕ
title path = codes "# " ++ (path ++ codes "\n")

-- the text is that of answers to these plans in order, each behind the line with its path
abbrev pub AreAnswers : (TypedPlanView → List ℕ → Type 0) → List NamedPlan → List ℕ → Type 0
AreAnswers Answers [] text = text ≡ []
AreAnswers Answers (n ∷ ns) text = (own : List ℕ) × (rest : List ℕ) × Answers n.plan own × AreAnswers Answers ns rest × (text ≡ title n.path ++ (own ++ rest))

-- the first of the plans that is refused, and the text of the answers before it
pub record StopsAt (Answers : TypedPlanView → List ℕ → Type 0) (Refuses : TypedPlanView → Refusal → Type 0) (ns : List NamedPlan) (text : List ℕ) (e : Refusal) : Type 0 where
  pub before : List NamedPlan
  pub stopped : NamedPlan
  pub rest : List NamedPlan
  pub split : ns ≡ before ++ stopped ∷ rest
  pub answered : AreAnswers Answers before text
  pub refused : Refuses stopped.plan e

-- the text is that of runs of all plans of these paths, over one database
abbrev pub AnswersPlans : Layout → (List ℕ → Stored) → Option (List ℕ) → ManyPaths → List ℕ → Setting → List ℕ → Type 0
AnswersPlans layout files input paths folder setting text =
    (relations : List Relation) × (ns : List NamedPlan) × (all : Database) × ArePlansAt files input paths relations ns × IsLoadedFor relations ns (holds_at files folder) all
    × AreAnswers (IsRunIn layout all (holds_at files folder) setting) ns text

-- the run of one of the plans gives no text, and the text is that of the runs before it
abbrev pub PlansStop : Layout → (List ℕ → Stored) → Option (List ℕ) → ManyPaths → List ℕ → Setting → List ℕ → Refusal → Type 0
PlansStop layout files input paths folder setting text e =
    (relations : List Relation) × (ns : List NamedPlan) × (all : Database) × ArePlansAt files input paths relations ns × IsLoadedFor relations ns (holds_at files folder) all
    × StopsAt (IsRunIn layout all (holds_at files folder) setting) (RunRefusesIn all (holds_at files folder) setting) ns text e

-- the first reason why no plan of these paths runs: the catalog, the plans in order, the tables; out of memory may come anywhere
pub data PlansRefuse (files : List ℕ → Stored) (reliable : List ℕ → Bool) (input : Option (List ℕ)) (failed : Bool) (paths : ManyPaths) (folder : List ℕ) (e : Refusal) : Type 0 where
  plans_memory : e ≡ refusal.NoMemory → PlansRefuse files reliable input failed paths folder e
  for_reading : IsNoCatalog files reliable input failed paths.catalog e → PlansRefuse files reliable input failed paths folder e
  for_plans : (relations : List Relation) → read_from (known_at files input paths.catalog) catalog_text (λ r. r ≡ Ok relations)
      → AreNotAccepted files reliable (input_after input paths.catalog) failed relations paths.plans e → PlansRefuse files reliable input failed paths folder e
  for_loading : (relations : List Relation) (ns : List NamedPlan) → ArePlansAt files input paths relations ns
      → IsFirstMissingOf (any_scans ns) (holds_at files folder) (LacksAt files reliable folder) relations e → PlansRefuse files reliable input failed paths folder e
