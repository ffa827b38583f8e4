-- A catalog and a plan from files and standard input, and why there is no plan. `files` is what the store says of the file at a path, and `input` has the bytes that standard input has left, where they are known. `reliable` says of a path that reading its file cannot fail, as far as the store says, and `failed` whether standard input failed.
use Rattle.std.specs.Prelude.{◌≡◌, ℕ, ◌<◌, ◌⊎◌, List, [], length, Bool, true, false, Option, Some, Result, Ok, bytes_eq, codes, if◌then◌else◌, String, string_bytes}
use Rattle.std.specs.declared.alloc.Global.{Global}
use Rattle.vx_catalog_relations.specs.Relation.{Relation}
use Rattle.vx_catalog_relations.specs.Naming.{catalog_text}
use Rattle.vx_catalog_relations.specs.Naming as catalog
use Rattle.vx_catalog_relations.specs.declared.fault.CatalogFault.{CatalogFault}
use Rattle.vx_plan_json.specs.Document.{Document}
use Rattle.vx_plan_json.specs.Fault as plan
use Rattle.vx_plan_json.specs.declared.fault.PlanFault.{PlanFault}
use Rattle.vx_plan_json.specs.Reading.{document_of_text}
use Rattle.vx_plan_nodes.specs.Names.{TypedPlanView}
use Rattle.volcano_arguments.specs.Asked.{Paths}
use Rattle.vx_catalog_bytes.specs.Ports.{IsOver}
use Rattle.vx_catalog_bytes.specs.Stored.{Stored, stored_by, IfBytes, MayBeAbsent}
use Rattle.volcano_refusals.specs.declared.refusal.Refusal.{Refusal}
use Rattle.volcano_refusals.specs.declared.refusal.Refusal.TheVariants as refusal
use Rattle.volcano_answer.specs.Planning.{Reading, read_from, IsPlanned, IsPlanRefusal}
use Rattle.vx_rows_values.specs.Limits.{max_text_bytes}

-- the path of standard input
abbrev pub is_input : List ℕ → Bool
is_input path = bytes_eq path (codes "-")

-- what is known of the bytes under a path
abbrev pub known_at : (List ℕ → Stored) → Option (List ℕ) → List ℕ → Stored
known_at files input path = if is_input path then stored_by input else files path

-- what standard input has left: an input that was read to its end has nothing left
abbrev pub left_of : Bool → Option (List ℕ) → Option (List ℕ)
left_of was_read input = if was_read then Some [] else input

-- and so once the bytes under a path were read
abbrev pub input_after : Option (List ℕ) → List ℕ → Option (List ℕ)
input_after input path = left_of (is_input path) input

-- the catalog that was read from its path
abbrev pub catalog_at : (List ℕ → Stored) → Option (List ℕ) → Paths → Reading (Result (List Relation) catalog.Refusal)
catalog_at files input paths = read_from (known_at files input paths.catalog) catalog_text

-- the plan that was read from its path, after the catalog
abbrev pub plan_at : (List ℕ → Stored) → Option (List ℕ) → Paths → Reading (Result Document plan.Refusal)
plan_at files input paths = read_from (known_at files (input_after input paths.catalog) paths.plan) document_of_text

-- the plan from these paths
abbrev pub IsFilesPlan : (List ℕ → Stored) → Option (List ℕ) → Paths → TypedPlanView → Type 0
IsFilesPlan files input paths p = IsPlanned (catalog_at files input paths) (plan_at files input paths) p

-- a reader failed, or had too many bytes, as far as its bytes are known
abbrev pub IsUnread : Option (List ℕ) → Bool → Type 0
IsUnread known failed = (failed ≡ true) ⊎ IsOver max_text_bytes known

-- why a file is unreadable: it is not there, reading it may fail, or it is too long
abbrev pub IsUnreadable : Stored → Bool → Type 0
IsUnreadable file reliable = MayBeAbsent file ⊎ (reliable ≡ false) ⊎ IfBytes file (λ bytes. max_text_bytes < length bytes)

-- why a file has no bytes: it is unreadable, or memory ran out
pub data IsFileRefusal (file : Stored) (reliable : Bool) (path : List ℕ) (e : Refusal) : Type 0 where
  file_memory : e ≡ refusal.NoMemory → IsFileRefusal file reliable path e
  for_file : (name : String Global) → e ≡ refusal.FileUnreadable name → string_bytes name ≡ path → IsUnreadable file reliable → IsFileRefusal file reliable path e

-- why standard input has none: it failed or is too long, or memory ran out
pub data IsInputRefusal (input : Option (List ℕ)) (failed : Bool) (e : Refusal) : Type 0 where
  input_memory : e ≡ refusal.NoMemory → IsInputRefusal input failed e
  for_input : e ≡ refusal.InputUnreadable → IsUnread input failed → IsInputRefusal input failed e

-- of standard input, or of the file under a path
abbrev pub read_refusal_of : (is_input : Bool) → (file : Stored) → (reliable : Bool) → (input : Option (List ℕ)) → (failed : Bool) → (path : List ℕ) → Refusal → Type 0
read_refusal_of true file reliable input failed path e = IsInputRefusal input failed e
read_refusal_of false file reliable input failed path e = IsFileRefusal file reliable path e

-- why the bytes under a path were not read
abbrev pub IsReadRefusal : (List ℕ → Stored) → (List ℕ → Bool) → Option (List ℕ) → Bool → List ℕ → Refusal → Type 0
IsReadRefusal files reliable input failed path e = read_refusal_of (is_input path) (files path) (reliable path) input failed path e

-- the catalog and the plan from these paths, as they were written
pub record AreRead (files : List ℕ → Stored) (input : Option (List ℕ)) (paths : Paths) (relations : List Relation) (d : Document) : Type 0 where
  pub catalog : catalog_at files input paths (λ r. r ≡ Ok relations)
  pub plan : plan_at files input paths (λ r. r ≡ Ok d)

-- the first reason why they were not read: the catalog's bytes, the catalog, the plan's bytes, the plan
pub data AreNotRead (files : List ℕ → Stored) (reliable : List ℕ → Bool) (input : Option (List ℕ)) (failed : Bool) (paths : Paths) (e : Refusal) : Type 0 where
  no_catalog_bytes : IsReadRefusal files reliable input failed paths.catalog e → AreNotRead files reliable input failed paths e
  no_catalog : (fault : CatalogFault) → e ≡ refusal.Catalog fault → catalog_at files input paths (catalog.Fails fault) → AreNotRead files reliable input failed paths e
  no_plan_bytes : (relations : List Relation) → catalog_at files input paths (λ r. r ≡ Ok relations) → IsReadRefusal files reliable (input_after input paths.catalog) failed paths.plan e
      → AreNotRead files reliable input failed paths e
  no_plan : (relations : List Relation) (fault : PlanFault) → e ≡ refusal.Plan fault → catalog_at files input paths (λ r. r ≡ Ok relations) → plan_at files input paths (plan.Fails fault)
      → AreNotRead files reliable input failed paths e

-- the first reason why there is no plan: the catalog's bytes, the catalog, the plan's bytes, the plan
pub data IsFilesRefusal (files : List ℕ → Stored) (reliable : List ℕ → Bool) (input : Option (List ℕ)) (failed : Bool) (paths : Paths) (e : Refusal) : Type 0 where
  for_catalog_bytes : IsReadRefusal files reliable input failed paths.catalog e → IsFilesRefusal files reliable input failed paths e
  for_plan_bytes : (relations : List Relation) → catalog_at files input paths (λ r. r ≡ Ok relations) → IsReadRefusal files reliable (input_after input paths.catalog) failed paths.plan e
      → IsFilesRefusal files reliable input failed paths e
  for_contents : IsPlanRefusal (catalog_at files input paths) (plan_at files input paths) e → IsFilesRefusal files reliable input failed paths e
