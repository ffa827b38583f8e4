-- The catalog that is found in files, and why there is none. `files` is what the store says of the file at a path, and `reliable` whether reading it cannot fail.
use Rattle.std.specs.Prelude.{◌≡◌, ◌≢◌, ◌⊎◌, ℕ, ◌<◌, ◌==◌, ◌++◌, List, [], length, slice_index_or, Bool, false, codes}
use Rattle.std.specs.List.{list_any}
use Rattle.vx_catalog_relations.specs.Relation.{Relation}
use Rattle.vx_catalog_bytes.specs.Stored.{Stored, IfBytes}
use Rattle.vx_catalog_finding.specs.Finding.{NamedText, IsFoundCatalog, IsNotFound}
use Rattle.vx_catalog_finding.specs.declared.fault.FindFault.{FindFault}
use Rattle.vx_catalog_finding.specs.declared.fault.FindFault.TheVariants as fault
use Rattle.volcano_refusals.specs.declared.refusal.Refusal.{Refusal}
use Rattle.volcano_refusals.specs.declared.refusal.Refusal.TheVariants as refusal
use Rattle.volcano_answer.specs.Files.{IsFileRefusal}

-- what may stand before the name of a file: nothing, or a folder and a slash
abbrev pub IsFront : List ℕ → Type 0
IsFront front = (front ≡ []) ⊎ ((folder : List ℕ) × (front ≡ folder ++ codes "/"))

-- the path is that of NAME.csv, in a folder or in none
pub record IsTablePath (path name : List ℕ) : Type 0 where
  pub front : List ℕ
  pub is_front : IsFront front
  pub is : path ≡ front ++ name ++ codes ".csv"
  pub alone : list_any (λ c. c == 47) name ≡ false

-- the path of no table: it does not end in .csv
abbrev pub IsNoTablePath : List ℕ → Type 0
IsNoTablePath path = (front : List ℕ) → path ≢ front ++ codes ".csv"

-- one of these paths is that of no table
abbrev pub IsWrongPath : List (List ℕ) → List ℕ → Type 0
IsWrongPath paths path = (i : ℕ) × (i < length paths) × (path ≡ slice_index_or paths i []) × IsNoTablePath path

-- the bytes of the file at a path, under the name of its relation
pub record IsTextAt (files : List ℕ → Stored) (path : List ℕ) (t : NamedText) : Type 0 where
  pub named : IsTablePath path t.name
  pub bytes : IfBytes (files path) (λ bytes. bytes ≡ t.text)

-- the same of each path
pub record AreTextsAt (files : List ℕ → Stored) (paths : List (List ℕ)) (texts : List NamedText) : Type 0 where
  pub many : length texts ≡ length paths
  pub each : (i : ℕ) → i < length paths → IsTextAt files (slice_index_or paths i []) (slice_index_or texts i (record { name = []; text = [] }))

-- the text is that of the catalog that is found in the files at these paths
abbrev pub AnswersCatalog : (List ℕ → Stored) → List (List ℕ) → List ℕ → Type 0
AnswersCatalog files paths text = (texts : List NamedText) × (relations : List Relation) × AreTextsAt files paths texts × IsFoundCatalog texts relations text

-- the refusal that a fault is to the program
abbrev pub refusal_of : FindFault → Refusal
refusal_of (fault.Load i f) = refusal.Load f
refusal_of (fault.Catalog f) = refusal.Catalog f
refusal_of fault.NoMemory = refusal.NoMemory

-- why there is none: a file has no bytes, or no catalog is found in the bytes of the files; out of memory may come anywhere
pub data CatalogIsRefused (files : List ℕ → Stored) (reliable : List ℕ → Bool) (paths : List (List ℕ)) (e : Refusal) : Type 0 where
  catalog_memory : e ≡ refusal.NoMemory → CatalogIsRefused files reliable paths e
  for_path : (i : ℕ) → i < length paths → IsFileRefusal (files (slice_index_or paths i [])) (reliable (slice_index_or paths i [])) (slice_index_or paths i []) e
      → CatalogIsRefused files reliable paths e
  for_texts : (texts : List NamedText) (f : FindFault) → AreTextsAt files paths texts → e ≡ refusal_of f → IsNotFound texts f
      → CatalogIsRefused files reliable paths e
