-- The rows of relations, from the files of a folder: the text of a relation NAME is in FOLDER/NAME.csv. A name that leads out of the folder has no file.
use Rattle.std.specs.Prelude.{◌≡◌, ◌≢◌, ℕ, ◌==◌, List, Bool, true, false, Ok, bytes_eq, codes, String, string_bytes}
use Rattle.std.specs.List.{list_any, slice_split}
use Rattle.std.specs.declared.alloc.Global.{Global}
use Rattle.vx_rows_values.specs.Values.{Row}
use Rattle.vx_catalog_relations.specs.Relation.{Relation}
use Rattle.vx_catalog.specs.Folder.{path_in}
use Rattle.vx_catalog.specs.Loading.{load_of, Fails}
use Rattle.vx_catalog.specs.declared.fault.LoadFault.{LoadFault}
use Rattle.vx_catalog.specs.declared.fault.LoadFault.TheVariants as load
use Rattle.volcano_refusals.specs.declared.refusal.Refusal.{Refusal}
use Rattle.volcano_refusals.specs.declared.refusal.Refusal.TheVariants as refusal
use Rattle.vx_catalog_bytes.specs.Stored.{Stored, IfBytes, MayBeAbsent, MayBePresent}

-- a part of the name between slashes is `..`, so that its file may lie outside the folder
abbrev pub leads_out : List ℕ → Bool
leads_out name = list_any (λ part. bytes_eq part (codes "..")) (slice_split (λ c. c == 47) name)

-- the files have these rows of a relation, as far as their store says: not where it has no such file, nor where its name leads out of the folder
abbrev pub holds_at : (List ℕ → Stored) → List ℕ → Relation → List Row → Type 0
holds_at files folder relation rows = (leads_out relation.name ≡ false) × IfBytes (files (path_in folder relation.name)) (λ bytes. load_of relation bytes ≡ Ok rows)

-- why the files have no rows of a relation: its name leads out of the folder; its file is not there, reading one that is there failed, which no file does whose path is reliable, or its text does not hold them
pub data LacksAt (files : List ℕ → Stored) (reliable : List ℕ → Bool) (folder : List ℕ) (relation : Relation) (e : Refusal) : Type 0 where
  for_memory : e ≡ refusal.NoMemory → LacksAt files reliable folder relation e
  for_outside : (path : String Global) → e ≡ refusal.FileUnreadable path → string_bytes path ≡ path_in folder relation.name → leads_out relation.name ≡ true → LacksAt files reliable folder relation e
  for_path : (path : String Global) → e ≡ refusal.FileUnreadable path → string_bytes path ≡ path_in folder relation.name → leads_out relation.name ≡ false → MayBeAbsent (files (path_in folder relation.name))
      → LacksAt files reliable folder relation e
  for_reading : e ≡ refusal.Load load.ReadFailed → leads_out relation.name ≡ false → reliable (path_in folder relation.name) ≡ false → MayBePresent (files (path_in folder relation.name))
      → LacksAt files reliable folder relation e
  for_text : (fault : LoadFault) → e ≡ refusal.Load fault → fault ≢ load.ReadFailed → leads_out relation.name ≡ false → IfBytes (files (path_in folder relation.name)) (λ bytes. Fails fault (load_of relation bytes))
      → LacksAt files reliable folder relation e
