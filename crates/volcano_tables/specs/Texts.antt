-- The rows of relations, from texts under their names.
use Rattle.std.specs.Prelude.{◌≡◌, ℕ, List, Option, Some, None, option_map, bytes_eq, string_bytes, String, Result, Ok, Err}
use Rattle.std.specs.List.{find}
use Rattle.std.specs.declared.alloc.Global.{Global}
use Rattle.vx_rows_values.specs.Values.{Row}
use Rattle.vx_catalog_relations.specs.Relation.{Relation}
use Rattle.vx_catalog.specs.Loading.{load_of}
use Rattle.vx_catalog.specs.declared.fault.LoadFault.{LoadFault}
use Rattle.vx_catalog.specs.declared.fault.LoadFault.TheVariants as load
use Rattle.volcano_refusals.specs.declared.refusal.Refusal.{Refusal}
use Rattle.volcano_refusals.specs.declared.refusal.Refusal.TheVariants as refusal
use Rattle.volcano_bundle.specs.Named.{Named}

-- why the rows of a relation are not there: it has no text, or its text does not hold them
pub data Missing : Type 0 where
  no_text : List ℕ → Missing
  bad_text : LoadFault → Missing

-- the text under a name
abbrev pub text_of : List ℕ → Named (List ℕ) → Option (List ℕ)
text_of name tables = option_map (λ (t : List ℕ × List ℕ). t.1) (find (λ t. bytes_eq t.0 name) tables)

abbrev pub held_by : Result (List Row) LoadFault → Result (List Row) Missing
held_by (Ok rows) = Ok rows
held_by (Err fault) = Err (bad_text fault)

abbrev pub rows_from : Relation → Option (List ℕ) → Result (List Row) Missing
rows_from relation None = Err (no_text relation.name)
rows_from relation (Some text) = held_by (load_of relation text)

-- a fault is why the rows of a text are not there; out of memory may come anywhere, and no reading of bytes fails as a reader does
abbrev pub MissesBy : {Y : Type 0} → LoadFault → Result Y Missing → Type 0
MissesBy load.NoMemory rows = Unit {0}
MissesBy load.ReadFailed rows = ⊥
MissesBy load.HeaderMismatch rows = rows ≡ Err (bad_text load.HeaderMismatch)
MissesBy (load.BadWidth row) rows = rows ≡ Err (bad_text (load.BadWidth row))
MissesBy (load.BadInt row col) rows = rows ≡ Err (bad_text (load.BadInt row col))
MissesBy (load.NotUtf8 row) rows = rows ≡ Err (bad_text (load.NotUtf8 row))
MissesBy (load.KeyBroken key first second) rows = rows ≡ Err (bad_text (load.KeyBroken key first second))
MissesBy (load.OrderBroken row) rows = rows ≡ Err (bad_text (load.OrderBroken row))
MissesBy load.TooLarge rows = rows ≡ Err (bad_text load.TooLarge)

-- a refusal is why rows are not there
pub data Misses {Y : Type 0} (e : Refusal) (rows : Result Y Missing) : Type 0 where
  for_memory : e ≡ refusal.NoMemory → Misses e rows
  for_no_text : (name : String Global) → e ≡ refusal.NoTable name → rows ≡ Err (no_text (string_bytes name)) → Misses e rows
  for_bad_text : (fault : LoadFault) → e ≡ refusal.Load fault → MissesBy fault rows → Misses e rows

-- the texts have these rows of a relation
abbrev pub holds_in : Named (List ℕ) → Relation → List Row → Type 0
holds_in tables relation rows = rows_from relation (text_of relation.name tables) ≡ Ok rows

-- why the texts have no rows of a relation
abbrev pub lacks_in : Named (List ℕ) → Relation → Refusal → Type 0
lacks_in tables relation e = Misses e (rows_from relation (text_of relation.name tables))
