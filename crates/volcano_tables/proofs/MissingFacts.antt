-- Why the texts of a bundle have no rows of a relation.
use Rattle.std.proofs.Common.{◌≡◌, ℕ, List, Some, None, Result, Err, String, Global, string_bytes, sym, ap, ◌∙◌}
use Rattle.vx_rows_values.specs.Values.{Row}
use Rattle.vx_catalog_relations.specs.Relation.{Relation}
use Rattle.vx_catalog.specs.Loading.{load_of}
use Rattle.vx_catalog.specs.Loading as loading
use Rattle.vx_catalog.specs.declared.fault.LoadFault.{LoadFault}
use Rattle.vx_catalog.specs.declared.fault.LoadFault.TheVariants as load
use Rattle.volcano_bundle.specs.Named.{Named}
use Rattle.volcano_tables.specs.Texts.{no_text, text_of, held_by, rows_from, MissesBy}

-- a relation without a text
pub no_text_found : (relation : Relation) (tables : Named (List ℕ)) (name : List ℕ) (held : String Global) → name ≡ relation.name → string_bytes held ≡ name
    → None ≡ text_of name tables → rows_from relation (text_of relation.name tables) ≡ Err (no_text (string_bytes held))
no_text_found relation tables name held same copied none =
    let text : text_of relation.name tables ≡ None = ap (λ n. text_of n tables) (sym same) ∙ sym none in
    rw text (ap (λ n. Err (no_text n)) (sym same ∙ sym copied))

misses_by : (fault : LoadFault) (rows : Result (List Row) LoadFault) → loading.Fails fault rows → MissesBy fault (held_by rows)
misses_by load.NoMemory rows h = tt
misses_by load.ReadFailed rows h = h
misses_by load.HeaderMismatch rows h = ap held_by h
misses_by (load.BadWidth row) rows h = ap held_by h
misses_by (load.BadInt row col) rows h = ap held_by h
misses_by (load.NotUtf8 row) rows h = ap held_by h
misses_by (load.KeyBroken key first second) rows h = ap held_by h
misses_by (load.OrderBroken row) rows h = ap held_by h
misses_by load.TooLarge rows h = ap held_by h

-- a relation whose text does not hold its rows
pub bad_text_found : (relation : Relation) (tables : Named (List ℕ)) (name text : List ℕ) (fault : LoadFault) → name ≡ relation.name → Some text ≡ text_of name tables
    → loading.Fails fault (load_of relation text) → MissesBy fault (rows_from relation (text_of relation.name tables))
bad_text_found relation tables name text fault same found fails =
    let there : text_of relation.name tables ≡ Some text = ap (λ n. text_of n tables) (sym same) ∙ sym found in
    rw there (misses_by fault (load_of relation text) fails)
