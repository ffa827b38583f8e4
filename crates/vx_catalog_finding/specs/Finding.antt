-- The catalog that is found in texts, and why there is none.
use Rattle.std.specs.Prelude.{◌≡◌, ◌≢◌, ◌⊎◌, ℕ, ◌<◌, List, [], ◌∷◌, map, length, slice_index_or, Result, Ok}
use Rattle.vx_rows_values.specs.Values.{Row}
use Rattle.vx_catalog_relations.specs.Relation.{Relation, Meets}
use Rattle.vx_catalog_relations.specs.Catalog.{relation_at}
use Rattle.vx_catalog_relations.specs.Naming.{catalog_text}
use Rattle.vx_catalog_relations.specs.Naming as catalog
use Rattle.vx_catalog_relations.specs.declared.fault.CatalogFault.{CatalogFault}
use Rattle.vx_catalog_relations.specs.declared.fault.CatalogFault.TheVariants as no_catalog
use Rattle.vx_catalog.specs.Loading.{load_of}
use Rattle.vx_catalog.specs.Loading as loading
use Rattle.vx_catalog.specs.declared.fault.LoadFault.{LoadFault}
use Rattle.vx_catalog_finding.specs.Found.{found, in_header}
use Rattle.vx_catalog_finding.specs.Layout.{laid_out}
use Rattle.vx_catalog_finding.specs.declared.catalog.NamedText as held
use Rattle.vx_catalog_finding.specs.declared.fault.FindFault.{FindFault}
use Rattle.vx_catalog_finding.specs.declared.fault.FindFault.TheVariants as fault

-- a relation's name and its text
pub record NamedText : Type 0 where
  pub name : List ℕ
  pub text : List ℕ

-- what a text of the program stands for
abbrev pub text_of : held.NamedText → NamedText
text_of t = record { name = t.name.now; text = t.text.items }

-- the text with this number, counted from 0
abbrev pub text_at : List NamedText → ℕ → List ℕ
text_at texts i = (slice_index_or texts i (record { name = []; text = [] })).text

-- what is found in each text
abbrev pub all_found : List NamedText → List (Result Relation LoadFault)
all_found texts = map (λ t. found t.name t.text) texts

-- the text loads as the relation, and its rows meet all that the relation declares
abbrev pub Loads : Relation → List ℕ → Type 0
Loads relation text = (rows : List Row) × (load_of relation text ≡ Ok rows) × Meets relation rows

-- the catalog has the relation that is found in each text, each text loads as its relation, and this is how the catalog is written and read again
pub record IsFoundCatalog (texts : List NamedText) (relations : List Relation) (written : List ℕ) : Type 0 where
  pub found : all_found texts ≡ map Ok relations
  pub loads : (i : ℕ) → i < length texts → Loads (relation_at relations i) (text_at texts i)
  pub is_written : written ≡ laid_out relations
  pub reads_back : catalog_text written ≡ Ok relations

-- why relations are no catalog: their text is refused as one, or is the text of others
abbrev pub AreNoCatalog : List Relation → CatalogFault → Type 0
AreNoCatalog relations e =
    catalog.Fails e (catalog_text (laid_out relations))
    ⊎ ((e ≡ no_catalog.BadCatalog) × (others : List Relation) × (others ≢ relations) × (catalog_text (laid_out relations) ≡ Ok others))

-- why a text with this name has no relation whose rows it loads
abbrev pub IsNoText : NamedText → LoadFault → Type 0
IsNoText t e = loading.Fails e (found t.name t.text) ⊎ ((relation : Relation) × (found t.name t.text ≡ Ok relation) × loading.Fails e (load_of relation t.text))

-- why no catalog is found: the text with this number is not one of a relation, or the relations are no catalog; or memory ran out
pub data IsNotFound (texts : List NamedText) (e : FindFault) : Type 0 where
  no_memory : e ≡ fault.NoMemory → IsNotFound texts e
  for_text : (i : ℕ) (f : LoadFault) → e ≡ fault.Load i f → i < length texts
      → IsNoText (slice_index_or texts i (record { name = []; text = [] })) f → IsNotFound texts e
  for_relations : (relations : List Relation) (f : CatalogFault) → e ≡ fault.Catalog f → all_found texts ≡ map Ok relations
      → AreNoCatalog relations f → IsNotFound texts e

-- the relations are the one with the columns in the header of this text
abbrev pub IsHeaderCatalog : NamedText → List Relation → Type 0
IsHeaderCatalog t relations = (relation : Relation) × (in_header t.name t.text ≡ Ok relation) × (relations ≡ relation ∷ [])

-- why there is no such catalog: the text has no header, or the relation makes no catalog; or memory ran out
pub data IsNoHeader (t : NamedText) (e : FindFault) : Type 0 where
  header_memory : e ≡ fault.NoMemory → IsNoHeader t e
  for_header : (f : LoadFault) → e ≡ fault.Load 0 f → loading.Fails f (in_header t.name t.text) → IsNoHeader t e
  for_relation : (relation : Relation) (f : CatalogFault) → e ≡ fault.Catalog f → in_header t.name t.text ≡ Ok relation
      → AreNoCatalog (relation ∷ []) f → IsNoHeader t e
