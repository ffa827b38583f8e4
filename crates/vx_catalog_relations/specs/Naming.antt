-- A catalog with columns by position, or the first reason why a value is not one.
use Rattle.std.specs.Prelude.{◌≡◌, ◌↔◌, ℕ, ◌==◌, nat_le, ◌&&◌, Bool, List, [], ◌∷◌, map, length, position, bytes_eq, string_bytes, slice_index_or, Option, Some, None, Result, Ok, Err, if◌then◌else◌}
use Rattle.std.specs.List.{list_all, list_any}
use Rattle.std.specs.Str.{is_utf8}
use Rattle.serde_json.specs.Data.{Data}
use Rattle.serde_json.specs.Read.{read as read_text}
use Rattle.vx_rows_values.specs.declared.value.ColType.{ColType}
use Rattle.vx_rows_values.specs.declared.order.OrderEntry.{OrderEntry}
use Rattle.vx_rows_values.specs.Order.{in_directions}
use Rattle.vx_catalog_relations.specs.Relation.{Relation}
use Rattle.vx_catalog_relations.specs.Catalog.{IsCatalog}
use Rattle.vx_catalog_relations.specs.Walk.{◌>>=◌, walk_onto}
use Rattle.vx_catalog_relations.specs.Form.{ColumnText, RelationText, catalog_in}
use Rattle.vx_catalog_json.specs.Look.{OrderText}
use Rattle.vx_catalog_json.specs.declared.misread.Misread.{Misread}
use Rattle.vx_catalog_json.specs.declared.misread.Misread.TheVariants as misread
use Rattle.vx_catalog_relations.specs.declared.fault.CatalogFault.{CatalogFault}
use Rattle.vx_catalog_relations.specs.declared.fault.CatalogFault.TheVariants as fault
use Rattle.vx_rows_values.specs.Limits.{max_columns, max_keys, max_relations}

pub data Refusal : Type 0 where
  bad_catalog : Refusal
  too_large : Refusal
  duplicate_name : List ℕ → Refusal
  unknown_column : List ℕ → Refusal

-- why a catalog that was not read is refused
abbrev pub fault_of : Misread → CatalogFault
fault_of misread.NotOfForm = fault.BadCatalog
fault_of misread.NoMemory = fault.NoMemory

-- a call fails with the error that reading has, or ran out of memory
abbrev pub Fails : {Y : Type 0} → CatalogFault → Result Y Refusal → Type 0
Fails fault.NoMemory read = Unit {0}
Fails fault.BadCatalog read = read ≡ Err bad_catalog
Fails fault.TooLarge read = read ≡ Err too_large
Fails (fault.DuplicateName name) read = read ≡ Err (duplicate_name (string_bytes name))
Fails (fault.UnknownColumn name) read = read ≡ Err (unknown_column (string_bytes name))

-- what a call returned, seen by `look`, is what reading has, unless it ran out of memory
abbrev pub Gives : {X Y : Type 0} → (X → Y) → Result X CatalogFault → Result Y Refusal → Type 0
Gives look (Ok x) read = read ≡ Ok (look x)
Gives look (Err e) read = Fails e read

-- a name that differs from each before it
unfoldable pub name_once : List (List ℕ) → List ℕ → Result (List ℕ) Refusal
name_once prior name = if list_any (λ y. bytes_eq y name) prior then Err (duplicate_name name) else Ok name

-- the names, where none stands twice
abbrev pub names_of : List (List ℕ) → Result (List (List ℕ)) Refusal
names_of names = walk_onto name_once [] names

abbrev pub column_once : List ℕ → List ℕ → Option ℕ → Result ℕ Refusal
column_once prior name None = Err (unknown_column name)
column_once prior name (Some c) = if list_any (λ y. y == c) prior then Err (duplicate_name name) else Ok c

-- the column of this name, which differs from each before it
unfoldable pub column_of : List (List ℕ) → List ℕ → List ℕ → Result ℕ Refusal
column_of names prior name = column_once prior name (position (bytes_eq name) names)

-- the columns of these names, where none stands twice
abbrev pub columns_of : List (List ℕ) → List (List ℕ) → Result (List ℕ) Refusal
columns_of names list = walk_onto (column_of names) [] list

-- the columns of each key
abbrev pub keys_of : List (List (List ℕ)) → List (List ℕ) → Result (List (List ℕ)) Refusal
keys_of keys names = walk_onto (λ prior key. columns_of names key) [] keys

-- the columns of an order, where none stands twice, each in its direction
abbrev pub order_of : List (List ℕ) → List OrderText → Result (List OrderEntry) Refusal
order_of names order = columns_of names (map (λ e. e.name) order) >>= λ columns. Ok (in_directions columns (map (λ e. e.falling) order))

-- a relation's columns, then its keys, then its order
unfoldable pub relation_of : RelationText → Result Relation Refusal
relation_of t =
    names_of (map (λ c. c.name) t.columns) >>= λ names. keys_of t.keys names >>= λ keys. order_of names t.order >>= λ order.
    Ok (record { name = t.name; names = names; types = map (λ c. c.kind) t.columns; keys = keys; order = order })

-- a relation whose name no earlier one has
unfoldable pub relation_after : List Relation → RelationText → Result Relation Refusal
relation_after prior t = if list_any (λ r. bytes_eq r.name t.name) prior then Err (duplicate_name t.name) else relation_of t

-- columns and keys within their limits
abbrev pub is_small : RelationText → Bool
is_small t = nat_le (length t.columns) max_columns && nat_le (length t.keys) max_keys

-- not too many relations, each within its limits
abbrev pub is_within_limits : List RelationText → Bool
is_within_limits ts = nat_le (length ts) max_relations && list_all is_small ts

abbrev pub named : Option (List RelationText) → Result (List Relation) Refusal
named None = Err bad_catalog
named (Some ts) = if is_within_limits ts then walk_onto relation_after [] ts else Err too_large

-- the relations that a value declares, or the first reason why it declares none: its form, the limits, then relation by relation
unfoldable pub catalog_of : Data → Result (List Relation) Refusal
catalog_of d = named (catalog_in d)

abbrev pub some_catalog : Option Data → Result (List Relation) Refusal
some_catalog None = Err bad_catalog
some_catalog (Some d) = catalog_of d

-- the relations that a text declares, or the first reason why it declares none: it is JSON in UTF-8, then as above
unfoldable pub catalog_text : List ℕ → Result (List Relation) Refusal
catalog_text bytes = if is_utf8 bytes then some_catalog (read_text bytes) else Err bad_catalog

abbrev pub columns_text : List (List ℕ) → List ColType → List ColumnText
columns_text [] kinds = []
columns_text (name ∷ names) [] = []
columns_text (name ∷ names) (kind ∷ kinds) = record { name = name; kind = kind } ∷ columns_text names kinds

abbrev pub name_at : List (List ℕ) → ℕ → List ℕ
name_at names c = slice_index_or names c []

-- an order with its columns by name
abbrev pub order_text : List (List ℕ) → List OrderEntry → List OrderText
order_text names order = map (λ e. record { name = name_at names e.column; falling = e.falling }) order

-- a relation with its columns by name
abbrev pub text_of : Relation → RelationText
text_of r = record { name = r.name; columns = columns_text r.names r.types; keys = map (λ key. map (name_at r.names) key) r.keys; order = order_text r.names r.order }

-- a value has the form of a catalog, and says this of it
abbrev pub States : Data → List Relation → Type 0
States d catalog = catalog_in d ≡ Some (map text_of catalog)

-- a value is read as these relations exactly where they are a catalog and the value says them
pub record CatalogLaw : Type 0 where
  pub read : (d : Data) (catalog : List Relation) → (catalog_of d ≡ Ok catalog) ↔ (IsCatalog catalog × States d catalog)
