-- The text of a catalog, laid out for people: a line for each of a relation's members.
use Rattle.std.specs.Prelude.{ℕ, List, [], ◌∷◌, ◌++◌, map, codes, if◌then◌else◌}
use Rattle.std.specs.List.{join_by}
use Rattle.serde_json.specs.Data.{string}
use Rattle.serde_json.specs.Written.{compact_text}
use Rattle.vx_rows_values.specs.declared.value.ColType.{ColType}
use Rattle.vx_rows_values.specs.declared.value.ColType.TheVariants as kind
use Rattle.vx_rows_values.specs.declared.order.OrderEntry.{OrderEntry}
use Rattle.vx_catalog_relations.specs.Relation.{Relation}
use Rattle.vx_catalog_relations.specs.Naming.{name_at}

-- a text as JSON writes it
unfoldable pub quoted : List ℕ → List ℕ
quoted text = compact_text (string text)

-- these texts with the separator between them
abbrev pub joined : (separator : List ℕ) → List (List ℕ) → List ℕ
joined separator parts = join_by (λ part. part) separator parts

-- a list of these items
abbrev pub listed : List (List ℕ) → List ℕ
listed items = codes "[" ++ joined (codes ", ") items ++ codes "]"

abbrev pub type_text : ColType → List ℕ
type_text kind.Int = codes "\"int\"}"
type_text kind.Text = codes "\"text\"}"

abbrev pub column_text : List ℕ → ColType → List ℕ
column_text name kind = codes "{\"name\": " ++ quoted name ++ codes ", \"type\": " ++ type_text kind

-- the columns of these names and types
abbrev pub column_texts : List (List ℕ) → List ColType → List (List ℕ)
column_texts (name ∷ names) (kind ∷ kinds) = column_text name kind ∷ column_texts names kinds
column_texts _ _ = []

-- a key, by the names of its columns
abbrev pub key_text : List (List ℕ) → List ℕ → List ℕ
key_text names key = listed (map (λ c. quoted (name_at names c)) key)

-- an entry of an order: the name of a column that rises, and an object for one that falls
abbrev pub entry_text : List (List ℕ) → OrderEntry → List ℕ
entry_text names e =
    if e.falling then codes "{\"column\": " ++ quoted (name_at names e.column) ++ codes ", \"desc\": true}" else quoted (name_at names e.column)

abbrev pub relation_text : Relation → List ℕ
relation_text r =
    codes " {\"name\": " ++ quoted r.name
    ++ codes ",\n  \"columns\": " ++ listed (column_texts r.names r.types)
    ++ codes ",\n  \"keys\": " ++ listed (map (key_text r.names) r.keys)
    ++ codes ",\n  \"order\": " ++ listed (map (entry_text r.names) r.order) ++ codes "}"

-- the text of a catalog of these relations
unfoldable pub laid_out : List Relation → List ℕ
laid_out relations = codes "{\"relations\": [\n" ++ joined (codes ",\n") (map relation_text relations) ++ codes "\n]}\n"
