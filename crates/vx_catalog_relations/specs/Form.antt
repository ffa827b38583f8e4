-- The form of a catalog in JSON: a value of the form is read, with columns by their names; any other is `None`.
use Rattle.std.specs.Prelude.{ℕ, List, [], ◌∷◌, Option, Some, None, option_map, option_and_then, bytes_eq, codes, if◌then◌else◌}
use Rattle.serde_json.specs.Data.{Data}
use Rattle.serde_json.specs.Find.{get, as_str}
use Rattle.vx_rows_values.specs.declared.value.ColType.{ColType}
use Rattle.vx_rows_values.specs.declared.value.ColType.TheVariants as kind
use Rattle.vx_catalog_json.specs.Look.{OrderText, as_list, has_only, some_entry, name_in, order_entry_in, each_onto, each_in, or_default}

-- a column as the catalog's text has it
pub record ColumnText : Type 0 where
  pub name : List ℕ
  pub kind : ColType

-- a relation as the catalog's text has it: its keys and its order name columns
pub record RelationText : Type 0 where
  pub name : List ℕ
  pub columns : List ColumnText
  pub keys : List (List (List ℕ))
  pub order : List OrderText

unfoldable pub kind_in : Data → Option ColType
kind_in d = option_and_then (λ s. if bytes_eq s (codes "int") then Some kind.Int else if bytes_eq s (codes "text") then Some kind.Text else None) (as_str d)

unfoldable pub column_in : Data → Option ColumnText
column_in d =
    if has_only (codes "name" ∷ codes "type" ∷ []) d
    then option_and_then (λ n. option_map (λ k. record { name = n; kind = k }) (option_and_then kind_in (get (codes "type") d))) (option_and_then name_in (get (codes "name") d))
    else None

-- a list with at least one entry
abbrev pub entries : Data → Option (List Data)
entries d = option_and_then some_entry (as_list d)

-- one name or more
unfoldable pub key_in : Data → Option (List (List ℕ))
key_in d = option_and_then (each_onto name_in []) (entries d)

-- one column or more
unfoldable pub columns_in : Data → Option (List ColumnText)
columns_in d = option_and_then (each_onto column_in []) (entries d)

-- none where the member is left out
abbrev pub keys_or : Option Data → Option (List (List (List ℕ)))
keys_or o = or_default [] (each_in key_in) o

-- none where the member is left out
abbrev pub order_or : Option Data → Option (List OrderText)
order_or o = or_default [] (each_in order_entry_in) o

abbrev pub relation_members : List (List ℕ)
relation_members = codes "name" ∷ codes "columns" ∷ codes "keys" ∷ codes "order" ∷ []

unfoldable pub relation_in : Data → Option RelationText
relation_in d =
    if has_only relation_members d
    then option_and_then (λ n. option_and_then (λ cs. option_and_then (λ ks. option_map (λ o. record { name = n; columns = cs; keys = ks; order = o })
    (order_or (get (codes "order") d))) (keys_or (get (codes "keys") d))) (option_and_then columns_in (get (codes "columns") d))) (option_and_then name_in (get (codes "name") d))
    else None

-- the relations of a catalog
abbrev pub relations_in : Data → Option (List RelationText)
relations_in d = option_and_then (each_onto relation_in []) (as_list d)

unfoldable pub catalog_in : Data → Option (List RelationText)
catalog_in d = if has_only (codes "relations" ∷ []) d then option_and_then relations_in (get (codes "relations") d) else None
