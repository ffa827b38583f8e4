-- Catalogs: lists of relations with names of their own, within the limits.
use Rattle.std.specs.Prelude.{◌≡◌, ℕ, ◌==◌, nat_lt, nat_le, Bool, true, not, ◌&&◌, List, [], ◌∷◌, map, length, slice_index_or, bytes_eq}
use Rattle.std.specs.List.{list_all, list_any}
use Rattle.vx_catalog_relations.specs.Relation.{Relation}
use Rattle.vx_rows_values.specs.Order.{order_columns}
use Rattle.vx_rows_values.specs.Limits.{max_columns, max_keys, max_relations}

-- the relation with this number, counted from 0; past the end one without columns, keys and order
abbrev pub relation_at : List Relation → ℕ → Relation
relation_at catalog r = slice_index_or catalog r (record { name = []; names = []; types = []; keys = []; order = [] })

-- no name stands twice
abbrev pub are_distinct_names : List (List ℕ) → Bool
are_distinct_names [] = true
are_distinct_names (x ∷ xs) = not (list_any (bytes_eq x) xs) && are_distinct_names xs

-- no column stands twice
abbrev pub are_distinct : List ℕ → Bool
are_distinct [] = true
are_distinct (x ∷ xs) = not (list_any (λ y. x == y) xs) && are_distinct xs

-- each column is one of the first w
abbrev pub all_below : ℕ → List ℕ → Bool
all_below w cols = list_all (λ c. nat_lt c w) cols

-- a key names one column or more
abbrev pub is_key_of : ℕ → List ℕ → Bool
is_key_of w key = nat_lt 0 (length key) && (all_below w key && are_distinct key)

abbrev pub is_named : List ℕ → Bool
is_named name = nat_lt 0 (length name)

-- at least one column, each with a name and a type; columns and keys within their limits
pub record IsRelation (r : Relation) : Type 0 where
  pub named : is_named r.name ≡ true
  pub columns : (nat_lt 0 (length r.names) && nat_le (length r.names) max_columns) ≡ true
  pub typed : length r.types ≡ length r.names
  pub columns_named : list_all is_named r.names ≡ true
  pub distinct : are_distinct_names r.names ≡ true
  pub few_keys : nat_le (length r.keys) max_keys ≡ true
  pub keys : list_all (is_key_of (length r.names)) r.keys ≡ true
  pub order : (all_below (length r.names) (order_columns r.order) && are_distinct (order_columns r.order)) ≡ true

-- not too many relations, with distinct names
pub record IsCatalog (catalog : List Relation) : Type 0 where
  pub few : nat_le (length catalog) max_relations ≡ true
  pub distinct : are_distinct_names (map (λ r. r.name) catalog) ≡ true
  pub each : (i : ℕ) → nat_lt i (length catalog) ≡ true → IsRelation (relation_at catalog i)
