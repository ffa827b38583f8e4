-- Looking up names: columns of an input, sizes and ranges of a plan, relations of a catalog.
use Rattle.std.specs.Prelude.{ℕ, List, [], ◌∷◌, ◌++◌, Bool, ◌&&◌, Option, Some, None, Result, Ok, Err, ⊤, map, position, bytes_eq, codes, nat_le, if◌then◌else◌}
use Rattle.std.specs.List.{list_any}
use Rattle.vx_plan_nodes.specs.Plan.{Size, one_worker, group_of}
use Rattle.vx_plan_nodes.specs.Names.{Names}
use Rattle.vx_catalog_json.specs.Look.{OrderText}
use Rattle.vx_rows_values.specs.declared.order.OrderEntry.{OrderEntry}
use Rattle.vx_rows_values.specs.Order.{in_directions}
use Rattle.vx_rows_values.specs.Values.{Name}
use Rattle.vx_plan_json.specs.Fault.{Refusal, unknown_column, duplicate_column, type_mismatch, unknown_range, bad_size, too_wide, ◌>>=◌}
use Rattle.vx_rows_values.specs.Limits.{max_columns}

-- what each gives in turn, after what was found before, or the first refusal
unfoldable pub walk_onto : {A B : Type 0} → (A → Result B Refusal) → List B → List A → Result (List B) Refusal
walk_onto f found [] = Ok found
walk_onto f found (x ∷ xs) = f x >>= λ y. walk_onto f (found ++ y ∷ []) xs

abbrev pub column_or : ℕ → Name → Option ℕ → Result ℕ Refusal
column_or node name None = Err (unknown_column node name)
column_or node name (Some c) = Ok c

-- the position of the column with this name
unfoldable pub find_column : ℕ → List Name → Name → Result ℕ Refusal
find_column node names name = column_or node name (position (bytes_eq name) names)

unfoldable pub find_columns : ℕ → List Name → List Name → Result (List ℕ) Refusal
find_columns node names list = walk_onto (find_column node names) [] list

-- the names in an order
abbrev pub order_names : List OrderText → List Name
order_names order = map (λ e. e.name) order

-- of each of its columns, whether it falls
abbrev pub order_falls : List OrderText → List Bool
order_falls order = map (λ e. e.falling) order

-- the columns of an order, each in its direction
unfoldable pub find_order : ℕ → List Name → List OrderText → Result (List OrderEntry) Refusal
find_order node names order = find_columns node names (order_names order) >>= λ cols. Ok (in_directions cols (order_falls order))

unfoldable pub find_keys : ℕ → List Name → List (List Name) → Result (List (List ℕ)) Refusal
find_keys node names keys = walk_onto (find_columns node names) [] keys

-- each in turn against those before it, or the refusal of the first that is bad
unfoldable pub tested_onto : {X : Type 0} → (List X → X → Bool) → (X → Refusal) → List X → List X → Result ⊤ Refusal
tested_onto is_bad refusal before [] = Ok tt
tested_onto is_bad refusal before (x ∷ xs) = if is_bad before x then Err (refusal x) else tested_onto is_bad refusal (before ++ x ∷ []) xs

abbrev pub is_among : List Name → Name → Bool
is_among before name = list_any (bytes_eq name) before

-- no name twice, or the first that repeats an earlier one
unfoldable pub test_distinct : ℕ → List Name → Result ⊤ Refusal
test_distinct node names = tested_onto is_among (duplicate_column node) [] names

abbrev pub pair_eq : Name × Name → Name × Name → Bool
pair_eq p q = bytes_eq p.0 q.0 && bytes_eq p.1 q.1

abbrev pub is_among_pairs : List (Name × Name) → Name × Name → Bool
is_among_pairs before pair = list_any (pair_eq pair) before

-- no pair twice, or the left column of the first that repeats an earlier one
unfoldable pub test_distinct_pairs : ℕ → List (Name × Name) → Result ⊤ Refusal
test_distinct_pairs node pairs = tested_onto is_among_pairs (λ p. duplicate_column node p.0) [] pairs

-- no name twice in one of these lists
unfoldable pub test_distinct_keys : ℕ → List (List Name) → Result ⊤ Refusal
test_distinct_keys node [] = Ok tt
test_distinct_keys node (k ∷ ks) = test_distinct node k >>= λ u. test_distinct_keys node ks

-- equal types
unfoldable pub test_match : ℕ → Bool → Result ⊤ Refusal
test_match node b = if b then Ok tt else Err (type_mismatch node)

-- not too many output columns
unfoldable pub test_width : ℕ → ℕ → Result ⊤ Refusal
test_width node width = if nat_le width max_columns then Ok tt else Err (too_wide node)

abbrev pub size_or : Name → Option ℕ → Result Size Refusal
size_or name None = Err (bad_size name)
size_or name (Some k) = Ok (group_of k)

-- `one`, or a declared size name
unfoldable pub find_size : Names → Name → Result Size Refusal
find_size s name = if bytes_eq name (codes "one") then Ok one_worker else size_or name (position (bytes_eq name) s.sizes)

abbrev pub range_or : ℕ → Name → Option ℕ → Result ℕ Refusal
range_or node name None = Err (unknown_range node name)
range_or node name (Some k) = Ok k

-- the number of the declared range with this name
unfoldable pub find_range : Names → ℕ → Name → Result ℕ Refusal
find_range s node name = range_or node name (position (λ r. bytes_eq name r.name) s.ranges)
