-- The plan of a JSON value or text, or the first refusal.
use Rattle.std.specs.Prelude.{ℕ, zero, suc, ◌+◌, List, [], ◌∷◌, ◌++◌, Bool, false, Option, Some, None, option_map, option_and_then, codes, Result, Ok, Err, nat_lt, if◌then◌else◌, map, string_bytes}
use Rattle.std.specs.Str.{is_utf8}
use Rattle.serde_json.specs.Data.{Data}
use Rattle.serde_json.specs.Find.{get}
use Rattle.serde_json.specs.Read.{read}
use Rattle.vx_plan_json.specs.Fault.{Refusal, not_json, bad_node, too_deep, ◌>>=◌}
use Rattle.vx_catalog_json.specs.Look.{has_only, flag_in}
use Rattle.vx_plan_json.specs.Look.{name_at, value_in, each_in, or_default}
use Rattle.vx_plan_json.specs.declared.reading.Header.{Header}
use Rattle.serde_json.specs.View.{view}
use Rattle.vx_rows_values.specs.Values.{Name}
use Rattle.vx_plan_json.specs.Document.{Tree, scan, unary, binary, exchange, Document}
use Rattle.vx_rows_values.specs.Ranges.{range_form, RangeForm}
use Rattle.vx_plan_json.specs.Form.{names_in}
use Rattle.vx_plan_json.specs.Formed.{levels_left}
use Rattle.vx_plan_json.specs.Operators.{OwnForm, own_scan, own_unary, own_binary, own_exchange, own_under}
use Rattle.vx_rows_values.specs.Limits.{max_levels, max_nodes}

-- a node from what it says of itself; `below` reads an input, `seen` nodes come before it
abbrev pub with_inputs : (ℕ → List ℕ → Data → Result (Tree × ℕ) Refusal) → ℕ → List ℕ → Option OwnForm → Result (Tree × ℕ) Refusal
with_inputs below seen path None = Err (bad_node path)
with_inputs below seen path (Some (own_scan c s)) = Ok (scan c s, seen + 1)
with_inputs below seen path (Some (own_unary c op d)) = below (seen + 1) (path ++ codes ".input") d >>= λ t. Ok (unary c op t.0, t.1)
with_inputs below seen path (Some (own_binary c op d e)) =
    below (seen + 1) (path ++ codes ".left") d >>= λ l. below l.1 (path ++ codes ".right") e >>= λ r. Ok (binary c op l.0 r.0, r.1)
with_inputs below seen path (Some (own_exchange c k m d)) = below (seen + 1) (path ++ codes ".input") d >>= λ t. Ok (exchange c k m t.0, t.1)

-- the tree of a value, and how many nodes have been seen after it, in preorder
unfoldable pub node_in : (derives : Bool) → ℕ → ℕ → List ℕ → Data → Result (Tree × ℕ) Refusal
node_in derives zero seen path d = Err too_deep
node_in derives (suc levels) seen path d = if nat_lt seen max_nodes then with_inputs (node_in derives levels) seen path (own_under derives (levels_left levels) d) else Err too_deep

-- `{"name": name, "bounds": [value, ..]}`
unfoldable pub declared_in : Data → Option RangeForm
declared_in d = if has_only (codes "name" ∷ codes "bounds" ∷ []) d
    then option_and_then (λ n. option_map (λ bs. record { name = n; bounds = bs }) (option_and_then (each_in value_in) (get (codes "bounds") d))) (name_at (codes "name") d)
    else None

-- the members of a document but the root, and the root's value
pub record Head : Type 0 where
  pub sizes : List Name
  pub ranges : List RangeForm
  pub total : Bool
  pub derives : Bool
  pub root : Data

abbrev pub head_of : List Name → List RangeForm → (total derives : Bool) → Data → Head
head_of zs rs total derives d = record { sizes = zs; ranges = rs; total = total; derives = derives; root = d }

abbrev pub head_form : Header → Head
head_form h = record { sizes = map string_bytes h.sizes.items; ranges = map range_form h.ranges.items; total = h.total; derives = h.derives; root = view h.root.now }

unfoldable pub head_in : Data → Option Head
head_in d = if has_only (codes "sizes" ∷ codes "ranges" ∷ codes "total" ∷ codes "derive" ∷ codes "root" ∷ []) d
    then option_and_then (λ zs. option_and_then (λ rs. option_and_then (λ t. option_and_then (λ e. option_map (head_of zs rs t e) (get (codes "root") d))
    (flag_in (codes "derive") d)) (flag_in (codes "total") d)) (or_default [] (each_in declared_in) (get (codes "ranges") d))) (or_default [] names_in (get (codes "sizes") d))
    else None

abbrev pub with_root : Option Head → Result Document Refusal
with_root None = Err (bad_node (codes "document"))
with_root (Some h) = node_in h.derives max_levels 0 (codes "root") h.root >>= λ t. Ok (record { sizes = h.sizes; ranges = h.ranges; total = h.total; derives = h.derives; root = t.0 })

-- the plan of a JSON value
unfoldable pub document_in : Data → Result Document Refusal
document_in d = with_root (head_in d)

abbrev pub document_or : Option Data → Result Document Refusal
document_or None = Err not_json
document_or (Some d) = document_in d

-- the plan of a text: JSON is UTF-8
unfoldable pub document_of_text : List ℕ → Result Document Refusal
document_of_text bytes = if is_utf8 bytes then document_or (read bytes) else Err not_json
