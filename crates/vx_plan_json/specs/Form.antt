-- Which plan a JSON value is: the forms of a claim, of each operator and of a node's own members.
use Rattle.std.specs.Prelude.{ℕ, zero, suc, List, [], ◌∷◌, Option, Some, None, option_map, option_and_then, bytes_eq, codes, if◌then◌else◌}
use Rattle.serde_json.specs.Data.{Data}
use Rattle.serde_json.specs.Find.{get, as_str}
use Rattle.vx_rows_values.specs.Test as comparison
use Rattle.vx_catalog_json.specs.Look.{as_list, has_only, some_entry, name_in, OrderText, order_entry_in}
use Rattle.vx_plan_json.specs.Look.{name_at, text_at, value_in, each_in, some_in, or_default}
use Rattle.vx_rows_values.specs.declared.value.ColType.{ColType}
use Rattle.vx_rows_values.specs.declared.value.ColType.TheVariants.{Int, Text}
use Rattle.vx_rows_values.specs.Values.{Name}
use Rattle.vx_plan_json.specs.Document.{PartForm, one, any, all, hash_part, range_part, ClaimForm, SideForm, column, constant, ConditionForm, OutputForm, OperandForm, operand_column, operand_value, operand_call, operands_from, FilterForm, compared, computed, EntryForm, kept, made, FunctionForm, least, greatest, sum, count_rows, AggregateForm}

infixl 10 ◌>>=◌
abbrev ◌>>=◌ : {A B : Type 0} → Option A → (A → Option B) → Option B
o >>= f = option_and_then f o

unfoldable pub names_in : Data → Option (List Name)
names_in d = each_in name_in d

unfoldable pub some_names_in : Data → Option (List Name)
some_names_in d = some_in name_in d

unfoldable pub order_in : Data → Option (List OrderText)
order_in d = each_in order_entry_in d

unfoldable pub some_order_in : Data → Option (List OrderText)
some_order_in d = some_in order_entry_in d

-- ---- claims

abbrev pub part_named : List ℕ → Option PartForm
part_named s = if bytes_eq s (codes "one") then Some one else (if bytes_eq s (codes "any") then Some any else (if bytes_eq s (codes "all") then Some all else None))

-- `{"hash": name, "columns": [..]}`
unfoldable pub hash_part_in : Data → Option PartForm
hash_part_in d = do
  route ← name_at (codes "hash") d
  cols ← option_and_then some_names_in (get (codes "columns") d)
  Some (hash_part route cols)

-- `{"range": name, "column": name}`
unfoldable pub range_part_in : Data → Option PartForm
range_part_in d = do
  name ← name_at (codes "range") d
  col ← name_at (codes "column") d
  Some (range_part name col)

abbrev pub routed_part_in : Data → Option PartForm
routed_part_in d =
    if has_only (codes "hash" ∷ codes "columns" ∷ []) d then hash_part_in d
    else (if has_only (codes "range" ∷ codes "column" ∷ []) d then range_part_in d else None)

abbrev pub part_by : Option (List ℕ) → Data → Option PartForm
part_by None d = routed_part_in d
part_by (Some s) d = part_named s

-- `"one"`, `"any"`, `"all"` or a route
unfoldable pub part_in : Data → Option PartForm
part_in d = part_by (as_str d) d

unfoldable pub keys_in : Data → Option (List (List Name))
keys_in d = each_in names_in d

unfoldable pub claim_in : Data → Option ClaimForm
claim_in d = if has_only (codes "part" ∷ codes "order" ∷ codes "keys" ∷ []) d
    then (do
      p ← or_default any part_in (get (codes "part") d)
      o ← or_default [] order_in (get (codes "order") d)
      ks ← or_default [] keys_in (get (codes "keys") d)
      Some (record { part = p; order = o; keys = ks }))
    else None

-- a node's claim; any part, no order and no keys where it is left out
unfoldable pub claimed : Data → Option ClaimForm
claimed d = or_default (record { part = any; order = []; keys = [] }) claim_in (get (codes "claim") d)

-- ---- conditions and kept columns

abbrev pub test_named : List ℕ → Option comparison.Test
test_named s =
    if bytes_eq s (codes "=") then Some comparison.equal else (if bytes_eq s (codes "<>") then Some comparison.unequal
    else (if bytes_eq s (codes "<") then Some comparison.below else (if bytes_eq s (codes "<=") then Some comparison.at_most
    else (if bytes_eq s (codes ">") then Some comparison.above else (if bytes_eq s (codes ">=") then Some comparison.at_least else None)))))

-- a constant in `value`, or a column in `column2`
unfoldable pub side_in : Data → Option SideForm
side_in d =
    if has_only (codes "column" ∷ codes "op" ∷ codes "value" ∷ []) d
    then option_map constant (option_and_then value_in (get (codes "value") d))
    else (if has_only (codes "column" ∷ codes "op" ∷ codes "column2" ∷ []) d then option_map column (name_at (codes "column2") d) else None)

unfoldable pub condition_in : Data → Option ConditionForm
condition_in d = do
  l ← name_at (codes "column") d
  t ← option_and_then test_named (text_at (codes "op") d)
  r ← side_in d
  Some (record { left = l; test = t; right = r })

-- `{"column": name, "as": name}`
unfoldable pub renamed_in : Data → Option OutputForm
renamed_in d = if has_only (codes "column" ∷ codes "as" ∷ []) d
    then (do
      c ← name_at (codes "column") d
      n ← name_at (codes "as") d
      Some (record { column = c; renamed = Some n }))
    else None

abbrev pub output_by : Option (List ℕ) → Data → Option OutputForm
output_by None d = renamed_in d
output_by (Some s) d = option_map (λ n. record { column = n; renamed = None }) (some_entry s)

-- a name, or a column with its new name
unfoldable pub output_in : Data → Option OutputForm
output_in d = output_by (as_str d) d

-- ---- functions of columns and values

abbrev pub type_named : List ℕ → Option ColType
type_named s = if bytes_eq s (codes "int") then Some Int else (if bytes_eq s (codes "text") then Some Text else None)

-- a constant in `value`
unfoldable pub constant_in : Data → Option OperandForm
constant_in d = option_map operand_value (option_and_then value_in (get (codes "value") d))

-- the name of a function in `fn`, its operands in `of` and the type of its answer in `type`; `operands` reads the operands
unfoldable pub call_in : (operands : Data → Option (List OperandForm)) → Data → Option OperandForm
call_in operands d = do
  f ← name_at (codes "fn") d
  os ← option_and_then operands (get (codes "of") d)
  t ← option_and_then type_named (text_at (codes "type") d)
  Some (operand_call f t (operands_from os))

-- `{"value": value}`, or `{"fn": name, "of": [operand, ..], "type": type}`
abbrev pub object_in : (operands : Data → Option (List OperandForm)) → Data → Option OperandForm
object_in operands d = if has_only (codes "value" ∷ []) d then constant_in d
    else (if has_only (codes "fn" ∷ codes "of" ∷ codes "type" ∷ []) d then call_in operands d else None)

abbrev pub operand_by : (operands : Data → Option (List OperandForm)) → Option (List ℕ) → Data → Option OperandForm
operand_by operands None d = object_in operands d
operand_by operands (Some s) d = option_map operand_column (name_in d)

-- the name of a column, or an object; of so many levels of JSON at most
unfoldable pub operand_in : ℕ → Data → Option OperandForm
operand_in zero d = option_map operand_column (name_in d)
operand_in (suc zero) d = operand_by (λ e. None) (as_str d) d
operand_in (suc (suc levels)) d = operand_by (each_in (operand_in levels)) (as_str d) d

-- a list of operands, of so many levels at most
abbrev pub operands_in : ℕ → Data → Option (List OperandForm)
operands_in zero d = None
operands_in (suc levels) d = each_in (operand_in levels) d

-- a function of operands, whose answer is a number; its operands have so many levels at most
unfoldable pub answer_in : ℕ → Data → Option FilterForm
answer_in levels d = do
  f ← name_at (codes "fn") d
  os ← option_and_then (operands_in levels) (get (codes "of") d)
  Some (computed (operand_call f Int (operands_from os)))

-- `{"fn": name, "of": [operand, ..]}`, or a comparison
unfoldable pub filter_in : ℕ → Data → Option FilterForm
filter_in levels d = if has_only (codes "fn" ∷ codes "of" ∷ []) d then answer_in levels d else option_map compared (condition_in d)

-- what is computed, under the name in `as`
abbrev pub named_entry : Option OperandForm → Data → Option EntryForm
named_entry form d = do
  o ← form
  n ← name_at (codes "as") d
  Some (made o n)

-- `{"value": value, "as": name}`, `{"fn": name, "of": [operand, ..], "type": type, "as": name}`, or a column that is kept
unfoldable pub projected_in : ℕ → Data → Option EntryForm
projected_in levels d = if has_only (codes "value" ∷ codes "as" ∷ []) d then named_entry (constant_in d) d
    else (if has_only (codes "fn" ∷ codes "of" ∷ codes "type" ∷ codes "as" ∷ []) d then named_entry (call_in (operands_in levels) d) d
    else option_map kept (output_in d))

-- ---- aggregates and pairs

abbrev pub function_named : List ℕ → Name → Option FunctionForm
function_named s c =
    if bytes_eq s (codes "min") then Some (least c) else (if bytes_eq s (codes "max") then Some (greatest c)
    else (if bytes_eq s (codes "sum") then Some (sum c) else None))

unfoldable pub function_at : List ℕ → Data → Option FunctionForm
function_at s d =
    if bytes_eq s (codes "count") then (if has_only (codes "fn" ∷ codes "as" ∷ []) d then Some count_rows else None)
    else (if has_only (codes "fn" ∷ codes "column" ∷ codes "as" ∷ []) d
    then option_and_then (function_named s) (name_at (codes "column") d) else None)

unfoldable pub aggregate_in : Data → Option AggregateForm
aggregate_in d = do
  s ← text_at (codes "fn") d
  f ← function_at s d
  n ← name_at (codes "as") d
  Some (record { function = f; name = n })

abbrev pub as_pair : List Data → Option (Name × Name)
as_pair [] = None
as_pair (l ∷ []) = None
as_pair (l ∷ r ∷ []) = option_and_then (λ m. option_map (λ n. (m, n)) (name_in r)) (name_in l)
as_pair (l ∷ r ∷ d ∷ ds) = None

-- `[left column, right column]`
unfoldable pub pair_in : Data → Option (Name × Name)
pair_in d = option_and_then as_pair (as_list d)
