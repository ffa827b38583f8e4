-- The JSON of a plan: each member that a document has, but those that have their defaults.
use Rattle.std.specs.Prelude.{ℕ, List, [], ◌∷◌, map, Bool, true, false, Option, Some, None, codes, if◌then◌else◌}
use Rattle.serde_json.specs.Data.{Data, boolean, number, unsigned, string, array, object, Items, no_items, item, Members, no_members, member, put}
use Rattle.serde_json.specs.Find.{of_integer}
use Rattle.serde_json.specs.View.{items_of}
use Rattle.vx_catalog_json.specs.Look.{OrderText}
use Rattle.vx_rows_values.specs.Values.{Val, num, text, Name}
use Rattle.vx_rows_values.specs.Test as comparison
use Rattle.vx_rows_values.specs.declared.value.ColType.{ColType}
use Rattle.vx_rows_values.specs.declared.value.ColType.TheVariants.{Int, Text}
use Rattle.vx_plan_json.specs.Document.{PartForm, one, any, all, hash_part, range_part, ClaimForm, SideForm, column, constant, ConditionForm, OutputForm, OperandForm, operand_column, operand_value, operand_call, OperandForms, no_operands, more_operands, FilterForm, compared, computed, EntryForm, kept, made, FunctionForm, least, greatest, sum, count_rows, AggregateForm, ScanForm, UnaryForm, select, project, distinct, sort, partial_sort, group, partial_group, final_group, limit, BinaryForm, union, join, semi_join, KindForm, hash, range, round, broadcast, gather, concat, Tree, scan, unary, binary, exchange, Document}
use Rattle.vx_rows_values.specs.Ranges.{RangeForm}

abbrev pub list_json : {X : Type 0} → (X → Data) → List X → Data
list_json json xs = array (items_of (map json xs))

abbrev pub names_json : List Name → Data
names_json names = list_json string names

abbrev pub value_json : Val → Data
value_json (num z) = number (of_integer z)
value_json (text s) = string s

-- with the list, unless it is empty
abbrev pub with_some : {X : Type 0} → List ℕ → (X → Data) → List X → Members → Members
with_some key json [] ms = ms
with_some key json (x ∷ xs) ms = put key (list_json json (x ∷ xs)) ms

-- with the text at the key
abbrev pub with_text : List ℕ → List ℕ → Members → Members
with_text key s ms = put key (string s) ms

abbrev pub range_json : RangeForm → Data
range_json r = object (put (codes "bounds") (list_json value_json r.bounds) (with_text (codes "name") r.name no_members))

-- ---- claims

-- a column of an order: its name where it rises, and where it falls an object that says so
abbrev pub entry_json : OrderText → Data
entry_json e = if e.falling then object (put (codes "desc") (boolean true) (with_text (codes "column") e.name no_members)) else string e.name

abbrev pub order_json : List OrderText → Data
order_json order = list_json entry_json order

abbrev pub part_json : PartForm → Data
part_json one = string (codes "one")
part_json any = string (codes "any")
part_json all = string (codes "all")
part_json (hash_part route cols) = object (put (codes "columns") (names_json cols) (with_text (codes "hash") route no_members))
part_json (range_part name col) = object (with_text (codes "column") col (with_text (codes "range") name no_members))

abbrev pub is_any : PartForm → Bool
is_any one = false
is_any any = true
is_any all = false
is_any (hash_part route cols) = false
is_any (range_part name col) = false

-- with the part, unless it is any
abbrev pub with_part : PartForm → Members → Members
with_part p ms = if is_any p then ms else put (codes "part") (part_json p) ms

abbrev pub claim_members : ClaimForm → Members
claim_members c = with_some (codes "keys") names_json c.keys (with_some (codes "order") entry_json c.order (with_part c.part no_members))

-- with the object at the key, unless it has no members
abbrev pub with_object : List ℕ → Members → Members → Members
with_object key no_members ms = ms
with_object key (member k d more) ms = put key (object (member k d more)) ms

abbrev pub with_claim : ClaimForm → Members → Members
with_claim c ms = with_object (codes "claim") (claim_members c) ms

-- ---- conditions and kept columns

abbrev pub with_side : SideForm → Members → Members
with_side (column name) ms = with_text (codes "column2") name ms
with_side (constant v) ms = put (codes "value") (value_json v) ms

abbrev pub condition_json : ConditionForm → Data
condition_json c = object (with_side c.right (with_text (codes "op") (comparison.test_text c.test) (with_text (codes "column") c.left no_members)))

abbrev pub renamed_json : Name → Option Name → Data
renamed_json col None = string col
renamed_json col (Some name) = object (with_text (codes "as") name (with_text (codes "column") col no_members))

abbrev pub output_json : OutputForm → Data
output_json o = renamed_json o.column o.renamed

-- ---- functions of columns and values

abbrev pub type_text : ColType → List ℕ
type_text Int = codes "int"
type_text Text = codes "text"

-- with a function and its operands
abbrev pub with_applied : Name → Items → Members → Members
with_applied f operands ms = put (codes "of") (array operands) (with_text (codes "fn") f ms)

-- with the type of its answer, too
abbrev pub with_typed : Name → ColType → Items → Members → Members
with_typed f t operands ms = with_text (codes "type") (type_text t) (with_applied f operands ms)

abbrev pub with_constant : Val → Members → Members
with_constant v ms = put (codes "value") (value_json v) ms

abbrev mutual
  pub operand_json : OperandForm → Data
  operand_json (operand_column n) = string n
  operand_json (operand_value v) = object (with_constant v no_members)
  operand_json (operand_call f t os) = object (with_typed f t (operand_items os) no_members)

  pub operand_items : OperandForms → Items
  operand_items no_operands = no_items
  operand_items (more_operands o os) = item (operand_json o) (operand_items os)

-- a function that is a condition, without the type of its answer, which is a number
abbrev pub answer_json : OperandForm → Data
answer_json (operand_column n) = operand_json (operand_column n)
answer_json (operand_value v) = operand_json (operand_value v)
answer_json (operand_call f t os) = object (with_applied f (operand_items os) no_members)

abbrev pub filter_json : FilterForm → Data
filter_json (compared c) = condition_json c
filter_json (computed o) = answer_json o

-- with what is computed
abbrev pub with_operand : OperandForm → Members → Members
with_operand (operand_column n) ms = with_text (codes "column") n ms
with_operand (operand_value v) ms = with_constant v ms
with_operand (operand_call f t os) ms = with_typed f t (operand_items os) ms

abbrev pub projected_json : EntryForm → Data
projected_json (kept o) = output_json o
projected_json (made o n) = object (with_text (codes "as") n (with_operand o no_members))

-- ---- aggregates and pairs

-- an aggregate over a column
abbrev pub with_call : List ℕ → Name → Members → Members
with_call name col ms = with_text (codes "column") col (with_text (codes "fn") name ms)

abbrev pub with_function : FunctionForm → Members → Members
with_function (least col) ms = with_call (codes "min") col ms
with_function (greatest col) ms = with_call (codes "max") col ms
with_function (sum col) ms = with_call (codes "sum") col ms
with_function count_rows ms = with_text (codes "fn") (codes "count") ms

abbrev pub aggregate_json : AggregateForm → Data
aggregate_json a = object (with_text (codes "as") a.name (with_function a.function no_members))

abbrev pub pair_json : Name × Name → Data
pair_json p = names_json (p.0 ∷ p.1 ∷ [])

-- ---- nodes

abbrev pub mode_text : Bool → List ℕ
mode_text true = codes "shared"
mode_text false = codes "whole"

-- with the text at the key, unless it is empty
abbrev pub with_some_text : List ℕ → List ℕ → Members → Members
with_some_text key [] ms = ms
with_some_text key (b ∷ bs) ms = with_text key (b ∷ bs) ms

abbrev pub with_scan : ScanForm → Members → Members
with_scan s ms = with_some_text (codes "prefix") s.prefix (with_text (codes "size") s.size
    (with_text (codes "mode") (mode_text s.shared) (with_text (codes "relation") s.relation (with_text (codes "op") (codes "scan") ms))))

-- with the columns and the aggregates of a group
abbrev pub with_lists : List Name → List AggregateForm → Members → Members
with_lists by aggregates ms = put (codes "aggregates") (list_json aggregate_json aggregates) (put (codes "by") (names_json by) ms)

-- with a group's name and phase
abbrev pub with_phase : List ℕ → Members → Members
with_phase phase ms = with_text (codes "phase") phase (with_text (codes "op") (codes "group") ms)

abbrev pub with_unary : UnaryForm → Members → Members
with_unary (select fs) ms = put (codes "where") (list_json filter_json fs) (with_text (codes "op") (codes "select") ms)
with_unary (project es) ms = put (codes "columns") (list_json projected_json es) (with_text (codes "op") (codes "project") ms)
with_unary (distinct os) ms = put (codes "columns") (list_json output_json os) (with_text (codes "op") (codes "distinct") ms)
with_unary (sort order) ms = put (codes "columns") (order_json order) (with_text (codes "op") (codes "sort") ms)
with_unary (partial_sort order) ms = put (codes "columns") (order_json order) (with_text (codes "phase") (codes "partial") (with_text (codes "op") (codes "sort") ms))
with_unary (group by aggregates) ms = with_lists by aggregates (with_text (codes "op") (codes "group") ms)
with_unary (partial_group by aggregates) ms = with_lists by aggregates (with_phase (codes "partial") ms)
with_unary final_group ms = with_phase (codes "final") ms
with_unary (limit rows) ms = put (codes "rows") (number (unsigned rows)) (with_text (codes "op") (codes "limit") ms)

abbrev pub method_text : Bool → List ℕ
method_text true = codes "merge"
method_text false = codes "hash"

abbrev pub with_join : List ℕ → List (Name × Name) → Members → Members
with_join method on ms = put (codes "on") (list_json pair_json on) (with_text (codes "method") method (with_text (codes "op") (codes "join") ms))

abbrev pub kind_text : (matched : Bool) → List ℕ
kind_text true = codes "semi"
kind_text false = codes "anti"

-- a join of the kind, with its conditions, if there are any
abbrev pub with_matches : List ℕ → List (Name × Name) → List ConditionForm → Members → Members
with_matches kind on conditions ms = with_some (codes "where") condition_json conditions (with_text (codes "kind") kind (with_join (codes "hash") on ms))

abbrev pub with_binary : BinaryForm → Members → Members
with_binary union ms = with_text (codes "op") (codes "union") ms
with_binary (join merging on) ms = with_join (method_text merging) on ms
with_binary (semi_join matched on conditions) ms = with_matches (kind_text matched) on conditions ms

abbrev pub with_kind : KindForm → Members → Members
with_kind (hash size route cols) ms = put (codes "columns") (names_json cols) (with_text (codes "route") route (with_text (codes "size") size (with_text (codes "kind") (codes "hash") ms)))
with_kind (range size name col) ms = with_text (codes "column") col (with_text (codes "route") name (with_text (codes "size") size (with_text (codes "kind") (codes "range") ms)))
with_kind (round size) ms = with_text (codes "size") size (with_text (codes "kind") (codes "round") ms)
with_kind (broadcast size) ms = with_text (codes "size") size (with_text (codes "kind") (codes "broadcast") ms)
with_kind gather ms = with_text (codes "kind") (codes "gather") ms
with_kind concat ms = with_text (codes "kind") (codes "concat") ms

abbrev pub scan_json : ClaimForm → ScanForm → Data
scan_json c s = object (with_scan s (with_claim c no_members))

abbrev pub unary_json : ClaimForm → UnaryForm → Data → Data
unary_json c op input = object (put (codes "input") input (with_unary op (with_claim c no_members)))

abbrev pub binary_json : ClaimForm → BinaryForm → Data → Data → Data
binary_json c op left right = object (put (codes "right") right (put (codes "left") left (with_binary op (with_claim c no_members))))

abbrev pub exchange_json : ClaimForm → KindForm → List OrderText → Data → Data
exchange_json c k merge input = object (put (codes "input") input
    (with_some (codes "merge") entry_json merge (with_kind k (with_text (codes "op") (codes "exchange") (with_claim c no_members)))))

abbrev pub node_json : Tree → Data
node_json (scan c s) = scan_json c s
node_json (unary c op t) = unary_json c op (node_json t)
node_json (binary c op t u) = binary_json c op (node_json t) (node_json u)
node_json (exchange c k m t) = exchange_json c k m (node_json t)

-- ---- the document

-- with true at the key, unless it is false
abbrev pub with_flag : List ℕ → Bool → Members → Members
with_flag key false ms = ms
with_flag key true ms = put key (boolean true) ms

abbrev pub document_json : Document → Data
document_json d = object (put (codes "root") (node_json d.root)
    (with_flag (codes "derive") d.derives (with_flag (codes "total") d.total
    (with_some (codes "ranges") range_json d.ranges (with_some (codes "sizes") string d.sizes no_members)))))
