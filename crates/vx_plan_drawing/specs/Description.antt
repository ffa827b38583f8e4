-- What a node of a document does, what has its size and what it claims, in the words of the text that explains a plan.
use Rattle.std.specs.Prelude.{ℕ, ◌++◌, Bool, true, false, cond, List, [], ◌∷◌, map, Option, Some, None, codes, decimal}
use Rattle.std.specs.Fmt.{signed_decimal}
use Rattle.serde_json.specs.Data.{string}
use Rattle.serde_json.specs.Written.{compact_text}
use Rattle.vx_catalog_json.specs.Look.{OrderText}
use Rattle.vx_rows_values.specs.Values.{Val, num, text, Name}
use Rattle.vx_rows_values.specs.Test.{test_text}
use Rattle.vx_plan_json.specs.Document.{PartForm, one, any, all, hash_part, range_part, ClaimForm, SideForm, column, constant, ConditionForm, OutputForm, OperandForm, operand_column, operand_value, operand_call, OperandForms, no_operands, more_operands, FilterForm, compared, computed, EntryForm, kept, made, FunctionForm, least, greatest, sum, count_rows, AggregateForm, ScanForm, UnaryForm, select, project, distinct, sort, partial_sort, group, partial_group, final_group, limit, BinaryForm, union, join, semi_join, KindForm, hash, range, round, broadcast, gather, concat, Tree, scan, unary, binary, exchange}

-- texts in a row, a separator before each but the first
abbrev pub separated : List ℕ → (is_later : Bool) → List (List ℕ) → List ℕ
separated between is_later [] = []
separated between is_later (x ∷ xs) = cond is_later between [] ++ (x ++ separated between true xs)

-- columns by their names
abbrev pub list_text : List Name → List ℕ
list_text names = codes "[" ++ (separated (codes ",") false names ++ codes "]")

-- a column of an order by its name, and whether it falls
abbrev pub entry_text : OrderText → List ℕ
entry_text e = e.name ++ cond e.falling (codes " desc") []

abbrev pub order_text : List OrderText → List ℕ
order_text order = codes "[" ++ (separated (codes ",") false (map entry_text order) ++ codes "]")

-- ---- claims

-- a hash route, or a range, and the columns by which it sends
abbrev pub hash_text : Name → List Name → List ℕ
hash_text route names = codes "hash:" ++ (route ++ list_text names)

abbrev pub range_text : Name → Name → List ℕ
range_text name col = codes "range:" ++ (name ++ (codes "[" ++ (col ++ codes "]")))

abbrev pub part_text : PartForm → List ℕ
part_text one = codes "one"
part_text any = codes "any"
part_text all = codes "all"
part_text (hash_part route names) = hash_text route names
part_text (range_part name col) = range_text name col

-- a dash where there is no key
abbrev pub keys_text : List (List Name) → List ℕ
keys_text [] = codes "-"
keys_text (k ∷ ks) = separated (codes ";") false (map list_text (k ∷ ks))

abbrev pub claim_text : ClaimForm → List ℕ
claim_text c = codes " part=" ++ (part_text c.part ++ (codes " order=" ++ (order_text c.order ++ (codes " keys=" ++ keys_text c.keys))))

-- ---- scans

abbrev pub prefix_text : List ℕ → List ℕ
prefix_text [] = []
prefix_text (x ∷ xs) = codes " prefix " ++ (x ∷ xs)

abbrev pub scan_text : ScanForm → List ℕ
scan_text s = codes "scan " ++ (s.relation ++ (cond s.shared (codes " shared") (codes " whole") ++ prefix_text s.prefix))

-- ---- operators over one input

-- a number in plain decimal, a text as `serde_json` writes it
abbrev pub value_text : Val → List ℕ
value_text (num z) = signed_decimal z
value_text (text bytes) = compact_text (string bytes)

abbrev pub side_text : SideForm → List ℕ
side_text (column name) = name
side_text (constant v) = value_text v

abbrev pub condition_text : ConditionForm → List ℕ
condition_text c = c.left ++ (codes " " ++ (test_text c.test ++ (codes " " ++ side_text c.right)))

-- what is computed: of a function its name and its operands, and not the type of its answer
abbrev mutual
  pub operand_text : OperandForm → List ℕ
  operand_text (operand_column name) = name
  operand_text (operand_value v) = value_text v
  operand_text (operand_call f t os) = f ++ (codes "(" ++ (separated (codes ",") false (operand_texts os) ++ codes ")"))

  pub operand_texts : OperandForms → List (List ℕ)
  operand_texts no_operands = []
  operand_texts (more_operands o os) = operand_text o ∷ operand_texts os

abbrev pub filter_text : FilterForm → List ℕ
filter_text (compared c) = condition_text c
filter_text (computed o) = operand_text o

-- a kept column, with its new name where it has one
abbrev pub renamed_text : Option Name → List ℕ
renamed_text None = []
renamed_text (Some name) = codes " as " ++ name

abbrev pub kept_text : OutputForm → List ℕ
kept_text o = o.column ++ renamed_text o.renamed

-- a column of a projection
abbrev pub made_text : EntryForm → List ℕ
made_text (kept o) = kept_text o
made_text (made o name) = operand_text o ++ (codes " as " ++ name)

abbrev pub made_list : List EntryForm → List ℕ
made_list entries = separated (codes ",") false (map made_text entries) ++ codes "]"

abbrev pub kept_list : List OutputForm → List ℕ
kept_list outputs = separated (codes ",") false (map kept_text outputs) ++ codes "]"

abbrev pub function_text : FunctionForm → List ℕ
function_text (least c) = codes "min(" ++ (c ++ codes ")")
function_text (greatest c) = codes "max(" ++ (c ++ codes ")")
function_text (sum c) = codes "sum(" ++ (c ++ codes ")")
function_text count_rows = codes "count()"

abbrev pub aggregate_text : AggregateForm → List ℕ
aggregate_text a = function_text a.function ++ (codes " as " ++ a.name)

abbrev pub aggregates_text : List AggregateForm → List ℕ
aggregates_text [] = []
aggregates_text (a ∷ as') = codes " " ++ separated (codes ", ") false (map aggregate_text (a ∷ as'))

-- the key columns and the aggregates of a grouping
abbrev pub group_text : List Name → List AggregateForm → List ℕ
group_text by aggregates = list_text by ++ aggregates_text aggregates

-- a final group says no columns, since its columns are those of its partial group
abbrev pub unary_text : UnaryForm → List ℕ
unary_text (select fs) = codes "select " ++ separated (codes " and ") false (map filter_text fs)
unary_text (project entries) = codes "project [" ++ made_list entries
unary_text (distinct outputs) = codes "distinct [" ++ kept_list outputs
unary_text (sort order) = codes "sort " ++ order_text order
unary_text (partial_sort order) = codes "partial-sort " ++ order_text order
unary_text (group by aggregates) = codes "group " ++ group_text by aggregates
unary_text (partial_group by aggregates) = codes "partial-group " ++ group_text by aggregates
unary_text final_group = codes "final-group"
unary_text (limit rows) = codes "limit " ++ decimal rows

-- ---- operators over two inputs, and exchanges

abbrev pub pair_text : Name × Name → List ℕ
pair_text p = p.0 ++ (codes "=" ++ p.1)

-- what a semi or an anti join asks of a left row and a right one besides
abbrev pub where_text : List ConditionForm → List ℕ
where_text [] = []
where_text (c ∷ cs) = codes " where " ++ separated (codes " and ") false (map condition_text (c ∷ cs))

abbrev pub binary_text : BinaryForm → List ℕ
binary_text union = codes "union"
binary_text (join merging on) = cond merging (codes "merge-join [") (codes "hash-join [") ++ (separated (codes ",") false (map pair_text on) ++ codes "]")
binary_text (semi_join matched on conditions) =
    cond matched (codes "hash-semi-join [") (codes "hash-anti-join [") ++ (separated (codes ",") false (map pair_text on) ++ (codes "]" ++ where_text conditions))

abbrev pub kind_text : KindForm → List ℕ
kind_text (hash size route names) = hash_text route names
kind_text (range size name col) = range_text name col
kind_text (round size) = codes "round"
kind_text (broadcast size) = codes "broadcast"
kind_text gather = codes "gather"
kind_text concat = codes "concat"

abbrev pub merge_text : List OrderText → List ℕ
merge_text [] = []
merge_text (e ∷ order) = codes " merge " ++ order_text (e ∷ order)

-- ---- nodes

-- what a node does
abbrev pub description : Tree → List ℕ
description (scan c s) = scan_text s
description (unary c op t) = unary_text op
description (binary c op t u) = binary_text op
description (exchange c k merge t) = codes "exchange " ++ (kind_text k ++ merge_text merge)

-- the size that an exchange sends to
abbrev pub target_name : KindForm → Name
target_name (hash size route names) = size
target_name (range size name col) = size
target_name (round size) = size
target_name (broadcast size) = size
target_name gather = codes "one"
target_name concat = codes "one"

-- a scan and an exchange say their size, another node has that of its (left) input
abbrev pub size_name : Tree → Name
size_name (scan c s) = s.size
size_name (unary c op t) = size_name t
size_name (binary c op t u) = size_name t
size_name (exchange c k merge t) = target_name k

-- the claim of the node at the top
abbrev pub claim : Tree → ClaimForm
claim (scan c s) = c
claim (unary c op t) = c
claim (binary c op t u) = c
claim (exchange c k merge t) = c
