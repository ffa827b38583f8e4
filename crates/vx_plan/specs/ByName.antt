-- The document that says a typed plan: each column, relation, size and range by its name in place of its number.
use Rattle.std.specs.Prelude.{ℕ, List, [], ◌∷◌, ◌++◌, map, length, drop, Bool, true, false, if◌then◌else◌, Some, None, codes}
use Rattle.vx_rows_values.specs.Values.{Name}
use Rattle.vx_catalog_relations.specs.Naming.{name_at, order_text}
use Rattle.vx_plan_nodes.specs.Plan.{Size, one_worker, group_of, Route, by_hash, by_range, Part, routed, Claim, Side, Condition, Expression, Operands, Filter, Entry, Aggregate, Unary, JoinMethod, by_hashing, by_merging, Binary, ExchangeKind, route_to}
use Rattle.vx_plan_nodes.specs.Plan as plan
use Rattle.vx_plan_nodes.specs.Outline.{Top, Outline, scan, unary, binary, exchange, columns}
use Rattle.vx_plan_nodes.specs.Names.{Names, TypedPlanView}
use Rattle.vx_plan_json.specs.Document.{PartForm, hash_part, range_part, ClaimForm, SideForm, ConditionForm, OutputForm, OperandForm, OperandForms, FilterForm, EntryForm, FunctionForm, AggregateForm, UnaryForm, BinaryForm, KindForm, Tree, Document}
use Rattle.vx_plan_json.specs.Document as form

-- the names of these columns
abbrev pub names_at : List Name → List ℕ → List Name
names_at names cols = map (name_at names) cols

-- the name of the first of these columns
abbrev pub first_name : List Name → List ℕ → Name
first_name names [] = []
first_name names (c ∷ cols) = name_at names c

abbrev pub relation_name : Names → ℕ → Name
relation_name s r = name_at (map (λ r. r.name) s.catalog) r

abbrev pub range_name : Names → ℕ → Name
range_name s k = name_at (map (λ r. r.name) s.ranges) k

abbrev pub size_name : Names → Size → Name
size_name s one_worker = codes "one"
size_name s (group_of k) = name_at s.sizes k

-- ---- claims, by the names of the output's columns

abbrev pub route_by_name : Names → List Name → Route → List ℕ → PartForm
route_by_name s names (by_hash route) cols = hash_part route (names_at names cols)
route_by_name s names (by_range k) cols = range_part (range_name s k) (first_name names cols)

abbrev pub part_by_name : Names → List Name → Part → PartForm
part_by_name s names plan.one = form.one
part_by_name s names plan.any = form.any
part_by_name s names plan.all = form.all
part_by_name s names (routed r cols) = route_by_name s names r cols

abbrev pub claim_by_name : Names → List Name → Claim → ClaimForm
claim_by_name s names c = record { part = part_by_name s names c.part; order = order_text names c.order; keys = map (names_at names) c.keys }

-- ---- operators over one input, by the names of its columns and of the output's

abbrev pub side_by_name : List Name → Side → SideForm
side_by_name names (plan.column c) = form.column (name_at names c)
side_by_name names (plan.constant v) = form.constant v

abbrev pub condition_by_name : List Name → Condition → ConditionForm
condition_by_name names c = record { left = name_at names c.left; test = c.test; right = side_by_name names c.right }

-- what is computed, by the names of columns and functions
abbrev mutual
  pub operand_by_name : List Name → Expression → OperandForm
  operand_by_name names (plan.input c) = form.operand_column (name_at names c)
  operand_by_name names (plan.value v) = form.operand_value v
  operand_by_name names (plan.call f t es) = form.operand_call f.name t (operands_by_name names es)

  pub operands_by_name : List Name → Operands → OperandForms
  operands_by_name names plan.no_operands = form.no_operands
  operands_by_name names (plan.operand e es) = form.more_operands (operand_by_name names e) (operands_by_name names es)

abbrev pub filter_by_name : List Name → Filter → FilterForm
filter_by_name names (plan.comparing c) = form.compared (condition_by_name names c)
filter_by_name names (plan.computing e) = form.computed (operand_by_name names e)

-- a column of a projection: one that is kept has its name in the output where that is a new one
abbrev pub entry_by_name : List Name → Entry → Bool → Name → EntryForm
entry_by_name names (plan.copy_of c) renamed n = form.kept (record { column = name_at names c; renamed = if renamed then Some n else None })
entry_by_name names (plan.made_by e) renamed n = form.made (operand_by_name names e) n

abbrev pub entries_by_name : List Name → List Entry → List Bool → List Name → List EntryForm
entries_by_name names (e ∷ es) (b ∷ renamed) (n ∷ output) = entry_by_name names e b n ∷ entries_by_name names es renamed output
entries_by_name names _ _ _ = []

-- kept columns, each with its name in the output where that is a new one
abbrev pub kept_by_name : List Name → List ℕ → List Bool → List Name → List OutputForm
kept_by_name names (c ∷ cols) (b ∷ renamed) (n ∷ output) =
    record { column = name_at names c; renamed = if b then Some n else None } ∷ kept_by_name names cols renamed output
kept_by_name names _ _ _ = []

abbrev pub function_by_name : List Name → Aggregate → FunctionForm
function_by_name names (plan.least c) = form.least (name_at names c)
function_by_name names (plan.greatest c) = form.greatest (name_at names c)
function_by_name names (plan.sum c) = form.sum (name_at names c)
function_by_name names plan.count_rows = form.count_rows

-- aggregates, each with its name in the output
abbrev pub aggregates_by_name : List Name → List Aggregate → List Name → List AggregateForm
aggregates_by_name names (a ∷ aggregates) (n ∷ output) = record { function = function_by_name names a; name = n } ∷ aggregates_by_name names aggregates output
aggregates_by_name names _ _ = []

-- the names of a group's aggregates come after those of its keys
abbrev pub unary_by_name : List Name → List Name → Unary → List Bool → UnaryForm
unary_by_name names output (plan.select fs) renamed = form.select (map (filter_by_name names) fs)
unary_by_name names output (plan.project es) renamed = form.project (entries_by_name names es renamed output)
unary_by_name names output (plan.distinct cols) renamed = form.distinct (kept_by_name names cols renamed output)
unary_by_name names output (plan.sort false order) renamed = form.sort (order_text names order)
unary_by_name names output (plan.sort true order) renamed = form.partial_sort (order_text names order)
unary_by_name names output (plan.group plan.plain by aggregates) renamed = form.group (names_at names by) (aggregates_by_name names aggregates (drop (length by) output))
unary_by_name names output (plan.group plan.partial by aggregates) renamed = form.partial_group (names_at names by) (aggregates_by_name names aggregates (drop (length by) output))
unary_by_name names output (plan.group plan.final by aggregates) renamed = form.final_group
unary_by_name names output (plan.limit rows) renamed = form.limit rows

-- ---- operators over two inputs, and exchanges

abbrev pub pair_by_name : List Name → List Name → ℕ × ℕ → Name × Name
pair_by_name left right p = (name_at left p.0, name_at right p.1)

abbrev pub is_merging : JoinMethod → Bool
is_merging by_hashing = false
is_merging (by_merging falls) = true

abbrev pub binary_by_name : List Name → List Name → Binary → BinaryForm
binary_by_name left right plan.union = form.union
binary_by_name left right (plan.join method on) = form.join (is_merging method) (map (pair_by_name left right) on)
binary_by_name left right (plan.semi_join matched on cs) = form.semi_join matched (map (pair_by_name left right) on) (map (condition_by_name (left ++ right)) cs)

abbrev pub sent_by_name : Names → List Name → Size → Route → List ℕ → KindForm
sent_by_name s names z (by_hash route) cols = form.hash (size_name s z) route (names_at names cols)
sent_by_name s names z (by_range k) cols = form.range (size_name s z) (range_name s k) (first_name names cols)

abbrev pub kind_by_name : Names → List Name → ExchangeKind → KindForm
kind_by_name s names (route_to z r cols) = sent_by_name s names z r cols
kind_by_name s names (plan.round z) = form.round (size_name s z)
kind_by_name s names (plan.broadcast z) = form.broadcast (size_name s z)
kind_by_name s names plan.gather = form.gather
kind_by_name s names plan.concat = form.concat

-- ---- nodes

abbrev pub column_names : Outline → List Name
column_names t = (columns t).names

abbrev pub top_by_name : Names → Top → ClaimForm
top_by_name s h = claim_by_name s h.columns.names h.claim

abbrev pub tree_by_name : Names → Outline → Tree
tree_by_name s (scan h r shared z prefix) = form.scan (top_by_name s h) (record { relation = relation_name s r; shared = shared; size = size_name s z; prefix = prefix })
tree_by_name s (unary h op renamed t) = form.unary (top_by_name s h) (unary_by_name (column_names t) h.columns.names op renamed) (tree_by_name s t)
tree_by_name s (binary h op t u) = form.binary (top_by_name s h) (binary_by_name (column_names t) (column_names u) op) (tree_by_name s t) (tree_by_name s u)
tree_by_name s (exchange h k merge t) = form.exchange (top_by_name s h) (kind_by_name s (column_names t) k) (order_text (column_names t) merge) (tree_by_name s t)

abbrev pub document_by_name : TypedPlanView → Document
document_by_name p = record { sizes = p.names.sizes; ranges = p.names.ranges; total = p.total; derives = p.derives; root = tree_by_name p.names p.root }
