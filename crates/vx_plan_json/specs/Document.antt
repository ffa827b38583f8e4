-- Plans as their documents say them: relations, columns, sizes and ranges by name.
use Rattle.std.specs.Prelude.{ℕ, suc, ◌+◌, max, List, [], ◌∷◌, map, Bool, true, false, Option, option_map, string_bytes, String}
use Rattle.std.specs.declared.alloc.Global.{Global}
use Rattle.vx_catalog_json.specs.Look.{OrderText}
use Rattle.vx_rows_values.specs.Values.{Name, Val}
use Rattle.vx_rows_values.specs.ValueView.{val_of, test_of}
use Rattle.vx_rows_values.specs.Test as comparison
use Rattle.vx_rows_values.specs.Ranges.{RangeForm}
use Rattle.vx_rows_values.specs.declared.value.ColType.{ColType}
use Rattle.vx_plan_json.specs.declared.plan.NamedPart.{NamedPart}
use Rattle.vx_plan_json.specs.declared.plan.NamedPart.TheVariants as part
use Rattle.vx_plan_json.specs.declared.plan.NamedClaim.{NamedClaim}
use Rattle.vx_plan_json.specs.declared.plan.NamedSide.{NamedSide}
use Rattle.vx_plan_json.specs.declared.plan.NamedSide.TheVariants as side
use Rattle.vx_plan_json.specs.declared.plan.NamedCondition.{NamedCondition}
use Rattle.vx_plan_json.specs.declared.plan.NamedOutput.{NamedOutput}
use Rattle.vx_plan_json.specs.declared.plan.NamedOperand.{NamedOperand, Row_of-NamedOperand, end_of-NamedOperand, more_of-NamedOperand}
use Rattle.vx_plan_json.specs.declared.plan.NamedOperand.TheVariants as operand
use Rattle.vx_plan_json.specs.declared.plan.NamedFilter.{NamedFilter}
use Rattle.vx_plan_json.specs.declared.plan.NamedFilter.TheVariants as filter
use Rattle.vx_plan_json.specs.declared.plan.NamedEntry.{NamedEntry}
use Rattle.vx_plan_json.specs.declared.plan.NamedEntry.TheVariants as entry
use Rattle.vx_plan_json.specs.declared.plan.NamedFunction.{NamedFunction}
use Rattle.vx_plan_json.specs.declared.plan.NamedFunction.TheVariants as function
use Rattle.vx_plan_json.specs.declared.plan.NamedAggregate.{NamedAggregate}
use Rattle.vx_plan_json.specs.declared.plan.NamedScan.{NamedScan}
use Rattle.vx_plan_json.specs.declared.plan.NamedUnary.{NamedUnary}
use Rattle.vx_plan_json.specs.declared.plan.NamedUnary.TheVariants as op
use Rattle.vx_plan_json.specs.declared.plan.NamedBinary.{NamedBinary}
use Rattle.vx_plan_json.specs.declared.plan.NamedBinary.TheVariants as both
use Rattle.vx_plan_json.specs.declared.plan.NamedKind.{NamedKind}
use Rattle.vx_plan_json.specs.declared.plan.NamedKind.TheVariants as kind
use Rattle.vx_plan_json.specs.declared.plan.Node.{Node}
use Rattle.vx_plan_json.specs.declared.plan.Node.TheVariants as node

pub data PartForm : Type 0 where
  one : PartForm
  any : PartForm
  all : PartForm
  hash_part : (route : Name) → List Name → PartForm
  range_part : (range : Name) → Name → PartForm

pub record ClaimForm : Type 0 where
  pub part : PartForm
  pub order : List OrderText
  pub keys : List (List Name)

pub data SideForm : Type 0 where
  column : Name → SideForm
  constant : Val → SideForm

pub record ConditionForm : Type 0 where
  pub left : Name
  pub test : comparison.Test
  pub right : SideForm

-- a column that is kept, with its new name, if it has one
pub record OutputForm : Type 0 where
  pub column : Name
  pub renamed : Option Name

-- what is computed of a row: the value in a column, a value that is always the same, or what a function answers of operands, with the type
-- that is said of the answer
mutual
  pub data OperandForm : Type 0 where
    operand_column : Name → OperandForm
    operand_value : Val → OperandForm
    operand_call : (function : Name) → ColType → OperandForms → OperandForm

  pub data OperandForms : Type 0 where
    no_operands : OperandForms
    more_operands : OperandForm → OperandForms → OperandForms

-- a condition of a select: a comparison, or a function that is to answer a number other than 0
pub data FilterForm : Type 0 where
  compared : ConditionForm → FilterForm
  computed : OperandForm → FilterForm

-- a column of a projection's output: one that is kept, or what is computed, under a name
pub data EntryForm : Type 0 where
  kept : OutputForm → EntryForm
  made : OperandForm → Name → EntryForm

pub data FunctionForm : Type 0 where
  least : Name → FunctionForm
  greatest : Name → FunctionForm
  sum : Name → FunctionForm
  count_rows : FunctionForm

pub record AggregateForm : Type 0 where
  pub function : FunctionForm
  pub name : Name

-- an empty prefix is none
pub record ScanForm : Type 0 where
  pub relation : Name
  pub shared : Bool
  pub size : Name
  pub prefix : List ℕ

-- a partial sort is of parts of groups; a final group has the columns and the aggregates of the partial one below it
pub data UnaryForm : Type 0 where
  select : List FilterForm → UnaryForm
  project : List EntryForm → UnaryForm
  distinct : List OutputForm → UnaryForm
  sort : List OrderText → UnaryForm
  partial_sort : List OrderText → UnaryForm
  group : List Name → List AggregateForm → UnaryForm
  partial_group : List Name → List AggregateForm → UnaryForm
  final_group : UnaryForm
  limit : (rows : ℕ) → UnaryForm

-- a semi join keeps the left rows that some right row matches, an anti join those that none does
pub data BinaryForm : Type 0 where
  union : BinaryForm
  join : (merging : Bool) → List (Name × Name) → BinaryForm
  semi_join : (matched : Bool) → List (Name × Name) → List ConditionForm → BinaryForm

pub data KindForm : Type 0 where
  hash : (size route : Name) → List Name → KindForm
  range : (size range : Name) → Name → KindForm
  round : (size : Name) → KindForm
  broadcast : (size : Name) → KindForm
  gather : KindForm
  concat : KindForm

-- an exchange merges by its order, if that is not empty
pub data Tree : Type 0 where
  scan : ClaimForm → ScanForm → Tree
  unary : ClaimForm → UnaryForm → Tree → Tree
  binary : ClaimForm → BinaryForm → Tree → Tree → Tree
  exchange : ClaimForm → KindForm → List OrderText → Tree → Tree

pub record Document : Type 0 where
  pub sizes : List Name
  pub ranges : List RangeForm
  pub total : Bool
  pub derives : Bool
  pub root : Tree

-- how many nodes
abbrev pub tree_nodes : Tree → ℕ
tree_nodes (scan c s) = 1
tree_nodes (unary c op t) = suc (tree_nodes t)
tree_nodes (binary c op t u) = suc (tree_nodes t + tree_nodes u)
tree_nodes (exchange c k m t) = suc (tree_nodes t)

-- how many nodes stand below one another
abbrev pub tree_levels : Tree → ℕ
tree_levels (scan c s) = 1
tree_levels (unary c op t) = suc (tree_levels t)
tree_levels (binary c op t u) = suc (max (tree_levels t) (tree_levels u))
tree_levels (exchange c k m t) = suc (tree_levels t)

-- ---- the values of the program, without where they lie in memory

abbrev pub part_form : NamedPart → PartForm
part_form part.One = one
part_form part.Any = any
part_form part.All = all
part_form (part.Hash route columns) = hash_part (string_bytes route) (map string_bytes columns.items)
part_form (part.Range name col) = range_part (string_bytes name) (string_bytes col)

abbrev pub claim_form : NamedClaim → ClaimForm
claim_form c = record { part = part_form c.part; order = c.order.items; keys = map (λ k. map string_bytes k.items) c.keys.items }

abbrev pub side_form : NamedSide → SideForm
side_form (side.Column name) = column (string_bytes name)
side_form (side.Constant value) = constant (val_of value)

abbrev pub condition_form : NamedCondition → ConditionForm
condition_form c = record { left = string_bytes c.left; test = test_of c.test; right = side_form c.right }

abbrev pub output_form : NamedOutput → OutputForm
output_form o = record { column = string_bytes o.column; renamed = option_map string_bytes o.renamed }

-- the operands in a list
abbrev pub operands_from : List OperandForm → OperandForms
operands_from [] = no_operands
operands_from (o ∷ os) = more_operands o (operands_from os)

abbrev mutual
  pub operand_form : NamedOperand → OperandForm
  operand_form (operand.Column name) = operand_column (string_bytes name)
  operand_form (operand.Constant value) = operand_value (val_of value)
  operand_form (operand.Call' name t shape os) = operand_call (string_bytes name) t (operand_forms os)

  pub operand_forms : {n : _} → Row_of-NamedOperand n → OperandForms
  operand_forms end_of-NamedOperand = no_operands
  operand_forms (more_of-NamedOperand o os) = more_operands (operand_form o) (operand_forms os)

abbrev pub filter_form : NamedFilter → FilterForm
filter_form (filter.Compared c) = compared (condition_form c)
filter_form (filter.Computed o) = computed (operand_form o)

abbrev pub entry_form : NamedEntry → EntryForm
entry_form (entry.Kept o) = kept (output_form o)
entry_form (entry.Made o name) = made (operand_form o) (string_bytes name)

abbrev pub function_form : NamedFunction → FunctionForm
function_form (function.Least col) = least (string_bytes col)
function_form (function.Greatest col) = greatest (string_bytes col)
function_form (function.Sum col) = sum (string_bytes col)
function_form function.CountRows = count_rows

abbrev pub aggregate_form : NamedAggregate → AggregateForm
aggregate_form a = record { function = function_form a.function; name = string_bytes a.name }

abbrev pub scan_form : NamedScan → ScanForm
scan_form s = record { relation = string_bytes s.relation; shared = s.shared; size = string_bytes s.size; prefix = string_bytes s.prefix }

abbrev pub unary_form : NamedUnary → UnaryForm
unary_form (op.Select filters) = select (map filter_form filters.items)
unary_form (op.Project entries) = project (map entry_form entries.items)
unary_form (op.Distinct outputs) = distinct (map output_form outputs.items)
unary_form (op.Sort order) = sort order.items
unary_form (op.PartialSort order) = partial_sort order.items
unary_form (op.Group by aggregates) = group (map string_bytes by.items) (map aggregate_form aggregates.items)
unary_form (op.PartialGroup by aggregates) = partial_group (map string_bytes by.items) (map aggregate_form aggregates.items)
unary_form op.FinalGroup = final_group
unary_form (op.Limit rows) = limit rows

abbrev pub pair_form : String Global × String Global → Name × Name
pair_form p = (string_bytes p.0, string_bytes p.1)

abbrev pub binary_form : NamedBinary → BinaryForm
binary_form both.Union = union
binary_form (both.HashJoin pairs) = join false (map pair_form pairs.items)
binary_form (both.MergeJoin pairs) = join true (map pair_form pairs.items)
binary_form (both.SemiJoin pairs conditions) = semi_join true (map pair_form pairs.items) (map condition_form conditions.items)
binary_form (both.AntiJoin pairs conditions) = semi_join false (map pair_form pairs.items) (map condition_form conditions.items)

abbrev pub kind_form : NamedKind → KindForm
kind_form (kind.Hash size route columns) = hash (string_bytes size) (string_bytes route) (map string_bytes columns.items)
kind_form (kind.Range size name col) = range (string_bytes size) (string_bytes name) (string_bytes col)
kind_form (kind.Round size) = round (string_bytes size)
kind_form (kind.Broadcast size) = broadcast (string_bytes size)
kind_form kind.Gather = gather
kind_form kind.Concat = concat

abbrev pub tree_of : Node → Tree
tree_of (node.Scan claim s) = scan (claim_form claim) (scan_form s)
tree_of (node.Unary' claim o p input) = unary (claim_form claim) (unary_form o) (tree_of input)
tree_of (node.Binary' claim o p left q right) = binary (claim_form claim) (binary_form o) (tree_of left) (tree_of right)
tree_of (node.Exchange' claim k merge p input) = exchange (claim_form claim) (kind_form k) merge.items (tree_of input)
