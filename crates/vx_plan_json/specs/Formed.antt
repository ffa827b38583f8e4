-- What reading assures of a plan: no name and no list that must have an entry is empty, and every constant and bound can be held.
use Rattle.std.specs.Prelude.{ℕ, suc, ◌+◌, ◌-◌, max, Bool, true, false, not, ◌&&◌, ◌||◌, List, length, nat_lt, nat_le, ◌^◌, Option, Some, None}
use Rattle.std.specs.List.{list_all}
use Rattle.vx_rows_values.specs.Types.{is_held}
use Rattle.vx_rows_values.specs.Lists.{is_some_list}
use Rattle.vx_rows_values.specs.Limits.{max_keys}
use Rattle.vx_catalog_json.specs.Look.{OrderText}
use Rattle.vx_rows_values.specs.Values.{Name}
use Rattle.vx_rows_values.specs.declared.value.ColType.TheVariants.{Int, Text}
use Rattle.vx_plan_json.specs.Document.{PartForm, one, any, all, hash_part, range_part, ClaimForm, SideForm, column, constant, ConditionForm, OutputForm, OperandForm, operand_column, operand_value, operand_call, OperandForms, no_operands, more_operands, FilterForm, compared, computed, EntryForm, kept, made, FunctionForm, least, greatest, sum, count_rows, AggregateForm, ScanForm, UnaryForm, select, project, distinct, sort, partial_sort, group, partial_group, final_group, limit, BinaryForm, union, join, semi_join, KindForm, hash, range, round, broadcast, gather, concat, Tree, scan, unary, binary, exchange}
use Rattle.vx_rows_values.specs.Ranges.{RangeForm}

abbrev pub are_names : List Name → Bool
are_names names = list_all is_some_list names

-- an entry or more, and none is empty
abbrev pub are_some_names : List Name → Bool
are_some_names names = is_some_list names && are_names names

-- a column has a name
abbrev pub is_order_entry : OrderText → Bool
is_order_entry e = is_some_list e.name

abbrev pub is_order : List OrderText → Bool
is_order order = list_all is_order_entry order

-- an entry or more
abbrev pub is_some_order : List OrderText → Bool
is_some_order order = is_some_list order && is_order order

abbrev pub is_range_form : RangeForm → Bool
is_range_form r = is_some_list r.name && list_all is_held r.bounds

-- what a document declares
abbrev pub is_head_form : List Name → List RangeForm → Bool
is_head_form sizes ranges = are_names sizes && list_all is_range_form ranges

abbrev pub is_part_form : PartForm → Bool
is_part_form one = true
is_part_form any = true
is_part_form all = true
is_part_form (hash_part route cols) = is_some_list route && are_some_names cols
is_part_form (range_part name col) = is_some_list name && is_some_list col

abbrev pub is_claim_form : ClaimForm → Bool
is_claim_form c = is_part_form c.part && (is_order c.order && list_all are_names c.keys)

abbrev pub is_side_form : SideForm → Bool
is_side_form (column name) = is_some_list name
is_side_form (constant v) = is_held v

abbrev pub is_condition_form : ConditionForm → Bool
is_condition_form c = is_some_list c.left && is_side_form c.right

abbrev pub is_new_name : Option Name → Bool
is_new_name None = true
is_new_name (Some name) = is_some_list name

abbrev pub is_output_form : OutputForm → Bool
is_output_form o = is_some_list o.column && is_new_name o.renamed

abbrev mutual
  pub is_operand_form : OperandForm → Bool
  is_operand_form (operand_column n) = is_some_list n
  is_operand_form (operand_value v) = is_held v
  is_operand_form (operand_call f t os) = is_some_list f && are_operand_forms os

  pub are_operand_forms : OperandForms → Bool
  are_operand_forms no_operands = true
  are_operand_forms (more_operands o os) = is_operand_form o && are_operand_forms os

-- a function that answers a number
abbrev pub is_answer : OperandForm → Bool
is_answer (operand_column n) = false
is_answer (operand_value v) = false
is_answer (operand_call f Int os) = true
is_answer (operand_call f Text os) = false

abbrev pub is_filter_form : FilterForm → Bool
is_filter_form (compared c) = is_condition_form c
is_filter_form (computed o) = is_answer o && is_operand_form o

-- no column as it is: that is one that is kept
abbrev pub is_made : OperandForm → Bool
is_made (operand_column n) = false
is_made (operand_value v) = true
is_made (operand_call f t os) = true

abbrev pub is_entry_form : EntryForm → Bool
is_entry_form (kept o) = is_output_form o
is_entry_form (made o n) = is_made o && (is_operand_form o && is_some_list n)

abbrev pub is_function_form : FunctionForm → Bool
is_function_form (least c) = is_some_list c
is_function_form (greatest c) = is_some_list c
is_function_form (sum c) = is_some_list c
is_function_form count_rows = true

abbrev pub is_aggregate_form : AggregateForm → Bool
is_aggregate_form a = is_function_form a.function && is_some_list a.name

abbrev pub is_scan_form : ScanForm → Bool
is_scan_form s = is_some_list s.relation && is_some_list s.size

-- not both lists are empty
abbrev pub is_group_form : List Name → List AggregateForm → Bool
is_group_form by aggregates = (is_some_list by || is_some_list aggregates) && (are_names by && list_all is_aggregate_form aggregates)

abbrev pub is_unary_form : UnaryForm → Bool
is_unary_form (select fs) = is_some_list fs && list_all is_filter_form fs
is_unary_form (project es) = is_some_list es && list_all is_entry_form es
is_unary_form (distinct os) = is_some_list os && list_all is_output_form os
is_unary_form (sort order) = is_some_order order
is_unary_form (partial_sort order) = is_some_order order
is_unary_form (group by aggregates) = is_group_form by aggregates
is_unary_form (partial_group by aggregates) = is_group_form by aggregates
is_unary_form final_group = true
is_unary_form (limit rows) = nat_lt rows (2 ^ 32)

abbrev pub is_pair_form : Name × Name → Bool
is_pair_form p = is_some_list p.0 && is_some_list p.1

abbrev pub is_binary_form : BinaryForm → Bool
is_binary_form union = true
is_binary_form (join merging on) = is_some_list on && list_all is_pair_form on
is_binary_form (semi_join matched on conditions) = (is_some_list on && list_all is_pair_form on) && list_all is_condition_form conditions

abbrev pub is_kind_form : KindForm → Bool
is_kind_form (hash size route cols) = is_some_list size && (is_some_list route && are_some_names cols)
is_kind_form (range size name col) = is_some_list size && (is_some_list name && is_some_list col)
is_kind_form (round size) = is_some_list size
is_kind_form (broadcast size) = is_some_list size
is_kind_form gather = true
is_kind_form concat = true

-- the order by which an exchange of the kind merges: a concatenation by none
abbrev pub is_merge_form : KindForm → List OrderText → Bool
is_merge_form (hash size route cols) order = is_order order
is_merge_form (range size name col) order = is_order order
is_merge_form (round size) order = is_order order
is_merge_form (broadcast size) order = is_order order
is_merge_form gather order = is_order order
is_merge_form concat order = not (is_some_list order)

-- every node has the form
abbrev pub is_tree_form : Tree → Bool
is_tree_form (scan c s) = is_claim_form c && is_scan_form s
is_tree_form (unary c op t) = is_claim_form c && (is_unary_form op && is_tree_form t)
is_tree_form (binary c op t u) = is_claim_form c && (is_binary_form op && (is_tree_form t && is_tree_form u))
is_tree_form (exchange c k m t) = is_claim_form c && (is_kind_form k && (is_merge_form k m && is_tree_form t))

-- where the plan asks for what is known of its columns, the claim has at most 16 keys
abbrev pub has_few_keys : (derives : Bool) → ClaimForm → Bool
has_few_keys derives c = not derives || nat_le (length c.keys) max_keys

-- and so has every claim
abbrev pub are_keys_few : (derives : Bool) → Tree → Bool
are_keys_few derives (scan c s) = has_few_keys derives c
are_keys_few derives (unary c op t) = has_few_keys derives c && are_keys_few derives t
are_keys_few derives (binary c op t u) = has_few_keys derives c && (are_keys_few derives t && are_keys_few derives u)
are_keys_few derives (exchange c k m t) = has_few_keys derives c && are_keys_few derives t

-- ---- levels of JSON

abbrev mutual
  -- how many levels of JSON an operand has
  pub operand_levels : OperandForm → ℕ
  operand_levels (operand_column n) = 0
  operand_levels (operand_value v) = 1
  operand_levels (operand_call f t os) = suc (suc (operands_levels os))

  -- the most of these operands
  pub operands_levels : OperandForms → ℕ
  operands_levels no_operands = 0
  operands_levels (more_operands o os) = max (operand_levels o) (operands_levels os)

-- an object whose members have so many levels at most
abbrev pub is_filter_low : ℕ → FilterForm → Bool
is_filter_low levels (compared c) = true
is_filter_low levels (computed o) = nat_le (operand_levels o) (suc levels)

abbrev pub is_entry_low : ℕ → EntryForm → Bool
is_entry_low levels (kept o) = true
is_entry_low levels (made o n) = nat_le (operand_levels o) (suc levels)

abbrev pub is_unary_low : ℕ → UnaryForm → Bool
is_unary_low levels (select fs) = list_all (is_filter_low levels) fs
is_unary_low levels (project es) = list_all (is_entry_low levels) es
is_unary_low levels (distinct os) = true
is_unary_low levels (sort order) = true
is_unary_low levels (partial_sort order) = true
is_unary_low levels (group by aggregates) = true
is_unary_low levels (partial_group by aggregates) = true
is_unary_low levels final_group = true
is_unary_low levels (limit rows) = true

-- how many levels the operands of a node may have below which so many levels of nodes may stand: a text has 127 levels, of which the document has one
-- and each node one; 60 are left below the lowest node's own object, its list and an object in that
abbrev pub levels_left : ℕ → ℕ
levels_left below = below + 60

-- so many levels have all operands of a tree that has so many levels of nodes at most
abbrev pub are_operands_low : ℕ → Tree → Bool
are_operands_low levels (scan c s) = true
are_operands_low levels (unary c op t) = is_unary_low (levels_left (levels - 1)) op && are_operands_low (levels - 1) t
are_operands_low levels (binary c op t u) = are_operands_low (levels - 1) t && are_operands_low (levels - 1) u
are_operands_low levels (exchange c k m t) = are_operands_low (levels - 1) t
