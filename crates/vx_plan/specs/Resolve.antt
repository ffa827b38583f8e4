-- The typed plan of a document over a catalog, or the first refusal: sizes, ranges, then the nodes in post-order.
use Rattle.std.specs.Prelude.{ℕ, ◌+◌, List, [], ◌∷◌, ◌++◌, map, length, Bool, true, false, not, if◌then◌else◌, ◌||◌, Option, Some, None, Result, Ok, Err, ⊤, position, bytes_eq, codes, nat_le, unwrap_or, is_some, ◌&&◌}
use Rattle.std.specs.List.{list_all, list_any}
use Rattle.vx_rows_values.specs.declared.value.ColType.{ColType}
use Rattle.vx_rows_values.specs.declared.value.ColType.TheVariants.{Int}
use Rattle.vx_rows_values.specs.Types.{type_at}
use Rattle.vx_catalog_relations.specs.Relation.{Relation}
use Rattle.vx_catalog_relations.specs.Catalog.{relation_at, all_below}
use Rattle.vx_plan_nodes.specs.Plan.{Route, by_hash, by_range, Part, routed, Claim, Side, Condition, Expression, Operands, Filter, Entry, Aggregate, Phase, Unary, JoinMethod, by_hashing, by_merging, Binary, ExchangeKind, route_to}
use Rattle.vx_plan_nodes.specs.Plan as plan
use Rattle.vx_plan_nodes.specs.Types.{expression_type, entry_type, aggregate_type}
use Rattle.vx_plan_nodes.specs.Phases.{first_columns, merged}
use Rattle.vx_plan_nodes.specs.Typed.{bounds_at, type_eq, types_eq, range_type, is_range, is_condition, is_aggregate, is_pair}
use Rattle.vx_catalog_json.specs.Look.{OrderText}
use Rattle.vx_rows_values.specs.declared.order.OrderEntry.{OrderEntry}
use Rattle.vx_rows_values.specs.Order.{order_columns}
use Rattle.vx_rows_values.specs.Values.{Name}
use Rattle.vx_plan_json.specs.Document.{PartForm, hash_part, range_part, ClaimForm, SideForm, ConditionForm, OutputForm, OperandForm, OperandForms, FilterForm, EntryForm, FunctionForm, AggregateForm, ScanForm, UnaryForm, BinaryForm, KindForm, Tree, Document}
use Rattle.vx_rows_values.specs.Ranges.{RangeForm}
use Rattle.vx_plan_json.specs.Document as form
use Rattle.vx_plan_nodes.specs.Outline.{function_of, Columns, Top, Outline, scan, unary, binary, exchange, columns}
use Rattle.vx_plan_nodes.specs.declared.typed.Projected.{Projected}
use Rattle.vx_plan_json.specs.Fault.{Refusal, unknown_relation, bad_range, bad_size, phase_mismatch, ◌>>=◌}
use Rattle.vx_plan.specs.Lookup.{walk_onto, tested_onto, find_column, find_columns, order_names, find_order, find_keys, test_distinct, test_distinct_pairs, test_distinct_keys, test_match, test_width, find_size, find_range}
use Rattle.vx_plan_nodes.specs.Names.{Names, TypedPlanView}
use Rattle.vx_rows_values.specs.Limits.{max_size_names}

-- ---- claims

-- a range comes before its column
unfoldable pub find_part : Names → ℕ → List Name → PartForm → Result Part Refusal
find_part s node names form.one = Ok plan.one
find_part s node names form.any = Ok plan.any
find_part s node names form.all = Ok plan.all
find_part s node names (hash_part route cols) = find_columns node names cols >>= λ ps. Ok (routed (by_hash route) ps)
find_part s node names (range_part range col) = find_range s node range >>= λ k. find_column node names col >>= λ p. Ok (routed (by_range k) (p ∷ []))

abbrev pub part_names : PartForm → List Name
part_names form.one = []
part_names form.any = []
part_names form.all = []
part_names (hash_part route cols) = cols
part_names (range_part range col) = []

-- the first of these columns has the type of the range
abbrev pub column_fits : List ColType → ColType → List ℕ → Bool
column_fits types t [] = true
column_fits types t (c ∷ cs) = type_eq (type_at types c) t

-- a column that is routed by a range has its type
abbrev pub route_fits : Names → List ColType → Route → List ℕ → Bool
route_fits s types (by_hash name) cols = true
route_fits s types (by_range k) cols = column_fits types (range_type (bounds_at (map (λ r. r.bounds) s.ranges) k)) cols

abbrev pub part_fits : Names → List ColType → Part → Bool
part_fits s types plan.one = true
part_fits s types plan.any = true
part_fits s types plan.all = true
part_fits s types (routed r cols) = route_fits s types r cols

-- the columns of a claim: of its part, its order, its keys
unfoldable pub claim_columns : Names → ℕ → List Name → ClaimForm → Result Claim Refusal
claim_columns s node names c =
    find_part s node names c.part >>= λ p. find_order node names c.order >>= λ o. find_keys node names c.keys >>= λ ks.
    Ok (record { part = p; order = o; keys = ks })

-- no column twice in one list of a claim
unfoldable pub test_claim : ℕ → ClaimForm → Result ⊤ Refusal
test_claim node c = test_distinct node (part_names c.part) >>= λ u. test_distinct node (order_names c.order) >>= λ v. test_distinct_keys node c.keys

unfoldable pub find_claim : Names → ℕ → Columns → ClaimForm → Result Claim Refusal
find_claim s node cols c =
    claim_columns s node cols.names c >>= λ k. test_claim node c >>= λ u. test_match node (part_fits s cols.types k.part) >>= λ v. Ok k

-- what every node has: after the operator comes the claim
unfoldable pub with_claim : Names → ℕ → Columns → ClaimForm → Result Top Refusal
with_claim s node cols c = find_claim s node cols c >>= λ k. Ok (record { number = node; claim = k; columns = cols })

-- ---- scans

abbrev pub scan_columns : Relation → List ℕ → Columns
scan_columns r prefix = record { names = map (λ n. prefix ++ n) r.names; types = r.types }

abbrev pub relation_or : ℕ → Name → Option ℕ → Result ℕ Refusal
relation_or node name None = Err (unknown_relation node name)
relation_or node name (Some r) = Ok r

unfoldable pub find_relation : Names → ℕ → Name → Result ℕ Refusal
find_relation s node name = relation_or node name (position (λ r. bytes_eq name r.name) s.catalog)

unfoldable pub scan_typed : Names → ℕ → ClaimForm → ScanForm → Result Outline Refusal
scan_typed s node c f =
    find_relation s node f.relation >>= λ r. find_size s f.size >>= λ z.
    with_claim s node (scan_columns (relation_at s.catalog r) f.prefix) c >>= λ t. Ok (scan t r f.shared z f.prefix)

-- ---- operators over one input

-- an operator over one input, which of its kept columns have a new name, and its output
pub record Shape : Type 0 where
  pub op : Unary
  pub renamed : List Bool
  pub columns : Columns

unfoldable pub find_side : ℕ → List Name → SideForm → Result Side Refusal
find_side node names (form.column name) = find_column node names name >>= λ c. Ok (plan.column c)
find_side node names (form.constant v) = Ok (plan.constant v)

unfoldable pub find_condition : ℕ → List Name → ConditionForm → Result Condition Refusal
find_condition node names c = find_column node names c.left >>= λ l. find_side node names c.right >>= λ r. Ok (record { left = l; test = c.test; right = r })

unfoldable pub find_conditions : ℕ → List Name → List ConditionForm → Result (List Condition) Refusal
find_conditions node names cs = walk_onto (find_condition node names) [] cs

-- what is computed: columns by their positions, functions by their names, from the left
abbrev mutual
  pub find_operand : ℕ → List Name → OperandForm → Result Expression Refusal
  find_operand node names (form.operand_column name) = find_column node names name >>= λ c. Ok (plan.input c)
  find_operand node names (form.operand_value v) = Ok (plan.value v)
  find_operand node names (form.operand_call f t os) = find_operands node names os >>= λ es. Ok (plan.call (function_of f) t es)

  pub find_operands : ℕ → List Name → OperandForms → Result Operands Refusal
  find_operands node names form.no_operands = Ok plan.no_operands
  find_operands node names (form.more_operands o os) = find_operand node names o >>= λ e. find_operands node names os >>= λ es. Ok (plan.operand e es)

unfoldable pub find_filter : ℕ → List Name → FilterForm → Result Filter Refusal
find_filter node names (form.compared c) = find_condition node names c >>= λ k. Ok (plan.comparing k)
find_filter node names (form.computed o) = find_operand node names o >>= λ e. Ok (plan.computing e)

unfoldable pub find_filters : ℕ → List Name → List FilterForm → Result (List Filter) Refusal
find_filters node names fs = walk_onto (find_filter node names) [] fs

-- the sides of a comparison have one type, and what is computed is a number
abbrev pub filter_fits : List ColType → Filter → Bool
filter_fits types (plan.comparing c) = is_condition types c
filter_fits types (plan.computing e) = type_eq (expression_type types e) Int

unfoldable pub select_shape : ℕ → Columns → List FilterForm → Result Shape Refusal
select_shape node cols fs =
    find_filters node cols.names fs >>= λ ks. test_match node (list_all (filter_fits cols.types) ks) >>= λ u.
    Ok (record { op = plan.select ks; renamed = []; columns = cols })

-- the name of a kept column in the output
abbrev pub output_name : OutputForm → Name
output_name o = unwrap_or o.renamed o.column

unfoldable pub find_kept : ℕ → List Name → OutputForm → Result Projected Refusal
find_kept node names o = find_column node names o.column >>= λ c. Ok (record { column = c; renamed = is_some o.renamed })

unfoldable pub find_all_kept : ℕ → List Name → List OutputForm → Result (List Projected) Refusal
find_all_kept node names os = walk_onto (find_kept node names) [] os

-- the kept columns of a distinct
unfoldable pub kept_shape : ℕ → Columns → List OutputForm → Result (List Projected) Refusal
kept_shape node cols os =
    find_all_kept node cols.names os >>= λ ks. test_distinct node (map output_name os) >>= λ u. test_width node (length os) >>= λ v. Ok ks

abbrev pub kept_columns : Columns → List OutputForm → List Projected → Columns
kept_columns cols os ks = record { names = map output_name os; types = map (λ k. type_at cols.types k.column) ks }

-- a column of a projection, and whether it has a new name, as one that is computed always has
pub record FoundEntry : Type 0 where
  pub entry : Entry
  pub renamed : Bool

-- the name of a column of a projection's output
abbrev pub entry_name : EntryForm → Name
entry_name (form.kept o) = output_name o
entry_name (form.made o name) = name

unfoldable pub find_entry : ℕ → List Name → EntryForm → Result FoundEntry Refusal
find_entry node names (form.kept o) = find_kept node names o >>= λ k. Ok (record { entry = plan.copy_of k.column; renamed = k.renamed })
find_entry node names (form.made o name) = find_operand node names o >>= λ e. Ok (record { entry = plan.made_by e; renamed = true })

unfoldable pub find_entries : ℕ → List Name → List EntryForm → Result (List FoundEntry) Refusal
find_entries node names es = walk_onto (find_entry node names) [] es

-- the columns of a projection
unfoldable pub entries_shape : ℕ → Columns → List EntryForm → Result (List FoundEntry) Refusal
entries_shape node cols es =
    find_entries node cols.names es >>= λ ks. test_distinct node (map entry_name es) >>= λ u. test_width node (length es) >>= λ v. Ok ks

abbrev pub entry_columns : Columns → List EntryForm → List FoundEntry → Columns
entry_columns cols es ks = record { names = map entry_name es; types = map (λ k. entry_type cols.types k.entry) ks }

unfoldable pub project_shape : ℕ → Columns → List EntryForm → Result Shape Refusal
project_shape node cols es =
    entries_shape node cols es >>= λ ks. Ok (record { op = plan.project (map (λ k. k.entry) ks); renamed = map (λ k. k.renamed) ks; columns = entry_columns cols es ks })

unfoldable pub distinct_shape : ℕ → Columns → List OutputForm → Result Shape Refusal
distinct_shape node cols os = kept_shape node cols os >>= λ ks. Ok (record { op = plan.distinct (map (λ k. k.column) ks); renamed = map (λ k. k.renamed) ks; columns = kept_columns cols os ks })

-- of parts of groups, or of whole rows
unfoldable pub sort_shape : Bool → ℕ → Columns → List OrderText → Result Shape Refusal
sort_shape of_parts node cols order =
    find_order node cols.names order >>= λ o. test_distinct node (order_names order) >>= λ u. Ok (record { op = plan.sort of_parts o; renamed = []; columns = cols })

-- a partial group and a partial sort are to stand where groups are in parts
unfoldable pub test_phase : ℕ → Bool → Result ⊤ Refusal
test_phase node fits = if fits then Ok tt else Err (phase_mismatch node)

-- a partial sort is to stand between a partial group and its final one
unfoldable pub partial_sort_shape : Bool → ℕ → Columns → List OrderText → Result Shape Refusal
partial_sort_shape between node cols order = test_phase node between >>= λ u. sort_shape true node cols order

-- the first rows have the columns of the input
unfoldable pub limit_shape : Columns → ℕ → Result Shape Refusal
limit_shape cols rows = Ok (record { op = plan.limit rows; renamed = []; columns = cols })

unfoldable pub find_function : ℕ → List Name → FunctionForm → Result Aggregate Refusal
find_function node names (form.least c) = find_column node names c >>= λ p. Ok (plan.least p)
find_function node names (form.greatest c) = find_column node names c >>= λ p. Ok (plan.greatest p)
find_function node names (form.sum c) = find_column node names c >>= λ p. Ok (plan.sum p)
find_function node names form.count_rows = Ok plan.count_rows

unfoldable pub find_aggregates : ℕ → List Name → List AggregateForm → Result (List Aggregate) Refusal
find_aggregates node names aggregates = walk_onto (λ a. find_function node names a.function) [] aggregates

-- the keys, then the aggregates
abbrev pub group_columns : Columns → List Name → List AggregateForm → List ℕ → List Aggregate → Columns
group_columns cols by aggregates bs ks = record {
  names = by ++ map (λ a. a.name) aggregates;
  types = map (type_at cols.types) bs ++ map (aggregate_type cols.types) ks;
}

-- the columns of a group: of its keys, then of its aggregates
unfoldable pub find_group : ℕ → List Name → List Name → List AggregateForm → Result (List ℕ × List Aggregate) Refusal
find_group node names by aggregates = find_columns node names by >>= λ bs. find_aggregates node names aggregates >>= λ ks. Ok (bs, ks)

unfoldable pub test_group : ℕ → List ColType → List Name → List Aggregate → Result ⊤ Refusal
test_group node types names ks = test_distinct node names >>= λ u. test_width node (length names) >>= λ v. test_match node (list_all (is_aggregate types) ks)

unfoldable pub group_shape : Phase → ℕ → Columns → List Name → List AggregateForm → Result Shape Refusal
group_shape phase node cols by aggregates =
    find_group node cols.names by aggregates >>= λ g. test_group node cols.types (by ++ map (λ a. a.name) aggregates) g.1 >>= λ u.
    Ok (record { op = plan.group phase g.0 g.1; renamed = []; columns = group_columns cols by aggregates g.0 g.1 })

-- a partial group is to stand below a final one, with exchanges and partial sorts alone between
unfoldable pub partial_shape : Bool → ℕ → Columns → List Name → List AggregateForm → Result Shape Refusal
partial_shape under node cols by aggregates = test_phase node under >>= λ u. group_shape plan.partial node cols by aggregates

-- the columns and the aggregates of a partial group, or of the one below a partial sort
abbrev pub parts_made : Unary → Option (List ℕ × List Aggregate) → Option (List ℕ × List Aggregate)
parts_made (plan.select fs) below = None
parts_made (plan.project es) below = None
parts_made (plan.distinct cols) below = None
parts_made (plan.sort false order) below = None
parts_made (plan.sort true order) below = below
parts_made (plan.group plan.plain by aggregates) below = None
parts_made (plan.group plan.partial by aggregates) below = Some (by, aggregates)
parts_made (plan.group plan.final by aggregates) below = None
parts_made (plan.limit rows) below = None

-- the same of the first node from here down that is neither an exchange nor a partial sort
abbrev pub parts_of : Outline → Option (List ℕ × List Aggregate)
parts_of (scan h r m z p) = None
parts_of (unary h op flags t) = parts_made op (parts_of t)
parts_of (binary h op t u) = None
parts_of (exchange h k m t) = parts_of t

-- a partial sort, and those below it, are on columns before this one
abbrev pub sort_before : ℕ → Unary → Bool → Bool
sort_before end (plan.select fs) below = true
sort_before end (plan.project es) below = true
sort_before end (plan.distinct cols) below = true
sort_before end (plan.sort false order) below = true
sort_before end (plan.sort true order) below = all_below end (order_columns order) && below
sort_before end (plan.group phase by aggregates) below = true
sort_before end (plan.limit rows) below = true

-- the partial sorts from here down to the first node that is neither an exchange nor such a sort are on columns before this one
abbrev pub sorts_before : ℕ → Outline → Bool
sorts_before end (scan h r m z p) = true
sorts_before end (unary h op flags t) = sort_before end op (sorts_before end t)
sorts_before end (binary h op t u) = true
sorts_before end (exchange h k m t) = sorts_before end t

-- a final group puts together what the partial one below it gives, and has its columns. The sorts between are on columns that the partial one groups by
unfoldable pub final_shape : ℕ → Outline → Option (List ℕ × List Aggregate) → Result Shape Refusal
final_shape node t None = Err (phase_mismatch node)
final_shape node t (Some g) =
    test_phase node (sorts_before (length g.0) t) >>= λ u.
    Ok (record { op = plan.group plan.final (first_columns (length g.0)) (merged (length g.0) g.1); renamed = []; columns = columns t })

-- whether the way up through exchanges and partial sorts alone reaches a final group decides for a partial one and for a partial sort, which is
-- to have a partial group below as well
unfoldable pub unary_shape : Bool → ℕ → Outline → UnaryForm → Result Shape Refusal
unary_shape under node t (form.select fs) = select_shape node (columns t) fs
unary_shape under node t (form.project es) = project_shape node (columns t) es
unary_shape under node t (form.distinct os) = distinct_shape node (columns t) os
unary_shape under node t (form.sort order) = sort_shape false node (columns t) order
unary_shape under node t (form.partial_sort order) = partial_sort_shape (under && is_some (parts_of t)) node (columns t) order
unary_shape under node t (form.group by aggregates) = group_shape plan.plain node (columns t) by aggregates
unary_shape under node t (form.partial_group by aggregates) = partial_shape under node (columns t) by aggregates
unary_shape under node t form.final_group = final_shape node t (parts_of t)
unary_shape under node t (form.limit rows) = limit_shape (columns t) rows

unfoldable pub unary_typed : Names → Bool → ℕ → ClaimForm → UnaryForm → Outline → Result Outline Refusal
unary_typed s under node c op t = unary_shape under node t op >>= λ o. with_claim s node o.columns c >>= λ h. Ok (unary h o.op o.renamed t)

-- ---- operators over two inputs

unfoldable pub find_pair : ℕ → List Name → List Name → Name × Name → Result (ℕ × ℕ) Refusal
find_pair node ls rs p = find_column node ls p.0 >>= λ l. find_column node rs p.1 >>= λ r. Ok (l, r)

unfoldable pub find_pairs : ℕ → List Name → List Name → List (Name × Name) → Result (List (ℕ × ℕ)) Refusal
find_pairs node ls rs on = walk_onto (find_pair node ls rs) [] on

-- the left columns, then the right ones
abbrev pub both_columns : Columns → Columns → Columns
both_columns l r = record { names = l.names ++ r.names; types = l.types ++ r.types }

-- an output name twice comes before a pair twice
unfoldable pub test_join : ℕ → List Name → List (Name × Name) → Result ⊤ Refusal
test_join node names on = test_distinct node names >>= λ u. test_distinct_pairs node on >>= λ v. test_width node (length names)

-- the pairs of a join
unfoldable pub join_pairs : ℕ → Columns → Columns → List (Name × Name) → Result (List (ℕ × ℕ)) Refusal
join_pairs node l r on =
    find_pairs node l.names r.names on >>= λ ps. test_join node (l.names ++ r.names) on >>= λ u.
    test_match node (list_all (is_pair l.types r.types) ps) >>= λ v. Ok ps

-- the pairs and the conditions of a semi or an anti join. A name in a condition that both inputs have is the left one's
unfoldable pub find_matches : ℕ → Columns → Columns → List (Name × Name) → List ConditionForm → Result (List (ℕ × ℕ) × List Condition) Refusal
find_matches node l r on cs = find_pairs node l.names r.names on >>= λ ps. find_conditions node (l.names ++ r.names) cs >>= λ ks. Ok (ps, ks)

-- all names come before a pair twice, and that before types
unfoldable pub join_matches : ℕ → Columns → Columns → List (Name × Name) → List ConditionForm → Result (List (ℕ × ℕ) × List Condition) Refusal
join_matches node l r on cs =
    find_matches node l r on cs >>= λ g. test_distinct_pairs node on >>= λ u.
    test_match node (list_all (is_pair l.types r.types) g.0 && list_all (is_condition (l.types ++ r.types)) g.1) >>= λ v. Ok g

-- how a join finds its pairs of rows: by merging, all their columns rise
abbrev pub method_of : (merging : Bool) → List (ℕ × ℕ) → JoinMethod
method_of false on = by_hashing
method_of true on = by_merging (map (λ p. false) on)

-- an operator over two inputs, and its output
pub record Joint : Type 0 where
  pub op : Binary
  pub columns : Columns

unfoldable pub binary_shape : ℕ → Columns → Columns → BinaryForm → Result Joint Refusal
binary_shape node l r form.union = test_match node (types_eq l.types r.types) >>= λ u. Ok (record { op = plan.union; columns = l })
binary_shape node l r (form.join merging on) = join_pairs node l r on >>= λ ps. Ok (record { op = plan.join (method_of merging ps) ps; columns = both_columns l r })
binary_shape node l r (form.semi_join matched on cs) = join_matches node l r on cs >>= λ g. Ok (record { op = plan.semi_join matched g.0 g.1; columns = l })

unfoldable pub binary_typed : Names → ℕ → ClaimForm → BinaryForm → Outline → Outline → Result Outline Refusal
binary_typed s node c op t u = binary_shape node (columns t) (columns u) op >>= λ o. with_claim s node o.columns c >>= λ h. Ok (binary h o.op t u)

-- ---- exchanges

-- a size, then a range, then columns
unfoldable pub find_kind : Names → ℕ → List Name → KindForm → Result ExchangeKind Refusal
find_kind s node names (form.hash size route cols) = find_size s size >>= λ z. find_columns node names cols >>= λ ps. Ok (route_to z (by_hash route) ps)
find_kind s node names (form.range size range col) =
    find_size s size >>= λ z. find_range s node range >>= λ k. find_column node names col >>= λ p. Ok (route_to z (by_range k) (p ∷ []))
find_kind s node names (form.round size) = find_size s size >>= λ z. Ok (plan.round z)
find_kind s node names (form.broadcast size) = find_size s size >>= λ z. Ok (plan.broadcast z)
find_kind s node names form.gather = Ok plan.gather
find_kind s node names form.concat = Ok plan.concat

abbrev pub kind_names : KindForm → List Name
kind_names (form.hash size route cols) = cols
kind_names (form.range size range col) = []
kind_names (form.round size) = []
kind_names (form.broadcast size) = []
kind_names form.gather = []
kind_names form.concat = []

abbrev pub kind_fits : Names → List ColType → ExchangeKind → Bool
kind_fits s types (route_to z r cols) = route_fits s types r cols
kind_fits s types (plan.round z) = true
kind_fits s types (plan.broadcast z) = true
kind_fits s types plan.gather = true
kind_fits s types plan.concat = true

-- a kind and the order to merge by: the routed columns come before those
unfoldable pub exchange_columns : Names → ℕ → List Name → KindForm → List OrderText → Result (ExchangeKind × List OrderEntry) Refusal
exchange_columns s node names kind merge = find_kind s node names kind >>= λ k. find_order node names merge >>= λ ms. Ok (k, ms)

unfoldable pub test_exchange : ℕ → KindForm → List OrderText → Result ⊤ Refusal
test_exchange node kind merge = test_distinct node (kind_names kind) >>= λ u. test_distinct node (order_names merge)

unfoldable pub exchange_shape : Names → ℕ → Columns → KindForm → List OrderText → Result (ExchangeKind × List OrderEntry) Refusal
exchange_shape s node cols kind merge =
    exchange_columns s node cols.names kind merge >>= λ x. test_exchange node kind merge >>= λ u. test_match node (kind_fits s cols.types x.0) >>= λ v. Ok x

unfoldable pub exchange_typed : Names → ℕ → ClaimForm → KindForm → List OrderText → Outline → Result Outline Refusal
exchange_typed s node c kind merge t =
    exchange_shape s node (columns t) kind merge >>= λ k. with_claim s node (columns t) c >>= λ h. Ok (exchange h k.0 k.1 t)

-- ---- the walk: nodes are numbered in preorder and tested in post-order

-- whether the way up from the input of an operator reaches a final group, where the flag says it of the operator itself
abbrev pub under_final : Bool → UnaryForm → Bool
under_final under (form.select fs) = false
under_final under (form.project es) = false
under_final under (form.distinct os) = false
under_final under (form.sort order) = false
under_final under (form.partial_sort order) = under
under_final under (form.group by aggregates) = false
under_final under (form.partial_group by aggregates) = false
under_final under form.final_group = true
under_final under (form.limit rows) = false

-- the typed nodes of a tree whose top has this number, and the number after its last; the flag says whether the way up from here through
-- exchanges and partial sorts alone reaches a final group
unfoldable pub typed_in : Names → Bool → ℕ → Tree → Result (Outline × ℕ) Refusal
typed_in s under node (form.scan c f) = scan_typed s node c f >>= λ o. Ok (o, node + 1)
typed_in s under node (form.unary c op t) = typed_in s (under_final under op) (node + 1) t >>= λ i. unary_typed s under node c op i.0 >>= λ o. Ok (o, i.1)
typed_in s under node (form.binary c op t u) =
    typed_in s false (node + 1) t >>= λ l. typed_in s false l.1 u >>= λ r. binary_typed s node c op l.0 r.0 >>= λ o. Ok (o, r.1)
typed_in s under node (form.exchange c k m t) = typed_in s under (node + 1) t >>= λ i. exchange_typed s node c k m i.0 >>= λ o. Ok (o, i.1)

-- a size name that is `one`, is declared before or is the 17th is refused
abbrev pub is_bad_size : List Name → Name → Bool
is_bad_size before name = nat_le max_size_names (length before) || (bytes_eq name (codes "one") || list_any (bytes_eq name) before)

unfoldable pub test_sizes : List Name → Result ⊤ Refusal
test_sizes names = tested_onto is_bad_size bad_size [] names

-- a range that is declared before or has bad bounds is refused
abbrev pub is_bad_range : List RangeForm → RangeForm → Bool
is_bad_range before r = list_any (λ q. bytes_eq r.name q.name) before || not (is_range r.bounds)

unfoldable pub test_ranges : List RangeForm → Result ⊤ Refusal
test_ranges ranges = tested_onto is_bad_range (λ r. bad_range r.name) [] ranges

-- the typed plan of a document over a catalog
unfoldable pub resolved : Document → List Relation → Result TypedPlanView Refusal
resolved d catalog =
    test_sizes d.sizes >>= λ u. test_ranges d.ranges >>= λ v.
    typed_in (record { catalog = catalog; ranges = d.ranges; sizes = d.sizes }) false 0 d.root >>= λ t.
    Ok (record { names = record { catalog = catalog; ranges = d.ranges; sizes = d.sizes }; total = d.total; derives = d.derives; root = t.0 })
