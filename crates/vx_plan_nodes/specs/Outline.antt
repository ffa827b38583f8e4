-- Typed plans with the names that they keep, and the plan of the definitions that each stands for.
use Rattle.std.specs.Prelude.{ℕ, List, [], map, Bool, true, false, string_bytes, option_and_then}
use Rattle.vx_rows_values.specs.declared.order.OrderEntry.{OrderEntry}
use Rattle.std.specs.Arc.{arc_value}
use Rattle.vx_rows_values.specs.declared.value.ColType.{ColType}
use Rattle.vx_rows_values.specs.ValueView.{val_of, test_of}
use Rattle.vx_plan_nodes.specs.Plan.{Size, one_worker, group_of, Route, by_hash, by_range, Part, one, any, all, routed, Claim, Side, column, constant, Condition, Function, Expression, input, value, call, Operands, no_operands, operand, Filter, comparing, computing, Entry, copy_of, made_by, Aggregate, least, greatest, sum, count_rows, Unary, select, project, distinct, sort, group, limit, Phase, plain, partial, final, by_hashing, by_merging, Binary, union, join, semi_join, ExchangeKind, route_to, round, broadcast, gather, concat, Plan}
use Rattle.vx_plan_nodes.specs.Plan as plan
use Rattle.vx_rows_values.specs.Values.{Name}
use Rattle.vx_plan_nodes.specs.declared.typed.Size as rust_size
use Rattle.vx_plan_nodes.specs.declared.typed.Size.TheVariants as size
use Rattle.vx_plan_nodes.specs.declared.typed.Route as rust_route
use Rattle.vx_plan_nodes.specs.declared.typed.Route.TheVariants as route
use Rattle.vx_plan_nodes.specs.declared.typed.Part as rust_part
use Rattle.vx_plan_nodes.specs.declared.typed.Part.TheVariants as part
use Rattle.vx_plan_nodes.specs.declared.typed.Claim as rust_claim
use Rattle.vx_plan_nodes.specs.declared.typed.Side as rust_side
use Rattle.vx_plan_nodes.specs.declared.typed.Side.TheVariants as side
use Rattle.vx_plan_nodes.specs.declared.typed.Condition as rust_condition
use Rattle.vx_functions.specs.Standard.{named, signature, meaning}
use Rattle.vx_plan_nodes.specs.declared.typed.Expression as rust_expression
use Rattle.vx_plan_nodes.specs.declared.typed.Expression.{Row_of-Expression, end_of-Expression, more_of-Expression}
use Rattle.vx_plan_nodes.specs.declared.typed.Expression.TheVariants as expression
use Rattle.vx_plan_nodes.specs.declared.typed.Filter as rust_filter
use Rattle.vx_plan_nodes.specs.declared.typed.Filter.TheVariants as filter
use Rattle.vx_plan_nodes.specs.declared.typed.Entry as rust_entry
use Rattle.vx_plan_nodes.specs.declared.typed.Entry.TheVariants as entry
use Rattle.vx_plan_nodes.specs.declared.typed.Aggregate as rust_aggregate
use Rattle.vx_plan_nodes.specs.declared.typed.Aggregate.TheVariants as aggregate
use Rattle.vx_plan_nodes.specs.declared.typed.Columns as rust_columns
use Rattle.vx_plan_nodes.specs.declared.typed.Phase as rust_phase
use Rattle.vx_plan_nodes.specs.declared.typed.Phase.TheVariants as phase
use Rattle.vx_plan_nodes.specs.declared.typed.SortPhase as rust_sort_phase
use Rattle.vx_plan_nodes.specs.declared.typed.SortPhase.TheVariants as sort_phase
use Rattle.vx_plan_nodes.specs.declared.typed.Head as rust_head
use Rattle.vx_plan_nodes.specs.declared.typed.Unary as rust_unary
use Rattle.vx_plan_nodes.specs.declared.typed.Unary.TheVariants as op
use Rattle.vx_plan_nodes.specs.declared.typed.Binary as rust_binary
use Rattle.vx_plan_nodes.specs.declared.typed.Binary.TheVariants as both
use Rattle.vx_plan_nodes.specs.declared.typed.ExchangeKind as rust_kind
use Rattle.vx_plan_nodes.specs.declared.typed.ExchangeKind.TheVariants as kind
use Rattle.vx_plan_nodes.specs.declared.typed.TypedNode.{TypedNode}
use Rattle.vx_plan_nodes.specs.declared.typed.TypedNode.TheVariants as node

-- an output's columns: as many names as types
pub record Columns : Type 0 where
  pub names : List Name
  pub types : List ColType

-- what every node has
pub record Top : Type 0 where
  pub number : ℕ
  pub claim : Claim
  pub columns : Columns

-- a typed plan with its names: each output's, a scan's prefix, and which kept columns have a new name
pub data Outline : Type 0 where
  scan : Top → (relation : ℕ) → (shared : Bool) → Size → (prefix : List ℕ) → Outline
  unary : Top → Unary → (renamed : List Bool) → Outline → Outline
  binary : Top → Binary → Outline → Outline → Outline
  exchange : Top → ExchangeKind → List OrderEntry → Outline → Outline

-- the node at the top
abbrev pub top : Outline → Top
top (scan h r m z p) = h
top (unary h op flags t) = h
top (binary h op t u) = h
top (exchange h k m t) = h

abbrev pub columns : Outline → Columns
columns t = (top t).columns

-- the plan without the names
abbrev pub plan_in : Outline → Plan
plan_in (scan h r m z p) = plan.scan h.number h.claim r m z
plan_in (unary h op flags t) = plan.unary h.number h.claim op (plan_in t)
plan_in (binary h op t u) = plan.binary h.number h.claim op (plan_in t) (plan_in u)
plan_in (exchange h k m t) = plan.exchange h.number h.claim k m (plan_in t)

-- ---- the values of the program, without where they lie in memory

abbrev pub size_of : rust_size.Size → Size
size_of size.One = one_worker
size_of (size.Group k) = group_of k

abbrev pub route_of : rust_route.Route → Route
route_of (route.Hash name) = by_hash (string_bytes name)
route_of (route.Range k) = by_range k

abbrev pub part_of : rust_part.Part → Part
part_of part.One = one
part_of part.Any = any
part_of part.All = all
part_of (part.Routed r cols) = routed (route_of r) cols.items

abbrev pub claim_of : rust_claim.Claim → Claim
claim_of c = record { part = part_of c.part; order = c.order.items; keys = map (λ k. k.items) c.keys.items }

abbrev pub side_of : rust_side.Side → Side
side_of (side.Column c) = column c
side_of (side.Constant v) = constant (val_of v)

abbrev pub condition_of : rust_condition.Condition → Condition
condition_of c = record { left = c.left; test = test_of c.test; right = side_of c.right }

-- the function of this name: one of the program's, or else one that takes no values
abbrev pub function_of : Name → Function
function_of name = record {
  name = name;
  signature = λ types. option_and_then (λ f. signature f types) (named name);
  answer = λ values. option_and_then (λ f. meaning f values) (named name);
}

abbrev mutual
  pub expression_of : rust_expression.Expression → Expression
  expression_of (expression.Input c) = input c
  expression_of (expression.Value v) = value (val_of v)
  expression_of (expression.Call' name t shape es) = call (function_of (string_bytes name)) t (operands_of es)

  pub operands_of : {n : _} → Row_of-Expression n → Operands
  operands_of end_of-Expression = no_operands
  operands_of (more_of-Expression e es) = operand (expression_of e) (operands_of es)

abbrev pub filter_of : rust_filter.Filter → Filter
filter_of (filter.Compared c) = comparing (condition_of c)
filter_of (filter.Computed e) = computing (expression_of (arc_value e))

abbrev pub entry_of : rust_entry.Entry → Entry
entry_of (entry.Kept k) = copy_of k.column
entry_of (entry.Made e) = made_by (expression_of (arc_value e))

-- whether it has a name that is not its input column's
abbrev pub is_renamed : rust_entry.Entry → Bool
is_renamed (entry.Kept k) = k.renamed
is_renamed (entry.Made e) = true

abbrev pub aggregate_of : rust_aggregate.Aggregate → Aggregate
aggregate_of (aggregate.Least c) = least c
aggregate_of (aggregate.Greatest c) = greatest c
aggregate_of (aggregate.Sum c) = sum c
aggregate_of aggregate.CountRows = count_rows

abbrev pub columns_of : rust_columns.Columns → Columns
columns_of c = record { names = c.names.items; types = c.types.items }

abbrev pub top_of : rust_head.Head → Top
top_of h = record { number = h.number; claim = claim_of h.claim; columns = columns_of (arc_value h.columns) }

abbrev pub phase_of : rust_phase.Phase → Phase
phase_of phase.Plain = plain
phase_of phase.Partial = partial
phase_of phase.Final = final

abbrev pub is_of_parts : rust_sort_phase.SortPhase → Bool
is_of_parts sort_phase.Plain = false
is_of_parts sort_phase.Partial = true

abbrev pub unary_of : rust_unary.Unary → Unary
unary_of (op.Select filters) = select (map filter_of filters.items)
unary_of (op.Project entries) = project (map entry_of entries.items)
unary_of (op.Distinct kept) = distinct (map (λ k. k.column) kept.items)
unary_of (op.Sort phase cols) = sort (is_of_parts phase) cols.items
unary_of (op.Group phase by aggregates) = group (phase_of phase) by.items (map aggregate_of aggregates.items)
unary_of (op.Limit n) = limit n

-- which kept columns have a new name; one that is computed always has
abbrev pub renamed_of : rust_unary.Unary → List Bool
renamed_of (op.Select filters) = []
renamed_of (op.Project entries) = map is_renamed entries.items
renamed_of (op.Distinct kept) = map (λ k. k.renamed) kept.items
renamed_of (op.Sort phase cols) = []
renamed_of (op.Group phase by aggregates) = []
renamed_of (op.Limit n) = []

abbrev pub binary_of : rust_binary.Binary → Binary
binary_of both.Union = union
binary_of (both.HashJoin on) = join by_hashing on.items
binary_of (both.MergeJoin on falls) = join (by_merging falls.items) on.items
binary_of (both.SemiJoin on conditions) = semi_join true on.items (map condition_of conditions.items)
binary_of (both.AntiJoin on conditions) = semi_join false on.items (map condition_of conditions.items)

abbrev pub kind_of : rust_kind.ExchangeKind → ExchangeKind
kind_of (kind.Route z r cols) = route_to (size_of z) (route_of r) cols.items
kind_of (kind.Round z) = round (size_of z)
kind_of (kind.Broadcast z) = broadcast (size_of z)
kind_of kind.Gather = gather
kind_of kind.Concat = concat

abbrev pub outline_of : TypedNode → Outline
outline_of (node.Scan h s) = scan (top_of h) s.relation s.shared (size_of s.size) (string_bytes s.prefix)
outline_of (node.Unary' h o p t) = unary (top_of h) (unary_of o) (renamed_of o) (outline_of t)
outline_of (node.Binary' h o p t q u) = binary (top_of h) (binary_of o) (outline_of t) (outline_of u)
outline_of (node.Exchange' h x p t) = exchange (top_of h) (kind_of x.kind) x.merge.items (outline_of t)

-- the plan that a typed node stands for
abbrev pub plan_of : TypedNode → Plan
plan_of t = plan_in (outline_of t)
