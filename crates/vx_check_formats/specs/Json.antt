-- A plan as a JSON value: its nodes in preorder, each with what it is, where its rows come from and what it claims.
use Rattle.std.specs.Prelude.{ℕ, ◌==◌, ◌++◌, Bool, true, false, not, cond, List, [], ◌∷◌, map, filter, flat_map, codes}
use Rattle.std.specs.List.{list_any}
use Rattle.serde_json.specs.Data.{Data, boolean, number, unsigned, string, array, object, Members, no_members, put}
use Rattle.serde_json.specs.Find.{of_integer}
use Rattle.serde_json.specs.View.{items_of}
use Rattle.vx_rows_values.specs.declared.value.ColType.{ColType}
use Rattle.vx_rows_values.specs.declared.value.ColType.TheVariants as type
use Rattle.vx_rows_values.specs.declared.order.OrderEntry.{OrderEntry}
use Rattle.vx_rows_values.specs.Values.{Name, Val, num, text}
use Rattle.vx_plan_nodes.specs.Plan.{Size, one_worker, group_of, Route, by_hash, by_range, Part, one, any, all, routed, Claim, Unary, select, project, distinct, sort, group, limit, Phase, plain, partial, final, JoinMethod, by_hashing, by_merging, Binary, union, join, semi_join, ExchangeKind, route_to, round, broadcast, gather, concat, size}
use Rattle.vx_plan_nodes.specs.Names.{Names}
use Rattle.vx_plan_nodes.specs.Outline.{Outline, scan, unary, binary, exchange, Columns, top, columns, plan_in}
use Rattle.vx_plan_nodes.specs.declared.typed_plan.TypedPlan.{TypedPlan}
use Rattle.vx_plan_nodes.specs.TypedView.{resolved_of}
use Rattle.vx_plan_nodes.specs.Phases.{first_columns}
use Rattle.vx_plan_nodes.specs.Types.{width}
use Rattle.vx_catalog_relations.specs.Catalog.{relation_at}
use Rattle.vx_plan_facts.specs.Equal.{Equality, equal_at}
use Rattle.vx_plan_facts.specs.Fixed.{Values, fixed_at}
use Rattle.vx_plan_facts.specs.Facts.{each_once}
use Rattle.vx_check.specs.Explain.{name_at, description}

-- ---- columns, sizes, routes and types

-- columns by their names
abbrev pub columns_json : List Name → List ℕ → Data
columns_json names cols = array (items_of (map (λ c. string (name_at names c)) cols))

abbrev pub keys_json : List Name → List (List ℕ) → Data
keys_json names keys = array (items_of (map (columns_json names) keys))

-- a column of an order: its name where it rises, and where it falls an object that says so
abbrev pub entry_json : List Name → OrderEntry → Data
entry_json names e =
    cond e.falling (object (put (codes "desc") (boolean true) (put (codes "column") (string (name_at names e.column)) no_members))) (string (name_at names e.column))

abbrev pub order_json : List Name → List OrderEntry → Data
order_json names order = array (items_of (map (entry_json names) order))

abbrev pub names_json : List Name → Data
names_json names = array (items_of (map string names))

abbrev pub type_json : ColType → Data
type_json type.Int = string (codes "int")
type_json type.Text = string (codes "text")

abbrev pub types_json : List ColType → Data
types_json types = array (items_of (map type_json types))

-- how many workers: 1, or as many as a size name is bound to
abbrev pub size_json : Names → Size → Data
size_json s one_worker = number (unsigned 1)
size_json s (group_of k) = string (name_at s.sizes k)

abbrev pub route_word : Route → List ℕ
route_word (by_hash name) = codes "hash"
route_word (by_range k) = codes "range"

abbrev pub route_name : Names → Route → Name
route_name s (by_hash name) = name
route_name s (by_range k) = name_at (map (λ r. r.name) s.ranges) k

-- ---- claims

-- a route by its kind, and the columns by which it sends
abbrev pub routed_json : Names → List Name → Route → List ℕ → Data
routed_json s names r cols = object (put (codes "columns") (columns_json names cols) (put (route_word r) (string (route_name s r)) no_members))

abbrev pub part_json : Names → List Name → Part → Data
part_json s names one = string (codes "one")
part_json s names any = string (codes "any")
part_json s names all = string (codes "all")
part_json s names (routed r cols) = routed_json s names r cols

-- a claim, over columns of these names
abbrev pub with_claim : Names → List Name → Claim → Members → Members
with_claim s names c ms = put (codes "keys") (keys_json names c.keys) (put (codes "order") (order_json names c.order) (put (codes "part") (part_json s names c.part) ms))

-- ---- what is known of columns

-- those of w columns that are equal to this one
abbrev pub class_at : ℕ → Equality → ℕ → List ℕ
class_at w e c = filter (e c) (first_columns w)

-- two columns or more, of which this one is the first
abbrev pub begins_with : ℕ → List ℕ → Bool
begins_with c (d ∷ x ∷ cols) = d == c
begins_with c cols = false

-- the class of a column, where it stands
abbrev pub class_if : ℕ → List ℕ → List (List ℕ)
class_if c class = cond (begins_with c class) (class ∷ []) []

-- the columns that are equal to others, each class where its first one stands
abbrev pub classes : ℕ → Equality → List (List ℕ)
classes w e = flat_map (λ c. class_if c (class_at w e c)) (first_columns w)

abbrev pub value_json : Val → Data
value_json (num z) = number (of_integer z)
value_json (text s) = string s

-- a column with a value that it has in every row
abbrev pub fixed_json : List Name → ℕ → Val → Data
fixed_json names c v = object (put (codes "value") (value_json v) (put (codes "column") (string (name_at names c)) no_members))

-- no column before it is equal to it
abbrev pub is_first : Equality → ℕ → Bool
is_first e c = not (list_any (λ d. e d c) (first_columns c))

-- a column with its values, if it is the first of its class
abbrev pub fixed_if : List Name → Equality → Values → ℕ → List Data
fixed_if names e f c = cond (is_first e c) (map (fixed_json names c) (each_once (f c))) []

-- the fixed ones of w columns, of equal ones the first
abbrev pub all_fixed : List Name → ℕ → Equality → Values → List Data
all_fixed names w e f = flat_map (fixed_if names e f) (first_columns w)

abbrev pub with_facts : List Name → ℕ → Equality → Values → Members → Members
with_facts names w e f ms = put (codes "fixed") (array (items_of (all_fixed names w e f))) (put (codes "equal") (keys_json names (classes w e)) ms)

-- of the columns of a node
abbrev pub with_facts_at : Names → Outline → Members → Members
with_facts_at s t ms =
    with_facts (columns t).names (width (relation_at s.catalog) (plan_in t)) (equal_at (relation_at s.catalog) (plan_in t)) (fixed_at (relation_at s.catalog) (plan_in t)) ms

-- ---- operators

abbrev pub phase_word : Phase → List ℕ
phase_word plain = codes "group"
phase_word partial = codes "partial-group"
phase_word final = codes "final-group"

abbrev pub unary_word : Unary → List ℕ
unary_word (select fs) = codes "select"
unary_word (project es) = codes "project"
unary_word (distinct cols) = codes "distinct"
unary_word (sort of_parts order) = cond of_parts (codes "partial-sort") (codes "sort")
unary_word (group phase by aggregates) = phase_word phase
unary_word (limit rows) = codes "limit"

abbrev pub method_word : JoinMethod → List ℕ
method_word by_hashing = codes "hash-join"
method_word (by_merging falls) = codes "merge-join"

abbrev pub binary_word : Binary → List ℕ
binary_word union = codes "union"
binary_word (join method on) = method_word method
binary_word (semi_join matched on conditions) = cond matched (codes "hash-semi-join") (codes "hash-anti-join")

abbrev pub op_word : Outline → List ℕ
op_word (scan h r m z p) = codes "scan"
op_word (unary h op renamed t) = unary_word op
op_word (binary h op t u) = binary_word op
op_word (exchange h k m t) = codes "exchange"

-- the node's number, its operator in a word, and what it does in the words of the text that explains the plan
abbrev pub with_operator : Names → Outline → Members → Members
with_operator s t ms = put (codes "text") (string (description s t)) (put (codes "op") (string (op_word t)) (put (codes "number") (number (unsigned (top t).number)) ms))

-- the numbers of the nodes below, left before right
abbrev pub inputs : Outline → List ℕ
inputs (scan h r m z p) = []
inputs (unary h op renamed t) = (top t).number ∷ []
inputs (binary h op t u) = (top t).number ∷ (top u).number ∷ []
inputs (exchange h k m t) = (top t).number ∷ []

abbrev pub numbers_json : List ℕ → Data
numbers_json ns = array (items_of (map (λ n. number (unsigned n)) ns))

-- the nodes below, and how many workers have the node's rows
abbrev pub with_workers : Names → Outline → Members → Members
with_workers s t ms = put (codes "workers") (size_json s (size (plan_in t))) (put (codes "inputs") (numbers_json (inputs t)) ms)

-- the names and the types of the output's columns
abbrev pub with_output : Columns → Members → Members
with_output c ms = put (codes "types") (types_json c.types) (put (codes "output") (names_json c.names) ms)

-- ---- exchanges

abbrev pub with_route : Names → List Name → Route → List ℕ → Members → Members
with_route s inputs r cols ms = put (codes "columns") (columns_json inputs cols) (put (codes "route") (string (route_name s r)) (put (codes "kind") (string (route_word r)) ms))

abbrev pub with_kind : Names → List Name → ExchangeKind → Members → Members
with_kind s inputs (route_to z r cols) ms = with_route s inputs r cols ms
with_kind s inputs (round z) ms = put (codes "kind") (string (codes "round")) ms
with_kind s inputs (broadcast z) ms = put (codes "kind") (string (codes "broadcast")) ms
with_kind s inputs gather ms = put (codes "kind") (string (codes "gather")) ms
with_kind s inputs concat ms = put (codes "kind") (string (codes "concat")) ms

-- how an exchange sends, by columns of its input, and by which order it merges; other nodes do neither
abbrev pub with_exchange : Names → Outline → Members → Members
with_exchange s (scan h r m z p) ms = ms
with_exchange s (unary h op renamed t) ms = ms
with_exchange s (binary h op t u) ms = ms
with_exchange s (exchange h k m t) ms = put (codes "merge") (order_json (columns t).names m) (with_kind s (columns t).names k ms)

-- ---- nodes

unfoldable pub node_json : Names → Outline → Data
node_json s t = object (with_exchange s t (with_output (columns t) (with_facts_at s t (with_claim s (columns t).names (top t).claim (with_workers s t (with_operator s t no_members))))))

-- in preorder, as the lines of the text that explains the plan
abbrev pub nodes_json : Names → Outline → List Data
nodes_json s (scan h r m z p) = node_json s (scan h r m z p) ∷ []
nodes_json s (unary h op renamed t) = node_json s (unary h op renamed t) ∷ nodes_json s t
nodes_json s (binary h op t u) = node_json s (binary h op t u) ∷ (nodes_json s t ++ nodes_json s u)
nodes_json s (exchange h k m t) = node_json s (exchange h k m t) ∷ nodes_json s t

-- with whether the plan asks for what is known of columns, if it does
abbrev pub with_derive : Bool → Members → Members
with_derive false ms = ms
with_derive true ms = put (codes "derive") (boolean true) ms

-- the nodes, whether the plan's order is total, and whether it asks for what is known of columns
abbrev pub outline_json : Names → (total derives : Bool) → Outline → Data
outline_json s total derives t = object (with_derive derives (put (codes "total") (boolean total) (put (codes "nodes") (array (items_of (nodes_json s t))) no_members)))

abbrev pub plan_json : TypedPlan → Data
plan_json p = outline_json (resolved_of p).names (resolved_of p).total (resolved_of p).derives (resolved_of p).root
