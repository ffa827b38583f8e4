-- Typed plans: each node names what there is, and compares, sums and routes what has the type for it.
use Rattle.vx_rows_values.specs.Lists.{is_some_list}
use Rattle.vx_rows_values.specs.declared.order.OrderEntry.{OrderEntry}
use Rattle.vx_rows_values.specs.Order.{order_columns}
use Rattle.std.specs.Prelude.{◌≡◌, ℕ, ◌==◌, nat_lt, nat_le, Bool, true, false, not, ◌&&◌, ◌||◌, List, [], ◌∷◌, ◌++◌, length, slice_index_or}
use Rattle.std.specs.List.{list_all, list_any}
use Rattle.std.specs.Ordering.{is_lt}
use Rattle.vx_rows_values.specs.declared.value.ColType.{ColType}
use Rattle.vx_rows_values.specs.declared.value.ColType.TheVariants.{Int, Text}
use Rattle.vx_rows_values.specs.Values.{Val, val_cmp}
use Rattle.vx_rows_values.specs.Types.{type_of, type_at, is_held}
use Rattle.vx_catalog_relations.specs.Relation.{Relation}
use Rattle.vx_catalog_relations.specs.Catalog.{relation_at, all_below, are_distinct}
use Rattle.vx_plan_nodes.specs.Plan.{Size, one_worker, group_of, Route, by_hash, by_range, Part, routed, Claim, Side, column, constant, Condition, Expression, input, value, call, Operands, no_operands, operand, Filter, comparing, computing, Entry, copy_of, made_by, Aggregate, least, greatest, sum, count_rows, Unary, select, project, distinct, sort, group, limit, JoinMethod, by_hashing, by_merging, Binary, union, join, semi_join, ExchangeKind, route_to, round, broadcast, gather, Plan, scan, unary, binary, exchange, concat}
use Rattle.vx_plan_nodes.specs.Types.{expression_type, types_of}
use Rattle.vx_plan_nodes.specs.Numbering.{is_numbered}
use Rattle.vx_plan_nodes.specs.Phases.{phase_fits, both_closed, is_open}
use Rattle.vx_rows_values.specs.Limits.{max_columns, max_size_names}

-- what the nodes of a plan may name: the relations of a catalog, the plan's ranges by their bounds, and so many size names
pub record Scope : Type 0 where
  pub catalog : List Relation
  pub ranges : List (List Val)
  pub sizes : ℕ

-- the bounds of the range with this number; past the end none
abbrev pub bounds_at : List (List Val) → ℕ → List Val
bounds_at ranges k = slice_index_or ranges k []

-- the same type
abbrev pub type_eq : ColType → ColType → Bool
type_eq Int Int = true
type_eq Int Text = false
type_eq Text Int = false
type_eq Text Text = true

-- the same types
abbrev pub types_eq : List ColType → List ColType → Bool
types_eq [] [] = true
types_eq [] (u ∷ us) = false
types_eq (t ∷ ts) [] = false
types_eq (t ∷ ts) (u ∷ us) = type_eq t u && types_eq ts us

-- columns of the first w, none of them twice
abbrev pub are_columns : ℕ → List ℕ → Bool
are_columns w cols = all_below w cols && are_distinct cols

-- the type of a range's bounds
abbrev pub range_type : List Val → ColType
range_type [] = Int
range_type (b ∷ bs) = type_of b

-- each bound is above those before it
abbrev pub rises : List Val → Bool
rises [] = true
rises (b ∷ bs) = list_all (λ x. is_lt (val_cmp b x)) bs && rises bs

-- 1 to 63 bounds of one type, strictly rising
abbrev pub is_range : List Val → Bool
is_range bounds =
    is_some_list bounds && (nat_le (length bounds) 63 && (list_all (λ b. is_held b && type_eq (type_of b) (range_type bounds)) bounds && rises bounds))

-- a size name that is declared
abbrev pub is_size : ℕ → Size → Bool
is_size sizes one_worker = true
is_size sizes (group_of k) = nat_lt k sizes

-- a hash route has a name and one column or more; a range route has the one column, of its range's type
abbrev pub is_routed : Scope → List ColType → Route → List ℕ → Bool
is_routed s types (by_hash name) cols = is_some_list name && (is_some_list cols && are_columns (length types) cols)
is_routed s types (by_range k) (c ∷ []) = nat_lt k (length s.ranges) && (nat_lt c (length types) && type_eq (type_at types c) (range_type (bounds_at s.ranges k)))
is_routed s types (by_range k) cols = false

-- a routed part has a route there is; the others name nothing
abbrev pub is_part : Scope → List ColType → Part → Bool
is_part s types (routed r cols) = is_routed s types r cols
is_part s types _ = true

-- a claim names output columns, none twice in one list, and a route there is
abbrev pub is_claim : Scope → List ColType → Claim → Bool
is_claim s types c = is_part s types c.part && (are_columns (length types) (order_columns c.order) && list_all (are_columns (length types)) c.keys)

-- both sides of a condition have one type
abbrev pub is_side : List ColType → ColType → Side → Bool
is_side types t (column c) = nat_lt c (length types) && type_eq t (type_at types c)
is_side types t (constant v) = is_held v && type_eq t (type_of v)

-- a column there is, compared with a value of its type
abbrev pub is_condition : List ColType → Condition → Bool
is_condition types c = nat_lt c.left (length types) && is_side types (type_at types c.left) c.right

-- columns there are; functions may have any name, and take what they are given
abbrev mutual
  pub is_expression : List ColType → Expression → Bool
  is_expression types (input c) = nat_lt c (length types)
  is_expression types (value v) = is_held v
  is_expression types (call f t es) = are_operands types es

  pub are_operands : List ColType → Operands → Bool
  are_operands types no_operands = true
  are_operands types (operand e es) = is_expression types e && are_operands types es

-- an expression that is a condition is a number
abbrev pub is_filter : List ColType → Filter → Bool
is_filter types (comparing c) = is_condition types c
is_filter types (computing e) = is_expression types e && type_eq (expression_type types e) Int

abbrev pub is_entry : List ColType → Entry → Bool
is_entry types (copy_of c) = nat_lt c (length types)
is_entry types (made_by e) = is_expression types e

-- only numbers are summed
abbrev pub is_aggregate : List ColType → Aggregate → Bool
is_aggregate types (least c) = nat_lt c (length types)
is_aggregate types (greatest c) = nat_lt c (length types)
is_aggregate types (sum c) = nat_lt c (length types) && type_eq (type_at types c) Int
is_aggregate types count_rows = true

-- columns there are, in lists with an entry where one is asked for
abbrev pub is_unary : List ColType → Unary → Bool
is_unary types (select fs) = is_some_list fs && list_all (is_filter types) fs
is_unary types (project es) = is_some_list es && list_all (is_entry types) es
is_unary types (distinct cols) = is_some_list cols && all_below (length types) cols
is_unary types (sort of_parts order) = is_some_list order && are_columns (length types) (order_columns order)
is_unary types (group phase by aggregates) =
    (is_some_list by || is_some_list aggregates) && (are_columns (length types) by && list_all (is_aggregate types) aggregates)
is_unary types (limit n) = true

-- the two columns of a pair have one type
abbrev pub is_pair : List ColType → List ColType → ℕ × ℕ → Bool
is_pair ts us p = nat_lt p.0 (length ts) && (nat_lt p.1 (length us) && type_eq (type_at ts p.0) (type_at us p.1))

-- no pair stands twice
abbrev pub are_distinct_pairs : List (ℕ × ℕ) → Bool
are_distinct_pairs [] = true
are_distinct_pairs (x ∷ xs) = not (list_any (λ y. (x.0 == y.0) && (x.1 == y.1)) xs) && are_distinct_pairs xs

-- a merge join has a direction for each pair
abbrev pub has_directions : JoinMethod → List (ℕ × ℕ) → Bool
has_directions by_hashing on = true
has_directions (by_merging falls) on = length falls == length on

-- a union of equal types; a join on some pairs, none twice, and of a semi or an anti join conditions on the left columns and then the right ones
abbrev pub is_binary : List ColType → List ColType → Binary → Bool
is_binary ts us union = types_eq ts us
is_binary ts us (join m on) = is_some_list on && (list_all (is_pair ts us) on && (are_distinct_pairs on && has_directions m on))
is_binary ts us (semi_join matched on conditions) =
    is_some_list on && (list_all (is_pair ts us) on && (are_distinct_pairs on && list_all (is_condition (ts ++ us)) conditions))

-- a size name and a route there are
abbrev pub is_kind : Scope → List ColType → ExchangeKind → Bool
is_kind s types (route_to z r cols) = is_size s.sizes z && is_routed s types r cols
is_kind s types (round z) = is_size s.sizes z
is_kind s types (broadcast z) = is_size s.sizes z
is_kind s types gather = true
is_kind s types concat = true

-- a concat does not merge
abbrev pub may_merge : ExchangeKind → List OrderEntry → Bool
may_merge concat (e ∷ order) = false
may_merge k order = true

-- not too many output columns, and a claim on them
abbrev pub is_output : Scope → List ColType → Claim → Bool
is_output s types c = nat_le (length types) max_columns && is_claim s types c

-- every node of the plan is typed
abbrev pub typed : Scope → Plan → Bool
typed s (scan n c r m z) =
    nat_lt r (length s.catalog) && (is_size s.sizes z && is_output s (types_of (relation_at s.catalog) (scan n c r m z)) c)
typed s (unary n c op p) =
    typed s p && (phase_fits op p && (is_unary (types_of (relation_at s.catalog) p) op && is_output s (types_of (relation_at s.catalog) (unary n c op p)) c))
typed s (binary n c op p q) =
    typed s p && (typed s q && (both_closed p q && (is_binary (types_of (relation_at s.catalog) p) (types_of (relation_at s.catalog) q) op && is_output s (types_of (relation_at s.catalog) (binary n c op p q)) c)))
typed s (exchange n c k m p) =
    typed s p && (is_kind s (types_of (relation_at s.catalog) p) k && (are_columns (length (types_of (relation_at s.catalog) p)) (order_columns m) && (may_merge k m && is_output s (types_of (relation_at s.catalog) p) c)))

-- what a typed plan keeps: its ranges are ranges, at most 16 size names, every node is typed, nodes are numbered in preorder from 0, and no partial
-- grouping is left without its final
pub record IsTyped (s : Scope) (p : Plan) : Type 0 where
  pub ranges : list_all is_range s.ranges ≡ true
  pub sizes : nat_le s.sizes max_size_names ≡ true
  pub nodes : typed s p ≡ true
  pub numbered : is_numbered 0 p ≡ true
  pub closed : is_open p ≡ false
