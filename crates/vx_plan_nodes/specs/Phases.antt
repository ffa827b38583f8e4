-- Grouping in two phases (Graefe's local and global aggregation): a partial grouping on each worker, exchanges and sorts, and a final one that puts the parts together.
use Rattle.std.specs.Prelude.{◌≡◌, ℕ, zero, suc, ◌==◌, Bool, true, false, not, ◌&&◌, List, [], ◌∷◌, ◌++◌, map, flat_map, length}
use Rattle.std.specs.List.{list_all}
use Rattle.vx_rows_values.specs.Values.{Row, row_eq, pick}
use Rattle.vx_rows_values.specs.Order.{order_columns, agree, sort_on}
use Rattle.vx_rows_values.specs.Bags.{SameRows}
use Rattle.vx_catalog_relations.specs.Catalog.{all_below}
use Rattle.vx_plan_nodes.specs.Plan.{partial, final, Aggregate, least, greatest, sum, count_rows, Unary, sort, group, Plan, scan, unary, binary, exchange}
use Rattle.vx_plan_nodes.specs.Serial.{aggregate_of, group_keys}

-- ---- which finals stand over which partials

-- n columns from column i on
abbrev pub columns_from : ℕ → ℕ → List ℕ
columns_from i zero = []
columns_from i (suc n) = i ∷ columns_from (suc i) n

-- the first n columns
abbrev pub first_columns : ℕ → List ℕ
first_columns n = columns_from 0 n

-- how a final puts together the aggregate that its partial gives in a column: sums and counts by their sum
abbrev pub merging : ℕ → Aggregate → Aggregate
merging i (least c) = least i
merging i (greatest c) = greatest i
merging i (sum c) = sum i
merging i count_rows = sum i

-- the aggregates of a final, whose partial has these from column i on
abbrev pub merged : ℕ → List Aggregate → List Aggregate
merged i [] = []
merged i (a ∷ aggregates) = merging i a ∷ merged (suc i) aggregates

-- the same aggregates
abbrev pub aggregate_eq : Aggregate → Aggregate → Bool
aggregate_eq (least c) (least d) = c == d
aggregate_eq (greatest c) (greatest d) = c == d
aggregate_eq (sum c) (sum d) = c == d
aggregate_eq count_rows count_rows = true
aggregate_eq _ _ = false

abbrev pub aggregates_eq : List Aggregate → List Aggregate → Bool
aggregates_eq [] [] = true
aggregates_eq (a ∷ aggregates) (b ∷ others) = aggregate_eq a b && aggregates_eq aggregates others
aggregates_eq _ _ = false

-- the same columns
abbrev pub columns_eq : List ℕ → List ℕ → Bool
columns_eq [] [] = true
columns_eq (c ∷ cols) (d ∷ ds) = (c == d) && columns_eq cols ds
columns_eq _ _ = false

-- a partial
abbrev pub is_partial : Unary → Bool
is_partial (group partial by aggregates) = true
is_partial op = false

-- a final
abbrev pub is_final : Unary → Bool
is_final (group final by aggregates) = true
is_final op = false

-- an operator over an open node or not: a partial opens, a sort of parts leaves open what is open
abbrev pub unary_open : Unary → Bool → Bool
unary_open (group partial by aggregates) below = true
unary_open (sort true cols) below = below
unary_open op below = false

-- a partial, or exchanges and sorts of parts alone above one: its rows are parts of groups, which a final is to put together
abbrev pub is_open : Plan → Bool
is_open (scan n c r m z) = false
is_open (unary n c op p) = unary_open op (is_open p)
is_open (binary n c op p q) = false
is_open (exchange n c k m p) = is_open p

-- this final is that of this partial
abbrev pub is_final_of : List ℕ → List Aggregate → Unary → Bool
is_final_of keys aggregates (group partial by parts) = columns_eq keys (first_columns (length by)) && aggregates_eq aggregates (merged (length by) parts)
is_final_of keys aggregates op = false

-- a sort of parts is on columns of the keys; any other operator is the partial
abbrev pub unary_opens : List ℕ → List Aggregate → Unary → Bool → Bool
unary_opens keys aggregates (sort true order) below = all_below (length keys) (order_columns order) && below
unary_opens keys aggregates op below = is_final_of keys aggregates op

-- the first node from here down that is neither an exchange nor a sort of parts is the partial of this final, and these sorts are on its keys
abbrev pub opens : List ℕ → List Aggregate → Plan → Bool
opens keys aggregates (scan n c r m z) = false
opens keys aggregates (unary n c op p) = unary_opens keys aggregates op (opens keys aggregates p)
opens keys aggregates (binary n c op p q) = false
opens keys aggregates (exchange n c k m p) = opens keys aggregates p

-- P13 at an operator over one input: a final stands over its partial, a sort of parts over an open node, any other over none
abbrev pub phase_fits : Unary → Plan → Bool
phase_fits (group final keys aggregates) p = opens keys aggregates p
phase_fits (sort true cols) p = is_open p
phase_fits op p = not (is_open p)

-- and at one over two
abbrev pub both_closed : Plan → Plan → Bool
both_closed p q = not (is_open p) && not (is_open q)

-- P13 at every node, from below
abbrev pub phased : Plan → Bool
phased (scan n c r m z) = true
phased (unary n c op p) = phased p && phase_fits op p
phased (binary n c op p q) = phased p && (phased q && both_closed p q)
phased (exchange n c k m p) = phased p

-- the same as a node itself sees it: a final has its partial below, a partial is reached from a final through exchanges and sorts of parts alone, and
-- a sort of parts is on such a way. The flag says whether the way up from here through these alone reaches a final
abbrev pub phase_seen : Bool → Unary → Plan → Bool
phase_seen under (group partial by aggregates) p = under
phase_seen under (group final keys aggregates) p = opens keys aggregates p
phase_seen under (sort true cols) p = under && is_open p
phase_seen under op p = true

-- and what an operator's input then sees
abbrev pub seen_below : Bool → Unary → Bool
seen_below under (group final keys aggregates) = true
seen_below under (sort true cols) = under
seen_below under op = false

abbrev pub phases_seen : Bool → Plan → Bool
phases_seen under (scan n c r m z) = true
phases_seen under (unary n c op p) = phase_seen under op p && phases_seen (seen_below under op) p
phases_seen under (binary n c op p q) = phases_seen false p && phases_seen false q
phases_seen under (exchange n c k m p) = phases_seen under p

-- ---- what the rows of an open node are

-- the row is the group row of these rows, of which there are some and which all have one key
abbrev pub is_row_of : List ℕ → List Aggregate → Row → List Row → Bool
is_row_of by aggregates row [] = false
is_row_of by aggregates row (x ∷ xs) =
    list_all (agree by x) xs && row_eq row (pick by x ++ map (λ a. aggregate_of a (x ∷ xs)) aggregates)

-- the list is parts of the groups of these rows: the rows are, in some order, lists joined, one for each row of the list, which is the group row of its list
pub record Parts (by : List ℕ) (aggregates : List Aggregate) (base : List Row) (xs : List Row) : Type 0 where
  pub pieces : List (Row × List Row)
  pub rows_are : map (λ t. t.0) pieces ≡ xs
  pub each : list_all (λ t. is_row_of by aggregates t.0 t.1) pieces ≡ true
  pub whole : SameRows (flat_map (λ t. t.1) pieces) base

-- the plan whose serial rows the claim of a node speaks of: at an open node the input of the partial
abbrev pub unary_spoken : Unary → (input below whole : Plan) → Plan
unary_spoken (group partial by aggregates) input below whole = input
unary_spoken (sort true cols) input below whole = below
unary_spoken op input below whole = whole

abbrev pub spoken : Plan → Plan
spoken (scan n c r m z) = scan n c r m z
spoken (unary n c op p) = unary_spoken op p (spoken p) (unary n c op p)
spoken (binary n c op p q) = binary n c op p q
spoken (exchange n c k m p) = spoken p

-- what a list of rows must be to stand for these serial rows: the same, each as often; at an open node parts of their groups
abbrev pub UnaryGives : Unary → (below : List Row → List Row → Type 0) → List Row → List Row → Type 0
UnaryGives (group partial by aggregates) below base xs = Parts by aggregates base xs
UnaryGives (sort true cols) below base xs = below base xs
UnaryGives op below base xs = SameRows xs base

abbrev pub Gives : Plan → List Row → List Row → Type 0
Gives (scan n c r m z) base xs = SameRows xs base
Gives (unary n c op p) base xs = UnaryGives op (Gives p) base xs
Gives (binary n c op p q) base xs = SameRows xs base
Gives (exchange n c k m p) base xs = Gives p base xs

-- the list of which order and keys are claimed: the serial rows; at an open node their keys in order of first occurrence, after the sorts of parts up to it
abbrev pub unary_listed : Unary → (below : List Row → List Row) → List Row → List Row
unary_listed (group partial by aggregates) below base = group_keys by base
unary_listed (sort true cols) below base = sort_on cols (below base)
unary_listed op below base = base

abbrev pub listed : Plan → List Row → List Row
listed (scan n c r m z) base = base
listed (unary n c op p) base = unary_listed op (listed p) base
listed (binary n c op p q) base = base
listed (exchange n c k m p) base = listed p base
