-- The text that explains a plan: a line for each node in preorder, whether its order is total, and whether it asks for what is known of columns.
use Rattle.std.specs.Prelude.{ℕ, suc, ◌++◌, Bool, true, false, cond, List, [], ◌∷◌, map, length, codes, slice_index_or, decimal}
use Rattle.std.specs.Fmt.{signed_decimal}
use Rattle.serde_json.specs.Data.{string}
use Rattle.serde_json.specs.Written.{compact_text}
use Rattle.vx_rows_values.specs.declared.order.OrderEntry.{OrderEntry}
use Rattle.vx_rows_values.specs.Values.{Val, num, text, Name}
use Rattle.vx_catalog_relations.specs.Catalog.{relation_at}
use Rattle.vx_plan_nodes.specs.Plan.{Size, one_worker, group_of, Route, by_hash, by_range, Part, one, any, all, routed, Claim, Side, column, constant, Condition, Expression, input, value, call, Operands, no_operands, operand, Filter, comparing, computing, Entry, copy_of, made_by, Aggregate, least, greatest, sum, count_rows, Unary, select, project, distinct, sort, group, limit, Phase, plain, partial, final, JoinMethod, by_hashing, by_merging, Binary, union, join, semi_join, ExchangeKind, route_to, round, broadcast, gather, concat, size}
use Rattle.vx_rows_values.specs.Test.{test_text}
use Rattle.vx_plan_nodes.specs.Names.{Names}
use Rattle.vx_plan_nodes.specs.Outline.{Outline, scan, unary, binary, exchange, top, columns, plan_in}

-- the name with this number
abbrev pub name_at : List Name → ℕ → Name
name_at names c = slice_index_or names c []

-- texts in a row, a separator before each but the first
abbrev pub separated : List ℕ → (is_later : Bool) → List (List ℕ) → List ℕ
separated between is_later [] = []
separated between is_later (x ∷ xs) = cond is_later between [] ++ (x ++ separated between true xs)

-- columns by their names
abbrev pub list_text : List Name → List ℕ → List ℕ
list_text names cols = codes "[" ++ (separated (codes ",") false (map (name_at names) cols) ++ codes "]")

-- a column of an order by its name, and whether it falls
abbrev pub entry_text : List Name → OrderEntry → List ℕ
entry_text names e = name_at names e.column ++ cond e.falling (codes " desc") []

abbrev pub order_text : List Name → List OrderEntry → List ℕ
order_text names order = codes "[" ++ (separated (codes ",") false (map (entry_text names) order) ++ codes "]")

abbrev pub size_text : Names → Size → List ℕ
size_text s one_worker = codes "one"
size_text s (group_of k) = name_at s.sizes k

abbrev pub route_text : Names → Route → List ℕ
route_text s (by_hash name) = codes "hash:" ++ name
route_text s (by_range k) = codes "range:" ++ name_at (map (λ r. r.name) s.ranges) k

abbrev pub part_text : Names → List Name → Part → List ℕ
part_text s names one = codes "one"
part_text s names any = codes "any"
part_text s names all = codes "all"
part_text s names (routed r cols) = route_text s r ++ list_text names cols

-- a dash where there is no key
abbrev pub keys_text : List Name → List (List ℕ) → List ℕ
keys_text names [] = codes "-"
keys_text names (k ∷ ks) = separated (codes ";") false (map (list_text names) (k ∷ ks))

abbrev pub claim_text : Names → List Name → Claim → List ℕ
claim_text s names c =
    codes " part=" ++ (part_text s names c.part ++ (codes " order=" ++ (order_text names c.order ++ (codes " keys=" ++ keys_text names c.keys))))

-- ---- scans

abbrev pub prefix_text : List ℕ → List ℕ
prefix_text [] = []
prefix_text (x ∷ xs) = codes " prefix " ++ (x ∷ xs)

abbrev pub scan_text : Names → ℕ → Bool → List ℕ → List ℕ
scan_text s r shared prefix = codes "scan " ++ ((relation_at s.catalog r).name ++ (cond shared (codes " shared") (codes " whole") ++ prefix_text prefix))

-- ---- operators over one input, whose columns have the first names

-- a number in plain decimal, a text as `serde_json` writes it
abbrev pub value_text : Val → List ℕ
value_text (num z) = signed_decimal z
value_text (text bytes) = compact_text (string bytes)

abbrev pub side_text : List Name → Side → List ℕ
side_text names (column c) = name_at names c
side_text names (constant v) = value_text v

abbrev pub condition_text : List Name → Condition → List ℕ
condition_text names c = name_at names c.left ++ (codes " " ++ (test_text c.test ++ (codes " " ++ side_text names c.right)))

-- an expression: of a call the function's name and its operands, and not the type of its answer
abbrev mutual
  pub expression_text : List Name → Expression → List ℕ
  expression_text names (input c) = name_at names c
  expression_text names (value v) = value_text v
  expression_text names (call f t es) = f.name ++ (codes "(" ++ (separated (codes ",") false (operand_texts names es) ++ codes ")"))

  pub operand_texts : List Name → Operands → List (List ℕ)
  operand_texts names no_operands = []
  operand_texts names (operand e es) = expression_text names e ∷ operand_texts names es

abbrev pub filter_text : List Name → Filter → List ℕ
filter_text names (comparing c) = condition_text names c
filter_text names (computing e) = expression_text names e

-- a column, with its new name where it has one
abbrev pub kept_text : Name → Name → Bool → List ℕ
kept_text shown output renamed = shown ++ cond renamed (codes " as " ++ output) []

-- kept columns, the first of which has this number in the output
abbrev pub kept_texts : List Name → List Name → ℕ → List ℕ → List Bool → List (List ℕ)
kept_texts inputs outputs i (c ∷ cs) (f ∷ fs) = kept_text (name_at inputs c) (name_at outputs i) f ∷ kept_texts inputs outputs (suc i) cs fs
kept_texts inputs outputs i _ _ = []

-- what a column of a projection is
abbrev pub made_text : List Name → Entry → List ℕ
made_text names (copy_of c) = name_at names c
made_text names (made_by e) = expression_text names e

-- columns of a projection, the first of which has this number in the output
abbrev pub made_texts : List Name → List Name → ℕ → List Entry → List Bool → List (List ℕ)
made_texts inputs outputs i (e ∷ es) (f ∷ fs) = kept_text (made_text inputs e) (name_at outputs i) f ∷ made_texts inputs outputs (suc i) es fs
made_texts inputs outputs i _ _ = []

abbrev pub function_text : List Name → Aggregate → List ℕ
function_text names (least c) = codes "min(" ++ (name_at names c ++ codes ")")
function_text names (greatest c) = codes "max(" ++ (name_at names c ++ codes ")")
function_text names (sum c) = codes "sum(" ++ (name_at names c ++ codes ")")
function_text names count_rows = codes "count()"

-- aggregates, the first of which has this number in the output
abbrev pub aggregate_texts : List Name → List Name → ℕ → List Aggregate → List (List ℕ)
aggregate_texts inputs outputs i [] = []
aggregate_texts inputs outputs i (a ∷ as') = (function_text inputs a ++ (codes " as " ++ name_at outputs i)) ∷ aggregate_texts inputs outputs (suc i) as'

abbrev pub aggregates_text : List Name → List Name → ℕ → List Aggregate → List ℕ
aggregates_text inputs outputs i [] = []
aggregates_text inputs outputs i (a ∷ as') = codes " " ++ separated (codes ", ") false (aggregate_texts inputs outputs i (a ∷ as'))

-- the key columns and the aggregates of a grouping
abbrev pub group_text : List Name → List Name → List ℕ → List Aggregate → List ℕ
group_text inputs outputs by aggregates = list_text inputs by ++ aggregates_text inputs outputs (length by) aggregates

-- a grouping in one of its phases; a final one says no columns, since its columns are those of its partial
abbrev pub grouping_text : List Name → List Name → Phase → List ℕ → List Aggregate → List ℕ
grouping_text inputs outputs plain by aggregates = codes "group " ++ group_text inputs outputs by aggregates
grouping_text inputs outputs partial by aggregates = codes "partial-group " ++ group_text inputs outputs by aggregates
grouping_text inputs outputs final by aggregates = codes "final-group"

abbrev pub unary_text : List Name → List Name → List Bool → Unary → List ℕ
unary_text inputs outputs renamed (select fs) = codes "select " ++ separated (codes " and ") false (map (filter_text inputs) fs)
unary_text inputs outputs renamed (project es) = codes "project [" ++ (separated (codes ",") false (made_texts inputs outputs 0 es renamed) ++ codes "]")
unary_text inputs outputs renamed (distinct cols) = codes "distinct [" ++ (separated (codes ",") false (kept_texts inputs outputs 0 cols renamed) ++ codes "]")
unary_text inputs outputs renamed (sort of_parts order) = cond of_parts (codes "partial-sort ") (codes "sort ") ++ order_text inputs order
unary_text inputs outputs renamed (group phase by aggregates) = grouping_text inputs outputs phase by aggregates
unary_text inputs outputs renamed (limit n) = codes "limit " ++ decimal n

-- ---- operators over two inputs, and exchanges

abbrev pub pair_text : List Name → List Name → ℕ × ℕ → List ℕ
pair_text lefts rights p = name_at lefts p.0 ++ (codes "=" ++ name_at rights p.1)

-- what a semi or an anti join asks of a left row and a right one besides, whose columns have these names, the left ones first
abbrev pub where_text : List Name → List Condition → List ℕ
where_text names [] = []
where_text names (c ∷ cs) = codes " where " ++ separated (codes " and ") false (map (condition_text names) (c ∷ cs))

-- the word of a join by pairs
abbrev pub method_text : JoinMethod → List ℕ
method_text by_hashing = codes "hash-join ["
method_text (by_merging falls) = codes "merge-join ["

abbrev pub binary_text : List Name → List Name → Binary → List ℕ
binary_text lefts rights union = codes "union"
binary_text lefts rights (join method on) =
    method_text method ++ (separated (codes ",") false (map (pair_text lefts rights) on) ++ codes "]")
binary_text lefts rights (semi_join matched on conditions) =
    cond matched (codes "hash-semi-join [") (codes "hash-anti-join [")
    ++ (separated (codes ",") false (map (pair_text lefts rights) on) ++ (codes "]" ++ where_text (lefts ++ rights) conditions))

abbrev pub kind_text : Names → List Name → ExchangeKind → List ℕ
kind_text s inputs (route_to z r cols) = route_text s r ++ list_text inputs cols
kind_text s inputs (round z) = codes "round"
kind_text s inputs (broadcast z) = codes "broadcast"
kind_text s inputs gather = codes "gather"
kind_text s inputs concat = codes "concat"

abbrev pub merge_text : List Name → List OrderEntry → List ℕ
merge_text inputs [] = []
merge_text inputs (e ∷ order) = codes " merge " ++ order_text inputs (e ∷ order)

-- ---- nodes

-- what a node does
abbrev pub description : Names → Outline → List ℕ
description s (scan h r m z p) = scan_text s r m p
description s (unary h op renamed t) = unary_text (columns t).names h.columns.names renamed op
description s (binary h op t u) = binary_text (columns t).names (columns u).names op
description s (exchange h k m t) = codes "exchange " ++ (kind_text s (columns t).names k ++ merge_text (columns t).names m)

-- a node's line, behind its margin
abbrev pub line_text : Names → List ℕ → Outline → List ℕ
line_text s margin t =
    margin ++ (codes "#" ++ (decimal (top t).number ++ (codes " " ++ (description s t ++ (codes " size=" ++ (size_text s (size (plan_in t)) ++ (claim_text s (columns t).names (top t).claim ++ codes "\n")))))))

-- the line of the node at the top, and those below it, whose margin is two spaces wider
abbrev pub lines : Names → List ℕ → Outline → List ℕ
lines s margin (scan h r m z p) = line_text s margin (scan h r m z p)
lines s margin (unary h op renamed t) = line_text s margin (unary h op renamed t) ++ lines s (margin ++ codes "  ") t
lines s margin (binary h op t u) = line_text s margin (binary h op t u) ++ (lines s (margin ++ codes "  ") t ++ lines s (margin ++ codes "  ") u)
lines s margin (exchange h k m t) = line_text s margin (exchange h k m t) ++ lines s (margin ++ codes "  ") t

abbrev pub ending_text : (total derives : Bool) → List ℕ
ending_text total derives = cond total (codes "total\n") (codes "not total\n") ++ cond derives (codes "derive\n") []

abbrev pub explain_text : Names → (total derives : Bool) → Outline → List ℕ
explain_text s total derives t = lines s [] t ++ ending_text total derives
