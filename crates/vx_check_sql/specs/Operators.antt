-- What each operator makes of the rows of its inputs, as SQL.
use Rattle.std.specs.Prelude.{ℕ, suc, ◌++◌, ◌==◌, ◌||◌, Bool, true, false, not, cond, List, [], ◌∷◌, map, codes, decimal, Option, Some, None, if◌then◌else◌}
use Rattle.std.specs.List.{list_any}
use Rattle.vx_rows_values.specs.declared.value.ColType.{ColType}
use Rattle.vx_rows_values.specs.declared.value.ColType.TheVariants.{Text}
use Rattle.vx_rows_values.specs.declared.order.OrderEntry.{OrderEntry}
use Rattle.vx_rows_values.specs.Values.{Name}
use Rattle.vx_rows_values.specs.Types.{type_at}
use Rattle.vx_rows_values.specs.Test.{test_text}
use Rattle.vx_catalog_relations.specs.Relation.{Relation}
use Rattle.vx_catalog_relations.specs.Naming.{name_at}
use Rattle.vx_plan_nodes.specs.Plan.{Side, column, constant, Condition, Filter, comparing, computing, Entry, copy_of, made_by, Aggregate, least, greatest, sum, count_rows, final, Unary, select, project, distinct, sort, group, limit, Binary, union, join, semi_join}
use Rattle.vx_plan_nodes.specs.Outline.{Outline, top}
use Rattle.vx_check.specs.Explain.{separated}
use Rattle.vx_check_sql.specs.declared.dialect.Dialect.{Dialect}
use Rattle.vx_check_sql.specs.declared.dialect.Dialect.TheVariants.{Sqlite, Postgres, ClickHouse}
use Rattle.vx_check_sql.specs.declared.words.Alias.{Alias}
use Rattle.vx_check_sql.specs.Words.{identifier, value_sql, node_name}
use Rattle.vx_check_sql.specs.Expressions.{expression_sql}
use Rattle.vx_check_sql.specs.Blocks.{Block, Select, Rows, block, written, as_select, where_sql, order_sql, closed, opened, tabled, renewed}

-- ---- scans: a block over a relation

-- texts compare by their bytes, which PostgreSQL has to be told
abbrev pub collation : Dialect → ColType → List ℕ
collation Postgres Text = codes " COLLATE \"C\""
collation d t = []

-- the relation by its own name if the plan scans it nowhere else, or else by an alias
abbrev pub relation_name : Dialect → (n : Alias) → (only : Bool) → Name → List ℕ
relation_name d n only relation = if only then identifier d relation else node_name n

abbrev pub relation_from : Dialect → (n : Alias) → (only : Bool) → Name → List ℕ
relation_from d n only relation = identifier d relation ++ cond only [] (codes " AS " ++ node_name n)

unfoldable pub relation_column : Dialect → (relation : List ℕ) → ColType → Name → List ℕ
relation_column d relation kind name = relation ++ (codes "." ++ (identifier d name ++ collation d kind))

-- its columns from column i on
abbrev pub relation_columns : Dialect → (relation : List ℕ) → List ColType → ℕ → List Name → List (List ℕ)
relation_columns d relation types i [] = []
relation_columns d relation types i (x ∷ xs) = relation_column d relation (type_at types i) x ∷ relation_columns d relation types (suc i) xs

unfoldable pub scan_block : Dialect → (n : Alias) → (only : Bool) → Relation → Block
scan_block d n only r = record {
  tables = [];
  from = relation_from d n only r.name;
  conditions = [];
  columns = relation_columns d (relation_name d n only r.name) r.types 0 r.names;
  is_lone = true;
}

-- ---- selects: more conditions

abbrev pub side_sql : Dialect → (columns : List (List ℕ)) → Side → List ℕ
side_sql d cs (column c) = name_at cs c
side_sql d cs (constant v) = value_sql d v

unfoldable pub condition_sql : Dialect → (columns : List (List ℕ)) → Condition → List ℕ
condition_sql d cs c = name_at cs c.left ++ (codes " " ++ (test_text c.test ++ (codes " " ++ side_sql d cs c.right)))

-- an expression that is a condition is a number, and holds where that is not 0
unfoldable pub filter_sql : Dialect → (columns : List (List ℕ)) → Filter → List ℕ
filter_sql d cs (comparing c) = condition_sql d cs c
filter_sql d cs (computing e) = expression_sql d cs true e ++ codes " <> 0"

abbrev pub selected : Dialect → List Filter → Block → Block
selected d fs b = record { tables = b.tables; from = b.from; conditions = b.conditions ++ map (filter_sql d b.columns) fs; columns = b.columns; is_lone = b.is_lone }

-- ---- projections: other columns. If one is computed the SELECT is written, so that no expression is written twice

abbrev pub made_sql : Dialect → (columns : List (List ℕ)) → Entry → List ℕ
made_sql d cs (copy_of c) = name_at cs c
made_sql d cs (made_by e) = expression_sql d cs true e

abbrev pub is_computed : Entry → Bool
is_computed (copy_of c) = false
is_computed (made_by e) = true

abbrev pub with_columns : Block → (columns : List (List ℕ)) → Block
with_columns b cs = record { tables = b.tables; from = b.from; conditions = b.conditions; columns = cs; is_lone = b.is_lone }

unfoldable pub projected : Dialect → List Entry → Block → (names : List (List ℕ)) → Rows
projected d es b names =
    if list_any is_computed es then written (as_select (codes "SELECT ") b (map (made_sql d b.columns) es) names [])
    else block (with_columns b (map (made_sql d b.columns) es))

-- ---- distinct rows, groups and first rows: a SELECT is written

-- a sum is a number of 64 bits: in PostgreSQL an error where it is not
abbrev pub sum_before : Dialect → List ℕ
sum_before Sqlite = codes "sum("
sum_before Postgres = codes "CAST(sum("
sum_before ClickHouse = codes "toInt64(sum("

abbrev pub sum_after : Dialect → List ℕ
sum_after Sqlite = codes ")"
sum_after Postgres = codes ") AS bigint)"
sum_after ClickHouse = codes "))"

abbrev pub count_sql : Dialect → List ℕ
count_sql ClickHouse = codes "toInt64(count(*))"
count_sql d = codes "count(*)"

abbrev pub aggregate_sql : Dialect → (columns : List (List ℕ)) → Aggregate → List ℕ
aggregate_sql d cs (least c) = codes "min(" ++ (name_at cs c ++ codes ")")
aggregate_sql d cs (greatest c) = codes "max(" ++ (name_at cs c ++ codes ")")
aggregate_sql d cs (sum c) = sum_before d ++ (name_at cs c ++ sum_after d)
aggregate_sql d cs count_rows = count_sql d

-- no key columns: one group of all rows, and no group where there are no rows
unfoldable pub grouping_sql : (keys : List (List ℕ)) → List ℕ
grouping_sql [] = codes " HAVING count(*) > 0"
grouping_sql (c ∷ cs) = codes " GROUP BY " ++ separated (codes ", ") false (c ∷ cs)

abbrev pub grouped : Dialect → List ℕ → List Aggregate → Block → (names : List (List ℕ)) → Select
grouped d by aggregates b names =
    as_select (codes "SELECT ") b (map (name_at b.columns) by ++ map (aggregate_sql d b.columns) aggregates) names (grouping_sql (map (name_at b.columns) by))

-- the first rows in this order, which is total where the checker accepts the plan
abbrev pub limited : List OrderEntry → ℕ → Select → Select
limited order rows w = record {
  tables = w.tables;
  text = w.text ++ (order_sql w.names order ++ (codes " LIMIT " ++ decimal rows));
  names = w.names;
  order = order;
  is_union = false;
  is_limited = true;
}

-- ---- operators over the rows of node t

-- a SELECT behind which an order can stand
abbrev pub orderable : Dialect → (k : ℕ) → (t : Outline) → Select → Select
orderable d k t w = renewed d k t (w.is_union || w.is_limited) w

-- names are those of the columns that the operator makes. A final grouping's rows are those of its partial one, which groups all rows at once
unfoldable pub unary_rows : Dialect → (k : ℕ) → (names : List (List ℕ)) → Unary → (t : Outline) → Rows → Rows
unary_rows d k names (select fs) t rows = block (selected d fs (opened d k t rows))
unary_rows d k names (project es) t rows = projected d es (opened d k t rows) names
unary_rows d k names (distinct cols) t rows = written (as_select (codes "SELECT DISTINCT ") (opened d k t rows) (map (name_at (opened d k t rows).columns) cols) names [])
unary_rows d k names (sort of_parts keys) t rows = rows
unary_rows d k names (group final by aggregates) t rows = rows
unary_rows d k names (group phase by aggregates) t rows = written (grouped d by aggregates (opened d k t rows) names)
unary_rows d k names (limit count) t rows = written (limited (top t).claim.order count (orderable d k t (closed d k t rows)))

-- ---- unions

unfoldable pub united : (l r : Select) → Select
united l r = record {
  tables = l.tables ++ r.tables;
  text = l.text ++ (codes " UNION ALL " ++ r.text);
  names = l.names;
  order = [];
  is_union = true;
  is_limited = false;
}

-- a SELECT that can stand in a union
abbrev pub unitable : Dialect → (k : ℕ) → (t : Outline) → Select → Select
unitable d k t w = renewed d k t w.is_limited w

-- ---- joins

abbrev pub pair_sql : (ls rs : List (List ℕ)) → ℕ × ℕ → List ℕ
pair_sql ls rs p = name_at ls p.0 ++ (codes " = " ++ name_at rs p.1)

-- the left column that a join makes equal to this right one
abbrev pub equal_left : List (ℕ × ℕ) → ℕ → Option ℕ
equal_left [] c = None
equal_left (p ∷ ps) c = cond (p.1 == c) (Some p.0) (equal_left ps c)

-- a right column of a join; one of a pair is read at the left, since old versions of ClickHouse have it there alone
abbrev pub left_or_right : (ls : List (List ℕ)) → (right : List ℕ) → Option ℕ → List ℕ
left_or_right ls r None = r
left_or_right ls r (Some c) = name_at ls c

-- the right columns from column i on
abbrev pub right_columns : (ls : List (List ℕ)) → List (ℕ × ℕ) → (i : ℕ) → (rs : List (List ℕ)) → List (List ℕ)
right_columns ls on i [] = []
right_columns ls on i (r ∷ rs) = left_or_right ls r (equal_left on i) ∷ right_columns ls on (suc i) rs

-- a join in which each pair of rows that agree gives a row, which ClickHouse has to be told
abbrev pub join_word : Dialect → List ℕ
join_word ClickHouse = codes " ALL INNER JOIN "
join_word d = codes " INNER JOIN "

unfoldable pub joined : Dialect → List (ℕ × ℕ) → (l r : Block) → Block
joined d on l r = record {
  tables = l.tables ++ r.tables;
  from = l.from ++ (join_word d ++ (r.from ++ (codes " ON " ++ separated (codes " AND ") false (map (pair_sql l.columns r.columns) on))));
  conditions = l.conditions ++ r.conditions;
  columns = l.columns ++ right_columns l.columns on 0 r.columns;
  is_lone = false;
}

-- which right rows match a left one: on these pairs, and under these conditions on the columns of both
unfoldable pub matching_sql : Dialect → List (ℕ × ℕ) → List Condition → (ls rs : List (List ℕ)) → List (List ℕ)
matching_sql d on conditions ls rs = map (pair_sql ls rs) on ++ map (condition_sql d (ls ++ rs)) conditions

-- the left rows that some right row matches, or those that none does: a condition
abbrev pub exists_word : (matched : Bool) → List ℕ
exists_word matched = cond matched (codes "EXISTS (SELECT 1 FROM ") (codes "NOT EXISTS (SELECT 1 FROM ")

abbrev pub exists_sql : (matched : Bool) → (from : List ℕ) → (conditions : List (List ℕ)) → List ℕ
exists_sql matched from conditions = exists_word matched ++ (from ++ (where_sql conditions ++ codes ")"))

-- ClickHouse has no such conditions, but joins
abbrev pub semi_join_word : (matched : Bool) → List ℕ
semi_join_word matched = cond matched (codes " SEMI LEFT JOIN ") (codes " ANTI LEFT JOIN ")

unfoldable pub semi_joined : Dialect → (matched : Bool) → (matching : List (List ℕ)) → (l r : Block) → Block
semi_joined ClickHouse matched matching l r = record {
  tables = l.tables ++ r.tables;
  from = l.from ++ (semi_join_word matched ++ (r.from ++ (codes " ON " ++ separated (codes " AND ") false matching)));
  conditions = l.conditions ++ r.conditions;
  columns = l.columns;
  is_lone = false;
}
semi_joined d matched matching l r = record {
  tables = l.tables ++ r.tables;
  from = l.from;
  conditions = l.conditions ++ (exists_sql matched r.from (r.conditions ++ matching) ∷ []);
  columns = l.columns;
  is_lone = false;
}

-- ---- operators over the rows of node t, at the left, and of node u

-- ClickHouse joins two SELECTs, and old versions no more than two
abbrev pub joins_tables : Dialect → Bool
joins_tables ClickHouse = true
joins_tables d = false

abbrev pub is_lone : Rows → Bool
is_lone (block b) = b.is_lone
is_lone (written w) = false

-- what stands in a join: a block as it is, or a SELECT
abbrev pub joinable : Dialect → (k : ℕ) → (t : Outline) → (as_table : Bool) → Rows → Block
joinable d k t as_table rows = if as_table then tabled d k t rows else opened d k t rows

abbrev pub left_block : Dialect → (k : ℕ) → (t : Outline) → Rows → Block
left_block d k t rows = joinable d k t (joins_tables d) rows

abbrev pub right_block : Dialect → (k : ℕ) → (t : Outline) → Rows → Block
right_block d k t rows = joinable d k t (joins_tables d || not (is_lone rows)) rows

unfoldable pub binary_rows : Dialect → (k : ℕ) → Binary → (t u : Outline) → (lefts rights : Rows) → Rows
binary_rows d k union t u lefts rights = written (united (unitable d k t (closed d k t lefts)) (unitable d k u (closed d k u rights)))
binary_rows d k (join method on) t u lefts rights = block (joined d on (left_block d k t lefts) (right_block d k u rights))
binary_rows d k (semi_join matched on conditions) t u lefts rights =
    block (semi_joined d matched (matching_sql d on conditions (left_block d k t lefts).columns (right_block d k u rights).columns) (left_block d k t lefts) (right_block d k u rights))
