-- Rows in SQL, as far as they are written: a block, into which more can go, or a SELECT that is whole.
use Rattle.std.specs.Prelude.{ℕ, suc, ◌++◌, Bool, true, false, cond, List, [], ◌∷◌, map, codes, if◌then◌else◌}
use Rattle.vx_rows_values.specs.declared.order.OrderEntry.{OrderEntry}
use Rattle.vx_plan_nodes.specs.Outline.{Outline, scan, unary, binary, exchange, columns}
use Rattle.vx_catalog_relations.specs.Naming.{name_at}
use Rattle.vx_check.specs.Explain.{separated}
use Rattle.vx_check_sql.specs.declared.dialect.Dialect.{Dialect}
use Rattle.vx_check_sql.specs.declared.dialect.Dialect.TheVariants.{ClickHouse}
use Rattle.vx_check_sql.specs.declared.words.Alias.{Alias}
use Rattle.vx_check_sql.specs.Words.{alias, node_name}
use Rattle.vx_check_sql.specs.OutputNames.{output_names}

-- ---- what they are

-- a SELECT that is not written yet: the tables that stand in a WITH before it, what stands in its FROM, the conditions of its WHERE, and what its columns are there.
-- It is lone if its FROM has one relation or table, and its conditions have no SELECT from another one
pub record Block : Type 0 where
  pub tables : List (List ℕ)
  pub from : List ℕ
  pub conditions : List (List ℕ)
  pub columns : List (List ℕ)
  pub is_lone : Bool

-- a SELECT that is written: those tables, its text, its columns' names, the order of its rows if it has one, and whether it is a union or ends in a limit.
-- No order can stand behind a union in each dialect, and nothing behind a limit
pub record Select : Type 0 where
  pub tables : List (List ℕ)
  pub text : List ℕ
  pub names : List (List ℕ)
  pub order : List OrderEntry
  pub is_union : Bool
  pub is_limited : Bool

pub data Rows : Type 0 where
  block : Block → Rows
  written : Select → Rows

-- ---- the text of a SELECT

-- the columns from number i on, with their names
abbrev pub named : (names : List (List ℕ)) → (i : ℕ) → (columns : List (List ℕ)) → List (List ℕ)
named names i [] = []
named names i (c ∷ cs) = (c ++ (codes " AS " ++ name_at names i)) ∷ named names (suc i) cs

abbrev pub where_sql : List (List ℕ) → List ℕ
where_sql [] = []
where_sql (c ∷ cs) = codes " WHERE " ++ separated (codes " AND ") false (c ∷ cs)

unfoldable pub select_sql : (columns names : List (List ℕ)) → (from : List ℕ) → (conditions : List (List ℕ)) → List ℕ
select_sql cs names from conditions = separated (codes ", ") false (named names 0 cs) ++ (codes " FROM " ++ (from ++ where_sql conditions))

-- these columns of a block's rows, by these names, with words before and behind them
unfoldable pub as_select : (word : List ℕ) → Block → (columns names : List (List ℕ)) → (end : List ℕ) → Select
as_select word b cs names end = record {
  tables = b.tables;
  text = word ++ (select_sql cs names b.from b.conditions ++ end);
  names = names;
  order = [];
  is_union = false;
  is_limited = false;
}

-- a column of an order, and whether it falls; no value is NULL, so where NULLs would stand is not said
abbrev pub entry_sql : (columns : List (List ℕ)) → OrderEntry → List ℕ
entry_sql cs e = name_at cs e.column ++ cond e.falling (codes " DESC") []

abbrev pub order_sql : (columns : List (List ℕ)) → List OrderEntry → List ℕ
order_sql cs [] = []
order_sql cs (e ∷ order) = codes " ORDER BY " ++ separated (codes ", ") false (map (entry_sql cs) (e ∷ order))

-- ---- from a block to a SELECT, and back

-- how many underscores the own names of a statement have is k throughout

-- the alias of the node whose rows these are: an exchange gives those of the node below it
abbrev pub maker : (k : ℕ) → Outline → Alias
maker k (scan h r m z p) = alias k h.number
maker k (unary h op f t) = alias k h.number
maker k (binary h op t u) = alias k h.number
maker k (exchange h x m t) = maker k t

-- the names of a node's columns, as they are written
abbrev pub names_sql : Dialect → (k : ℕ) → Outline → List (List ℕ)
names_sql d k t = output_names d (maker k t) (columns t).names

-- the rows of node t as a SELECT
abbrev pub closed : Dialect → (k : ℕ) → (t : Outline) → Rows → Select
closed d k t (block b) = as_select (codes "SELECT ") b b.columns (names_sql d k t) []
closed d k t (written w) = w

-- a column of the rows with this alias
abbrev pub column_of : Alias → (name : List ℕ) → List ℕ
column_of n x = node_name n ++ (codes "." ++ x)

-- a SELECT under an alias, as what stands in a FROM: ClickHouse has no WITH in old versions, so there it stands in the FROM itself, and else as a table before it,
-- since SQLite reads no more than some fifteen SELECTs within one another
abbrev pub table_from : Dialect → Alias → (text : List ℕ) → List ℕ
table_from ClickHouse n text = codes "(" ++ (text ++ (codes ") AS " ++ node_name n))
table_from d n text = node_name n

abbrev pub table_before : Dialect → Alias → (text : List ℕ) → List (List ℕ)
table_before ClickHouse n text = []
table_before d n text = (node_name n ++ (codes " AS (" ++ (text ++ codes ")"))) ∷ []

-- a new block over a SELECT
abbrev pub over : Dialect → Alias → Select → Block
over d n w = record {
  tables = w.tables ++ table_before d n w.text;
  from = table_from d n w.text;
  conditions = [];
  columns = map (column_of n) w.names;
  is_lone = true;
}

-- the rows of node t as a block: the one that they are, or one over a SELECT
abbrev pub opened : Dialect → (k : ℕ) → (t : Outline) → Rows → Block
opened d k t (block b) = b
opened d k t (written w) = over d (maker k t) w

-- the same, but always over a SELECT
abbrev pub tabled : Dialect → (k : ℕ) → (t : Outline) → Rows → Block
tabled d k t rows = over d (maker k t) (closed d k t rows)

-- the rows of node t as a SELECT, which is a new one over what they are if that takes no more
abbrev pub renewed : Dialect → (k : ℕ) → (t : Outline) → (again : Bool) → Select → Select
renewed d k t again w = if again then closed d k t (block (over d (maker k t) w)) else w
