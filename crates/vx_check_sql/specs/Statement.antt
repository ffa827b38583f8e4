-- A plan without its exchanges as one statement of SQL.
use Rattle.std.specs.Prelude.{ℕ, suc, ◌++◌, ◌==◌, ◌&&◌, ◌||◌, Bool, true, false, not, cond, List, [], ◌∷◌, map, codes, bytes_eq, if◌then◌else◌}
use Rattle.vx_rows_values.specs.declared.order.OrderEntry.{OrderEntry}
use Rattle.vx_rows_values.specs.Order.{entry_eq}
use Rattle.vx_catalog_relations.specs.Catalog.{relation_at}
use Rattle.vx_plan_nodes.specs.Names.{Names}
use Rattle.vx_plan_nodes.specs.Outline.{Outline, scan, unary, binary, exchange, top, columns}
use Rattle.vx_plan_nodes.specs.TypedView.{resolved_of}
use Rattle.vx_plan_nodes.specs.declared.typed_plan.TypedPlan.{TypedPlan}
use Rattle.vx_check.specs.Explain.{separated}
use Rattle.vx_check_sql.specs.declared.dialect.Dialect.{Dialect}
use Rattle.vx_check_sql.specs.Words.{identifier, alias}
use Rattle.vx_check_sql.specs.OutputNames.{output_names}
use Rattle.vx_check_sql.specs.OwnNames.{underscores}
use Rattle.vx_check_sql.specs.Blocks.{Block, Select, Rows, block, select_sql, order_sql, maker, closed, over}
use Rattle.vx_check_sql.specs.Operators.{scan_block, unary_rows, binary_rows}

-- how many underscores the own names of a statement have is k throughout

-- ---- the rows of a node

-- the relations that a plan scans, by number
abbrev pub scanned : Outline → List ℕ
scanned (scan h r m z p) = r ∷ []
scanned (unary h op f t) = scanned t
scanned (binary h op t u) = scanned t ++ scanned u
scanned (exchange h x m t) = scanned t

abbrev pub times : ℕ → List ℕ → ℕ
times r [] = 0
times r (x ∷ xs) = cond (x == r) (suc (times r xs)) (times r xs)

-- where the whole plan scans these relations
abbrev pub rows : Dialect → (k : ℕ) → Names → (scans : List ℕ) → Outline → Rows
rows d k s scans (scan h r m z p) = block (scan_block d (alias k h.number) (times r scans == 1) (relation_at s.catalog r))
rows d k s scans (unary h op f t) = unary_rows d k (output_names d (alias k h.number) h.columns.names) op t (rows d k s scans t)
rows d k s scans (binary h op t u) = binary_rows d k op t u (rows d k s scans t) (rows d k s scans u)
rows d k s scans (exchange h x m t) = rows d k s scans t

-- ---- the statement

-- rows in the second order are in the first one
abbrev pub begins : List OrderEntry → List OrderEntry → Bool
begins [] es = true
begins (f ∷ fs) [] = false
begins (f ∷ fs) (e ∷ es) = entry_eq f e && begins fs es

abbrev pub are_same : List (List ℕ) → List (List ℕ) → Bool
are_same [] [] = true
are_same [] (y ∷ ys) = false
are_same (x ∷ xs) [] = false
are_same (x ∷ xs) (y ∷ ys) = bytes_eq x y && are_same xs ys

-- the SELECT of the root's rows can end the statement if its columns have the result's names already, and its rows are in the order that the root claims, or that can stand
-- behind it
abbrev pub ends : (names : List (List ℕ)) → List OrderEntry → Select → Bool
ends names order w = are_same w.names names && (begins order w.order || not (w.is_union || w.is_limited))

abbrev pub end_of : List OrderEntry → Select → List ℕ
end_of order w = w.text ++ cond (begins order w.order) [] (order_sql w.names order)

-- else there is one more SELECT
abbrev pub end_over : (names : List (List ℕ)) → List OrderEntry → Block → List ℕ
end_over names order b = codes "SELECT " ++ (select_sql b.columns names b.from b.conditions ++ order_sql b.columns order)

abbrev pub with_tables : List (List ℕ) → List ℕ
with_tables [] = []
with_tables (x ∷ xs) = codes "WITH " ++ (separated (codes ",\n") false (x ∷ xs) ++ codes "\n")

unfoldable pub whole_sql : (tables : List (List ℕ)) → (last : List ℕ) → List ℕ
whole_sql tables last = with_tables tables ++ (last ++ codes ";\n")

-- the rows of node t, by these names and in this order
unfoldable pub result_sql : Dialect → (k : ℕ) → (names : List (List ℕ)) → List OrderEntry → (t : Outline) → Select → List ℕ
result_sql d k names order t w =
    if ends names order w then whole_sql w.tables (end_of order w)
    else whole_sql (over d (maker k t) w).tables (end_over names order (over d (maker k t) w))

abbrev pub statement_sql : Dialect → (k : ℕ) → Names → Outline → List ℕ
statement_sql d k s t = result_sql d k (map (identifier d) (columns t).names) (top t).claim.order t (closed d k t (rows d k s (scanned t) t))

-- the same with own names that are apart from those that the statement does not make
abbrev pub outline_sql : Dialect → Names → Outline → List ℕ
outline_sql d s t = statement_sql d (underscores s t) s t

abbrev pub plan_sql : Dialect → TypedPlan → List ℕ
plan_sql d p = outline_sql d (resolved_of p).names (resolved_of p).root
