-- What it means that an order, a key or a total follows: lists of rows in which equal columns are equal, and what is determined agrees.
use Rattle.std.specs.Prelude.{◌≡◌, ℕ, ◌<◌, ◌==◌, true, List, length}
use Rattle.std.specs.List.{list_all}
use Rattle.vx_rows_values.specs.Values.{Row, row_eq, value_at}
use Rattle.vx_rows_values.specs.declared.order.OrderEntry.{OrderEntry}
use Rattle.vx_rows_values.specs.Order.{order_columns, sorted, agree}
use Rattle.vx_rows_values.specs.Bags.{count}
use Rattle.vx_rows_values.specs.Keys.{HasKey}
use Rattle.vx_catalog_relations.specs.Catalog.{all_below}
use Rattle.vx_catalog_relations.specs.Relation.{KeysHold}
use Rattle.vx_plan_facts.specs.Equal.{Equality}
use Rattle.vx_plan_facts.specs.Determined.{Columns}
use Rattle.vx_plan_facts.specs.Following.{order_follows, key_follows, total_follows}

-- the row is one of the list
abbrev pub Occurs : Row → List Row → Type 0
Occurs row xs = 0 < count (row_eq row) xs

-- two rows agree in those of the first w columns that are in a set
abbrev pub AgreeIn : ℕ → Columns → Row → Row → Type 0
AgreeIn w s a b = (c : ℕ) → c < w → s c ≡ true → value_at a c ≡ value_at b c

-- of a list of rows: equal columns have equal values, and rows that agree in some columns agree in what these determine
pub record Agreeing (w : ℕ) (e : Equality) (det : Columns → Columns) (xs : List Row) : Type 0 where
  pub equal : (row : Row) → Occurs row xs → (c d : ℕ) → c < w → d < w → e c d ≡ true → value_at row c ≡ value_at row d
  pub determined : (a b : Row) → Occurs a xs → Occurs b xs → (s : Columns) → AgreeIn w s a b → AgreeIn w (det s) a b

-- sorted on an order, such rows are sorted on one that follows from it
abbrev pub OrderFollows : Type 0
OrderFollows =
    (w : ℕ) (e : Equality) (det : Columns → Columns) (xs : List Row) → Agreeing w e det xs
    → (given order : List OrderEntry) → all_below w (order_columns given) ≡ true → all_below w (order_columns order) ≡ true → order_follows e det given order ≡ true → sorted given xs ≡ true → sorted order xs ≡ true

-- columns that determine all of a key are one
abbrev pub KeyFollows : Type 0
KeyFollows =
    (w : ℕ) (e : Equality) (det : Columns → Columns) (xs : List Row) → Agreeing w e det xs
    → (keys : List (List ℕ)) → list_all (all_below w) keys ≡ true → KeysHold keys xs → (cols : List ℕ) → key_follows det keys cols ≡ true → HasKey cols xs

-- rows as wide as there are columns, which agree on the columns of a total order, are one row
abbrev pub TotalFollows : Type 0
TotalFollows =
    (w : ℕ) (e : Equality) (det : Columns → Columns) (xs : List Row) → Agreeing w e det xs → list_all (λ row. length row == w) xs ≡ true
    → (keys : List (List ℕ)) → list_all (all_below w) keys ≡ true → KeysHold keys xs → (cols : List ℕ) → total_follows w det keys cols ≡ true
    → (a b : Row) → Occurs a xs → Occurs b xs → agree cols a b ≡ true → a ≡ b
