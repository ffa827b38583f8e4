-- The keys of rows by an order: their values in its columns, compared in its directions.
use Rattle.std.specs.Prelude.{Bool, List, ◌∷◌, map}
use Rattle.std.specs.declared.cmp.Ordering.{Ordering}
use Rattle.std.specs.Ordering.{ordering_then}
use Rattle.vx_rows_values.specs.declared.order.OrderEntry.{OrderEntry}
use Rattle.vx_rows_values.specs.Values.{Row, row_cmp, pick}
use Rattle.vx_rows_values.specs.Order.{order_columns, compare_values}

-- of each column of an order, whether it falls
abbrev pub directions : List OrderEntry → List Bool
directions order = map (λ e. e.falling) order

-- a row's values in the columns of an order
abbrev pub key_of : List OrderEntry → Row → Row
key_of order row = pick (order_columns order) row

-- value by value in these directions, the first difference decides; a key goes before one that begins with it
abbrev pub key_cmp : (falls : List Bool) → Row → Row → Ordering
key_cmp (f ∷ falls) (x ∷ a) (y ∷ b) = ordering_then (compare_values f x y) (key_cmp falls a b)
key_cmp falls a b = row_cmp a b
