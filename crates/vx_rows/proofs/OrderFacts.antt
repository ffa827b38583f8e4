-- The columns of an order.
use Rattle.std.proofs.Common.{ℕ, zero, suc, ◌<◌, List, [], ◌∷◌, length, get_or, arith}
use Rattle.vx_rows_values.specs.declared.order.OrderEntry.{OrderEntry}
use Rattle.vx_rows_values.specs.Order.{order_columns}
use Rattle.vx_rows.specs.View.{AreColumns}

-- the column of each entry is there
pub column-there : (n : ℕ) (order : List OrderEntry) (k : ℕ) (d : OrderEntry) → AreColumns n (order_columns order) → k < length order → (get_or order k d).column < n
column-there n [] k d h l = absurd (omega arith)
column-there n (e ∷ order) zero d h l = h 0 0 (omega arith)
column-there n (e ∷ order) (suc k) d h l = column-there n order k d (λ j x m. h (suc j) x (omega arith)) (omega arith)
