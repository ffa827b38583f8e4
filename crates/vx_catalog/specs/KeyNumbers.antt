-- Rows of one number each.
use Rattle.std.specs.Prelude.{ℤ, Bool, List, [], ◌∷◌, map}
use Rattle.vx_rows_values.specs.Values.{Row, num}
use Rattle.vx_rows_values.specs.declared.order.OrderEntry.{OrderEntry}

-- rows of one number each, these in order
abbrev pub number_rows : List ℤ → List Row
number_rows numbers = map (λ z. num z ∷ []) numbers

-- the order of such rows in a direction
abbrev pub number_order : (falling : Bool) → List OrderEntry
number_order falling = record { column = 0; falling = falling } ∷ []
