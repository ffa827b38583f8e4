-- Orders from where some of their entries are passed.
use Rattle.std.specs.Prelude.{Bool, false, cond, List, [], ◌∷◌}
use Rattle.vx_rows_values.specs.declared.order.OrderEntry.{OrderEntry}
use Rattle.vx_plan_facts.specs.Determined.{Columns}

-- without the first entries whose columns are in the set, up to one whose column is not
abbrev pub past : Columns → List OrderEntry → List OrderEntry
past s [] = []
past s (e ∷ order) = cond (s e.column) (past s order) (e ∷ order)

-- the first of the entries is there and passes the test
abbrev pub first_passes : (OrderEntry → Bool) → List OrderEntry → Bool
first_passes test [] = false
first_passes test (e ∷ order) = test e
