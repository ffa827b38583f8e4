-- The consumer of a row by its values in some columns.
use Rattle.std.specs.Prelude.{ℕ, List, [], ◌∷◌, string_bytes}
use Rattle.vx_rows_values.specs.Values.{Val, Row, pick, value_at}
use Rattle.vx_plan_nodes.specs.Plan.{Route, by_hash, by_range}
use Rattle.vx_plan_nodes.specs.Routes.{range_consumer}
use Rattle.vx_exchange.specs.declared.routes.KeyRoute.{KeyRoute}
use Rattle.vx_exchange.specs.declared.routes.KeyRoute.TheVariants.{Hash, Range}

-- the route of a plan
abbrev pub key_route : KeyRoute → Route
key_route (Hash name cols) = by_hash (string_bytes name)
key_route (Range k bounds c) = by_range k

-- the columns in which it looks
abbrev pub key_columns : KeyRoute → List ℕ
key_columns (Hash name cols) = cols.items
key_columns (Range k bounds c) = c ∷ []

-- the bounds of its range, none if it is not by range
abbrev pub key_bounds : KeyRoute → List Val
key_bounds (Hash name cols) = []
key_bounds (Range k bounds c) = bounds

-- the consumer of a row among n
abbrev pub routed_to : (hash : List ℕ → Row → ℕ → ℕ) → KeyRoute → ℕ → Row → ℕ
routed_to hash (Hash name cols) n row = hash (string_bytes name) (pick cols.items row) n
routed_to hash (Range k bounds c) n row = range_consumer bounds (value_at row c) n
