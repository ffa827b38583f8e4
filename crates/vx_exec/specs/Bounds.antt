-- The bounds by which exchanges route, where these are the bounds of the declared ranges.
use Rattle.std.specs.Prelude.{List, []}
use Rattle.vx_rows_values.specs.Values.{Val}
use Rattle.vx_plan_nodes.specs.Plan.{Route, by_hash, by_range, ExchangeKind, route_to, round, broadcast, gather, concat}
use Rattle.vx_plan_nodes.specs.Typed.{bounds_at}

-- those of a route by a range; a hash has none
abbrev pub route_bounds : List (List Val) → Route → List Val
route_bounds ranges (by_hash name) = []
route_bounds ranges (by_range k) = bounds_at ranges k

-- those of an exchange that routes by a range; the others have none
abbrev pub kind_bounds : List (List Val) → ExchangeKind → List Val
kind_bounds ranges (route_to z r cols) = route_bounds ranges r
kind_bounds ranges (round z) = []
kind_bounds ranges (broadcast z) = []
kind_bounds ranges gather = []
kind_bounds ranges concat = []
