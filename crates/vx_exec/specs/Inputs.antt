-- The producers from which the workers of a fragment take.
use Rattle.std.specs.Prelude.{ℕ, List, [], ◌++◌}
use Rattle.vx_rows.specs.Lists.{each_below}
use Rattle.vx_plan_nodes.specs.Plan.{Plan, scan, unary, binary, exchange, size}
use Rattle.vx_plan_nodes.specs.Streams.{workers}

-- for each exchange below the plan's top fragment, each of its producers, by the exchange's number and the producer's place
abbrev pub inputs_of : (sizes : ℕ → ℕ) → Plan → List (ℕ × ℕ)
inputs_of sizes (scan n c r m z) = []
inputs_of sizes (unary n c op p) = inputs_of sizes p
inputs_of sizes (binary n c op p q) = inputs_of sizes p ++ inputs_of sizes q
inputs_of sizes (exchange n c k m p) = each_below (workers sizes (size p)) (λ i. (n, i))
