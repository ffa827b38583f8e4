-- The run relation: which streams a plan's workers may make together, without packets and order of events (Graefe's exchange).
use Rattle.std.specs.Prelude.{◌≡◌, ℕ, ◌<◌, true, false, List, Some, Bool}
use Rattle.vx_rows_values.specs.declared.order.OrderEntry.{OrderEntry}
use Rattle.vx_rows_values.specs.Values.{Row}
use Rattle.vx_rows_values.specs.Order.{sorted}
use Rattle.vx_plan_nodes.specs.Plan.{ExchangeKind, target, Plan, scan, unary, binary, exchange, size, route_to, round, broadcast, gather, concat}
use Rattle.vx_plan_nodes.specs.Serial.{unary_rows, binary_rows}
use Rattle.vx_plan_nodes.specs.Streams.{workers, Streams, Dealt, joined}
use Rattle.vx_plan_nodes.specs.Routes.{Routing, Sends}

-- the exchange takes its producers one after the other
abbrev pub is_concat : ExchangeKind → Bool
is_concat (route_to z r cols) = false
is_concat (round z) = false
is_concat (broadcast z) = false
is_concat gather = false
is_concat concat = true

-- what each of m producers sends to each of n consumers, and each consumer's shuffle of what it gets; of a concat it is the producers' lists in the order of their numbers
pub record Exchanges (goes : Routing) (kind : ExchangeKind) (merge : List OrderEntry) (m n : ℕ) (inputs outputs : Streams) : Type 0 where
  pub sent : ℕ → Streams
  pub sends : (i : ℕ) → i < m → Sends goes kind n (inputs i) (sent i)
  pub gets : (j : ℕ) → j < n → Dealt m (outputs j) (λ i. sent i j)
  pub merged : (j : ℕ) → j < n → sorted merge (outputs j) ≡ true
  pub in_order : is_concat kind ≡ true → (j : ℕ) → j < n → joined m (λ i. sent i j) ≡ outputs j

-- the run relation: these may be the streams of the plan's top node, for some streams of the nodes below it.
-- A shared scan chooses a worker for each row; a whole one gives each worker all rows
abbrev pub Runs : (ℕ → List Row) → (ℕ → ℕ) → Routing → Plan → Streams → Type 0
Runs db sizes goes (scan n c r true z) s = Dealt (workers sizes z) (db r) s
Runs db sizes goes (scan n c r false z) s = (w : ℕ) → w < workers sizes z → s w ≡ db r
Runs db sizes goes (unary n c op p) s =
    (u : Streams) × Runs db sizes goes p u × ((w : ℕ) → w < workers sizes (size p) → unary_rows op (u w) ≡ Some (s w))
Runs db sizes goes (binary n c op p q) s =
    (u : Streams) × (v : Streams) × Runs db sizes goes p u × Runs db sizes goes q v × ((w : ℕ) → w < workers sizes (size p) → binary_rows op (u w) (v w) ≡ s w)
Runs db sizes goes (exchange n c k merge p) s =
    (u : Streams) × Runs db sizes goes p u × Exchanges goes k merge (workers sizes (size p)) (workers sizes (target k)) u s
