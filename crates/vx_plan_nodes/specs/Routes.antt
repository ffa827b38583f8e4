-- Where an exchange sends rows (Graefe's partitioning: hash, range, round robin, broadcast, and to one).
use Rattle.std.specs.Prelude.{◌≡◌, ℕ, ◌<◌, ◌==◌, List, filter, ◌-◌, min}
use Rattle.std.specs.Ordering.{is_le}
use Rattle.vx_rows_values.specs.Values.{Row, pick, Val, val_cmp, value_at}
use Rattle.vx_rows_values.specs.Bags.{count}
use Rattle.vx_plan_nodes.specs.Plan.{Route, ExchangeKind, route_to, round, broadcast, gather, by_hash, by_range, concat}
use Rattle.vx_plan_nodes.specs.Streams.{Streams, Dealt}

-- the consumer of a key among n
abbrev pub Routing : Type 0
Routing = Route → Row → ℕ → ℕ

-- what a producer sends to each of n consumers: each row to the consumer of its key; each row to one consumer, freely chosen; all rows to all; all to the one
abbrev pub Sends : Routing → ExchangeKind → ℕ → List Row → Streams → Type 0
Sends goes (route_to z r cols) n xs sent = (j : ℕ) → j < n → filter (λ row. goes r (pick cols row) n == j) xs ≡ sent j
Sends goes (round z) n xs sent = Dealt n xs sent
Sends goes (broadcast z) n xs sent = (j : ℕ) → j < n → xs ≡ sent j
Sends goes gather n xs sent = (j : ℕ) → j < n → xs ≡ sent j
Sends goes concat n xs sent = (j : ℕ) → j < n → xs ≡ sent j

-- the consumer of a value: the number of bounds that are not above it, and the last consumer past the end
abbrev pub range_consumer : List Val → Val → ℕ → ℕ
range_consumer bounds v n = min (count (λ b. is_le (val_cmp b v)) bounds) (n - 1)

-- the router of a run: a hash function, of which only the name, the key and n count, and the declared ranges
abbrev pub sends_by : (List ℕ → Row → ℕ → ℕ) → (ℕ → List Val) → Routing
sends_by hash bounds (by_hash name) key n = hash name key n
sends_by hash bounds (by_range k) key n = range_consumer (bounds k) (value_at key 0) n
