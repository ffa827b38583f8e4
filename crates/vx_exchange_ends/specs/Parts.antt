-- What was returned in part stays so while more rows come and while packets are taken away, and Fault cuts it short.
use Rattle.std.specs.Prelude.{ℕ, ◌≡◌, ◌<◌, List, ◌++◌, Some}
use Rattle.vx_rows_values.specs.Values.{Row}
use Rattle.vx_rows.specs.Lists.{IsBeginning}
use Rattle.vx_plan_nodes.specs.Routes.{Routing}
use Rattle.vx_ports.specs.Packets.{fault, PacketView}
use Rattle.vx_ops.specs.Turn.{with_packet}
use Rattle.vx_exchange_ends.specs.Ship.{Ship, IsPartShipped}
use Rattle.vx_exchange_ends.specs.Tasks.{Task, send, keep, Stopped, BeganSending}
use Rattle.vx_exchange_ends.specs.Closing.{closed_by}

-- rows that are sent have some consumer
abbrev pub HasConsumers : Task → Type 0
HasConsumers (send s) = 0 < s.consumers
HasConsumers (keep kept) = Unit {0}

-- what was returned of some rows is in part what is to be returned of these and more
abbrev pub PartStaysAsRowsCome : Type 0
PartStaysAsRowsCome =
    (goes : Routing) (s : Ship) (xs ys : List Row) (put : ℕ → List PacketView) → 0 < s.consumers → IsPartShipped goes s xs put → IsPartShipped goes s (xs ++ ys) put

-- so is less of it
abbrev pub PartStaysWithLess : Type 0
PartStaysWithLess =
    (goes : Routing) (s : Ship) (rows : List Row) (put more : ℕ → List PacketView) → ((j : ℕ) → IsBeginning (put j) (more j))
    → IsPartShipped goes s rows more → IsPartShipped goes s rows put

-- so is all but the last packet for a consumer
abbrev pub PartStaysWithoutLast : Type 0
PartStaysWithoutLast =
    (goes : Routing) (s : Ship) (rows : List Row) (put : ℕ → List PacketView) (j : ℕ) (p : PacketView)
    → IsPartShipped goes s rows (with_packet put j (Some p)) → IsPartShipped goes s rows put

-- the same of a task: more rows
abbrev pub BegunStaysAsRowsCome : Type 0
BegunStaysAsRowsCome =
    (goes : Routing) (task : Task) (xs ys : List Row) (put : ℕ → List PacketView) → HasConsumers task → BeganSending goes task xs put → BeganSending goes task (xs ++ ys) put

-- the same of a task: a packet less
abbrev pub BegunStaysWithoutLast : Type 0
BegunStaysWithoutLast =
    (goes : Routing) (task : Task) (rows : List Row) (put : ℕ → List PacketView) (j : ℕ) (p : PacketView)
    → BeganSending goes task rows (with_packet put j (Some p)) → BeganSending goes task rows put

-- Fault behind the packets of each consumer, and nothing where rows are kept
abbrev pub faulted : Task → (ℕ → List PacketView) → ℕ → List PacketView
faulted (send s) put = closed_by s fault put
faulted (keep kept) put = put

-- what began is stopped by Fault on each port
abbrev pub FaultStops : Type 0
FaultStops =
    (goes : Routing) (task : Task) (rows : List Row) (put closed : ℕ → List PacketView) → ((j : ℕ) → closed j ≡ faulted task put j)
    → BeganSending goes task rows put → Stopped goes task rows closed
