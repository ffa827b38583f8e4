-- A sending end that closes: what it returned before, and then Last or Fault for each consumer.
use Rattle.std.specs.Prelude.{ℕ, ◌<◌, nat_lt, cond, List, [], ◌∷◌, ◌++◌}
use Rattle.vx_rows_values.specs.Values.{Row}
use Rattle.vx_plan_nodes.specs.Routes.{Routing}
use Rattle.vx_ports.specs.Packets.{Content, last, fault, PacketView}
use Rattle.vx_exchange_ends.specs.Ship.{Ship, packet_of, IsCut, IsShipped, IsCutShort, IsPartShipped}

-- a closing packet behind what was returned for each consumer
abbrev pub closed_by : Ship → Content → (ℕ → List PacketView) → ℕ → List PacketView
closed_by s c put j = cond (nat_lt j s.consumers) (put j ++ packet_of s j c ∷ []) (put j)

-- what was returned in part, and then Fault, is cut short
abbrev pub FaultCutsShort : Type 0
FaultCutsShort =
    (goes : Routing) (s : Ship) (rows : List Row) (put : ℕ → List PacketView) → IsPartShipped goes s rows put → IsCutShort goes s rows (closed_by s fault put)

-- what was returned in part, where it is all that the rows send, cut, and then Last, is shipped
abbrev pub LastShips : Type 0
LastShips =
    (goes : Routing) (s : Ship) (rows : List Row) (put : ℕ → List PacketView) → (part : IsPartShipped goes s rows put)
    → ((j : ℕ) → j < s.consumers → IsCut s.size (part.sent j) (part.parts j)) → IsShipped goes s rows (closed_by s last put)
