-- A round robin: a producer's row r, counted from 0, goes to consumer r mod n.
use Rattle.std.specs.Prelude.{ℕ, ◌≡◌, ◌<◌, true, List, []}
use Rattle.std.specs.List.{All}
use Rattle.vx_plan_nodes.specs.Plan.{Size, round}
use Rattle.vx_plan_nodes.specs.Routes.{Routing}
use Rattle.vx_plan_nodes.specs.Streams.{bearing}
use Rattle.vx_ports.specs.Packets.{PacketView}
use Rattle.vx_ops.specs.Ledger.{Stream}
use Rattle.vx_exchange_ends.specs.Ship.{IsPort}
use Rattle.vx_exchange.specs.Lanes.{in_turn}
use Rattle.vx_exchange.specs.Sender.{SenderStands, sender_ship}
use Rattle.vx_exchange.specs.declared.sender.Sender.{Sender}
use Rattle.vx_exchange.specs.declared.sender.SenderState.TheVariants.{Ending}

-- all rows came, and each lane returned all that it had, and Last
pub record HasDrained (s : Sender) : Type 0 where
  pub ending : s.stage ≡ Ending
  pub idle : All (λ o. o.ready ≡ []) s.lanes.items
  pub closed : All (λ o. o.closed ≡ true) s.lanes.items

-- so to each consumer went, cut into packets, just the rows whose turn was its own
pub record RoundRobinLaw : Type 0 where
  pub ports : (s : Sender) (goes : Routing) (a : Stream) (g : ℕ → List PacketView) (z : Size) → (sender_ship s).kind ≡ round z → SenderStands s goes a g → HasDrained s
      → (j : ℕ) → j < (sender_ship s).consumers → IsPort (sender_ship s) j (bearing j (in_turn (sender_ship s).consumers 0 a.rows)) (g j)
