-- A queue of packets in memory, between a producer and a consumer.
use Rattle.std.specs.Prelude.{◌≡◌, ℕ, ◌+◌, ◌≤◌, Bool, true, false, List, [], ◌∷◌, ◌++◌}
use Rattle.vx_ports.specs.Packets.{PacketView, closes}

-- the packets that were put and not yet taken, and whether one that closes the stream was put
pub record LinkView : Type 0 where
  pub queue : List PacketView
  pub closed : Bool

-- until it is closed there is a place for one packet more
abbrev pub HasPlace : Bool → ℕ → ℕ → Type 0
HasPlace true len capacity = Unit {0}
HasPlace false len capacity = len + 1 ≤ capacity

-- the packet went to the end of the queue
abbrev pub PutsOnLine : LinkView → PacketView → LinkView → Type 0
PutsOnLine a p b = (b.queue ≡ a.queue ++ p ∷ []) × (b.closed ≡ closes p.content)

-- the packet came from the front of the queue
abbrev pub TakesFromLine : LinkView → PacketView → LinkView → Type 0
TakesFromLine a p b = (a.queue ≡ p ∷ b.queue) × (b.closed ≡ a.closed)
