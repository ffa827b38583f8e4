-- The life of a link: what is put on it and taken from it, in the order in which that happens.
use Rattle.std.specs.Prelude.{◌≡◌, false, List, [], ◌∷◌}
use Rattle.vx_ports.specs.Packets.{PacketView, Flows}
use Rattle.vx_ports.specs.LinkView.{LinkView, PutsOnLine, TakesFromLine}

-- one call that moved a packet
pub data Move : Type 0 where
  put_on : PacketView → Move
  taken_off : PacketView → Move

-- the packets that were put, in order
abbrev pub puts_of : List Move → List PacketView
puts_of [] = []
puts_of (put_on p ∷ es) = p ∷ puts_of es
puts_of (taken_off p ∷ es) = puts_of es

-- the packets that were taken, in order
abbrev pub takes_of : List Move → List PacketView
takes_of [] = []
takes_of (put_on p ∷ es) = takes_of es
takes_of (taken_off p ∷ es) = p ∷ takes_of es

-- an open queue without packets
abbrev pub new_line : LinkView
new_line = record { queue = []; closed = false }

-- a link goes from one state to another by these calls, none of which puts a packet once the link is closed
abbrev pub Lives : LinkView → List Move → LinkView → Type 0
Lives a [] b = b ≡ a
Lives a (put_on p ∷ es) b = (c : LinkView) × (a.closed ≡ false) × PutsOnLine a p c × Lives c es b
Lives a (taken_off p ∷ es) b = (c : LinkView) × TakesFromLine a p c × Lives c es b

-- whatever is done to a new link: what was taken is a prefix of what was put, in order, and all of it once the stream's end was taken
abbrev pub LinkFlows : Type 0
LinkFlows = (es : List Move) (b : LinkView) → Lives new_line es b → Flows (puts_of es) (takes_of es)
