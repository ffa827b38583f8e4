-- What is known of the two ends of a ring, each by itself (our own; the ring is that of the crate rtrb).
use Rattle.std.specs.Prelude.{◌≡◌, ℕ, ◌+◌, ◌≤◌, List, [], ◌∷◌, ◌++◌}
use mathlib.Core.List.{IsPrefix}
use Rattle.rtrb.specs.Ring.{sent, received, known_free, known_items, producer_capacity, IsPair, SameProducer, SameConsumer}
use Rattle.vx_ports.specs.Packets.{PacketView, closes, is_closed}
use Rattle.vx_ports_rings.specs.declared.ring.RingOut.{RingOut}
use Rattle.vx_ports_rings.specs.declared.ring.RingIn.{RingIn}

-- every packet that was put, the oldest first
abbrev pub put_to : RingOut → List PacketView
put_to o = sent o.producer

-- every packet that was taken, the oldest first
abbrev pub taken_from : RingIn → List PacketView
taken_from i = received i.consumer

-- the two ends of one ring
abbrev pub IsRing : RingOut → RingIn → Type 0
IsRing o i = IsPair o.producer i.consumer

-- the same end of one ring, at two moments
abbrev pub SameOut : RingOut → RingOut → Type 0
SameOut a b = SameProducer a.producer b.producer

abbrev pub SameIn : RingIn → RingIn → Type 0
SameIn a b = SameConsumer a.consumer b.consumer

-- how many packets the ring has places for
abbrev pub slack_of : RingOut → ℕ
slack_of o = producer_capacity o.producer

-- how many of its places are free, as the end that puts last saw it: there may be more by now, and not fewer
abbrev pub room_of : RingOut → ℕ
room_of o = known_free o.producer

-- the packets that wait, as the end that takes last saw it: there may be more by now, behind these
abbrev pub seen_by : RingIn → List PacketView
seen_by i = known_items i.consumer

-- the packet went behind those that were put before, into one of the free places
abbrev pub PutsInRing : RingOut → PacketView → RingOut → Type 0
PutsInRing a p b = (put_to b ≡ put_to a ++ p ∷ []) × (is_closed (put_to b) ≡ closes p.content) × (room_of a ≤ room_of b + 1) × SameOut a b

-- nothing was put: this end knows of no free place. The toolchain's ring says the same of an end that did not look just now
abbrev pub FindsFull : RingOut → RingOut → Type 0
FindsFull a b = (put_to b ≡ put_to a) × (room_of b ≡ 0) × SameOut a b

-- the packet is the next of those that were put. It is the first of those that were seen to wait, if any were
abbrev pub TakesFromRing : RingIn → PacketView → RingIn → Type 0
TakesFromRing a p b = (taken_from b ≡ taken_from a ++ p ∷ []) × IsPrefix (seen_by a) (p ∷ seen_by b) × SameIn a b

-- nothing was taken: no packet waited as this take saw it
abbrev pub FindsNone : RingIn → RingIn → Type 0
FindsNone a b = (taken_from b ≡ taken_from a) × (seen_by b ≡ []) × SameIn a b
