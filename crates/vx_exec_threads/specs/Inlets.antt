-- What an inlet gave to the steps of its worker (our own).
use Rattle.std.specs.Prelude.{◌≡◌, ℕ, ◌==◌, ◌&&◌, ◌≤◌, ◌⊎◌, Bool, List, [], ◌∷◌, ◌++◌, length}
use Rattle.vx_ports.specs.Packets.{PacketView}
use Rattle.vx_ports_rings.specs.Ends.{taken_from, seen_by, SameIn, FindsNone}
use Rattle.vx_exec_threads.specs.declared.inlet.Inlet.{Inlet}

-- it comes from this producer of this exchange
abbrev pub is_way : Inlet → (exchange from : ℕ) → Bool
is_way e x i = (e.exchange == x) && (e.from == i)

-- the ring gave what the steps took, and then what is in the queue
abbrev pub CameBy : Inlet → List PacketView → Type 0
CameBy e ts = taken_from e.ring ≡ ts ++ e.queue.items

-- the same end of one ring, from the same producer, at two moments
pub record SameInlet (a b : Inlet) : Type 0 where
  pub exchange : b.exchange ≡ a.exchange
  pub from : b.from ≡ a.from
  pub ring : SameIn a.ring b.ring

-- the steps took nothing; packets may have gone from the ring into the queue
pub record KeepsIn (a b : Inlet) : Type 0 where
  pub same : SameInlet a b
  pub came : (ts : List PacketView) → CameBy a ts → CameBy b ts

-- a step took this packet, wherever it lay
pub record TakesIn (a : Inlet) (p : PacketView) (b : Inlet) : Type 0 where
  pub same : SameInlet a b
  pub came : (ts : List PacketView) → CameBy a ts → CameBy b (ts ++ p ∷ [])

-- a step found nothing: the queue was empty, and no packet waited in the ring as this take saw it
pub record FindsNoneIn (a b : Inlet) : Type 0 where
  pub keeps : KeepsIn a b
  pub queue : (a.queue.items ≡ []) × (b.queue.items ≡ [])
  pub ring : FindsNone a.ring b.ring

-- no packet is seen to wait in the ring, or the queue has as many as the largest ring has places
abbrev pub IsGathered : Inlet → Type 0
IsGathered e = (seen_by e.ring ≡ []) ⊎ (1024 ≤ length e.queue.items)
