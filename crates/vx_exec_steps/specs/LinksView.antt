-- What all workers of a run share, as plain data: queues of packets, decks and hands.
use Rattle.std.specs.Prelude.{ℕ, ◌≡◌, ◌+◌, ◌<◌, length, List, [], ◌∷◌, ◌++◌, Option, Some, None, slice_get, refl, Bool, true, false}
use Rattle.std.specs.List.{slice_index_or}
use Rattle.vx_ports.specs.Packets.{PacketView, closes}
use Rattle.vx_ports.specs.LinkView.{LinkView}
use Rattle.vx_worker.specs.Trace.{Event, idle, drew_one, took_one, put_one}
use Rattle.vx_exec_steps.specs.Queues.{line_in, queue_in}
use Rattle.vx_exec_steps.specs.Stations.{StationDraws}
use Rattle.vx_exec_steps.specs.declared.station.Station.{Station}
use Rattle.vx_exec_steps.specs.declared.station.Station.TheVariants.{Inner, Exchange}

-- by worker: the exchange that it sends to, and its queues by consumer; by node number: what stands there; and whose turn it is
pub record LinksView : Type 0 where
  pub sends : List ℕ
  pub stations : List Station
  pub queues : List (List LinkView)
  pub turn : ℕ

-- the queue from a worker to the consumer at place j of the exchange that it sends to
abbrev pub queue_at : LinksView → (worker j : ℕ) → List PacketView
queue_at w a j = queue_in (slice_index_or w.queues a []) j

abbrev pub station_at : LinksView → ℕ → Station
station_at w k = slice_index_or w.stations k Inner

-- whether the queue from a worker to the consumer at place j was closed; one that there is not counts as closed
abbrev pub closed_at : LinksView → (worker j : ℕ) → Bool
closed_at w a j = (line_in (slice_index_or w.queues a []) j).closed

-- the worker whose turn it is has no queue to consumer j, or that queue was closed
abbrev pub PortIsClosed : LinksView → (j : ℕ) → Type 0
PortIsClosed w j = closed_at w w.turn j ≡ true

-- the tables that no event changes
pub record SameTables (w v : LinksView) : Type 0 where
  pub sends : v.sends ≡ w.sends
  pub turn : v.turn ≡ w.turn

abbrev pub SameQueues : LinksView → LinksView → Type 0
SameQueues w v = (a j : ℕ) → queue_at v a j ≡ queue_at w a j

abbrev pub SameClosed : LinksView → LinksView → Type 0
SameClosed w v = (a j : ℕ) → closed_at v a j ≡ closed_at w a j

abbrev pub SameStations : LinksView → LinksView → Type 0
SameStations w v = (k : ℕ) → station_at v k ≡ station_at w k

-- nothing changed
pub record Stays (w v : LinksView) : Type 0 where
  pub tables : SameTables w v
  pub queues : SameQueues w v
  pub closed : SameClosed w v
  pub stations : SameStations w v

-- the worker whose turn it is put a packet for consumer j, on a queue that was open
pub record Puts (w : LinksView) (j : ℕ) (p : PacketView) (v : LinksView) : Type 0 where
  pub tables : SameTables w v
  pub stations : SameStations w v
  pub here : queue_at v w.turn j ≡ queue_at w w.turn j ++ p ∷ []
  pub others : (a k : ℕ) → ((a ≡ w.turn) × (k ≡ j) → ⊥) → queue_at v a k ≡ queue_at w a k
  pub was_open : closed_at w w.turn j ≡ false
  pub closes_here : closed_at v w.turn j ≡ closes p.content
  pub closed_others : (a k : ℕ) → ((a ≡ w.turn) × (k ≡ j) → ⊥) → closed_at v a k ≡ closed_at w a k

-- the worker whose turn it is, consumer j of exchange x, has its queue from producer i at worker a
pub record IsWay (w : LinksView) (x i a j : ℕ) : Type 0 where
  pub below : ℕ
  pub above : ℕ
  pub station : station_at w x ≡ Exchange below above
  pub producer : below + i ≡ a
  pub sends : slice_get w.sends a ≡ Some x
  pub within : a < length w.queues
  pub consumer : above + j ≡ w.turn

-- a queue from the producer at a place of an exchange to the worker whose turn it is, if there is one
abbrev pub FindsWay : LinksView → (x i : ℕ) → Option (ℕ × ℕ) → Type 0
FindsWay w x i None = (a j : ℕ) → IsWay w x i a j → ⊥
FindsWay w x i (Some q) = IsWay w x i q.0 q.1

-- it found no packet of producer i of exchange x
pub record Misses (w : LinksView) (x i : ℕ) (v : LinksView) : Type 0 where
  pub stays : Stays w v
  pub empty : (a j : ℕ) → IsWay w x i a j → queue_at w a j ≡ []

-- it took a packet of producer i of exchange x
pub record Takes (w : LinksView) (x i : ℕ) (p : PacketView) (v : LinksView) : Type 0 where
  pub tables : SameTables w v
  pub stations : SameStations w v
  pub a : ℕ
  pub j : ℕ
  pub way : IsWay w x i a j
  pub here : queue_at w a j ≡ p ∷ queue_at v a j
  pub others : (b k : ℕ) → ((b ≡ a) × (k ≡ j) → ⊥) → queue_at v b k ≡ queue_at w b k
  pub closed : SameClosed w v

-- it drew at node k
pub record DrawsAt (w : LinksView) (k : ℕ) (n : Option ℕ) (v : LinksView) : Type 0 where
  pub tables : SameTables w v
  pub queues : SameQueues w v
  pub closed : SameClosed w v
  pub here : StationDraws (station_at w k) w.turn n (station_at v k)
  pub others : (l : ℕ) → (l ≡ k → ⊥) → station_at v l ≡ station_at w l

-- what an event of the worker whose turn it is does
abbrev pub Does : LinksView → Event → LinksView → Type 0
Does w idle v = Stays w v
Does w (drew_one k n) v = DrawsAt w k n v
Does w (took_one x i None) v = Misses w x i v
Does w (took_one x i (Some p)) v = Takes w x i p v
Does w (put_one j p) v = Puts w j p v

pub stays : (w : LinksView) → Does w idle w
stays w = record { tables = record { sends = refl; turn = refl }; queues = λ a j. refl; closed = λ a j. refl; stations = λ k. refl }
