-- The lanes of a sending end, one for each consumer, and how rows are dealt to them.
use Rattle.std.specs.Prelude.{ℕ, ◌≡◌, ◌<◌, ◌+◌, ◌%◌, ◌==◌, nat_lt, Bool, true, false, List, [], ◌∷◌, length, map, zip, Some, slice_get, slice_set}
use Rattle.std.specs.List.{list_any, list_all}
use Rattle.vx_rows_values.specs.Values.{Val, Row}
use Rattle.vx_rows.specs.Lists.{each_below}
use Rattle.vx_plan_nodes.specs.Outline.{size_of}
use Rattle.vx_plan_nodes.specs.Plan.{ExchangeKind, route_to, round, broadcast, gather, concat}
use Rattle.vx_plan_nodes.specs.Routes.{Routing, Sends}
use Rattle.vx_plan_nodes.specs.Streams.{Streams, bearing}
use Rattle.vx_ports.specs.Packets.{Content, closes, content_rows, is_empty, PacketView}
use Rattle.vx_exchange_ends.specs.Ship.{Ship}
use Rattle.vx_exchange.specs.LaneView.{Way, LaneView, parcel_of, empty_outlet, Cuts, CutsRest}
use Rattle.vx_exchange.specs.Routed.{key_route, key_columns, key_bounds}
use Rattle.vx_exchange.specs.declared.deal.Deal.{Deal}
use Rattle.vx_exchange.specs.declared.deal.Deal.TheVariants.{Route, Round, Broadcast, Gather, Concat}
use Rattle.vx_exchange.specs.declared.sender.SenderState.{SenderState}
use Rattle.vx_exchange.specs.declared.sender.SenderState.TheVariants.{Open, Ending, Failing}

-- the kind of the exchange whose rows are dealt so
abbrev pub kind_of : Deal → ExchangeKind
kind_of (Route z r) = route_to (size_of z) (key_route r) (key_columns r)
kind_of (Round z) = round (size_of z)
kind_of (Broadcast z) = broadcast (size_of z)
kind_of Gather = gather
kind_of Concat = concat

-- whether rows can be dealt so to this many consumers: those of a gather and of a concat go to one, others to some
abbrev pub serves : Deal → ℕ → Bool
serves (Route z r) n = nat_lt 0 n
serves (Round z) n = nat_lt 0 n
serves (Broadcast z) n = nat_lt 0 n
serves Gather n = n == 1
serves Concat n = n == 1

-- the bounds by which they are dealt, none if it is not by range
abbrev pub bounds_of : Deal → List Val
bounds_of (Route z r) = key_bounds r
bounds_of (Round z) = []
bounds_of (Broadcast z) = []
bounds_of Gather = []
bounds_of Concat = []

-- the columns by which they are dealt
abbrev pub columns_of : Deal → List ℕ
columns_of (Route z r) = key_columns r
columns_of (Round z) = []
columns_of (Broadcast z) = []
columns_of Gather = []
columns_of Concat = []

-- rows with the consumers that take turns, from consumer r among n on: row i goes to consumer (r + i) mod n
abbrev pub in_turn : (n r : ℕ) → List Row → List (ℕ × Row)
in_turn n r rows = zip (each_below (length rows) (λ i. (r + i) % n)) rows

-- a round robin sends each row to the consumer whose turn it is; of the other kinds `Sends` says all
abbrev pub TakesTurns : ExchangeKind → (n r : ℕ) → List Row → Streams → Type 0
TakesTurns (round z) n r rows sent = (j : ℕ) → j < n → bearing j (in_turn n r rows) ≡ sent j
TakesTurns (route_to z route cols) n r rows sent = Unit {0}
TakesTurns (broadcast z) n r rows sent = Unit {0}
TakesTurns gather n r rows sent = Unit {0}
TakesTurns concat n r rows sent = Unit {0}

-- the lane of a consumer
abbrev pub IsLane : List LaneView → (consumer : ℕ) → LaneView → Type 0
IsLane lanes j o = slice_get lanes j ≡ Some o

-- where the lanes lead
abbrev pub ways_of : List LaneView → List Way
ways_of lanes = map (λ (o : LaneView). o.way) lanes

-- whether each returned its closing packet
abbrev pub closings_of : List LaneView → List Bool
closings_of lanes = map (λ (o : LaneView). o.closed) lanes

-- some lane returned its closing packet
abbrev pub any_closed : List LaneView → Bool
any_closed lanes = list_any (λ b. b) (closings_of lanes)

-- no packet of rows waits
abbrev pub are_idle : List LaneView → Bool
are_idle lanes = list_all (λ o. is_empty o.ready) lanes

-- no packet of rows waits in the lanes before this one
abbrev pub IdleBefore : ℕ → List LaneView → Type 0
IdleBefore n lanes = (j : ℕ) (o : LaneView) → j < n → IsLane lanes j o → o.ready ≡ []

-- each lane before this one returned its closing packet
abbrev pub ClosedBefore : ℕ → List LaneView → Type 0
ClosedBefore n lanes = (j : ℕ) (o : LaneView) → j < n → IsLane lanes j o → o.closed ≡ true

-- the way of the first lane, which is that of all but for the consumer
abbrev pub first_way : List Way → Way
first_way [] = record { exchange = 0; place = 0; consumer = 0; types = []; size = 0 }
first_way (w ∷ ws) = w

-- the sending end whose lanes lead there
abbrev pub ship_of : Deal → List Way → Ship
ship_of deal ways = record {
  exchange = (first_way ways).exchange;
  place = (first_way ways).place;
  consumers = length ways;
  types = (first_way ways).types;
  kind = kind_of deal;
  size = (first_way ways).size;
}

-- the way to a consumer
abbrev pub way_to : Ship → (consumer : ℕ) → Way
way_to s j = record { exchange = s.exchange; place = s.place; consumer = j; types = s.types; size = s.size }

-- each lane leads to the consumer of its number
abbrev pub AreNumbered : Deal → List Way → Type 0
AreNumbered deal ways = (j : ℕ) (w : Way) → slice_get ways j ≡ Some w → w ≡ way_to (ship_of deal ways) j

-- whether a closing packet may have been returned or be next
abbrev pub may_close : SenderState → List LaneView → Bool
may_close Open lanes = any_closed lanes
may_close Ending lanes = any_closed lanes
may_close Failing lanes = true

-- a lane for each consumer, with nothing in it
pub record AreFresh (n : ℕ) (way : ℕ → Way) (lanes : List LaneView) : Type 0 where
  pub count : length lanes ≡ n
  pub each : (j : ℕ) (o : LaneView) → IsLane lanes j o → o ≡ empty_outlet (way j)

-- the same lanes, but for the rows and packets that they hold
pub record SameLanes (old new : List LaneView) : Type 0 where
  pub ways : ways_of new ≡ ways_of old
  pub closings : closings_of new ≡ closings_of old

-- each lane cut the rows for its consumer
abbrev pub CutsEach : Streams → List LaneView → List LaneView → Type 0
CutsEach more old new = (j : ℕ) (o o' : LaneView) → IsLane old j o → IsLane new j o' → Cuts o.way o.current o.ready (more j) o'.current o'.ready

-- rows were dealt to the lanes, where it was the turn of consumer r, and each cut those for its consumer
pub record Deals (goes : Routing) (k : ExchangeKind) (r : ℕ) (rows : List Row) (old new : List LaneView) : Type 0 where
  pub more : Streams
  pub sends : Sends goes k (length old) rows more
  pub turns : TakesTurns k (length old) r rows more
  pub cuts : CutsEach more old new

-- the rows at hand of each lane went into one packet
abbrev pub Finishes : List LaneView → List LaneView → Type 0
Finishes old new = (j : ℕ) (o o' : LaneView) → IsLane old j o → IsLane new j o' → CutsRest o.way o.current o.ready o'.ready

-- the lane of a consumer returned a packet of rows that waited
pub record GivesPacket (old new : List LaneView) (consumer : ℕ) (p : PacketView) : Type 0 where
  pub before : LaneView
  pub after : LaneView
  pub there : IsLane old consumer before
  pub lanes : new ≡ slice_set old consumer after
  pub way : after.way ≡ before.way
  pub current : after.current ≡ before.current
  pub ready : before.ready ≡ p ∷ after.ready
  pub closed : after.closed ≡ before.closed
  pub of_rows : closes p.content ≡ false
  pub of_some : 0 < length (content_rows p.content)

-- the lane of a consumer returned its closing packet
pub record GivesClosing (content : Content) (old new : List LaneView) (consumer : ℕ) (p : PacketView) : Type 0 where
  pub before : LaneView
  pub after : LaneView
  pub there : IsLane old consumer before
  pub lanes : new ≡ slice_set old consumer after
  pub way : after.way ≡ before.way
  pub current : after.current ≡ before.current
  pub ready : after.ready ≡ before.ready
  pub packet : p ≡ parcel_of before.way content
  pub was_open : before.closed ≡ false
  pub closed : after.closed ≡ true
