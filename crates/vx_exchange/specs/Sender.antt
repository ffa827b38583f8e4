-- When a sending end may have accepted a stream and returned packets for its consumers.
use Rattle.std.specs.Prelude.{ℕ, ◌≡◌, ◌<◌, ◌≤◌, ◌%◌, ◌&&◌, not, Bool, true, false, List, [], ◌∷◌, ◌++◌, length, map, take}
use Rattle.std.specs.List.{AllByRecursion}
use Rattle.std.proofs.Common.{refl, sym, ◌∙◌, subst, true≢false, append-nil}
use Rattle.std.proofs.lemmas.List.{length-map}
use Rattle.vx_rows_values.specs.Values.{Val, Row}
use Rattle.vx_rows.specs.Lists.{IsBeginning}
use Rattle.vx_plan_nodes.specs.Routes.{Routing, Sends}
use Rattle.vx_plan_nodes.specs.Streams.{Streams}
use Rattle.vx_ports.specs.Packets.{Content, last, fault, PacketView, is_stream}
use Rattle.vx_ops.specs.Ledger.{Stream}
use Rattle.vx_ops.specs.declared.fault.Fault.{Fault}
use Rattle.vx_ops.specs.declared.fault.StreamState.{StreamState}
use Rattle.vx_ops.specs.declared.fault.StreamState.TheVariants.{Running, Ended, Failed}
use Rattle.vx_exchange_ends.specs.Ship.{Ship, end_to_end, packet_of, packet_at, IsCut, IsPartShipped}
use Rattle.vx_exchange.specs.LaneView.{LaneView}
use Rattle.vx_exchange.specs.Lanes.{IsLane, ways_of, any_closed, ship_of, bounds_of, TakesTurns}
use Rattle.vx_exchange.specs.LaneLaws.{element_at, choose, open_at}
use Rattle.vx_exchange_ends.specs.Tasks.{Task, send, Post, sends_by_ship, BeganSending, IsAt}
use Rattle.vx_exchange.specs.declared.sender.Sender.{Sender}
use Rattle.vx_exchange.specs.declared.sender.SenderState.{SenderState}
use Rattle.vx_exchange.specs.declared.sender.SenderState.TheVariants.{Open, Ending, Failing}
use Rattle.vx_exchange_ends.specs.Beginnings.{begins-along, begins-take, mapped-take}
use Rattle.vx_exchange_ends.specs.Queued.{consumers_of}
use Rattle.vx_exchange_ends.specs.Streams.{AreStreams, packet-stream, rows-stream, prefix-stream, are-streams}

-- what it sends, and where
abbrev pub sender_ship : Sender → Ship
sender_ship s = ship_of s.deal (ways_of s.lanes.items)

-- it sends there
abbrev pub sender_task : Sender → Task
sender_task s = send (sender_ship s)

-- so does its post
abbrev pub sender_post : Sender → Post
sender_post s = sends_by_ship (sender_ship s)

-- the bounds by which it deals rows
abbrev pub sender_bounds : Sender → List Val
sender_bounds s = bounds_of s.deal

-- whether rows may come
abbrev pub takes_more : SenderState → Bool
takes_more Open = true
takes_more Ending = false
takes_more Failing = false

-- it accepts more until it closes
abbrev pub sender_is_open : Sender → Bool
sender_is_open s = takes_more s.stage && not (any_closed s.lanes.items)

-- Last or Fault was returned to some consumer
abbrev pub sender_has_closed : Sender → Bool
sender_has_closed s = any_closed s.lanes.items

-- the closing packet for a consumer, where it was returned
abbrev pub closing_given : Ship → (consumer : ℕ) → Content → (closed : Bool) → List PacketView
closing_given s j content true = packet_of s j content ∷ []
closing_given s j content false = []

-- rows for a consumer come: full packets were made of them, in order
pub record IsFilling (s : Ship) (consumer : ℕ) (o : LaneView) (rows : List Row) (given : List PacketView) : Type 0 where
  pub full : List (List Row)
  pub all_full : AllByRecursion (λ (p : List Row). length p ≡ s.size) full
  pub rows_are : end_to_end full ++ o.current ≡ rows
  pub packets : given ++ o.ready ≡ map (packet_at s consumer) full

-- all rows for a consumer came: all packets of them were made, and Last is returned behind them
pub record IsEnding (s : Ship) (consumer : ℕ) (o : LaneView) (rows : List Row) (given : List PacketView) : Type 0 where
  pub parts : List (List Row)
  pub cut : IsCut s.size rows parts
  pub packets : given ++ o.ready ≡ map (packet_at s consumer) parts ++ closing_given s consumer last o.closed

-- a fault came, or memory ran out: Fault is returned behind what was returned
pub record IsFailing (s : Ship) (consumer : ℕ) (o : LaneView) (rows : List Row) (given : List PacketView) : Type 0 where
  pub parts : List (List Row)
  pub begins : IsBeginning (end_to_end parts) rows
  pub packets : map (packet_at s consumer) parts ++ closing_given s consumer fault o.closed ≡ given

-- what the lane of a consumer returned
abbrev pub LaneAt : SenderState → Ship → (consumer : ℕ) → LaneView → List Row → List PacketView → Type 0
LaneAt Open s j o rows given = IsFilling s j o rows given
LaneAt Ending s j o rows given = IsEnding s j o rows given
LaneAt Failing s j o rows given = IsFailing s j o rows given

-- whether the stream that came is over
abbrev pub IsOver : SenderState → StreamState → Type 0
IsOver Open over = over ≡ Running
IsOver Ending over = over ≡ Ended
IsOver Failing over = (f : Fault) × (over ≡ Failed f)

-- whose turn it is among n while rows come: that of the consumer behind that of the last row
abbrev pub IsTurn : SenderState → (n r : ℕ) → List Row → Type 0
IsTurn Open n r rows = r ≡ length rows % n
IsTurn Ending n r rows = Unit {0}
IsTurn Failing n r rows = Unit {0}

-- what each lane returned of what the rows send to its consumer, and nothing for any other; it is the turn of consumer r
pub record SenderAt (goes : Routing) (s : Ship) (st : SenderState) (r : ℕ) (lanes : List LaneView) (a : Stream) (g : ℕ → List PacketView) : Type 0 where
  pub sent : Streams
  pub sends : Sends goes s.kind s.consumers a.rows sent
  pub gives : (j : ℕ) (o : LaneView) → IsLane lanes j o → LaneAt st s j o (sent j) (g j)
  pub nothing : (j : ℕ) → s.consumers ≤ j → g j ≡ []
  pub is_over : IsOver st a.over
  pub turns : TakesTurns s.kind s.consumers 0 a.rows sent
  pub turn : IsTurn st s.consumers r a.rows

-- so the sending end stands
abbrev pub SenderStands : Sender → Routing → Stream → (ℕ → List PacketView) → Type 0
SenderStands s goes a g = SenderAt goes (sender_ship s) s.stage s.next s.lanes.items a g

-- it accepts more only before it closes
pub sender_open_first : (s : Sender) → sender_is_open s ≡ true → sender_has_closed s ≡ false
sender_open_first s e = go (takes_more s.stage) (any_closed s.lanes.items) e
  where
    go : (more closed : Bool) → (more && not closed) ≡ true → closed ≡ false
    go true false e = refl
    go true true e = absurd (true≢false (sym e))
    go false closed e = absurd (true≢false (sym e))

-- its post is that of its task
pub sender_at_post : (s : Sender) → IsAt (sender_post s) (sender_task s)
sender_at_post s = refl

-- before it closes, a lane returned packets of a prefix of the rows for its consumer
record GaveInPart (s : Ship) (consumer : ℕ) (rows : List Row) (given : List PacketView) (parts : List (List Row)) : Type 0 where
  begins : IsBeginning (end_to_end parts) rows
  packets : map (packet_at s consumer) parts ≡ given

gave_in_part : (st : SenderState) (s : Ship) (j : ℕ) (o : LaneView) (rows : List Row) (given : List PacketView) → LaneAt st s j o rows given → o.closed ≡ false
    → (parts : List (List Row)) × GaveInPart s j rows given parts
gave_in_part Open s j o rows given k e = (
  take (length given) k.full,
  record {
    begins = begins-along (end_to_end (take (length given) k.full)) (end_to_end k.full) rows (begins-take (length given) k.full) (record { rest = o.current; joined = k.rows_are });
    packets = mapped-take (packet_at s j) k.full given o.ready k.packets;
  },
)
gave_in_part Ending s j o rows given k e =
    let P : Bool → Type 0 = λ b. given ++ o.ready ≡ map (packet_at s j) k.parts ++ closing_given s j last b in
    let R : List Row → Type 0 = λ xs. IsBeginning (end_to_end (take (length given) k.parts)) xs in (
      take (length given) k.parts,
      record {
        begins = subst R k.cut.rows_are (begins-take (length given) k.parts);
        packets = mapped-take (packet_at s j) k.parts given o.ready (subst P e k.packets ∙ append-nil (map (packet_at s j) k.parts));
      },
    )
gave_in_part Failing s j o rows given k e =
    let P : Bool → Type 0 = λ b. map (packet_at s j) k.parts ++ closing_given s j fault b ≡ given in
    (k.parts, record { begins = k.begins; packets = sym (append-nil (map (packet_at s j) k.parts)) ∙ subst P e k.packets })

-- so did all lanes
begun_at : (goes : Routing) (s : Ship) (st : SenderState) (r : ℕ) (lanes : List LaneView) (a : Stream) (g : ℕ → List PacketView) → s.consumers ≡ length lanes
    → SenderAt goes s st r lanes a g → any_closed lanes ≡ false → IsPartShipped goes s a.rows g
begun_at goes s st r lanes a g many h unclosed =
    let P : ℕ → List (List Row) → Type 0 = λ j parts. GaveInPart s j (h.sent j) (g j) parts in
    let f = choose P [] lanes (λ j o e. gave_in_part st s j o (h.sent j) (g j) (h.gives j o e) (open_at lanes j o unclosed e)) in
    let at : (j : ℕ) → j < s.consumers → P j (f.0 j) = λ j l. let L : ℕ → Type 0 = λ n. j < n in let e = element_at lanes j (subst L many l) in f.1 j e.0 e.1 in
    record {
      sent = h.sent;
      sends = h.sends;
      parts = f.0;
      begins = λ j l. (at j l).begins;
      packets = λ j l. (at j l).packets;
      nothing = h.nothing;
    }

-- and so the sending end has begun
pub sender_begun : (s : Sender) (goes : Routing) (a : Stream) (g : ℕ → List PacketView) → SenderStands s goes a g → sender_has_closed s ≡ false → BeganSending goes (sender_task s) a.rows g
sender_begun s goes a g h e = begun_at goes (sender_ship s) s.stage s.next s.lanes.items a g (length-map s.lanes.items (λ (o : LaneView). o.way)) h e

-- the closing packet of a lane is a stream, and so is none
closing_stream : (s : Ship) (j : ℕ) (content : Content) (closed : Bool) → is_stream (closing_given s j content closed) ≡ true
closing_stream s j content true = packet-stream (packet_of s j content)
closing_stream s j content false = refl

-- what a lane returned is a stream, also once it has closed
lane_stream : (st : SenderState) (s : Ship) (j : ℕ) (o : LaneView) (rows : List Row) (given : List PacketView) → LaneAt st s j o rows given → is_stream given ≡ true
lane_stream Open s j o rows given k =
    let P : List PacketView → Type 0 = λ ps. is_stream ps ≡ true in
    prefix-stream given o.ready (subst P (append-nil (map (packet_at s j) k.full) ∙ sym k.packets) (rows-stream s j k.full [] refl))
lane_stream Ending s j o rows given k =
    let P : List PacketView → Type 0 = λ ps. is_stream ps ≡ true in
    prefix-stream given o.ready (subst P (sym k.packets) (rows-stream s j k.parts (closing_given s j last o.closed) (closing_stream s j last o.closed)))
lane_stream Failing s j o rows given k =
    let P : List PacketView → Type 0 = λ ps. is_stream ps ≡ true in
    subst P k.packets (rows-stream s j k.parts (closing_given s j fault o.closed) (closing_stream s j fault o.closed))

-- so it is of all lanes
streams_at : (goes : Routing) (s : Ship) (st : SenderState) (r : ℕ) (lanes : List LaneView) (a : Stream) (g : ℕ → List PacketView) → s.consumers ≡ length lanes
    → SenderAt goes s st r lanes a g → AreStreams s.consumers g
streams_at goes s st r lanes a g many h =
    are-streams s.consumers g (λ j l. let N : ℕ → Type 0 = λ n. j < n in let e = element_at lanes j (subst N many l) in lane_stream st s j e.0 (h.sent j) (g j) (h.gives j e.0 e.1)) h.nothing

-- and so of the sending end
pub sender_streams : (s : Sender) (goes : Routing) (a : Stream) (g : ℕ → List PacketView) → SenderStands s goes a g → AreStreams (consumers_of (sender_post s)) g
sender_streams s goes a g h = streams_at goes (sender_ship s) s.stage s.next s.lanes.items a g (length-map s.lanes.items (λ (o : LaneView). o.way)) h
