-- One turn of a source: what it gets fits what it wants, what its ledger is afterwards, and what the turn costs of what is left to the source.
use Rattle.std.specs.Prelude.{ℕ, zero, suc, ◌≡◌, ◌<◌, ◌≤◌, ◌+◌, ◌==◌, false, List, [], ◌∷◌, ◌++◌, length, Option, Some, None, cond}
use Rattle.vx_rows_values.specs.declared.value.ColType.{ColType}
use Rattle.vx_ports.specs.Packets.{PacketView, content_rows, is_closed}
use Rattle.vx_ops.specs.Ledger.{Stream, Ledger, fresh, Op, scan_op, one_op, two_op, receive}
use Rattle.vx_ops.specs.declared.fault.StreamState.{StreamState}
use Rattle.vx_ops.specs.declared.fault.StreamState.TheVariants.{Running, Ended, Failed}
use Rattle.vx_ops.specs.declared.turn.Want.{Want}
use Rattle.vx_ops.specs.declared.turn.Want.TheVariants as want
use Rattle.vx_ops.specs.declared.turn.Got.{Got}
use Rattle.vx_ops.specs.declared.turn.Got.TheVariants as got
use Rattle.vx_ops.specs.declared.turn.Polled.{Polled}
use Rattle.vx_ops.specs.declared.turn.Polled.TheVariants as polled

-- the types of the rows of the left (or only) input, of the right one, and of the source's own; a morsel comes as left
pub record Shape : Type 0 where
  pub left : List ColType
  pub right : List ColType
  pub out : List ColType

-- the stream after what was returned
abbrev pub heard : Stream → Polled → Stream
heard s (polled.Gave t) = record { rows = s.rows ++ t.rows; over = s.over }
heard s polled.Waiting = s
heard s polled.End = record { rows = s.rows; over = Ended }
heard s (polled.Fault f) = record { rows = s.rows; over = Failed f }

-- a source that received and returned nothing
abbrev pub fresh_ledger : Ledger
fresh_ledger = record { left = fresh; right = fresh; came = λ _. []; gave = fresh }

-- what it gets is what it wants
abbrev pub Fits : Want → Got → Type 0
Fits want.Nothing got.Nothing = Unit {0}
Fits want.Morsel (got.Input p) = Unit {0}
Fits want.Left (got.Input p) = Unit {0}
Fits want.Right (got.Input p) = Unit {0}
Fits (want.Packet i) (got.Packet o) = Unit {0}
Fits _ _ = ⊥

-- rows that are returned have these types, and are at least one
abbrev pub GivesRows : List ColType → Polled → Type 0
GivesRows types (polled.Gave t) = (t.types ≡ types) × (0 < length t.rows)
GivesRows types polled.Waiting = Unit {0}
GivesRows types polled.End = Unit {0}
GivesRows types (polled.Fault f) = Unit {0}

-- the same of what an input brings; packets are tested by the receiver itself
abbrev pub GotTyped : Shape → Want → Got → Type 0
GotTyped s want.Morsel (got.Input p) = GivesRows s.left p
GotTyped s want.Left (got.Input p) = GivesRows s.left p
GotTyped s want.Right (got.Input p) = GivesRows s.right p
GotTyped s _ _ = Unit {0}

-- the lists with one more packet at this place
abbrev pub with_packet : (ℕ → List PacketView) → ℕ → Option PacketView → ℕ → List PacketView
with_packet f i None = f
with_packet f i (Some p) = λ j. cond (j == i) (f j ++ p ∷ []) (f j)

-- the ledger with what was received
abbrev pub took : Ledger → Want → Got → Ledger
took l want.Morsel (got.Input p) = record l { left = heard l.left p }
took l want.Left (got.Input p) = record l { left = heard l.left p }
took l want.Right (got.Input p) = record l { right = heard l.right p }
took l (want.Packet i) (got.Packet o) = record l { came = with_packet l.came i o }
took l _ _ = l

-- and with what was returned
abbrev pub gives : Ledger → Polled → Ledger
gives l p = record l { gave = heard l.gave p }

-- the ledger after a turn
abbrev pub after : Ledger → Want → Got → Polled → Ledger
after l w g p = gives (took l w g) p

-- what ended or failed returns the same again
abbrev pub Again : StreamState → Polled → Type 0
Again Running p = Unit {0}
Again Ended p = p ≡ polled.End
Again (Failed f) p = p ≡ polled.Fault f

-- a source with one input wants it until it has ended or failed
abbrev pub while_running : Want → StreamState → Want
while_running w Running = w
while_running w Ended = want.Nothing
while_running w (Failed f) = want.Nothing

-- what is wanted is one of its own inputs, and open: an input that runs, or a producer of which no closing packet came
abbrev pub WishesOpen : Want → Op → Ledger → Type 0
WishesOpen want.Nothing op l = Unit {0}
WishesOpen want.Morsel scan_op l = l.left.over ≡ Running
WishesOpen want.Left (one_op n op) l = l.left.over ≡ Running
WishesOpen want.Left (two_op n op) l = l.left.over ≡ Running
WishesOpen want.Right (two_op n op) l = l.right.over ≡ Running
WishesOpen (want.Packet i) (receive port) l = (i < port.producers) × (is_closed (l.came i) ≡ false)
WishesOpen _ _ _ = ⊥

-- how many rows may still come at most: from the left (or only) input, where a scan gets its morsels; from the right one; and from
-- the producer at each place
pub record Coming : Type 0 where
  pub left : ℕ
  pub right : ℕ
  pub packets : ℕ → ℕ

-- no more may come than this
pub record IsWithin (a b : Coming) : Type 0 where
  pub left : a.left ≤ b.left
  pub right : a.right ≤ b.right
  pub packets : (i : ℕ) → a.packets i ≤ b.packets i

-- the sum of the first n numbers
abbrev pub sum_below : ℕ → (ℕ → ℕ) → ℕ
sum_below zero f = 0
sum_below (suc n) f = sum_below n f + f n

-- how many rows come with this
abbrev pub rows_in : Polled → ℕ
rows_in (polled.Gave t) = length t.rows
rows_in polled.Waiting = 0
rows_in polled.End = 0
rows_in (polled.Fault f) = 0

-- how many rows a packet brings, where one came
abbrev pub packet_rows : Option PacketView → ℕ
packet_rows None = 0
packet_rows (Some p) = length (content_rows p.content)

-- one number is larger by so much
abbrev pub with_more : ℕ → ℕ → (ℕ → ℕ) → ℕ → ℕ
with_more i n f j = cond (j == i) (f j + n) (f j)

-- what might still come before this came
abbrev pub with_rows : Want → Got → Coming → Coming
with_rows want.Morsel (got.Input p) c = record c { left = c.left + rows_in p }
with_rows want.Left (got.Input p) c = record c { left = c.left + rows_in p }
with_rows want.Right (got.Input p) c = record c { right = c.right + rows_in p }
with_rows (want.Packet i) (got.Packet o) c = record c { packets = with_more i (packet_rows o) c.packets }
with_rows _ _ c = c

-- 1 for a turn of the source's own: it gets nothing, or what an input that is over returns again and again.
-- Of anything else there is only so much: rows, packets, and turns of an input in which nothing comes
abbrev pub own_turn : Got → ℕ
own_turn got.Nothing = 1
own_turn (got.Input (polled.Gave t)) = 0
own_turn (got.Input polled.Waiting) = 0
own_turn (got.Input polled.End) = 1
own_turn (got.Input (polled.Fault f)) = 1
own_turn (got.Packet o) = 0

-- a turn of its own in which it returns nothing, neither rows nor that it is over
abbrev pub idle_turn : ℕ → Polled → ℕ
idle_turn own (polled.Gave t) = 0
idle_turn own polled.Waiting = own
idle_turn own polled.End = 0
idle_turn own (polled.Fault f) = 0

-- the rows that a turn returns are taken from those that the source may still return, and an idle turn from those that it may still take:
-- so it can do so only so often
pub record Pays (own : ℕ) (most idle later rest : ℕ) (p : Polled) : Type 0 where
  pub rows : later + rows_in p ≤ most
  pub turns : rest + idle_turn own p ≤ idle

-- what is left to a source while it runs; once it has ended or failed, nothing is
abbrev pub if_running : StreamState → ℕ → ℕ
if_running Running n = n
if_running Ended n = 0
if_running (Failed f) n = 0
