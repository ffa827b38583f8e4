-- When a consumer end that takes its producers in order may have received and returned what a ledger says.
use Rattle.std.specs.Prelude.{◌≡◌, ℕ, ◌≤◌, ◌<◌, [], All, true, false}
use Rattle.std.proofs.Common.{le_refl}
use Rattle.vx_ports.specs.Packets.{has_last, is_closed}
use Rattle.vx_ops.specs.Ledger.{Ledger, ConsumerEnd, Op, receive, IsFor, Abides}
use Rattle.vx_ops.specs.Turn.{Shape, Coming, IsWithin, sum_below}
use Rattle.vx_ops.specs.Growing.{sum-grows}
use Rattle.vx_ops.specs.Meaning.{Meaning}
use Rattle.vx_ops.specs.declared.fault.StreamState.{StreamState}
use Rattle.vx_ops.specs.declared.fault.StreamState.TheVariants.{Running}
use Rattle.vx_ops.specs.declared.turn.Want.{Want}
use Rattle.vx_exchange.specs.Receiver.{packet_while_running}
use Rattle.vx_exchange.specs.InOrder.{StandsInOrder}
use Rattle.vx_exchange_receivers.specs.Ends.{end_at, end_types}
use Rattle.vx_exchange_receivers.specs.declared.in_order.InOrderReceiver.{InOrderReceiver}

-- while it runs: the producers before the one that is next have ended, that one and those behind it have not, and all that came was for
-- this end
pub record TakesInOrder (port : ConsumerEnd) (next : ℕ) (l : Ledger) : Type 0 where
  pub stands : StandsInOrder port next l
  pub ours : (i : ℕ) → All (IsFor port i) (l.came i)
  pub closed : (i : ℕ) → i < next → has_last (l.came i) ≡ true
  pub are_open : (i : ℕ) → next ≤ i → is_closed (l.came i) ≡ false

-- it stands so; what is known while it runs, and of any source
pub record IsInOrder (port : ConsumerEnd) (next : ℕ) (over : StreamState) (l : Ledger) : Type 0 where
  pub same : l.gave.over ≡ over
  pub runs : over ≡ Running → TakesInOrder port next l
  pub abides : Abides (receive port) l

abbrev pub in_order_end : InOrderReceiver → ConsumerEnd
in_order_end s = end_at s.port s.producers [] true

abbrev pub InOrderStands : InOrderReceiver → Ledger → Type 0
InOrderStands s l = IsInOrder (in_order_end s) s.next s.over l

abbrev pub in_order_op : InOrderReceiver → Op
in_order_op s = receive (in_order_end s)

abbrev pub in_order_types : InOrderReceiver → Shape
in_order_types s = end_types s.port

-- a packet of the producer that is next, until the stream is over
abbrev pub in_order_want : InOrderReceiver → Want
in_order_want s = packet_while_running s.next s.over

-- a row for each row of its producers' packets
abbrev pub in_order_most : InOrderReceiver → Coming → ℕ
in_order_most s c = sum_below s.producers c.packets

pub in_order-grows : (s : InOrderReceiver) (a b : Coming) → IsWithin a b → in_order_most s a ≤ in_order_most s b
in_order-grows s a b h = sum-grows s.producers a.packets b.packets h.packets

pub in_order_abides : (s : InOrderReceiver) (l : Ledger) → InOrderStands s l → Abides (in_order_op s) l
in_order_abides s l h = h.abides

abbrev pub in_order_meaning : InOrderReceiver → Meaning
in_order_meaning s = record {
  stands = InOrderStands s;
  op = in_order_op s;
  types = in_order_types s;
  want = in_order_want s;
  most = in_order_most s;
  idle = λ c. 0;
  abides = in_order_abides s;
  most_grows = in_order-grows s;
  idle_grows = λ a b h. le_refl 0;
}
