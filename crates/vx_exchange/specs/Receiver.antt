-- When the consumer end of an exchange may have received and returned what a ledger says.
use Rattle.std.specs.Prelude.{ℕ, ◌≡◌, ◌≤◌, ◌<◌, ◌+◌, Some, true, false, slice_get, length, List, [], Bool, All}
use Rattle.std.proofs.Common.{◌∙◌, sym, inr, subst}
use Rattle.vx_rows_values.specs.declared.value.ColType.{ColType}
use Rattle.vx_ports.specs.Packets.{has_last, is_closed}
use Rattle.vx_ops.specs.Ledger.{Ledger, ConsumerEnd, Op, receive, Makes, Begun, OwnBlame, IsFor, TestsPackets, Abides}
use Rattle.vx_ops.specs.Turn.{Shape, Coming, IsWithin, sum_below}
use Rattle.vx_ops.specs.Growing.{sum-grows}
use Rattle.vx_ops.specs.declared.fault.StreamState.{StreamState}
use Rattle.vx_ops.specs.declared.fault.StreamState.TheVariants.{Running, Ended, Failed}
use Rattle.vx_ops.specs.declared.fault.Fault.{Fault}
use Rattle.vx_ops.specs.declared.turn.Want.{Want}
use Rattle.vx_ops.specs.declared.turn.Want.TheVariants as want
use Rattle.vx_exchange_ends.specs.InTurn.{IsInTurn}
use Rattle.vx_exchange.specs.declared.receiver.Receiver.{Receiver}

-- a consumer end that does not merge, and takes the producers as their packets come
abbrev pub unmerged_end : (exchange place producers : ℕ) → List ColType → ConsumerEnd
unmerged_end exchange place producers types = record { exchange = exchange; place = place; producers = producers; types = types; merge = []; in_order = false }

-- where a receiver stands
abbrev pub receiver_end : Receiver → ConsumerEnd
receiver_end s = unmerged_end s.exchange s.place (length s.ended.items) s.types.items

-- it returns a shuffle of what comes there
abbrev pub receiver_op : Receiver → Op
receiver_op s = receive (receiver_end s)

-- it has no input but packets
abbrev pub receiver_types : Receiver → Shape
receiver_types s = record { left = s.types.items; right = s.types.items; out = s.types.items }

-- a packet of this producer is wanted until the stream is over
abbrev pub packet_while_running : ℕ → StreamState → Want
packet_while_running next Running = want.Packet next
packet_while_running next Ended = want.Nothing
packet_while_running next (Failed f) = want.Nothing

-- a row for each row of its producers' packets
abbrev pub receiver_most : Receiver → Coming → ℕ
receiver_most s c = sum_below (length s.ended.items) c.packets

pub receiver-grows : (s : Receiver) (a b : Coming) → IsWithin a b → receiver_most s a ≤ receiver_most s b
receiver-grows s a b h = sum-grows (length s.ended.items) a.packets b.packets h.packets

-- so it is with a receiver
abbrev pub receiver_want : Receiver → Want
receiver_want s = packet_while_running s.next s.over

-- the same receiver, but for which producer is next: the next one behind it that has not ended, and one that is open stays so
pub record ChangesNext (old new : Receiver) : Type 0 where
  pub exchange : new.exchange ≡ old.exchange
  pub place : new.place ≡ old.place
  pub types : new.types ≡ old.types
  pub ended : new.ended ≡ old.ended
  pub over : new.over ≡ old.over
  pub is_open : slice_get old.ended.items old.next ≡ Some false → slice_get new.ended.items new.next ≡ Some false
  pub in_turn : IsInTurn (old.next + 1) old.ended.items new.next

-- what is known while no fault came
abbrev pub UnlessFailed : StreamState → Type 0 → Type 0
UnlessFailed Running P = P
UnlessFailed Ended P = P
UnlessFailed (Failed f) P = Unit {0}

-- the producers whose flag is set have ended, what was returned is a shuffle of what came, and all of that was for this end
pub record EndStands (port : ConsumerEnd) (flags : List Bool) (next : ℕ) (over : StreamState) (l : Ledger) : Type 0 where
  pub as_many : length flags ≡ port.producers
  pub same : l.gave.over ≡ over
  pub begun : Begun (receive port) l
  pub makes : UnlessFailed over (Makes (receive port) l l.gave.rows)
  pub ours : UnlessFailed over ((i : ℕ) → All (IsFor port i) (l.came i))
  pub is_open : over ≡ Running → slice_get flags next ≡ Some false
  pub are_open : over ≡ Running → (i : ℕ) → slice_get flags i ≡ Some false → is_closed (l.came i) ≡ false
  pub closed : (i : ℕ) → slice_get flags i ≡ Some true → has_last (l.came i) ≡ true
  pub all_closed : over ≡ Ended → (i : ℕ) → i < port.producers → has_last (l.came i) ≡ true
  pub tests : TestsPackets (receive port) l
  pub blame : (f : Fault) → over ≡ Failed f → OwnBlame (receive port) l f

-- so a receiver stands
abbrev pub ReceiverStands : Receiver → Ledger → Type 0
ReceiverStands s l = EndStands (receiver_end s) s.ended.items s.next s.over l

-- what is known of it then
pub receiver_abides : (s : Receiver) (l : Ledger) → ReceiverStands s l → Abides (receiver_op s) l
receiver_abides s l h = record {
  before = h.begun;
  ended = λ e. (h.all_closed (sym h.same ∙ e), subst (λ o. UnlessFailed o (Makes (receiver_op s) l l.gave.rows)) (sym h.same ∙ e) h.makes);
  passes = λ f e. absurd e;
  tests = h.tests;
  holds_back = tt;
  blame = λ f e. inr (h.blame f (sym h.same ∙ e));
}
