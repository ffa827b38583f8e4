-- What one source received and returned so far, and what is known of a source at any moment (Volcano's iterators).
use Rattle.std.specs.Prelude.{ℕ, ◌≡◌, ◌<◌, ◌⊎◌, true, false, List, [], ◌∷◌, ◌++◌, length, Some, None, Bool}
use Rattle.vx_rows_values.specs.Values.{Row}
use Rattle.vx_rows_values.specs.Order.{sorted}
use Rattle.vx_rows_values.specs.declared.order.OrderEntry.{OrderEntry}
use Rattle.vx_rows_values.specs.declared.value.ColType.{ColType}
use Rattle.vx_plan_nodes.specs.Plan.{Unary, select, project, sort, group, by_hashing, by_merging, Binary, join, semi_join, left_order, right_order}
use Rattle.vx_plan_nodes.specs.Serial.{unary_rows, binary_rows, group_rows}
use Rattle.vx_plan_nodes.specs.Streams.{Dealt, joined}
use Rattle.vx_ports.specs.Packets.{PacketView, rows_of, has_last, has_fault}
use Rattle.vx_ops.specs.declared.fault.Code.TheVariants.{Overflow, NoMemory, Unsorted, Stranger}
use Rattle.vx_ops.specs.declared.fault.Fault.{Fault}
use Rattle.vx_ops.specs.declared.fault.Fault.TheVariants.{Own, Passed}
use Rattle.vx_ops.specs.declared.fault.StreamState.{StreamState}
use Rattle.vx_ops.specs.declared.fault.StreamState.TheVariants.{Running, Ended, Failed}
use Rattle.vx_rows.specs.Lists.{IsBeginning}

-- the rows of a stream so far, and how it stands
pub record Stream : Type 0 where
  pub rows : List Row
  pub over : StreamState

-- a stream that has not begun
abbrev pub fresh : Stream
fresh = record { rows = []; over = Running }

-- what one source received from its inputs and producers, and what it returned; a scan receives its morsels on the left
pub record Ledger : Type 0 where
  pub left : Stream
  pub right : Stream
  pub came : ℕ → List PacketView
  pub gave : Stream

-- the consumer end of an exchange, at one of its places; it merges by an order, if that is not empty; or it takes the producers in the order of their numbers
pub record ConsumerEnd : Type 0 where
  pub exchange : ℕ
  pub place : ℕ
  pub producers : ℕ
  pub types : List ColType
  pub merge : List OrderEntry
  pub in_order : Bool

-- what a source does; with its node's number
pub data Op : Type 0 where
  scan_op : Op
  one_op : ℕ → Unary → Op
  two_op : ℕ → Binary → Op
  receive : ConsumerEnd → Op

-- what an operator makes of all that it took
abbrev pub Makes : Op → Ledger → List Row → Type 0
Makes scan_op l out = out ≡ l.left.rows
Makes (one_op n op) l out = unary_rows op l.left.rows ≡ Some out
Makes (two_op n op) l out = binary_rows op l.left.rows l.right.rows ≡ out
Makes (receive port) l out =
    Dealt port.producers out (λ i. rows_of (l.came i)) × (sorted port.merge out ≡ true) × (port.in_order ≡ true → joined port.producers (λ i. rows_of (l.came i)) ≡ out)

-- all its inputs have ended
abbrev pub InputsEnded : Op → Ledger → Type 0
InputsEnded scan_op l = l.left.over ≡ Ended
InputsEnded (one_op n op) l = l.left.over ≡ Ended
InputsEnded (two_op n op) l = (l.left.over ≡ Ended) × (l.right.over ≡ Ended)
InputsEnded (receive port) l = (i : ℕ) → i < port.producers → has_last (l.came i) ≡ true

-- a packet for this port, from this producer
pub record IsFor (port : ConsumerEnd) (from : ℕ) (p : PacketView) : Type 0 where
  pub exchange : p.exchange ≡ port.exchange
  pub from_is : p.from ≡ from
  pub to : p.to ≡ port.place
  pub types : p.types ≡ port.types

-- a packet of which P holds stands among these
pub record Came (P : PacketView → Type 0) (ps : List PacketView) : Type 0 where
  pub front : List PacketView
  pub packet : PacketView
  pub back : List PacketView
  pub joined : front ++ packet ∷ back ≡ ps
  pub is : P packet

-- why a source returns a fault that no input returned. NoMemory: any source. Overflow: a select, a project or a group whose input has ended and of whose rows
-- it makes no list, or a group whose input is too long. Unsorted: a merge join or a merging consumer end, where rows fall that came. Stranger, Passed: a
-- consumer end to which a packet came that is not for it, or a Fault
abbrev pub OwnBlame : Op → Ledger → Fault → Type 0
OwnBlame op l (Own NoMemory node) = Unit {0}
OwnBlame (one_op n (select fs)) l (Own Overflow node) = (node ≡ n) × (l.left.over ≡ Ended) × (unary_rows (select fs) l.left.rows ≡ None)
OwnBlame (one_op n (project es)) l (Own Overflow node) = (node ≡ n) × (l.left.over ≡ Ended) × (unary_rows (project es) l.left.rows ≡ None)
OwnBlame (one_op n (group phase by aggregates)) l (Own Overflow node) =
    (node ≡ n) × (l.left.over ≡ Ended) × ((group_rows by aggregates l.left.rows ≡ None) ⊎ (4611686018427387904 < length l.left.rows))
OwnBlame (two_op n (join (by_merging falls) on)) l (Own Unsorted node) =
    (node ≡ n) × ((sorted (left_order falls on) l.left.rows ≡ false) ⊎ (sorted (right_order falls on) l.right.rows ≡ false))
OwnBlame (receive port) l (Own Unsorted node) =
    (node ≡ port.exchange) × ((i : ℕ) × (i < port.producers) × (sorted port.merge (rows_of (l.came i)) ≡ false))
OwnBlame (receive port) l (Own Stranger node) =
    (node ≡ port.exchange) × ((i : ℕ) × (i < port.producers) × Came (λ p. IsFor port i p → ⊥) (l.came i))
OwnBlame (receive port) l Passed = (i : ℕ) × (i < port.producers) × (has_fault (l.came i) ≡ true)
OwnBlame op l f = ⊥

-- an input of the operator returned this fault
abbrev pub InputFault : Op → Ledger → Fault → Type 0
InputFault scan_op l f = l.left.over ≡ Failed f
InputFault (one_op n op) l f = l.left.over ≡ Failed f
InputFault (two_op n op) l f = (l.left.over ≡ Failed f) ⊎ (l.right.over ≡ Failed f)
InputFault (receive port) l f = ⊥

-- one ledger's inputs are prefixes of another's
pub record Begins (k l : Ledger) : Type 0 where
  pub left : IsBeginning k.left.rows l.left.rows
  pub right : IsBeginning k.right.rows l.right.rows
  pub came : (i : ℕ) → IsBeginning (rows_of (k.came i)) (rows_of (l.came i))

-- what was returned is a prefix of what the operator makes of prefixes of what it received
pub record Begun (op : Op) (l : Ledger) : Type 0 where
  pub inputs : Ledger
  pub begins : Begins inputs l
  pub whole : List Row
  pub makes : Makes op inputs whole
  pub gave : IsBeginning l.gave.rows whole

-- a consumer end tests each packet before it uses a row of it: once one came that is not for its port, it has failed by Stranger at its exchange
abbrev pub TestsPackets : Op → Ledger → Type 0
TestsPackets (receive port) l = (i : ℕ) → Came (λ p. IsFor port i p → ⊥) (l.came i) → l.gave.over ≡ Failed (Own Stranger port.exchange)
TestsPackets op l = Unit {0}

-- the input has ended, and all that is made of its rows was returned
abbrev pub IsAllGiven : Unary → Ledger → Type 0
IsAllGiven op l = (l.left.over ≡ Ended) × (unary_rows op l.left.rows ≡ Some l.gave.rows)

-- a group and a sort return nothing before their input has ended, and then all that they make of it; a hash join, a semi and an anti join nothing before their
-- right input has
abbrev pub HoldsBack : Op → Ledger → Type 0
HoldsBack (one_op n (group phase by aggregates)) l = IsAllGiven (group phase by aggregates) l ⊎ (l.gave.rows ≡ [])
HoldsBack (one_op n (sort of_parts order)) l = IsAllGiven (sort of_parts order) l ⊎ (l.gave.rows ≡ [])
HoldsBack (two_op n (join by_hashing on)) l = (l.right.over ≡ Ended) ⊎ (l.gave.rows ≡ [])
HoldsBack (two_op n (semi_join matched on conditions)) l = (l.right.over ≡ Ended) ⊎ (l.gave.rows ≡ [])
HoldsBack op l = Unit {0}

-- what is known of a source after any turns: `Begun`, `TestsPackets` and `HoldsBack` hold of it. If it ended, its inputs have, and it returned all that it
-- makes of what it took. It passes on an input's fault, and a fault that it returns is an input's, or has a reason by `OwnBlame`
pub record Abides (op : Op) (l : Ledger) : Type 0 where
  pub before : Begun op l
  pub ended : l.gave.over ≡ Ended → InputsEnded op l × Makes op l l.gave.rows
  pub passes : (f : Fault) → InputFault op l f → l.gave.over ≡ Failed f
  pub tests : TestsPackets op l
  pub holds_back : HoldsBack op l
  pub blame : (f : Fault) → l.gave.over ≡ Failed f → InputFault op l f ⊎ OwnBlame op l f
