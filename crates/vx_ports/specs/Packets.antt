-- Packets, and what went through a port (Graefe's packets and end-of-stream marks).
use Rattle.std.specs.Prelude.{◌≡◌, ℕ, Bool, true, false, List, [], ◌∷◌, ◌++◌, ◌||◌, ◌&&◌, not, ◌≤◌, length}
use Rattle.std.specs.List.{AllByRecursion}
use Rattle.vx_rows_values.specs.Values.{Row}
use Rattle.vx_rows_values.specs.declared.value.ColType.{ColType}
use Rattle.vx_rows_values.specs.Types.{Fits}
use Rattle.vx_rows_values.specs.Limits.{max_packet_rows}

-- what a packet brings: rows, or one of the two ends of a stream
pub data Content : Type 0 where
  brings : List Row → Content
  last : Content
  fault : Content

-- a packet: its exchange's number, the producer, the consumer, the types of its rows
pub record PacketView : Type 0 where
  pub exchange : ℕ
  pub from : ℕ
  pub to : ℕ
  pub types : List ColType
  pub content : Content

-- as many rows as a packet may bring
abbrev pub HasFew : Content → Type 0
HasFew (brings xs) = (1 ≤ length xs) × (length xs ≤ max_packet_rows)
HasFew last = Unit {0}
HasFew fault = Unit {0}

-- what every packet keeps: at least one row and no more than its limit, rows that fit its types
abbrev pub FitsContent : List ColType → Content → Type 0
FitsContent types (brings xs) = (1 ≤ length xs) × (length xs ≤ max_packet_rows) × AllByRecursion (Fits types) xs
FitsContent types last = Unit {0}
FitsContent types fault = Unit {0}

-- the rows that it brings
abbrev pub content_rows : Content → List Row
content_rows (brings xs) = xs
content_rows last = []
content_rows fault = []

-- the rows of a list of packets
abbrev pub rows_of : List PacketView → List Row
rows_of [] = []
rows_of (p ∷ ps) = content_rows p.content ++ rows_of ps

-- Last and Fault end a stream
abbrev pub closes : Content → Bool
closes (brings xs) = false
closes last = true
closes fault = true

-- a Last
abbrev pub is_last : Content → Bool
is_last (brings xs) = false
is_last last = true
is_last fault = false

-- a Fault
abbrev pub is_fault : Content → Bool
is_fault (brings xs) = false
is_fault last = false
is_fault fault = true

-- some packet of the list ends the stream
abbrev pub is_closed : List PacketView → Bool
is_closed [] = false
is_closed (p ∷ ps) = closes p.content || is_closed ps

-- a Last is among them
abbrev pub has_last : List PacketView → Bool
has_last [] = false
has_last (p ∷ ps) = is_last p.content || has_last ps

-- a Fault is among them
abbrev pub has_fault : List PacketView → Bool
has_fault [] = false
has_fault (p ∷ ps) = is_fault p.content || has_fault ps

-- no packets
abbrev pub is_empty : List PacketView → Bool
is_empty [] = true
is_empty (p ∷ ps) = false

-- a packet that ends the stream stands at most once, as the final entry
abbrev pub is_stream : List PacketView → Bool
is_stream [] = true
is_stream (p ∷ ps) = (not (closes p.content) || is_empty ps) && is_stream ps

-- what was taken is a prefix of what was put, in order, and all of it once the stream's end was taken
pub record Flows (put taken : List PacketView) : Type 0 where
  pub rest : List PacketView
  pub begins : taken ++ rest ≡ put
  pub stream : is_stream put ≡ true
  pub whole : is_closed taken ≡ true → taken ≡ put

-- where Last was taken of what flows through a port, it is the final entry of what was taken
abbrev pub LastIsFinal : Type 0
LastIsFinal =
    (put taken : List PacketView) → Flows put taken → has_last taken ≡ true
    → (front : List PacketView) × (end : PacketView) × (front ++ end ∷ [] ≡ taken) × (is_last end.content ≡ true)
