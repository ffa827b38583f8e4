-- What a producer's sending end gives for each consumer.
use Rattle.std.specs.Prelude.{ℕ, ◌≡◌, ◌<◌, ◌≤◌, List, [], ◌∷◌, ◌++◌, length, map}
use Rattle.std.specs.List.{AllByRecursion}
use Rattle.vx_rows_values.specs.Values.{Row}
use Rattle.vx_rows_values.specs.declared.value.ColType.{ColType}
use Rattle.vx_plan_nodes.specs.Plan.{ExchangeKind}
use Rattle.vx_plan_nodes.specs.Streams.{Streams}
use Rattle.vx_plan_nodes.specs.Routes.{Routing, Sends}
use Rattle.vx_ports.specs.Packets.{Content, brings, last, fault, PacketView}
use Rattle.vx_rows.specs.Lists.{IsBeginning}

-- the sending end of an exchange at one of the producers' places, with the packet size
pub record Ship : Type 0 where
  pub exchange : ℕ
  pub place : ℕ
  pub consumers : ℕ
  pub types : List ColType
  pub kind : ExchangeKind
  pub size : ℕ

-- a packet from this end to a consumer
abbrev pub packet_of : Ship → (consumer : ℕ) → Content → PacketView
packet_of s j content = record { exchange = s.exchange; from = s.place; to = j; types = s.types; content = content }

-- a packet with these rows
abbrev pub packet_at : Ship → (consumer : ℕ) → List Row → PacketView
packet_at s j rows = packet_of s j (brings rows)

-- lists one behind the other
abbrev pub end_to_end : List (List Row) → List Row
end_to_end [] = []
end_to_end (p ∷ ps) = p ++ end_to_end ps

-- rows cut into packets of the packet size, of which only the last may be shorter
pub record IsCut (size : ℕ) (rows : List Row) (parts : List (List Row)) : Type 0 where
  pub full : List (List Row)
  pub rest : List (List Row)
  pub all_full : AllByRecursion (λ (p : List Row). length p ≡ size) full
  pub at_most_one : length rest ≤ 1
  pub shorter : AllByRecursion (λ (p : List Row). (0 < length p) × (length p < size)) rest
  pub parts_are : full ++ rest ≡ parts
  pub rows_are : end_to_end parts ≡ rows

-- all rows for a consumer, cut, and then Last
pub record IsPort (s : Ship) (j : ℕ) (rows : List Row) (packets : List PacketView) : Type 0 where
  pub parts : List (List Row)
  pub cut : IsCut s.size rows parts
  pub closed : map (packet_at s j) parts ++ packet_of s j last ∷ [] ≡ packets

-- a prefix of the rows for a consumer, and then Fault
pub record IsCutPort (s : Ship) (j : ℕ) (rows : List Row) (packets : List PacketView) : Type 0 where
  pub parts : List (List Row)
  pub begins : IsBeginning (end_to_end parts) rows
  pub closed : map (packet_at s j) parts ++ packet_of s j fault ∷ [] ≡ packets

-- what a producer put that was well: to each consumer what the rows send to it
pub record IsShipped (goes : Routing) (s : Ship) (rows : List Row) (put : ℕ → List PacketView) : Type 0 where
  pub sent : Streams
  pub sends : Sends goes s.kind s.consumers rows sent
  pub ports : (j : ℕ) → j < s.consumers → IsPort s j (sent j) (put j)
  pub nothing : (j : ℕ) → s.consumers ≤ j → put j ≡ []

-- what a producer put that failed
pub record IsCutShort (goes : Routing) (s : Ship) (rows : List Row) (put : ℕ → List PacketView) : Type 0 where
  pub sent : Streams
  pub sends : Sends goes s.kind s.consumers rows sent
  pub ports : (j : ℕ) → j < s.consumers → IsCutPort s j (sent j) (put j)
  pub nothing : (j : ℕ) → s.consumers ≤ j → put j ≡ []

-- what a sending end returned so far of the rows that it accepted so far: packets of a prefix of what they send (before any closing packet)
pub record IsPartShipped (goes : Routing) (s : Ship) (rows : List Row) (put : ℕ → List PacketView) : Type 0 where
  pub sent : Streams
  pub sends : Sends goes s.kind s.consumers rows sent
  pub parts : ℕ → List (List Row)
  pub begins : (j : ℕ) → j < s.consumers → IsBeginning (end_to_end (parts j)) (sent j)
  pub packets : (j : ℕ) → j < s.consumers → map (packet_at s j) (parts j) ≡ put j
  pub nothing : (j : ℕ) → s.consumers ≤ j → put j ≡ []
