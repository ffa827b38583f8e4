-- What a sending end holds for one consumer, and how rows go into packets.
use Rattle.std.specs.Prelude.{ℕ, ◌≡◌, ◌<◌, ◌≤◌, Bool, true, false, Option, Some, None, List, [], ◌++◌, length, map, All}
use Rattle.std.specs.List.{AllByRecursion}
use Rattle.vx_rows_values.specs.Values.{Row}
use Rattle.vx_rows.specs.View.{RowsView}
use Rattle.vx_rows_values.specs.declared.value.ColType.{ColType}
use Rattle.vx_ports.specs.Packets.{Content, brings, closes, content_rows, PacketView}
use Rattle.vx_exchange_ends.specs.Ship.{end_to_end}
use Rattle.vx_rows_values.specs.Limits.{max_packet_rows}

-- where packets come from and go to, and how large they are
pub record Way : Type 0 where
  pub exchange : ℕ
  pub place : ℕ
  pub consumer : ℕ
  pub types : List ColType
  pub size : ℕ

-- the rows at hand, the packets that wait, and whether the closing packet was returned
pub record LaneView : Type 0 where
  pub way : Way
  pub current : List Row
  pub ready : List PacketView
  pub closed : Bool

-- a packet on its way
abbrev pub parcel_of : Way → Content → PacketView
parcel_of w content = record { exchange = w.exchange; from = w.place; to = w.consumer; types = w.types; content = content }

-- and one of rows
abbrev pub parcel_at : Way → List Row → PacketView
parcel_at w rows = parcel_of w (brings rows)

-- nothing is at hand
abbrev pub empty_outlet : Way → LaneView
empty_outlet w = record { way = w; current = []; ready = []; closed = false }

-- the rows of the closing packet, until it is returned: none, of these types
abbrev pub KeepsClosing : List ColType → Option RowsView → Type 0
KeepsClosing types None = Unit {0}
KeepsClosing types (Some t) = (t.types ≡ types) × (t.rows ≡ [])

-- whether what was kept was returned
abbrev pub is_given : {X : Type 0} → Option X → Bool
is_given None = true
is_given (Some x) = false

-- what an outlet keeps: a packet holds 1 to 4,096 rows, fewer than that are at hand, and only packets of rows wait, of one at least, none behind
-- the closing one
pub record IsOutlet (o : LaneView) (closing : Option RowsView) : Type 0 where
  pub some : 1 ≤ o.way.size
  pub few : o.way.size ≤ max_packet_rows
  pub shorter : length o.current < o.way.size
  pub none_after : o.closed ≡ true → o.ready ≡ []
  pub of_rows : All (λ (p : PacketView). closes p.content ≡ false) o.ready
  pub of_some : All (λ (p : PacketView). 0 < length (content_rows p.content)) o.ready
  pub keeps : KeepsClosing o.way.types closing

-- more rows came: full packets were made of these at hand and those, as long as there were enough
pub record Cuts (way : Way) (current : List Row) (ready : List PacketView) (more : List Row) (current' : List Row) (ready' : List PacketView) : Type 0 where
  pub full : List (List Row)
  pub all_full : AllByRecursion (λ (p : List Row). length p ≡ way.size) full
  pub rows_are : end_to_end full ++ current' ≡ current ++ more
  pub ready_are : ready ++ map (parcel_at way) full ≡ ready'

-- the rows at hand, if any, went into one packet, which is not full
pub record CutsRest (way : Way) (current : List Row) (ready ready' : List PacketView) : Type 0 where
  pub rest : List (List Row)
  pub at_most_one : length rest ≤ 1
  pub shorter : AllByRecursion (λ (p : List Row). (0 < length p) × (length p < way.size)) rest
  pub rows_are : end_to_end rest ≡ current
  pub ready_are : ready ++ map (parcel_at way) rest ≡ ready'
