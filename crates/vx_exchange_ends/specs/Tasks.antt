-- Where the rows of a fragment's top go: through a sending end, or, at the root, to the rows gathered.
use Rattle.std.specs.Prelude.{ℕ, ◌≡◌, List, []}
use Rattle.vx_rows_values.specs.declared.value.ColType.{ColType}
use Rattle.vx_rows_values.specs.Values.{Row}
use Rattle.vx_plan_nodes.specs.Routes.{Routing}
use Rattle.vx_ports.specs.Packets.{PacketView}
use Rattle.vx_exchange_ends.specs.Ship.{Ship, IsShipped, IsCutShort, IsPartShipped}

-- through a sending end, or kept: these rows so far
pub data Task : Type 0 where
  send : Ship → Task
  keep : List Row → Task

-- all rows went on their way; the root's worker kept them and put nothing
abbrev pub Finished : Routing → Task → List Row → (ℕ → List PacketView) → Type 0
Finished goes (send s) rows put = IsShipped goes s rows put
Finished goes (keep kept) rows put = (kept ≡ rows) × ((j : ℕ) → put j ≡ [])

-- a prefix of them did, and each port was closed by Fault
abbrev pub Stopped : Routing → Task → List Row → (ℕ → List PacketView) → Type 0
Stopped goes (send s) rows put = IsCutShort goes s rows put
Stopped goes (keep kept) rows put = (j : ℕ) → put j ≡ []

-- a prefix of them did so far, and no port was closed
abbrev pub BeganSending : Routing → Task → List Row → (ℕ → List PacketView) → Type 0
BeganSending goes (send s) rows put = IsPartShipped goes s rows put
BeganSending goes (keep kept) rows put = (j : ℕ) → put j ≡ []

-- what stays of a task while its rows come: the sending end, or the types of the rows kept
pub data Post : Type 0 where
  sends_by_ship : Ship → Post
  keeps : List ColType → Post

-- the types of the rows
abbrev pub post_types : Post → List ColType
post_types (sends_by_ship s) = s.types
post_types (keeps types) = types

-- a task at a post
abbrev pub IsAt : Post → Task → Type 0
IsAt (sends_by_ship s) (send r) = r ≡ s
IsAt (keeps types) (keep rows) = Unit {0}
IsAt _ _ = ⊥
