-- What is at hand of each producer's stream, and in which order the producers' next rows go.
use Rattle.std.specs.Prelude.{ℕ, ◌≡◌, ◌<◌, ◌≤◌, ◌-◌, Bool, List, [], drop, length, sum_by, get_or, slice_get, Option, Some, None, true, false, All}
use Rattle.std.specs.List.{AllPairs, Contains}
use Rattle.std.specs.Ordering.{is_le}
use Rattle.vx_rows_values.specs.declared.order.OrderEntry.{OrderEntry}
use Rattle.vx_rows_values.specs.Values.{Row}
use Rattle.vx_rows_values.specs.declared.value.ColType.{ColType}
use Rattle.vx_rows_values.specs.Order.{order_columns, compare_on, sorted}
use Rattle.vx_rows.specs.View.{row, AreColumns}
use Rattle.vx_exchange_receivers.specs.declared.heads.StreamHead.{StreamHead}

-- a row is left
abbrev pub HasRow : StreamHead → Type 0
HasRow h = h.at < length h.rows.rows

-- more may come, and no row is at hand
abbrev pub Lacks : StreamHead → Type 0
Lacks h = (h.ended ≡ false) × (length h.rows.rows ≤ h.at)

-- the rows that a producer's head holds, those of them that are left, and the first of these
abbrev pub held : Option StreamHead → List Row
held None = []
held (Some h) = h.rows.rows

abbrev pub left_of : Option StreamHead → List Row
left_of None = []
left_of (Some h) = drop h.at h.rows.rows

abbrev pub next_of : Option StreamHead → Row
next_of None = []
next_of (Some h) = row h.rows h.at

abbrev pub at_of : Option StreamHead → ℕ
at_of None = 0
at_of (Some h) = h.at

abbrev pub has_ended : Option StreamHead → Bool
has_ended None = true
has_ended (Some h) = h.ended

-- the same, of the producer at this place
abbrev pub held_at : List StreamHead → ℕ → List Row
held_at hs p = held (slice_get hs p)

abbrev pub left_at : List StreamHead → ℕ → List Row
left_at hs p = left_of (slice_get hs p)

abbrev pub next_at : List StreamHead → ℕ → Row
next_at hs p = next_of (slice_get hs p)

abbrev pub position_at : List StreamHead → ℕ → ℕ
position_at hs p = at_of (slice_get hs p)

abbrev pub ended_at : List StreamHead → ℕ → Bool
ended_at hs p = has_ended (slice_get hs p)

-- the same producers have ended
abbrev pub SameEnds : List StreamHead → List StreamHead → Type 0
SameEnds hs gs = (p : ℕ) → ended_at gs p ≡ ended_at hs p

-- how many rows are at hand of a producer, and of all
abbrev pub rows_left : StreamHead → ℕ
rows_left h = length h.rows.rows - h.at

abbrev pub all_left : List StreamHead → ℕ
all_left hs = sum_by rows_left hs

-- the head at this place has a row, or lacks one
abbrev pub HasRowAt : List StreamHead → ℕ → Type 0
HasRowAt hs p = (h : StreamHead) × (slice_get hs p ≡ Some h) × HasRow h

abbrev pub LacksAt : List StreamHead → ℕ → Type 0
LacksAt hs p = (h : StreamHead) × (slice_get hs p ≡ Some h) × Lacks h

-- the last row, if there is one
abbrev pub last_of : List Row → List Row
last_of xs = drop (length xs - 1) xs

-- a row of one producer goes before one of another: it is less, or equal and of the lower producer
pub record GoesBefore (merge : List OrderEntry) (x : Row) (p : ℕ) (y : Row) (q : ℕ) : Type 0 where
  pub le : is_le (compare_on merge x y) ≡ true
  pub tie : is_le (compare_on merge y x) ≡ true → p < q

-- so do the next rows of two producers
abbrev pub Precedes : List OrderEntry → List StreamHead → ℕ → ℕ → Type 0
Precedes merge hs p q = GoesBefore merge (next_at hs p) p (next_at hs q) q

-- producers that have rows, in the order in which their next rows go
pub record IsOrder (merge : List OrderEntry) (hs : List StreamHead) (order : List ℕ) : Type 0 where
  pub there : All (HasRowAt hs) order
  pub rises : AllPairs (Precedes merge hs) order

-- these are all that have rows
abbrev pub AreAll : List StreamHead → List ℕ → Type 0
AreAll hs order = (p : ℕ) → HasRowAt hs p → Contains order p

-- rows of these types
abbrev pub AreOf : List ColType → List StreamHead → Type 0
AreOf types hs = (p : ℕ) (h : StreamHead) → slice_get hs p ≡ Some h → h.rows.types ≡ types

-- the rows at hand of each producer are sorted
abbrev pub AllRise : List OrderEntry → List StreamHead → Type 0
AllRise merge hs = (p : ℕ) → sorted merge (held_at hs p) ≡ true

-- rows that can be compared in this order
pub record AreAlike (merge : List OrderEntry) (hs : List StreamHead) : Type 0 where
  pub types : (p q : ℕ) (h g : StreamHead) → slice_get hs p ≡ Some h → slice_get hs q ≡ Some g → h.rows.types ≡ g.rows.types
  pub columns : (p : ℕ) (h : StreamHead) → slice_get hs p ≡ Some h → AreColumns (length h.rows.types) (order_columns merge)

-- the rows of producer p up to here go before the next rows of others
pub record IsRun (merge : List OrderEntry) (hs : List StreamHead) (others : List ℕ) (p to : ℕ) : Type 0 where
  pub more : position_at hs p < to
  pub within : to ≤ length (held_at hs p)
  pub least : (k : ℕ) → position_at hs p ≤ k → k < to → All (λ q. is_le (compare_on merge (get_or (held_at hs p) k []) (next_at hs q)) ≡ true) others

-- a producer that lacks a row, if one does
abbrev pub IsMissing : List StreamHead → Option ℕ → Type 0
IsMissing hs (Some p) = LacksAt hs p
IsMissing hs None = (p : ℕ) → LacksAt hs p → ⊥

-- nothing came
pub record IsFresh (types : List ColType) (h : StreamHead) : Type 0 where
  pub of_types : h.rows.types ≡ types
  pub rows : h.rows.rows ≡ []
  pub at : h.at ≡ 0
  pub ended : h.ended ≡ false
