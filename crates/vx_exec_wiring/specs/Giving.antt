-- What workers are given, one thing after the other (our own).
use Rattle.std.specs.Prelude.{◌≡◌, ◌≢◌, ℕ, ◌<◌, ◌≤◌, ◌+◌, ◌⊎◌, List, [], ◌∷◌, ◌++◌, length, Some, slice_get, map}
use Rattle.vx_exec_steps.specs.Scans.{full_hand}
use Rattle.vx_morsel_decks.specs.Seats.{DeckView, SeatView, IsNewSeat}
use Rattle.vx_ports_rings.specs.Ends.{IsRing, put_to, taken_from}
use Rattle.vx_ports_rings.specs.declared.ring.RingOut.{RingOut}
use Rattle.vx_exec_threads.specs.declared.inlet.Inlet.{Inlet}
use Rattle.vx_exec_threads.specs.declared.drawer.Drawer.{Drawer}
use Rattle.vx_exec_threads.specs.declared.drawer.Dealer.TheVariants as dealer
use Rattle.vx_exec_threads.specs.Holds.{Hold}
use Rattle.vx_exec_layout.specs.declared.span.ExchangeSpan.{ExchangeSpan}
use Rattle.vx_exec_wiring.specs.declared.share.Share.{Share}

-- what a worker was given so far, as plain data
abbrev pub hold_in : Share → Hold
hold_in s = record { outs = s.outs.items; ins = s.ins.items; draws = s.draws.items }

abbrev pub holds_of : List Share → List Hold
holds_of ss = map hold_in ss

-- one more drawer
abbrev pub GainsDrawer : Drawer → Hold → Hold → Type 0
GainsDrawer x h g = g ≡ record { outs = h.outs; ins = h.ins; draws = h.draws ++ x ∷ [] }

-- one more inlet
abbrev pub GainsInlet : Inlet → Hold → Hold → Type 0
GainsInlet e h g = g ≡ record { outs = h.outs; ins = h.ins ++ e ∷ []; draws = h.draws }

-- worker a was given something, by P; the others hold what they held
pub record GivesAt (P : Hold → Hold → Type 0) (old : List Hold) (a : ℕ) (new : List Hold) : Type 0 where
  pub length_is : length new ≡ length old
  pub here : (h : Hold) → slice_get old a ≡ Some h → (g : Hold) × (slice_get new a ≡ Some g) × P h g
  pub others : (b : ℕ) → b ≢ a → slice_get new b ≡ slice_get old b

-- so many workers from `top` on were given something each, by P and its place
pub record GivesEach (P : ℕ → Hold → Hold → Type 0) (old : List Hold) (top count : ℕ) (new : List Hold) : Type 0 where
  pub length_is : length new ≡ length old
  pub here : (w : ℕ) → w < count → (h : Hold) → slice_get old (top + w) ≡ Some h → (g : Hold) × (slice_get new (top + w) ≡ Some g) × P w h g
  pub others : (b : ℕ) → (b < top) ⊎ (top + count ≤ b) → slice_get new b ≡ slice_get old b

-- a hand of all morsels of scan n
abbrev pub GainsHand : (n m : ℕ) → ℕ → Hold → Hold → Type 0
GainsHand n m w h g = GainsDrawer (record { scan = n; dealer = dealer.Hand (full_hand m) }) h g

-- a seat of a deck, which has this number among all decks
abbrev pub GainsSeat : (n k : ℕ) → DeckView → ℕ → Hold → Hold → Type 0
GainsSeat n k d w h g = (s : SeatView) × IsNewSeat d s × GainsDrawer (record { scan = n; dealer = dealer.Seat k s }) h g

-- the two ends of a ring from producer i of exchange n, which no packet went through
pub record IsNewRing (n i : ℕ) (o : RingOut) (e : Inlet) : Type 0 where
  pub ring : IsRing o e.ring
  pub put : put_to o ≡ []
  pub exchange : e.exchange ≡ n
  pub from : e.from ≡ i
  pub taken : taken_from e.ring ≡ []
  pub queue : e.queue.items ≡ []

-- the other end of the ring at this place
pub record GainsRing (n i : ℕ) (outs : List RingOut) (j : ℕ) (h g : Hold) : Type 0 where
  pub out : RingOut
  pub inlet : Inlet
  pub at : slice_get outs j ≡ Some out
  pub ring : IsNewRing n i out inlet
  pub gains : GainsInlet inlet h g

-- a ring from producer i of an exchange to each of its first so many consumers
pub record MakesRings (x : ExchangeSpan) (i : ℕ) (old : List Hold) (count : ℕ) (outs : List RingOut) (new : List Hold) : Type 0 where
  pub length_is : length outs ≡ count
  pub fresh : (j : ℕ) (o : RingOut) → slice_get outs j ≡ Some o → put_to o ≡ []
  pub given : GivesEach (GainsRing x.number i outs) old x.above count new
