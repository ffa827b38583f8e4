-- What gives a worker the morsels of a scan (our own).
use Rattle.std.specs.Prelude.{◌≡◌, ℕ, ◌<◌, List, Option, length}
use Rattle.std.specs.List.{slice_index_or}
use Rattle.vx_morsel.specs.Draws.{Draws}
use Rattle.vx_worker.specs.Trace.{drawn}
use Rattle.vx_exec_steps.specs.Agrees.{DrewByHand}
use Rattle.vx_morsel_decks.specs.Seats.{DeckView, SeatView, IsSeatOf}
use Rattle.vx_exec_threads.specs.declared.drawer.Drawer.{Drawer}
use Rattle.vx_exec_threads.specs.declared.drawer.Dealer.{Dealer}
use Rattle.vx_exec_threads.specs.declared.drawer.Dealer.TheVariants as dealer

-- this was drawn from it
abbrev pub DealsAs : Dealer → Draws → Type 0
DealsAs (dealer.Seat deck s) d = d ≡ s.drew
DealsAs (dealer.Hand h) d = DrewByHand h d

-- it is a seat
abbrev pub IsSeat : Dealer → Type 0
IsSeat (dealer.Seat deck s) = Unit {0}
IsSeat (dealer.Hand h) = ⊥

-- the same seat or hand, at two moments
abbrev pub SameDealer : Dealer → Dealer → Type 0
SameDealer (dealer.Seat k s) (dealer.Seat l t) = (l ≡ k) × (t.name ≡ s.name) × (t.morsels ≡ s.morsels)
SameDealer (dealer.Hand h) (dealer.Hand g) = g.morsels ≡ h.morsels
SameDealer _ _ = ⊥

-- for the same scan, from the same seat or hand, at two moments
pub record SameDrawer (a b : Drawer) : Type 0 where
  pub scan : b.scan ≡ a.scan
  pub dealer : SameDealer a.dealer b.dealer

-- where it is a seat, it is one of the deck with its number
abbrev pub SitsAt : List DeckView → Dealer → Type 0
SitsAt decks y = (k : ℕ) (s : SeatView) → y ≡ dealer.Seat k s → (k < length decks) × ((d : DeckView) → IsSeatOf (slice_index_or decks k d) s)

abbrev pub Sits : List DeckView → Drawer → Type 0
Sits decks x = SitsAt decks x.dealer

-- a draw returned this number, or the end
pub record Dealt (a : Drawer) (n : Option ℕ) (b : Drawer) : Type 0 where
  pub same : SameDrawer a b
  pub deals : (d : Draws) → DealsAs a.dealer d → DealsAs b.dealer (drawn d n)
