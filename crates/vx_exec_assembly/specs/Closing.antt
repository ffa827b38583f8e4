-- The decks of a run, in the lists of what its workers draw from, before and after they are closed (our own).
use Rattle.std.specs.Prelude.{◌≡◌, ℕ, ◌<◌, ◌+◌, List, Vec, length, Some, slice_get}
use Rattle.std.specs.declared.alloc.Global.{Global}
use Rattle.vx_morsel.specs.Draws.{DealtOut}
use Rattle.vx_morsel_decks.specs.Seats.{DeckView, SeatView, IsSeatOf, draws_in}
use Rattle.vx_exec_threads.specs.declared.deck_place.DeckPlace.{DeckPlace}
use Rattle.vx_exec_threads.specs.declared.drawer.Drawer.{Drawer}
use Rattle.vx_exec_threads.specs.declared.drawer.Dealer.{Dealer}
use Rattle.vx_exec_threads.specs.declared.drawer.Dealer.TheVariants as dealer
use Rattle.vx_exec_assembly.specs.Pairs.{At}

-- worker a has this for the morsels of scan n
abbrev pub DrawIn : List (Vec Drawer Global) → (a n : ℕ) → Dealer → Type 0
DrawIn draws a n d = (k : ℕ) × (x : Drawer) × At draws a k x × (x.scan ≡ n) × (x.dealer ≡ d)

-- the workers of a deck's scan hold its seats, all of them; it is deck k
pub record SeatedIn (draws : List (Vec Drawer Global)) (k : ℕ) (d : DeckView) (q : DeckPlace) : Type 0 where
  pub seats : d.seats ≡ q.workers
  pub held : (w : ℕ) → w < q.workers → (s : SeatView) × DrawIn draws (q.first + w) q.scan (dealer.Seat k s) × IsSeatOf d s

abbrev pub AllSeatedIn : List DeckView → List DeckPlace → List (Vec Drawer Global) → Type 0
AllSeatedIn decks places draws =
    (k : ℕ) (d : DeckView) (q : DeckPlace) → slice_get decks k ≡ Some d → slice_get places k ≡ Some q → SeatedIn draws k d q

-- the deck was closed: these were all its seats, and together they drew its numbers, each once
pub record ClosedIn (draws : List (Vec Drawer Global)) (k : ℕ) (d : DeckView) (q : DeckPlace) : Type 0 where
  pub t : ℕ
  pub seats : List SeatView
  pub count_is : length seats ≡ q.workers
  pub dealt : DealtOut d.morsels t (draws_in seats)
  pub held : (w : ℕ) (s : SeatView) → slice_get seats w ≡ Some s → DrawIn draws (q.first + w) q.scan (dealer.Seat k s)

abbrev pub AllClosed : List DeckView → List DeckPlace → List (Vec Drawer Global) → Type 0
AllClosed decks places draws =
    (k : ℕ) (d : DeckView) (q : DeckPlace) → slice_get decks k ≡ Some d → slice_get places k ≡ Some q → ClosedIn draws k d q

-- each scan has one place at each worker
abbrev pub AreApartDraws : List (Vec Drawer Global) → Type 0
AreApartDraws draws = (b k l : ℕ) (x y : Drawer) → At draws b k x → At draws b l y → x.scan ≡ y.scan → k ≡ l
