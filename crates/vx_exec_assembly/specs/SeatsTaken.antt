-- Seats that are taken out of the lists of what workers draw from (our own).
use Rattle.std.specs.Prelude.{◌≡◌, ℕ, ◌<◌, ◌+◌, List, Vec, Some, slice_get}
use Rattle.std.specs.declared.alloc.Global.{Global}
use Rattle.vx_morsel_decks.specs.Seats.{SeatView}
use Rattle.vx_exec_threads.specs.declared.deck_place.DeckPlace.{DeckPlace}
use Rattle.vx_exec_threads.specs.declared.drawer.Drawer.{Drawer}
use Rattle.vx_exec_threads.specs.declared.drawer.Dealer.TheVariants as dealer
use Rattle.vx_exec_assembly.specs.Pairs.{At}
use Rattle.vx_exec_assembly.specs.Closing.{DrawIn}

-- worker a has this seat of deck k at place j
abbrev pub SeatAt : List (Vec Drawer Global) → (a j k : ℕ) → SeatView → Type 0
SeatAt draws a j k s = (x : Drawer) × At draws a j x × (x.dealer ≡ dealer.Seat k s)

-- each worker of the scan has a seat of deck k for it
abbrev pub AreHeld : List (Vec Drawer Global) → (k : ℕ) → DeckPlace → Type 0
AreHeld draws k q = (w : ℕ) → w < q.workers → (s : SeatView) × DrawIn draws (q.first + w) q.scan (dealer.Seat k s)

-- the scan's workers have these seats of deck k for it
abbrev pub HeldIn : List (Vec Drawer Global) → (k : ℕ) → DeckPlace → List SeatView → Type 0
HeldIn draws k q seats = (w : ℕ) (s : SeatView) → slice_get seats w ≡ Some s → DrawIn draws (q.first + w) q.scan (dealer.Seat k s)

-- what remains after some seats were taken: worker a still has its seats of deck k where stays a k holds, and each drawer is for the scan that it was for
pub record Remains (stays : (a k : ℕ) → Type 0) (before after : List (Vec Drawer Global)) : Type 0 where
  pub seats : (a n k : ℕ) (s : SeatView) → stays a k → DrawIn before a n (dealer.Seat k s) → DrawIn after a n (dealer.Seat k s)
  pub places : (a j : ℕ) (y : Drawer) → At after a j y → (x : Drawer) × At before a j x × (y.scan ≡ x.scan)
