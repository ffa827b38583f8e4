use Rattle.std.proofs.Common.{ℕ, ◌≡◌, ◌<◌, ◌≤◌, Some, slice_get, length}
use Rattle.vx_morsel_decks.specs.Seats.{DeckView}
use Rattle.vx_exec_threads.specs.declared.deck_place.DeckPlace.{DeckPlace}
use Rattle.vx_exec_assembly.specs.Closing.{ClosedIn}
use Rattle.vx_exec_assembly.specs.SeatsTaken.{Remains}
use Rattle.vx_exec_assembly.proofs.closing.close_decks.Given as goal

abbrev pub invariant-loop-number : goal.invariant-loop-number
invariant-loop-number l =
    Remains (λ a k. length l.yielded ≤ k) l.fn.draws.items l.draws.items
    × ((k : ℕ) (d : DeckView) (q : DeckPlace) → k < length l.yielded → slice_get l.fn.decks.items k ≡ Some d → slice_get l.places k ≡ Some q
    → ClosedIn l.fn.draws.items k d q)
