use Rattle.std.proofs.Common.{◌≡◌, All, length}
use Rattle.vx_morsel_decks.specs.Seats.{IsSeatOf}
use Rattle.test_rings.proofs.decks.drawn_in_turn.Given as goal

abbrev pub invariant-loop-word : goal.invariant-loop-word
invariant-loop-word l = All (IsSeatOf l.fn.deck) l.seats.items × (length l.seats.items ≡ l.fn.deck.seats)
