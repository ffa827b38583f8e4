-- A shared deck and its seats, as contracts see them.
use Rattle.std.specs.Prelude.{◌≡◌, ℕ, ◌<◌, true, false, Option, Some, None, List, [], ◌∷◌, ◌++◌}
use Rattle.atomic_table.specs.Seated.{TableId}
use Rattle.vx_morsel.specs.Draws.{Draws}
use Rattle.vx_morsel_decks.specs.Rule.{AllBelow, no_draws}

-- a deck: which it is, how many numbers it deals, and to how many seats
pub record DeckView : Type 0 where
  pub name : TableId
  pub morsels : ℕ
  pub seats : ℕ

-- a seat: the deck that it is of, how many numbers that deals, and what the seat drew
pub record SeatView : Type 0 where
  pub name : TableId
  pub morsels : ℕ
  pub drew : Draws

-- the seat is of this deck
abbrev pub IsSeatOf : DeckView → SeatView → Type 0
IsSeatOf d s = (s.name ≡ d.name) × (s.morsels ≡ d.morsels)

-- a seat of this deck that has drawn nothing
abbrev pub IsNewSeat : DeckView → SeatView → Type 0
IsNewSeat d s = IsSeatOf d s × (s.drew ≡ no_draws)

-- what each seat drew
abbrev pub draws_in : List SeatView → List Draws
draws_in [] = []
draws_in (s ∷ ss) = s.drew ∷ draws_in ss

-- the seat after a draw that returned this
abbrev pub after_draw : SeatView → Option ℕ → SeatView
after_draw s (Some x) = record { name = s.name; morsels = s.morsels; drew = record { numbers = s.drew.numbers ++ x ∷ []; met_end = false } }
after_draw s None = record { name = s.name; morsels = s.morsels; drew = record { numbers = s.drew.numbers; met_end = true } }

-- a number is given only to a seat that has not met the end. It is one of the deck's, and above all that this seat drew before
abbrev pub MayDraw : DeckView → SeatView → Option ℕ → Type 0
MayDraw d s (Some x) = (s.drew.met_end ≡ false) × (x < d.morsels) × AllBelow x s.drew.numbers
MayDraw d s None = Unit {0}

-- a draw returned this, and the seat knows it
abbrev pub SeatDraws : DeckView → SeatView → Option ℕ → SeatView → Type 0
SeatDraws d s o t = MayDraw d s o × (t ≡ after_draw s o)
