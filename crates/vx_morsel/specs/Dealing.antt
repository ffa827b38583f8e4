-- The life of a deck: which seat drew what, in the order of the draws.
use Rattle.std.specs.Prelude.{◌≡◌, ℕ, ◌<◌, Option, Some, None, List, [], ◌∷◌, zero, suc, true, false}
use Rattle.vx_morsel.specs.Draws.{Draws, DealtOut}
use Rattle.vx_morsel.specs.Hands.{DeckState, DeckDraws}

-- one draw: the seat, and the number that it got, or none at the end
pub record Drawn : Type 0 where
  pub seat : ℕ
  pub answer : Option ℕ

-- a deck that has dealt out nothing
abbrev pub new_deck : ℕ → DeckState
new_deck m = record { morsels = m; next = 0 }

-- a deck goes from one state to another by these draws
abbrev pub Deals : DeckState → List Drawn → DeckState → Type 0
Deals d [] e = e ≡ d
Deals d (x ∷ xs) e = (c : DeckState) × DeckDraws d x.answer c × Deals c xs e

-- each draw is of one of n seats
abbrev pub AreSeated : ℕ → List Drawn → Type 0
AreSeated n [] = Unit {0}
AreSeated n (x ∷ xs) = (x.seat < n) × AreSeated n xs

-- n seats that drew nothing
abbrev pub idle_seats : ℕ → List Draws
idle_seats zero = []
idle_seats (suc n) = record { numbers = []; met_end = false } ∷ idle_seats n

-- the seat with this number drew this before all else that it drew
abbrev pub drew_first : ℕ → Option ℕ → List Draws → List Draws
drew_first w o [] = []
drew_first zero (Some x) (h ∷ hs) = record { numbers = x ∷ h.numbers; met_end = h.met_end } ∷ hs
drew_first zero None (h ∷ hs) = record { numbers = h.numbers; met_end = true } ∷ hs
drew_first (suc w) o (h ∷ hs) = h ∷ drew_first w o hs

-- what each of n seats drew
abbrev pub drawn_by_seats : ℕ → List Drawn → List Draws
drawn_by_seats n [] = idle_seats n
drawn_by_seats n (x ∷ xs) = drew_first x.seat x.answer (drawn_by_seats n xs)

-- whatever seats draw from a new deck, in whatever order: the numbers are those below one number, each once
abbrev pub DeckDealsOut : Type 0
DeckDealsOut =
    (m n : ℕ) (xs : List Drawn) (e : DeckState) → AreSeated n xs → Deals (new_deck m) xs e → DealtOut m e.next (drawn_by_seats n xs)
