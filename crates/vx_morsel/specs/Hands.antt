-- Hands and decks that deal out numbers below a bound to one drawer after the other, without threads.
use Rattle.std.specs.Prelude.{ℕ, ◌≡◌, ◌<◌, ◌≤◌, ◌+◌, Option, Some, None}
use Rattle.vx_rows_values.specs.Limits.{max_group_workers, max_rows}

-- a hand deals place, place + size, and so on, below `morsels`; `next` is the next one
pub record HandState : Type 0 where
  pub place : ℕ
  pub size : ℕ
  pub morsels : ℕ
  pub next : ℕ

-- at least one place and no more than a worker group has workers, and no more morsels than a relation has rows
abbrev pub IsSmall : ℕ → ℕ → Type 0
IsSmall size morsels = (0 < size) × (size ≤ max_group_workers) × (morsels ≤ max_rows)

-- a draw returns the next number, and the one after it is `size` larger; past the bound it returns none and changes nothing
abbrev pub HandDraws : HandState → Option ℕ → HandState → Type 0
HandDraws h None g = (h.morsels ≤ h.next) × (g ≡ h)
HandDraws h (Some m) g = (m ≡ h.next) × (h.next < h.morsels) × (g ≡ record { place = h.place; size = h.size; morsels = h.morsels; next = h.next + h.size })

-- a deck deals 0, 1, 2, and so on, below `morsels`
pub record DeckState : Type 0 where
  pub morsels : ℕ
  pub next : ℕ

abbrev pub IsDeck : ℕ → ℕ → Type 0
IsDeck morsels next = (morsels ≤ max_rows) × (next ≤ morsels)

-- a draw returns the next number; at the end it returns none and changes nothing
abbrev pub DeckDraws : DeckState → Option ℕ → DeckState → Type 0
DeckDraws d None e = (d.next ≡ d.morsels) × (e ≡ d)
DeckDraws d (Some m) e = (m ≡ d.next) × (d.next < d.morsels) × (e ≡ record { morsels = d.morsels; next = d.next + 1 })
