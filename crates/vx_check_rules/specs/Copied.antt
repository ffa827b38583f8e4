-- Columns that have copies, as bits of a number.
use Rattle.std.specs.Prelude.{ℕ, ◌≡◌, ◌<◌, ◌==◌, Bool}
use Rattle.std.specs.Int.{bit_at}

-- of the first 64 columns, these bits are set for those that pass the test
abbrev pub LowCopies : (ℕ → Bool) → ℕ → Type 0
LowCopies test bits = (c : ℕ) → c < 64 → (bit_at bits c == 1) ≡ test c
