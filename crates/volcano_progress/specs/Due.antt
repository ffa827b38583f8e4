-- When a line is due, in milliseconds.
use Rattle.std.specs.Prelude.{ℕ, ◌+◌, ◌-◌, ◌^◌, min, max}

-- the sum, or the greatest number that is counted
abbrev pub counted : ℕ → ℕ → ℕ
counted number more = min (number + more) (2 ^ 64 - 1)

-- when the first line of some work is due: a second after the command began, and a tenth of one after the work did
abbrev pub first_due : ℕ → ℕ → ℕ
first_due command work = max (counted command 1_000) (counted work 100)

-- when the next line is due
abbrev pub next_due : ℕ → ℕ
next_due now = counted now 100
