-- Names with values.
use Rattle.std.specs.Prelude.{ℕ, List}

-- names, each with what is said of it
abbrev pub Named : Type 0 → Type 0
Named A = List (List ℕ × A)
