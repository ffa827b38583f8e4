-- Which word of a command asks for no line.
use Rattle.std.specs.Prelude.{ℕ, List, Bool, bytes_eq, codes}

-- the option that asks for no line
abbrev pub is_quiet : List ℕ → Bool
is_quiet word = bytes_eq word (codes "--quiet")
