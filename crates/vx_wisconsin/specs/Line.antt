-- Parts of a line.
use Rattle.std.specs.Prelude.{ℕ, List, [], ◌∷◌, ◌++◌}
use Rattle.std.specs.Fmt.{decimal}

-- a number and the comma behind it
abbrev pub number_text : ℕ → List ℕ
number_text k = decimal k ++ 44 ∷ []
