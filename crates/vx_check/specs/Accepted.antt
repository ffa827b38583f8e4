-- The text of the checker's answer to a plan that it accepts.
use Rattle.std.specs.Prelude.{ℕ, Bool, cond, List, codes}

-- the text of the checker's answer
abbrev pub accepted_text : Bool → List ℕ
accepted_text total = cond total (codes "accepted total\n") (codes "accepted\n")
