use Rattle.std.proofs.Common.{◌≡◌, ℕ, List, ◌++◌, length}
use denote.Shadow.{shadow}
use denote.Text.{Utf8}
use Rattle.volcano_answer.specs.Finding.{IsFront}
use Rattle.volcano_answer.proofs.finding.file_name.Given as goal

-- what was left out is a folder with its slash, or nothing; and what is left is a text
abbrev pub invariant-loop-rest : goal.invariant-loop-rest
invariant-loop-rest l = ((front : List ℕ) × IsFront front × (l.path ≡ front ++ l.name)) × shadow (Utf8 l.name)

abbrev pub decreases-loop-rest : goal.decreases-loop-rest
decreases-loop-rest l = length l.name
