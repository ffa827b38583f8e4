-- The nearest words that misfits name.
use Rattle.std.specs.Prelude.{ℕ, List, IfSome, Contains}
use Rattle.volcano_documents.specs.declared.misfits.Seen.{Seen}
use Rattle.volcano_documents.specs.declared.misfits.Seen.TheVariants.{Misfit, Parts}

-- a nearest word is one of these
abbrev pub NamesOneOf : List (List ℕ) → Seen → Type 0
NamesOneOf words (Misfit misfit) = IfSome misfit.nearest (λ w. Contains words w.now)
NamesOneOf words (Parts parts) = Unit {0}

-- no nearest word is named
abbrev pub NamesNone : Seen → Type 0
NamesNone seen = (words : List (List ℕ)) → NamesOneOf words seen
