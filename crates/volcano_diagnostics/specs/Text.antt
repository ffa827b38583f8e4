-- What is said of a refusal below its line, as lines for people.
use Rattle.std.specs.Prelude.{ℕ, ◌++◌, List, [], ◌∷◌, flat_map, Option, Some, None, String, string_bytes, codes, decimal}
use Rattle.std.specs.declared.alloc.Global.{Global}
use Rattle.volcano_diagnostics.specs.Shown.{text_shown, text_quoted}
use Rattle.volcano_diagnostics.specs.declared.diagnostic.Cell.{Cell}
use Rattle.volcano_diagnostics.specs.declared.diagnostic.Label.{Label}
use Rattle.volcano_diagnostics.specs.declared.diagnostic.Label.TheVariants as label
use Rattle.volcano_diagnostics.specs.declared.diagnostic.Note.{Note}
use Rattle.volcano_diagnostics.specs.declared.diagnostic.Diagnostic.{Diagnostic}

abbrev pub word_of : Label → List ℕ
word_of label.Found = codes "found"
word_of label.Expected = codes "expected"
word_of label.Reason = codes "reason"
word_of label.Claimed = codes "claimed"
word_of label.Shown = codes "shown"
word_of label.Help = codes "help"

-- one line, or two; of more the first two
abbrev pub lines_text : List ℕ → List ℕ
lines_text [] = []
lines_text (line ∷ []) = codes ", line " ++ decimal line
lines_text (first ∷ second ∷ more) = codes ", lines " ++ (decimal first ++ (codes " and " ++ decimal second))

abbrev pub character_text : Option ℕ → List ℕ
character_text None = []
character_text (Some n) = codes ", character " ++ decimal n

abbrev pub path_text : Option (String Global) → List ℕ
path_text None = []
path_text (Some path) = codes ", " ++ text_shown (string_bytes path)

abbrev pub cell_text : Cell → List ℕ
cell_text c = codes ", column " ++ (text_quoted (string_bytes c.column) ++ (codes ": " ++ text_quoted c.value.items))

-- where in a file it is
abbrev pub spot_text : Diagnostic → List ℕ
spot_text d = lines_text d.lines.items ++ (character_text d.character ++ (path_text d.path ++ flat_map cell_text d.cells.items))

-- the line that says where it is, if the file is known
abbrev pub place_text : Diagnostic → Option (String Global) → List ℕ
place_text d None = []
place_text d (Some file) = codes "  at " ++ (text_shown (string_bytes file) ++ (spot_text d ++ codes "\n"))

abbrev pub plan_line : String Global → List ℕ
plan_line line = codes "    " ++ (text_shown (string_bytes line) ++ codes "\n")

abbrev pub note_line : Note → List ℕ
note_line n = codes "  " ++ (word_of n.label ++ (codes ": " ++ (text_shown (string_bytes n.text) ++ codes "\n")))

-- where it is, the plan, and the notes
abbrev pub diagnostic_text : Diagnostic → List ℕ
diagnostic_text d = place_text d d.file ++ (flat_map plan_line d.plan.items ++ flat_map note_line d.notes.items)
