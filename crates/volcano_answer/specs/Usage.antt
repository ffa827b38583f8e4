-- What is said of wrong arguments: which one is wrong, as it is shown on a line.
use Rattle.std.specs.Prelude.{◌≡◌, ℕ, ◌++◌, List, codes}
use Rattle.volcano_arguments.specs.Asked.{Ask, bundle, check, check_all, explain, draw, annotate, sql, find_catalog, why, serial, run, run_plans, generate}
use Rattle.volcano_diagnostics.specs.Shown.{IsShown}
use Rattle.volcano_answer.specs.Arguments.{IsWrongPart}
use Rattle.volcano_answer.specs.Finding.{IsWrongPath}

-- the message is these words, an argument as it is shown, and these words behind it
abbrev pub Tells : (before argument after message : List ℕ) → Type 0
Tells before argument after message = (shown : List ℕ) × IsShown argument shown × (message ≡ before ++ shown ++ after)

-- the message names an argument behind these words
abbrev pub Names : (before argument message : List ℕ) → Type 0
Names before argument message = (after : List ℕ) × Tells before argument after message

-- the argument that asks for what there is not, behind the words that stand before it in a message
abbrev pub IsWrong : Ask → (before argument : List ℕ) → Type 0
IsWrong bundle before argument = ⊥
IsWrong (check paths) before argument = ⊥
IsWrong (check_all paths) before argument = ⊥
IsWrong (explain paths format) before argument = (before ≡ codes "volcano: --format ") × (argument ≡ format)
IsWrong (draw paths stats) before argument = (before ≡ codes "volcano: --stats ") × (argument ≡ stats)
IsWrong (annotate paths derive) before argument = ⊥
IsWrong (sql paths dialect) before argument = (before ≡ codes "volcano: --dialect ") × (argument ≡ dialect)
IsWrong (find_catalog paths quiet) before argument = (before ≡ codes "volcano: catalog ") × IsWrongPath paths argument
IsWrong (why code) before argument = (before ≡ codes "volcano: why ") × (argument ≡ code)
IsWrong (serial paths folder) before argument = ⊥
IsWrong (run paths folder given) before argument = IsWrongPart given before argument
IsWrong (run_plans paths folder given) before argument = IsWrongPart given before argument
IsWrong (generate rows) before argument = ⊥

-- the message names that argument
abbrev pub NamesWrong : Ask → (message : List ℕ) → Type 0
NamesWrong ask message = (before : List ℕ) × (argument : List ℕ) × IsWrong ask before argument × Names before argument message
