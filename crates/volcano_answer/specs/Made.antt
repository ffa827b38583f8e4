-- What commands make of plans over tables, as it is held.
use Rattle.std.specs.Prelude.{ℕ, List}
use Rattle.volcano_answer.specs.declared.command.CommandAnswer.{CommandAnswer}
use Rattle.volcano_answer.specs.declared.command.CommandAnswer.TheVariants as made
use Rattle.volcano_answer.specs.declared.stats.RunReport.{RunReport}

-- the text
abbrev pub text_in : CommandAnswer → List ℕ
text_in (made.Text text) = text.items
text_in (made.Run report) = report.text.items

-- what holds of the report of a run, where it is one
abbrev pub IfRun : (RunReport → Type 0) → CommandAnswer → Type 0
IfRun P (made.Text text) = Unit {0}
IfRun P (made.Run report) = P report

-- it is the report of a run
abbrev pub IsRunReport : CommandAnswer → Type 0
IsRunReport (made.Text text) = ⊥
IsRunReport (made.Run report) = Unit {0}
