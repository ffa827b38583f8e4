-- Answers with statistics, as they are held.
use Rattle.std.specs.Prelude.{◌≡◌, ℕ, List, Option, Some, None, false, codes}
use Rattle.volcano_stats.specs.declared.text.StatsForm.{StatsForm}
use Rattle.volcano_answer.specs.declared.command_line.ArgumentAnswer.{ArgumentAnswer}
use Rattle.volcano_answer.specs.declared.command_line.ArgumentAnswer.TheVariants as answer
use Rattle.volcano_answer.specs.declared.command_line.ArgumentFault.{ArgumentFault}
use Rattle.volcano_answer.specs.declared.command_line.ArgumentFault.TheVariants as fault
use Rattle.volcano_refusals.specs.declared.refusal.Refusal.TheVariants as refusal
use Rattle.volcano_answer.specs.Layouts.{names_layout}
use Rattle.volcano_answer.specs.StatsNames.{stats_named}
use Rattle.volcano_answer.specs.Usage.{Names}
use Rattle.volcano_answer.specs.declared.stats.RunReport.{RunReport}
use Rattle.volcano_answer.specs.declared.command.CommandAnswer.{CommandAnswer}
use Rattle.volcano_answer.specs.declared.command.CommandAnswer.TheVariants as made

-- the answer that a report of runs is: with statistics, where they are asked for
abbrev pub answer_with : Option StatsForm → RunReport → ArgumentAnswer
answer_with None r = answer.Text r.text
answer_with (Some f) r = answer.Counted (record { text = r.text; form = f; opening = r.stats })

-- the answer that what a command made is
abbrev pub made_with : Option StatsForm → CommandAnswer → ArgumentAnswer
made_with f (made.Text text) = answer.Text text
made_with f (made.Run report) = answer_with f report

-- an answer with statistics in this form
abbrev pub IsCountedAs : StatsForm → ArgumentAnswer → Type 0
IsCountedAs f (answer.Text text) = ⊥
IsCountedAs f (answer.Relation rows) = ⊥
IsCountedAs f (answer.Counted k) = k.form ≡ f
IsCountedAs f (answer.Runs l) = l.form ≡ Some f

-- an answer without statistics
abbrev pub IsUncounted : ArgumentAnswer → Type 0
IsUncounted (answer.Text text) = Unit {0}
IsUncounted (answer.Relation rows) = Unit {0}
IsUncounted (answer.Counted k) = ⊥
IsUncounted (answer.Runs l) = l.form ≡ None

-- a word that is no form of statistics is a wrong argument, which the message names, or memory ran out
abbrev pub IsStatsFault : Option (List ℕ) → ArgumentFault → Type 0
IsStatsFault word (fault.Usage text) = (w : List ℕ) × (word ≡ Some w) × (stats_named w ≡ None) × Names (codes "volcano: --stats ") w text.items
IsStatsFault word (fault.Refused e) = e ≡ refusal.NoMemory
IsStatsFault word (fault.Failing lines) = ⊥

-- a word that is no layout of rows is a wrong argument, which the message names, or memory ran out
abbrev pub IsLayoutFault : Option (List ℕ) → ArgumentFault → Type 0
IsLayoutFault word (fault.Usage text) = (w : List ℕ) × (word ≡ Some w) × (names_layout w ≡ false) × Names (codes "volcano: --format ") w text.items
IsLayoutFault word (fault.Refused e) = e ≡ refusal.NoMemory
IsLayoutFault word (fault.Failing lines) = ⊥

-- a word that is no form of refusals is a wrong argument, which the message names, or memory ran out
abbrev pub IsErrorsFault : Option (List ℕ) → ArgumentFault → Type 0
IsErrorsFault unknown (fault.Usage text) = (w : List ℕ) × (unknown ≡ Some w) × Names (codes "volcano: --errors ") w text.items
IsErrorsFault unknown (fault.Refused e) = e ≡ refusal.NoMemory
IsErrorsFault unknown (fault.Failing lines) = ⊥
