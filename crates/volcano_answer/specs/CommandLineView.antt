-- What arguments ask for, as it is held; what answers them, and why they have no answer.
use Rattle.std.specs.Prelude.{◌≡◌, ◌≢◌, ℕ, ◌⊎◌, List, Bool, Option, Some, string_bytes, codes}
use Rattle.volcano_arguments.specs.Asked.{paths_are, Ask, Paths, check_all, explain, draw, annotate, sql, why, generate}
use Rattle.volcano_answer.specs.declared.command_line.FileCommand as held
use Rattle.volcano_answer.specs.declared.command_line.AskedJob.{AskedJob}
use Rattle.volcano_answer.specs.declared.command_line.AskedJob.TheVariants as asked_job
use Rattle.volcano_answer.specs.declared.command_line.ArgumentAnswer.{ArgumentAnswer}
use Rattle.volcano_answer.specs.declared.command_line.ArgumentAnswer.TheVariants as answer
use Rattle.volcano_answer.specs.declared.command_line.ArgumentFault.{ArgumentFault}
use Rattle.volcano_answer.specs.declared.command_line.ArgumentFault.TheVariants as fault
use Rattle.clap.specs.declared.error.kind.ErrorKind.{ErrorKind}
use Rattle.clap.specs.declared.error.kind.ErrorKind.TheVariants as kind
use Rattle.volcano_refusals.specs.declared.refusal.Refusal.TheVariants as refusal
use Rattle.volcano_drawing.specs.declared.fault.DrawFault.{DrawFault}
use Rattle.volcano_drawing.specs.declared.fault.DrawFault.TheVariants as no_drawing
use Rattle.vx_catalog_bytes.specs.Stored.{Stored}
use Rattle.volcano_answer.specs.Forms.{form_named}
use Rattle.volcano_answer.specs.Statements.{dialect_named}
use Rattle.volcano_answer.specs.Usage.{Tells, Names, NamesWrong}
use Rattle.vx_exec_runs.specs.Promise.{Counting}
use Rattle.volcano_answer.specs.Loaded.{AreAskedPlans}
use Rattle.volcano_answer.specs.Stats.{AreAskStats, AreArgumentStats}
use Rattle.volcano_answer.specs.declared.layouts.Layout.{Layout}
use Rattle.volcano_answer.specs.declared.layouts.Layout.TheVariants as layouts
use Rattle.volcano_answer.specs.CommandLine.{FileCommand, IsTask, IsNoTask, LacksStats, IsEntry, layout_asked, AnswersAsk, FailsAtAll, AsksFor, AsksForFailing, AnswersArguments, IsUsageKind, AskRefuses, IsUsageError, ArgumentsRefuse}

abbrev pub task_is : held.FileCommand → FileCommand
task_is t = record { command = t.command; paths = paths_are t.sources; folder = t.folder.now; setting = t.setting }

-- a job does what arguments ask for
abbrev pub IsJob : Ask → AskedJob → Type 0
IsJob ask (asked_job.Command t) = IsTask ask (task_is t)
IsJob ask (asked_job.Verdict sources) = ask ≡ check_all (paths_are sources)
IsJob ask (asked_job.Annotation sources derive) = ask ≡ annotate (paths_are sources) derive
IsJob ask (asked_job.Form f sources) = (format : List ℕ) × (ask ≡ explain (paths_are sources) format) × (form_named format ≡ Some f)
IsJob ask (asked_job.Drawing sources stats) = ask ≡ draw (paths_are sources) stats.now
IsJob ask (asked_job.Statement d sources) = (name : List ℕ) × (ask ≡ sql (paths_are sources) name) × (dialect_named name ≡ Some d)
IsJob ask (asked_job.Entry text) = (code : List ℕ) × (ask ≡ why code) × IsEntry code text.now
IsJob ask (asked_job.Relation rows) = ask ≡ generate rows

-- what answers what arguments ask for: a finished text, the number of rows of the relation that they ask for as CSV, or the plans that they ask to be run
abbrev pub IsAskAnswer : Counting → Layout → (List ℕ → Stored) → Option (List ℕ) → Ask → ArgumentAnswer → Type 0
IsAskAnswer Counted layout files input ask (answer.Text text) = AnswersAsk layout files input ask text.items
IsAskAnswer Counted layout files input ask (answer.Relation rows) = (ask ≡ generate rows) × (layout ≡ layouts.Csv)
IsAskAnswer Counted layout files input ask (answer.Counted k) = AnswersAsk layout files input ask k.text.items × AreAskStats Counted layout files input k.form ask k.text.items (string_bytes k.opening)
IsAskAnswer Counted layout files input ask (answer.Runs l) = AreAskedPlans files input ask l × (l.layout ≡ layout)

-- what answers arguments
abbrev pub IsArgumentAnswer : Counting → Option ℕ → (List ℕ → Stored) → Option (List ℕ) → List (List ℕ) → ArgumentAnswer → Type 0
IsArgumentAnswer Counted columns files input arguments (answer.Text text) = AnswersArguments columns files input arguments text.items
IsArgumentAnswer Counted columns files input arguments (answer.Relation rows) = AsksFor arguments (generate rows) × (layout_asked columns arguments ≡ layouts.Csv)
IsArgumentAnswer Counted columns files input arguments (answer.Counted k) = AnswersArguments columns files input arguments k.text.items × AreArgumentStats Counted columns files input k.form arguments k.text.items (string_bytes k.opening)
IsArgumentAnswer Counted columns files input arguments (answer.Runs l) = (ask : Ask) × AsksFor arguments ask × AreAskedPlans files input ask l × (l.layout ≡ layout_asked columns arguments)

-- an answer by clap of this kind: the text of help or of the version
abbrev pub IsHelp : ErrorKind → ArgumentAnswer → Type 0
IsHelp k (answer.Text text) = (k ≡ kind.DisplayHelp) ⊎ (k ≡ kind.DisplayVersion)
IsHelp k (answer.Relation rows) = ⊥
IsHelp k (answer.Counted counted) = ⊥
IsHelp k (answer.Runs l) = ⊥

-- arguments are wrong, with this text, or memory ran out
abbrev pub HasUsageText : List ℕ → ArgumentFault → Type 0
HasUsageText message (fault.Usage text) = text.items ≡ message
HasUsageText message (fault.Refused e) = e ≡ refusal.NoMemory
HasUsageText message (fault.Failing lines) = ⊥

-- arguments are wrong, with a message of these words around the one that is wrong, or memory ran out
abbrev pub IsUsageFault : (before argument after : List ℕ) → ArgumentFault → Type 0
IsUsageFault before argument after (fault.Usage text) = Tells before argument after text.items
IsUsageFault before argument after (fault.Refused e) = e ≡ refusal.NoMemory
IsUsageFault before argument after (fault.Failing lines) = ⊥

-- why there is no picture with the statistics of the file at a path: wrong arguments, with a message that names the path, unless memory ran out
abbrev pub IsNoDrawing : (path : List ℕ) → DrawFault → ArgumentFault → Type 0
IsNoDrawing path d (fault.Usage text) = (d ≢ no_drawing.NoMemory) × Names (codes "volcano: --stats ") path text.items
IsNoDrawing path d (fault.Refused e) = e ≡ refusal.NoMemory
IsNoDrawing path d (fault.Failing lines) = ⊥

-- a refusal by clap of this kind: arguments are wrong only by a kind that says so
abbrev pub IsClapFault : ErrorKind → ArgumentFault → Type 0
IsClapFault k (fault.Usage text) = IsUsageKind k
IsClapFault k (fault.Refused e) = e ≡ refusal.NoMemory
IsClapFault k (fault.Failing lines) = ⊥

-- why what arguments ask for is not answered; where they are wrong, the message names the part that is
abbrev pub IsAskFault : (List ℕ → Stored) → (List ℕ → Bool) → Option (List ℕ) → Bool → Ask → ArgumentFault → Type 0
IsAskFault files reliable input failed ask (fault.Usage text) = (IsNoTask ask ⊎ LacksStats files input ask) × NamesWrong ask text.items
IsAskFault files reliable input failed ask (fault.Refused e) = AskRefuses files reliable input failed ask e
IsAskFault files reliable input failed ask (fault.Failing lines) = (paths : Paths) × (ask ≡ check_all paths) × FailsAtAll files input paths (string_bytes lines)

-- why arguments are not answered
abbrev pub IsArgumentFault : (List ℕ → Stored) → (List ℕ → Bool) → Option (List ℕ) → Bool → List (List ℕ) → ArgumentFault → Type 0
IsArgumentFault files reliable input failed arguments (fault.Usage text) = IsUsageError files input arguments
IsArgumentFault files reliable input failed arguments (fault.Refused e) = ArgumentsRefuse files reliable input failed arguments e
IsArgumentFault files reliable input failed arguments (fault.Failing lines) = AsksForFailing files input arguments (string_bytes lines)
