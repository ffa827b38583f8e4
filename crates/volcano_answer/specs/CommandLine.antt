-- What answers arguments, over files and standard input, and why arguments may have no answer. `files`, `reliable`, `input` and `failed` are as in `Files`.
use Rattle.std.specs.Prelude.{◌≡◌, ◌≢◌, ℕ, ◌+◌, ◌<◌, ◌≤◌, ◌⊎◌, ◌++◌, List, [], ◌∷◌, length, slice_index_or, take, Bool, true, false, Option, Some, None, option_and_then, Ok, IfSome, bytes_eq, codes, if◌then◌else◌, ◌||◌, ◌&&◌}
use Rattle.clap.specs.Words.{IsAmong}
use Rattle.clap.specs.declared.error.kind.ErrorKind.{ErrorKind}
use Rattle.clap.specs.declared.error.kind.ErrorKind.TheVariants as kind
use Rattle.vx_plan_nodes.specs.Names.{TypedPlanView}
use Rattle.volcano_arguments.specs.Asked.{Ask, Paths, ManyPaths, Given, bundle, check, check_all, explain, draw, annotate, sql, find_catalog, why, serial, run, run_plans, generate, asked_by, stats_by, layout_by, output_by, unknown_errors_by, faults_of}
use Rattle.volcano_arguments.specs.declared.asked.ErrorForm.{ErrorForm}
use Rattle.volcano_arguments.specs.declared.asked.ErrorForm.TheVariants as error_form
use Rattle.volcano_bundle.specs.declared.command.Command.{Command}
use Rattle.volcano_bundle.specs.declared.command.Command.TheVariants as command
use Rattle.vx_exec_setup.specs.declared.setting.Mode.TheVariants as mode
use Rattle.vx_exec_setup.specs.Setup.{default_packet_rows, default_morsel_rows, default_slack}
use Rattle.vx_exec_setup.specs.Setting.{Setting}
use Rattle.vx_catalog_bytes.specs.Stored.{Stored, IfBytes}
use Rattle.volcano_refusals.specs.declared.refusal.Refusal.{Refusal}
use Rattle.volcano_refusals.specs.declared.refusal.Refusal.TheVariants as refusal
use Rattle.volcano_refusals.specs.Status.{status_of}
use Rattle.volcano_tables.specs.Folder.{holds_at, LacksAt}
use Rattle.volcano_answer.specs.Commands.{IsShown, IsResultOf, CommandRefuses}
use Rattle.volcano_answer.specs.Answer.{IsAnswer, RefusedWith}
use Rattle.volcano_answer.specs.Arguments.{IsSetting, IsNoSetting}
use Rattle.vx_catalog_relations.specs.Relation.{Relation}
use Rattle.vx_plan_json.specs.Document.{Document}
use Rattle.vx_check_directions.specs.Planned.{planned}
use Rattle.volcano_drawing.specs.Drawing.{IsDrawn}
use Rattle.volcano_drawing.specs.Fault.{HasNoTotals}
use Rattle.volcano_stats.specs.Words.{op_words}
use Rattle.volcano_answer.specs.Files.{known_at, AreRead, AreNotRead, IsReadRefusal, IsFilesPlan, IsFilesRefusal}
use Rattle.volcano_answer.specs.Finding.{IsWrongPath, AnswersCatalog, CatalogIsRefused}
use Rattle.volcano_answer.specs.Forms.{form_named, IsInForm, FormRefuses}
use Rattle.volcano_answer.specs.declared.layouts.Layout.{Layout}
use Rattle.volcano_answer.specs.Layouts.{names_layout, rows_text, layout_of_word, unless_output, is_empty}
use Rattle.volcano_answer.specs.Statements.{dialect_named, IsStatement, StatementFails}
use Rattle.vx_check_sql.specs.declared.dialect.Dialect.{Dialect}
use Rattle.volcano_answer.specs.Annotated.{asking_if, IsAnnotated, AnnotationRefuses}
use Rattle.volcano_stats.specs.declared.text.StatsForm.{StatsForm}
use Rattle.volcano_answer.specs.StatsNames.{stats_named}
use Rattle.volcano_answer.specs.Verdict.{IsAllShown, AreFailures}
use Rattle.volcano_answer.specs.Plans.{AnswersPlans, PlansStop, PlansRefuse}
use Rattle.volcano_answer.specs.declared.forms.PlanForm.{PlanForm}
use Rattle.volcano_why.specs.Codes.{code_of, BeginsWith}
use Rattle.vx_wisconsin.specs.Wisconsin.{wisconsin, column_names}
use Rattle.vx_rows_values.specs.Limits.{max_generated_rows}

-- a command over the catalog, the plan and the folder of tables that arguments name
pub record FileCommand : Type 0 where
  pub command : Command
  pub paths : Paths
  pub folder : List ℕ
  pub setting : Setting

-- by default: the packets, morsels and slack of a setup where none is said, in rounds
abbrev pub default_setting : Setting
default_setting = record { setup = record { sizes = []; packet = default_packet_rows; morsel = default_morsel_rows; slack = default_slack }; mode = mode.Rounds }

-- a task is what arguments ask for
abbrev pub IsTask : Ask → FileCommand → Type 0
IsTask bundle t = ⊥
IsTask (check paths) t = t ≡ record { command = command.Check; paths = paths; folder = []; setting = default_setting }
IsTask (check_all paths) t = ⊥
IsTask (explain paths format) t = (bytes_eq format (codes "text") ≡ true) × (t ≡ record { command = command.Explain; paths = paths; folder = []; setting = default_setting })
IsTask (draw paths stats) t = ⊥
IsTask (annotate paths derive) t = ⊥
IsTask (sql paths dialect) t = ⊥
IsTask (find_catalog paths quiet) t = ⊥
IsTask (why code) t = ⊥
IsTask (serial paths folder) t = t ≡ record { command = command.Serial; paths = paths; folder = folder; setting = default_setting }
IsTask (run paths folder given) t = (s : Setting) × IsSetting given s × (t ≡ record { command = command.Run; paths = paths; folder = folder; setting = s })
IsTask (run_plans paths folder given) t = ⊥
IsTask (generate rows) t = ⊥

-- arguments ask for a run and set none up, for a format or a dialect that there is not, for a catalog from a file that is no table, or for a code that is none and names none
abbrev pub IsNoTask : Ask → Type 0
IsNoTask bundle = ⊥
IsNoTask (check paths) = ⊥
IsNoTask (check_all paths) = ⊥
IsNoTask (explain paths format) = (bytes_eq format (codes "text") ≡ false) × (form_named format ≡ None)
IsNoTask (draw paths stats) = ⊥
IsNoTask (annotate paths derive) = ⊥
IsNoTask (sql paths dialect) = dialect_named dialect ≡ None
IsNoTask (find_catalog paths quiet) = (path : List ℕ) × IsWrongPath paths path
IsNoTask (why code) = code_of code ≡ None
IsNoTask (serial paths folder) = ⊥
IsNoTask (run paths folder given) = IsNoSetting given
IsNoTask (run_plans paths folder given) = IsNoSetting given
IsNoTask (generate rows) = ⊥

-- the text answers a task: it is what its command asks for of its plan over the files of its folder
abbrev pub AnswersTask : Layout → (List ℕ → Stored) → Option (List ℕ) → FileCommand → List ℕ → Type 0
AnswersTask layout files input t text = (p : TypedPlanView) × IsFilesPlan files input t.paths p × IsResultOf layout t.command p (holds_at files t.folder) t.setting text

-- the first reason why a task has no answer: its plan, or what the command makes of that; out of memory may come anywhere
pub data TaskRefuses (files : List ℕ → Stored) (reliable : List ℕ → Bool) (input : Option (List ℕ)) (failed : Bool) (t : FileCommand) (e : Refusal) : Type 0 where
  task_memory : e ≡ refusal.NoMemory → TaskRefuses files reliable input failed t e
  for_planning : IsFilesRefusal files reliable input failed t.paths e → TaskRefuses files reliable input failed t e
  for_plan_of : (p : TypedPlanView) → IsFilesPlan files input t.paths p
      → CommandRefuses t.command p (holds_at files t.folder) (LacksAt files reliable t.folder) t.setting e → TaskRefuses files reliable input failed t e

-- the text is that of the plan of these paths in a form
abbrev pub AnswersForm : (List ℕ → Stored) → Option (List ℕ) → PlanForm → Paths → List ℕ → Type 0
AnswersForm files input f paths text = (p : TypedPlanView) × IsFilesPlan files input paths p × IsInForm f p text

-- the first reason why there is none: the plan, or a claim that is not shown; out of memory may come anywhere
pub data FormIsRefused (files : List ℕ → Stored) (reliable : List ℕ → Bool) (input : Option (List ℕ)) (failed : Bool) (paths : Paths) (e : Refusal) : Type 0 where
  for_form_planning : IsFilesRefusal files reliable input failed paths e → FormIsRefused files reliable input failed paths e
  for_form : (p : TypedPlanView) → IsFilesPlan files input paths p → FormRefuses p e → FormIsRefused files reliable input failed paths e

-- the text is the picture of the plan of these paths, which the checker accepts, with what the file of statistics, which is of this plan, has of each of its nodes
abbrev pub AnswersDrawing : (List ℕ → Stored) → Option (List ℕ) → Paths → List ℕ → List ℕ → Type 0
AnswersDrawing files input paths stats text =
    (p : TypedPlanView) × (counts : List ℕ) × IsFilesPlan files input paths p × IsShown p
    × IfBytes (known_at files (Some []) stats) (λ bytes. bytes ≡ counts) × IsDrawn (op_words p.root) p counts text

-- the file of statistics has none of the plan of these paths: it is not what a run writes, or its nodes are not those of the plan
abbrev pub IsOtherStats : (List ℕ → Stored) → Option (List ℕ) → Paths → List ℕ → Type 0
IsOtherStats files input paths stats =
    (p : TypedPlanView) × (counts : List ℕ) × IsFilesPlan files input paths p
    × IfBytes (known_at files (Some []) stats) (λ bytes. bytes ≡ counts) × HasNoTotals (op_words p.root) counts

-- arguments ask for a picture with statistics, and the file has none of the plan
abbrev pub LacksStats : (List ℕ → Stored) → Option (List ℕ) → Ask → Type 0
LacksStats files input ask = (paths : Paths) × (stats : List ℕ) × (ask ≡ draw paths stats) × IsOtherStats files input paths stats

-- the first reason why there is none: there is no picture, or the file of statistics has no bytes; out of memory may come anywhere
pub data DrawingIsRefused (files : List ℕ → Stored) (reliable : List ℕ → Bool) (input : Option (List ℕ)) (failed : Bool) (paths : Paths) (stats : List ℕ) (e : Refusal) : Type 0 where
  drawing_memory : e ≡ refusal.NoMemory → DrawingIsRefused files reliable input failed paths stats e
  for_picture : FormIsRefused files reliable input failed paths e → DrawingIsRefused files reliable input failed paths stats e
  for_statistics : IsReadRefusal files reliable (Some []) failed stats e → DrawingIsRefused files reliable input failed paths stats e

-- the text is the plan of these paths in the SQL of a dialect
abbrev pub AnswersStatement : (List ℕ → Stored) → Option (List ℕ) → Dialect → Paths → List ℕ → Type 0
AnswersStatement files input d paths text = (p : TypedPlanView) × IsFilesPlan files input paths p × IsStatement d p text

-- the first reason why there is none: there is no such plan, or a function of it is not the program's; out of memory may come anywhere
pub data StatementIsRefused (files : List ℕ → Stored) (reliable : List ℕ → Bool) (input : Option (List ℕ)) (failed : Bool) (paths : Paths) (e : Refusal) : Type 0 where
  statement_memory : e ≡ refusal.NoMemory → StatementIsRefused files reliable input failed paths e
  for_statement_planning : IsFilesRefusal files reliable input failed paths e → StatementIsRefused files reliable input failed paths e
  for_statement : (p : TypedPlanView) → IsFilesPlan files input paths p → StatementFails p e → StatementIsRefused files reliable input failed paths e

-- the text is that of the plan of these paths, which asks for what is known of its columns where that is said, with the claims that the rule table shows
abbrev pub AnswersAnnotation : (List ℕ → Stored) → Option (List ℕ) → Paths → (derive : Bool) → List ℕ → Type 0
AnswersAnnotation files input paths derive text = (relations : List Relation) × (d : Document) × AreRead files input paths relations d × IsAnnotated relations (asking_if derive d) text

-- the first reason why there is none: the catalog or the plan was not read, or the plan gets no claims; out of memory may come anywhere
pub data AnnotationIsRefused (files : List ℕ → Stored) (reliable : List ℕ → Bool) (input : Option (List ℕ)) (failed : Bool) (paths : Paths) (derive : Bool) (e : Refusal) : Type 0 where
  for_annotation_reading : AreNotRead files reliable input failed paths e → AnnotationIsRefused files reliable input failed paths derive e
  for_annotation : (relations : List Relation) (d : Document) → AreRead files input paths relations d → AnnotationRefuses relations (asking_if derive d) e
      → AnnotationIsRefused files reliable input failed paths derive e

-- the text is what a check of all nodes says of the plan of these paths, where each claim is shown
abbrev pub AnswersAll : (List ℕ → Stored) → Option (List ℕ) → Paths → List ℕ → Type 0
AnswersAll files input paths text = (p : TypedPlanView) × IsFilesPlan files input paths p × IsAllShown p text

-- the lines of the nodes of the plan of these paths that fail, a cause before those that come of it
abbrev pub FailsAtAll : (List ℕ → Stored) → Option (List ℕ) → Paths → List ℕ → Type 0
FailsAtAll files input paths lines =
    (relations : List Relation) × (d : Document) × (p : TypedPlanView) × AreRead files input paths relations d × (planned d relations ≡ Ok p) × AreFailures relations d p lines

-- the text begins with the code that a word is or names, and a space
abbrev pub IsEntry : List ℕ → List ℕ → Type 0
IsEntry word text = BeginsWith (code_of word) text

-- the command that arguments begin with, empty where there are none
abbrev pub command_in : List (List ℕ) → List ℕ
command_in arguments = slice_index_or arguments 0 []

-- an argument, or a table of statistics where no form of statistics follows
abbrev pub or_table : List ℕ → Option (Option StatsForm) → List ℕ
or_table argument None = codes "--stats=table"
or_table argument (Some form) = argument

-- a command with statistics
abbrev pub has_stats : List ℕ → Bool
has_stats command = bytes_eq command (codes "run") || bytes_eq command (codes "bundle")

-- an argument of a command before another: `--stats` asks for a table where no form of statistics follows it
abbrev pub spelled_out : (command argument next : List ℕ) → List ℕ
spelled_out command argument next = if has_stats command && bytes_eq argument (codes "--stats") then or_table argument (stats_named next) else argument

-- the arguments of a command, spelled out; behind the last one stands the empty word
abbrev pub spelled : List ℕ → List (List ℕ) → List (List ℕ)
spelled command [] = []
spelled command (w ∷ ws) = spelled_out command w (slice_index_or ws 0 []) ∷ spelled command ws

-- the program's name, and then the arguments, spelled out
abbrev pub with_program_name : List (List ℕ) → List (List ℕ)
with_program_name arguments = codes "volcano" ∷ spelled (command_in arguments) arguments

-- the text answers what arguments ask for: the bundle on standard input, a task, a check of all nodes, a plan in a form, as a picture with statistics, as SQL or with other claims, the catalog that is found in files, runs of several plans, what a code means, or a relation, which has 10,000,000 rows at most
pub data AnswersAsk (layout : Layout) (files : List ℕ → Stored) (input : Option (List ℕ)) (ask : Ask) (text : List ℕ) : Type 0 where
  for_bundle : ask ≡ bundle → IfSome input (λ bytes. IsAnswer layout bytes text) → AnswersAsk layout files input ask text
  for_task : (t : FileCommand) → IsTask ask t → AnswersTask layout files input t text → AnswersAsk layout files input ask text
  for_plan_form : (f : PlanForm) (paths : Paths) (format : List ℕ) → ask ≡ explain paths format → form_named format ≡ Some f → AnswersForm files input f paths text → AnswersAsk layout files input ask text
  for_drawing : (paths : Paths) (stats : List ℕ) → ask ≡ draw paths stats → AnswersDrawing files input paths stats text → AnswersAsk layout files input ask text
  for_sql : (d : Dialect) (paths : Paths) (name : List ℕ) → ask ≡ sql paths name → dialect_named name ≡ Some d → AnswersStatement files input d paths text → AnswersAsk layout files input ask text
  for_all_nodes : (paths : Paths) → ask ≡ check_all paths → AnswersAll files input paths text → AnswersAsk layout files input ask text
  for_claims : (paths : Paths) (derive : Bool) → ask ≡ annotate paths derive → AnswersAnnotation files input paths derive text → AnswersAsk layout files input ask text
  for_found_catalog : (paths : List (List ℕ)) (quiet : Bool) → ask ≡ find_catalog paths quiet → AnswersCatalog files paths text → AnswersAsk layout files input ask text
  for_code : (code : List ℕ) → ask ≡ why code → IsEntry code text → AnswersAsk layout files input ask text
  for_runs : (paths : ManyPaths) (folder : List ℕ) (given : Given) (s : Setting) → ask ≡ run_plans paths folder given → IsSetting given s → AnswersPlans layout files input paths folder s text
      → AnswersAsk layout files input ask text
  for_relation : (rows : ℕ) → ask ≡ generate rows → rows ≤ max_generated_rows → text ≡ rows_text layout column_names (wisconsin rows) → AnswersAsk layout files input ask text

-- arguments ask for runs of several plans, of which one gives no text for this reason; the text is that of the runs before it
abbrev pub AskStops : Layout → (List ℕ → Stored) → Option (List ℕ) → Ask → List ℕ → Refusal → Type 0
AskStops layout files input ask text e =
    (paths : ManyPaths) × (folder : List ℕ) × (given : Given) × (s : Setting) × (ask ≡ run_plans paths folder given) × IsSetting given s × PlansStop layout files input paths folder s text e

-- what arguments ask for is refused with this refusal
pub data AskRefuses (files : List ℕ → Stored) (reliable : List ℕ → Bool) (input : Option (List ℕ)) (failed : Bool) (ask : Ask) (e : Refusal) : Type 0 where
  ask_memory : e ≡ refusal.NoMemory → AskRefuses files reliable input failed ask e
  for_asked_bundle : ask ≡ bundle → RefusedWith input failed e → AskRefuses files reliable input failed ask e
  for_asked_task : (t : FileCommand) → IsTask ask t → TaskRefuses files reliable input failed t e → AskRefuses files reliable input failed ask e
  for_asked_form : (f : PlanForm) (paths : Paths) (format : List ℕ) → ask ≡ explain paths format → form_named format ≡ Some f → FormIsRefused files reliable input failed paths e → AskRefuses files reliable input failed ask e
  for_asked_drawing : (paths : Paths) (stats : List ℕ) → ask ≡ draw paths stats → DrawingIsRefused files reliable input failed paths stats e → AskRefuses files reliable input failed ask e
  for_asked_sql : (d : Dialect) (paths : Paths) (name : List ℕ) → ask ≡ sql paths name → dialect_named name ≡ Some d → StatementIsRefused files reliable input failed paths e → AskRefuses files reliable input failed ask e
  for_asked_all : (paths : Paths) → ask ≡ check_all paths → IsFilesRefusal files reliable input failed paths e → AskRefuses files reliable input failed ask e
  for_asked_claims : (paths : Paths) (derive : Bool) → ask ≡ annotate paths derive → AnnotationIsRefused files reliable input failed paths derive e → AskRefuses files reliable input failed ask e
  for_asked_catalog : (paths : List (List ℕ)) (quiet : Bool) → ask ≡ find_catalog paths quiet → CatalogIsRefused files reliable paths e → AskRefuses files reliable input failed ask e
  for_asked_runs : (paths : ManyPaths) (folder : List ℕ) (given : Given) (s : Setting) → ask ≡ run_plans paths folder given → IsSetting given s
      → PlansRefuse files reliable input failed paths folder e → AskRefuses files reliable input failed ask e
  for_stopped : (layout : Layout) (text : List ℕ) → AskStops layout files input ask text e → AskRefuses files reliable input failed ask e
  for_asked_relation : (rows : ℕ) → ask ≡ generate rows → max_generated_rows < rows → e ≡ refusal.TooLarge → AskRefuses files reliable input failed ask e

-- where a refusal was found is written behind it
abbrev pub wants_place : Option ErrorForm → Bool
wants_place None = false
wants_place (Some error_form.Short) = false
wants_place (Some error_form.Long) = true
wants_place (Some error_form.Json) = true

-- the layout that arguments ask rows to be in, on a screen of so many columns if that is known
abbrev pub layout_asked : Option ℕ → List (List ℕ) → Layout
layout_asked columns arguments = layout_of_word columns (layout_by (with_program_name arguments))

-- the file that arguments ask rows to be put into, where they ask for something and clap refuses nothing of them; - is standard output
abbrev pub output_asked : List (List ℕ) → Option (List ℕ)
output_asked arguments =
    if is_empty (faults_of (with_program_name arguments)) then option_and_then (λ ask. unless_output (output_by (with_program_name arguments))) (asked_by (with_program_name arguments)) else None

-- arguments ask for help or for the version
abbrev pub AskForHelp : List (List ℕ) → Type 0
AskForHelp arguments = IsAmong kind.DisplayHelp (faults_of (with_program_name arguments)) ⊎ IsAmong kind.DisplayVersion (faults_of (with_program_name arguments))

-- arguments of which clap refuses nothing, and what they ask for
pub record AsksFor (arguments : List (List ℕ)) (ask : Ask) : Type 0 where
  pub unrefused : faults_of (with_program_name arguments) ≡ []
  pub asked : asked_by (with_program_name arguments) ≡ Some ask

-- the text answers arguments
pub data AnswersArguments (columns : Option ℕ) (files : List ℕ → Stored) (input : Option (List ℕ)) (arguments : List (List ℕ)) (text : List ℕ) : Type 0 where
  for_help : AskForHelp arguments → AnswersArguments columns files input arguments text
  for_what_is_asked : (ask : Ask) → AsksFor arguments ask → AnswersAsk (layout_asked columns arguments) files input ask text → AnswersArguments columns files input arguments text

-- a kind of fault of wrong arguments: neither an answer nor out of memory
abbrev pub IsUsageKind : ErrorKind → Type 0
IsUsageKind k = (k ≢ kind.DisplayHelp) × (k ≢ kind.DisplayVersion) × (k ≢ kind.OutOfMemory)

-- wrong arguments: those that clap refuses, those that ask for nothing, those that ask for what there is not, also of statistics, of rows and of refusals, and those whose file of statistics has none of their plan
pub data IsUsageError (files : List ℕ → Stored) (input : Option (List ℕ)) (arguments : List (List ℕ)) : Type 0 where
  for_kind : (k : ErrorKind) → IsAmong k (faults_of (with_program_name arguments)) → IsUsageKind k → IsUsageError files input arguments
  for_nothing : faults_of (with_program_name arguments) ≡ [] → asked_by (with_program_name arguments) ≡ None → IsUsageError files input arguments
  for_no_task : (ask : Ask) → AsksFor arguments ask → IsNoTask ask → IsUsageError files input arguments
  for_no_stats : (word : List ℕ) → faults_of (with_program_name arguments) ≡ [] → stats_by (with_program_name arguments) ≡ Some word → stats_named word ≡ None → IsUsageError files input arguments
  for_no_layout : (word : List ℕ) → faults_of (with_program_name arguments) ≡ [] → layout_by (with_program_name arguments) ≡ Some word → names_layout word ≡ false → IsUsageError files input arguments
  for_unknown_errors : (word : List ℕ) → faults_of (with_program_name arguments) ≡ [] → unknown_errors_by (with_program_name arguments) ≡ Some word → IsUsageError files input arguments
  for_other_stats : (ask : Ask) → AsksFor arguments ask → LacksStats files input ask → IsUsageError files input arguments

-- what arguments ask for is refused with this refusal, or memory ran out
pub data ArgumentsRefuse (files : List ℕ → Stored) (reliable : List ℕ → Bool) (input : Option (List ℕ)) (failed : Bool) (arguments : List (List ℕ)) (e : Refusal) : Type 0 where
  arguments_memory : e ≡ refusal.NoMemory → ArgumentsRefuse files reliable input failed arguments e
  for_ask : (ask : Ask) → AsksFor arguments ask → AskRefuses files reliable input failed ask e → ArgumentsRefuse files reliable input failed arguments e

-- arguments ask for a check of all nodes of a plan of which some fail, with these lines
abbrev pub AsksForFailing : (List ℕ → Stored) → Option (List ℕ) → List (List ℕ) → List ℕ → Type 0
AsksForFailing files input arguments lines = (paths : Paths) × AsksFor arguments (check_all paths) × FailsAtAll files input paths lines

-- arguments ask for runs of several plans that stop at one of them, for this reason and with this text of the runs before it
abbrev pub AsksForStopped : Option ℕ → (List ℕ → Stored) → Option (List ℕ) → List (List ℕ) → List ℕ → Refusal → Type 0
AsksForStopped columns files input arguments text e = (ask : Ask) × AsksFor arguments ask × AskStops (layout_asked columns arguments) files input ask text e

-- arguments are refused by a refusal of this status
abbrev pub AreRefusedBy : ℕ → (List ℕ → Stored) → (List ℕ → Bool) → Option (List ℕ) → Bool → List (List ℕ) → Type 0
AreRefusedBy status files reliable input failed arguments = (e : Refusal) × (status_of e ≡ status) × ArgumentsRefuse files reliable input failed arguments e
