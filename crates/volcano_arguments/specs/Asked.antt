-- What the command-line arguments ask for: the commands and options that the program has, and what each comes to.
use Rattle.std.specs.Prelude.{ℕ, pos, Bool, List, [], ◌∷◌, Option, Some, None, map, option_map, option_and_then, bytes_eq, codes, true, false, if◌then◌else◌}
use Rattle.std.specs.Option.{option_map_or, is_some}
use Rattle.std.specs.Str.Parse.{digits_value, without_leading_plus}
use Rattle.clap.specs.Lexer.{usize_max}
use Rattle.clap.specs.Words.{App, Kinds, Row, Rule, Text, all_of, fault_of, first_of, new_app, new_rule, subcommand_of, with_rule, with_subcommand}
use Rattle.clap.specs.Simple.{on_top}
use Rattle.clap.specs.ValueTests.{is_unsigned_in}
use Rattle.clap.specs.declared.builder.action.ArgAction.TheVariants.{Append, SetTrue}
use Rattle.clap.specs.declared.builder.value_parser.ValueParser.TheVariants as parser
use Rattle.volcano_arguments.specs.declared.asked.Sources.{Sources}
use Rattle.volcano_arguments.specs.declared.asked.ManySources.{ManySources}
use Rattle.volcano_arguments.specs.declared.asked.RunArguments.{RunArguments}
use Rattle.volcano_arguments.specs.declared.asked.ErrorForm.{ErrorForm}
use Rattle.volcano_arguments.specs.declared.asked.ErrorForm.TheVariants as form
use Rattle.volcano_arguments.specs.declared.asked.Asked.{Asked}
use Rattle.volcano_arguments.specs.declared.asked.Asked.TheVariants as asked

-- an option with a value
abbrev pub named_rule : Text → Rule
named_rule name = record (new_rule name) { long = Some name; value_names = 1 }

-- an option with a path, which has to be given
abbrev pub path_rule : Text → Rule
path_rule name = record (named_rule name) { required = true }

-- the option of a plan where several may be given, one at least
abbrev pub plans_rule : Rule
plans_rule = record (path_rule (codes "plan")) { action = Some Append }

-- an option with a number of 32 bits, which has a default
abbrev pub number_rule : Text → Text → Rule
number_rule name default =
    record (named_rule name) { defaults = default ∷ []; parser = Some (parser.Signed (pos 0) (pos 4294967295)) }

-- the number of rows of a generated relation, a number of 64 bits, which has to be given
abbrev pub rows_rule : Rule
rows_rule = record (named_rule (codes "rows")) { required = true; parser = Some (parser.Unsigned 0 18446744073709551615) }

-- an option with a word, which has a default
abbrev pub word_rule : Text → Text → Rule
word_rule name default = record (named_rule name) { defaults = default ∷ [] }

-- an option without a value
abbrev pub flag_rule : Text → Rule
flag_rule name = record (new_rule name) { long = Some name; action = Some SetTrue }

-- the code of a refusal, an argument that has to be given
abbrev pub code_rule : Rule
code_rule = record (new_rule (codes "code")) { value_names = 1; required = true }

-- the arguments behind all options: each a size name with its number of workers
abbrev pub sizes_rule : Rule
sizes_rule = record (new_rule (codes "sizes")) { value_names = 1; range = Some (record { start_inclusive = 0; end_inclusive = usize_max }) }

-- the arguments behind all options: files, one at least
abbrev pub files_rule : Rule
files_rule = record (new_rule (codes "files")) { value_names = 1; required = true; range = Some (record { start_inclusive = 1; end_inclusive = usize_max }) }

-- a command that reads a catalog
abbrev pub reading_app : Text → App
reading_app name = with_rule (new_app name) (path_rule (codes "catalog"))

-- a command that reads a catalog and a plan alone
abbrev pub judging_app : Text → App
judging_app name = with_rule (reading_app name) (path_rule (codes "plan"))

-- a word for how a refusal is written, which need not be given
abbrev pub errors_rule : Rule
errors_rule = named_rule (codes "errors")

-- the same as the word `long`
abbrev pub verbose_rule : Rule
verbose_rule = flag_rule (codes "verbose-errors")

-- a command with both, which say how a refusal is written
abbrev pub with_reports : App → App
with_reports app = with_rule (with_rule app errors_rule) verbose_rule

-- how many threads load each table
abbrev pub threads_rule : Rule
threads_rule = number_rule (codes "threads") (codes "0")

-- the file of statistics that the picture of a plan shows, which need not be given
abbrev pub drawn_rule : Rule
drawn_rule = record (new_rule (codes "drawn")) { long = Some (codes "stats"); value_names = 1 }

-- the layout of rows
abbrev pub layout_rule : Rule
layout_rule = record (new_rule (codes "layout")) { long = Some (codes "format"); value_names = 1; defaults = codes "csv" ∷ [] }

-- the file that gets the rows, which need not be given; -o is short for it
abbrev pub output_rule : Rule
output_rule = record (named_rule (codes "output")) { short = Some 111 }

-- a command with both, which say how rows are written and where
abbrev pub with_rows : App → App
with_rows app = with_rule (with_rule app layout_rule) output_rule

abbrev pub serial_app : App
serial_app = with_reports (with_rows (with_rule (with_rule (with_rule (judging_app (codes "serial")) (path_rule (codes "data"))) threads_rule) (flag_rule (codes "quiet"))))

abbrev pub run_app : App
run_app =
    with_rule (with_reports (with_rows (with_rule (with_rule (with_rule (with_rule (with_rule (with_rule (with_rule (with_rule (with_rule (reading_app (codes "run")) plans_rule) (path_rule (codes "data")))
    (number_rule (codes "packet") (codes "256"))) (number_rule (codes "morsel") (codes "1024"))) (number_rule (codes "slack") (codes "8"))) (word_rule (codes "mode") (codes "rounds")))
    threads_rule) (flag_rule (codes "quiet"))) (word_rule (codes "stats") (codes "none"))))) sizes_rule

abbrev pub gen_app : App
gen_app = with_rows (with_rule (new_app (codes "gen")) rows_rule)

abbrev pub check_app : App
check_app = with_reports (with_rule (judging_app (codes "check")) (flag_rule (codes "all")))

abbrev pub explain_app : App
explain_app = with_reports (with_rule (with_rule (judging_app (codes "explain")) (word_rule (codes "format") (codes "text"))) drawn_rule)

abbrev pub annotate_app : App
annotate_app = with_reports (with_rule (judging_app (codes "annotate")) (flag_rule (codes "derive")))

abbrev pub sql_app : App
sql_app = with_reports (with_rule (judging_app (codes "sql")) (word_rule (codes "dialect") (codes "sqlite")))

abbrev pub catalog_app : App
catalog_app = with_rule (with_reports (with_rule (with_rule (new_app (codes "catalog")) threads_rule) (flag_rule (codes "quiet")))) files_rule

abbrev pub why_app : App
why_app = with_rule (new_app (codes "why")) code_rule

abbrev pub bundle_app : App
bundle_app = with_reports (with_rule (with_rule (new_app (codes "bundle")) threads_rule) (word_rule (codes "stats") (codes "none")))

-- the program without its commands, which has a version
abbrev pub program_app : App
program_app = on_top (λ s. record s { has_version = true }) (new_app (codes "volcano"))

-- the program
abbrev pub volcano_app : App
volcano_app =
    with_subcommand (with_subcommand (with_subcommand (with_subcommand (with_subcommand (with_subcommand (with_subcommand (with_subcommand (with_subcommand (with_subcommand program_app run_app.top)
    serial_app.top) check_app.top) explain_app.top) annotate_app.top) sql_app.top) catalog_app.top) why_app.top) gen_app.top) bundle_app.top

-- the paths of a catalog and of a plan
pub record Paths : Type 0 where
  pub catalog : Text
  pub plan : Text

-- the paths of a catalog and of several plans
pub record ManyPaths : Type 0 where
  pub catalog : Text
  pub plans : List Text

-- the texts of a run's numbers and of its mode, and its arguments NAME=N
pub record Given : Type 0 where
  pub packet : Text
  pub morsel : Text
  pub slack : Text
  pub mode : Text
  pub sizes : List Text

pub data Ask : Type 0 where
  bundle : Ask
  check : Paths → Ask
  check_all : Paths → Ask
  explain : Paths → (format : Text) → Ask
  draw : Paths → (stats : Text) → Ask
  annotate : Paths → (derive : Bool) → Ask
  sql : Paths → (dialect : Text) → Ask
  find_catalog : (files : List Text) → (quiet : Bool) → Ask
  why : (code : Text) → Ask
  serial : Paths → Text → Ask
  run : Paths → Text → Given → Ask
  run_plans : ManyPaths → Text → Given → Ask
  generate : ℕ → Ask

-- both options of a catalog and a plan
abbrev pub paths_of : List Row → Option Paths
paths_of rows = option_and_then (λ c. option_map (λ p. record { catalog = c; plan = p }) (first_of (codes "plan") rows)) (first_of (codes "catalog") rows)

-- the values of the arguments behind the options, none where there are none
abbrev pub sizes_of : List Row → List Text
sizes_of rows = option_map_or (λ ts. ts) (all_of (codes "sizes") rows) []

abbrev pub given_of : List Row → Option Given
given_of rows = option_and_then (λ p. option_and_then (λ m. option_and_then (λ s. option_map (λ w. record { packet = p; morsel = m; slack = s; mode = w; sizes = sizes_of rows })
    (first_of (codes "mode") rows)) (first_of (codes "slack") rows)) (first_of (codes "morsel") rows)) (first_of (codes "packet") rows)

abbrev pub serial_of : List Row → Option Ask
serial_of rows = option_and_then (λ p. option_map (serial p) (first_of (codes "data") rows)) (paths_of rows)

-- a run of one plan, or of several
abbrev pub run_for : Text → List Text → Text → Given → Ask
run_for catalog (plan ∷ []) folder given = run (record { catalog = catalog; plan = plan }) folder given
run_for catalog [] folder given = run_plans (record { catalog = catalog; plans = [] }) folder given
run_for catalog (plan ∷ next ∷ plans) folder given = run_plans (record { catalog = catalog; plans = plan ∷ next ∷ plans }) folder given

abbrev pub run_of : List Row → Option Ask
run_of rows = option_and_then (λ c. option_and_then (λ ps. option_and_then (λ d. option_map (run_for c ps d) (given_of rows)) (first_of (codes "data") rows)) (all_of (codes "plan") rows)) (first_of (codes "catalog") rows)

-- a check of all nodes if the flag is given, else of the plan up to its first refusal
abbrev pub check_of : List Row → Option Ask
check_of rows = option_and_then (λ p. option_map (λ all. if bytes_eq all (codes "true") then check_all p else check p) (first_of (codes "all") rows)) (paths_of rows)

-- a plan in this format, with the statistics of this file where one is given: they are drawn into a picture alone
abbrev pub explain_in : Paths → Text → Option Text → Option Ask
explain_in paths format None = Some (explain paths format)
explain_in paths format (Some stats) = if bytes_eq format (codes "dot") then Some (draw paths stats) else None

abbrev pub explain_of : List Row → Option Ask
explain_of rows = option_and_then (λ p. option_and_then (λ f. explain_in p f (first_of (codes "drawn") rows)) (first_of (codes "format") rows)) (paths_of rows)

-- a plan with the claims that follow, also by what is known of columns if the flag is given
abbrev pub annotate_of : List Row → Option Ask
annotate_of rows = option_and_then (λ p. option_map (λ derive. annotate p (bytes_eq derive (codes "true"))) (first_of (codes "derive") rows)) (paths_of rows)

abbrev pub sql_of : List Row → Option Ask
sql_of rows = option_and_then (λ p. option_map (sql p) (first_of (codes "dialect") rows)) (paths_of rows)

-- the catalog that is found in files, with nothing said beside it if the flag is given
abbrev pub find_of : List Row → Option Ask
find_of rows = option_and_then (λ fs. option_map (λ quiet. find_catalog fs (bytes_eq quiet (codes "true"))) (first_of (codes "quiet") rows)) (all_of (codes "files") rows)

-- the number of 64 bits that a text of digits is, behind a plus or not, if it is one
abbrev pub number_of : Text → Option ℕ
number_of text = if is_unsigned_in 0 18446744073709551615 text then Some (digits_value 10 (without_leading_plus text)) else None

abbrev pub generate_of : List Row → Option Ask
generate_of rows = option_map generate (option_and_then number_of (first_of (codes "rows") rows))

-- what a subcommand with these matches asks for; without one, a bundle
abbrev pub ask_of : Option (Text × List Row) → Option Ask
ask_of None = Some bundle
ask_of (Some p) =
    if bytes_eq p.0 (codes "run") then run_of p.1
    else if bytes_eq p.0 (codes "serial") then serial_of p.1
    else if bytes_eq p.0 (codes "check") then check_of p.1
    else if bytes_eq p.0 (codes "explain") then explain_of p.1
    else if bytes_eq p.0 (codes "annotate") then annotate_of p.1
    else if bytes_eq p.0 (codes "sql") then sql_of p.1
    else if bytes_eq p.0 (codes "catalog") then find_of p.1
    else if bytes_eq p.0 (codes "why") then option_map why (first_of (codes "code") p.1)
    else if bytes_eq p.0 (codes "gen") then generate_of p.1
    else if bytes_eq p.0 (codes "bundle") then Some bundle
    else None

-- how a refusal is written, by its name, if there is such a form
abbrev pub error_form_named : Text → Option ErrorForm
error_form_named word = if bytes_eq word (codes "short") then Some form.Short else if bytes_eq word (codes "long") then Some form.Long else if bytes_eq word (codes "json") then Some form.Json else None

-- in full if the flag is given
abbrev pub verbose_form : List Row → Option ErrorForm
verbose_form rows = if option_map_or (λ v. bytes_eq v (codes "true")) (first_of (codes "verbose-errors") rows) false then Some form.Long else None

-- how a subcommand with these matches is to write a refusal: as the word says, or the flag where there is no word
abbrev pub errors_of : Option (Text × List Row) → Option ErrorForm
errors_of None = None
errors_of (Some p) = option_map_or error_form_named (first_of (codes "errors") p.1) (verbose_form p.1)

-- a word that names no form
abbrev pub unless_named : Text → Option Text
unless_named word = if is_some (error_form_named word) then None else Some word

-- the word for how a refusal is written that these matches of a subcommand have, if it names no form
abbrev pub unknown_errors_of : Option (Text × List Row) → Option Text
unknown_errors_of None = None
unknown_errors_of (Some p) = option_and_then unless_named (first_of (codes "errors") p.1)

-- how many threads a subcommand with these matches is to load with, where it loads
abbrev pub threads_of : Option (Text × List Row) → Option ℕ
threads_of None = None
threads_of (Some p) = option_and_then number_of (first_of (codes "threads") p.1)

-- the format of statistics in these matches of a subcommand, where it has any
abbrev pub stats_of : Option (Text × List Row) → Option Text
stats_of None = None
stats_of (Some p) = first_of (codes "stats") p.1

-- the word for the layout of rows in these matches of a subcommand, where it writes any
abbrev pub layout_of : Option (Text × List Row) → Option Text
layout_of None = None
layout_of (Some p) = first_of (codes "layout") p.1

-- the path of the file that gets the rows, where these matches of a subcommand have one
abbrev pub output_of : Option (Text × List Row) → Option Text
output_of None = None
output_of (Some p) = first_of (codes "output") p.1

-- what the arguments ask for, the program's name first
unfoldable pub asked_by : List Text → Option Ask
asked_by arguments = ask_of (subcommand_of volcano_app arguments)

-- how they ask for a refusal to be written
unfoldable pub errors_by : List Text → Option ErrorForm
errors_by arguments = errors_of (subcommand_of volcano_app arguments)

-- their word for that, if it names no form
unfoldable pub unknown_errors_by : List Text → Option Text
unknown_errors_by arguments = unknown_errors_of (subcommand_of volcano_app arguments)

-- how many threads they ask to load with
unfoldable pub threads_by : List Text → Option ℕ
threads_by arguments = threads_of (subcommand_of volcano_app arguments)

-- the format of statistics that they ask for, where they ask for a run
unfoldable pub stats_by : List Text → Option Text
stats_by arguments = stats_of (subcommand_of volcano_app arguments)

-- their word for the layout of rows, where they ask for any
unfoldable pub layout_by : List Text → Option Text
layout_by arguments = layout_of (subcommand_of volcano_app arguments)

-- the path of the file that is to get the rows, if they name one
unfoldable pub output_by : List Text → Option Text
output_by arguments = output_of (subcommand_of volcano_app arguments)

-- the kinds that a refusal of the arguments may have; none if they are accepted
unfoldable pub faults_of : List Text → Kinds
faults_of arguments = fault_of volcano_app arguments

abbrev pub paths_are : Sources → Paths
paths_are s = record { catalog = s.catalog.now; plan = s.plan.now }

abbrev pub many_are : ManySources → ManyPaths
many_are s = record { catalog = s.catalog.now; plans = map (λ p. p.now) s.plans.items }

abbrev pub given_is : RunArguments → Given
given_is l = record { packet = l.packet.now; morsel = l.morsel.now; slack = l.slack.now; mode = l.mode.now; sizes = map (λ t. t.now) l.sizes.items }

abbrev pub asked_is : Asked → Ask
asked_is asked.Bundle = bundle
asked_is (asked.Check sources) = check (paths_are sources)
asked_is (asked.CheckAll sources) = check_all (paths_are sources)
asked_is (asked.Explain sources format) = explain (paths_are sources) format.now
asked_is (asked.Draw sources stats) = draw (paths_are sources) stats.now
asked_is (asked.Annotate sources derive) = annotate (paths_are sources) derive
asked_is (asked.Sql sources dialect) = sql (paths_are sources) dialect.now
asked_is (asked.Catalog files quiet) = find_catalog (map (λ f. f.now) files.items) quiet
asked_is (asked.Why code) = why code.now
asked_is (asked.Serial sources folder) = serial (paths_are sources) folder.now
asked_is (asked.Run sources folder given) = run (paths_are sources) folder.now (given_is given)
asked_is (asked.RunPlans sources folder given) = run_plans (many_are sources) folder.now (given_is given)
asked_is (asked.Generate rows) = generate rows
