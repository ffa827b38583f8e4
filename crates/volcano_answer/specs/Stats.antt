-- Statistics of runs: which arguments ask for them, and what standard error gets behind the rows. `files` and `input` are as in `Files`.
use Rattle.std.specs.Prelude.{◌≡◌, ℕ, ◌++◌, List, [], ◌∷◌, map, Bool, true, false, not, Option, Some, None, IfSome, option_and_then, Ok, length, codes, string_bytes}
use Rattle.volcano_arguments.specs.Asked.{Ask, ManyPaths, Given, bundle, find_catalog, run, run_plans, stats_by}
use Rattle.volcano_bundle.specs.Bundle.{Bundle, bundle_of_text}
use Rattle.volcano_bundle.specs.declared.command.Command.TheVariants as command
use Rattle.vx_exec_setup.specs.Setting.{Setting}
use Rattle.vx_catalog_bytes.specs.Stored.{Stored}
use Rattle.vx_catalog.specs.Database.{Database}
use Rattle.vx_check_rules.specs.CheckedView.{typed_plan}
use Rattle.vx_plan_nodes.specs.ByteRouter.{byte_route}
use Rattle.vx_exec_runs.specs.Promise.{Counting}
use Rattle.vx_exec_runs.specs.Runs.{IsRunOf, IsSetUp}
use Rattle.vx_exec_runs.specs.Sizes.{Sizes}
use Rattle.vx_exec_setup.specs.declared.counts.WorkerCounts.{WorkerCounts}
use Rattle.vx_exec_runs.specs.declared.outcome.RunOutcome.TheVariants as run_outcome
use Rattle.vx_plan_nodes.specs.Outline.{columns}
use Rattle.vx_plan_nodes.specs.TypedView.{scope, plan as whole_plan, resolved_of}
use Rattle.vx_plan_nodes.specs.declared.typed_plan.TypedPlan.{TypedPlan}
use Rattle.vx_catalog_relations.specs.Relation.{Relation}
use Rattle.vx_rows.specs.View.{RowsView}
use Rattle.volcano_stats.specs.Phases.{phases_of}
use Rattle.volcano_stats.specs.Loads.{relations_of}
use Rattle.volcano_stats.specs.declared.loads.LoadTime.{LoadTime}
use Rattle.volcano_stats.specs.Text.{plan_text, lone_text, shared_text, write_end}
use Rattle.volcano_stats.specs.declared.phases.WorkPhase.{WorkPhase}
use Rattle.volcano_stats.specs.declared.phases.WorkPhase.TheVariants as work_phase
use Rattle.volcano_stats.specs.declared.phases.PhaseTime.{PhaseTime}
use Rattle.volcano_stats.specs.declared.text.StatsForm.{StatsForm}
use Rattle.volcano_tables.specs.Filled.{scans, scanned_below}
use Rattle.volcano_tables.specs.Folder.{holds_at}
use Rattle.volcano_tables.specs.Texts.{holds_in}
use Rattle.volcano_answer.specs.Answer.{IsBundlePlan, AsksForRun}
use Rattle.volcano_answer.specs.Arguments.{IsSetting}
use Rattle.volcano_answer.specs.CommandLine.{FileCommand, IsTask, with_program_name, layout_asked, AsksFor}
use Rattle.volcano_answer.specs.Commands.{Holding, IsShown, IsDatabaseFor}
use Rattle.volcano_answer.specs.Files.{IsFilesPlan}
use Rattle.volcano_answer.specs.Plans.{ArePlansAt, IsLoadedFor, any_scans, title}
use Rattle.volcano_answer.specs.PlansView.{named_is}
use Rattle.volcano_answer.specs.declared.layouts.Layout.{Layout}
use Rattle.volcano_answer.specs.Layouts.{rows_text}
use Rattle.volcano_answer.specs.StatsNames.{stats_named}
use Rattle.volcano_answer.specs.declared.plans.AcceptedPlan.{AcceptedPlan}

-- the form of statistics that a word asks for, if there is one; none where it asks for none, or for what there is not
abbrev pub stats_of_word : Option (List ℕ) → Option StatsForm
stats_of_word word = option_and_then (λ w. option_and_then (λ f. f) (stats_named w)) word

-- the form of statistics that arguments ask for
abbrev pub stats_asked : List (List ℕ) → Option StatsForm
stats_asked arguments = stats_of_word (stats_by (with_program_name arguments))

-- what is asked for may be a run, or several: of a bundle its command says
abbrev pub may_run : Ask → Bool
may_run bundle = true
may_run (run paths folder given) = true
may_run (run_plans paths folder given) = true
may_run _ = false

-- what is asked for is no run, and no catalog that is found in files
abbrev pub is_plain : Ask → Bool
is_plain (find_catalog paths quiet) = false
is_plain ask = not (may_run ask)

-- what is asked for is a run, or several
abbrev pub AsksForRuns : Option (List ℕ) → Ask → Type 0
AsksForRuns input bundle = (bytes : List ℕ) × (input ≡ Some bytes) × AsksForRun bytes
AsksForRuns input (run paths folder given) = Unit {0}
AsksForRuns input (run_plans paths folder given) = Unit {0}
AsksForRuns input _ = ⊥

-- the phases of what several plans have in common, before the write
abbrev pub shared_phases : List WorkPhase
shared_phases = work_phase.Catalog ∷ work_phase.Plans ∷ work_phase.Load ∷ []

-- this text in the form of statistics that is asked for; where none is, nothing
abbrev pub if_asked : Option StatsForm → (StatsForm → List ℕ) → List ℕ
if_asked None text = []
if_asked (Some f) text = text f

-- `Counted` says what the engine promises of the counts of its runs' workers. Where no form `f` of statistics is asked for, nothing is said of counts, and there are no statistics
module _ (Counted : Counting) (layout : Layout) where
  -- the text is that of the rows of a run of this plan over this database, as in `IsRunOver`, and the workers of that run counted this
  pub record IsCountedRun (f : Option StatsForm) (p : TypedPlan) (db : Database) (setting : Setting) (text : List ℕ) (ws : List WorkerCounts) : Type 0 where
    pub rows : RowsView
    pub sizes : Sizes
    pub set : IsSetUp (resolved_of p) db setting.setup sizes
    pub run : IsRunOf byte_route (resolved_of p) db sizes.worker_groups rows
    pub is : text ≡ rows_text layout (columns (resolved_of p).root).names rows.rows
    pub counted : IfSome f (λ _. Counted setting.mode p db sizes (Ok (run_outcome.Done rows)) ws)

  -- statistics, up to the time of the write, of a counted run of this plan over the tables, with this text; these phases came before, and each relation that the plan scans was loaded
  pub record IsCountedPlan (f : Option StatsForm) (p : TypedPlan) (holds : Holding) (setting : Setting) (before : List WorkPhase) (text opening : List ℕ) : Type 0 where
    pub db : Database
    pub counts : List WorkerCounts
    pub loads : List LoadTime
    pub times : List PhaseTime
    pub loaded : IsDatabaseFor (resolved_of p) holds db
    pub each : relations_of loads ≡ scanned_below (scans (whole_plan p)) (length (scope p).catalog)
    pub run : IsCountedRun f p db setting text counts
    pub phases : phases_of times ≡ before ++ (work_phase.Load ∷ work_phase.Run ∷ [])
    pub is : opening ≡ if_asked f (λ form. lone_text form p counts loads times)

  -- the same of a run that arguments ask for: the phases are read, plan, check, load and run
  pub record AreTaskStats (files : List ℕ → Stored) (input : Option (List ℕ)) (f : Option StatsForm) (t : FileCommand) (text opening : List ℕ) : Type 0 where
    pub plan : TypedPlan
    pub planned : IsFilesPlan files input t.paths (resolved_of plan)
    pub shown : IsShown (resolved_of plan)
    pub counted : IsCountedPlan f plan (holds_at files t.folder) t.setting (work_phase.Read ∷ work_phase.Plan ∷ work_phase.Check ∷ []) text opening

  -- the same of the run that a bundle asks for: these phases came before, then plan, check, load and run
  pub record IsBundleRun (f : Option StatsForm) (b : Bundle) (before : List WorkPhase) (text opening : List ℕ) : Type 0 where
    pub runs : b.command ≡ command.Run
    pub plan : TypedPlan
    pub planned : IsBundlePlan b (resolved_of plan)
    pub shown : IsShown (resolved_of plan)
    pub counted : IsCountedPlan f plan (holds_in b.tables) b.setting (before ++ (work_phase.Plan ∷ work_phase.Check ∷ [])) text opening

  -- and of the bundle in these bytes, which were read before
  abbrev pub AreBundleStats : Option StatsForm → (bytes text opening : List ℕ) → Type 0
  AreBundleStats f bytes text opening = (b : Bundle) × (bundle_of_text bytes ≡ Some b) × IsBundleRun f b (work_phase.Read ∷ []) text opening

  -- to a text and to statistics came those of one more counted run, each behind the line with its path
  pub record IsRunMore (f : Option StatsForm) (db : Database) (setting : Setting) (n : AcceptedPlan) (text stats grown reported : List ℕ) : Type 0 where
    pub own : List ℕ
    pub counts : List WorkerCounts
    pub time : PhaseTime
    pub run : IsCountedRun f (typed_plan n.plan) db setting own counts
    pub timed : time.phase ≡ work_phase.Run
    pub text_is : grown ≡ text ++ (title (string_bytes n.path) ++ own)
    pub stats_are : reported ≡ stats ++ if_asked f (λ form. title (string_bytes n.path) ++ plan_text form (typed_plan n.plan) counts time)

  -- the text is that of counted runs of these plans over a database, each behind the line with its path, and so are the statistics
  abbrev pub AreCountedRuns : Option StatsForm → Database → Setting → List AcceptedPlan → List ℕ → List ℕ → Type 0
  AreCountedRuns f db setting [] text stats = (text ≡ []) × (stats ≡ [])
  AreCountedRuns f db setting (n ∷ ns) text stats =
      (first : List ℕ) × (reported : List ℕ) × (rest : List ℕ) × (more : List ℕ) × IsRunMore f db setting n [] [] first reported × AreCountedRuns f db setting ns rest more
      × (text ≡ first ++ rest) × (stats ≡ reported ++ more)

  -- statistics, up to the time of the write, of counted runs of all plans of these paths over one database, with this text
  pub record ArePlansStats (files : List ℕ → Stored) (input : Option (List ℕ)) (f : Option StatsForm) (paths : ManyPaths) (folder : List ℕ) (setting : Setting) (text opening : List ℕ) : Type 0 where
    pub relations : List Relation
    pub plans : List AcceptedPlan
    pub all : Database
    pub planned : ArePlansAt files input paths relations (map named_is plans)
    pub loaded : IsLoadedFor relations (map named_is plans) (holds_at files folder) all
    pub stats : List ℕ
    pub runs : AreCountedRuns f all setting plans text stats
    pub loads : List LoadTime
    pub each : relations_of loads ≡ scanned_below (any_scans (map named_is plans)) (length relations)
    pub times : List PhaseTime
    pub phases : phases_of times ≡ shared_phases
    pub is : opening ≡ stats ++ if_asked f (λ form. codes "# all plans\n" ++ shared_text form relations loads times)

  -- statistics, up to the time of the write, of the runs that are asked for, with this text
  pub data AreAskStats (files : List ℕ → Stored) (input : Option (List ℕ)) (f : StatsForm) (ask : Ask) (text opening : List ℕ) : Type 0 where
    for_bundle_run : ask ≡ bundle → IfSome input (λ bytes. AreBundleStats (Some f) bytes text opening) → AreAskStats files input f ask text opening
    for_one : (t : FileCommand) → IsTask ask t → t.command ≡ command.Run → AreTaskStats files input (Some f) t text opening → AreAskStats files input f ask text opening
    for_several : (paths : ManyPaths) (folder : List ℕ) (given : Given) (s : Setting) → ask ≡ run_plans paths folder given → IsSetting given s → ArePlansStats files input (Some f) paths folder s text opening
        → AreAskStats files input f ask text opening

-- the same of what arguments ask for, with rows in the layout that they ask for, on a screen of so many columns if that is known
module _ (Counted : Counting) (columns : Option ℕ) where
  -- statistics, up to the time of the write
  pub record AreArgumentStats (files : List ℕ → Stored) (input : Option (List ℕ)) (f : StatsForm) (arguments : List (List ℕ)) (text opening : List ℕ) : Type 0 where
    pub ask : Ask
    pub asked : AsksFor arguments ask
    pub reported : AreAskStats Counted (layout_asked columns arguments) files input f ask text opening

  -- and all of the statistics, with the time of the write
  pub record AreStatsOf (files : List ℕ → Stored) (input : Option (List ℕ)) (f : StatsForm) (arguments : List (List ℕ)) (text stats : List ℕ) : Type 0 where
    pub opening : List ℕ
    pub reports : AreArgumentStats files input f arguments text opening
    pub time : Option ℕ
    pub is : stats ≡ opening ++ write_end f time
