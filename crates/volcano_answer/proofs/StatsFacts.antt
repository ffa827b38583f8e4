-- Counted runs: what they answer, and why they have no answer.
use Rattle.std.proofs.Common.{◌≡◌, ◌⊎◌, ◌∙◌, ℕ, ◌+◌, ◌<◌, List, [], ◌∷◌, ◌++◌, map, take, length, get_or, Bool, Option, Some, None, option_map, Result, Ok, Err, refl, sym, ap, subst, inl, inr, append_assoc, string_bytes}
use Rattle.std.proofs.lemmas.List.{append-nil, take_more}
use Rattle.std.specs.Prelude.{IfSome, IfOk, IfErr}
use Rattle.volcano_arguments.specs.Asked.{Paths}
use Rattle.volcano_bundle.specs.declared.command.Command.TheVariants as command
use Rattle.vx_exec_runs.specs.Promise.{Counting}
use Rattle.vx_exec_setup.specs.Setting.{Setting}
use Rattle.vx_catalog_bytes.specs.Stored.{Stored}
use Rattle.vx_catalog.specs.Database.{Database}
use Rattle.vx_check_rules.specs.CheckedView.{typed_plan}
use Rattle.vx_plan_nodes.specs.Names.{TypedPlanView}
use Rattle.vx_plan_nodes.specs.TypedView.{resolved_of}
use Rattle.volcano_refusals.specs.declared.refusal.Refusal.{Refusal}
use Rattle.volcano_refusals.specs.declared.refusal.Refusal.TheVariants as refusal
use Rattle.vx_plan_nodes.specs.declared.typed_plan.TypedPlan.{TypedPlan}
use Rattle.volcano_stats.specs.Text.{plan_text}
use Rattle.volcano_stats.specs.declared.phases.WorkPhase.{WorkPhase}
use Rattle.volcano_stats.specs.declared.phases.WorkPhase.TheVariants as work_phase
use Rattle.volcano_stats.specs.declared.text.StatsForm.{StatsForm}
use Rattle.volcano_tables.specs.Folder.{holds_at}
use Rattle.volcano_answer.specs.CommandLine.{FileCommand, AnswersTask, TaskRefuses, task_memory, for_planning}
use Rattle.volcano_answer.specs.Commands.{Holding, Lacking, IsShown, IsRun, IsRunOver, PlanRefuses, CommandRefuses, for_rest, command_memory}
use Rattle.volcano_answer.specs.Files.{IsFilesPlan, IsFilesRefusal}
use Rattle.volcano_answer.specs.Plans.{AreAnswers, title}
use Rattle.volcano_answer.specs.PlansView.{named_is}
use Rattle.volcano_answer.specs.Stats.{if_asked, IsCountedRun, IsCountedPlan, AreTaskStats, IsRunMore, AreCountedRuns}
use Rattle.volcano_answer.specs.declared.layouts.Layout.{Layout}
use Rattle.volcano_answer.specs.declared.plans.AcceptedPlan.{AcceptedPlan}
use Rattle.volcano_answer.specs.declared.stats.RunReport.{RunReport}

-- and so the command is
pub rest_refused_or : {T : Type 0} (r : Result T Refusal) (p : TypedPlanView) (holds : Holding) (lacks : Lacking) (s : Setting) → IsShown p
    → IfErr r (λ e. (e ≡ refusal.NoMemory) ⊎ PlanRefuses p holds lacks s e) → IfErr r (λ e. CommandRefuses command.Run p holds lacks s e)
rest_refused_or (Ok x) p holds lacks s shown h = tt
rest_refused_or (Err e) p holds lacks s shown h = elim h [
  | inl m ↦ command_memory m
  | inr k ↦ for_rest refl shown k
]

-- memory ran out, or there is no plan
pub planning_refused_or : (files : List ℕ → Stored) (reliable : List ℕ → Bool) (input : Option (List ℕ)) (failed : Bool) (t : FileCommand) (e : Refusal)
    → (e ≡ refusal.NoMemory) ⊎ IsFilesRefusal files reliable input failed t.paths e → TaskRefuses files reliable input failed t e
planning_refused_or files reliable input failed t e h = elim h [
  | inl m ↦ task_memory m
  | inr k ↦ for_planning k
]

module _ (Counted : Counting) (layout : Layout) where
  -- a counted run is a run
  pub is_run_over : (f : Option StatsForm) (n : AcceptedPlan) (db : Database) (s : Setting) (text : List ℕ) (ws : List _) → IsCountedRun Counted layout f (typed_plan n.plan) db s text ws → IsRunOver layout (named_is n).plan db s text
  is_run_over f n db s text ws h = (h.rows, h.sizes, h.set, h.run, h.is)

  -- a run of a plan over tables answers it, whatever is reported of it
  pub is_run : (f : Option StatsForm) (p : TypedPlan) (holds : Holding) (s : Setting) (before : List WorkPhase) (text stats : List ℕ) → IsCountedPlan Counted layout f p holds s before text stats
      → IsRun layout (resolved_of p) holds s text
  is_run f p holds s before text stats h = (h.db, h.loaded, (h.run.rows, h.run.sizes, h.run.set, h.run.run, h.run.is))

  -- what is reported of a task answers it
  pub stats_answer : (files : List ℕ → Stored) (input : Option (List ℕ)) (f : Option StatsForm) (paths : Paths) (folder : List ℕ) (s : Setting) (text opening : List ℕ)
      → AreTaskStats Counted layout files input f (record { command = command.Run; paths = paths; folder = folder; setting = s }) text opening
      → AnswersTask layout files input (record { command = command.Run; paths = paths; folder = folder; setting = s }) text
  stats_answer files input f paths folder s text opening h =
      let run = h.counted.run in
      (resolved_of h.plan, h.planned, (h.shown, (h.counted.db, h.counted.loaded, (run.rows, run.sizes, run.set, run.run, run.is))))

  -- the texts of counted runs are answers
  pub counted_answers : (f : Option StatsForm) (db : Database) (s : Setting) (ns : List AcceptedPlan) (text stats : List ℕ) → AreCountedRuns Counted layout f db s ns text stats
      → AreAnswers (λ p own. IsRunOver layout p db s own) (map named_is ns) text
  counted_answers f db s [] text stats h = h.0
  counted_answers f db s (n ∷ ns) text stats h =
      let first = h.4 in
      let is : text ≡ title (string_bytes n.path) ++ (first.own ++ h.2) = h.6 ∙ ap (λ t. t ++ h.2) first.text_is ∙ append_assoc (title (string_bytes n.path)) first.own h.2 in
      (first.own, h.2, is_run_over f n db s first.own first.counts first.run, counted_answers f db s ns h.2 h.3 h.5, is)

  -- one counted run more
  counted_more : (f : Option StatsForm) (db : Database) (s : Setting) (ns : List AcceptedPlan) (n : AcceptedPlan) (text stats own reported : List ℕ) → AreCountedRuns Counted layout f db s ns text stats
      → IsRunMore Counted layout f db s n [] [] own reported → AreCountedRuns Counted layout f db s (ns ++ n ∷ []) (text ++ own) (stats ++ reported)
  counted_more f db s [] n text stats own reported h more =
      (own, reported, [], [], more, (refl, refl), ap (λ t. t ++ own) h.0 ∙ sym (append-nil own), ap (λ t. t ++ reported) h.1 ∙ sym (append-nil reported))
  counted_more f db s (m ∷ ms) n text stats own reported h more =
      (h.0, h.1, h.2 ++ own, h.3 ++ reported, h.4, counted_more f db s ms n h.2 h.3 own reported h.5 more, ap (λ t. t ++ own) h.6 ∙ append_assoc h.0 h.2 own, ap (λ t. t ++ reported) h.7 ∙ append_assoc h.1 h.3 reported)

  -- the first plans, and one more
  pub counted_grow : (f : Option StatsForm) (db : Database) (s : Setting) (ns : List AcceptedPlan) (i : ℕ) (d n : AcceptedPlan) (text stats grown reported : List ℕ) → i < length ns → n ≡ get_or ns i d
      → AreCountedRuns Counted layout f db s (take i ns) text stats → IsRunMore Counted layout f db s n text stats grown reported → AreCountedRuns Counted layout f db s (take (i + 1) ns) grown reported
  counted_grow f db s ns i d n text stats grown reported there at h more =
      let own = title (string_bytes n.path) ++ more.own in
      let tale = if_asked f (λ form. title (string_bytes n.path) ++ plan_text form (typed_plan n.plan) more.counts more.time) in
      let alone : IsRunMore Counted layout f db s n [] [] own tale = record {
        own = more.own;
        counts = more.counts;
        time = more.time;
        run = more.run;
        timed = more.timed;
        text_is = refl;
        stats_are = refl;
      } in
      let all = counted_more f db s (take i ns) n text stats own tale h alone in
      let taken : take (i + 1) ns ≡ take i ns ++ n ∷ [] = take_more ns i d there ∙ ap (λ x. take i ns ++ x ∷ []) (sym at) in
      subst (λ ms. AreCountedRuns Counted layout f db s ms grown reported) (sym taken)
      (subst (λ t. AreCountedRuns Counted layout f db s (take i ns ++ n ∷ []) t reported) (sym more.text_is) (subst (λ t. AreCountedRuns Counted layout f db s (take i ns ++ n ∷ []) (text ++ own) t) (sym more.stats_are) all))

  -- what is reported of a run of this plan is reported of the task
  pub task_stats : (files : List ℕ → Stored) (input : Option (List ℕ)) (f : Option StatsForm) (t : FileCommand) (p : TypedPlan) (r : Result RunReport Refusal) → IsFilesPlan files input t.paths (resolved_of p)
      → IfOk r (λ k. IsShown (resolved_of p))
      → IfOk r (λ k. IsCountedPlan Counted layout f p (holds_at files t.folder) t.setting (work_phase.Read ∷ work_phase.Plan ∷ work_phase.Check ∷ []) k.text.items (string_bytes k.stats))
      → IfOk r (λ k. AreTaskStats Counted layout files input f t k.text.items (string_bytes k.stats))
  task_stats files input f t p (Ok k) planned shown reported = record { plan = p; planned = planned; shown = shown; counted = reported }
  task_stats files input f t p (Err e) planned shown reported = tt

-- what is wanted where statistics are asked for holds there
pub where_asked : (f : Option StatsForm) (W X : Type 0) → IfSome f (λ _. W) → (W → X) → IfSome f (λ _. X)
where_asked None W X wanted h = tt
where_asked (Some form) W X wanted h = h wanted

-- all that was seen since nothing had been
pub seen_all : (before after more : List ℕ) → before ≡ [] → Some after ≡ option_map (λ rs. rs ++ more) (Some before) → after ≡ more
seen_all before after more none is =
    let P : List ℕ → Type 0 = λ b. ◌≡◌ {A = Option (List ℕ)} (Some after) (Some (b ++ more)) in
    let e : ◌≡◌ {A = Option (List ℕ)} (Some after) (Some more) = subst P none is in
    cc

-- what was added first, and then behind it
pub added_twice : {A : Type 0} (start once twice first second : List A) → once ≡ start ++ first → twice ≡ once ++ second → twice ≡ start ++ (first ++ second)
added_twice start once twice first second one two = two ∙ ap (λ x. x ++ second) one ∙ append_assoc start first second

-- three phases, one after the other
pub three_phases : (none one two three : List WorkPhase) (p q r : WorkPhase) → none ≡ [] → one ≡ none ++ p ∷ [] → two ≡ one ++ q ∷ [] → three ≡ two ++ r ∷ [] → three ≡ p ∷ q ∷ r ∷ []
three_phases none one two three p q r begins first second third =
    third ∙ ap (λ x. x ++ r ∷ []) (second ∙ ap (λ x. x ++ q ∷ []) (first ∙ ap (λ x. x ++ p ∷ []) begins))
