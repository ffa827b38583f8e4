-- What is printed of runs of several plans answers them, and why less is printed.
use Rattle.std.proofs.Common.{◌≡◌, ℕ, List, ◌++◌, map, Bool, true, false, Option, Some, ap, subst, string_bytes}
use Rattle.vx_catalog_bytes.specs.Stored.{Stored}
use Rattle.vx_exec_runs.specs.Promise.{Counting}
use Rattle.volcano_arguments.specs.Asked.{Ask, ManyPaths}
use Rattle.volcano_refusals.specs.declared.refusal.Refusal.{Refusal}
use Rattle.volcano_stats.specs.declared.text.StatsForm.{StatsForm}
use Rattle.volcano_tables.specs.Folder.{holds_at}
use Rattle.volcano_answer.specs.CommandLine.{AnswersAsk, AnswersArguments, AsksFor, layout_asked, AskStops, AsksForStopped, for_runs, for_what_is_asked}
use Rattle.volcano_answer.specs.Commands.{IsRunOver, RunRefuses}
use Rattle.volcano_answer.specs.Files.{input_after}
use Rattle.volcano_answer.specs.Loaded.{AreLoadedPlans, AreAskedPlans}
use Rattle.volcano_answer.specs.Plans.{StopsAt}
use Rattle.volcano_answer.specs.PlansView.{named_is}
use Rattle.volcano_answer.specs.Stats.{AreCountedRuns, ArePlansStats, AreArgumentStats, for_several}
use Rattle.volcano_answer.specs.declared.layouts.Layout.{Layout}
use Rattle.volcano_answer.specs.declared.runs.LoadedPlans.{LoadedPlans}
use Rattle.volcano_answer.proofs.SharesFacts.{have_shares, stops_in}
use Rattle.volcano_answer.proofs.StatsTextFacts.{plans_stats}

-- what is reported of runs of plans that were loaded
plans_reported : (Counted : Counting) (layout : Layout) (files : List ℕ → Stored) (input : Option (List ℕ)) (paths : ManyPaths) (folder : List ℕ) (l : LoadedPlans) (text stats : List ℕ) → AreLoadedPlans files input paths folder l
    → AreCountedRuns Counted layout l.form l.database l.setting l.plans.items text stats → ArePlansStats Counted layout files input l.form paths folder l.setting text (stats ++ string_bytes l.common)
plans_reported Counted layout files input paths folder l text stats h runs = record {
  relations = h.relations;
  plans = l.plans.items;
  all = l.database;
  planned = h.planned;
  loaded = h.loaded;
  stats = stats;
  runs = runs;
  loads = h.loads;
  each = h.each;
  times = h.times;
  phases = h.phases;
  is = ap (λ (x : List ℕ). stats ++ x) h.shared;
}

-- what is printed answers the arguments
pub printed_answers : (Counted : Counting) (columns : Option ℕ) (files : List ℕ → Stored) (input : Option (List ℕ)) (arguments : List (List ℕ)) (l : LoadedPlans) (text stats : List ℕ)
    → (ask : Ask) × AsksFor arguments ask × AreAskedPlans files input ask l × (l.layout ≡ layout_asked columns arguments) → AreCountedRuns Counted l.layout l.form l.database l.setting l.plans.items text stats
    → AnswersArguments columns files input arguments text
printed_answers Counted columns files input arguments l text stats h runs =
    let is = h.2 in
    let layout = layout_asked columns arguments in
    let P : Layout → Type 0 = λ y. AreCountedRuns Counted y l.form l.database l.setting l.plans.items text stats in
    let reported = plans_reported Counted layout files input is.paths is.folder l text stats is.held (subst P h.3 runs) in
    for_what_is_asked h.0 h.1 (for_runs is.paths is.folder is.given l.setting is.asked is.set (plans_stats Counted layout files input l.form is.paths is.folder l.setting text (stats ++ string_bytes l.common) reported))

-- with statistics in the form that is asked for
pub printed_stats : (Counted : Counting) (columns : Option ℕ) (files : List ℕ → Stored) (input : Option (List ℕ)) (f : StatsForm) (arguments : List (List ℕ)) (l : LoadedPlans) (text stats : List ℕ)
    → (ask : Ask) × AsksFor arguments ask × AreAskedPlans files input ask l × (l.layout ≡ layout_asked columns arguments) → l.form ≡ Some f → AreCountedRuns Counted l.layout l.form l.database l.setting l.plans.items text stats
    → AreArgumentStats Counted columns files input f arguments text (stats ++ string_bytes l.common)
printed_stats Counted columns files input f arguments l text stats h form runs =
    let is = h.2 in
    let layout = layout_asked columns arguments in
    let Q : Layout → Type 0 = λ y. AreCountedRuns Counted y l.form l.database l.setting l.plans.items text stats in
    let P : Option StatsForm → Type 0 = λ o. ArePlansStats Counted layout files input o is.paths is.folder l.setting text (stats ++ string_bytes l.common) in
    record { ask = h.0; asked = h.1; reported = for_several is.paths is.folder is.given l.setting is.asked is.set (subst P form (plans_reported Counted layout files input is.paths is.folder l text stats is.held (subst Q h.3 runs))) }

-- where a run gives no text, the arguments ask for runs that stop there
pub printed_stops : (columns : Option ℕ) (files : List ℕ → Stored) (input : Option (List ℕ)) (arguments : List (List ℕ)) (l : LoadedPlans) (text : List ℕ) (e : Refusal)
    → (ask : Ask) × AsksFor arguments ask × AreAskedPlans files input ask l × (l.layout ≡ layout_asked columns arguments)
    → StopsAt (λ p own. IsRunOver l.layout p l.database l.setting own) (λ p e. RunRefuses p l.database l.setting e) (map named_is l.plans.items) text e → AsksForStopped columns files input arguments text e
printed_stops columns files input arguments l text e h stops =
    let is = h.2 in
    let held = is.held in
    let ns = map named_is l.plans.items in
    let P : Layout → Type 0 = λ y. StopsAt (λ p own. IsRunOver y p l.database l.setting own) (λ p e. RunRefuses p l.database l.setting e) ns text e in
    let shares = have_shares held.relations ns (holds_at files is.folder) l.database held.loaded files (input_after input is.paths.catalog) ns held.planned.accepted (λ i there. there) in
    let stopped = stops_in (layout_asked columns arguments) (holds_at files is.folder) l.database l.setting ns text e shares (subst P h.3 stops) in
    (h.0, h.1, (is.paths, is.folder, is.given, l.setting, is.asked, is.set, (held.relations, ns, l.database, held.planned, held.loaded, stopped)))

pub true_false : (b : Bool) → b ≡ true → b ≡ false → ⊥
true_false b is not = cc
