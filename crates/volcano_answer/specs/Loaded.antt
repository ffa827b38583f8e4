-- Several plans that are still to run, as they are held. `files` and `input` are as in `Files`.
use Rattle.std.specs.Prelude.{◌≡◌, ℕ, ◌++◌, List, length, map, Option, codes, string_bytes}
use Rattle.vx_catalog_relations.specs.Relation.{Relation}
use Rattle.vx_catalog_bytes.specs.Stored.{Stored}
use Rattle.volcano_arguments.specs.Asked.{Ask, ManyPaths, Given, run_plans}
use Rattle.volcano_stats.specs.Loads.{relations_of}
use Rattle.volcano_stats.specs.Phases.{phases_of}
use Rattle.volcano_stats.specs.Text.{shared_text}
use Rattle.volcano_stats.specs.declared.loads.LoadTime.{LoadTime}
use Rattle.volcano_stats.specs.declared.phases.PhaseTime.{PhaseTime}
use Rattle.volcano_tables.specs.Filled.{scanned_below}
use Rattle.volcano_tables.specs.Folder.{holds_at}
use Rattle.volcano_answer.specs.Arguments.{IsSetting}
use Rattle.volcano_answer.specs.Plans.{ArePlansAt, IsLoadedFor, any_scans}
use Rattle.volcano_answer.specs.PlansView.{named_is}
use Rattle.volcano_answer.specs.Stats.{shared_phases, if_asked}
use Rattle.volcano_answer.specs.declared.runs.LoadedPlans.{LoadedPlans}

-- these are the plans of the paths, over a database with the rows that the tables have of what they scan, and with what their statistics have in common
pub record AreLoadedPlans (files : List ℕ → Stored) (input : Option (List ℕ)) (paths : ManyPaths) (folder : List ℕ) (l : LoadedPlans) : Type 0 where
  pub relations : List Relation
  pub planned : ArePlansAt files input paths relations (map named_is l.plans.items)
  pub loaded : IsLoadedFor relations (map named_is l.plans.items) (holds_at files folder) l.database
  pub loads : List LoadTime
  pub each : relations_of loads ≡ scanned_below (any_scans (map named_is l.plans.items)) (length relations)
  pub times : List PhaseTime
  pub phases : phases_of times ≡ shared_phases
  pub shared : string_bytes l.common ≡ if_asked l.form (λ form. codes "# all plans\n" ++ shared_text form relations loads times)

-- these are the plans that arguments ask to be run, with the setting that they ask for
pub record AreAskedPlans (files : List ℕ → Stored) (input : Option (List ℕ)) (ask : Ask) (l : LoadedPlans) : Type 0 where
  pub paths : ManyPaths
  pub folder : List ℕ
  pub given : Given
  pub asked : ask ≡ run_plans paths folder given
  pub set : IsSetting given l.setting
  pub held : AreLoadedPlans files input paths folder l
