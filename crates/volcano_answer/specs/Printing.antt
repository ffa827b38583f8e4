-- Runs of several plans that are printed one after the other: what was written, and why not all of it.
use Rattle.std.specs.Prelude.{◌≡◌, ℕ, List, Bool, true, Option}
use Rattle.std.specs.Io.KnownBytes.{Appends}
use Rattle.vx_catalog.specs.Database.{Database}
use Rattle.vx_exec_runs.specs.Promise.{Counting}
use Rattle.vx_exec_setup.specs.Setting.{Setting}
use Rattle.volcano_refusals.specs.declared.refusal.Refusal.{Refusal}
use Rattle.volcano_stats.specs.declared.text.StatsForm.{StatsForm}
use Rattle.volcano_answer.specs.declared.layouts.Layout.{Layout}
use Rattle.volcano_answer.specs.Commands.{IsRunOver, RunRefuses}
use Rattle.volcano_answer.specs.Plans.{NamedPlan, StopsAt}
use Rattle.volcano_answer.specs.Stats.{AreCountedRuns}
use Rattle.volcano_answer.specs.declared.plans.AcceptedPlan.{AcceptedPlan}
use Rattle.volcano_answer.specs.declared.printing.PrintFault.{PrintFault}
use Rattle.volcano_answer.specs.declared.printing.PrintFault.TheVariants as fault

-- the output got the answers of counted runs of these plans over a database, each behind the line with its path, and nothing else; with their statistics
pub record AreWritten (Counted : Counting) (layout : Layout) (f : Option StatsForm) (db : Database) (s : Setting) (ns : List AcceptedPlan) (before after : Option (List ℕ)) (stats : List ℕ) : Type 0 where
  pub text : List ℕ
  pub runs : AreCountedRuns Counted layout f db s ns text stats
  pub wrote : Appends before after text

-- a run is refused like this, and the output is as it was; or the output failed
abbrev pub IsEndedBy : (Refusal → Type 0) → (kept : Type 0) → (failed : Bool) → PrintFault → Type 0
IsEndedBy Refuses kept failed (fault.Refused e) = Refuses e × kept
IsEndedBy Refuses kept failed fault.WriteFailed = failed ≡ true

-- one of the plans is refused, and the output got the answers of those before it, and nothing else
pub record StopsAfter (layout : Layout) (db : Database) (s : Setting) (ns : List NamedPlan) (before after : Option (List ℕ)) (e : Refusal) : Type 0 where
  pub text : List ℕ
  pub stops : StopsAt (λ p own. IsRunOver layout p db s own) (λ p e. RunRefuses p db s e) ns text e
  pub wrote : Appends before after text

-- and it has not failed meanwhile; or it failed
abbrev pub StopsWith : Layout → Database → Setting → List NamedPlan → (before after : Option (List ℕ)) → (had_failed has_failed : Bool) → PrintFault → Type 0
StopsWith layout db s ns before after had_failed has_failed (fault.Refused e) = StopsAfter layout db s ns before after e × (has_failed ≡ had_failed)
StopsWith layout db s ns before after had_failed has_failed fault.WriteFailed = has_failed ≡ true
