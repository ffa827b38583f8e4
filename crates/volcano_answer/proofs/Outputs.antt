-- From what a command makes of a bundle's plan to the bundle's answer.
use Rattle.std.proofs.Common.{◌≡◌, ◌∙◌, List, [], ◌∷◌, ◌++◌, Option, Some, Result, Ok, Err, sym, subst, append_assoc, string_bytes, ℕ}
use Rattle.std.specs.Prelude.{IfOk}
use Rattle.vx_plan_nodes.specs.Names.{TypedPlanView}
use Rattle.vx_plan_nodes.specs.TypedView.{resolved_of}
use Rattle.vx_plan_nodes.specs.declared.typed_plan.TypedPlan.{TypedPlan}
use Rattle.volcano_refusals.specs.declared.refusal.Refusal.{Refusal}
use Rattle.volcano_bundle.specs.Bundle.{Bundle, bundle_of_text}
use Rattle.volcano_bundle.specs.declared.command.Command.TheVariants as command
use Rattle.vx_exec_runs.specs.Promise.{Counting}
use Rattle.volcano_stats.specs.declared.phases.WorkPhase.{WorkPhase}
use Rattle.volcano_stats.specs.declared.phases.WorkPhase.TheVariants as work_phase
use Rattle.volcano_stats.specs.declared.text.StatsForm.{StatsForm}
use Rattle.volcano_tables.specs.Texts.{holds_in}
use Rattle.volcano_answer.specs.Answer.{IsBundlePlan, IsOutput, AsksForRun}
use Rattle.volcano_answer.specs.Commands.{IsShown, IsResultOf}
use Rattle.volcano_answer.specs.Made.{text_in, IfRun}
use Rattle.volcano_answer.specs.Stats.{IsCountedPlan, IsBundleRun, AreBundleStats}
use Rattle.volcano_answer.specs.declared.layouts.Layout.{Layout}
use Rattle.volcano_answer.specs.declared.command.CommandAnswer.{CommandAnswer}
use Rattle.volcano_answer.specs.declared.command.CommandAnswer.TheVariants as made

pub outputs : (layout : Layout) (r : Result CommandAnswer Refusal) (b : Bundle) (p : TypedPlanView) → IsBundlePlan b p
    → IfOk r (λ a. IsResultOf layout b.command p (holds_in b.tables) b.setting (text_in a)) → IfOk r (λ a. IsOutput layout b (text_in a))
outputs layout (Ok a) b p there h = (p, there, h)
outputs layout (Err e) b p there h = tt

-- what these bytes ask for is asked for by the bundle that they are
pub runs_it : (bytes : List ℕ) (b : Bundle) (R : Type 0) → bundle_of_text bytes ≡ Some b → (b.command ≡ command.Run → R) → AsksForRun bytes → R
runs_it bytes b R is made asks =
    let same : ◌≡◌ {A = Option Bundle} (Some asks.0) (Some b) = sym asks.1 ∙ is in
    let one : asks.0 ≡ b = cc in
    let P : Bundle → Type 0 = λ x. x.command ≡ command.Run in
    made (subst P one asks.2)

module _ (Counted : Counting) (layout : Layout) where
  -- the run of a bundle's plan is the bundle's
  pub bundle_run : (f : Option StatsForm) (r : Result CommandAnswer Refusal) (b : Bundle) (p : TypedPlan) (before after : List WorkPhase) → IsBundlePlan b (resolved_of p)
      → after ≡ before ++ work_phase.Plan ∷ []
      → IfOk r (IfRun (λ k. (b.command ≡ command.Run) × IsShown (resolved_of p) × IsCountedPlan Counted layout f p (holds_in b.tables) b.setting (after ++ work_phase.Check ∷ []) k.text.items (string_bytes k.stats)))
      → IfOk r (IfRun (λ k. IsBundleRun Counted layout f b before k.text.items (string_bytes k.stats)))
  bundle_run f (Ok (made.Text text)) b p before after there is h = tt
  bundle_run f (Ok (made.Run k)) b p before after there is h = record {
    runs = h.0;
    plan = p;
    planned = there;
    shown = h.1;
    counted = subst (λ (phases : List WorkPhase). IsCountedPlan Counted layout f p (holds_in b.tables) b.setting phases k.text.items (string_bytes k.stats)) (append_assoc before (work_phase.Plan ∷ []) (work_phase.Check ∷ []))
        (subst (λ (phases : List WorkPhase). IsCountedPlan Counted layout f p (holds_in b.tables) b.setting (phases ++ work_phase.Check ∷ []) k.text.items (string_bytes k.stats)) is h.2);
  }
  bundle_run f (Err e) b p before after there is h = tt

  -- and that of these bytes
  pub bytes_run : (f : Option StatsForm) (r : Result CommandAnswer Refusal) (bytes : List ℕ) (b : Bundle) (start before : List WorkPhase) → bundle_of_text bytes ≡ Some b
      → start ≡ [] → before ≡ start ++ work_phase.Read ∷ []
      → IfOk r (IfRun (λ k. IsBundleRun Counted layout f b before k.text.items (string_bytes k.stats)))
      → IfOk r (IfRun (λ k. AreBundleStats Counted layout f bytes k.text.items (string_bytes k.stats)))
  bytes_run f (Ok (made.Text text)) bytes b start before is begins then h = tt
  bytes_run f (Ok (made.Run k)) bytes b start before is begins then h =
      let P : List WorkPhase → Type 0 = λ phases. IsBundleRun Counted layout f b phases k.text.items (string_bytes k.stats) in
      (b, is, subst (λ (phases : List WorkPhase). P (phases ++ work_phase.Read ∷ [])) begins (subst P then h))
  bytes_run f (Err e) bytes b start before is begins then h = tt
