-- From one step's refusal to the refusal of the whole.
use Rattle.std.proofs.Common.{arith, ◌≡◌, ◌≢◌, ◌⊎◌, inl, inr, ◌∙◌, ℕ, List, Bool, Option, Result, Ok, Err, refl, sym, ap}
use Rattle.std.specs.Prelude.{IfOk, IfErr}
use Rattle.vx_catalog.specs.Database.{Database}
use Rattle.vx_plan_nodes.specs.Names.{TypedPlanView}
use Rattle.volcano_bundle.specs.declared.command.Command.TheVariants as command
use Rattle.volcano_refusals.specs.declared.refusal.Refusal.{Refusal}
use Rattle.volcano_refusals.specs.declared.refusal.Refusal.TheVariants as refusal
use Rattle.vx_exec_setup.specs.declared.fault.RunFault.{RunFault}
use Rattle.vx_exec_setup.specs.declared.fault.RunFault.TheVariants as run_fault
use Rattle.vx_exec_setup.specs.declared.setting.Mode.{Mode}
use Rattle.vx_exec_setup.specs.declared.setting.Mode.TheVariants as mode
use Rattle.vx_exec_runs.specs.Runs.{IsSetUp, RunFails}
use Rattle.vx_exec_runs.specs.Sizes.{Sizes}
use Rattle.vx_plan_nodes.specs.Workers.{worker_group_at}
use Rattle.vx_plan_nodes.specs.TypedView.{plan as whole_plan, resolved_of}
use Rattle.vx_plan_nodes.specs.declared.typed_plan.TypedPlan.{TypedPlan}
use Rattle.volcano_bundle.specs.Bundle.{Bundle}
use Rattle.vx_exec_setup.specs.Setting.{Setting}
use Rattle.volcano_refusals.specs.Status.{status_of}
use Rattle.volcano_tables.specs.Texts.{holds_in, lacks_in}
use Rattle.volcano_answer.specs.Commands.{Holding, Lacking, IsShown, IsDatabaseFor, RunRefuses, PlanRefuses, for_run, for_fault, for_threads, SerialRefuses, CommandRefuses, for_rest, for_serial}
use Rattle.vx_exec_runs.specs.Promise.{MayReport}
use Rattle.volcano_answer.specs.Answer.{IsBundlePlan, Refuses, for_plan_of, RefusedWith, IsRefusedBy}

pub run_refused : {T : Type 0} (r : Result T Refusal) (p : TypedPlanView) (holds : Holding) (lacks : Lacking) (s : Setting) (db : Database)
    → IsDatabaseFor p holds db → IfErr r (λ e. RunRefuses p db s e) → IfErr r (λ e. PlanRefuses p holds lacks s e)
run_refused (Ok x) p holds lacks s db there h = tt
run_refused (Err e) p holds lacks s db there h = for_run db there h

pub rest_refused : {T : Type 0} (r : Result T Refusal) (p : TypedPlanView) (holds : Holding) (lacks : Lacking) (s : Setting) → IsShown p
    → IfErr r (λ e. PlanRefuses p holds lacks s e) → IfErr r (λ e. CommandRefuses command.Run p holds lacks s e)
rest_refused (Ok x) p holds lacks s shown h = tt
rest_refused (Err e) p holds lacks s shown h = for_rest refl shown h

pub serial_refused : {T : Type 0} (r : Result T Refusal) (p : TypedPlanView) (holds : Holding) (lacks : Lacking) (s : Setting)
    → IfErr r (λ e. SerialRefuses p holds lacks e) → IfErr r (λ e. CommandRefuses command.Serial p holds lacks s e)
serial_refused (Ok x) p holds lacks s h = tt
serial_refused (Err e) p holds lacks s h = for_serial refl h

pub bundle_refused : {T : Type 0} (r : Result T Refusal) (b : Bundle) (p : TypedPlanView) → IsBundlePlan b p
    → IfErr r (λ e. CommandRefuses b.command p (holds_in b.tables) (lacks_in b.tables) b.setting e) → IfErr r (λ e. Refuses b e)
bundle_refused (Ok x) b p there h = tt
bundle_refused (Err e) b p there h = for_plan_of p there h

-- status 3 comes of no text that was written or not, and so of a refusal
pub refused_by : {T : Type 0} (X Y : Type 0) (known : Option (List ℕ)) (failed : Bool) (r : Result T Refusal) (n : ℕ)
    → IfOk r (λ x. n ≢ 0 → (n ≡ 4) × X) → IfErr r (λ e. (n ≡ status_of e) × Y) → IfErr r (λ e. RefusedWith known failed e)
    → n ≡ 3 → IsRefusedBy 3 known failed
refused_by X Y known failed (Ok x) n written refused h three =
    let four : n ≡ 4 = (written (λ z. absurd (omega (arith, z, three)))).0 in
    absurd (omega (arith, four, three))
refused_by X Y known failed (Err e) n written refused h three = (e, sym refused.0 ∙ three, h)

-- status 4 comes of a write that failed, or of a refusal
pub failed_by : {T : Type 0} (X Y : Type 0) (known : Option (List ℕ)) (failed : Bool) (r : Result T Refusal) (n : ℕ)
    → IfOk r (λ x. n ≢ 0 → (n ≡ 4) × X) → IfErr r (λ e. (n ≡ status_of e) × Y) → IfErr r (λ e. RefusedWith known failed e)
    → n ≡ 4 → X ⊎ IsRefusedBy 4 known failed
failed_by X Y known failed (Ok x) n written refused h four = inl (written (λ z. absurd (omega (arith, z, four)))).1
failed_by X Y known failed (Err e) n written refused h four = inr (e, sym refused.0 ∙ four, h)

-- only threads report what not any run does
by_threads : (m : Mode) (p : TypedPlan) (z : Sizes) (f : RunFault) → MayReport m (worker_group_at z.worker_groups) (whole_plan p) f → (m ≡ mode.Threads) × (f ≡ run_fault.NoThread)
by_threads mode.Rounds p z f h = absurd h
by_threads mode.Threads p z f h = (refl, h)

-- why a run gives no text, from the fault that it reports
pub fault_refused : (p : TypedPlan) (db : Database) (s : Setting) (f : RunFault)
    → RunFails (resolved_of p) db s.setup f ⊎ ((z : Sizes) × IsSetUp (resolved_of p) db s.setup z × MayReport s.mode (worker_group_at z.worker_groups) (whole_plan p) f)
    → RunRefuses (resolved_of p) db s (refusal.Run f)
fault_refused p db s f h = elim h [
  | inl fails ↦ for_fault f refl fails
  | inr other ↦ let t = by_threads s.mode p other.0 f other.2 in for_threads t.0 other.0 other.1 (ap refusal.Run t.1)
]

-- no refusal has the status 0
pub has_status : (e : Refusal) → status_of e ≡ 0 → ⊥
has_status e zero = grind arith
