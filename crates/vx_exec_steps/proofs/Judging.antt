-- A verdict over one worker more.
use Rattle.std.proofs.Common.{ℕ, ◌≡◌, ◌<◌, ◌+◌, List, Option, Some, IsSome, refl, sym, ap, ◌∙◌, subst, arith, inl, inr}
use Rattle.std.proofs.Math.ListN.{get_or}
use Rattle.std.proofs.lemmas.Bool.{cases_eq}
use Rattle.vx_ops.specs.declared.fault.Fault.{Fault}
use Rattle.vx_ops.specs.declared.fault.Fault.TheVariants.{Own, Passed}
use Rattle.vx_worker.specs.Worker.{outcome_of}
use Rattle.vx_worker.specs.declared.worker.Worker.{Worker}
use Rattle.vx_worker.specs.declared.worker.WorkerOutcome.{WorkerOutcome}
use Rattle.vx_worker.specs.declared.worker.WorkerOutcome.TheVariants as worker_outcome
use Rattle.vx_exec_steps.specs.Verdicts.{IsOwn, JudgedBelow, with_outcome}
use Rattle.vx_exec_steps.specs.declared.verdict.RunState.{RunState}
use Rattle.vx_exec_steps.specs.declared.verdict.RunState.TheVariants as run_state

no-well : (f : Fault) → Some worker_outcome.Well ≡ Some (worker_outcome.Failed f) → ⊥
no-well f e = cc

fault-is : (f g : Fault) → Some (worker_outcome.Failed f) ≡ Some (worker_outcome.Failed g) → f ≡ g
fault-is f g e = cc

some-is : (o : Option WorkerOutcome) (x : WorkerOutcome) → o ≡ Some x → IsSome o
some-is o x e = subst (λ z. IsSome z) (sym e) refl

module _ {O S : Type 0} (ws : List (Worker O S)) (n : ℕ) where
  -- of a fact about each worker below n, and of worker n
  more : (P : ℕ → Option WorkerOutcome → Type 0) → ((k : ℕ) (d : Worker O S) → k < n → P k (outcome_of (get_or ws k d))) → (o : Option WorkerOutcome) → ((d : Worker O S) → outcome_of (get_or ws n d) ≡ o) → P n o
      → (k : ℕ) (d : Worker O S) → k < n + 1 → P k (outcome_of (get_or ws k d))
  more P h o at p k d lt = elim (cases_eq k n) [
    | inl e ↦ subst (λ z. P z (outcome_of (get_or ws z d))) (sym e) (subst (P n) (sym (at d)) p)
    | inr ne ↦ h k d (omega (arith, lt, ne))
  ]

  pub judged-more : (v : RunState) (x : WorkerOutcome) → JudgedBelow ws n v
      → ((d : Worker O S) → outcome_of (get_or ws n d) ≡ Some x) → JudgedBelow ws (n + 1) (with_outcome v x)
  judged-more run_state.Done worker_outcome.Well h e = more (λ k o. o ≡ Some worker_outcome.Well) h (Some worker_outcome.Well) e refl
  judged-more run_state.Done (worker_outcome.Failed f) h e = record {
    ended = more (λ k o. IsSome o) (λ k d lt. some-is (outcome_of (get_or ws k d)) worker_outcome.Well (h k d lt)) (Some (worker_outcome.Failed f)) e refl;
    number = n;
    within = omega arith;
    here = e;
    first = λ k d g lt own is. elim (cases_eq k n) [
      | inl z ↦
          let P : Fault → Type 0 = IsOwn in
          (subst P (sym (fault-is f g (sym (e d) ∙ ap (λ i. outcome_of (get_or ws i d)) (sym z) ∙ is))) own, omega (arith, z))
      | inr z ↦ absurd (no-well g (sym (h k d (omega (arith, lt, z))) ∙ is))
    ];
  }
  judged-more run_state.Unfinished x h e = absurd h
  judged-more (run_state.Failed f) worker_outcome.Well h e = record {
    ended = more (λ k o. IsSome o) h.ended (Some worker_outcome.Well) e refl;
    number = h.number;
    within = let l = h.within in omega (arith, l);
    here = h.here;
    first = λ k d g lt own is. elim (cases_eq k n) [
      | inl z ↦ absurd (no-well g (sym (e d) ∙ ap (λ i. outcome_of (get_or ws i d)) (sym z) ∙ is))
      | inr z ↦ h.first k d g (omega (arith, lt, z)) own is
    ];
  }
  judged-more (run_state.Failed (Own code node)) (worker_outcome.Failed f) h e = record {
    ended = more (λ k o. IsSome o) h.ended (Some (worker_outcome.Failed f)) e refl;
    number = h.number;
    within = let l = h.within in omega (arith, l);
    here = h.here;
    first = λ k d g lt own is. elim (cases_eq k n) [
      | inl z ↦ (tt, let l = h.within in omega (arith, l, z))
      | inr z ↦ h.first k d g (omega (arith, lt, z)) own is
    ];
  }
  judged-more (run_state.Failed Passed) (worker_outcome.Failed f) h e = record {
    ended = more (λ k o. IsSome o) h.ended (Some (worker_outcome.Failed f)) e refl;
    number = n;
    within = omega arith;
    here = e;
    first = λ k d g lt own is. elim (cases_eq k n) [
      | inl z ↦ (subst IsOwn (sym (fault-is f g (sym (e d) ∙ ap (λ i. outcome_of (get_or ws i d)) (sym z) ∙ is))) own, omega (arith, z))
      | inr z ↦ absurd (h.first k d g (omega (arith, lt, z)) own is).0
    ];
  }
