-- The worked run that fails.
use Rattle.std.proofs.Common.{◌≡◌, ℕ, zero, suc, ◌==◌, false, cond, inl, inr, [], ◌∷◌, refl, ap, subst, arith, ne_eqb}
use Rattle.vx_plan_nodes.specs.Plan.{sum, group, plain}
use Rattle.vx_plan_nodes.specs.Streams.{across}
use Rattle.vx_morsel.specs.Draws.{times, once_below}
use Rattle.vx_ops.specs.Ledger.{Stream, Ledger, fresh, one_op, scan_op, OwnBlame, Abides}
use Rattle.vx_worker.specs.Fragment.{fragment}
use Rattle.vx_worker.specs.Trace.{failed, HasFailed}
use Rattle.vx_exchange_ends.specs.Tasks.{keep}
use Rattle.vx_ops.proofs.Turns.{ended-failed, same-fault}
use Rattle.vx_exec_laws.specs.Samples.{large, summing, summer, FailedRun}
use Rattle.vx_ops.specs.declared.fault.Code.TheVariants.{Overflow}
use Rattle.vx_ops.specs.declared.fault.Fault.{Fault}
use Rattle.vx_ops.specs.declared.fault.Fault.TheVariants.{Own}
use Rattle.vx_ops.specs.declared.fault.StreamState.TheVariants.{Ended, Failed}
use Rattle.vx_ops.specs.Begun.{all_of, begun_whole, begun_nothing}
use Rattle.vx_exec_laws.proofs.Decks.{past-once}

abbrev all_rows : Stream
all_rows = record { rows = large.db 0; over = Ended }

abbrev stopped : Stream
stopped = record { rows = []; over = Failed (Own Overflow 0) }

abbrev scanning : Ledger
scanning = record { left = all_rows; right = fresh; came = λ i. []; gave = all_rows }

abbrev grouping : Ledger
grouping = record { left = all_rows; right = fresh; came = λ i. []; gave = stopped }

abbrev nothing : Ledger
nothing = record { left = fresh; right = fresh; came = λ i. []; gave = fresh }

abides-group : Abides (one_op 0 (group plain [] (sum 0 ∷ []))) grouping
abides-group = record {
  before = begun_nothing (one_op 0 (group plain [] (sum 0 ∷ []))) grouping nothing []
      (record { left = record { rest = large.db 0; joined = refl }; right = all_of []; came = λ i. all_of [] }) refl refl;
  ended = λ e. absurd (not-ended e);
  passes = λ f e. absurd (ended-failed f e);
  tests = tt;
  holds_back = inr refl;
  blame = λ f e.
      let P : Fault → Type 0 = λ x. OwnBlame (one_op 0 (group plain [] (sum 0 ∷ []))) grouping x in
      inr (subst P (same-fault (Own Overflow 0) f e) (refl, refl, inl refl));
}
  where
    not-ended : Failed (Own Overflow 0) ≡ Ended → ⊥
    not-ended e = cc

failed-worker : HasFailed large (fragment large 0 summing) (keep []) (Own Overflow 0) summer
failed-worker = record {
  reads = record { scanned = λ n. all_rows; came = λ n i. [] };
  reads_begin = record {
    scanned = λ n. record { numbers = 0 ∷ []; begins = all_of (0 ∷ []); rows = refl; ended = λ e. (refl, refl); never_fails = λ f e. cc };
    came = λ n i. all_of [];
  };
  out = stopped;
  abides = (
    grouping,
    (scanning, record { scanned = refl; came = refl }, record { before = begun_whole scan_op scanning refl; ended = λ e. (refl, refl); passes = λ f e. e; tests = tt; holds_back = tt; blame = λ f e. inl e }, refl),
    abides-group,
    refl,
  );
  why = inl refl;
  stopped = λ j. refl;
}

drawn-once : (x : ℕ) → across 1 (λ w. times x (0 ∷ [])) ≡ once_below x 1
drawn-once zero = refl
drawn-once (suc x) =
    let a : (0 == suc x) ≡ false = ne_eqb 0 (suc x) (omega arith) in
    let c : ◌≡◌ {A = ℕ} (cond (0 == suc x) 1 0) 0 = ap (λ v. cond v 1 0) a in
    let z : once_below (suc x) 1 ≡ 0 = past-once (suc x) 1 (omega arith) in
    omega (arith, c, z)

pub failed-run : FailedRun
failed-run = (
  (failed (Own Overflow 0), failed-worker),
  λ w l. record { t = 1; rise = λ v k. (tt, tt); each = drawn-once; most = omega arith; ended = λ v k e. refl },
  refl,
)
