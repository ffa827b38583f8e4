-- Turns of an operator that answers each batch as it comes.
use Rattle.std.proofs.Common.{◌≡◌, ℕ, List, [], ◌++◌, Some, Bool, true, false, refl, sym, ap, ◌∙◌, subst, inl, inr, append_assoc, append-nil}
use Rattle.vx_rows_values.specs.Values.{Row}
use Rattle.vx_rows.specs.Lists.{IsBeginning}
use Rattle.vx_plan_nodes.specs.Plan.{Unary, select, project, distinct, sort, group, limit}
use Rattle.vx_plan_nodes.specs.Serial.{unary_rows}
use Rattle.vx_ops.specs.Ledger.{Ledger, one_op, HoldsBack, Begun, OwnBlame}
use Rattle.vx_ops.specs.Begun.{begun_whole}
use Rattle.vx_ops.specs.declared.fault.Code.TheVariants.{Overflow, NoMemory}
use Rattle.vx_ops.specs.declared.fault.Fault.{Fault}
use Rattle.vx_ops.specs.declared.fault.Fault.TheVariants.{Own}
use Rattle.vx_ops.specs.declared.fault.StreamState.{StreamState}
use Rattle.vx_ops.specs.declared.fault.StreamState.TheVariants.{Running, Ended, Failed}
use Rattle.vx_ops.specs.StepKernel.{StepOverflows}
use Rattle.vx_ops.specs.Stepping.{IsStepped}
use Rattle.vx_ops.proofs.Turns.{with_refusal, running-ended, running-failed, ended-failed, failed-ended, failed-running, ended-running, same-fault, own-memory}

-- the ledger after a batch came and some rows were returned
abbrev pub with_rows : Ledger → List Row → List Row → Ledger
with_rows l xs ys = record l { left = record { rows = l.left.rows ++ xs; over = l.left.over }; gave = record { rows = l.gave.rows ++ ys; over = l.gave.over } }

-- after a batch came, and none were returned
abbrev pub with_batch : Ledger → List Row → Ledger
with_batch l xs = record l { left = record { rows = l.left.rows ++ xs; over = l.left.over } }

-- after the input ended or failed, and so did the operator
abbrev pub with_over : Ledger → StreamState → Ledger
with_over l o = record l { left = record { rows = l.left.rows; over = o }; gave = record { rows = l.gave.rows; over = o } }

-- after the input stands so, and the operator so
abbrev pub with_ends : Ledger → StreamState → StreamState → Ledger
with_ends l o p = record l { left = record { rows = l.left.rows; over = o }; gave = record { rows = l.gave.rows; over = p } }

-- what was returned stays a beginning of what is made of what came
begun-ends : (n : ℕ) (op : Unary) (l : Ledger) (o p : StreamState) → Begun (one_op n op) l → Begun (one_op n op) (with_ends l o p)
begun-ends n op l o p b = record {
  inputs = b.inputs;
  begins = record { left = b.begins.left; right = b.begins.right; came = b.begins.came };
  whole = b.whole;
  makes = b.makes;
  gave = b.gave;
}

longer : (xs ys zs : List Row) → IsBeginning xs ys → IsBeginning xs (ys ++ zs)
longer xs ys zs b = record { rest = b.rest ++ zs; joined = sym (append_assoc xs b.rest zs) ∙ ap (λ rows. rows ++ zs) b.joined }

begun-batch : (n : ℕ) (op : Unary) (l : Ledger) (xs : List Row) (p : StreamState) → Begun (one_op n op) l → Begun (one_op n op) (record l { left = record { rows = l.left.rows ++ xs; over = l.left.over }; gave = record { rows = l.gave.rows; over = p } })
begun-batch n op l xs p b = record {
  inputs = b.inputs;
  begins = record { left = longer b.inputs.left.rows l.left.rows xs b.begins.left; right = b.begins.right; came = b.begins.came };
  whole = b.whole;
  makes = b.makes;
  gave = b.gave;
}

-- an overflow of all rows is one's own, once the input ended
overflows : (n : ℕ) (op : Unary) (l : Ledger) → l.left.over ≡ Ended → StepOverflows op l.left.rows → OwnBlame (one_op n op) l (Own Overflow n)
overflows n (select fs) l e m = (refl, e, m)
overflows n (project es) l e m = (refl, e, m)
overflows n (group phase by aggregates) l e m = absurd m
overflows n (distinct cs) l e m = absurd m
overflows n (sort of_parts cs) l e m = absurd m
overflows n (limit rows) l e m = absurd m

module _ (n : ℕ) (op : Unary) (at_once : (l : Ledger) → HoldsBack (one_op n op) l) where
  own-overflow : (l : Ledger) (f : Fault) → OwnBlame (one_op n op) l (Own Overflow n) → Own Overflow n ≡ f → OwnBlame (one_op n op) l f
  own-overflow l f o e = let P : Fault → Type 0 = λ v. OwnBlame (one_op n op) l v in subst P e o

  pub step-running : (H : List Row → List Row → Type 0) (l : Ledger) → l.left.over ≡ Running → H l.left.rows l.gave.rows → unary_rows op l.left.rows ≡ Some l.gave.rows → l.gave.over ≡ Running → IsStepped n op H false Running l
  step-running H l a t m o = record {
    stands = o;
    runs = λ e. a;
    phase = λ e. (t, m);
    abides = record {
      before = begun_whole (one_op n op) l m;
      ended = λ e. absurd (running-ended (sym o ∙ e));
      passes = λ f e. absurd (running-failed f (sym a ∙ e));
      tests = tt;
      holds_back = at_once l;
      blame = λ f e. absurd (running-failed f (sym o ∙ e));
    };
  }

  pub step-rows : (H J : List Row → List Row → Type 0) (l : Ledger) (xs ys : List Row) → (H l.left.rows l.gave.rows → J (l.left.rows ++ xs) (l.gave.rows ++ ys)) → (J (l.left.rows ++ xs) (l.gave.rows ++ ys) → unary_rows op (l.left.rows ++ xs) ≡ Some (l.gave.rows ++ ys)) → IsStepped n op H false Running l → IsStepped n op J false Running (with_rows l xs ys)
  step-rows H J l xs ys more is h =
      let made = (h.phase refl).0 in
      step-running J (with_rows l xs ys) (h.runs refl) (more made) (is (more made)) h.stands

  -- they overflow, whatever else comes, and nothing more is returned
  overflowing : (J : List Row → List Row → Type 0) (l : Ledger) (xs : List Row) → l.left.over ≡ Running → l.gave.over ≡ Running → Begun (one_op n op) l → ((rest : List Row) → StepOverflows op ((l.left.rows ++ xs) ++ rest)) → IsStepped n op J true Running (with_batch l xs)
  overflowing J l xs a o b m = record {
    stands = o;
    runs = λ e. a;
    phase = λ e. m;
    abides = record {
      before = begun-batch n op l xs l.gave.over b;
      ended = λ e. absurd (running-ended (sym o ∙ e));
      passes = λ f e. absurd (running-failed f (sym a ∙ e));
      tests = tt;
      holds_back = at_once (with_batch l xs);
      blame = λ f e. absurd (running-failed f (sym o ∙ e));
    };
  }

  -- a batch came with which they do
  pub step-overflow : (H J : List Row → List Row → Type 0) (l : Ledger) (xs : List Row) → (H l.left.rows l.gave.rows → (rest : List Row) → StepOverflows op ((l.left.rows ++ xs) ++ rest)) → IsStepped n op H false Running l → IsStepped n op J true Running (with_batch l xs)
  step-overflow H J l xs may h = overflowing J l xs (h.runs refl) h.stands h.abides.before (may (h.phase refl).0)

  -- a batch came after they did
  pub step-dropped : (H J : List Row → List Row → Type 0) (l : Ledger) (xs : List Row) → IsStepped n op H true Running l → IsStepped n op J true Running (with_batch l xs)
  step-dropped H J l xs h =
      overflowing J l xs (h.runs refl) h.stands h.abides.before (λ rest. subst (StepOverflows op) (sym (append_assoc l.left.rows xs rest)) (h.phase refl (xs ++ rest)))

  pub step-end : (H J : List Row → List Row → Type 0) (overflowed : Bool) (l : Ledger) → IsStepped n op H false Running l → IsStepped n op J overflowed Ended (with_over l Ended)
  step-end H J overflowed l h =
      let made = (h.phase refl).1 in
      record {
        stands = refl;
        runs = λ e. absurd (ended-running e);
        phase = λ e. absurd (ended-running e);
        abides = record {
          before = begun_whole (one_op n op) (with_over l Ended) made;
          ended = λ e. (refl, made);
          passes = λ f e. absurd (ended-failed f e);
          tests = tt;
          holds_back = at_once (with_over l Ended);
          blame = λ f e. absurd (ended-failed f e);
        };
      }

  -- the input ended after they did
  pub step-late : (H J : List Row → List Row → Type 0) (overflowed : Bool) (l : Ledger) → IsStepped n op H true Running l → IsStepped n op J overflowed (Failed (Own Overflow n)) (with_ends l Ended (Failed (Own Overflow n)))
  step-late H J overflowed l h =
      let k = with_ends l Ended (Failed (Own Overflow n)) in
      record {
        stands = refl;
        runs = λ e. absurd (failed-running (Own Overflow n) e);
        phase = λ e. absurd (failed-running (Own Overflow n) e);
        abides = record {
          before = begun-ends n op l Ended (Failed (Own Overflow n)) h.abides.before;
          ended = λ e. absurd (failed-ended (Own Overflow n) e);
          passes = λ f e. absurd (ended-failed f e);
          tests = tt;
          holds_back = at_once k;
          blame = λ f e. inr (own-overflow k f (overflows n op k refl (subst (StepOverflows op) (append-nil l.left.rows) (h.phase refl []))) (same-fault (Own Overflow n) f e));
        };
      }

  pub step-fault : (H J : List Row → List Row → Type 0) (overflowed : Bool) (l : Ledger) (g : Fault) → IsStepped n op H overflowed Running l → IsStepped n op J overflowed (Failed g) (with_over l (Failed g))
  step-fault H J overflowed l g h = record {
    stands = refl;
    runs = λ e. absurd (failed-running g e);
    phase = λ e. absurd (failed-running g e);
    abides = record {
      before = begun-ends n op l (Failed g) (Failed g) h.abides.before;
      ended = λ e. absurd (failed-ended g e);
      passes = λ f e. e;
      tests = tt;
      holds_back = at_once (with_over l (Failed g));
      blame = λ f e. inl e;
    };
  }

  pub step-refused : (H J : List Row → List Row → Type 0) (overflowed : Bool) (l : Ledger) (xs : List Row) (m : ℕ) → IsStepped n op H false Running l → IsStepped n op J overflowed (Failed (Own NoMemory m)) (with_refusal l xs (Own NoMemory m))
  step-refused H J overflowed l xs m h =
      let k = with_refusal l xs (Own NoMemory m) in
      record {
        stands = refl;
        runs = λ e. absurd (failed-running (Own NoMemory m) e);
        phase = λ e. absurd (failed-running (Own NoMemory m) e);
        abides = record {
          before = begun-batch n op l xs (Failed (Own NoMemory m)) h.abides.before;
          ended = λ e. absurd (failed-ended (Own NoMemory m) e);
          passes = λ f e. absurd (running-failed f (sym (h.runs refl) ∙ e));
          tests = tt;
          holds_back = at_once k;
          blame = λ f e. inr (own-memory n op m k f (same-fault (Own NoMemory m) f e));
        };
      }
