-- Turns of a union.
use Rattle.std.proofs.Common.{◌≡◌, ◌⊎◌, ℕ, List, [], ◌++◌, refl, sym, ap, ◌∙◌, inl, inr, Bool, true, false, append-nil, append_assoc}
use Rattle.vx_rows_values.specs.Values.{Row}
use Rattle.vx_rows.specs.View.{RowsView}
use Rattle.vx_plan_nodes.specs.Plan.{union}
use Rattle.vx_ops.specs.Ledger.{Ledger, two_op, InputFault}
use Rattle.vx_ops.specs.Begun.{begun_whole}
use Rattle.vx_ops.specs.Turn.{after}
use Rattle.vx_ops.specs.Union.{Reads, IsUnited, input_wanted}
use Rattle.vx_ops.specs.declared.fault.Fault.{Fault}
use Rattle.vx_ops.specs.declared.fault.StreamState.TheVariants.{Running, Ended, Failed}
use Rattle.vx_ops.specs.declared.turn.Got.TheVariants as got
use Rattle.vx_ops.specs.declared.turn.Polled.TheVariants as polled
use Rattle.vx_ops.proofs.Turns.{running-ended, running-failed, ended-failed, failed-ended, failed-running, ended-running}

-- no input of a union that runs has failed
unfailed : (n : ℕ) (b : Bool) (l : Ledger) (f : Fault) → Reads b l → InputFault (two_op n union) l f → ⊥
unfailed n false l f r (inl e) = running-failed f (sym r.0 ∙ e)
unfailed n false l f r (inr e) = running-failed f (sym r.1 ∙ e)
unfailed n true l f r (inl e) = ended-failed f (sym r.0 ∙ e)
unfailed n true l f r (inr e) = running-failed f (sym r.1 ∙ e)

left_rows : (ls rs xs gs : List Row) → rs ≡ [] → ls ++ rs ≡ gs → (ls ++ xs) ++ rs ≡ gs ++ xs
left_rows ls rs xs gs e m = rw e (append-nil (ls ++ xs) ∙ ap (λ zs. zs ++ xs) (sym (append-nil ls) ∙ ap (λ zs. ls ++ zs) (sym e) ∙ m))

right_rows : (ls rs xs gs : List Row) → ls ++ rs ≡ gs → ls ++ (rs ++ xs) ≡ gs ++ xs
right_rows ls rs xs gs m = sym (append_assoc ls rs xs) ∙ ap (λ zs. zs ++ xs) m

module _ (n : ℕ) where
  pub union-running : (b : Bool) (l : Ledger) → Reads b l → l.left.rows ++ l.right.rows ≡ l.gave.rows → l.gave.over ≡ Running → IsUnited n b Running l
  union-running b l r m o = record {
    stands = o;
    runs = λ e. r;
    rows = m;
    abides = record {
      before = begun_whole (two_op n union) l m;
      ended = λ e. absurd (running-ended (sym o ∙ e));
      passes = λ f e. absurd (unfailed n b l f r e);
      tests = tt;
      holds_back = tt;
      blame = λ f e. absurd (running-failed f (sym o ∙ e));
    };
  }

  -- a batch was handed on
  pub union-rows : (b : Bool) (l : Ledger) (t : RowsView) → IsUnited n b Running l → IsUnited n b Running (after l (input_wanted b) (got.Input (polled.Gave t)) (polled.Gave t))
  union-rows false l t h =
      let r = h.runs refl in
      union-running false _ r (left_rows l.left.rows l.right.rows t.rows l.gave.rows r.2 h.rows) h.stands
  union-rows true l t h =
      union-running true _ (h.runs refl) (right_rows l.left.rows l.right.rows t.rows l.gave.rows h.rows) h.stands

  -- the input had nothing
  pub union-waiting : (b : Bool) (l : Ledger) → IsUnited n b Running l → IsUnited n b Running (after l (input_wanted b) (got.Input polled.Waiting) polled.Waiting)
  union-waiting false l h = h
  union-waiting true l h = h

  -- the left input ended
  pub union-left-end : (l : Ledger) → IsUnited n false Running l → IsUnited n true Running (after l (input_wanted false) (got.Input polled.End) polled.Waiting)
  union-left-end l h = union-running true _ (refl, (h.runs refl).1) h.rows h.stands

  -- both inputs have ended
  pub union-end : (b : Bool) (l : Ledger) → IsUnited n true Running l → IsUnited n b Ended (after l (input_wanted true) (got.Input polled.End) polled.End)
  union-end b l h =
      let r = h.runs refl in
      record {
        stands = refl;
        runs = λ e. absurd (ended-running e);
        rows = h.rows;
        abides = record {
          before = begun_whole (two_op n union) _ h.rows;
          ended = λ e. ((r.0, refl), h.rows);
          passes = λ f e. absurd (ended-input f e r.0);
          tests = tt;
          holds_back = tt;
          blame = λ f e. absurd (ended-failed f e);
        };
      }
    where
      ended-input : (f : Fault) → (l.left.over ≡ Failed f) ⊎ (Ended ≡ Failed f) → l.left.over ≡ Ended → ⊥
      ended-input f (inl e) a = ended-failed f (sym a ∙ e)
      ended-input f (inr e) a = ended-failed f e

  -- the input that it read failed
  pub union-fault : (b : Bool) (l : Ledger) (g : Fault) → IsUnited n b Running l → IsUnited n b (Failed g) (after l (input_wanted b) (got.Input (polled.Fault g)) (polled.Fault g))
  union-fault false l g h = record {
    stands = refl;
    runs = λ e. absurd (failed-running g e);
    rows = h.rows;
    abides = record {
      before = begun_whole (two_op n union) _ h.rows;
      ended = λ e. absurd (failed-ended g e);
      passes = λ f e. left-failed f e;
      tests = tt;
      holds_back = tt;
      blame = λ f e. inl (inl e);
    };
  }
    where
      left-failed : (f : Fault) → (Failed g ≡ Failed f) ⊎ (l.right.over ≡ Failed f) → Failed g ≡ Failed f
      left-failed f (inl e) = e
      left-failed f (inr e) = absurd (running-failed f (sym (h.runs refl).1 ∙ e))
  union-fault true l g h = record {
    stands = refl;
    runs = λ e. absurd (failed-running g e);
    rows = h.rows;
    abides = record {
      before = begun_whole (two_op n union) _ h.rows;
      ended = λ e. absurd (failed-ended g e);
      passes = λ f e. right-failed f e;
      tests = tt;
      holds_back = tt;
      blame = λ f e. inl (inr e);
    };
  }
    where
      right-failed : (f : Fault) → (l.left.over ≡ Failed f) ⊎ (Failed g ≡ Failed f) → Failed g ≡ Failed f
      right-failed f (inl e) = absurd (ended-failed f (sym (h.runs refl).0 ∙ e))
      right-failed f (inr e) = e
