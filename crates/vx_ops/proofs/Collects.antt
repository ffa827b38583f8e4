-- Turns of an operator that reads all of its input before it returns a row.
use Rattle.std.proofs.Common.{◌≡◌, ℕ, List, [], ◌++◌, Some, refl, sym, ap, ◌∙◌, subst, inl, inr, Bool, true, false}
use Rattle.vx_rows_values.specs.Values.{Row}
use Rattle.vx_plan_nodes.specs.Plan.{Unary, select, project, distinct, sort, group, limit}
use Rattle.vx_plan_nodes.specs.Serial.{unary_rows}
use Rattle.vx_ops.specs.Ledger.{Ledger, one_op, Begun, OwnBlame}
use Rattle.vx_ops.specs.Begun.{begun_whole, begun_nothing}
use Rattle.vx_ops.specs.Turn.{fresh_ledger}
use Rattle.vx_ops.specs.declared.fault.Code.TheVariants.{Overflow, NoMemory}
use Rattle.vx_ops.specs.declared.fault.Fault.{Fault}
use Rattle.vx_ops.specs.declared.fault.Fault.TheVariants.{Own}
use Rattle.vx_ops.specs.declared.fault.StreamState.{StreamState}
use Rattle.vx_ops.specs.declared.fault.StreamState.TheVariants.{Running, Ended, Failed}
use Rattle.vx_ops.specs.CollectingKernel.{MayOverflow}
use Rattle.vx_ops.specs.Collecting.{IsCollected}
use Rattle.vx_ops.proofs.Turns.{with_refusal, running-ended, running-failed, ended-failed, failed-ended, failed-running, ended-running, same-fault, own-memory, one-held-back}

-- the ledger after rows came
abbrev pub with_taken : Ledger → List Row → Ledger
with_taken l xs = record l { left = record { rows = l.left.rows ++ xs; over = l.left.over } }

-- after the input stands so, and the operator so
abbrev pub with_overs : Ledger → StreamState → StreamState → Ledger
with_overs l o p = record l { left = record { rows = l.left.rows; over = o }; gave = record { rows = l.gave.rows; over = p } }

-- after the input ended and all was returned
abbrev pub with_all : Ledger → List Row → Ledger
with_all l ys = record l { left = record { rows = l.left.rows; over = Ended }; gave = record { rows = l.gave.rows ++ ys; over = l.gave.over } }

-- after all was returned, and End
abbrev pub with_end : Ledger → Ledger
with_end l = record l { gave = record { rows = l.gave.rows; over = Ended } }

-- an overflow of all rows is one's own, once the input ended
overflows : (n : ℕ) (op : Unary) (l : Ledger) → l.left.over ≡ Ended → MayOverflow op l.left.rows → OwnBlame (one_op n op) l (Own Overflow n)
overflows n (group phase by aggregates) l e m = (refl, e, m)
overflows n (select fs) l e m = absurd m
overflows n (project es) l e m = absurd m
overflows n (distinct cs) l e m = m
overflows n (sort of_parts cs) l e m = m
overflows n (limit rows) l e m = m

module _ (n : ℕ) (op : Unary) (none : unary_rows op [] ≡ Some []) where
  begun-none : (l : Ledger) → l.gave.rows ≡ [] → Begun (one_op n op) l
  begun-none l e = begun_nothing (one_op n op) l fresh_ledger [] (record { left = record { rest = l.left.rows; joined = refl }; right = record { rest = l.right.rows; joined = refl }; came = λ i. record { rest = Rattle.vx_ports.specs.Packets.rows_of (l.came i); joined = refl } }) none e

  -- it reads, and returned nothing
  pub collect-taking : (R : List Row → Type 0) (l : Ledger) → l.left.over ≡ Running → R l.left.rows → l.gave.rows ≡ [] → l.gave.over ≡ Running → IsCollected n op R false Running l
  collect-taking R l a t g o = record {
    stands = o;
    runs = λ e. (a, t, g);
    abides = record {
      before = begun-none l g;
      ended = λ e. absurd (running-ended (sym o ∙ e));
      passes = λ f e. absurd (running-failed f (sym a ∙ e));
      tests = tt;
      holds_back = one-held-back n op l (inr g);
      blame = λ f e. absurd (running-failed f (sym o ∙ e));
    };
  }

  -- a batch was read
  pub collect-rows : (R S : List Row → Type 0) (l : Ledger) (xs : List Row) → (R l.left.rows → S (l.left.rows ++ xs)) → IsCollected n op R false Running l → IsCollected n op S false Running (with_taken l xs)
  collect-rows R S l xs more h =
      let r = h.runs refl in
      collect-taking S (with_taken l xs) r.0 (more r.1) r.2 h.stands

  own-overflow : (l : Ledger) (f : Fault) → OwnBlame (one_op n op) l (Own Overflow n) → Own Overflow n ≡ f → OwnBlame (one_op n op) l f
  own-overflow l f o e = let P : Fault → Type 0 = λ v. OwnBlame (one_op n op) l v in subst P e o

  -- memory ran out at a batch
  pub collect-refused : (R S : List Row → Type 0) (finished : Bool) (l : Ledger) (xs : List Row) (m : ℕ) → IsCollected n op R false Running l → IsCollected n op S finished (Failed (Own NoMemory m)) (with_refusal l xs (Own NoMemory m))
  collect-refused R S finished l xs m h =
      let r = h.runs refl in
      let k = with_refusal l xs (Own NoMemory m) in
      record {
        stands = refl;
        runs = λ e. absurd (failed-running (Own NoMemory m) e);
        abides = record {
          before = begun-none k r.2;
          ended = λ e. absurd (failed-ended (Own NoMemory m) e);
          passes = λ f e. absurd (running-failed f (sym r.0 ∙ e));
          tests = tt;
          holds_back = one-held-back n op k (inr r.2);
          blame = λ f e. inr (own-memory n op m k f (same-fault (Own NoMemory m) f e));
        };
      }

  -- the input failed
  pub collect-fault : (R S : List Row → Type 0) (finished : Bool) (l : Ledger) (g : Fault) → IsCollected n op R false Running l → IsCollected n op S finished (Failed g) (with_overs l (Failed g) (Failed g))
  collect-fault R S finished l g h =
      let r = h.runs refl in
      record {
        stands = refl;
        runs = λ e. absurd (failed-running g e);
        abides = record {
          before = begun-none (with_overs l (Failed g) (Failed g)) r.2;
          ended = λ e. absurd (failed-ended g e);
          passes = λ f e. e;
          tests = tt;
          holds_back = one-held-back n op (with_overs l (Failed g) (Failed g)) (inr r.2);
          blame = λ f e. inl e;
        };
      }

  -- the input ended, and memory ran out
  pub finish-refused : (R S : List Row → Type 0) (finished : Bool) (l : Ledger) (m : ℕ) → IsCollected n op R false Running l → IsCollected n op S finished (Failed (Own NoMemory m)) (with_overs l Ended (Failed (Own NoMemory m)))
  finish-refused R S finished l m h =
      let r = h.runs refl in
      let k = with_overs l Ended (Failed (Own NoMemory m)) in
      record {
        stands = refl;
        runs = λ e. absurd (failed-running (Own NoMemory m) e);
        abides = record {
          before = begun-none k r.2;
          ended = λ e. absurd (failed-ended (Own NoMemory m) e);
          passes = λ f e. absurd (ended-failed f e);
          tests = tt;
          holds_back = one-held-back n op k (inr r.2);
          blame = λ f e. inr (own-memory n op m k f (same-fault (Own NoMemory m) f e));
        };
      }

  -- the input ended, and a sum or a count does not fit
  pub finish-overflow : (R S : List Row → Type 0) (finished : Bool) (l : Ledger) → (R l.left.rows → MayOverflow op l.left.rows) → IsCollected n op R false Running l → IsCollected n op S finished (Failed (Own Overflow n)) (with_overs l Ended (Failed (Own Overflow n)))
  finish-overflow R S finished l may h =
      let r = h.runs refl in
      let k = with_overs l Ended (Failed (Own Overflow n)) in
      record {
        stands = refl;
        runs = λ e. absurd (failed-running (Own Overflow n) e);
        abides = record {
          before = begun-none k r.2;
          ended = λ e. absurd (failed-ended (Own Overflow n) e);
          passes = λ f e. absurd (ended-failed f e);
          tests = tt;
          holds_back = one-held-back n op k (inr r.2);
          blame = λ f e. inr (own-overflow k f (overflows n op k refl (may r.1)) (same-fault (Own Overflow n) f e));
        };
      }

  -- the input ended, and nothing is made of it
  pub finish-empty : (R S : List Row → Type 0) (finished : Bool) (l : Ledger) (ys : List Row) → (R l.left.rows → unary_rows op l.left.rows ≡ Some ys) → ys ≡ [] → IsCollected n op R false Running l → IsCollected n op S finished Ended (with_overs l Ended Ended)
  finish-empty R S finished l ys made empty h =
      let r = h.runs refl in
      let k = with_overs l Ended Ended in
      let all : unary_rows op l.left.rows ≡ Some l.gave.rows = made r.1 ∙ ap Some (empty ∙ sym r.2) in
      record {
        stands = refl;
        runs = λ e. absurd (ended-running e);
        abides = record {
          before = begun_whole (one_op n op) k all;
          ended = λ e. (refl, all);
          passes = λ f e. absurd (ended-failed f e);
          tests = tt;
          holds_back = one-held-back n op k (inl (refl, all));
          blame = λ f e. absurd (ended-failed f e);
        };
      }

  -- the input ended, and all that is made of it was returned
  pub finish-rows : (R S : List Row → Type 0) (l : Ledger) (ys : List Row) → (R l.left.rows → unary_rows op l.left.rows ≡ Some ys) → IsCollected n op R false Running l → IsCollected n op S true Running (with_all l ys)
  finish-rows R S l ys made h =
      let r = h.runs refl in
      let k = with_all l ys in
      let all : unary_rows op l.left.rows ≡ Some (l.gave.rows ++ ys) = made r.1 ∙ ap (λ (zs : List Row). Some (zs ++ ys)) (sym r.2) in
      record {
        stands = h.stands;
        runs = λ e. (refl, all);
        abides = record {
          before = begun_whole (one_op n op) k all;
          ended = λ e. absurd (running-ended (sym h.stands ∙ e));
          passes = λ f e. absurd (ended-failed f e);
          tests = tt;
          holds_back = one-held-back n op k (inl (refl, all));
          blame = λ f e. absurd (running-failed f (sym h.stands ∙ e));
        };
      }

  -- all was returned, and now End
  pub collect-end : (R S : List Row → Type 0) (finished : Bool) (l : Ledger) → IsCollected n op R true Running l → IsCollected n op S finished Ended (with_end l)
  collect-end R S finished l h =
      let r = h.runs refl in
      record {
        stands = refl;
        runs = λ e. absurd (ended-running e);
        abides = record {
          before = begun_whole (one_op n op) (with_end l) r.1;
          ended = λ e. (r.0, r.1);
          passes = λ f e. absurd (ended-failed f (sym r.0 ∙ e));
          tests = tt;
          holds_back = one-held-back n op (with_end l) (inl (r.0, r.1));
          blame = λ f e. absurd (ended-failed f e);
        };
      }
