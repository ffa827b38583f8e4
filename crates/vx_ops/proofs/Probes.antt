-- Turns of an operator that builds a table of its right input before it reads its left one.
use Rattle.std.proofs.Common.{◌≡◌, ◌⊎◌, ℕ, List, [], ◌++◌, Option, Some, None, refl, sym, ap, ◌∙◌, subst, inl, inr, Bool, true, false, append-nil, append_assoc}
use Rattle.vx_rows_values.specs.Values.{Row}
use Rattle.vx_rows.specs.View.{RowsView}
use Rattle.vx_ports.specs.Packets.{rows_of}
use Rattle.vx_plan_nodes.specs.Plan.{Binary}
use Rattle.vx_plan_nodes.specs.Serial.{binary_rows}
use Rattle.vx_ops.specs.Ledger.{Ledger, two_op, Begun, InputFault, OwnBlame}
use Rattle.vx_ops.specs.Begun.{all_of, begun_whole, begun_nothing}
use Rattle.vx_ops.specs.Turn.{fresh_ledger, took, gives, after}
use Rattle.vx_ops.specs.ProbeKernel.{IsProbed}
use Rattle.vx_ops.specs.Probing.{ProbingPhase, IsProbing, reads_next, rest_rows}
use Rattle.vx_ops.specs.declared.fault.Code.TheVariants.{NoMemory}
use Rattle.vx_ops.specs.declared.fault.Fault.{Fault}
use Rattle.vx_ops.specs.declared.fault.Fault.TheVariants.{Own}
use Rattle.vx_ops.specs.declared.fault.StreamState.{StreamState}
use Rattle.vx_ops.specs.declared.fault.StreamState.TheVariants.{Running, Ended, Failed}
use Rattle.vx_ops.specs.declared.turn.Want.TheVariants as want
use Rattle.vx_ops.specs.declared.turn.Got.{Got}
use Rattle.vx_ops.specs.declared.turn.Got.TheVariants as got
use Rattle.vx_ops.specs.declared.turn.Polled.TheVariants as polled
use Rattle.vx_ops.proofs.Turns.{running-ended, running-failed, ended-failed, failed-ended, failed-running, ended-running, same-fault, two-held-back}

-- the ledger after rows were returned
abbrev pub with_joined : Ledger → List Row → Ledger
with_joined l js = record l { gave = record { rows = l.gave.rows ++ js; over = l.gave.over } }

-- more left rows came, which are all held
held_more : (op : Binary) (rs ls gs xs : List Row) → IsProbed op rs ls gs [] → IsProbed op rs (ls ++ xs) gs xs
held_more op rs ls gs xs p = record { front = p.front; parts = ap (λ zs. zs ++ xs) (sym (append-nil p.front) ∙ p.parts); made = p.made }

-- of the held rows the first were joined
held_less : (op : Binary) (rs ls gs ks js ms : List Row) → ((xs ys : List Row) → binary_rows op (xs ++ ys) rs ≡ binary_rows op xs rs ++ binary_rows op ys rs)
    → IsProbed op rs ls gs ks → IsProbed op rs ks js ms → IsProbed op rs ls (gs ++ js) ms
held_less op rs ls gs ks js ms parts p q = record {
  front = p.front ++ q.front;
  parts = append_assoc p.front q.front ms ∙ ap (λ zs. p.front ++ zs) q.parts ∙ p.parts;
  made = parts p.front q.front ∙ ap (λ zs. zs ++ binary_rows op q.front rs) p.made ∙ ap (λ zs. gs ++ zs) q.made;
}

-- no input of an operator in a phase has failed
unfailed : (n : ℕ) (op : Binary) (R B : List Row → Type 0) (ready : Bool) (rest : Option RowsView) (l : Ledger) (f : Fault) → l.left.over ≡ Running → ProbingPhase op R B ready rest l → InputFault (two_op n op) l f → ⊥
unfailed n op R B ready rest l f a p (inl e) = running-failed f (sym a ∙ e)
unfailed n op R B false None l f a p (inr e) = running-failed f (sym p.0 ∙ e)
unfailed n op R B false (Some t) l f a p (inr e) = p
unfailed n op R B true rest l f a p (inr e) = ended-failed f (sym p.0 ∙ e)

-- either its right input has ended, or it has returned nothing
held-back : (op : Binary) (R B : List Row → Type 0) (ready : Bool) (rest : Option RowsView) (l : Ledger) → ProbingPhase op R B ready rest l → (l.right.over ≡ Ended) ⊎ (l.gave.rows ≡ [])
held-back op R B false None l p = inr p.3
held-back op R B false (Some t) l p = absurd p
held-back op R B true rest l p = inl p.0

right-left : want.Right ≡ want.Left → ⊥
right-left e = cc

nothing-left : want.Nothing ≡ want.Left → ⊥
nothing-left e = cc

module _ (n : ℕ) (op : Binary) (empty : (rs : List Row) → binary_rows op [] rs ≡ []) where
  begun-none : (l : Ledger) → l.gave.rows ≡ [] → Begun (two_op n op) l
  begun-none l e = begun_nothing (two_op n op) l fresh_ledger [] (record { left = record { rest = l.left.rows; joined = refl }; right = record { rest = l.right.rows; joined = refl }; came = λ i. record { rest = rows_of (l.came i); joined = refl } }) (empty []) e

  begun-probed : (l : Ledger) (rest : List Row) → IsProbed op l.right.rows l.left.rows l.gave.rows rest → Begun (two_op n op) l
  begun-probed l rest p = record {
    inputs = record l { left = record { rows = p.front; over = l.left.over } };
    begins = record { left = record { rest = rest; joined = p.parts }; right = all_of l.right.rows; came = λ i. all_of (rows_of (l.came i)) };
    whole = l.gave.rows;
    makes = p.made;
    gave = all_of l.gave.rows;
  }

  begun-phase : (R B : List Row → Type 0) (ready : Bool) (rest : Option RowsView) (l : Ledger) → ProbingPhase op R B ready rest l → Begun (two_op n op) l
  begun-phase R B false None l p = begun-none l p.3
  begun-phase R B false (Some t) l p = absurd p
  begun-phase R B true rest l p = begun-probed l (rest_rows rest) p.2

  pub probing-running : (R B : List Row → Type 0) (ready : Bool) (rest : Option RowsView) (l : Ledger) → l.left.over ≡ Running → ProbingPhase op R B ready rest l → l.gave.over ≡ Running → IsProbing n op R B ready rest Running l
  probing-running R B ready rest l a p o = record {
    stands = o;
    left = λ e. a;
    runs = λ e. p;
    abides = record {
      before = begun-phase R B ready rest l p;
      ended = λ e. absurd (running-ended (sym o ∙ e));
      passes = λ f e. absurd (unfailed n op R B ready rest l f a p e);
      tests = tt;
      holds_back = two-held-back n op l (held-back op R B ready rest l p);
      blame = λ f e. absurd (running-failed f (sym o ∙ e));
    };
  }

  own-memory : (m : ℕ) (l : Ledger) (f : Fault) → Own NoMemory m ≡ f → OwnBlame (two_op n op) l f
  own-memory m l f e = let P : Fault → Type 0 = λ v. OwnBlame (two_op n op) l v in subst P e tt

  -- memory ran out, whatever state that leaves
  refused : (S C : List Row → Type 0) (ready : Bool) (rest : Option RowsView) (l : Ledger) (m : ℕ) → l.gave.over ≡ Failed (Own NoMemory m) → Begun (two_op n op) l → (l.right.over ≡ Ended) ⊎ (l.gave.rows ≡ []) → ((f : Fault) → InputFault (two_op n op) l f → ⊥) → IsProbing n op S C ready rest (Failed (Own NoMemory m)) l
  refused S C ready rest l m o b w u = record {
    stands = o;
    left = λ e. absurd (failed-running (Own NoMemory m) e);
    runs = λ e. absurd (failed-running (Own NoMemory m) e);
    abides = record {
      before = b;
      ended = λ e. absurd (failed-ended (Own NoMemory m) (sym o ∙ e));
      passes = λ f e. absurd (u f e);
      tests = tt;
      holds_back = two-held-back n op l w;
      blame = λ f e. inr (own-memory m l f (same-fault (Own NoMemory m) f (sym o ∙ e)));
    };
  }

  module _ (R B S C : List Row → Type 0) (l : Ledger) where
    -- a batch of the right input was read
    pub build-rows : (t : RowsView) → (R l.right.rows → S (l.right.rows ++ t.rows)) → IsProbing n op R B false None Running l → IsProbing n op S C false None Running (after l want.Right (got.Input (polled.Gave t)) polled.Waiting)
    build-rows t more h =
        let p = h.runs refl in
        probing-running S C false None _ (h.left refl) (p.0, more p.1, p.2, p.3) h.stands

    -- memory ran out at a batch of the right input
    pub build-refused : (ready : Bool) (rest : Option RowsView) (t : RowsView) (m : ℕ) → IsProbing n op R B false None Running l → IsProbing n op S C ready rest (Failed (Own NoMemory m)) (after l want.Right (got.Input (polled.Gave t)) (polled.Fault (Own NoMemory m)))
    build-refused ready rest t m h =
        let p = h.runs refl in
        let k = after l want.Right (got.Input (polled.Gave t)) (polled.Fault (Own NoMemory m)) in
        refused S C ready rest k m refl (begun-none k p.3) (inr p.3) (λ f. elim [ inl e ↦ running-failed f (sym (h.left refl) ∙ e) | inr e ↦ running-failed f (sym p.0 ∙ e) ])

    -- the right input ended
    pub build-ready : (R l.right.rows → C l.right.rows) → IsProbing n op R B false None Running l → IsProbing n op S C true None Running (after l want.Right (got.Input polled.End) polled.Waiting)
    build-ready built h =
        let p = h.runs refl in
        let q : IsProbed op l.right.rows l.left.rows l.gave.rows [] = record { front = []; parts = sym p.2; made = empty l.right.rows ∙ sym p.3 } in
        probing-running S C true None _ (h.left refl) (refl, built p.1, q) h.stands

    -- the right input ended, and memory ran out
    pub finish-refused : (ready : Bool) (rest : Option RowsView) (m : ℕ) → IsProbing n op R B false None Running l → IsProbing n op S C ready rest (Failed (Own NoMemory m)) (after l want.Right (got.Input polled.End) (polled.Fault (Own NoMemory m)))
    finish-refused ready rest m h =
        let p = h.runs refl in
        let k = after l want.Right (got.Input polled.End) (polled.Fault (Own NoMemory m)) in
        refused S C ready rest k m refl (begun-none k p.3) (inl refl) (λ f. elim [ inl e ↦ running-failed f (sym (h.left refl) ∙ e) | inr e ↦ ended-failed f e ])

    -- the right input failed
    pub right-fault : (ready : Bool) (rest : Option RowsView) (g : Fault) → IsProbing n op R B false None Running l → IsProbing n op S C ready rest (Failed g) (after l want.Right (got.Input (polled.Fault g)) (polled.Fault g))
    right-fault ready rest g h =
        let p = h.runs refl in
        record {
          stands = refl;
          left = λ e. absurd (failed-running g e);
          runs = λ e. absurd (failed-running g e);
          abides = record {
            before = begun-none _ p.3;
            ended = λ e. absurd (failed-ended g e);
            passes = λ f. elim [ inl e ↦ absurd (running-failed f (sym (h.left refl) ∙ e)) | inr e ↦ e ];
            tests = tt;
            holds_back = two-held-back n op _ (inr p.3);
            blame = λ f e. inl (inr e);
          };
        }

    -- a batch of the left input came, and is held
    pub probe-held : (ready : Bool) (rest : Option RowsView) (t : RowsView) → reads_next ready rest ≡ want.Left → IsProbing n op R B ready rest Running l → IsProbing n op R B ready (Some t) Running (took l want.Left (got.Input (polled.Gave t)))
    probe-held false None t w h = absurd (right-left w)
    probe-held false (Some s) t w h = absurd (nothing-left w)
    probe-held true (Some s) t w h = absurd (nothing-left w)
    probe-held true None t w h =
        let p = h.runs refl in
        probing-running R B true (Some t) _ (h.left refl) (p.0, p.1, held_more op l.right.rows l.left.rows l.gave.rows t.rows p.2) h.stands

    -- of the held rows the first were joined
    pub probe-rows : (parts : (xs ys rs : List Row) → binary_rows op (xs ++ ys) rs ≡ binary_rows op xs rs ++ binary_rows op ys rs) (ready : Bool) (rest : Option RowsView) (t : RowsView) (js : List Row)
        → (B l.right.rows → C l.right.rows) → (B l.right.rows → IsProbed op l.right.rows t.rows js (rest_rows rest)) → IsProbing n op R B ready (Some t) Running l → IsProbing n op S C ready rest Running (with_joined l js)
    probe-rows parts false rest t js keeps joins h = absurd (h.runs refl)
    probe-rows parts true rest t js keeps joins h =
        let p = h.runs refl in
        probing-running S C true rest _ (h.left refl) (p.0, keeps p.1, held_less op l.right.rows l.left.rows l.gave.rows t.rows js (rest_rows rest) (λ xs ys. parts xs ys l.right.rows) p.2 (joins p.1)) h.stands

    -- memory ran out at held rows
    pub probe-refused : (was ready : Bool) (rest : Option RowsView) (t : RowsView) (m : ℕ) → IsProbing n op R B was (Some t) Running l → IsProbing n op S C ready rest (Failed (Own NoMemory m)) (gives l (polled.Fault (Own NoMemory m)))
    probe-refused was ready rest t m h =
        let p = h.runs refl in
        refused S C ready rest (gives l (polled.Fault (Own NoMemory m))) m refl (begun-again (begun-phase R B was (Some t) l p)) (held-back op R B was (Some t) l p) (λ f e. unfailed n op R B was (Some t) l f (h.left refl) p e)
      where
        begun-again : Begun (two_op n op) l → Begun (two_op n op) (gives l (polled.Fault (Own NoMemory m)))
        begun-again b = record { inputs = b.inputs; begins = record { left = b.begins.left; right = b.begins.right; came = b.begins.came }; whole = b.whole; makes = b.makes; gave = b.gave }

    -- it failed, and returns that again
    pub still-failed : (ready : Bool) (rest : Option RowsView) (f : Fault) (q : Got) → IsProbing n op R B ready rest (Failed f) l → IsProbing n op R B ready rest (Failed f) (after l want.Nothing q (polled.Fault f))
    still-failed ready rest f q h = let P : StreamState → Type 0 = λ o. IsProbing n op R B ready rest (Failed f) (record l { gave = record { rows = l.gave.rows; over = o } }) in subst P h.stands h

    -- the left input ended: all was returned
    pub left-end : (ready : Bool) (rest : Option RowsView) → IsProbing n op R B true None Running l → IsProbing n op S C ready rest Ended (after l want.Left (got.Input polled.End) polled.End)
    left-end ready rest h =
        let p = h.runs refl in
        let front : p.2.front ≡ l.left.rows = sym (append-nil p.2.front) ∙ p.2.parts in
        let all : binary_rows op l.left.rows l.right.rows ≡ l.gave.rows = ap (λ (xs : List Row). binary_rows op xs l.right.rows) (sym front) ∙ p.2.made in
        record {
          stands = refl;
          left = λ e. absurd (ended-running e);
          runs = λ e. absurd (ended-running e);
          abides = record {
            before = begun_whole (two_op n op) _ all;
            ended = λ e. ((refl, p.0), all);
            passes = λ f. elim [ inl e ↦ absurd (ended-failed f e) | inr e ↦ absurd (ended-failed f (sym p.0 ∙ e)) ];
            tests = tt;
            holds_back = two-held-back n op _ (inl p.0);
            blame = λ f e. absurd (ended-failed f e);
          };
        }

    -- the left input failed
    pub left-fault : (ready : Bool) (rest : Option RowsView) (g : Fault) → IsProbing n op R B true None Running l → IsProbing n op S C ready rest (Failed g) (after l want.Left (got.Input (polled.Fault g)) (polled.Fault g))
    left-fault ready rest g h =
        let p = h.runs refl in
        record {
          stands = refl;
          left = λ e. absurd (failed-running g e);
          runs = λ e. absurd (failed-running g e);
          abides = record {
            before = begun-probed _ [] p.2;
            ended = λ e. absurd (failed-ended g e);
            passes = λ f. elim [ inl e ↦ e | inr e ↦ absurd (ended-failed f (sym p.0 ∙ e)) ];
            tests = tt;
            holds_back = two-held-back n op _ (inl p.0);
            blame = λ f e. inl (inl e);
          };
        }
