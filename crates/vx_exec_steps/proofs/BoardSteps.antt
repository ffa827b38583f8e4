-- What the links do, over plain values.
use Rattle.std.proofs.Common.{ℕ, ◌≡◌, ◌≢◌, ◌<◌, ◌≤◌, true, List, [], ◌∷◌, length, Some, refl, sym, ap, ◌∙◌, subst, arith, inl, inr, zero, suc}
use Rattle.std.proofs.Math.ListN.{get_or, set, get_or-eq_default}
use Rattle.std.proofs.lemmas.Bool.Decides.{eqb_tells}
use Rattle.std.proofs.lemmas.List.{get_or-set_same, get_or-set_other}
use Rattle.vx_ports.specs.Packets.{PacketView}
use Rattle.vx_ports.specs.LinkView.{LinkView}
use Rattle.vx_exec_steps.specs.Queues.{PortTakes, line_in, queue_in}
use Rattle.vx_exec_steps.specs.LinksView.{LinksView, IsWay, Takes, PortIsClosed}

-- what is read in range does not hang on the default
pub default_is : {A : Type 0} (xs : List A) (i : ℕ) (x d : A) → i < length xs → x ≡ get_or xs i x → get_or xs i d ≡ x
default_is [] i x d lt e = absurd (omega (arith, lt))
default_is (y ∷ ys) zero x d lt e = sym e
default_is (y ∷ ys) (suc i) x d lt e = default_is ys i x d (omega (arith, lt)) e

-- a worker that has no queues has no port that is open
pub closed_beyond : (w : LinksView) (j : ℕ) → length w.queues ≤ w.turn → PortIsClosed w j
closed_beyond w j le = subst (λ z. (line_in z j).closed ≡ true) (sym (get_or-eq_default w.queues [] le)) refl

-- the port that answered that it is closed
pub closed_here : (w : LinksView) (j : ℕ) (old : List LinkView) → w.turn < length w.queues → old ≡ get_or w.queues w.turn old → (line_in old j).closed ≡ true → PortIsClosed w j
closed_here w j old lt at e = subst (λ z. (line_in z j).closed ≡ true) (sym (default_is w.queues w.turn old [] lt at)) e

-- a packet taken from the queues of the producer that was found
pub took : (w : LinksView) (x i a j : ℕ) (p : PacketView) (old new : List LinkView) → IsWay w x i a j → old ≡ get_or w.queues a old
    → PortTakes old j (Some p) new → Takes w x i p (record w { queues = set w.queues a new })
took w x i a j p old new way eq h =
    let lt = way.within in
    let o : get_or w.queues a [] ≡ old = default_is w.queues a old [] lt eq in
    let n : get_or (set w.queues a new) a [] ≡ new = get_or-set_same w.queues a new [] lt in
    record {
      tables = record { sends = refl; turn = refl };
      stations = λ k. refl;
      a = a;
      j = j;
      way = way;
      here = ap (λ z. queue_in z j) o ∙ h.0 ∙ ap (λ z. p ∷ queue_in z j) (sym n);
      others = λ b k apart. elim (eqb_tells b a) [
        | inl q ↦
            let ne : k ≢ j = λ e. apart (q.1, e) in
            subst (λ z. queue_in (get_or (set w.queues a new) z []) k ≡ queue_in (get_or w.queues z []) k) (sym q.1)
            (ap (λ z. queue_in z k) n ∙ h.1 k ne ∙ ap (λ z. queue_in z k) (sym o))
        | inr q ↦ ap (λ z. queue_in z k) (get_or-set_other w.queues a b new [] q.1)
      ];
      closed = λ b k. elim (eqb_tells b a) [
        | inl q ↦
            subst (λ z. (line_in (get_or (set w.queues a new) z []) k).closed ≡ (line_in (get_or w.queues z []) k).closed) (sym q.1)
            (ap (λ z. (line_in z k).closed) n ∙ h.2 k ∙ ap (λ z. (line_in z k).closed) (sym o))
        | inr q ↦ ap (λ z. (line_in z k).closed) (get_or-set_other w.queues a b new [] q.1)
      ];
    }
