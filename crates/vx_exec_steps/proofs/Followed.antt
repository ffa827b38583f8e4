-- Steps that were made in an order, one list after another, and what they come to.
use Rattle.std.proofs.Common.{ℕ, zero, suc, ◌≡◌, ◌<◌, ◌≤◌, ◌+◌, List, [], ◌∷◌, ◌++◌, length, refl, sym, ap, ◌∙◌, subst, arith}
use Rattle.std.proofs.Math.ListN.{get_or, set, take}
use Rattle.std.proofs.Math.Seq.{take-suc}
use Rattle.vx_rows_values.specs.Values.{Val, Row}
use Rattle.vx_plan_nodes.specs.Routes.{Routing}
use Rattle.vx_ports.specs.Packets.{PacketView}
use Rattle.vx_ops.specs.Ledger.{Stream, Ledger, Op}
use Rattle.vx_ops.specs.Turn.{Coming}
use Rattle.vx_ops.specs.declared.turn.Want.{Want}
use Rattle.vx_exchange_ends.specs.Tasks.{Task, Post}
use Rattle.vx_exchange_ends.specs.Sending.{RoutesAs}
use Rattle.vx_worker.specs.Trace.{Trace, Event, added}
use Rattle.vx_worker.specs.Answering.{Answered}
use Rattle.vx_worker.specs.Counts.{with_event, with_answer}
use Rattle.vx_worker.specs.Trees.{shape, IsFormed}
use Rattle.vx_worker.specs.Remaining.{Spends}
use Rattle.vx_worker.specs.Worker.{role_of, tree_of, inputs_of, counts_of, WorkerStands}
use Rattle.vx_worker.specs.declared.worker.StepOutcome.{StepOutcome}
use Rattle.vx_worker.specs.declared.worker.Worker.{Worker}
use Rattle.vx_exec_steps.specs.LinksView.{LinksView, Does, PortIsClosed}
use Rattle.vx_exec_steps.specs.Verdicts.{HasEnded}
use Rattle.vx_exec_steps.specs.Runs.{Advances}
use Rattle.vx_exec_steps.specs.Following.{round, rounds, Steps, Follows}
use Rattle.vx_exec_steps.proofs.BoardSteps.{default_is}
use Rattle.vx_exec_steps.proofs.RunSteps.{advances-then, stepped}
use Rattle.vx_exec_steps.proofs.Steady.{same-self}

take-all : (xs : List ℕ) (i : ℕ) → length xs ≤ i → take i xs ≡ xs
take-all [] zero le = refl
take-all [] (suc i) le = refl
take-all (x ∷ xs) zero le = absurd (omega (arith, le))
take-all (x ∷ xs) (suc i) le = ap (λ z. x ∷ z) (take-all xs i (omega (arith, le)))

module _ {O S : Type 0} (OS : O → Ledger → Type 0) (want : O → Want) (op : O → Op) (most idle_turns : O → Coming → ℕ) (SS : S → Routing → Stream → (ℕ → List PacketView) → Type 0) (task : S → Task) (post : S → Post)
    (bounds : S → List Val) (held : S → ℕ → ℕ) (unclosed : S → ℕ)
    (hash : List ℕ → Row → ℕ → ℕ) (m : ℕ → ℕ → List Row) where
  pub one-step : (ws : List (Worker O S)) (i : ℕ) (a b : Worker O S) (w v : LinksView) (r : StepOutcome) → a ≡ get_or ws i a → i < length ws
      → role_of op post bounds b ≡ role_of op post bounds a
      → ((e : Event) × Does (record w { turn = i }) e v × ((goes : Routing) → RoutesAs (role_of op post bounds a).post (role_of op post bounds a).bounds hash goes
      → (t : Trace) → WorkerStands OS op SS task goes m a t → WorkerStands OS op SS task goes m b (added t e))
      × Answered OS want (PortIsClosed (record w { turn = i })) ⊥ a b e r × (counts_of b ≡ with_answer (with_event (counts_of a) e) r)
      × ((goes : Routing) (t : Trace) → IsFormed (shape op (tree_of a)) → WorkerStands OS op SS task goes m a t
      → Spends most idle_turns post held unclosed m (shape op (tree_of a)) (inputs_of a) a b t e r))
      → (HasEnded a → b ≡ a)
      → (step : Steps OS want op most idle_turns SS task post bounds held unclosed hash m i ws w (set ws i b) v) × (step.answer ≡ r)
  one-step ws i a b w v r at lt role step still = (
    record {
      within = lt;
      before = a;
      after = b;
      here = λ d. default_is ws i a d lt at;
      now = refl;
      event = step.0;
      does = step.1;
      role = role;
      stands = step.2;
      answer = r;
      answered = step.3;
      counted = step.4;
      spends = step.5;
      still = still;
    },
    refl,
  )

  pub step-advances : (i : ℕ) (ws vs : List (Worker O S)) (w v : LinksView) → Steps OS want op most idle_turns SS task post bounds held unclosed hash m i ws w vs v → Advances OS op SS task post bounds hash m ws w vs v
  step-advances i ws vs w v s =
      subst (λ z. Advances OS op SS task post bounds hash m ws w z v) (sym s.now)
      (stepped OS op SS task post bounds hash m ws i s.before s.after w v (sym (s.here s.before)) s.within s.role (s.event, s.does, s.stands))

  advances-self : (ws : List (Worker O S)) (w : LinksView) → Advances OS op SS task post bounds hash m ws w ws w
  advances-self ws w = record { roles = refl; same = same-self w; traces = λ goes routes ts h. (ts, h) }

  pub follows-advances : (steps : List ℕ) (ws vs : List (Worker O S)) (w v : LinksView) → Follows OS want op most idle_turns SS task post bounds held unclosed hash m steps ws w vs v
      → Advances OS op SS task post bounds hash m ws w vs v
  follows-advances [] ws vs w v h =
      subst (λ z. Advances OS op SS task post bounds hash m ws w z v) (sym h.0) (subst (λ z. Advances OS op SS task post bounds hash m ws w ws z) (sym h.1) (advances-self ws w))
  follows-advances (s ∷ rest) ws vs w v h =
      advances-then OS op SS task post bounds hash m ws h.0 vs w h.1 v (step-advances s ws h.0 w h.1 h.2) (follows-advances rest h.0 vs h.1 v h.3)

  pub follows-then : (xs ys : List ℕ) (ws vs us : List (Worker O S)) (w v u : LinksView) → Follows OS want op most idle_turns SS task post bounds held unclosed hash m xs ws w vs v
      → Follows OS want op most idle_turns SS task post bounds held unclosed hash m ys vs v us u → Follows OS want op most idle_turns SS task post bounds held unclosed hash m (xs ++ ys) ws w us u
  follows-then [] ys ws vs us w v u a b =
      subst (λ z. Follows OS want op most idle_turns SS task post bounds held unclosed hash m ys z w us u) a.0 (subst (λ z. Follows OS want op most idle_turns SS task post bounds held unclosed hash m ys vs z us u) a.1 b)
  follows-then (x ∷ xs) ys ws vs us w v u a b = (a.0, a.1, a.2, follows-then xs ys a.0 vs us a.1 v u a.3 b)

  pub follows-more : (xs : List ℕ) (i : ℕ) (ws vs us : List (Worker O S)) (w v u : LinksView) → Follows OS want op most idle_turns SS task post bounds held unclosed hash m xs ws w vs v
      → Steps OS want op most idle_turns SS task post bounds held unclosed hash m i vs v us u → Follows OS want op most idle_turns SS task post bounds held unclosed hash m (xs ++ i ∷ []) ws w us u
  follows-more xs i ws vs us w v u a b = follows-then xs (i ∷ []) ws vs us w v u a (us, u, b, (refl, refl))

  -- the list's first steps, and the one behind them
  pub follows-at : (xs : List ℕ) (i d : ℕ) (ws vs us : List (Worker O S)) (w v u : LinksView) → i < length xs
      → Follows OS want op most idle_turns SS task post bounds held unclosed hash m (take i xs) ws w vs v → Steps OS want op most idle_turns SS task post bounds held unclosed hash m (get_or xs i d) vs v us u
      → Follows OS want op most idle_turns SS task post bounds held unclosed hash m (take (i + 1) xs) ws w us u
  follows-at xs i d ws vs us w v u lt a b =
      let next : i + 1 ≡ suc i = omega arith in
      subst (λ z. Follows OS want op most idle_turns SS task post bounds held unclosed hash m z ws w us u) (sym (ap (λ z. take z xs) next ∙ take-suc xs i d lt)) (follows-more (take i xs) (get_or xs i d) ws vs us w v u a b)

  pub follows-whole : (xs : List ℕ) (i : ℕ) (ws vs : List (Worker O S)) (w v : LinksView) → length xs ≤ i
      → Follows OS want op most idle_turns SS task post bounds held unclosed hash m (take i xs) ws w vs v → Follows OS want op most idle_turns SS task post bounds held unclosed hash m xs ws w vs v
  follows-whole xs i ws vs w v le a = subst (λ z. Follows OS want op most idle_turns SS task post bounds held unclosed hash m z ws w vs v) (take-all xs i le) a

  pub follows-round : (k : ℕ) (ws vs us : List (Worker O S)) (w v u : LinksView) → Follows OS want op most idle_turns SS task post bounds held unclosed hash m (round k) ws w vs v
      → Steps OS want op most idle_turns SS task post bounds held unclosed hash m k vs v us u → Follows OS want op most idle_turns SS task post bounds held unclosed hash m (round (k + 1)) ws w us u
  follows-round k ws vs us w v u a b =
      let next : k + 1 ≡ suc k = omega arith in
      subst (λ z. Follows OS want op most idle_turns SS task post bounds held unclosed hash m (round z) ws w us u) (sym next) (follows-more (round k) k ws vs us w v u a b)

  pub follows-rounds : (n k j : ℕ) (ws vs us : List (Worker O S)) (w v u : LinksView) → j ≡ k → Follows OS want op most idle_turns SS task post bounds held unclosed hash m (rounds n k) ws w vs v
      → Follows OS want op most idle_turns SS task post bounds held unclosed hash m (round j) vs v us u → Follows OS want op most idle_turns SS task post bounds held unclosed hash m (rounds (n + 1) k) ws w us u
  follows-rounds n k j ws vs us w v u e a b =
      let next : n + 1 ≡ suc n = omega arith in
      subst (λ z. Follows OS want op most idle_turns SS task post bounds held unclosed hash m (rounds z k) ws w us u) (sym next)
      (follows-then (rounds n k) (round k) ws vs us w v u a (subst (λ z. Follows OS want op most idle_turns SS task post bounds held unclosed hash m (round z) vs v us u) e b))
