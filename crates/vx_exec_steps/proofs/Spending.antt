-- How many steps the workers of a run went on by: what each had at the beginning, and what came to it since, pays for them.
use Rattle.std.proofs.Common.{ℕ, ◌≡◌, ◌<◌, ◌≤◌, ◌+◌, List, length, map, refl, sym, ap, ◌∙◌, subst, arith, inl, inr}
use Rattle.std.proofs.Math.ListN.{get_or, set}
use Rattle.std.proofs.Math.Seq.{map-set_same}
use Rattle.std.proofs.lemmas.Bool.Decides.{eqb_tells}
use Rattle.std.proofs.lemmas.List.{get_or-set_same, get_or-set_other}
use Rattle.std.specs.List.{All, Contains}
use Rattle.vx_rows_values.specs.Values.{Val, Row}
use Rattle.vx_plan_nodes.specs.Routes.{Routing}
use Rattle.vx_ports.specs.Packets.{PacketView, rows_of}
use Rattle.vx_ops.specs.Ledger.{Stream, Ledger, Op}
use Rattle.vx_ops.specs.Turn.{Coming, with_more}
use Rattle.vx_ops.specs.declared.turn.Want.{Want}
use Rattle.vx_exchange_ends.specs.Tasks.{Task, Post}
use Rattle.vx_worker.specs.Fragment.{Frag}
use Rattle.vx_worker.specs.Trace.{Trace, Event, empty_trace, added}
use Rattle.vx_worker.specs.Trees.{LeavesComing, shape, IsFormed, TakesFrom}
use Rattle.vx_worker.specs.Worker.{Role, role_of, tree_of, inputs_of, outcome_of, WorkerStands}
use Rattle.vx_worker.specs.Remaining.{before_event, arrivals, progress, steps_left, rows_left, rows_held, Spends}
use Rattle.vx_worker.specs.declared.worker.StepOutcome.{StepOutcome}
use Rattle.vx_worker.specs.declared.worker.Worker.{Worker}
use Rattle.vx_exec_steps.specs.LinksView.{LinksView}
use Rattle.vx_exec_steps.specs.Agrees.{trace_at}
use Rattle.vx_exec_steps.specs.Runs.{roles_of, Stand}
use Rattle.vx_exec_steps.specs.Following.{Steps}
use Rattle.vx_exec_steps.specs.Idle.{IsIdle}
use Rattle.vx_exec_steps.proofs.Arrivals.{after_trace, arrived, AreFewPackets, after-none, after-event, sent-event, arrived-event, few-event}
use Rattle.vx_exec_steps.proofs.Beginning.{idle-agrees, empty-at, fresh-zip}
use Rattle.vx_exec_steps.proofs.RunSteps.{zip-at, zip-length, get-map, map-length}

-- each operator of a worker stands where it has its inputs, and it takes of producers of its own leaves
pub record IsFitted {O S : Type 0} (op : O → Op) (w : Worker O S) : Type 0 where
  pub formed : IsFormed (shape op (tree_of w))
  pub takes : (x i : ℕ) → Contains (inputs_of w) (x, i) → TakesFrom x i (shape op (tree_of w))

module _ {O S : Type 0} (op : O → Op) (most idle_turns : O → Coming → ℕ) (post : S → Post) (held : S → ℕ → ℕ) (unclosed : S → ℕ) (m : ℕ → ℕ → List Row) where
  -- a worker that began as b is now w, with this trace, and went on by so many steps: whatever may still come, those steps and the ones that it has left are no
  -- more than it had at the beginning, were all of that to come, and one for each morsel and packet that came; so are the rows that it put, holds and may return
  pub record Spent (b w : Worker O S) (t : Trace) (n : ℕ) : Type 0 where
    pub steps : (c : LeavesComing) → steps_left most idle_turns post held unclosed w c + n ≤ steps_left most idle_turns post held unclosed b (after_trace m t c) + arrived (shape op (tree_of b)) t
    pub rows : (c : LeavesComing) (j : ℕ)
        → length (rows_of (t.sent j)) + (rows_held most idle_turns post held unclosed w j + rows_left most idle_turns post held unclosed w c)
        ≤ rows_held most idle_turns post held unclosed b j + rows_left most idle_turns post held unclosed b (after_trace m t c)
    pub few : (x i : ℕ) → AreFewPackets (t.came x i)

  -- it made no step
  pub spent-none : (b : Worker O S) → Spent b b empty_trace 0
  spent-none b = record {
    steps = λ c.
        subst (λ z. steps_left most idle_turns post held unclosed b c + 0 ≤ steps_left most idle_turns post held unclosed b z + arrived (shape op (tree_of b)) empty_trace) (sym (after-none m c))
        (omega arith);
    rows = λ c j.
        subst (λ z. 0 + (rows_held most idle_turns post held unclosed b j + rows_left most idle_turns post held unclosed b c)
        ≤ rows_held most idle_turns post held unclosed b j + rows_left most idle_turns post held unclosed b z) (sym (after-none m c))
        (omega arith);
    few = λ x i. omega arith;
  }

  -- it made one step more
  pub spent-step : (b w v : Worker O S) (t : Trace) (n : ℕ) (e : Event) (answer : StepOutcome) (f : Frag) (inputs : List (ℕ × ℕ)) → shape op (tree_of b) ≡ f
      → ((x i : ℕ) → Contains inputs (x, i) → TakesFrom x i f)
      → Spends most idle_turns post held unclosed m f inputs w v t e answer → Spent b w t n → Spent b v (added t e) (n + progress (outcome_of w) answer)
  spent-step b w v t n e answer f inputs is takes s h = record {
    steps = λ c.
        let a = s.steps c in
        let d = h.steps (before_event m e c) in
        let came : arrived (shape op (tree_of b)) t + arrivals e ≤ arrived (shape op (tree_of b)) (added t e) =
        subst (λ z. arrived z t + arrivals e ≤ arrived z (added t e)) (sym is) (arrived-event f inputs t e takes s.event)
        in
        subst (λ z. steps_left most idle_turns post held unclosed v c + (n + progress (outcome_of w) answer)
        ≤ steps_left most idle_turns post held unclosed b z + arrived (shape op (tree_of b)) (added t e)) (sym (after-event m t e c))
        (omega (arith, a, d, came));
    rows = λ c j.
        let a = s.rows c j in
        let d = h.rows (before_event m e c) j in
        let sent = sent-event t e j in
        subst (λ z. length (rows_of ((added t e).sent j)) + (rows_held most idle_turns post held unclosed v j + rows_left most idle_turns post held unclosed v c)
        ≤ rows_held most idle_turns post held unclosed b j + rows_left most idle_turns post held unclosed b z) (sym (after-event m t e c))
        (omega (arith, a, d, sent));
    few = few-event f inputs t e s.event h.few;
  }

module _ {O S : Type 0} (OS : O → Ledger → Type 0) (want : O → Want) (op : O → Op) (most idle_turns : O → Coming → ℕ) (SS : S → Routing → Stream → (ℕ → List PacketView) → Type 0) (task : S → Task) (post : S → Post)
    (bounds : S → List Val) (held : S → ℕ → ℕ) (unclosed : S → ℕ) (hash : List ℕ → Row → ℕ → ℕ) (m : ℕ → ℕ → List Row) where
  -- workers that began as bs are now ws, with these traces, and went on by so many steps each
  pub record Track (goes : Routing) (bs ws : List (Worker O S)) (w : LinksView) (ts : List Trace) (spent : ℕ → ℕ) : Type 0 where
    pub stand : Stand OS op SS task post bounds hash m goes ws w ts
    pub roles : roles_of OS op SS task post bounds hash m ws ≡ roles_of OS op SS task post bounds hash m bs
    pub each : (i : ℕ) (d : Worker O S) → i < length bs → Spent op most idle_turns post held unclosed m (get_or bs i d) (get_or ws i d) (trace_at ts i) (spent i)

  -- workers that made no step
  pub track-start : (goes : Routing) (bs : List (Worker O S)) (w : LinksView) → IsIdle w → All (λ v. WorkerStands OS op SS task goes m v empty_trace) bs
      → Track goes bs bs w (map (λ (v : Worker O S). empty_trace) bs) (λ i. 0)
  track-start goes bs w idle fresh = record {
    stand = record {
      workers = fresh-zip (WorkerStands OS op SS task goes m) bs fresh;
      agrees = idle-agrees w (map (λ (v : Worker O S). empty_trace) bs) idle (empty-at bs);
    };
    roles = refl;
    each = λ i d l.
        subst (λ z. Spent op most idle_turns post held unclosed m (get_or bs i d) (get_or bs i d) z 0) (sym (empty-at bs i))
        (spent-none op most idle_turns post held unclosed m (get_or bs i d));
  }

  -- how many workers there are
  pub track-length : (goes : Routing) (bs ws : List (Worker O S)) (w : LinksView) (ts : List Trace) (spent : ℕ → ℕ) → Track goes bs ws w ts spent → length ws ≡ length bs
  track-length goes bs ws w ts spent h =
      let a = map-length (role_of op post bounds) ws in
      let b = map-length (role_of op post bounds) bs in
      let c = ap (λ (z : List Role). length z) h.roles in
      omega (arith, a, b, c)

  -- what one of them is to do stays
  role-here : (bs ws : List (Worker O S)) (i : ℕ) (d : Worker O S) → roles_of OS op SS task post bounds hash m ws ≡ roles_of OS op SS task post bounds hash m bs → i < length ws → i < length bs
      → role_of op post bounds (get_or ws i d) ≡ role_of op post bounds (get_or bs i d)
  role-here bs ws i d e l k =
      let r = role_of op post bounds d in
      sym (get-map (role_of op post bounds) ws i d r l) ∙ ap (λ z. get_or z i r) e ∙ get-map (role_of op post bounds) bs i d r k

  -- one of them made a step: the traces that stand are known
  pub track-step : (goes : Routing) (bs ws vs : List (Worker O S)) (w v : LinksView) (ts : List Trace) (spent : ℕ → ℕ) (i : ℕ) → All (IsFitted op) bs → Track goes bs ws w ts spent
      → (s : Steps OS want op most idle_turns SS task post bounds held unclosed hash m i ws w vs v)
      → Stand OS op SS task post bounds hash m goes vs v (set ts i (added (trace_at ts i) s.event))
      → Track goes bs vs v (set ts i (added (trace_at ts i) s.event)) (with_more i (progress (outcome_of s.before) s.answer) spent)
  track-step goes bs ws vs w v ts spent i fitted h s stand = record {
    stand = stand;
    roles = ap (λ z. map (role_of op post bounds) z) s.now ∙ map-set_same (role_of op post bounds) ws i s.after s.before (s.role ∙ ap (role_of op post bounds) (sym (s.here s.before))) ∙ h.roles;
    each = λ j d l. elim (eqb_tells j i) [
      | inl q ↦ rw q.0 (mine j d l q.1)
      | inr q ↦ rw q.0 (other j d l q.1)
    ];
  }
    where
      within : i < length bs
      within = subst (λ z. i < z) (track-length goes bs ws w ts spent h) s.within

      traces : i < length ts
      traces = subst (λ z. i < z) (zip-length (WorkerStands OS op SS task goes m) ws ts h.stand.workers) s.within

      -- what it was to do at the beginning
      role-is : (d : Worker O S) → role_of op post bounds (get_or bs i d) ≡ role_of op post bounds s.before
      role-is d = sym (role-here bs ws i d h.roles s.within within) ∙ ap (role_of op post bounds) (s.here d)

      here : (d : Worker O S) → Spent op most idle_turns post held unclosed m (get_or bs i d) s.after (added (trace_at ts i) s.event) (spent i + progress (outcome_of s.before) s.answer)
      here d =
          let b = get_or bs i d in
          let R = WorkerStands OS op SS task goes m in
          let fit = fitted i d within in
          let frag : shape op (tree_of b) ≡ shape op (tree_of s.before) = ap (λ (r : Role). r.frag) (role-is d) in
          let formed : IsFormed (shape op (tree_of s.before)) = subst IsFormed frag fit.formed in
          let takes : (x k : ℕ) → Contains (inputs_of s.before) (x, k) → TakesFrom x k (shape op (tree_of s.before)) =
          subst (λ (r : Role). (x k : ℕ) → Contains r.inputs (x, k) → TakesFrom x k r.frag) (role-is d) fit.takes
          in
          let stood : R s.before (trace_at ts i) = subst (λ z. R z (trace_at ts i)) (s.here d) (zip-at R ws ts i d empty_trace s.within h.stand.workers) in
          let old : Spent op most idle_turns post held unclosed m b s.before (trace_at ts i) (spent i) =
          subst (λ z. Spent op most idle_turns post held unclosed m b z (trace_at ts i) (spent i)) (s.here d) (h.each i d within)
          in
          spent-step op most idle_turns post held unclosed m b s.before s.after (trace_at ts i) (spent i) s.event s.answer (shape op (tree_of s.before)) (inputs_of s.before) frag takes
          (s.spends goes (trace_at ts i) formed stood) old

      at : (d : Worker O S) → get_or vs i d ≡ s.after
      at d = ap (λ z. get_or z i d) s.now ∙ get_or-set_same ws i s.after d s.within

      mine : (j : ℕ) (d : Worker O S) → j < length bs → j ≡ i
          → Spent op most idle_turns post held unclosed m (get_or bs j d) (get_or vs j d) (trace_at (set ts i (added (trace_at ts i) s.event)) j) (spent j + progress (outcome_of s.before) s.answer)
      mine j d l is =
          let n : ℕ → ℕ = λ z. spent z + progress (outcome_of s.before) s.answer in
          let us = set ts i (added (trace_at ts i) s.event) in
          subst (λ z. Spent op most idle_turns post held unclosed m (get_or bs z d) (get_or vs z d) (trace_at us z) (n z)) (sym is)
          (subst (λ z. Spent op most idle_turns post held unclosed m (get_or bs i d) z (trace_at us i) (n i)) (sym (at d))
          (subst (λ z. Spent op most idle_turns post held unclosed m (get_or bs i d) s.after z (n i)) (sym (get_or-set_same ts i (added (trace_at ts i) s.event) empty_trace traces)) (here d)))

      other : (j : ℕ) (d : Worker O S) → j < length bs → (j ≡ i → ⊥)
          → Spent op most idle_turns post held unclosed m (get_or bs j d) (get_or vs j d) (trace_at (set ts i (added (trace_at ts i) s.event)) j) (spent j)
      other j d l ne =
          let us = set ts i (added (trace_at ts i) s.event) in
          let worker : get_or vs j d ≡ get_or ws j d = ap (λ z. get_or z j d) s.now ∙ get_or-set_other ws i j s.after d ne in
          subst (λ z. Spent op most idle_turns post held unclosed m (get_or bs j d) z (trace_at us j) (spent j)) (sym worker)
          (subst (λ z. Spent op most idle_turns post held unclosed m (get_or bs j d) (get_or ws j d) z (spent j)) (sym (get_or-set_other ts i j (added (trace_at ts i) s.event) empty_trace ne)) (h.each j d l))
