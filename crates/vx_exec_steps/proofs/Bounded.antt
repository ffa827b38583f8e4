-- A run that was ready: at any moment its workers have gone on by no more steps than the plan needs rounds.
use Rattle.std.proofs.Common.{ℕ, zero, suc, ◌≡◌, ◌<◌, ◌≤◌, ◌+◌, ◌-◌, ◌*◌, List, [], ◌∷◌, length, IsSome, refl, sym, ap, subst, arith, inl, inr, true}
use Rattle.std.proofs.Math.ListN.{get_or}
use Rattle.std.proofs.lemmas.Bool.{cases_lt}
use Rattle.std.specs.List.{All}
use Rattle.vx_rows_values.specs.Values.{Val, Row}
use Rattle.vx_plan_nodes.specs.Plan.{Plan, scan, unary, binary, exchange, Size, one_worker, group_of, size}
use Rattle.vx_plan_nodes.specs.Streams.{workers}
use Rattle.vx_plan_nodes.specs.Workers.{workers_below, crew_size}
use Rattle.vx_plan_nodes.specs.Numbering.{is_fit}
use Rattle.vx_plan_nodes.specs.Routes.{Routing}
use Rattle.vx_ports.specs.Packets.{PacketView, rows_of}
use Rattle.vx_ops.specs.Ledger.{Stream, Ledger, Op}
use Rattle.vx_ops.specs.Turn.{Coming, sum_below}
use Rattle.vx_ops.specs.declared.turn.Want.{Want}
use Rattle.vx_exchange_ends.specs.Tasks.{Task, Post}
use Rattle.vx_exchange_ends.specs.Queued.{consumers_of}
use Rattle.vx_worker.specs.Fragment.{RunModel, IsSet, goes}
use Rattle.vx_worker.specs.Trace.{Trace}
use Rattle.vx_worker.specs.Trees.{LeavesComing, IsFormed, fragment-formed}
use Rattle.vx_worker.specs.Worker.{Role, role_of, outcome_in}
use Rattle.vx_worker.specs.Remaining.{frag_most, frag_idle, steps_left_in, steps_left}
use Rattle.vx_worker.specs.declared.worker.Worker.{Worker}
use Rattle.vx_worker.specs.declared.worker.WorkerState.{WorkerState}
use Rattle.vx_worker.specs.declared.worker.WorkerState.TheVariants.{Running, Failing, Draining, Well, Failed}
use Rattle.vx_exec_layout.specs.Needed.{rounds_needed}
use Rattle.vx_exec_steps.specs.LinksView.{LinksView}
use Rattle.vx_exec_steps.specs.Agrees.{trace_at}
use Rattle.vx_exec_steps.specs.Roles.{no_role, role_at, RolesBelow, Wired}
use Rattle.vx_exec_steps.specs.Runs.{roles_of}
use Rattle.vx_exec_steps.specs.Ready.{Ready, IsRested}
use Rattle.vx_exec_steps.specs.Verdicts.{HasEnded}
use Rattle.vx_exec_steps.proofs.Arrivals.{after_trace, arrived}
use Rattle.vx_exec_steps.proofs.Build.{crew-count, crew-root, crew-below}
use Rattle.vx_exec_steps.proofs.Needs.{no-more, uses-all}
use Rattle.vx_exec_steps.proofs.RunSteps.{get-map, map-length}
use Rattle.vx_exec_steps.proofs.Spending.{IsFitted, Track}

pub some-workers : (sizes : ℕ → ℕ) (z : Size) → ((k : ℕ) → 0 < sizes k) → 0 < workers sizes z
some-workers sizes one_worker h = omega arith
some-workers sizes (group_of k) h = h k

sum-both : (n : ℕ) (f g : ℕ → ℕ) → sum_below n (λ i. f i + g i) ≡ sum_below n f + sum_below n g
sum-both zero f g = omega arith
sum-both (suc n) f g = let a = sum-both n f g in omega (arith, a)

one-of : (n : ℕ) (f : ℕ → ℕ) (i : ℕ) → i < n → f i ≤ sum_below n f
one-of zero f i l = absurd (omega (arith, l))
one-of (suc n) f i l = elim (cases_lt i n) [
  | inl k ↦ let a = one-of n f i k in omega (arith, a)
  | inr k ↦ let e : f i ≡ f n = ap f (let d : i ≡ n = omega (arith, l, k) in d) in omega (arith, e)
]

-- the operators of each worker of a plan stand where they have their inputs
roles-formed : (S : RunModel) (roles : ℕ → Role) (p : Plan) (next : ℕ) → RolesBelow S roles p next → (a : ℕ) → next ≤ a → a < next + workers_below S.sizes p → IsFormed (roles a).frag
roles-formed S roles (scan n c r z s) next rb a lo hi = absurd (omega (arith, lo, hi))
roles-formed S roles (unary n c op p) next rb a lo hi = roles-formed S roles p next rb a lo hi
roles-formed S roles (binary n c op p q) next rb a lo hi = elim (cases_lt a (next + workers_below S.sizes p)) [
  | inl l ↦ roles-formed S roles p next rb.0 a lo l
  | inr l ↦ roles-formed S roles q (next + workers_below S.sizes p) rb.1 a l (omega (arith, hi))
]
roles-formed S roles (exchange n c k merge p) next rb a lo hi = elim (cases_lt a (next + workers S.sizes (size p))) [
  | inl l ↦
      let at : next + (a - next) ≡ a = omega (arith, lo) in
      subst (λ z. IsFormed (roles z).frag) at
      (subst IsFormed (sym (rb.0 (a - next) (omega (arith, lo, l))).frag) (fragment-formed S (a - next) p))
  | inr l ↦ roles-formed S roles p (next + workers S.sizes (size p)) rb.1 a l (omega (arith, hi))
]

-- a worker that has not ended has a step left
some-left : {O S : Type 0} (most idle_turns : O → Coming → ℕ) (post : S → Post) (held : S → ℕ → ℕ) (unclosed : S → ℕ) (w : Worker O S) (c : LeavesComing) → (HasEnded w → ⊥)
    → 1 ≤ steps_left most idle_turns post held unclosed w c
some-left {O} {S} most idle_turns post held unclosed w c still = go w.phase still
  where
    go : (f : WorkerState) → (IsSome (outcome_in f) → ⊥) → 1 ≤ steps_left_in most idle_turns post held unclosed f w c
    go Running h = omega arith
    go (Failing f) h = omega arith
    go (Draining f) h = omega arith
    go Well h = absurd (h refl)
    go (Failed f) h = absurd (h refl)

module _ {O S : Type 0} (OS : O → Ledger → Type 0) (want : O → Want) (op : O → Op) (most idle_turns : O → Coming → ℕ) (SS : S → Routing → Stream → (ℕ → List PacketView) → Type 0) (task : S → Task) (post : S → Post)
    (bounds : S → List Val) (held : S → ℕ → ℕ) (unclosed : S → ℕ) (hash : List ℕ → Row → ℕ → ℕ) (m : ℕ → ℕ → List Row) where
  -- the role of one of them
  role-of : (bs : List (Worker O S)) (a : ℕ) (d : Worker O S) → a < length bs → role_at (roles_of OS op SS task post bounds hash m bs) a ≡ role_of op post bounds (get_or bs a d)
  role-of bs a d l = get-map (role_of op post bounds) bs a d no_role l

  -- how many they are
  crew-length : (W : RunModel) (p : Plan) (bs : List (Worker O S)) (w : LinksView) → Ready OS op SS task post bounds hash m W p bs w → length bs ≡ crew_size W.sizes p
  crew-length W p bs w ready =
      let a = map-length (role_of op post bounds) bs in
      let b = crew-count W p (roles_of OS op SS task post bounds hash m bs) w ready.crew in
      omega (arith, a, b)

  -- the workers of a run that is ready are fitted
  pub crew-fitted : (W : RunModel) (p : Plan) (bs : List (Worker O S)) (w : LinksView) → Ready OS op SS task post bounds hash m W p bs w → All (IsRested op most idle_turns post held unclosed) bs
      → All (IsFitted op) bs
  crew-fitted W p bs w ready rested a d l = record {
    formed = subst (λ (r : Role). IsFormed r.frag) (role-of bs a d l) (elim (cases_lt 0 a) [
      | inl z ↦
          let n = crew-length W p bs w ready in
          roles-formed W (role_at roles) p 1 (crew-below W p roles w ready.crew) a z (omega (arith, l, n))
      | inr z ↦
          let at : 0 ≡ a = omega (arith, z) in
          subst (λ k. IsFormed (role_at roles k).frag) at (subst IsFormed (sym (crew-root W p roles w ready.crew).frag) (fragment-formed W 0 p))
    ]);
    takes = (rested a d l).takes;
  }
    where
      roles : List Role
      roles = roles_of OS op SS task post bounds hash m bs

  module _ (W : RunModel) (p : Plan) (bs vs : List (Worker O S)) (w v : LinksView) (ts : List Trace) (spent : ℕ → ℕ) (set : IsSet W) (fit : is_fit W.relation_of p ≡ true)
      (ready : Ready OS op SS task post bounds hash m W p bs w) (rested : All (IsRested op most idle_turns post held unclosed) bs) (wired : Wired W v p 0 1)
      (track : Track OS want op most idle_turns SS task post bounds held unclosed hash m (goes W) bs vs v ts spent) where
    abbrev roles : ℕ → Role
    roles a = role_at (roles_of OS op SS task post bounds hash m bs) a

    -- the steps by which a worker went on, and those that it has left if nothing more comes
    abbrev used : Worker O S → ℕ → ℕ
    used d a = spent a + steps_left most idle_turns post held unclosed (get_or vs a d) no-more

    -- what a worker put is no more than its operators may return of what came to it
    puts-few : (d : Worker O S) (a : ℕ) → a < length bs → (j : ℕ) → length (rows_of ((trace_at ts a).sent j)) ≤ frag_most (roles a).frag (after_trace m (trace_at ts a) no-more)
    puts-few d a l j =
        let c = after_trace m (trace_at ts a) no-more in
        let x = (track.each a d l).rows no-more j in
        let y = (rested a d l).starts.rows c j in
        subst (λ (r : Role). length (rows_of ((trace_at ts a).sent j)) ≤ frag_most r.frag c) (sym (role-of bs a d l)) (omega (arith, x, y))

    -- its steps are no more than it had at first with what came to it, and one for each morsel and packet of this
    uses-most : (d : Worker O S) (a : ℕ) → a < length bs →
        let n = consumers_of (roles a).post in
        let c = after_trace m (trace_at ts a) no-more in
        used d a ≤ (n + 1) * frag_most (roles a).frag c + frag_idle (roles a).frag c + (2 * n + 4) + arrived (roles a).frag (trace_at ts a)
    uses-most d a l =
        let c = after_trace m (trace_at ts a) no-more in
        let x = (track.each a d l).steps no-more in
        let y = (rested a d l).starts.steps c in
        subst (λ (r : Role). used d a ≤ (consumers_of r.post + 1) * frag_most r.frag c + frag_idle r.frag c + (2 * consumers_of r.post + 4) + arrived r.frag (trace_at ts a)) (sym (role-of bs a d l))
        (omega (arith, x, y))

    bounded : (d : Worker O S) → sum_below (crew_size W.sizes p) (used d) ≤ rounds_needed W.db W.sizes p
    bounded d =
        let all = roles_of OS op SS task post bounds hash m bs in
        let n = crew-length W p bs w ready in
        uses-all W set m ready.morsels v ts track.stand.agrees roles (length bs) (λ a l. (track.each a d l).few) (puts-few d) (used d) (uses-most d) p fit
        (some-workers W.sizes (size p) set.some_workers) wired (crew-root W p all w ready.crew) (crew-below W p all w ready.crew) (omega (arith, n))

    -- all steps by which the workers went on
    pub spends-within : sum_below (length bs) spent ≤ rounds_needed W.db W.sizes p
    spends-within = go bs refl
      where
        go : (xs : List (Worker O S)) → bs ≡ xs → sum_below (length bs) spent ≤ rounds_needed W.db W.sizes p
        go [] e =
            let n = crew-length W p bs w ready in
            let none : length bs ≡ 0 = ap (λ (z : List (Worker O S)). length z) e in
            absurd (omega (arith, n, none))
        go (d ∷ rest) e =
            let n = crew-length W p bs w ready in
            let a = bounded d in
            let b = sum-both (crew_size W.sizes p) spent (λ i. steps_left most idle_turns post held unclosed (get_or vs i d) no-more) in
            subst (λ k. sum_below k spent ≤ rounds_needed W.db W.sizes p) (sym n) (omega (arith, a, b))

    -- where one of them has not ended, they have not needed all rounds yet
    pub spends-less : (a : ℕ) (d : Worker O S) → a < length bs → (HasEnded (get_or vs a d) → ⊥) → sum_below (length bs) spent + 1 ≤ rounds_needed W.db W.sizes p
    spends-less a d l still =
        let n = crew-length W p bs w ready in
        let left : ℕ → ℕ = λ i. steps_left most idle_turns post held unclosed (get_or vs i d) no-more in
        let h = bounded d in
        let b = sum-both (crew_size W.sizes p) spent left in
        let one = one-of (crew_size W.sizes p) left a (subst (λ k. a < k) n l) in
        let some = some-left most idle_turns post held unclosed (get_or vs a d) no-more still in
        subst (λ k. sum_below k spent + 1 ≤ rounds_needed W.db W.sizes p) (sym n) (omega (arith, h, b, one, some))
