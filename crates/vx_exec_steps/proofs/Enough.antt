-- Workers of which one always goes on: so many rounds bring as many steps by which some worker goes on, or the end of all.
use Rattle.std.proofs.Common.{ℕ, zero, suc, ◌≡◌, ◌<◌, ◌≤◌, ◌+◌, ◌⊎◌, List, [], ◌∷◌, ◌++◌, length, Option, Some, None, IsSome, Contains, refl, sym, ap, ◌∙◌, subst, arith, inl, inr, append_assoc, append-nil}
use Rattle.std.proofs.lemmas.List.Elements.{Contains-append_left, Contains-push}
use Rattle.std.proofs.Math.ListN.{get_or, set}
use Rattle.std.proofs.lemmas.Bool.{cases_lt}
use Rattle.std.proofs.lemmas.Bool.Decides.{eqb_tells}
use Rattle.std.proofs.lemmas.List.{get_or-set_same, get_or-set_other, length-set}
use Rattle.std.specs.List.{All}
use Rattle.vx_rows_values.specs.Values.{Val, Row}
use Rattle.vx_plan_nodes.specs.Routes.{Routing}
use Rattle.vx_ports.specs.Packets.{PacketView}
use Rattle.vx_ops.specs.Ledger.{Stream, Ledger, Op}
use Rattle.vx_ops.specs.Turn.{Coming, with_more, sum_below}
use Rattle.vx_ops.specs.declared.turn.Want.{Want}
use Rattle.vx_ops.proofs.Costs.{sum-more}
use Rattle.vx_exchange_ends.specs.Tasks.{Task, Post}
use Rattle.vx_worker.specs.Trace.{Trace, added}
use Rattle.vx_worker.specs.Worker.{outcome_of}
use Rattle.vx_worker.specs.Remaining.{progress}
use Rattle.vx_worker.specs.declared.worker.Worker.{Worker}
use Rattle.vx_worker.specs.declared.worker.WorkerOutcome.{WorkerOutcome}
use Rattle.vx_worker.specs.declared.worker.StepOutcome.{StepOutcome}
use Rattle.vx_worker.specs.declared.worker.StepOutcome.TheVariants as step_outcome
use Rattle.vx_exec_steps.specs.LinksView.{LinksView}
use Rattle.vx_exec_steps.specs.Agrees.{trace_at}
use Rattle.vx_exec_steps.specs.Runs.{Stand}
use Rattle.vx_exec_steps.specs.Following.{round, rounds, Steps, Follows}
use Rattle.vx_exec_steps.specs.Schedules.{HoldsRounds}
use Rattle.vx_exec_steps.specs.Verdicts.{HasEnded, EndsAt}
use Rattle.vx_exec_steps.proofs.Spending.{IsFitted, Track, track-length, track-step}

-- what is read in range does not hang on the default
get-any : {A : Type 0} (xs : List A) (i : ℕ) (d e : A) → i < length xs → get_or xs i d ≡ get_or xs i e
get-any [] i d e l = absurd (omega (arith, l))
get-any (x ∷ xs) zero d e l = refl
get-any (x ∷ xs) (suc i) d e l = get-any xs i d e (omega (arith, l))

-- a step of a worker that had not ended, and did not wait
progress-one : (o : Option WorkerOutcome) (r : StepOutcome) → (IsSome o → ⊥) → (r ≡ step_outcome.Waiting → ⊥) → progress o r ≡ 1
progress-one None step_outcome.Moved h k = refl
progress-one None step_outcome.Waiting h k = absurd (k refl)
progress-one None step_outcome.Ended h k = refl
progress-one (Some o) r h k = absurd (h refl)

some-or-none : (o : Option WorkerOutcome) → IsSome o ⊎ (IsSome o → ⊥)
some-or-none None = inr (λ e. cc)
some-or-none (Some o) = inl refl

-- each number of a round is in it
round-holds : (k i : ℕ) → i < k → Contains (round k) i
round-holds zero i l = absurd (omega (arith, l))
round-holds (suc k) i l = elim (cases_lt i k) [
  | inl h ↦ Contains-append_left (round k) (k ∷ []) i (round-holds k i h)
  | inr h ↦ let e : k ≡ i = omega (arith, l, h) in subst (λ z. Contains (round k ++ k ∷ []) z) e (Contains-push (round k) k)
]

round-front : (n k : ℕ) → round k ++ rounds n k ≡ rounds n k ++ round k
round-front zero k = append-nil (round k)
round-front (suc n) k = sym (append_assoc (round k) (rounds n k) (round k)) ∙ ap (λ z. z ++ round k) (round-front n k)

-- so rounds hold as many rounds
pub rounds-hold : (n k : ℕ) → HoldsRounds n k (rounds n k)
rounds-hold zero k = tt
rounds-hold (suc n) k = (round k, rounds n k, round-front n k, round-holds k, rounds-hold n k)

-- what is in a list but not at its front
behind-front : (s : ℕ) (rest : List ℕ) (a : ℕ) → (s ≡ a → ⊥) → Contains (s ∷ rest) a → Contains rest a
behind-front s rest a ne h = go h.0 h.1 h.2
  where
    go : (k : ℕ) → k < length (s ∷ rest) → get_or (s ∷ rest) k a ≡ a → Contains rest a
    go zero l e = absurd (ne e)
    go (suc k) l e = (k, omega (arith, l), e)

-- the worker with this number has not ended, and all with greater numbers have
pub record IsLastOpen {O S : Type 0} (ws : List (Worker O S)) (a : ℕ) : Type 0 where
  pub within : a < length ws
  pub still : (d : Worker O S) → HasEnded (get_or ws a d) → ⊥
  pub later : (k : ℕ) → a < k → k < length ws → EndsAt ws k

-- where not all have ended, there is one
last-open : {O S : Type 0} (ws : List (Worker O S)) (d : Worker O S) (n : ℕ) → n ≤ length ws → ((k : ℕ) → n ≤ k → k < length ws → EndsAt ws k)
    → ((k : ℕ) → k < length ws → EndsAt ws k) ⊎ ((a : ℕ) × IsLastOpen ws a)
last-open ws d zero le h = inl (λ k l. h k (omega arith) l)
last-open ws d (suc n) le h = elim (some-or-none (outcome_of (get_or ws n d))) [
  | inl e ↦ last-open ws d n (omega (arith, le)) (λ k lo l. elim (eqb_tells k n) [
    | inl q ↦ λ x. subst HasEnded (get-any ws k d x l) (subst (λ z. HasEnded (get_or ws z d)) (sym q.1) e)
    | inr q ↦ let ne = q.1 in h k (omega (arith, lo, ne)) l
  ])
  | inr e ↦ inr (
    n,
    record {
      within = omega (arith, le);
      still = λ x k. e (subst HasEnded (get-any ws n x d (omega (arith, le))) k);
      later = λ k lo l. h k (omega (arith, lo)) l;
    },
  )
]

-- all have ended, or there is one
pub all-or-last : {O S : Type 0} (ws : List (Worker O S)) → All HasEnded ws ⊎ ((a : ℕ) × IsLastOpen ws a)
all-or-last [] = inl (λ k d l. absurd (omega (arith, l)))
all-or-last (w ∷ ws) = elim (last-open (w ∷ ws) w (length (w ∷ ws)) (omega arith) (λ k lo l. absurd (omega (arith, lo, l)))) [
  | inl h ↦ inl (λ k d l. h k l d)
  | inr h ↦ inr h
]

module _ {O S : Type 0} (OS : O → Ledger → Type 0) (want : O → Want) (op : O → Op) (most idle_turns : O → Coming → ℕ) (SS : S → Routing → Stream → (ℕ → List PacketView) → Type 0) (task : S → Task) (post : S → Post)
    (bounds : S → List Val) (held : S → ℕ → ℕ) (unclosed : S → ℕ) (hash : List ℕ → Row → ℕ → ℕ) (m : ℕ → ℕ → List Row) where
  -- a worker that has ended stays so
  ends-on : (i : ℕ) (ws vs : List (Worker O S)) (w v : LinksView) → Steps OS want op most idle_turns SS task post bounds held unclosed hash m i ws w vs v → (k : ℕ) → EndsAt ws k → EndsAt vs k
  ends-on i ws vs w v s k h d = elim (eqb_tells k i) [
    | inl q ↦
        let ended : HasEnded s.before = subst HasEnded (s.here d) (subst (λ z. HasEnded (get_or ws z d)) q.1 (h d)) in
        let at : get_or vs k d ≡ s.after = ap (λ z. get_or z k d) s.now ∙ ap (λ z. get_or (set ws i s.after) z d) q.1 ∙ get_or-set_same ws i s.after d s.within in
        subst HasEnded (sym at) (subst HasEnded (sym (s.still ended)) ended)
    | inr q ↦ subst HasEnded (sym (ap (λ z. get_or z k d) s.now ∙ get_or-set_other ws i k s.after d q.1)) (h d)
  ]

  same-length : (i : ℕ) (ws vs : List (Worker O S)) (w v : LinksView) → Steps OS want op most idle_turns SS task post bounds held unclosed hash m i ws w vs v → length vs ≡ length ws
  same-length i ws vs w v s = ap (λ (z : List (Worker O S)). length z) s.now ∙ length-set ws i s.after

  all-end-on : (steps : List ℕ) (ws vs : List (Worker O S)) (w v : LinksView) → Follows OS want op most idle_turns SS task post bounds held unclosed hash m steps ws w vs v → All HasEnded ws → All HasEnded vs
  all-end-on [] ws vs w v h all = subst (λ z. All HasEnded z) (sym h.0) all
  all-end-on (s ∷ rest) ws vs w v h all =
      all-end-on rest h.0 vs h.1 v h.3 (λ k d l. ends-on s ws h.0 w h.1 h.2 k (λ e. all k e (subst (λ z. k < z) (same-length s ws h.0 w h.1 h.2) l)) d)

  -- steps of two lists, one behind the other
  follows-parts : (xs ys : List ℕ) (ws us : List (Worker O S)) (w u : LinksView) → Follows OS want op most idle_turns SS task post bounds held unclosed hash m (xs ++ ys) ws w us u
      → (vs : List (Worker O S)) × (v : LinksView) × Follows OS want op most idle_turns SS task post bounds held unclosed hash m xs ws w vs v
      × Follows OS want op most idle_turns SS task post bounds held unclosed hash m ys vs v us u
  follows-parts [] ys ws us w u h = (ws, w, (refl, refl), h)
  follows-parts (x ∷ xs) ys ws us w u h = let k = follows-parts xs ys h.0 us h.1 u h.3 in (k.0, k.1, (h.0, h.1, h.2, k.2), k.3)

  -- the last that has not ended is still that, when another made a step
  last-stays : (i a : ℕ) (ws vs : List (Worker O S)) (w v : LinksView) → Steps OS want op most idle_turns SS task post bounds held unclosed hash m i ws w vs v → (i ≡ a → ⊥) → IsLastOpen ws a
      → IsLastOpen vs a
  last-stays i a ws vs w v s ne h =
      let same = same-length i ws vs w v s in
      record {
        within = subst (λ z. a < z) (sym same) h.within;
        still = λ d e. h.still d (subst HasEnded (ap (λ z. get_or z a d) s.now ∙ get_or-set_other ws i a s.after d (λ q. ne (sym q))) e);
        later = λ k lo l. ends-on i ws vs w v s k (h.later k lo (subst (λ z. k < z) same l));
      }

  -- workers that began as bs; what is known of them at any time stays so, and has it that one goes on where all with greater numbers have ended
  module _ (goes : Routing) (bs : List (Worker O S)) (fitted : All (IsFitted op) bs) (C : List (Worker O S) → LinksView → List Trace → Type 0)
      (stands : (ws : List (Worker O S)) (w : LinksView) (ts : List Trace) → C ws w ts → Stand OS op SS task post bounds hash m goes ws w ts)
      (next : (i : ℕ) (ws vs : List (Worker O S)) (w v : LinksView) (ts : List Trace) → C ws w ts → (s : Steps OS want op most idle_turns SS task post bounds held unclosed hash m i ws w vs v)
      → C vs v (set ts i (added (trace_at ts i) s.event)))
      (moves : (i : ℕ) (ws vs : List (Worker O S)) (w v : LinksView) (ts : List Trace) → C ws w ts → (s : Steps OS want op most idle_turns SS task post bounds held unclosed hash m i ws w vs v)
      → ((k : ℕ) → i < k → k < length ws → EndsAt ws k) → s.answer ≡ step_outcome.Waiting → ⊥) where
    -- they are at this board, and went on by so many steps
    pub record Going (ws : List (Worker O S)) (w : LinksView) (total : ℕ) : Type 0 where
      pub traces : List Trace
      pub crew : C ws w traces
      pub spent : ℕ → ℕ
      pub track : Track OS want op most idle_turns SS task post bounds held unclosed hash m goes bs ws w traces spent
      pub sum : sum_below (length bs) spent ≡ total

    go-step : (i : ℕ) (ws vs : List (Worker O S)) (w v : LinksView) (n : ℕ) → Going ws w n → (s : Steps OS want op most idle_turns SS task post bounds held unclosed hash m i ws w vs v)
        → Going vs v (n + progress (outcome_of s.before) s.answer)
    go-step i ws vs w v n g s =
        let us = set g.traces i (added (trace_at g.traces i) s.event) in
        let crew = next i ws vs w v g.traces g.crew s in
        let within = subst (λ z. i < z) (track-length OS want op most idle_turns SS task post bounds held unclosed hash m goes bs ws w g.traces g.spent g.track) s.within in
        record {
          traces = us;
          crew = crew;
          spent = with_more i (progress (outcome_of s.before) s.answer) g.spent;
          track = track-step OS want op most idle_turns SS task post bounds held unclosed hash m goes bs ws vs w v g.traces g.spent i fitted g.track s (stands vs v us crew);
          sum = sum-more (length bs) i (progress (outcome_of s.before) s.answer) g.spent within ∙ ap (λ z. z + progress (outcome_of s.before) s.answer) g.sum;
        }

    -- no steps are taken back
    grows : (steps : List ℕ) (ws vs : List (Worker O S)) (w v : LinksView) (n : ℕ) → Follows OS want op most idle_turns SS task post bounds held unclosed hash m steps ws w vs v → Going ws w n
        → (k : ℕ) × (n ≤ k) × Going vs v k
    grows [] ws vs w v n h g = (n, omega arith, subst (λ z. Going z v n) (sym h.0) (subst (λ z. Going ws z n) (sym h.1) g))
    grows (s ∷ rest) ws vs w v n h g =
        let a = grows rest h.0 vs h.1 v (n + progress (outcome_of h.2.before) h.2.answer) h.3 (go-step s ws h.0 w h.1 n g h.2) in
        let le = a.1 in
        (a.0, omega (arith, le), a.2)

    -- where the last that has not ended is among the steps, one went on
    one-goes : (steps : List ℕ) (ws vs : List (Worker O S)) (w v : LinksView) (n a : ℕ) → Follows OS want op most idle_turns SS task post bounds held unclosed hash m steps ws w vs v → Going ws w n
        → IsLastOpen ws a → Contains steps a → (k : ℕ) × (n + 1 ≤ k) × Going vs v k
    one-goes [] ws vs w v n a h g last c = let l = c.1 in absurd (omega (arith, l))
    one-goes (s ∷ rest) ws vs w v n a h g last c = elim (eqb_tells s a) [
      | inl q ↦
          let p = progress (outcome_of h.2.before) h.2.answer in
          let later : (k : ℕ) → s < k → k < length ws → EndsAt ws k = λ k lo l. last.later k (subst (λ z. z < k) q.1 lo) l in
          let still : IsSome (outcome_of h.2.before) → ⊥ = λ e.
          last.still h.2.before (subst (λ z. HasEnded (get_or ws z h.2.before)) q.1 (subst HasEnded (sym (h.2.here h.2.before)) e))
          in
          let one = progress-one (outcome_of h.2.before) h.2.answer still (moves s ws h.0 w h.1 g.traces g.crew h.2 later) in
          let x = grows rest h.0 vs h.1 v (n + p) h.3 (go-step s ws h.0 w h.1 n g h.2) in
          let le = x.1 in
          (x.0, omega (arith, le, one), x.2)
      | inr q ↦
          let p = progress (outcome_of h.2.before) h.2.answer in
          let x = one-goes rest h.0 vs h.1 v (n + p) a h.3 (go-step s ws h.0 w h.1 n g h.2) (last-stays s a ws h.0 w h.1 h.2 q.1 last) (behind-front s rest a q.1 c) in
          let le = x.1 in
          (x.0, omega (arith, le), x.2)
    ]

    -- after so many rounds all have ended, or they went on by as many steps
    pub rounds-go : (count : ℕ) (steps : List ℕ) (ws vs : List (Worker O S)) (w v : LinksView) (n : ℕ) → HoldsRounds count (length bs) steps
        → Follows OS want op most idle_turns SS task post bounds held unclosed hash m steps ws w vs v → Going ws w n
        → All HasEnded vs ⊎ ((k : ℕ) × (n + count ≤ k) × Going vs v k)
    rounds-go zero steps ws vs w v n holds h g = let x = grows steps ws vs w v n h g in let le = x.1 in inr (x.0, omega (arith, le), x.2)
    rounds-go (suc count) steps ws vs w v n holds h g =
        let parts = follows-parts holds.0 holds.1 ws vs w v (subst (λ z. Follows OS want op most idle_turns SS task post bounds held unclosed hash m z ws w vs v) (sym holds.2) h) in
        elim (all-or-last ws) [
          | inl all ↦ inl (all-end-on steps ws vs w v h all)
          | inr last ↦
              let same = track-length OS want op most idle_turns SS task post bounds held unclosed hash m goes bs ws w g.traces g.spent g.track in
              let x = one-goes holds.0 ws parts.0 w parts.1 n last.0 parts.2 g last.1 (holds.3 last.0 (subst (λ z. last.0 < z) same last.1.within)) in
              more x.0 x.1 (rounds-go count holds.1 parts.0 vs parts.1 v x.0 holds.4 parts.3 x.2)
        ]
      where
        more : (j : ℕ) → n + 1 ≤ j → All HasEnded vs ⊎ ((k : ℕ) × (j + count ≤ k) × Going vs v k) → All HasEnded vs ⊎ ((k : ℕ) × (n + suc count ≤ k) × Going vs v k)
        more j le (inl all) = inl all
        more j le (inr x) = let more = x.1 in inr (x.0, omega (arith, le, more), x.2)
