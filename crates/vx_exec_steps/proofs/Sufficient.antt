-- As many rounds as a plan needs bring a run of it to its end: in each round some worker goes on, and all of them have no more steps than that.
use Rattle.std.proofs.Common.{ℕ, zero, suc, ◌≡◌, ◌<◌, ◌≤◌, List, [], ◌∷◌, length, map, IsSome, refl, ap, subst, arith, inl, inr, true}
use Rattle.std.specs.List.{All}
use Rattle.vx_rows_values.specs.Values.{Val, Row}
use Rattle.vx_plan_nodes.specs.Plan.{Plan, size}
use Rattle.vx_plan_nodes.specs.Numbering.{is_fit}
use Rattle.vx_plan_nodes.specs.Routes.{Routing}
use Rattle.vx_ports.specs.Packets.{PacketView}
use Rattle.vx_ops.specs.Ledger.{Stream, Ledger, Op}
use Rattle.vx_ops.specs.Turn.{Coming, sum_below}
use Rattle.vx_ops.specs.declared.turn.Want.{Want}
use Rattle.vx_exchange_ends.specs.Tasks.{Task, Post, IsAt}
use Rattle.vx_exchange_ends.specs.Queued.{consumers_of}
use Rattle.vx_exchange_ends.specs.Streams.{AreStreams}
use Rattle.vx_worker.specs.Fragment.{RunModel, IsSet, goes}
use Rattle.vx_worker.specs.Trace.{Trace, empty_trace}
use Rattle.vx_worker.specs.declared.worker.Worker.{Worker}
use Rattle.vx_worker.specs.declared.worker.StepOutcome.TheVariants as step_outcome
use Rattle.vx_exec_layout.specs.Needed.{rounds_needed}
use Rattle.vx_exec_steps.specs.LinksView.{LinksView}
use Rattle.vx_exec_steps.specs.Runs.{roles_of}
use Rattle.vx_exec_steps.specs.Following.{rounds, Steps, Follows, FollowsRounds}
use Rattle.vx_exec_steps.specs.Schedules.{HoldsRounds}
use Rattle.vx_exec_steps.specs.Ready.{Ready, IsRested}
use Rattle.vx_exec_steps.specs.Verdicts.{HasEnded, EndsAt, GoesOn, Judged}
use Rattle.vx_exec_steps.specs.declared.verdict.RunState.{RunState}
use Rattle.vx_exec_steps.specs.declared.verdict.RunState.TheVariants as run_state
use Rattle.vx_exec_steps.proofs.Bounded.{some-workers, crew-fitted, spends-less}
use Rattle.vx_exec_steps.proofs.Build.{crew-idle}
use Rattle.vx_exec_steps.proofs.Enough.{rounds-hold, IsLastOpen, all-or-last, Going, rounds-go}
use Rattle.vx_exec_steps.proofs.GoingOn.{IsCrewAt, crew-begins, crew-steps, goes-on}
use Rattle.vx_exec_steps.proofs.Settling.{none-is}
use Rattle.vx_exec_steps.proofs.Spending.{IsFitted, track-length, track-start}

no-sum : (n : ℕ) → sum_below n (λ i. 0) ≡ 0
no-sum zero = omega arith
no-sum (suc n) = let a = no-sum n in omega (arith, a)

module _ {O S : Type 0} (OS : O → Ledger → Type 0) (want : O → Want) (op : O → Op) (most idle_turns : O → Coming → ℕ) (SS : S → Routing → Stream → (ℕ → List PacketView) → Type 0) (task : S → Task) (post : S → Post)
    (bounds : S → List Val) (held : S → ℕ → ℕ) (unclosed : S → ℕ) (hash : List ℕ → Row → ℕ → ℕ) (m : ℕ → ℕ → List Row)
    (at : (s : S) → IsAt (post s) (task s)) (streams : (s : S) (goes : Routing) (a : Stream) (g : ℕ → List PacketView) → SS s goes a g → AreStreams (consumers_of (post s)) g)
    (W : RunModel) (p : Plan) (set : IsSet W) (fit : is_fit W.relation_of p ≡ true) (ws : List (Worker O S)) (w : LinksView) (ready : Ready OS op SS task post bounds hash m W p ws w)
    (rested : All (IsRested op most idle_turns post held unclosed) ws) where
  -- the workers at some time of the run
  abbrev Crew : List (Worker O S) → LinksView → List Trace → Type 0
  Crew vs v ts = IsCrewAt OS want op most idle_turns SS task post bounds held unclosed hash m W p vs v ts

  fitted : All (IsFitted op) ws
  fitted = crew-fitted OS want op most idle_turns SS task post bounds held unclosed hash m W p ws w ready rested

  moves : (i : ℕ) (vs us : List (Worker O S)) (v u : LinksView) (ts : List Trace) → Crew vs v ts → (s : Steps OS want op most idle_turns SS task post bounds held unclosed hash m i vs v us u)
      → ((k : ℕ) → i < k → k < length vs → EndsAt vs k) → s.answer ≡ step_outcome.Waiting → ⊥
  moves i vs us v u ts crew step later =
      goes-on OS want op most idle_turns SS task post bounds held unclosed hash m at streams W p fit (some-workers W.sizes (size p) set.some_workers) i vs us v u ts crew step later

  abbrev GoingOn : List (Worker O S) → LinksView → ℕ → Type 0
  GoingOn vs v n =
      Going OS want op most idle_turns SS task post bounds held unclosed hash m (goes W) ws fitted Crew (λ vs v ts h. h.stand)
      (λ i vs us v u ts. crew-steps OS want op most idle_turns SS task post bounds held unclosed hash m W p i vs us v u ts) moves vs v n

  begins : GoingOn ws w 0
  begins = record {
    traces = map (λ (x : Worker O S). empty_trace) ws;
    crew = crew-begins OS want op most idle_turns SS task post bounds held unclosed hash m W p ws w ready rested;
    spent = λ i. 0;
    track = track-start OS want op most idle_turns SS task post bounds held unclosed hash m (goes W) ws w (crew-idle W p (roles_of OS op SS task post bounds hash m ws) w ready.crew) ready.fresh;
    sum = no-sum (length ws);
  }

  -- where they went on by as many steps as the plan needs rounds, all have ended
  all-end : (vs : List (Worker O S)) (v : LinksView) (n : ℕ) → rounds_needed W.db W.sizes p ≤ n → GoingOn vs v n → All HasEnded vs
  all-end vs v n le g = elim (all-or-last vs) [
    | inl all ↦ all
    | inr last ↦ go vs refl last.0 last.1
  ]
    where
      go : (xs : List (Worker O S)) → vs ≡ xs → (a : ℕ) → IsLastOpen vs a → All HasEnded vs
      go [] e a last =
          let l = last.within in
          let none : length vs ≡ 0 = ap (λ (z : List (Worker O S)). length z) e in
          absurd (omega (arith, l, none))
      go (d ∷ rest) e a last =
          let same = track-length OS want op most idle_turns SS task post bounds held unclosed hash m (goes W) ws vs v g.traces g.spent g.track in
          let less = spends-less OS want op most idle_turns SS task post bounds held unclosed hash m W p ws vs w v g.traces g.spent set fit ready rested g.crew.wired g.track a d
          (subst (λ k. a < k) same last.within) (last.still d)
          in
          let sum = g.sum in
          absurd (omega (arith, le, less, sum))

  -- a schedule that holds so many rounds is enough
  pub schedule-ends : (count : ℕ) (steps : List ℕ) (vs : List (Worker O S)) (v : LinksView) → HoldsRounds count (length ws) steps
      → Follows OS want op most idle_turns SS task post bounds held unclosed hash m steps ws w vs v → rounds_needed W.db W.sizes p ≤ count → All HasEnded vs
  schedule-ends count steps vs v holds h le =
      elim (rounds-go OS want op most idle_turns SS task post bounds held unclosed hash m (goes W) ws fitted Crew (λ vs v ts h. h.stand)
      (λ i vs us v u ts. crew-steps OS want op most idle_turns SS task post bounds held unclosed hash m W p i vs us v u ts) moves count steps ws vs w v 0 holds h begins) [
        | inl all ↦ all
        | inr x ↦ let more = x.1 in all-end vs v x.0 (omega (arith, le, more)) x.2
      ]

  -- and so are so many rounds
  pub rounds-end : (limit : ℕ) (vs : List (Worker O S)) (v : LinksView) → FollowsRounds OS want op most idle_turns SS task post bounds held unclosed hash m limit ws w vs v
      → rounds_needed W.db W.sizes p ≤ limit → All HasEnded vs
  rounds-end limit vs v h le = elim h.whole [
    | inl e ↦ schedule-ends h.count (rounds h.count (length ws)) vs v (rounds-hold h.count (length ws)) h.follows (omega (arith, le, e))
    | inr all ↦ all
  ]

-- where all workers have ended, the verdict is not that some have not
pub not-unfinished : {O S : Type 0} (ws : List (Worker O S)) (v : RunState) → Judged ws v → All HasEnded ws → v ≡ run_state.Unfinished → ⊥
not-unfinished {O = O} {S = S} ws v judged all e = go ws all (subst (λ z. Judged ws z) e judged)
  where
    go : (xs : List (Worker O S)) → All HasEnded xs → GoesOn xs → ⊥
    go [] h g = let l = g.within in absurd (omega (arith, l))
    go (d ∷ rest) h g = none-is (subst (λ o. IsSome o) (g.here d) (h g.number d g.within))
