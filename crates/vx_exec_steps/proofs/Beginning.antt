-- A board over which nothing went agrees with traces of no steps.
use Rattle.std.proofs.Common.{ℕ, zero, suc, ◌≡◌, ◌+◌, false, cond, List, [], ◌∷◌, ◌++◌, length, map, refl, sym, ap, ◌∙◌, subst, arith, inl, inr, true≢false}
use Rattle.std.proofs.Math.ListN.{get_or}
use Rattle.std.proofs.lemmas.Bool.{cases_lt, le-ltb}
use Rattle.std.proofs.lemmas.List.{get_or_past}
use Rattle.std.specs.List.{All, AllZip}
use Rattle.vx_plan_nodes.specs.Streams.{across}
use Rattle.vx_morsel.specs.Draws.{Draws}
use Rattle.vx_ports.specs.LinkView.{LinkView}
use Rattle.vx_worker.specs.Trace.{Trace, empty_trace}
use Rattle.vx_exec_steps.specs.Scans.{no_hand, hand_in}
use Rattle.vx_exec_steps.specs.Queues.{no_line, AreEmpty}
use Rattle.vx_exec_steps.specs.LinksView.{LinksView, queue_at, station_at}
use Rattle.vx_exec_steps.specs.Agrees.{trace_at, DrewBelow, HasDealt, Agrees}
use Rattle.vx_exec_steps.specs.Idle.{IsUntouched, IsIdle}
use Rattle.vx_exec_steps.specs.declared.station.Station.{Station}
use Rattle.vx_exec_steps.specs.declared.station.Station.TheVariants.{Inner, Exchange, Shared, Whole}
use Rattle.vx_exec_steps.proofs.Seats.{dealt-same}

-- what holds of each element and of the default holds wherever the list is read
read-anywhere : {X : Type 0} (P : X → Type 0) (xs : List X) (d : X) → P d → All P xs → (i : ℕ) → P (get_or xs i d)
read-anywhere P xs d p h i = elim (cases_lt i (length xs)) [
  | inl l ↦ h i d l
  | inr l ↦ subst P (sym (get_or_past xs i d l)) p
]

no-queue : (w : LinksView) → IsIdle w → (a j : ℕ) → queue_at w a j ≡ []
no-queue w h a j =
    let lines = read-anywhere AreEmpty w.queues [] (λ k d l. absurd (omega (arith, l))) h.queues a in
    read-anywhere (λ (l : LinkView). l.queue ≡ []) (get_or w.queues a []) no_line refl lines j

no-sum : (n : ℕ) → across n (λ w. 0) ≡ 0
no-sum zero = refl
no-sum (suc n) = let e = no-sum n in omega (arith, e)

-- of no numbers
abbrev no_draws : Draws
no_draws = record { numbers = []; met_end = false }

none-below : (n m : ℕ) → DrewBelow n m 0 (λ w. no_draws)
none-below n m = record {
  rise = λ w l. tt;
  under = λ w l. tt;
  each = λ x. no-sum n ∙ sym (ap (λ b. cond b 1 0) (le-ltb x 0 (omega arith)));
  most = omega arith;
  ended = λ w l e. absurd (true≢false (sym e));
}

none-dealt : (s : Station) → IsUntouched s → HasDealt s (λ a. no_draws)
none-dealt Inner h = tt
none-dealt (Exchange below above) h = tt
none-dealt (Shared s) h = subst (λ z. DrewBelow s.workers s.deck.morsels z (λ w. no_draws)) (sym h) (none-below s.workers s.deck.morsels)
none-dealt (Whole s) h = λ w l.
    let x = h w no_hand l in
    record { one = x.0; drew = subst (λ z. DrewBelow 1 (hand_in s.hands w).morsels z (λ v. no_draws)) (sym x.1) (none-below 1 (hand_in s.hands w).morsels) }

pub empty-at : {A : Type 0} (ws : List A) (i : ℕ) → trace_at (map (λ (v : A). empty_trace) ws) i ≡ empty_trace
empty-at [] i = refl
empty-at (v ∷ ws) zero = refl
empty-at (v ∷ ws) (suc i) = empty-at ws i

pub idle-agrees : (w : LinksView) (ts : List Trace) → IsIdle w → ((a : ℕ) → trace_at ts a ≡ empty_trace) → Agrees w ts
idle-agrees w ts h e = record {
  flows = λ x below above i j st s.
      ap (λ (z : Trace). z.sent j) (e (below + i)) ∙ sym (no-queue w h (below + i) j)
      ∙ ap (λ z. z ++ queue_at w (below + i) j) (sym (ap (λ (z : Trace). z.came x i) (e (above + j))));
  draws = λ k.
      dealt-same (station_at w k) (λ a. no_draws) (λ a. (trace_at ts a).drew k) (λ b. ap (λ (z : Trace). z.drew k) (e b))
      (none-dealt (station_at w k) (read-anywhere IsUntouched w.stations Inner tt h.stations k));
}

-- fresh workers stand with the traces of no steps
pub fresh-zip : {A : Type 0} (R : A → Trace → Type 0) (ws : List A) → All (λ v. R v empty_trace) ws → AllZip R ws (map (λ (v : A). empty_trace) ws)
fresh-zip R [] h = tt
fresh-zip R (v ∷ ws) h = (h 0 v (omega arith), fresh-zip R ws (λ k d l. h (suc k) d (omega (arith, l))))
