-- What a step spends of what a worker has still to do.
use Rattle.std.proofs.Common.{ℕ, zero, suc, ◌≡◌, ◌+◌, ◌*◌, ◌<◌, ◌≤◌, cond, inl, inr, refl, sym, ap, ◌∙◌, subst, arith, le_refl, Bool, true, false, List, length, Option, Some, None}
use Rattle.std.proofs.Math.Nat.{mul-le-mul_left}
use Rattle.std.proofs.lemmas.Bool.{cases_lt}
use Rattle.std.proofs.lemmas.Bool.Decides.{eqb_tells}
use Rattle.std.proofs.lemmas.List.{length-map, get_or-map}
use Rattle.vx_rows_values.specs.Values.{Row}
use Rattle.vx_rows.proofs.Below.{length-each_below}
use Rattle.vx_ports.specs.Packets.{Content, brings, last, fault, PacketView, content_rows, closes, is_closed}
use Rattle.vx_ops.specs.Turn.{Coming, Pays, idle_turn, rows_in, sum_below}
use Rattle.vx_ops.specs.declared.fault.Fault.{Fault}
use Rattle.vx_ops.specs.declared.turn.Polled.{Polled}
use Rattle.vx_exchange_ends.specs.Tasks.{Post, sends_by_ship, keeps}
use Rattle.vx_exchange_ends.specs.Queued.{consumers_of, rows_to, closings, IsTakenOut, IsNoMore}
use Rattle.vx_worker.specs.Fragment.{Frag}
use Rattle.vx_worker.specs.Trace.{Event, idle, drew_one, took_one, put_one, Trace}
use Rattle.vx_worker.specs.Trees.{LeavesComing, tree_most, tree_idle}
use Rattle.vx_worker.specs.Intake.{fresh_input, source_of, sources_of, BringsSome, IsRead, IsTake, IntakeStands}
use Rattle.vx_worker.specs.Answering.{IsOpenInput, DrainFinds}
use Rattle.vx_worker.specs.Worker.{closing_of, outcome_in, outcome_of}
use Rattle.vx_worker.specs.Remaining.{before_event, arrivals, rows_put, progress, EventFits, pending_count, pending_rows, rows_left_in, rows_left, rows_held_in, rows_held, steps_left_in, steps_left, Spends}
use Rattle.vx_exec_setup.specs.declared.counts.StepCounts.{StepCounts}
use Rattle.vx_worker.specs.declared.intake.Intake.{Intake}
use Rattle.vx_worker.specs.declared.intake.Drained.{Drained}
use Rattle.vx_worker.specs.declared.intake.Drained.TheVariants as drained
use Rattle.vx_worker.specs.declared.worker.Worker.{Worker}
use Rattle.vx_worker.specs.declared.worker.WorkerState.{WorkerState}
use Rattle.vx_worker.specs.declared.worker.WorkerState.TheVariants.{Running, Failing, Draining, Well, Failed}
use Rattle.vx_worker.specs.declared.worker.StepOutcome.{StepOutcome}
use Rattle.vx_worker.specs.declared.worker.StepOutcome.TheVariants as step_outcome

-- a sum of smaller numbers is smaller
sum-grows : (n : ℕ) (f h : ℕ → ℕ) → ((j : ℕ) → f j ≤ h j) → sum_below n f ≤ sum_below n h
sum-grows zero f h le = le_refl 0
sum-grows (suc n) f h le = let a = sum-grows n f h le in let b = le n in omega (arith, a, b)

-- where each number is larger by so much at most, so is the sum, as many times
sum-rises : (n r : ℕ) (f h : ℕ → ℕ) → ((j : ℕ) → f j ≤ h j + r) → sum_below n f ≤ sum_below n h + n * r
sum-rises zero r f h le = omega arith
sum-rises (suc n) r f h le = let a = sum-rises n r f h le in let b = le n in omega (arith, a, b)

-- where one of them is smaller, so is the sum
sum-less : (n i : ℕ) (f h : ℕ → ℕ) → ((j : ℕ) → f j ≤ h j) → i < n → f i < h i → sum_below n f < sum_below n h
sum-less zero i f h le within less = absurd (omega arith)
sum-less (suc n) i f h le within less = elim (eqb_tells i n) [
  | inl e ↦ let a = sum-grows n f h le in let b : f n < h n = subst (λ k. f k < h k) e.1 less in omega (arith, a, b)
  | inr e ↦ let off = e.1 in let a = sum-less n i f h le (omega (arith, off)) less in let b = le n in omega (arith, a, b)
]

-- a packet to a consumer has what is to that consumer
rows-here : (to : ℕ) (p : PacketView) → rows_to to p to ≡ length (content_rows p.content)
rows-here to p = elim (eqb_tells to to) [ inl e ↦ rw e.0 refl | inr e ↦ absurd (e.1 refl) ]

-- what was taken out is less to return
pub taken-less : (n to : ℕ) (p : PacketView) (held rest : ℕ → ℕ) (unclosed left : ℕ) → IsTakenOut to p held rest unclosed left → ((j : ℕ) → n ≤ j → held j ≡ 0)
    → sum_below n rest + left + 1 ≤ sum_below n held + unclosed
taken-less n to p held rest unclosed left h few =
    let le : (j : ℕ) → rest j ≤ held j = λ j. let a = h.rows j in omega (arith, a) in
    let all = sum-grows n rest held le in
    let closing = h.closing in
    let some = h.some in
    elim (cases_lt 0 (closings p.content)) [
      | inl c ↦ omega (arith, all, closing, c)
      | inr c ↦
          let here = rows-here to p in
          let there = h.rows to in
          elim (cases_lt to n) [
            | inl within ↦ let a = sum-less n to rest held le within (omega (arith, here, there, some, c)) in omega (arith, a, closing)
            | inr out ↦ let a = few to out in absurd (omega (arith, a, here, there, some, c))
          ]
    ]

-- a packet that closes has no rows
closing-brings : (x : Content) → closes x ≡ true → length (content_rows x) ≡ 0
closing-brings (brings xs) e = let no : false ≡ true = e in cc
closing-brings last e = refl
closing-brings fault e = refl

pub closing-puts : (to : ℕ) (p : PacketView) → closes p.content ≡ true → (j : ℕ) → rows_to to p j ≡ 0
closing-puts to p e j = elim (eqb_tells j to) [ inl d ↦ rw d.0 (closing-brings p.content e) | inr d ↦ rw d.0 refl ]

-- one packet that closes for each consumer
pub closing-length : (p : Post) → length (closing_of p) ≡ consumers_of p
closing-length (sends_by_ship s) = length-each_below s.consumers _
closing-length (keeps types) = refl

-- a draw or a take puts nothing
pub read-puts : (k : Intake) (e : Event) → IsRead k e → (j : ℕ) → rows_put e j ≡ 0
read-puts k idle h j = refl
read-puts k (drew_one n d) h j = refl
read-puts k (took_one x i o) h j = refl
read-puts k (put_one to p) h j = elim h [ ]

pub take-puts : (e : Event) → IsTake e → (j : ℕ) → rows_put e j ≡ 0
take-puts idle h j = refl
take-puts (drew_one n d) h j = elim h [ ]
take-puts (took_one x i o) h j = refl
take-puts (put_one to p) h j = elim h [ ]

-- what is taken and dropped is of a producer that has not closed
open-fits : (f : Frag) (k : Intake) (t : Trace) (x i : ℕ) (o : Option PacketView) → IsOpenInput k x i → BringsSome o → IntakeStands k t → EventFits f (sources_of k) t (took_one x i o)
open-fits f k t x i o h some stands =
    let d = fresh_input x i in
    let source = h.source d in (
      inr (h.place, omega (arith, h.within, length-map k.inputs.items source_of), get_or-map source_of k.inputs.items h.place d (x, i) h.within ∙ source),
      ap (λ (s : ℕ × ℕ). is_closed (t.came s.0 s.1)) (sym source) ∙ stands.inputs h.place d h.within ∙ h.is_open d,
      some,
    )

pub drain-fits : (lacks : Type 0) (f : Frag) (k : Intake) (t : Trace) (r : Drained) (e : Event) → DrainFinds lacks k r e → IntakeStands k t → EventFits f (sources_of k) t e
drain-fits lacks f k t drained.Dropped (took_one x i (Some p)) h stands = open-fits f k t x i (Some p) h.0 h.1 stands
drain-fits lacks f k t drained.Nothing (took_one x i None) h stands = open-fits f k t x i None h tt stands
drain-fits lacks f k t drained.Nothing idle h stands = tt
drain-fits lacks f k t drained.All idle h stands = tt
drain-fits lacks f k t r e h stands = elim h [ ]

-- a packet that was dropped had come
pub drop-came : (lacks : Type 0) (k : Intake) (e : Event) → DrainFinds lacks k drained.Dropped e → 1 ≤ arrivals e
drop-came lacks k (took_one x i (Some p)) h = le_refl 1
drop-came lacks k e h = elim h [ ]

-- the numbers of a turn: each row that the top returns pays for itself and for each consumer
turn-cost : (n tm tm' ti ti' s s' u u' o' r it arr pr : ℕ) → tm' + r ≤ tm → ti' + it ≤ ti → s' ≤ s + n * r → u' ≤ u → pr + o' ≤ 1 + (it + arr + r)
    → (n + 1) * tm' + ti' + (s' + u') + 0 + o' + (n + 3) + pr ≤ (n + 1) * tm + ti + (s + u) + 0 + 1 + (n + 3) + arr
turn-cost n tm tm' ti ti' s s' u u' o' r it arr pr rows turns held left gain =
    let a = mul-le-mul_left (n + 1) rows in
    omega (arith, a, turns, held, left, gain)

module _ {O S : Type 0} (most idle_turns : O → Coming → ℕ) (post : S → Post) (held : S → ℕ → ℕ) (unclosed : S → ℕ) where
  abbrev steps : Worker O S → LeavesComing → ℕ
  steps w c = steps_left most idle_turns post held unclosed w c

  abbrev left_in : WorkerState → Worker O S → LeavesComing → ℕ
  left_in x w c = steps_left_in most idle_turns post held unclosed x w c

  abbrev left : Worker O S → LeavesComing → ℕ
  left w c = rows_left most idle_turns post held unclosed w c

  abbrev has : Worker O S → ℕ → ℕ
  has w j = rows_held most idle_turns post held unclosed w j

  abbrev pub IsSpent : (m : ℕ → ℕ → List Row) → Frag → List (ℕ × ℕ) → Worker O S → Worker O S → Trace → Event → StepOutcome → Type 0
  IsSpent m f inputs w v t e r = Spends most idle_turns post held unclosed m f inputs w v t e r

  -- by phase
  steps-at : (w : Worker O S) (x : WorkerState) (c : LeavesComing) → w.phase ≡ x → steps w c ≡ left_in x w c
  steps-at w x c e = ap (λ z. left_in z w c) e

  left-at : (w : Worker O S) (x : WorkerState) (c : LeavesComing) → w.phase ≡ x → left w c ≡ rows_left_in most idle_turns post held unclosed x w c
  left-at w x c e = ap (λ z. rows_left_in most idle_turns post held unclosed z w c) e

  has-at : (w : Worker O S) (x : WorkerState) (j : ℕ) → w.phase ≡ x → has w j ≡ rows_held_in most idle_turns post held unclosed x w j
  has-at w x j e = ap (λ z. rows_held_in most idle_turns post held unclosed z w j) e

  went-at : (w : Worker O S) (x : WorkerState) (r : StepOutcome) → w.phase ≡ x → progress (outcome_of w) r ≡ progress (outcome_in x) r
  went-at w x r e = ap (λ z. progress (outcome_in z) r) e

  -- while it runs it has left what it needs in order to fail
  enough : (w : Worker O S) (c : LeavesComing) → w.phase ≡ Running → consumers_of (post w.sender) + 3 ≤ steps w c
  enough w c runs = let a = steps-at w Running c runs in omega (arith, a)

  failing-steps : (v : Worker O S) (x : Fault) (p : Post) (c : LeavesComing) → v.phase ≡ Failing x → v.pending ≡ None → v.closing.items ≡ closing_of p → steps v c ≡ consumers_of p + 2
  failing-steps v x p c phase pending closing =
      let a = steps-at v (Failing x) c phase in
      let b : pending_count v.pending ≡ 0 = ap pending_count pending in
      let d : length v.closing.items ≡ consumers_of p = ap (λ ps. length ps) closing ∙ closing-length p in
      omega (arith, a, b, d)

  -- a worker that fails
  pub fails-spent : (m : ℕ → ℕ → List Row) (f : Frag) (inputs : List (ℕ × ℕ)) (w v : Worker O S) (x : Fault) (t : Trace) (e : Event) (r : StepOutcome) → r ≡ step_outcome.Moved
      → w.phase ≡ Running → v.phase ≡ Failing x → v.pending ≡ None → v.closing.items ≡ closing_of (post w.sender) → ((j : ℕ) → rows_put e j ≡ 0) → EventFits f inputs t e
      → IsSpent m f inputs w v t e r
  fails-spent m f inputs w v x t e r moved runs phase pending closing puts fits = record {
    event = fits;
    steps = λ c.
        let a = failing-steps v x (post w.sender) c phase pending closing in
        let b = enough w (before_event m e c) runs in
        let d : progress (outcome_of w) r ≡ 1 = went-at w Running r runs ∙ ap (progress None) moved in
        omega (arith, a, b, d);
    rows = λ c j.
        let a = has-at v (Failing x) j phase in
        let b = left-at v (Failing x) c phase in
        let d = puts j in
        omega (arith, a, b, d);
  }

  -- the packet that was here was put
  pub put-spent : (m : ℕ → ℕ → List Row) (f : Frag) (inputs : List (ℕ × ℕ)) (w : Worker O S) (none : Option (ℕ × PacketView)) (n : StepCounts) (to : ℕ) (p : PacketView) (t : Trace)
      → w.phase ≡ Running → w.pending ≡ Some (to, p) → none ≡ None → IsSpent m f inputs w (record w { pending = none; counts = n }) t (put_one to p) step_outcome.Moved
  put-spent m f inputs w none n to p t runs here empty =
      let v = record w { pending = none; counts = n } in
      record {
        event = tt;
        steps = λ c.
            let a = steps-at w Running c runs in
            let b = steps-at v Running c runs in
            let d : pending_count w.pending ≡ 1 = ap pending_count here in
            let i : pending_count none ≡ 0 = ap pending_count empty in
            let k = went-at w Running step_outcome.Moved runs in
            omega (arith, a, b, d, i, k);
        rows = λ c j.
            let a = has-at w Running j runs in
            let b = has-at v Running j runs in
            let d : pending_rows w.pending j ≡ rows_to to p j = ap (λ z. pending_rows z j) here in
            let i : pending_rows none j ≡ 0 = ap (λ z. pending_rows z j) empty in
            let k = left-at w Running c runs in
            let l = left-at v Running c runs in
            omega (arith, a, b, d, i, k, l);
      }

  -- or came back
  pub back-spent : (m : ℕ → ℕ → List Row) (f : Frag) (inputs : List (ℕ × ℕ)) (w : Worker O S) (to : ℕ) (p q : PacketView) (t : Trace)
      → w.phase ≡ Running → w.pending ≡ Some (to, p) → q ≡ p → IsSpent m f inputs w (record w { pending = Some (to, q) }) t idle step_outcome.Waiting
  back-spent m f inputs w to p q t runs here same =
      let v = record w { pending = Some (to, q) } in
      record {
        event = tt;
        steps = λ c.
            let a = steps-at w Running c runs in
            let b = steps-at v Running c runs in
            let d : pending_count w.pending ≡ 1 = ap pending_count here in
            let k = went-at w Running step_outcome.Waiting runs in
            omega (arith, a, b, d, k);
        rows = λ c j.
            let a = has-at w Running j runs in
            let b = has-at v Running j runs in
            let d : pending_rows w.pending j ≡ rows_to to q j = ap (λ z. pending_rows z j) here ∙ ap (λ z. rows_to to z j) (sym same) in
            let k = left-at w Running c runs in
            let l = left-at v Running c runs in
            omega (arith, a, b, d, k, l);
      }

  -- a packet that closes a port was put
  pub closing-spent : (m : ℕ → ℕ → List Row) (f : Frag) (inputs : List (ℕ × ℕ)) (w v : Worker O S) (x : Fault) (to : ℕ) (p : PacketView) (t : Trace)
      → w.phase ≡ Failing x → v.phase ≡ Failing x → v.pending ≡ None → length w.closing.items + pending_count w.pending ≡ length v.closing.items + 1 → closes p.content ≡ true
      → IsSpent m f inputs w v t (put_one to p) step_outcome.Moved
  closing-spent m f inputs w v x to p t was is empty fewer closing = record {
    event = tt;
    steps = λ c.
        let a = steps-at w (Failing x) c was in
        let b = steps-at v (Failing x) c is in
        let d : pending_count v.pending ≡ 0 = ap pending_count empty in
        let k = went-at w (Failing x) step_outcome.Moved was in
        omega (arith, a, b, d, fewer, k);
    rows = λ c j.
        let a = has-at v (Failing x) j is in
        let b = left-at v (Failing x) c is in
        let d = closing-puts to p closing j in
        omega (arith, a, b, d);
  }

  -- or came back
  pub closing-back : (m : ℕ → ℕ → List Row) (f : Frag) (inputs : List (ℕ × ℕ)) (w v : Worker O S) (x : Fault) (y : ℕ × PacketView) (t : Trace)
      → w.phase ≡ Failing x → v.phase ≡ Failing x → v.pending ≡ Some y → length w.closing.items + pending_count w.pending ≡ length v.closing.items + 1
      → IsSpent m f inputs w v t idle step_outcome.Waiting
  closing-back m f inputs w v x y t was is here fewer = record {
    event = tt;
    steps = λ c.
        let a = steps-at w (Failing x) c was in
        let b = steps-at v (Failing x) c is in
        let d : pending_count v.pending ≡ 1 = ap pending_count here in
        let k = went-at w (Failing x) step_outcome.Waiting was in
        omega (arith, a, b, d, fewer, k);
    rows = λ c j.
        let a = has-at v (Failing x) j is in
        let b = left-at v (Failing x) c is in
        omega (arith, a, b);
  }

  -- its ports are closed
  pub closed-spent : (m : ℕ → ℕ → List Row) (f : Frag) (inputs : List (ℕ × ℕ)) (w v : Worker O S) (x : Fault) (t : Trace) → w.phase ≡ Failing x → v.phase ≡ Draining x
      → IsSpent m f inputs w v t idle step_outcome.Moved
  closed-spent m f inputs w v x t was is = record {
    event = tt;
    steps = λ c.
        let a = steps-at w (Failing x) c was in
        let b = steps-at v (Draining x) c is in
        let k = went-at w (Failing x) step_outcome.Moved was in
        omega (arith, a, b, k);
    rows = λ c j.
        let a = has-at v (Draining x) j is in
        let b = left-at v (Draining x) c is in
        omega (arith, a, b);
  }

  -- it takes and drops
  pub drops-spent : (m : ℕ → ℕ → List Row) (f : Frag) (inputs : List (ℕ × ℕ)) (w v : Worker O S) (x : Fault) (t : Trace) (e : Event) (r : StepOutcome) → w.phase ≡ Draining x → v.phase ≡ Draining x
      → EventFits f inputs t e → progress None r ≤ arrivals e → ((j : ℕ) → rows_put e j ≡ 0) → IsSpent m f inputs w v t e r
  drops-spent m f inputs w v x t e r was is fits gain puts = record {
    event = fits;
    steps = λ c.
        let a = steps-at w (Draining x) (before_event m e c) was in
        let b = steps-at v (Draining x) c is in
        let k = went-at w (Draining x) r was in
        omega (arith, a, b, k, gain);
    rows = λ c j.
        let a = has-at v (Draining x) j is in
        let b = left-at v (Draining x) c is in
        let d = puts j in
        omega (arith, a, b, d);
  }

  -- until each producer has closed
  pub drained-spent : (m : ℕ → ℕ → List Row) (f : Frag) (inputs : List (ℕ × ℕ)) (w v : Worker O S) (x : Fault) (t : Trace) (e : Event) → w.phase ≡ Draining x → v.phase ≡ Failed x
      → EventFits f inputs t e → ((j : ℕ) → rows_put e j ≡ 0) → IsSpent m f inputs w v t e step_outcome.Ended
  drained-spent m f inputs w v x t e was is fits puts = record {
    event = fits;
    steps = λ c.
        let a = steps-at w (Draining x) (before_event m e c) was in
        let b = steps-at v (Failed x) c is in
        let k = went-at w (Draining x) step_outcome.Ended was in
        omega (arith, a, b, k);
    rows = λ c j.
        let a = has-at v (Failed x) j is in
        let b = left-at v (Failed x) c is in
        let d = puts j in
        omega (arith, a, b, d);
  }

  -- all is put
  pub well-spent : (m : ℕ → ℕ → List Row) (f : Frag) (inputs : List (ℕ × ℕ)) (w v : Worker O S) (t : Trace) → w.phase ≡ Running → v.phase ≡ Well
      → IsSpent m f inputs w v t idle step_outcome.Ended
  well-spent m f inputs w v t was is = record {
    event = tt;
    steps = λ c.
        let a = enough w c was in
        let b = steps-at v Well c is in
        let k = went-at w Running step_outcome.Ended was in
        omega (arith, a, b, k);
    rows = λ c j.
        let a = has-at v Well j is in
        let b = left-at v Well c is in
        omega (arith, a, b);
  }

  -- the sending end was asked first
  asked-spent : (m : ℕ → ℕ → List Row) (f : Frag) (inputs : List (ℕ × ℕ)) (w u v : Worker O S) (t : Trace) (e : Event) (r : StepOutcome) → w.phase ≡ Running → u.phase ≡ Running
      → ((c : LeavesComing) → steps u c ≤ steps w c) → ((c : LeavesComing) (j : ℕ) → has u j + left u c ≤ has w j + left w c)
      → IsSpent m f inputs u v t e r → IsSpent m f inputs w v t e r
  asked-spent m f inputs w u v t e r was is fewer less h = record {
    event = h.event;
    steps = λ c.
        let a = h.steps c in
        let b = fewer (before_event m e c) in
        let d = went-at w Running r was in
        let k = went-at u Running r is in
        omega (arith, a, b, d, k);
    rows = λ c j.
        let a = h.rows c j in
        let b = less (before_event m e c) j in
        omega (arith, a, b);
  }

  -- and gave a packet
  pub next-spent : (m : ℕ → ℕ → List Row) (f : Frag) (inputs : List (ℕ × ℕ)) (w : Worker O S) (s : S) (to : ℕ) (p : PacketView) (v : Worker O S) (t : Trace) (e : Event) (r : StepOutcome)
      → w.phase ≡ Running → w.pending ≡ None → post s ≡ post w.sender → IsTakenOut to p (held w.sender) (held s) (unclosed w.sender) (unclosed s)
      → ((j : ℕ) → consumers_of (post w.sender) ≤ j → held w.sender j ≡ 0)
      → IsSpent m f inputs (record w { sender = s; pending = Some (to, p) }) v t e r → IsSpent m f inputs w v t e r
  next-spent m f inputs w s to p v t e r runs empty same taken few =
      let u = record w { sender = s; pending = Some (to, p) } in
      let n = consumers_of (post w.sender) in
      asked-spent m f inputs w u v t e r runs runs
      (λ c.
      let a = steps-at w Running c runs in
      let b = steps-at u Running c runs in
      let d : pending_count w.pending ≡ 0 = ap pending_count empty in
      let k = taken-less n to p (held w.sender) (held s) (unclosed w.sender) (unclosed s) taken few in
      let l : sum_below (consumers_of (post s)) (held s) ≡ sum_below n (held s) = ap (λ z. sum_below (consumers_of z) (held s)) same in
      let o : (consumers_of (post s) + 1) * tree_most most w.tree c ≡ (n + 1) * tree_most most w.tree c = ap (λ z. (consumers_of z + 1) * tree_most most w.tree c) same in
      let q : consumers_of (post s) ≡ n = ap consumers_of same in
      omega (arith, a, b, d, k, l, o, q))
      (λ c j.
      let a = has-at w Running j runs in
      let b = has-at u Running j runs in
      let d : pending_rows w.pending j ≡ 0 = ap (λ z. pending_rows z j) empty in
      let k = taken.rows j in
      let l = left-at w Running c runs in
      let o = left-at u Running c runs in
      omega (arith, a, b, d, k, l, o))

  -- or gave none
  pub none-spent : (m : ℕ → ℕ → List Row) (f : Frag) (inputs : List (ℕ × ℕ)) (w : Worker O S) (s : S) (v : Worker O S) (t : Trace) (e : Event) (r : StepOutcome)
      → w.phase ≡ Running → post s ≡ post w.sender → IsNoMore (held w.sender) (held s) (unclosed w.sender) (unclosed s)
      → IsSpent m f inputs (record w { sender = s }) v t e r → IsSpent m f inputs w v t e r
  none-spent m f inputs w s v t e r runs same none =
      let u = record w { sender = s } in
      let n = consumers_of (post w.sender) in
      asked-spent m f inputs w u v t e r runs runs
      (λ c.
      let a = steps-at w Running c runs in
      let b = steps-at u Running c runs in
      let k = sum-grows n (held s) (held w.sender) none.rows in
      let d = none.closing in
      let l : sum_below (consumers_of (post s)) (held s) ≡ sum_below n (held s) = ap (λ z. sum_below (consumers_of z) (held s)) same in
      let o : (consumers_of (post s) + 1) * tree_most most w.tree c ≡ (n + 1) * tree_most most w.tree c = ap (λ z. (consumers_of z + 1) * tree_most most w.tree c) same in
      let q : consumers_of (post s) ≡ n = ap consumers_of same in
      omega (arith, a, b, d, k, l, o, q))
      (λ c j.
      let a = has-at w Running j runs in
      let b = has-at u Running j runs in
      let k = none.rows j in
      let l = left-at w Running c runs in
      let o = left-at u Running c runs in
      omega (arith, a, b, k, l, o))

  -- the tree turned
  pub turn-spent : (m : ℕ → ℕ → List Row) (f : Frag) (inputs : List (ℕ × ℕ)) (w v : Worker O S) (t : Trace) (e : Event) (a : Polled) (own : ℕ) (r : StepOutcome)
      → w.phase ≡ Running → v.phase ≡ Running → w.pending ≡ None → v.pending ≡ None → w.is_over ≡ false
      → ((c : LeavesComing) → Pays own (tree_most most w.tree (before_event m e c)) (tree_idle most idle_turns w.tree (before_event m e c)) (tree_most most v.tree c) (tree_idle most idle_turns v.tree c) a)
      → post v.sender ≡ post w.sender → ((j : ℕ) → held v.sender j ≤ held w.sender j + rows_in a) → unclosed v.sender ≤ unclosed w.sender
      → (over : Bool) → v.is_over ≡ over → progress None r + cond over 0 1 ≤ 1 + (idle_turn own a + arrivals e + rows_in a) → ((j : ℕ) → rows_put e j ≡ 0) → EventFits f inputs t e
      → IsSpent m f inputs w v t e r
  turn-spent m f inputs w v t e a own r was is before after on pays same holds shuts over ends gain puts fits =
      let n = consumers_of (post w.sender) in
      record {
        event = fits;
        steps = λ c.
            let d = before_event m e c in
            let x = steps-at w Running d was in
            let y = steps-at v Running c is in
            let p = pays c in
            let q = sum-rises n (rows_in a) (held v.sender) (held w.sender) holds in
            let z = turn-cost n (tree_most most w.tree d) (tree_most most v.tree c) (tree_idle most idle_turns w.tree d) (tree_idle most idle_turns v.tree c) (sum_below n (held w.sender))
            (sum_below n (held v.sender)) (unclosed w.sender) (unclosed v.sender) (cond over 0 1) (rows_in a) (idle_turn own a) (arrivals e) (progress None r) p.rows p.turns q shuts gain in
            let b : pending_count w.pending ≡ 0 = ap pending_count before in
            let g : pending_count v.pending ≡ 0 = ap pending_count after in
            let rest : Bool → ℕ = λ i. cond i 0 1 in
            let o : rest w.is_over ≡ rest false = ap rest on in
            let j : rest v.is_over ≡ rest over = ap rest ends in
            let l : sum_below (consumers_of (post v.sender)) (held v.sender) ≡ sum_below n (held v.sender) = ap (λ i. sum_below (consumers_of i) (held v.sender)) same in
            let k : (consumers_of (post v.sender) + 1) * tree_most most v.tree c ≡ (n + 1) * tree_most most v.tree c = ap (λ i. (consumers_of i + 1) * tree_most most v.tree c) same in
            let h : consumers_of (post v.sender) ≡ n = ap consumers_of same in
            let u = went-at w Running r was in
            omega (arith, x, y, z, b, g, o, j, l, k, h, u);
        rows = λ c j.
            let x = has-at w Running j was in
            let y = has-at v Running j is in
            let z = left-at w Running (before_event m e c) was in
            let u = left-at v Running c is in
            let b : pending_rows w.pending j ≡ 0 = ap (λ i. pending_rows i j) before in
            let g : pending_rows v.pending j ≡ 0 = ap (λ i. pending_rows i j) after in
            let p = (pays c).rows in
            let q = holds j in
            let o = puts j in
            omega (arith, x, y, z, u, b, g, p, q, o);
      }

  -- what was counted changes nothing
  pub counted-spent : (m : ℕ → ℕ → List Row) (f : Frag) (inputs : List (ℕ × ℕ)) (w v : Worker O S) (n : StepCounts) (t : Trace) (e : Event) (r : StepOutcome)
      → IsSpent m f inputs w v t e r → IsSpent m f inputs w (record v { counts = n }) t e r
  counted-spent m f inputs w v n t e r h =
      let z = record v { counts = n } in
      let alike : (x : WorkerState) (c : LeavesComing) → left_in x z c ≡ left_in x v c = λ x c. elim x as (λ y. left_in y z c ≡ left_in y v c) [ Running ↦ refl | Failing f ↦ refl | Draining f ↦ refl | Well ↦ refl | Failed f ↦ refl ] in
      record {
        event = h.event;
        steps = λ c. let a = h.steps c in let b = alike v.phase c in omega (arith, a, b);
        rows = λ c j.
            let a = h.rows c j in
            let b : has z j ≡ has v j = elim v.phase as (λ y. rows_held_in most idle_turns post held unclosed y z j ≡ rows_held_in most idle_turns post held unclosed y v j) [ Running ↦ refl | Failing f ↦ refl | Draining f ↦ refl | Well ↦ refl | Failed f ↦ refl ] in
            let d : left z c ≡ left v c = elim v.phase as (λ y. rows_left_in most idle_turns post held unclosed y z c ≡ rows_left_in most idle_turns post held unclosed y v c) [ Running ↦ refl | Failing f ↦ refl | Draining f ↦ refl | Well ↦ refl | Failed f ↦ refl ] in
            omega (arith, a, b, d);
      }
