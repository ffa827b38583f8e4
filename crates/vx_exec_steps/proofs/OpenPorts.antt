-- Which queues are closed is what the traces of their producers say: at first, and after each step.
use Rattle.std.proofs.Common.{ℕ, zero, suc, ◌≡◌, ◌<◌, ◌||◌, Bool, true, false, List, [], ◌∷◌, ◌++◌, length, Some, None, refl, sym, ap, ◌∙◌, subst, arith, inl, inr, true≢false}
use Rattle.std.proofs.Math.ListN.{get_or, set}
use Rattle.std.proofs.lemmas.Bool.{cases_lt}
use Rattle.std.proofs.lemmas.List.{get_or_past}
use Rattle.std.specs.List.{AllZip}
use Rattle.vx_rows_values.specs.Values.{Val, Row}
use Rattle.vx_rows.specs.Lists.{each_below}
use Rattle.vx_plan_nodes.specs.Plan.{Plan, scan, unary, binary, exchange, size, target}
use Rattle.vx_plan_nodes.specs.Streams.{workers}
use Rattle.vx_plan_nodes.specs.Routes.{Routing}
use Rattle.vx_ports.specs.Packets.{PacketView, closes, is_closed}
use Rattle.vx_ports.specs.LinkView.{LinkView}
use Rattle.vx_ops.specs.Ledger.{Stream, Ledger, Op}
use Rattle.vx_ops.specs.Turn.{Coming}
use Rattle.vx_ops.specs.declared.turn.Want.{Want}
use Rattle.vx_exchange_ends.specs.Tasks.{Task, Post}
use Rattle.vx_exchange_ends.specs.Queued.{consumers_of}
use Rattle.vx_worker.specs.Fragment.{RunModel}
use Rattle.vx_worker.specs.Trace.{Trace, Event, idle, drew_one, took_one, put_one, added, empty_trace}
use Rattle.vx_worker.specs.Worker.{Role, WorkerStands}
use Rattle.vx_worker.specs.declared.worker.Worker.{Worker}
use Rattle.vx_exec_steps.specs.Agrees.{trace_at}
use Rattle.vx_exec_steps.specs.Crews.{Duty, duty_of, root_duty, producer_duty, duties_below, queues_below, IsCrew}
use Rattle.vx_exec_steps.specs.Following.{Steps}
use Rattle.vx_exec_steps.specs.LinksView.{LinksView, closed_at, SameClosed, Does}
use Rattle.vx_exec_steps.specs.Queues.{no_line, line_in, open_line}
use Rattle.vx_exec_steps.specs.Roles.{no_role, role_at}
use Rattle.vx_exec_steps.specs.Runs.{roles_of, Stand}
use Rattle.vx_exec_steps.proofs.Build.{duty-at}
use Rattle.vx_exec_steps.proofs.Each.{each-at}
use Rattle.vx_exec_steps.proofs.Events.{same-two, kept, changed, with-here, pair-is, sent-other}
use Rattle.vx_exec_steps.proofs.Followed.{step-advances}
use Rattle.vx_exec_steps.proofs.RunSteps.{zip-at, zip-length}

-- a worker's queue to each of its consumers is closed where its trace has a packet that closes
pub record PortsStand (roles : ℕ → Role) (w : LinksView) (ts : List Trace) : Type 0 where
  pub closed : (a j : ℕ) → j < consumers_of (roles a).post → closed_at w a j ≡ is_closed ((trace_at ts a).sent j)

-- the queues of a worker with this duty are open to each of its consumers
abbrev IsOpen : Duty → List LinkView → Type 0
IsOpen d lines = (j : ℕ) → j < consumers_of d.post → (line_in lines j).closed ≡ false

zip-append : {A B : Type 0} (R : A → B → Type 0) (xs us : List A) (ys vs : List B) → AllZip R xs ys → AllZip R us vs → AllZip R (xs ++ us) (ys ++ vs)
zip-append R [] us [] vs h k = k
zip-append R [] us (y ∷ ys) vs h k = elim h [ ]
zip-append R (x ∷ xs) us [] vs h k = elim h [ ]
zip-append R (x ∷ xs) us (y ∷ ys) vs h k = (h.0, zip-append R xs us ys vs h.1 k)

zip-each : {A B : Type 0} (R : A → B → Type 0) (f : ℕ → A) (g : ℕ → B) (n : ℕ) → ((i : ℕ) → R (f i) (g i)) → AllZip R (each_below n f) (each_below n g)
unfolding each_below
zip-each R f g zero h = tt
zip-each R f g (suc n) h = zip-append R (each_below n f) (f n ∷ []) (each_below n g) (g n ∷ []) (zip-each R f g n h) (h n, tt)

open-below : (S : RunModel) (p : Plan) → AllZip IsOpen (duties_below S p) (queues_below S p)
open-below S (scan n c r m z) = tt
open-below S (unary n c op p) = open-below S p
open-below S (binary n c op p q) = zip-append IsOpen (duties_below S p) (duties_below S q) (queues_below S p) (queues_below S q) (open-below S p) (open-below S q)
open-below S (exchange n c k m p) =
    let count = workers S.sizes (size p) in
    let consumers = workers S.sizes (target k) in
    let lines = each_below consumers (λ _. open_line) in
    zip-append IsOpen (each_below count (producer_duty S n k p)) (duties_below S p) (each_below count (λ _. lines)) (queues_below S p)
    (zip-each IsOpen (producer_duty S n k p) (λ _. lines) count (λ i j l. ap (λ (z : LinkView). z.closed) (each-at consumers (λ _. open_line) j no_line l)))
    (open-below S p)

-- at first all are
open-at : (S : RunModel) (p : Plan) (roles : List Role) (w : LinksView) → IsCrew S p roles w → (a j : ℕ) → j < consumers_of (role_at roles a).post → closed_at w a j ≡ false
open-at S p roles w crew a j l =
    let ds = root_duty S p ∷ duties_below S p in
    let qs : List (List LinkView) = [] ∷ queues_below S p in
    let none : Duty = duty_of no_role in
    let zip : AllZip IsOpen ds qs = (λ k m. absurd (omega (arith, m)), open-below S p) in
    let duty : duty_of (role_at roles a) ≡ get_or ds a none = sym (duty-at roles a) ∙ ap (λ z. get_or z a none) crew.duties in
    let here : j < consumers_of (get_or ds a none).post = subst (λ (z : Duty). j < consumers_of z.post) duty l in
    elim (cases_lt a (length ds)) [
      | inl la ↦ subst (λ z. (line_in (get_or z a []) j).closed ≡ false) (sym crew.queues) (zip-at IsOpen ds qs a none [] la zip j here)
      | inr ge ↦
          let past : j < 0 = subst (λ (z : Duty). j < consumers_of z.post) (get_or_past ds a none ge) here in
          absurd (omega (arith, past))
    ]

pub ports-begin : (S : RunModel) (p : Plan) (roles : List Role) (w : LinksView) (ts : List Trace) → IsCrew S p roles w → ((a : ℕ) → trace_at ts a ≡ empty_trace) → PortsStand (role_at roles) w ts
ports-begin S p roles w ts crew e = record { closed = λ a j l. open-at S p roles w crew a j l ∙ sym (ap (λ (z : Trace). is_closed (z.sent j)) (e a)) }

-- one packet more on a queue that was open
closed-more : (xs : List PacketView) (p : PacketView) → is_closed xs ≡ false → is_closed (xs ++ p ∷ []) ≡ closes p.content
closed-more [] p e = go (closes p.content)
  where
    go : (b : Bool) → (b || false) ≡ b
    go true = refl
    go false = refl
closed-more (x ∷ xs) p e = go (closes x.content) (is_closed xs) (is_closed (xs ++ p ∷ [])) (closes p.content) (closed-more xs p) e
  where
    go : (a b c d : Bool) → (b ≡ false → c ≡ d) → (a || b) ≡ false → (a || c) ≡ d
    go true b c d f e = absurd (true≢false e)
    go false b c d f e = f e

module _ (roles : ℕ → Role) where
  ports-still : (w v : LinksView) (ts : List Trace) (t : Trace) → PortsStand roles w ts → w.turn < length ts → SameClosed w v → t.sent ≡ (trace_at ts w.turn).sent
      → PortsStand roles v (set ts w.turn t)
  ports-still w v ts t h lt same e = record {
    closed = λ a j l. same a j ∙ h.closed a j l ∙ sym (ap is_closed (kept (λ z. z.sent j) ts w.turn t lt (ap (λ (f : ℕ → List PacketView). f j) e) a));
  }

  pub ports-on : (w v : LinksView) (e : Event) (ts : List Trace) → PortsStand roles w ts → w.turn < length ts → Does w e v → PortsStand roles v (set ts w.turn (added (trace_at ts w.turn) e))
  ports-on w v idle ts h lt d = ports-still w v ts (trace_at ts w.turn) h lt d.closed refl
  ports-on w v (drew_one k n) ts h lt d = ports-still w v ts (added (trace_at ts w.turn) (drew_one k n)) h lt d.closed refl
  ports-on w v (took_one x i None) ts h lt d = ports-still w v ts (added (trace_at ts w.turn) (took_one x i None)) h lt d.stays.closed refl
  ports-on w v (took_one x i (Some p)) ts h lt d = ports-still w v ts (added (trace_at ts w.turn) (took_one x i (Some p))) h lt d.closed refl
  ports-on w v (put_one j p) ts h lt d =
      let t = added (trace_at ts w.turn) (put_one j p) in
      record {
        closed = λ a k l. elim (same-two a w.turn k j) [
          | inl e ↦
              let at = pair-is a w.turn k j e.0 e.1 in
              let was : closed_at w a k ≡ false = subst (λ z. closed_at w z.0 z.1 ≡ false) at d.was_open in
              let put : (trace_at (set ts w.turn t) a).sent k ≡ (trace_at ts a).sent k ++ p ∷ [] =
              changed (λ z. z.sent k) ts w.turn t lt a e.0 ∙ with-here (trace_at ts w.turn).sent j p k e.1 ∙ ap (λ z. (trace_at ts z).sent k ++ p ∷ []) (sym e.0)
              in
              subst (λ z. closed_at v z.0 z.1 ≡ closes p.content) at d.closes_here ∙ sym (closed-more ((trace_at ts a).sent k) p (sym (h.closed a k l) ∙ was)) ∙ sym (ap is_closed put)
          | inr e ↦ d.closed_others a k e ∙ h.closed a k l ∙ sym (ap is_closed (sent-other ts w.turn j p lt a k e))
        ];
      }

module _ {O S : Type 0} (OS : O → Ledger → Type 0) (want : O → Want) (op : O → Op) (most idle_turns : O → Coming → ℕ) (SS : S → Routing → Stream → (ℕ → List PacketView) → Type 0) (task : S → Task) (post : S → Post)
    (bounds : S → List Val) (held : S → ℕ → ℕ) (unclosed : S → ℕ)
    (hash : List ℕ → Row → ℕ → ℕ) (m : ℕ → ℕ → List Row) where
  -- each step keeps that
  pub ports-stepped : (goes : Routing) (i : ℕ) (ws vs : List (Worker O S)) (w v : LinksView) (ts : List Trace) → Stand OS op SS task post bounds hash m goes ws w ts
      → PortsStand (role_at (roles_of OS op SS task post bounds hash m ws)) w ts → (step : Steps OS want op most idle_turns SS task post bounds held unclosed hash m i ws w vs v)
      → PortsStand (role_at (roles_of OS op SS task post bounds hash m vs)) v (set ts i (added (trace_at ts i) step.event))
  ports-stepped goes i ws vs w v ts stand h step =
      let roles = roles_of OS op SS task post bounds hash m ws in
      let lt : i < length ts = subst (λ z. i < z) (zip-length (WorkerStands OS op SS task goes m) ws ts stand.workers) step.within in
      let same = (step-advances OS want op most idle_turns SS task post bounds held unclosed hash m i ws vs w v step).roles in
      subst (λ z. PortsStand (role_at z) v (set ts i (added (trace_at ts i) step.event))) (sym same)
      (ports-on (role_at roles) (record w { turn = i }) v step.event ts (record { closed = h.closed }) lt step.does)
