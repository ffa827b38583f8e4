-- Steps of one worker in its thread.
use Rattle.std.proofs.Common.{ℕ, ◌≡◌, List, [], ◌∷◌, ◌++◌, refl, sym, ap, ◌∙◌, subst}
use Rattle.vx_rows_values.specs.Values.{Val, Row}
use Rattle.vx_plan_nodes.specs.Routes.{Routing}
use Rattle.vx_ports.specs.Packets.{PacketView}
use Rattle.vx_ops.specs.Ledger.{Stream, Ledger, Op}
use Rattle.vx_exchange_ends.specs.Tasks.{Task, Post}
use Rattle.vx_exchange_ends.specs.Sending.{RoutesAs}
use Rattle.vx_worker.specs.Trace.{Trace, Event, idle, added}
use Rattle.vx_exec_setup.specs.declared.counts.StepCounts.{StepCounts}
use Rattle.vx_worker.specs.Counts.{with_event, with_answer}
use Rattle.vx_worker.specs.Worker.{Role, role_of, sender_of, counts_of, WorkerStands}
use Rattle.vx_worker.specs.declared.worker.StepOutcome.{StepOutcome}
use Rattle.vx_worker.specs.declared.worker.Worker.{Worker}
use Rattle.vx_exec_threads.specs.Holds.{Hold, Bears}
use Rattle.vx_exec_threads.specs.Carrying.{Carries}
use Rattle.vx_exec_threads.specs.Idle.{same_ends_self}
use Rattle.vx_exec_threads.specs.Ran.{Ran, trace_with, counts_with}
use Rattle.vx_exec_threads.proofs.Bearing.{ends-then}

-- some steps, and then more of them
trace-then : (t : Trace) (xs ys : List (Event × StepOutcome)) → trace_with t (xs ++ ys) ≡ trace_with (trace_with t xs) ys
trace-then t [] ys = refl
trace-then t (x ∷ xs) ys = trace-then (added t x.0) xs ys

counts-then : (c : StepCounts) (xs ys : List (Event × StepOutcome)) → counts_with c (xs ++ ys) ≡ counts_with (counts_with c xs) ys
counts-then c [] ys = refl
counts-then c (x ∷ xs) ys = counts-then (with_answer (with_event c x.0) x.1) xs ys

module _ {O S : Type 0} (OS : O → Ledger → Type 0) (op : O → Op) (SS : S → Routing → Stream → (ℕ → List PacketView) → Type 0) (task : S → Task) (post : S → Post) (bounds : S → List Val)
    (hash : List ℕ → Row → ℕ → ℕ) (m : ℕ → ℕ → List Row) where
  pub ran-self : (w : Worker O S) (a : Hold) → Ran OS op SS task post bounds hash m w a w a
  ran-self w a = record { role = refl; same = same_ends_self a; steps = []; counts = refl; traces = λ goes r t h b. (h, b) }

  -- packets taken early
  pub ran-idle : (w v : Worker O S) (a b c : Hold) → Ran OS op SS task post bounds hash m w a v b → Carries b idle c → Ran OS op SS task post bounds hash m w a v c
  ran-idle w v a b c ran does = record {
    role = ran.role;
    same = ends-then a b c ran.same does.same;
    steps = ran.steps;
    counts = ran.counts;
    traces = λ goes r t h bears. let was = ran.traces goes r t h bears in (was.0, does.bears (trace_with t ran.steps) was.1);
  }

  -- what came to be, and then more
  pub ran-then : (w v u : Worker O S) (a b c : Hold) → Ran OS op SS task post bounds hash m w a v b → Ran OS op SS task post bounds hash m v b u c → Ran OS op SS task post bounds hash m w a u c
  ran-then w v u a b c x y = record {
    role = y.role ∙ x.role;
    same = ends-then a b c x.same y.same;
    steps = x.steps ++ y.steps;
    counts = y.counts ∙ ap (λ k. counts_with k y.steps) x.counts ∙ sym (counts-then (counts_of w) x.steps y.steps);
    traces = λ goes r t h bears.
        let was = x.traces goes r t h bears in
        let r' : RoutesAs (post (sender_of v)) (bounds (sender_of v)) hash goes = subst (λ (z : Role). RoutesAs z.post z.bounds hash goes) (sym x.role) r in
        let P : Trace → Type 0 = λ s. WorkerStands OS op SS task goes m u s × Bears c s in
        subst P (sym (trace-then t x.steps y.steps)) (y.traces goes r' (trace_with t x.steps) was.0 was.1);
  }

  -- one step, from nothing
  pub ran-one : (w v : Worker O S) (a b c : Hold) (answer : StepOutcome) → b ≡ c → role_of op post bounds v ≡ role_of op post bounds w
      → (e : Event) × Carries a e b × ((goes : Routing) → RoutesAs (post (sender_of w)) (bounds (sender_of w)) hash goes → (t : Trace) → WorkerStands OS op SS task goes m w t → WorkerStands OS op SS task goes m v (added t e))
      × (counts_of v ≡ with_answer (with_event (counts_of w) e) answer)
      → Ran OS op SS task post bounds hash m w a v c
  ran-one w v a b c answer e role x = subst (λ z. Ran OS op SS task post bounds hash m w a v z) e (record {
    role = role;
    same = x.1.same;
    steps = (x.0, answer) ∷ [];
    counts = x.3;
    traces = λ goes r t h bears. (x.2 goes r t h, x.1.bears t bears);
  })
