-- A fault for which no node of a plan is to blame comes from no worker: each fault is one of an input, or a node's own.
use Rattle.std.proofs.Common.{◌≡◌, ⊎_elim, ℕ, ◌<◌, true, List, sym, ap, ◌∙◌, subst}
use Rattle.vx_rows_values.specs.declared.order.OrderEntry.{OrderEntry}
use Rattle.vx_plan_nodes.specs.Plan.{ExchangeKind, Plan, scan, unary, binary, exchange, size}
use Rattle.vx_plan_nodes.specs.Types.{types_of}
use Rattle.vx_plan_nodes.specs.Numbering.{is_fit}
use Rattle.vx_plan_nodes.specs.Runs.{is_concat}
use Rattle.vx_plan_nodes.specs.Streams.{workers}
use Rattle.vx_ops.specs.Ledger.{Stream, ConsumerEnd, scan_op, one_op, two_op, receive, OwnBlame}
use Rattle.vx_ops.specs.declared.fault.Fault.{Fault}
use Rattle.vx_ops.specs.declared.fault.StreamState.TheVariants.{Failed}
use Rattle.vx_exchange_ends.specs.Tasks.{Task, send}
use Rattle.vx_worker.specs.Fragment.{RunModel, fragment}
use Rattle.vx_worker.specs.Trace.{Trace, Fate, failed, IsNoMemory, HasFailed, Honest, Ends}
use Rattle.vx_exec_laws.specs.RunOf.{ship_of, RunOf}
use Rattle.vx_exec_laws.specs.Faults.{FailsBelow}
use Rattle.vx_exec_laws.specs.CutRows.{Output}
use Rattle.vx_exec_laws.proofs.CutOrigins.{under, on-left, on-right, same-size, fit-left, fit-right}

-- the consumer end of an exchange at a place
abbrev pub port_of : RunModel → ℕ → ℕ → ExchangeKind → List OrderEntry → Plan → ConsumerEnd
port_of S n w k merge p = record { exchange = n; place = w; producers = workers S.sizes (size p); types = types_of S.catalog p; merge = merge; in_order = is_concat k }

module _ (S : RunModel) where
  -- no node is to blame for the fault, whatever its workers have received so far
  abbrev pub Blameless : Fault → (p : Plan) (ts : ℕ → Trace) → RunOf S (Ends S) p ts → Type 0
  Blameless f (scan n c r m z) ts run = (x : Output S (scan n c r m z) ts) → OwnBlame scan_op x.abides.0 f → ⊥
  Blameless f (unary n c op p) ts run = ((x : Output S (unary n c op p) ts) → OwnBlame (one_op n op) x.abides.0 f → ⊥) × Blameless f p ts run
  Blameless f (binary n c op p q) ts run =
      ((x : Output S (binary n c op p q) ts) → OwnBlame (two_op n op) x.abides.0 f → ⊥) × Blameless f p ts run.0 × Blameless f q ts run.1
  Blameless f (exchange n c k merge p) ts run =
      ((x : Output S (exchange n c k merge p) ts) → OwnBlame (receive (port_of S n x.place k merge p)) x.abides.0 f → ⊥) × Blameless f p run.0 run.1

  gives-none : (f : Fault) (p : Plan) → is_fit S.relation_of p ≡ true → (ts : ℕ → Trace) (run : RunOf S (Ends S) p ts) → Blameless f p ts run
      → (x : Output S p ts) → x.out.over ≡ Failed f → ⊥
  gives-none f (scan n c r m z) fit ts run none x e =
      let h = x.abides in
      ⊎_elim
      (λ i. (x.begins.scanned n).never_fails f (sym (ap (λ (s : Stream). s.over) h.1.scanned) ∙ i))
      (none x)
      (h.2.blame f (ap (λ (s : Stream). s.over) h.3 ∙ e))
  gives-none f (unary n c op p) fit ts run none x e =
      let h = x.abides in
      ⊎_elim (gives-none f p fit ts run none.1 (under S n c op p ts x)) (none.0 x) (h.2.blame f (ap (λ (s : Stream). s.over) h.3 ∙ e))
  gives-none f (binary n c op p q) fit ts run none x e =
      let h = x.abides in
      ⊎_elim
      (⊎_elim
      (gives-none f p (fit-left S n c op p q fit) ts run.0 none.1 (on-left S n c op p q ts x))
      (gives-none f q (fit-right S n c op p q fit) ts run.1 none.2 (on-right S n c op p q ts (same-size S n c op p q fit) x)))
      (none.0 x)
      (h.3.blame f (ap (λ (s : Stream). s.over) h.4 ∙ e))
  gives-none f (exchange n c k merge p) fit ts run none x e =
      let h = x.abides in
      ⊎_elim (λ i. i) (none.0 x) (h.2.blame f (ap (λ (s : Stream). s.over) h.3 ∙ e))

  -- no worker of the node ends with it, unless memory was refused to the worker
  pub ends-without : (f : Fault) → (IsNoMemory f → ⊥) → (p : Plan) → is_fit S.relation_of p ≡ true → (ts : ℕ → Trace) (run : RunOf S (Ends S) p ts) → Blameless f p ts run
      → (w : ℕ) → w < workers S.sizes (size p) → (task : Task) → (e : Ends S (fragment S w p) task (ts w)) → e.0 ≡ failed f → ⊥
  ends-without f other p fit ts run none w l task e is =
      let P : Fate → Type 0 = λ x. Honest S (fragment S w p) task x (ts w) in
      let k : HasFailed S (fragment S w p) task f (ts w) = subst P is e.1 in
      ⊎_elim (gives-none f p fit ts run none (record { place = w; below = l; reads = k.reads; begins = k.reads_begin; out = k.out; abides = k.abides })) other k.why

  -- nor does one below an exchange
  pub below-without : (f : Fault) → (IsNoMemory f → ⊥) → (p : Plan) → is_fit S.relation_of p ≡ true → (ts : ℕ → Trace) (run : RunOf S (Ends S) p ts) → Blameless f p ts run
      → FailsBelow S f p ts run → ⊥
  below-without f other (scan n c r m z) fit ts run none h = h
  below-without f other (unary n c op p) fit ts run none h = below-without f other p fit ts run none.1 h
  below-without f other (binary n c op p q) fit ts run none h =
      ⊎_elim (below-without f other p (fit-left S n c op p q fit) ts run.0 none.1) (below-without f other q (fit-right S n c op p q fit) ts run.1 none.2) h
  below-without f other (exchange n c k merge p) fit ts run none h =
      ⊎_elim
      (λ x. ends-without f other p fit run.0 run.1 none.1 x.0 x.1 (send (ship_of S n x.0 k p)) (run.2 x.0 x.1) x.2)
      (below-without f other p fit run.0 run.1 none.1)
      h
