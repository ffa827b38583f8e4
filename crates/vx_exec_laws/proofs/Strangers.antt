-- Whatever is claimed, no worker ends with a packet that isn't its own.
use Rattle.vx_rows_values.specs.declared.order.OrderEntry.{OrderEntry}
use Rattle.vx_worker.specs.Fragment.{RunModel, fragment}
use Rattle.std.proofs.Common.{◌≡◌, ⊎_elim, ℕ, ◌<◌, List, [], ◌∷◌, ◌++◌, map, refl, sym, ap, subst, arith}
use Rattle.vx_rows_values.specs.Values.{Row}
use Rattle.vx_plan_nodes.specs.Plan.{by_hashing, by_merging, ExchangeKind, target, Unary, select, project, distinct, sort, group, Binary, union, join, Plan, scan, unary, binary, exchange, size, limit, semi_join}
use Rattle.vx_plan_nodes.specs.Streams.{workers}
use Rattle.vx_ports.specs.Packets.{Content, last, fault, PacketView}
use Rattle.vx_ops.specs.Ledger.{Ledger, ConsumerEnd, one_op, two_op, OwnBlame, IsFor, Came}
use Rattle.vx_rows.specs.Lists.{IsBeginning}
use Rattle.vx_exchange_ends.specs.Ship.{packet_at, packet_of}
use Rattle.vx_worker.specs.Trace.{Trace, Fate, well, failed, Honest, Ends}
use Rattle.vx_exchange_ends.specs.Tasks.{keep, send}
use Rattle.vx_exec_laws.specs.RunOf.{ship_of, RunOf}
use Rattle.vx_exec_laws.specs.DerivedFaults.{NoStranger}
use Rattle.vx_ops.specs.declared.fault.Code.TheVariants.{Stranger}
use Rattle.vx_ops.specs.declared.fault.Fault.TheVariants.{Own}
use Rattle.vx_exec_laws.proofs.Parts.{one-worker}
use Rattle.vx_exec_laws.specs.CutRows.{Output}
use Rattle.vx_exec_laws.proofs.Blameless.{port_of, Blameless, ends-without, below-without}

-- all packets are for this port, from this producer
abbrev AllFor : ConsumerEnd → ℕ → List PacketView → Type 0
AllFor port i [] = Unit {0}
AllFor port i (p ∷ ps) = IsFor port i p × AllFor port i ps

for-left : (port : ConsumerEnd) (i : ℕ) (ps qs : List PacketView) → AllFor port i (ps ++ qs) → AllFor port i ps
for-left port i [] qs h = tt
for-left port i (p ∷ ps) qs h = (h.0, for-left port i ps qs h.1)

for-begins : (port : ConsumerEnd) (i : ℕ) (ps qs : List PacketView) → IsBeginning ps qs → AllFor port i qs → AllFor port i ps
for-begins port i ps qs b h = let P : List PacketView → Type 0 = λ xs. AllFor port i xs in for-left port i ps b.rest (subst P (sym b.joined) h)

none-strange : (port : ConsumerEnd) (i : ℕ) (before : List PacketView) (p : PacketView) (back : List PacketView) → AllFor port i (before ++ p ∷ back) → (IsFor port i p → ⊥) → ⊥
none-strange port i [] p back h k = k h.0
none-strange port i (q ∷ before) p back h k = none-strange port i before p back h.1 k

one-own : (n node : ℕ) (op : Unary) (h : Ledger) → OwnBlame (one_op n op) h (Own Stranger node) → ⊥
one-own n node (select fs) h b = b
one-own n node (project es) h b = b
one-own n node (distinct cols) h b = b
one-own n node (sort of_parts order) h b = b
one-own n node (group phase by aggregates) h b = b
one-own n node (limit m) h b = b

two-own : (n node : ℕ) (op : Binary) (h : Ledger) → OwnBlame (two_op n op) h (Own Stranger node) → ⊥
two-own n node union h b = b
two-own n node (join (by_merging falls) on) h b = b
two-own n node (join by_hashing on) h b = b
two-own n node (semi_join matched on conditions) h b = b

module _ (S : RunModel) where
  packets-for : (n i w : ℕ) (k : ExchangeKind) (merge : List OrderEntry) (p : Plan) (parts : List (List Row)) (end : Content)
      → AllFor (port_of S n w k merge p) i (map (packet_at (ship_of S n i k p) w) parts ++ packet_of (ship_of S n i k p) w end ∷ [])
  packets-for n i w k merge p [] end = (record { exchange = refl; from_is = refl; to = refl; types = refl }, tt)
  packets-for n i w k merge p (x ∷ parts) end = (record { exchange = refl; from_is = refl; to = refl; types = refl }, packets-for n i w k merge p parts end)

  put-for : (n i w : ℕ) (k : ExchangeKind) (merge : List OrderEntry) (p : Plan) (u : Trace) → w < workers S.sizes (target k) → (e : Ends S (fragment S i p) (send (ship_of S n i k p)) u) → AllFor (port_of S n w k merge p) i (u.sent w)
  put-for n i w k merge p u l e = go e.0 e.1
    where
      go : (fate : Fate) → Honest S (fragment S i p) (send (ship_of S n i k p)) fate u → AllFor (port_of S n w k merge p) i (u.sent w)
      go well h = let P : List PacketView → Type 0 = λ ps. AllFor (port_of S n w k merge p) i ps in subst P (h.finished.ports w l).closed (packets-for n i w k merge p (h.finished.ports w l).parts last)
      go (failed x) h = let P : List PacketView → Type 0 = λ ps. AllFor (port_of S n w k merge p) i ps in subst P (h.stopped.ports w l).closed (packets-for n i w k merge p (h.stopped.ports w l).parts fault)

  -- no node is to blame for a packet that isn't its own
  pub stranger-blameless : (node : ℕ) (p : Plan) (ts : ℕ → Trace) (run : RunOf S (Ends S) p ts) → Blameless S (Own Stranger node) p ts run
  stranger-blameless node (scan n c r m z) ts run = λ x b. b
  stranger-blameless node (unary n c op p) ts run = ((λ x. one-own n node op x.abides.0), stranger-blameless node p ts run)
  stranger-blameless node (binary n c op p q) ts run = ((λ x. two-own n node op x.abides.0), stranger-blameless node p ts run.0, stranger-blameless node q ts run.1)
  stranger-blameless node (exchange n c k merge p) ts run = ((λ x b. received x b.1.0 b.1.1 b.1.2), stranger-blameless node p run.0 run.1)
    where
      received : (x : Output S (exchange n c k merge p) ts) (i : ℕ) → i < workers S.sizes (size p)
          → Came (λ v. IsFor (port_of S n x.place k merge p) i v → ⊥) (x.abides.0.came i) → ⊥
      received x i a strange =
          let port : ConsumerEnd = port_of S n x.place k merge p in
          let P : List PacketView → Type 0 = λ ps. AllFor port i ps in
          let seen : x.abides.0.came i ≡ x.reads.came n i = ap (λ (g : ℕ → List PacketView). g i) x.abides.1.came in
          let flow = run.3 i x.place a x.below in
          let came : AllFor port i (x.abides.0.came i)
          = subst P (sym seen) (for-begins port i (x.reads.came n i) ((ts x.place).came n i) (x.begins.came n i)
          (for-begins port i ((ts x.place).came n i) ((run.0 i).sent x.place) (record { rest = flow.rest; joined = flow.begins })
          (put-for n i x.place k merge p (run.0 i) x.below (run.2 i a)))) in
          none-strange port i strange.front strange.packet strange.back (subst P (sym strange.joined) came) strange.is

pub no-stranger : NoStranger
no-stranger S p fit single t kept root run node h =
    let n1 : workers S.sizes (size p) ≡ 1 = one-worker S.sizes (size p) single in
    let P : ℕ → Type 0 = λ m. 0 < m in
    let blameless = stranger-blameless S node p (λ _. t) run in
    ⊎_elim
    (ends-without S (Own Stranger node) (λ m. m) p fit (λ _. t) run blameless 0 (subst P (sym n1) (omega arith)) (keep kept) root)
    (below-without S (Own Stranger node) (λ m. m) p fit (λ _. t) run blameless)
    h
