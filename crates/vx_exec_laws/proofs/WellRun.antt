-- From the traces of all workers to a run of the plan relation.
use Rattle.vx_worker.specs.Fragment.{goes, IsSet, RunModel, Reads, fragment, FragAbides, FragMakes}
use Rattle.std.proofs.Common.{◌≡◌, ℕ, ◌<◌, ◌==◌, ◌&&◌, Bool, true, false, List, [], sym, ap, ◌∙◌, subst, arith, eqb-true, Some}
use Rattle.vx_rows_values.specs.Values.{Row}
use Rattle.vx_plan_nodes.specs.Plan.{Size, ExchangeKind, target, Claim, Plan, scan, unary, binary, exchange, size, is_one, size_eq}
use Rattle.vx_plan_nodes.specs.Serial.{unary_rows, binary_rows}
use Rattle.vx_plan_nodes.specs.Streams.{Streams, workers, Dealt}
use Rattle.vx_plan_nodes.specs.Routes.{Sends}
use Rattle.vx_plan_nodes.specs.Runs.{Runs, is_concat}
use Rattle.vx_ports.specs.Packets.{PacketView, rows_of}
use Rattle.vx_worker.specs.Morsels.{morsel_of, morsels}
use Rattle.vx_ops.specs.Ledger.{Stream, scan_op, one_op, two_op, receive, Makes}
use Rattle.vx_exchange_ends.specs.Ship.{IsPort}
use Rattle.vx_worker.specs.Trace.{Trace, scan_morsels, IsWell}
use Rattle.vx_exchange_ends.specs.Tasks.{keep, send}
use Rattle.vx_exec_laws.specs.RunOf.{ship_of, RunOf, Made, WellRuns, WellRunGives, WellRunDelivers}
use Rattle.vx_plan_nodes.specs.Numbering.{is_fit}
use Rattle.vx_ops.specs.declared.fault.StreamState.TheVariants.{Ended}
use Rattle.vx_exchange_ends.proofs.Joined.{joined-ext}
use Rattle.vx_exec_laws.proofs.Settings.{set-given}
use Rattle.vx_exec_laws.proofs.Bags.{and-left, and-right}
use Rattle.vx_exec_laws.proofs.Parts.{some-workers, size_eq-is, one-worker}
use Rattle.vx_exec_laws.proofs.Orders.{Dealt-one}
use Rattle.vx_exec_laws.proofs.Choose.{choose}
use Rattle.vx_exec_laws.proofs.Packets.{port-rows, whole-flow}
use Rattle.vx_exec_laws.proofs.Decks.{dispatched-dealt}
use Rattle.vx_exec_laws.proofs.Total.{sound-at-root}

-- morsels of a row or more, and workers of each size
pub record Sized (S : RunModel) : Type 0 where
  pub some_rows : 0 < S.morsel
  pub some_workers : (k : ℕ) → 0 < S.sizes k

pub set-sized : (S : RunModel) → IsSet S → Sized S
set-sized S set = record { some_rows = set.some_morsel; some_workers = set.some_workers }

-- where the top of a fragment ended, it made all that its operators make
pub abides-makes : (S : RunModel) (w : ℕ) (p : Plan) (r : Reads) (out : Stream) → FragAbides (fragment S w p) r out → out.over ≡ Ended → FragMakes (fragment S w p) r out.rows
abides-makes S w (scan n c k m z) r out h e =
    let t = h.2.ended (ap (λ (s : Stream). s.over) h.3 ∙ e) in
    let P : Stream → Type 0 = λ s. Makes scan_op h.0 s.rows in
    (h.0, h.1, t.0, subst P h.3 t.1)
abides-makes S w (unary n c op p) r out h e =
    let t = h.2.ended (ap (λ (s : Stream). s.over) h.3 ∙ e) in
    let P : Stream → Type 0 = λ s. Makes (one_op n op) h.0 s.rows in
    (h.0, abides-makes S w p r h.0.left h.1 t.0, subst P h.3 t.1)
abides-makes S w (binary n c op p q) r out h e =
    let t = h.3.ended (ap (λ (s : Stream). s.over) h.4 ∙ e) in
    let P : Stream → Type 0 = λ s. Makes (two_op n op) h.0 s.rows in
    (h.0, abides-makes S w p r h.0.left h.1 t.0.0, abides-makes S w q r h.0.right h.2 t.0.1, subst P h.4 t.1)
abides-makes S w (exchange n c k merge p) r out h e =
    let t = h.2.ended (ap (λ (s : Stream). s.over) h.3 ∙ e) in
    let P : Stream → Type 0 = λ s. Makes (receive (record { exchange = n; place = w; producers = workers S.sizes (size p); types = Rattle.vx_plan_nodes.specs.Types.types_of S.catalog p; merge = merge; in_order = is_concat k })) h.0 s.rows in
    (h.0, h.1, t.0, subst P h.3 t.1)

pub well-made : (S : RunModel) (w : ℕ) (p : Plan) (task : Rattle.vx_exchange_ends.specs.Tasks.Task) (t : Trace) → (h : IsWell S (fragment S w p) task t) → Made S (fragment S w p) t h.out.rows
well-made S w p task t h = record { reads = h.reads; reads_are = h.reads_are; makes = abides-makes S w p h.reads h.out h.abides h.ended }

pub dealt-lists : (n : ℕ) (xs : List Row) (f g : Streams) → ((i : ℕ) → i < n → f i ≡ g i) → Dealt n xs f → Dealt n xs g
dealt-lists n xs f g e d = record { numbered = d.numbered; whole = d.whole; in_range = d.in_range; lists_are = λ i l. d.lists_are i l ∙ e i l }

-- what a scan made is the rows of the morsels drawn, and its end was met
scan-made : (S : RunModel) (n : ℕ) (c : Claim) (r : ℕ) (m : Bool) (z : Size) (w : ℕ) (t : Trace) (rows : List Row) → (S.relation_of n == r) ≡ true
    → Made S (fragment S w (scan n c r m z)) t rows → (morsels (morsel_of S.morsel (S.db r)) (t.drew n).numbers ≡ rows) × ((t.drew n).met_end ≡ true)
scan-made S n c r m z w t rows fit h =
    let l = h.makes.0 in
    let heard : l.left ≡ h.reads.scanned n = h.makes.1.scanned in
    let e : l.left.rows ≡ morsels (scan_morsels S n) (t.drew n).numbers = ap (λ (s : Stream). s.rows) heard ∙ (h.reads_are.scanned n).rows in
    let P : ℕ → Type 0 = λ k. l.left.rows ≡ morsels (morsel_of S.morsel (S.db k)) (t.drew n).numbers in (
      sym (h.makes.3 ∙ subst P (eqb-true (S.relation_of n) r fit) e),
      (h.reads_are.scanned n).ended (sym (ap (λ (s : Stream). s.over) heard) ∙ h.makes.2),
    )

module _ (S : RunModel) (sized : Sized S) where
  -- what a producer made and sent
  pub record Produced (n i : ℕ) (k : ExchangeKind) (p : Plan) (t : Trace) (x : List Row × Streams) : Type 0 where
    pub made : Made S (fragment S i p) t x.0
    pub sends : Sends (goes S) k (workers S.sizes (target k)) x.0 x.1
    pub ports : (j : ℕ) → j < workers S.sizes (target k) → IsPort (ship_of S n i k p) j (x.1 j) (t.sent j)

  pub produced : (n i : ℕ) (k : ExchangeKind) (p : Plan) (t : Trace) → IsWell S (fragment S i p) (send (ship_of S n i k p)) t → (x : List Row × Streams) × Produced n i k p t x
  produced n i k p t h = ((h.out.rows, h.finished.sent), record { made = well-made S i p (send (ship_of S n i k p)) t h; sends = h.finished.sends; ports = h.finished.ports })

  pub runs-of : (p : Plan) → is_fit S.relation_of p ≡ true
      → (ts : ℕ → Trace) (out : Streams) → ((w : ℕ) → w < workers S.sizes (size p) → Made S (fragment S w p) (ts w) (out w))
      → RunOf S (IsWell S) p ts → Runs S.db S.sizes (goes S) p out
  runs-of (scan n c r true z) fit ts out made run =
      let some : 0 < workers S.sizes z = some-workers S.sizes sized.some_workers z in
      let each : (w : ℕ) → w < workers S.sizes z → (morsels (morsel_of S.morsel (S.db r)) ((ts w).drew n).numbers ≡ out w) × (((ts w).drew n).met_end ≡ true)
      = λ w l. scan-made S n c r true z w (ts w) (out w) fit (made w l) in
      dealt-lists (workers S.sizes z) (S.db r) _ out (λ w l. (each w l).0)
      (dispatched-dealt S.morsel (S.db r) (workers S.sizes z) (λ w. (ts w).drew n) sized.some_rows some run 0 some (each 0 some).1)
  runs-of (scan n c r false z) fit ts out made run = λ w l.
      let each = scan-made S n c r false z w (ts w) (out w) fit (made w l) in
      sym (Dealt-one (dispatched-dealt S.morsel (S.db r) 1 (λ v. (ts w).drew n) sized.some_rows (omega arith) (run w l) 0 (omega arith) each.1) ∙ each.0)
  runs-of (unary n c op p) fit ts out made run =
      let u = choose (λ w x. Made S (fragment S w p) (ts w) x × (unary_rows op x ≡ Some (out w))) [] (workers S.sizes (size p))
      (λ w l. let h = made w l in (h.makes.0.left.rows, (record { reads = h.reads; reads_are = h.reads_are; makes = h.makes.1 }, h.makes.2))) in
      (u.0, runs-of p fit ts u.0 (λ w l. (u.1 w l).0) run, λ w l. (u.1 w l).1)
  runs-of (binary n c op p q) fit ts out made run =
      let same : size p ≡ size q = size_eq-is (size p) (size q) (and-left (size_eq (size p) (size q)) _ fit) in
      let fits = and-right (size_eq (size p) (size q)) (is_fit S.relation_of p && is_fit S.relation_of q) fit in
      let u = choose (λ w (x : List Row × List Row). Made S (fragment S w p) (ts w) x.0 × Made S (fragment S w q) (ts w) x.1 × (binary_rows op x.0 x.1 ≡ out w)) ([], []) (workers S.sizes (size p))
      (λ w l.
      let h = made w l in (
        (h.makes.0.left.rows, h.makes.0.right.rows),
        (
          record { reads = h.reads; reads_are = h.reads_are; makes = h.makes.1 },
          record { reads = h.reads; reads_are = h.reads_are; makes = h.makes.2 },
          h.makes.3,
        ),
      )) in
      let back : (w : ℕ) → w < workers S.sizes (size q) → w < workers S.sizes (size p)
      = λ w l. let P : Size → Type 0 = λ z. w < workers S.sizes z in subst P (sym same) l in (
        λ w. (u.0 w).0,
        λ w. (u.0 w).1,
        runs-of p (and-left (is_fit S.relation_of p) (is_fit S.relation_of q) fits) ts (λ w. (u.0 w).0) (λ w l. (u.1 w l).0) run.0,
        runs-of q (and-right (is_fit S.relation_of p) (is_fit S.relation_of q) fits) ts (λ w. (u.0 w).1) (λ w l. (u.1 w (back w l)).1) run.1,
        λ w l. (u.1 w l).2,
      )
  runs-of (exchange n c k merge p) fit ts out made run =
      let us = run.0 in
      let m : ℕ = workers S.sizes (size p) in
      let u = choose (λ i (x : List Row × Streams). Produced n i k p (us i) x) ([], λ j. []) m (λ i l. produced n i k p (us i) (run.2 i l)) in
      let came : (i j : ℕ) → (a : i < m) → (b : j < workers S.sizes (target k)) → rows_of ((made j b).makes.0.came i) ≡ (u.0 i).1 j
      = λ i j a b.
      let h = made j b in
      let taken : h.makes.0.came i ≡ (ts j).came n i = ap (λ (f : ℕ → List PacketView). f i) (h.makes.1.came ∙ h.reads_are.came n) in
      let P : List PacketView → Type 0 = λ ps. Rattle.vx_ports.specs.Packets.has_last ps ≡ true in
      let all_taken : (ts j).came n i ≡ (us i).sent j = whole-flow ((us i).sent j) ((ts j).came n i) (run.3 i j a b) (subst P taken (h.makes.2 i a)) in
      ap rows_of (taken ∙ all_taken) ∙ port-rows (ship_of S n i k p) j ((u.0 i).1 j) ((us i).sent j) ((u.1 i a).ports j b) in (
        λ i. (u.0 i).0,
        runs-of p fit us (λ i. (u.0 i).0) (λ i l. (u.1 i l).made) run.1,
        record {
          sent = λ i. (u.0 i).1;
          sends = λ i l. (u.1 i l).sends;
          gets = λ j b. dealt-lists m (out j) (λ i. rows_of ((made j b).makes.0.came i)) (λ i. (u.0 i).1 j) (λ i a. came i j a b) (made j b).makes.3.0;
          merged = λ j b. (made j b).makes.3.1;
          in_order = λ e j b. joined-ext m (λ i. (u.0 i).1 j) (λ i. rows_of ((made j b).makes.0.came i)) (λ i a. sym (came i j a b)) ∙ (made j b).makes.3.2 e;
        },
      )

pub well-runs : WellRuns
well-runs S set p fit ts out made run = runs-of S (set-sized S set) p fit ts out made run

pub well-run-gives : WellRunGives
well-run-gives S set p fit one t rows h run =
    let n1 : workers S.sizes (size p) ≡ 1 = one-worker S.sizes (size p) one in
    runs-of S (set-sized S set) p fit (λ w. t) (λ w. rows)
    (λ w l.
    let P : ℕ → Type 0 = λ m. w < m in
    let z : w < 1 = subst P n1 l in
    let w0 : 0 ≡ w = omega (arith, z) in
    let Q : List Row → Type 0 = λ xs. Made S (fragment S 0 p) t xs in
    let R : ℕ → Type 0 = λ v. Made S (fragment S v p) t rows in
    subst R w0 (subst Q (sym h.finished.0) (well-made S 0 p (keep rows) t h))) run

pub well-run-delivers : WellRunDelivers
well-run-delivers S set is_total p fit wf shut ok root t rows h run =
    sound-at-root S.catalog S.db S.sizes (goes S) (set-given S set) is_total p (λ w. rows) wf shut ok root
    (well-run-gives S set p fit (and-left (is_one (size p)) _ root) t rows h run)
