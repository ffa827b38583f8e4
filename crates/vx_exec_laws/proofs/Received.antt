-- What workers of a node have given so far, sorted, and what a consumer has read so far of each producer of an exchange.
use Rattle.std.proofs.Common.{◌≡◌, inl, inr, ℕ, ◌<◌, ◌==◌, Bool, true, false, List, refl, sym, ap, subst, eqb-true}
use Rattle.std.proofs.lemmas.Bool.{eqb-false}
use Rattle.std.specs.Coded.{le_prop}
use Rattle.vx_rows_values.specs.declared.order.OrderEntry.{OrderEntry}
use Rattle.vx_rows_values.specs.Values.{Row}
use Rattle.vx_rows_values.specs.Order.{sorted}
use Rattle.vx_rows.specs.Lists.{IsBeginning}
use Rattle.vx_plan_nodes.specs.Plan.{Claim, ExchangeKind, target, Plan, exchange, size}
use Rattle.vx_plan_nodes.specs.Routes.{Sends}
use Rattle.vx_plan_nodes.specs.Streams.{Streams, workers}
use Rattle.vx_plan_facts.specs.FollowLaws.{Occurs}
use Rattle.vx_check_rules.specs.Claims.{Given}
use Rattle.vx_ports.specs.Packets.{PacketView, rows_of}
use Rattle.vx_worker.specs.Fragment.{RunModel, goes}
use Rattle.vx_worker.specs.Trace.{Trace, Ends}
use Rattle.vx_exec_laws.specs.RunOf.{RunOf}
use Rattle.vx_exec_laws.specs.CutRows.{Output, AreOneOrApart}
use Rattle.vx_exec_laws.proofs.Exchange.{sends-sorted}
use Rattle.vx_exec_laws.proofs.Tidy.{sorted-left, begins-rows, came-so}
use Rattle.vx_exec_laws.proofs.CutOrigins.{occurs-begins, producer, put-occurs}

pub sorted-begins : (order : List OrderEntry) (xs zs : List Row) → IsBeginning xs zs → sorted order zs ≡ true → sorted order xs ≡ true
sorted-begins order xs zs b h = let P : List Row → Type 0 = λ l. sorted order l ≡ true in sorted-left order xs b.rest (subst P (sym b.joined) h)

-- what each worker of a node has given so far is sorted
abbrev pub SortedSoFar : (S : RunModel) (p : Plan) → (ℕ → Trace) → List OrderEntry → Type 0
SortedSoFar S p ts order = (x : Output S p ts) → sorted order x.out.rows ≡ true

-- ---- what a consumer has read of each producer

module _ (S : RunModel) (giv : Given S.catalog S.db S.sizes (goes S)) (n : ℕ) (c : Claim) (k : ExchangeKind) (merge : List OrderEntry) (p : Plan) (ts : ℕ → Trace) (run : RunOf S (Ends S) (exchange n c k merge p) ts)
    (x : Output S (exchange n c k merge p) ts) where
  heard : (i : ℕ) → x.abides.0.came i ≡ x.reads.came n i
  heard i = ap (λ (f : ℕ → List PacketView). f i) x.abides.1.came

  -- what holds of all that a producer sends, and of each beginning of it
  pub came-here : (P : List Row → Type 0) → ((xs zs : List Row) → IsBeginning xs zs → P zs → P xs) → (i : ℕ) (a : i < workers S.sizes (size p))
      → ((y : Output S p run.0) → (i ≡ y.place) → (sent : Streams) → Sends (goes S) k (workers S.sizes (target k)) y.out.rows sent → P (sent x.place)) → P (rows_of (x.abides.0.came i))
  came-here P begins i a sends =
      let Q : List PacketView → Type 0 = λ ps. P (rows_of ps) in
      subst Q (sym (heard i)) (came-so S giv P begins n i k p (run.0 i) (ts x.place) (run.2 i a) x.place x.below
      (λ reads r out h sent s. sends (record { place = i; below = a; reads = reads; begins = r; out = out; abides = h }) refl sent s)
      (run.3 i x.place a x.below) (x.reads.came n i) (x.begins.came n i))

  pub came-sorted : (order : List OrderEntry) → SortedSoFar S p run.0 order → (i : ℕ) → i < workers S.sizes (size p) → sorted order (rows_of (x.abides.0.came i)) ≡ true
  came-sorted order up i a = came-here (λ xs. sorted order xs ≡ true) (sorted-begins order) i a
      (λ y at sent s. sends-sorted (goes S) k (workers S.sizes (target k)) y.out.rows sent s order (up y) x.place x.below)

  -- the producer when it ended, and that each of these rows is one of its
  abbrev producer_at : (i : ℕ) → i < workers S.sizes (size p) → Output S p run.0
  producer_at i a = producer S n i k p run.0 a (run.2 i a)

  pub came-among : (i : ℕ) (a : i < workers S.sizes (size p)) (row : Row) → Occurs row (rows_of (x.abides.0.came i)) → Occurs row (producer_at i a).out.rows
  came-among i a row o =
      let flow = run.3 i x.place a x.below in
      let P : List PacketView → Type 0 = λ ps. Occurs row (rows_of ps) in
      let took : Occurs row (rows_of ((ts x.place).came n i))
      = occurs-begins row (rows_of (x.reads.came n i)) (rows_of ((ts x.place).came n i)) (begins-rows (x.reads.came n i) ((ts x.place).came n i) (x.begins.came n i)) (subst P (heard i) o) in
      (put-occurs S n i k p run.0 a (run.2 i a) x.place x.below row
      (occurs-begins row (rows_of ((ts x.place).came n i)) (rows_of ((run.0 i).sent x.place))
      (begins-rows ((ts x.place).came n i) ((run.0 i).sent x.place) (record { rest = flow.rest; joined = flow.begins })) took)).0

  pub one-or-apart : (i j : ℕ) (a : i < workers S.sizes (size p)) (b : j < workers S.sizes (size p)) → AreOneOrApart S p run.0 (producer_at i a) (producer_at j b)
  one-or-apart i j a b = go (i == j) refl
    where
      go : (e : Bool) → (i == j) ≡ e → AreOneOrApart S p run.0 (producer_at i a) (producer_at j b)
      go true e =
          let P : ℕ → Type 0 = λ v. (d : v < workers S.sizes (size p)) → producer_at i a ≡ producer_at v d in
          inl (subst P (eqb-true i j e) (λ d. ap (producer_at i) (le_prop a d)) b)
      go false e = inr (eqb-false i j e)

  -- the lists of which the consumer has made what it gave
  abbrev pub lists : Streams
  lists i = rows_of (x.abides.2.before.inputs.came i)

  pub lists-sorted : (order : List OrderEntry) → SortedSoFar S p run.0 order → (i : ℕ) → i < workers S.sizes (size p) → sorted order (lists i) ≡ true
  lists-sorted order up i a = sorted-begins order (lists i) (rows_of (x.abides.0.came i)) (x.abides.2.before.begins.came i) (came-sorted order up i a)
