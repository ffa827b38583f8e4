-- What a node has given so far is sorted on its claimed order, by the rule table with what is known of columns.
use Rattle.std.proofs.Common.{◌≡◌, ⊎_elim, inl, ℕ, ◌<◌, ◌==◌, Bool, true, false, ◌&&◌, ◌||◌, List, [], length, refl, sym, subst, arith, true≢false, eq-eqb}
use Rattle.std.specs.List.{list_all, AllByRecursion}
use Rattle.vx_rows_values.specs.declared.order.OrderEntry.{OrderEntry}
use Rattle.vx_rows_values.specs.Values.{Row}
use Rattle.vx_rows_values.specs.Order.{sorted}
use Rattle.vx_plan_nodes.specs.Plan.{Size, Claim, Unary, Binary, union, join, ExchangeKind, route_to, round, broadcast, gather, concat, target, Plan, scan, unary, binary, exchange, claim, size, is_one, semi_join}
use Rattle.vx_plan_nodes.specs.Types.{width}
use Rattle.vx_plan_nodes.specs.Runs.{is_concat}
use Rattle.vx_plan_nodes.specs.Serial.{binary_rows}
use Rattle.vx_plan_nodes.specs.Streams.{Streams, workers, joined, Dealt}
use Rattle.vx_plan_facts.specs.Equal.{equal_at}
use Rattle.vx_plan_facts.specs.Fixed.{fixed_at}
use Rattle.vx_plan_facts.specs.Determined.{determined}
use Rattle.vx_plan_facts.specs.Following.{order_follows}
use Rattle.vx_plan_facts.specs.FollowLaws.{Occurs}
use Rattle.vx_plan_facts.specs.RowFacts.{MeetsAt, EachMeets}
use Rattle.vx_plan_facts.proofs.EachRow.{each-joined, each-has, each-of-had, each-stream}
use Rattle.vx_check_rules.specs.Rules.{order_shown, goes_on}
use Rattle.vx_check_rules.specs.Derived.{goes_on_derived, rises_equally, unary_order, binary_order, order_derived}
use Rattle.vx_check_rules.specs.Claims.{Given}
use Rattle.vx_ports.specs.Packets.{rows_of}
use Rattle.vx_ops.specs.Ledger.{Stream, Ledger, Op, one_op, two_op, receive, Begun}
use Rattle.vx_worker.specs.Fragment.{RunModel, goes}
use Rattle.vx_worker.specs.Trace.{Trace, Ends}
use Rattle.vx_exec_laws.specs.RunOf.{RunOf}
use Rattle.vx_exec_laws.specs.CutRows.{Output}
use Rattle.vx_exec_laws.proofs.Parts.{or-cases, one-worker}
use Rattle.vx_exec_laws.proofs.Bags.{and-left, and-right}
use Rattle.vx_exec_laws.proofs.Orders.{sorted-front, sorted-bearing, Dealt-one}
use Rattle.vx_exec_laws.proofs.JoinOrder.{wide}
use Rattle.vx_exec_laws.proofs.Operators.{keeps, unary-ordered}
use Rattle.vx_exec_laws.proofs.Places.{at_place, Placed, both-ordered}
use Rattle.vx_exec_laws.proofs.WellFormed.{names}
use Rattle.vx_exec_laws.proofs.Decks.{Drawn, dispatched-drawn}
use Rattle.vx_exec_laws.proofs.Concat.{ranged, goes-on-is, exchange-sorted}
use Rattle.vx_exec_laws.proofs.Tidy.{sends-all, all-begins, scan-so}
use Rattle.vx_exec_laws.proofs.DerivedPairs.{Pairs, pairs-among, order-from}
use Rattle.vx_exec_laws.proofs.DerivedOpen.{derived-tests}
use Rattle.vx_exec_laws.proofs.OrderFacts.{front-self}
use Rattle.vx_exec_laws.proofs.DerivedOrders.{unary-given, each-all, ranged-equally}
use Rattle.vx_exec_laws.proofs.Blameless.{port_of}
use Rattle.vx_exec_laws.proofs.CutOrigins.{occurs-begins, under, on-left, producer}
use Rattle.vx_exec_laws.proofs.Received.{sorted-begins, SortedSoFar, came-here, came-among, one-or-apart, lists, lists-sorted}
use Rattle.vx_exec_laws.proofs.CutPlaces.{Meeting, Fine, fine-under, fine-left, fine-below, here, placed-so-far}
use Rattle.vx_exec_laws.proofs.CutAgree.{pairs-so-far}

-- the claim with another order
abbrev with_order : Claim → List OrderEntry → Claim
with_order c order = record { part = c.part; order = order; keys = c.keys }

-- what both inputs give in order, in the order that the table says
both-order : (S : RunModel) (n : ℕ) (c : Claim) (op : Binary) (p q : Plan) → Fine S p → (ls rs : List Row) → wide (width S.catalog p) ls ≡ true → sorted (claim p).order ls ≡ true
    → sorted (binary_order op (claim p).order) (binary_rows op ls rs) ≡ true
both-order S n c union p q h ls rs v u = both-ordered S.catalog n (with_order c []) union p q (names S.catalog p h.formed) refl ls rs v u
both-order S n c (join m on) p q h ls rs v u =
    both-ordered S.catalog n (with_order c (claim p).order) (join m on) p q (names S.catalog p h.formed) (front-self (claim p).order) ls rs v u
both-order S n c (semi_join matched on conditions) p q h ls rs v u =
    both-ordered S.catalog n (with_order c (claim p).order) (semi_join matched on conditions) p q (names S.catalog p h.formed) (front-self (claim p).order) ls rs v u

goes-on-derived-is : (S : RunModel) (k : ExchangeKind) (p : Plan) → goes_on_derived S.catalog k p ≡ true
    → (is_concat k ≡ true) × (rises_equally (equal_at S.catalog p) (determined S.catalog p) (claim p).part (claim p).order ≡ true)
goes-on-derived-is S (route_to z r cols) p h = absurd (true≢false (sym h))
goes-on-derived-is S (round z) p h = absurd (true≢false (sym h))
goes-on-derived-is S (broadcast z) p h = absurd (true≢false (sym h))
goes-on-derived-is S gather p h = absurd (true≢false (sym h))
goes-on-derived-is S concat p h = (refl, h)

meets-wide : (S : RunModel) (p : Plan) (xs : List Row) → EachMeets S.catalog p xs → wide (width S.catalog p) xs ≡ true
meets-wide S p xs h =
    each-all (MeetsAt S.catalog p) (λ row. length row == width S.catalog p) (λ row t. eq-eqb (length row) (width S.catalog p) t.wide) xs h

-- a beginning of what an operator makes
gave-sorted : (op : Op) (l : Ledger) (b : Begun op l) (out : Stream) → l.gave ≡ out → (order : List OrderEntry) → sorted order b.whole ≡ true → sorted order out.rows ≡ true
gave-sorted op l b out e order up = let Q : Stream → Type 0 = λ s. sorted order s.rows ≡ true in subst Q e (sorted-begins order l.gave.rows b.whole b.gave up)

module _ (S : RunModel) (giv : Given S.catalog S.db S.sizes (goes S)) (some_rows : 0 < S.morsel) (meet : Meeting S) where
  -- ---- two rows of what workers gave

  abbrev PairsSoFar : Plan → List Row → Type 0
  PairsSoFar p xs = Pairs (width S.catalog p) (equal_at S.catalog p) (fixed_at S.catalog p) (determined S.catalog p) xs

  own-pairs : (p : Plan) → Fine S p → (ts : ℕ → Trace) → RunOf S (Ends S) p ts → (x : Output S p ts) → PairsSoFar p x.out.rows
  own-pairs p f ts run x a b oa ob = pairs-so-far S giv some_rows meet p f ts run x x (inl refl) a b oa ob

  -- an order that follows from one that a node's rows so far have
  pub follows-so : (p : Plan) → Fine S p → (ts : ℕ → Trace) → RunOf S (Ends S) p ts → (x : Output S p ts)
      → (given order : List OrderEntry) → order_follows (equal_at S.catalog p) (determined S.catalog p) given order ≡ true → sorted given x.out.rows ≡ true → sorted order x.out.rows ≡ true
  follows-so p f ts run x given order t up =
      order-from (width S.catalog p) (equal_at S.catalog p) (fixed_at S.catalog p) (determined S.catalog p) x.out.rows (own-pairs p f ts run x) given order t up

  -- rows of two producers, or of one
  lists-pairs : (n : ℕ) (c : Claim) (k : ExchangeKind) (merge : List OrderEntry) (p : Plan) → Fine S p → (ts : ℕ → Trace) (run : RunOf S (Ends S) (exchange n c k merge p) ts)
      → (x : Output S (exchange n c k merge p) ts) → PairsSoFar p (joined (workers S.sizes (size p)) (lists S giv n c k merge p ts run x))
  lists-pairs n c k merge p f ts run x a b oa ob =
      let m : ℕ = workers S.sizes (size p) in
      let of_node = lists S giv n c k merge p ts run x in
      let came : (i : ℕ) → List Row = λ i. rows_of (x.abides.0.came i) in
      let P : Row → Type 0 = λ row. (i : ℕ) × (h : i < m) × Occurs row (producer S n i k p run.0 h (run.2 i h)).out.rows in
      let each : AllByRecursion P (joined m of_node) = each-joined P m of_node (λ i h. each-of-had P (of_node i)
      (λ row o. (i, h, came-among S giv n c k merge p ts run x i h row (occurs-begins row (of_node i) (came i) (x.abides.2.before.begins.came i) o)))) in
      let y : P a = each-has P a (joined m of_node) each oa in
      let z : P b = each-has P b (joined m of_node) each ob in
      pairs-so-far S giv some_rows meet p f run.0 run.1 (producer S n y.0 k p run.0 y.1 (run.2 y.0 y.1)) (producer S n z.0 k p run.0 z.1 (run.2 z.0 z.1))
      (one-or-apart S giv n c k merge p ts run x y.0 z.0 y.1 z.1) a b y.2 z.2

  lists-placed : (n : ℕ) (c : Claim) (k : ExchangeKind) (merge : List OrderEntry) (p : Plan) → Fine S p → (ts : ℕ → Trace) (run : RunOf S (Ends S) (exchange n c k merge p) ts)
      → (x : Output S (exchange n c k merge p) ts) (i : ℕ) → i < workers S.sizes (size p)
      → Placed (goes S) (claim p).part (workers S.sizes (size p)) i (lists S giv n c k merge p ts run x i)
  lists-placed n c k merge p f ts run x i a =
      let test : Row → Bool = at_place (goes S) (claim p).part (workers S.sizes (size p)) i in
      all-begins test (lists S giv n c k merge p ts run x i) (rows_of (x.abides.0.came i)) (x.abides.2.before.begins.came i)
      (came-here S giv n c k merge p ts run x (λ xs. list_all test xs ≡ true) (all-begins test) i a
      (λ y at sent s.
      let P : ℕ → Type 0 = λ v. Placed (goes S) (claim p).part (workers S.sizes (size p)) v y.out.rows in
      sends-all (goes S) k (workers S.sizes (target k)) y.out.rows sent s test (subst P (sym at) (placed-so-far S giv meet p f run.0 run.1 y)) x.place x.below))

  -- ---- nodes

  scan-cut : (n : ℕ) (c : Claim) (r : ℕ) (m : Bool) (z : Size) → Fine S (scan n c r m z) → (ts : ℕ → Trace) → RunOf S (Ends S) (scan n c r m z) ts
      → (x : Output S (scan n c r m z) ts) (i : ℕ) → Drawn S.morsel (S.db r) i ((ts x.place).drew n).numbers → sorted c.order x.out.rows ≡ true
  scan-cut n c r m z f ts run x i d =
      let node : Plan = scan n c r m z in
      let in_order : (order : List OrderEntry) → sorted order (S.db r) ≡ true → sorted order x.out.rows ≡ true
      = λ order up. scan-so S giv (λ xs. sorted order xs ≡ true) (sorted-begins order) (sorted-bearing order) n r i (ts x.place) f.fit up d x.reads x.begins x.out x.abides in
      ⊎_elim
      (λ h. in_order c.order (sorted-front c.order (S.catalog r).order h (S.db r) (giv.meets r).order))
      (λ h. follows-so node f ts run x (S.catalog r).order c.order h (in_order (S.catalog r).order (giv.meets r).order))
      (or-cases (order_shown S.catalog node) (order_derived S.catalog node c.order) (derived-tests S.catalog node f.allowed).5)

  unary-cut : (n : ℕ) (c : Claim) (op : Unary) (p : Plan) → Fine S (unary n c op p) → (ts : ℕ → Trace) → RunOf S (Ends S) p ts → SortedSoFar S p ts (claim p).order
      → SortedSoFar S (unary n c op p) ts c.order
  unary-cut n c op p f ts run up x =
      let node : Plan = unary n c op p in
      let input : Output S p ts = under S n c op p ts x in
      let h = x.abides in
      let b = h.2.before in
      let xs : List Row = b.inputs.left.rows in
      let from : sorted (claim p).order xs ≡ true = sorted-begins (claim p).order xs h.0.left.rows b.begins.left (up input) in
      let pairs : PairsSoFar p xs = pairs-among (width S.catalog p) (equal_at S.catalog p) (fixed_at S.catalog p) (determined S.catalog p) xs h.0.left.rows
      (λ row o. occurs-begins row xs h.0.left.rows b.begins.left o) (own-pairs p (fine-under S n c op p f) ts run input) in
      let made : (by : List OrderEntry) → sorted by b.whole ≡ true → sorted by x.out.rows ≡ true = gave-sorted (one_op n op) h.0 b x.out h.3 in
      let order : List OrderEntry = unary_order (width S.catalog node) op (equal_at S.catalog p) (determined S.catalog p) (claim p).order in
      let u = unary-given (width S.catalog node) op (equal_at S.catalog p) (fixed_at S.catalog p) (determined S.catalog p) (claim p).order in
      ⊎_elim
      (λ s. made c.order (unary-ordered S.catalog n c op p s xs b.whole b.makes from))
      (λ s. follows-so node f ts run x order c.order s
      (made order ((keeps op).ordered order u.sources_are u.under u.are_sources u.in_front xs b.whole b.makes (u.in_order (width S.catalog p) xs pairs from))))
      (or-cases (order_shown S.catalog node) (order_derived S.catalog node c.order) (derived-tests S.catalog node (here S node f)).5)

  binary-cut : (n : ℕ) (c : Claim) (op : Binary) (p q : Plan) → Fine S (binary n c op p q) → (ts : ℕ → Trace) (run : RunOf S (Ends S) (binary n c op p q) ts)
      → SortedSoFar S p ts (claim p).order → SortedSoFar S (binary n c op p q) ts c.order
  binary-cut n c op p q f ts run up x =
      let node : Plan = binary n c op p q in
      let fp : Fine S p = fine-left S n c op p q f in
      let left : Output S p ts = on-left S n c op p q ts x in
      let h = x.abides in
      let b = h.3.before in
      let ls : List Row = b.inputs.left.rows in
      let rs : List Row = b.inputs.right.rows in
      let from : sorted (claim p).order ls ≡ true = sorted-begins (claim p).order ls h.0.left.rows b.begins.left (up left) in
      let ws : wide (width S.catalog p) ls ≡ true = all-begins (λ row. length row == width S.catalog p) ls h.0.left.rows b.begins.left (meets-wide S p h.0.left.rows (meet p fp.fit fp.inputs ts run.0 left)) in
      let P : List OrderEntry → List Row → Type 0 = λ order xs. sorted order xs ≡ true in
      let made : (order : List OrderEntry) → P order (binary_rows op ls rs) → P order x.out.rows = λ order e. gave-sorted (two_op n op) h.0 b x.out h.4 order (subst (P order) b.makes e) in
      ⊎_elim
      (λ s. made c.order (both-ordered S.catalog n c op p q (names S.catalog p fp.formed) s ls rs ws from))
      (λ s. follows-so node f ts run x (binary_order op (claim p).order) c.order s (made (binary_order op (claim p).order) (both-order S n c op p q fp ls rs ws from)))
      (or-cases (order_shown S.catalog node) (order_derived S.catalog node c.order) (derived-tests S.catalog node (here S node f)).5)

  exchange-cut : (n : ℕ) (c : Claim) (k : ExchangeKind) (merge : List OrderEntry) (p : Plan) → Fine S (exchange n c k merge p) → (ts : ℕ → Trace) (run : RunOf S (Ends S) (exchange n c k merge p) ts)
      → SortedSoFar S p run.0 (claim p).order → SortedSoFar S (exchange n c k merge p) ts c.order
  exchange-cut n c k merge p f ts run up x =
      let node : Plan = exchange n c k merge p in
      let fp : Fine S p = fine-below S n c k merge p f in
      let order : List OrderEntry = (claim p).order in
      let m : ℕ = workers S.sizes (size p) in
      let b = x.abides.2.before in
      let s : Streams = lists S giv n c k merge p ts run x in
      let sorted_lists = lists-sorted S giv n c k merge p ts run x order up in
      let placed_lists = lists-placed n c k merge p fp ts run x in
      let Q : List Row → Type 0 = λ xs. sorted order xs ≡ true in
      let made : (by : List OrderEntry) → sorted by b.whole ≡ true → sorted by x.out.rows ≡ true = gave-sorted (receive (port_of S n x.place k merge p)) x.abides.0 b x.out x.abides.3 in
      let single : is_one (size p) ≡ true → Q b.whole = λ o.
      let e = one-worker S.sizes (size p) o in
      let D : ℕ → Type 0 = λ a. Dealt a b.whole s in
      let N : ℕ → Type 0 = λ a. 0 < a in
      let is : b.whole ≡ s 0 = Dealt-one (subst D e b.makes.0) in
      subst Q (sym is) (sorted_lists 0 (subst N (sym e) (omega arith))) in
      let on : goes_on k (claim p) ≡ true → Q b.whole = λ z.
      let r = goes-on-is k (claim p) z in subst Q (b.makes.2 r.0) (ranged (goes S) giv.rising (claim p).part order m s r.1 sorted_lists placed_lists) in
      let P : Row → Type 0 = λ row. Occurs row (joined m s) in
      let on_equally : goes_on_derived S.catalog k p ≡ true → Q b.whole = λ z.
      let r = goes-on-derived-is S k p z in
      subst Q (b.makes.2 r.0) (ranged-equally (goes S) giv.rising (width S.catalog p) (equal_at S.catalog p) (fixed_at S.catalog p) (determined S.catalog p) (claim p).part order m s r.1
      (lists-pairs n c k merge p fp ts run x) sorted_lists (each-stream P m s (each-of-had P (joined m s) (λ row o. o))) placed_lists) in
      let there : Bool = is_one (size p) || goes_on_derived S.catalog k p in
      let by_merge : Bool = order_follows (equal_at S.catalog node) (determined S.catalog node) merge c.order in
      let by_order : Bool = order_follows (equal_at S.catalog node) (determined S.catalog node) order c.order in
      ⊎_elim
      (λ h. made c.order (exchange-sorted p k merge c.order b.whole h b.makes.1 single on))
      (λ h. ⊎_elim
      (λ a. follows-so node f ts run x merge c.order a (made merge b.makes.1))
      (λ a. follows-so node f ts run x order c.order (and-right there by_order a)
      (made order (⊎_elim single on_equally (or-cases (is_one (size p)) (goes_on_derived S.catalog k p) (and-left there by_order a)))))
      (or-cases by_merge (there && by_order) h))
      (or-cases (order_shown S.catalog node) (order_derived S.catalog node c.order) (derived-tests S.catalog node (here S node f)).5)

  -- what a node has given so far is sorted on its claimed order
  pub cut-sorted : (p : Plan) → Fine S p → (ts : ℕ → Trace) → RunOf S (Ends S) p ts → SortedSoFar S p ts (claim p).order
  cut-sorted (scan n c r true z) f ts run x =
      scan-cut n c r true z f ts run x x.place (dispatched-drawn S.morsel (S.db r) _ (workers S.sizes z) (λ v. (ts v).drew n) run x.place x.below)
  cut-sorted (scan n c r false z) f ts run x =
      scan-cut n c r false z f ts run x 0 (dispatched-drawn S.morsel (S.db r) _ 1 (λ v. (ts x.place).drew n) (run x.place x.below) 0 (omega arith))
  cut-sorted (unary n c op p) f ts run x = unary-cut n c op p f ts run (cut-sorted p (fine-under S n c op p f) ts run) x
  cut-sorted (binary n c op p q) f ts run x = binary-cut n c op p q f ts run (cut-sorted p (fine-left S n c op p q f) ts run.0) x
  cut-sorted (exchange n c k merge p) f ts run x = exchange-cut n c k merge p f ts run (cut-sorted p (fine-below S n c k merge p f) run.0 run.1) x
