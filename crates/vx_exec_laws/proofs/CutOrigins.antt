-- What one worker of a node has given so far, and where its rows come from: rows that workers of the node's inputs have given so far.
use Rattle.std.proofs.Common.{◌≡◌, ◌⊎◌, inl, inr, ⊎_elim, ℕ, ◌+◌, ◌<◌, ◌≤◌, ◌==◌, Bool, true, false, cond, ◌&&◌, List, ◌++◌, map, filter, refl, sym, ap, ◌∙◌, subst, arith, append-nil, Some, not, take}
use Rattle.std.specs.List.{list_all, AllByRecursion}
use Rattle.std.proofs.lemmas.Bool.{cases_lt}
use Rattle.vx_rows_values.specs.declared.order.OrderEntry.{OrderEntry}
use Rattle.vx_rows_values.specs.Values.{Row, row_eq, pick}
use Rattle.vx_rows_values.specs.Order.{sort_on}
use Rattle.vx_rows_values.specs.Bags.{count}
use Rattle.vx_plan_nodes.specs.Plan.{JoinMethod, Size, Claim, Unary, select, project, distinct, sort, group, plain, partial, final, Aggregate, Phase, Binary, union, join, ExchangeKind, route_to, round, broadcast, gather, concat, target, Plan, scan, unary, binary, exchange, size, size_eq, limit, semi_join, Condition}
use Rattle.vx_plan_nodes.specs.Parts.{kind_part}
use Rattle.vx_plan_nodes.specs.Serial.{filters_hold, filters_fit, entries_row, entries_fit, firsts, matches, joined_with, join_rows, aggregate_of, of_key, group_keys, group_row, group_fits, group_rows, unary_rows, is_matched, matched_rows}
use Rattle.vx_plan_nodes.specs.Streams.{Streams, workers}
use Rattle.vx_plan_nodes.specs.Routes.{Routing, Sends}
use Rattle.vx_plan_nodes.specs.Numbering.{is_fit}
use Rattle.vx_plan_facts.specs.FollowLaws.{Occurs}
use Rattle.vx_plan_facts.proofs.EachRow.{each-weaken, each-map, each-filter, each-flat, each-firsts, each-sort, each-has, each-of-had, each-dealt, each-shuffled, each-take}
use Rattle.vx_ports.specs.Packets.{PacketView, rows_of}
use Rattle.vx_rows.specs.Lists.{IsBeginning}
use Rattle.vx_ops.specs.Ledger.{Stream}
use Rattle.vx_worker.specs.Fragment.{goes, RunModel, Reads, fragment, FragAbides}
use Rattle.vx_worker.specs.Trace.{Trace, ReadsBegin, Fate, well, failed, Honest, Ends}
use Rattle.vx_exchange_ends.specs.Ship.{Ship, end_to_end, packet_at, IsCutPort}
use Rattle.vx_exchange_ends.specs.Tasks.{send}
use Rattle.vx_exec_laws.specs.RunOf.{ship_of, RunOf}
use Rattle.vx_exec_laws.specs.CutRows.{Output}
use Rattle.vx_exec_laws.proofs.Bags.{and-left, and-right, total-append}
use Rattle.vx_exec_laws.proofs.Parts.{size_eq-is}
use Rattle.vx_exec_laws.proofs.Unary.{some-is}
use Rattle.vx_exec_laws.proofs.Widths.{some-of}
use Rattle.vx_exec_laws.proofs.Places.{at_place}
use Rattle.vx_exec_laws.proofs.Packets.{rows_of-append, rows_of-packets, port-rows}
use Rattle.vx_exec_laws.proofs.Overflows.{reads-begin}
use Rattle.vx_exec_laws.proofs.Decks.{Drawn, dispatched-drawn}
use Rattle.vx_exec_laws.proofs.Tidy.{scan-so}
use Rattle.vx_exec_laws.proofs.CutFacts.{each-begins, each-bearing}
use Rattle.vx_check_rules.specs.Claims.{Given}
use Rattle.vx_exec_laws.proofs.CutPairs.{StemOf}

-- ---- rows that are in lists

each-occurs : (xs : List Row) → AllByRecursion (λ row. Occurs row xs) xs
each-occurs xs = each-of-had (λ row. Occurs row xs) xs (λ row l. omega (arith, l))

pub occurs-begins : (a : Row) (xs zs : List Row) → IsBeginning xs zs → Occurs a xs → Occurs a zs
occurs-begins a xs zs b o =
    let both : count (row_eq a) (xs ++ b.rest) ≡ count (row_eq a) xs + count (row_eq a) b.rest = total-append (λ r. cond (row_eq a r) 1 0) xs b.rest in
    let P : List Row → Type 0 = λ l. Occurs a l in
    subst P b.joined (omega (arith, both, o))

pub occurs-either : (a : Row) (xs ys : List Row) → Occurs a (xs ++ ys) → Occurs a xs ⊎ Occurs a ys
occurs-either a xs ys o =
    let both : count (row_eq a) (xs ++ ys) ≡ count (row_eq a) xs + count (row_eq a) ys = total-append (λ r. cond (row_eq a r) 1 0) xs ys in
    ⊎_elim (λ (l : 0 < count (row_eq a) xs). inl l) (λ (z : count (row_eq a) xs ≤ 0). inr (omega (arith, both, o, z))) (cases_lt 0 (count (row_eq a) xs))

-- ---- operators

-- a row of the list comes of a row of the other
abbrev Comes : Unary → List Row → Row → Type 0
Comes op xs a = (x : Row) × Occurs x xs × StemOf op a x

group-comes : (by : List ℕ) (aggregates : List Aggregate) (xs ys : List Row) → group_rows by aggregates xs ≡ Some ys
    → AllByRecursion (λ a. (x : Row) × Occurs x xs × ((tail : Row) × (a ≡ pick by x ++ tail))) ys
group-comes by aggregates xs ys e =
    let K : Row → Type 0 = λ key. (x : Row) × Occurs x xs × (key ≡ pick by x) in
    let P : Row → Type 0 = λ a. (x : Row) × Occurs x xs × ((tail : Row) × (a ≡ pick by x ++ tail)) in
    let keys : AllByRecursion K (group_keys by xs) = each-firsts K (map (pick by) xs) (each-map (λ row. Occurs row xs) K (pick by) (λ x o. (x, o, refl)) xs (each-occurs xs)) in
    subst (AllByRecursion P) (some-of (list_all (group_fits by aggregates xs) (group_keys by xs)) (map (group_row by aggregates xs) (group_keys by xs)) ys e).1
    (each-map K P (group_row by aggregates xs)
    (λ key k. let tail : Row = map (λ g. aggregate_of g (of_key by key xs)) aggregates in (k.0, k.1, (tail, ap (λ z. z ++ tail) k.2))) (group_keys by xs) keys)

each-comes : (op : Unary) (xs ys : List Row) → unary_rows op xs ≡ Some ys → AllByRecursion (Comes op xs) ys
each-comes (select fs) xs ys e =
    subst (AllByRecursion (Comes (select fs) xs)) (some-of (list_all (filters_fit fs) xs) (filter (filters_hold fs) xs) ys e).1
    (each-filter (λ row. Occurs row xs) (Comes (select fs) xs) (filters_hold fs) (λ x t o. (x, o, refl)) xs (each-occurs xs))
each-comes (project es) xs ys e =
    subst (AllByRecursion (Comes (project es) xs)) (some-of (list_all (entries_fit es) xs) (map (entries_row es) xs) ys e).1
    (each-map (λ row. Occurs row xs) (Comes (project es) xs) (entries_row es) (λ x o. (x, o, refl)) xs (each-occurs xs))
each-comes (distinct cols) xs ys e =
    subst (AllByRecursion (Comes (distinct cols) xs)) (some-is (firsts (map (pick cols) xs)) ys e)
    (each-firsts (Comes (distinct cols) xs) (map (pick cols) xs) (each-map (λ row. Occurs row xs) (Comes (distinct cols) xs) (pick cols) (λ x o. (x, o, refl)) xs (each-occurs xs)))
each-comes (sort of_parts order) xs ys e =
    subst (AllByRecursion (Comes (sort of_parts order) xs)) (some-is (sort_on order xs) ys e)
    (each-weaken (λ row. Occurs row xs) (Comes (sort of_parts order) xs) (λ x o. (x, o, refl)) (sort_on order xs) (each-sort (λ row. Occurs row xs) order xs (each-occurs xs)))
each-comes (limit m) xs ys e =
    subst (AllByRecursion (Comes (limit m) xs)) (some-is (take m xs) ys e)
    (each-take (Comes (limit m) xs) m xs (each-weaken (λ row. Occurs row xs) (Comes (limit m) xs) (λ x o. (x, o, refl)) xs (each-occurs xs)))
each-comes (group phase by aggregates) xs ys e = group-comes by aggregates xs ys (grouped phase e)
  where
    grouped : (phase : Phase) → unary_rows (group phase by aggregates) xs ≡ Some ys → group_rows by aggregates xs ≡ Some ys
    grouped plain e = e
    grouped partial e = e
    grouped final e = e

pub row-comes : (op : Unary) (xs ys : List Row) → unary_rows op xs ≡ Some ys → (a : Row) → Occurs a ys → (x : Row) × Occurs x xs × StemOf op a x
row-comes op xs ys e a o = each-has (Comes op xs) a ys (each-comes op xs ys e) o

pub join-comes : (on : List (ℕ × ℕ)) (ls rs : List Row) (a : Row) → Occurs a (join_rows on ls rs)
    → (l r : Row) × Occurs l ls × Occurs r rs × (a ≡ l ++ r) × (matches on l r ≡ true)
join-comes on ls rs a o =
    let P : Row → Type 0 = λ a. (l r : Row) × Occurs l ls × Occurs r rs × (a ≡ l ++ r) × (matches on l r ≡ true) in
    each-has P a (join_rows on ls rs)
    (each-flat (λ l. Occurs l ls) P (joined_with on rs)
    (λ l ol. each-map (λ r. Occurs r rs × (matches on l r ≡ true)) P (λ r. l ++ r) (λ r h. (l, r, ol, h.0, refl, h.1)) (filter (matches on l) rs)
    (each-filter (λ r. Occurs r rs) (λ r. Occurs r rs × (matches on l r ≡ true)) (matches on l) (λ r t or. (or, t)) rs (each-occurs rs)))
    ls (each-occurs ls)) o

-- a row of a semi or an anti join is one of the left rows
pub matched-comes : (matched : Bool) (on : List (ℕ × ℕ)) (conditions : List Condition) (ls rs : List Row) (a : Row) → Occurs a (matched_rows matched on conditions ls rs) → Occurs a ls
matched-comes matched on conditions ls rs a o =
    let P : Row → Type 0 = λ row. Occurs row ls in
    each-has P a (matched_rows matched on conditions ls rs) (each matched) o
  where
    each : (matched : Bool) → AllByRecursion (λ row. Occurs row ls) (matched_rows matched on conditions ls rs)
    each true = each-filter (λ row. Occurs row ls) (λ row. Occurs row ls) (is_matched on conditions rs) (λ x t o. o) ls (each-occurs ls)
    each false = each-filter (λ row. Occurs row ls) (λ row. Occurs row ls) (λ l. not (is_matched on conditions rs l)) (λ x t o. o) ls (each-occurs ls)

-- ---- what is sent

-- a row that a kind of exchange sends to a consumer is one of the producer's, and stands there
abbrev Sent : Routing → ExchangeKind → (n j : ℕ) → List Row → Row → Type 0
Sent goes k n j xs a = Occurs a xs × (at_place goes (kind_part k) n j a ≡ true)

sends-each : (goes : Routing) (k : ExchangeKind) (n : ℕ) (xs : List Row) (sent : Streams) → Sends goes k n xs sent → (j : ℕ) → j < n → AllByRecursion (Sent goes k n j xs) (sent j)
sends-each goes (route_to z r cols) n xs sent h j l =
    subst (AllByRecursion (Sent goes (route_to z r cols) n j xs)) (h j l)
    (each-filter (λ row. Occurs row xs) (Sent goes (route_to z r cols) n j xs) (λ row. goes r (pick cols row) n == j) (λ x t o. (o, t)) xs (each-occurs xs))
sends-each goes (round z) n xs sent h j l =
    each-dealt (Sent goes (round z) n j xs) n xs sent h (each-weaken (λ row. Occurs row xs) (Sent goes (round z) n j xs) (λ x o. (o, refl)) xs (each-occurs xs)) j l
sends-each goes (broadcast z) n xs sent h j l =
    subst (AllByRecursion (Sent goes (broadcast z) n j xs)) (h j l) (each-weaken (λ row. Occurs row xs) (Sent goes (broadcast z) n j xs) (λ x o. (o, refl)) xs (each-occurs xs))
sends-each goes gather n xs sent h j l =
    subst (AllByRecursion (Sent goes gather n j xs)) (h j l) (each-weaken (λ row. Occurs row xs) (Sent goes gather n j xs) (λ x o. (o, refl)) xs (each-occurs xs))
sends-each goes concat n xs sent h j l =
    subst (AllByRecursion (Sent goes concat n j xs)) (h j l) (each-weaken (λ row. Occurs row xs) (Sent goes concat n j xs) (λ x o. (o, refl)) xs (each-occurs xs))

cut-rows : (s : Ship) (j : ℕ) (xs : List Row) (ps : List PacketView) → (h : IsCutPort s j xs ps) → rows_of ps ≡ end_to_end h.parts
cut-rows s j xs ps h =
    ap rows_of (sym h.closed) ∙ rows_of-append (map (packet_at s j) h.parts) _ ∙ append-nil (rows_of (map (packet_at s j) h.parts)) ∙ rows_of-packets s j h.parts

module _ (S : RunModel) where
  -- ---- the inputs of a node

  abbrev pub under : (n : ℕ) (c : Claim) (op : Unary) (p : Plan) (ts : ℕ → Trace) → Output S (unary n c op p) ts → Output S p ts
  under n c op p ts x = record { place = x.place; below = x.below; reads = x.reads; begins = x.begins; out = x.abides.0.left; abides = x.abides.1 }

  abbrev pub on-left : (n : ℕ) (c : Claim) (op : Binary) (p q : Plan) (ts : ℕ → Trace) → Output S (binary n c op p q) ts → Output S p ts
  on-left n c op p q ts x = record { place = x.place; below = x.below; reads = x.reads; begins = x.begins; out = x.abides.0.left; abides = x.abides.1 }

  abbrev pub on-right : (n : ℕ) (c : Claim) (op : Binary) (p q : Plan) (ts : ℕ → Trace) → size p ≡ size q → Output S (binary n c op p q) ts → Output S q ts
  on-right n c op p q ts same x = record {
    place = x.place;
    below = subst (λ z. x.place < workers S.sizes z) same x.below;
    reads = x.reads;
    begins = x.begins;
    out = x.abides.0.right;
    abides = x.abides.2;
  }

  -- inputs of one size
  pub same-size : (n : ℕ) (c : Claim) (op : Binary) (p q : Plan) → is_fit S.relation_of (binary n c op p q) ≡ true → size p ≡ size q
  same-size n c op p q fit = size_eq-is (size p) (size q) (and-left (size_eq (size p) (size q)) (is_fit S.relation_of p && is_fit S.relation_of q) fit)

  pub fit-left : (n : ℕ) (c : Claim) (op : Binary) (p q : Plan) → is_fit S.relation_of (binary n c op p q) ≡ true → is_fit S.relation_of p ≡ true
  fit-left n c op p q fit =
      and-left (is_fit S.relation_of p) (is_fit S.relation_of q) (and-right (size_eq (size p) (size q)) (is_fit S.relation_of p && is_fit S.relation_of q) fit)

  pub fit-right : (n : ℕ) (c : Claim) (op : Binary) (p q : Plan) → is_fit S.relation_of (binary n c op p q) ≡ true → is_fit S.relation_of q ≡ true
  fit-right n c op p q fit =
      and-right (is_fit S.relation_of p) (is_fit S.relation_of q) (and-right (size_eq (size p) (size q)) (is_fit S.relation_of p && is_fit S.relation_of q) fit)

  -- ---- a producer of an exchange

  -- what an ended worker has read, and what its top gave
  abbrev pub Ended_one : ℕ → Plan → Trace → Type 0
  Ended_one i p u = (reads : Reads) × ReadsBegin S u reads × (out : Stream) × FragAbides (fragment S i p) reads out

  abbrev pub sender : (n i : ℕ) (k : ExchangeKind) (p : Plan) (u : Trace) (fate : Fate) → Honest S (fragment S i p) (send (ship_of S n i k p)) fate u → Ended_one i p u
  sender n i k p u well h = (h.reads, reads-begin S u h.reads h.reads_are, h.out, h.abides)
  sender n i k p u (failed x) h = (h.reads, h.reads_begin, h.out, h.abides)

  abbrev pub producer : (n i : ℕ) (k : ExchangeKind) (p : Plan) (us : ℕ → Trace) → i < workers S.sizes (size p) → Ends S (fragment S i p) (send (ship_of S n i k p)) (us i) → Output S p us
  producer n i k p us l e =
      let s = sender n i k p (us i) e.0 e.1 in
      record { place = i; below = l; reads = s.0; begins = s.1; out = s.2; abides = s.3 }

  -- a row that it put for a consumer
  pub put-occurs : (n i : ℕ) (k : ExchangeKind) (p : Plan) (us : ℕ → Trace) (l : i < workers S.sizes (size p)) (e : Ends S (fragment S i p) (send (ship_of S n i k p)) (us i))
      → (j : ℕ) → j < workers S.sizes (target k) → (a : Row) → Occurs a (rows_of ((us i).sent j))
      → Occurs a (producer n i k p us l e).out.rows × (at_place (goes S) (kind_part k) (workers S.sizes (target k)) j a ≡ true)
  put-occurs n i k p us l e j b a o = go e.0 e.1
    where
      m : ℕ
      m = workers S.sizes (target k)

      go : (fate : Fate) → (h : Honest S (fragment S i p) (send (ship_of S n i k p)) fate (us i))
          → Occurs a (sender n i k p (us i) fate h).2.rows × (at_place (goes S) (kind_part k) m j a ≡ true)
      go well h =
          let P : List Row → Type 0 = λ xs. Occurs a xs in
          each-has (Sent (goes S) k m j h.out.rows) a (h.finished.sent j) (sends-each (goes S) k m h.out.rows h.finished.sent h.finished.sends j b)
          (subst P (port-rows (ship_of S n i k p) j (h.finished.sent j) ((us i).sent j) (h.finished.ports j b)) o)
      go (failed x) h =
          let P : List Row → Type 0 = λ xs. Occurs a xs in
          let c = h.stopped.ports j b in
          each-has (Sent (goes S) k m j h.out.rows) a (h.stopped.sent j) (sends-each (goes S) k m h.out.rows h.stopped.sent h.stopped.sends j b)
          (occurs-begins a (end_to_end c.parts) (h.stopped.sent j) c.begins (subst P (cut-rows (ship_of S n i k p) j (h.stopped.sent j) ((us i).sent j) c) o))

  -- what was read of a producer is a beginning of what it put
  begins-rows : (ps qs : List PacketView) → IsBeginning ps qs → IsBeginning (rows_of ps) (rows_of qs)
  begins-rows ps qs b = record { rest = rows_of b.rest; joined = sym (rows_of-append ps b.rest) ∙ ap rows_of b.joined }

  -- a row of a consumer comes of a row that some producer put for it
  pub exchange-comes : (n : ℕ) (c : Claim) (k : ExchangeKind) (merge : List OrderEntry) (p : Plan) (ts : ℕ → Trace) (run : RunOf S (Ends S) (exchange n c k merge p) ts)
      → (x : Output S (exchange n c k merge p) ts) (a : Row) → Occurs a x.out.rows
      → (i : ℕ) × (i < workers S.sizes (size p)) × Occurs a (rows_of ((run.0 i).sent x.place))
  exchange-comes n c k merge p ts run x a o =
      let m : ℕ = workers S.sizes (size p) in
      let led = x.abides.0 in
      let b = x.abides.2.before in
      let put : ℕ → List Row = λ i. rows_of ((run.0 i).sent x.place) in
      let G : Stream → Type 0 = λ s. Occurs a s.rows in
      let whole : Occurs a b.whole = occurs-begins a led.gave.rows b.whole b.gave (subst G (sym x.abides.3) o) in
      let P : Row → Type 0 = λ row. (i : ℕ) × (i < m) × Occurs row (put i) in
      each-has P a b.whole
      (each-shuffled P m b.whole (λ i. rows_of (b.inputs.came i)) b.makes.0
      (λ i l. each-weaken (λ row. Occurs row (rows_of (b.inputs.came i))) P
      (λ row r.
      let seen : led.came i ≡ x.reads.came n i = ap (λ (f : ℕ → List PacketView). f i) x.abides.1.came in
      let f = run.3 i x.place l x.below in
      let Q : List PacketView → Type 0 = λ ps. Occurs row (rows_of ps) in
      let heard : Occurs row (rows_of (x.reads.came n i)) = subst Q seen (occurs-begins row (rows_of (b.inputs.came i)) (rows_of (led.came i)) (b.begins.came i) r) in
      let took : Occurs row (rows_of ((ts x.place).came n i))
      = occurs-begins row (rows_of (x.reads.came n i)) (rows_of ((ts x.place).came n i)) (begins-rows (x.reads.came n i) ((ts x.place).came n i) (x.begins.came n i)) heard in
      (i, l, occurs-begins row (rows_of ((ts x.place).came n i)) (put i) (begins-rows ((ts x.place).came n i) ((run.0 i).sent x.place) (record { rest = f.rest; joined = f.begins })) took))
      (rows_of (b.inputs.came i)) (each-occurs (rows_of (b.inputs.came i)))))
      whole

  -- ---- rows of the inputs

  pub unary-comes : (n : ℕ) (c : Claim) (op : Unary) (p : Plan) (ts : ℕ → Trace) (x : Output S (unary n c op p) ts) (a : Row) → Occurs a x.out.rows
      → (y : Row) × Occurs y (under n c op p ts x).out.rows × StemOf op a y
  unary-comes n c op p ts x a o =
      let led = x.abides.0 in
      let b = x.abides.2.before in
      let G : Stream → Type 0 = λ s. Occurs a s.rows in
      let r = row-comes op b.inputs.left.rows b.whole b.makes a (occurs-begins a led.gave.rows b.whole b.gave (subst G (sym x.abides.3) o)) in
      (r.0, occurs-begins r.0 b.inputs.left.rows led.left.rows b.begins.left r.1, r.2)

  pub union-comes : (n : ℕ) (c : Claim) (p q : Plan) (ts : ℕ → Trace) (same : size p ≡ size q) (x : Output S (binary n c union p q) ts) (a : Row) → Occurs a x.out.rows
      → Occurs a (on-left n c union p q ts x).out.rows ⊎ Occurs a (on-right n c union p q ts same x).out.rows
  union-comes n c p q ts same x a o =
      let led = x.abides.0 in
      let b = x.abides.3.before in
      let G : Stream → Type 0 = λ s. Occurs a s.rows in
      let P : List Row → Type 0 = λ xs. Occurs a xs in
      ⊎_elim
      (λ l. inl (occurs-begins a b.inputs.left.rows led.left.rows b.begins.left l))
      (λ r. inr (occurs-begins a b.inputs.right.rows led.right.rows b.begins.right r))
      (occurs-either a b.inputs.left.rows b.inputs.right.rows (subst P (sym b.makes) (occurs-begins a led.gave.rows b.whole b.gave (subst G (sym x.abides.4) o))))

  pub joined-comes : (n : ℕ) (c : Claim) (m : JoinMethod) (on : List (ℕ × ℕ)) (p q : Plan) (ts : ℕ → Trace) (same : size p ≡ size q)
      (x : Output S (binary n c (join m on) p q) ts) (a : Row) → Occurs a x.out.rows
      → (l r : Row) × Occurs l (on-left n c (join m on) p q ts x).out.rows
      × Occurs r (on-right n c (join m on) p q ts same x).out.rows × (a ≡ l ++ r) × (matches on l r ≡ true)
  joined-comes n c m on p q ts same x a o =
      let led = x.abides.0 in
      let b = x.abides.3.before in
      let G : Stream → Type 0 = λ s. Occurs a s.rows in
      let P : List Row → Type 0 = λ xs. Occurs a xs in
      let r = join-comes on b.inputs.left.rows b.inputs.right.rows a (subst P (sym b.makes) (occurs-begins a led.gave.rows b.whole b.gave (subst G (sym x.abides.4) o))) in
      (r.0, r.1, occurs-begins r.0 b.inputs.left.rows led.left.rows b.begins.left r.2, occurs-begins r.1 b.inputs.right.rows led.right.rows b.begins.right r.3, r.4, r.5)

  pub matched-so-far : (n : ℕ) (c : Claim) (matched : Bool) (on : List (ℕ × ℕ)) (conditions : List Condition) (p q : Plan) (ts : ℕ → Trace)
      (x : Output S (binary n c (semi_join matched on conditions) p q) ts) (a : Row) → Occurs a x.out.rows
      → Occurs a (on-left n c (semi_join matched on conditions) p q ts x).out.rows
  matched-so-far n c matched on conditions p q ts x a o =
      let led = x.abides.0 in
      let b = x.abides.3.before in
      let G : Stream → Type 0 = λ s. Occurs a s.rows in
      let P : List Row → Type 0 = λ xs. Occurs a xs in
      let whole = subst P (sym b.makes) (occurs-begins a led.gave.rows b.whole b.gave (subst G (sym x.abides.4) o)) in
      occurs-begins a b.inputs.left.rows led.left.rows b.begins.left (matched-comes matched on conditions b.inputs.left.rows b.inputs.right.rows a whole)

  -- ---- scans

  -- a row of a scan is one of its relation
  pub scan-comes : Given S.catalog S.db S.sizes (goes S) → (n : ℕ) (c : Claim) (r : ℕ) (m : Bool) (z : Size) (ts : ℕ → Trace) → is_fit S.relation_of (scan n c r m z) ≡ true
      → RunOf S (Ends S) (scan n c r m z) ts → (x : Output S (scan n c r m z) ts) (a : Row) → Occurs a x.out.rows → Occurs a (S.db r)
  scan-comes giv n c r m z ts fit run x a o =
      let P : Row → Type 0 = λ row. Occurs row (S.db r) in
      let d = drawn m run in
      each-has P a x.out.rows (scan-so S giv (AllByRecursion P) (each-begins P) (each-bearing P) n r d.0 (ts x.place) fit (each-occurs (S.db r)) d.1 x.reads x.begins x.out x.abides) o
    where
      drawn : (m : Bool) → RunOf S (Ends S) (scan n c r m z) ts → (i : ℕ) × Drawn S.morsel (S.db r) i ((ts x.place).drew n).numbers
      drawn true run = (x.place, dispatched-drawn S.morsel (S.db r) _ (workers S.sizes z) (λ v. (ts v).drew n) run x.place x.below)
      drawn false run = (0, dispatched-drawn S.morsel (S.db r) _ 1 (λ v. (ts x.place).drew n) (run x.place x.below) 0 (omega arith))
