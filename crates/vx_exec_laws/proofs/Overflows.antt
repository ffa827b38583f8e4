-- An overflow that a run answers is one of the data.
use Rattle.vx_rows_values.specs.declared.order.OrderEntry.{OrderEntry}
use Rattle.vx_worker.specs.Fragment.{goes, RunModel, Frag, Reads, fragment, FragAbides, FragMakes}
use Rattle.std.proofs.Common.{◌≡◌, ◌⊎◌, inl, inr, ⊎_elim, ℕ, zero, suc, ◌<◌, ◌≤◌, ◌==◌, Bool, true, false, cond, not, ◌||◌, ◌&&◌, List, [], ◌∷◌, ◌++◌, map, length, Option, Some, None, IsSome, refl, sym, ap, ◌∙◌, subst, arith, append-nil, true≢false, eqb-true, eq-eqb, ◌+◌, flat_map, length-append}
use Rattle.vx_rows_values.specs.Values.{Row}
use Rattle.vx_rows_values.specs.Order.{order_columns, sorted}
use Rattle.vx_rows_values.specs.Bags.{SameRows}
use Rattle.vx_plan_nodes.specs.Plan.{by_hashing, by_merging, Size, ExchangeKind, target, is_one, Claim, Unary, select, project, distinct, sort, group, Binary, union, join, Aggregate, Plan, scan, unary, binary, exchange, size, claim, size_eq, Phase, plain, partial, final, route_to, round, broadcast, gather, concat, limit, semi_join}
use Rattle.vx_plan_nodes.specs.Types.{well_formed}
use Rattle.vx_plan_nodes.specs.Serial.{unary_rows, binary_rows, group_rows, SerialResult, rows, overflow, or_overflow, after, serial, IsOverflow, IsTooLong, HasTooLong, HasLargePart}
use Rattle.vx_plan_nodes.specs.Streams.{Streams, workers, joined, Dealt}
use Rattle.vx_plan_nodes.specs.Runs.{Runs, is_concat}
use Rattle.vx_check_rules.specs.Claims.{Given}
use Rattle.vx_ports.specs.Packets.{fault, PacketView, rows_of, closes, is_last, is_closed, has_last, is_empty, is_stream, Flows}
use Rattle.vx_worker.specs.Morsels.{morsel_of, morsels}
use Rattle.vx_ops.specs.Ledger.{Stream, one_op, two_op, OwnBlame}
use Rattle.vx_rows.specs.Lists.{IsBeginning}
use Rattle.vx_exchange_ends.specs.Ship.{Ship, packet_at, packet_of}
use Rattle.vx_worker.specs.Trace.{Trace, scan_morsels, ReadsAre, ReadsBegin, Fate, well, failed, IsWell, HasFailed, Honest, Ends}
use Rattle.vx_exchange_ends.specs.Tasks.{keep, send, Task}
use Rattle.vx_exec_laws.specs.RunOf.{ship_of, RunOf}
use Rattle.vx_plan_nodes.specs.Numbering.{is_fit}
use Rattle.vx_exec_laws.specs.Faults.{FailsBelow, OverflowIsReal}
use Rattle.vx_exec_laws.specs.DerivedFaults.{OverflowIsRealDerived}
use Rattle.vx_plan_nodes.specs.Real.{IsReal}
use Rattle.vx_ops.specs.declared.fault.Code.TheVariants.{Overflow}
use Rattle.vx_ops.specs.declared.fault.Fault.TheVariants.{Own}
use Rattle.vx_ops.specs.declared.fault.StreamState.TheVariants.{Ended, Failed}
use Rattle.vx_exec_laws.proofs.Bags.{total-ones, and-left, and-right}
use Rattle.vx_exec_laws.proofs.Parts.{stream-most, some-workers, size_eq-is, one-worker}
use Rattle.vx_exec_laws.proofs.Orders.{Dealt-one}
use Rattle.vx_exec_laws.proofs.Unary.{some-is}
use Rattle.vx_exec_laws.proofs.Exchange.{sends-sorted}
use Rattle.vx_exec_laws.proofs.Frame.{no-overflow-from}
use Rattle.vx_exec_laws.proofs.Inherited.{IsAllowed, IsAllowedDerived}
use Rattle.vx_exec_laws.proofs.Tables.{Table, first-table, second-table}
use Rattle.vx_exec_laws.proofs.WellFormed.{well-under, well-phased}
use Rattle.vx_exec_laws.proofs.Erased.{erased-overflows}
use Rattle.vx_exec_laws.proofs.Settings.{set-given}
use Rattle.vx_exec_laws.proofs.Choose.{choose, one-more}
use Rattle.vx_exec_laws.proofs.Packets.{port-rows, last-closed, whole-flow}
use Rattle.vx_exec_laws.proofs.Decks.{dispatched-dealt}
use Rattle.vx_exec_laws.proofs.WellRun.{Sized, abides-makes, runs-of, dealt-lists, Produced, produced}
use Rattle.vx_exchange_ends.proofs.Joined.{joined-ext}
use Rattle.vx_exec_laws.proofs.Shuffles.{sorted-shuffle}
use Rattle.vx_exec_laws.proofs.Opened.{closed-spoken}
use Rattle.vx_exec_laws.proofs.Phased.{by-phase}
use Rattle.vx_plan_nodes.specs.Phases.{is_open, opens, phase_fits, spoken, Gives, is_row_of}
use Rattle.vx_catalog_relations.specs.Relation.{Relation}
use Rattle.vx_catalog_relations.specs.Catalog.{all_below}
use Rattle.std.proofs.lemmas.Bool.{not-true}
use Rattle.std.specs.List.{list_all}

-- lists of packets

append-last : (ps qs : List PacketView) → has_last ps ≡ true → has_last (ps ++ qs) ≡ true
append-last [] qs e = absurd (true≢false (sym e))
append-last (p ∷ ps) qs e = go (is_last p.content) (has_last ps) (append-last ps qs) e
  where
    go : (a b : Bool) → (b ≡ true → has_last (ps ++ qs) ≡ true) → (a || b) ≡ true → (a || has_last (ps ++ qs)) ≡ true
    go true b f h = refl
    go false b f h = f h

cut-no-last : (s : Ship) (j : ℕ) (parts : List (List Row)) → has_last (map (packet_at s j) parts ++ packet_of s j fault ∷ []) ≡ false
cut-no-last s j [] = refl
cut-no-last s j (p ∷ ps) = cut-no-last s j ps

nothing-more : (ps qs : List PacketView) → is_empty (ps ++ qs) ≡ true → ps ≡ ps ++ qs
nothing-more [] [] e = refl
nothing-more [] (q ∷ qs) e = absurd (true≢false (sym e))
nothing-more (p ∷ ps) qs e = absurd (true≢false (sym e))

-- a closed beginning of a stream is the stream
stream-end : (ps qs : List PacketView) → is_stream (ps ++ qs) ≡ true → is_closed ps ≡ true → ps ≡ ps ++ qs
stream-end [] qs s e = absurd (true≢false (sym e))
stream-end (p ∷ ps) qs s e = ap (λ xs. p ∷ xs) (go (closes p.content) (is_closed ps) (stream-end ps qs) s e)
  where
    go : (a b : Bool) → (is_stream (ps ++ qs) ≡ true → b ≡ true → ps ≡ ps ++ qs) → ((not a || is_empty (ps ++ qs)) && is_stream (ps ++ qs)) ≡ true → (a || b) ≡ true → ps ≡ ps ++ qs
    go true b f h k = nothing-more ps qs (and-left (is_empty (ps ++ qs)) (is_stream (ps ++ qs)) h)
    go false b f h k = f h k

-- what was read of a producer, where Last was, is all that the producer put
pub read-whole : (put taken seen : List PacketView) → Flows put taken → IsBeginning seen taken → has_last seen ≡ true → seen ≡ put
read-whole put taken seen f b h =
    let P : List PacketView → Type 0 = λ ps. has_last ps ≡ true in
    let all : taken ≡ put = whole-flow put taken f (subst P b.joined (append-last seen b.rest h)) in
    let e : seen ++ b.rest ≡ put = b.joined ∙ all in
    let Q : List PacketView → Type 0 = λ ps. is_stream ps ≡ true in
    stream-end seen b.rest (subst Q (sym e) f.stream) (last-closed seen h) ∙ e

-- a producer that put Last was well
pub ends-well : (S : RunModel) (f : Frag) (s : Ship) (t : Trace) (j : ℕ) → j < s.consumers → Ends S f (send s) t → has_last (t.sent j) ≡ true → IsWell S f (send s) t
ends-well S f s t j l h e = go h.0 h.1
  where
    go : (fate : Fate) → Honest S f (send s) fate t → IsWell S f (send s) t
    go well k = k
    go (failed x) k =
        let c = k.stopped.ports j l in
        let P : List PacketView → Type 0 = λ ps. has_last ps ≡ true in
        absurd (true≢false (sym (subst P (sym c.closed) e) ∙ cut-no-last s j c.parts))

-- a worker made these rows of beginnings of what it read
pub record MadeOf (S : RunModel) (f : Frag) (t : Trace) (out : List Row) : Type 0 where
  pub reads : Reads
  pub reads_begin : ReadsBegin S t reads
  pub makes : FragMakes f reads out

abbrev pub Makers : RunModel → Plan → (ℕ → Trace) → ℕ → Type 0
Makers S p ts w = (out : List Row) × MadeOf S (fragment S w p) (ts w) out

pub reads-begin : (S : RunModel) (t : Trace) (r : Reads) → ReadsAre S t r → ReadsBegin S t r
reads-begin S t r h = record {
  scanned = λ n. record {
    numbers = (t.drew n).numbers;
    begins = record { rest = []; joined = append-nil (t.drew n).numbers };
    rows = (h.scanned n).rows;
    ended = λ e. (refl, (h.scanned n).ended e);
    never_fails = (h.scanned n).never_fails;
  };
  came = λ n i. record { rest = []; joined = append-nil (r.came n i) ∙ ap (λ (f : ℕ → List PacketView). f i) (h.came n) };
}

well-maker : (S : RunModel) (i : ℕ) (p : Plan) (task : Task) (t : Trace) → IsWell S (fragment S i p) task t → (out : List Row) × MadeOf S (fragment S i p) t out
well-maker S i p task t h = (h.out.rows, record { reads = h.reads; reads_begin = reads-begin S t h.reads h.reads_are; makes = abides-makes S i p h.reads h.out h.abides h.ended })

-- the plan overflows, or one of its groupings takes too long a list, or one in two phases rows of one key whose sum is too large
abbrev pub Overflows : (ℕ → List Row) → Plan → Type 0
Overflows db p = IsOverflow (serial db p) ⊎ (HasTooLong db p ⊎ HasLargePart db p)

-- what is real of an input is real of the plan

real-unary : (db : ℕ → List Row) (n : ℕ) (c : Claim) (op : Unary) (p : Plan) → Overflows db p → Overflows db (unary n c op p)
real-unary db n c op p h = ⊎_elim (λ o. inl (go (serial db p) o)) (λ x. ⊎_elim (λ l. inr (inl (inl l))) (λ l. inr (inr (inl l))) x) h
  where
    go : (o : SerialResult) → IsOverflow o → IsOverflow (after o (λ xs. or_overflow n (unary_rows op xs)))
    go (rows xs) k = absurd k
    go (overflow m) k = k

real-left : (db : ℕ → List Row) (n : ℕ) (c : Claim) (op : Binary) (p q : Plan) → Overflows db p → Overflows db (binary n c op p q)
real-left db n c op p q h = ⊎_elim (λ o. inl (go (serial db p) o)) (λ x. ⊎_elim (λ l. inr (inl (inl l))) (λ l. inr (inr (inl l))) x) h
  where
    go : (o : SerialResult) → IsOverflow o → IsOverflow (after o (λ xs. after (serial db q) (λ ys. rows (binary_rows op xs ys))))
    go (rows xs) k = absurd k
    go (overflow m) k = k

real-right : (db : ℕ → List Row) (n : ℕ) (c : Claim) (op : Binary) (p q : Plan) → Overflows db q → Overflows db (binary n c op p q)
real-right db n c op p q h = ⊎_elim (λ o. inl (go (serial db p) (serial db q) o)) (λ x. ⊎_elim (λ l. inr (inl (inr l))) (λ l. inr (inr (inr l))) x) h
  where
    go : (o u : SerialResult) → IsOverflow u → IsOverflow (after o (λ xs. after u (λ ys. rows (binary_rows op xs ys))))
    go (rows xs) (rows ys) k = absurd k
    go (rows xs) (overflow m) k = k
    go (overflow m) u k = tt

-- n computations all answer, or one of them doesn't
all-some : (n : ℕ) (f : ℕ → Option (List Row)) → ((s : Streams) × ((v : ℕ) → v < n → f v ≡ Some (s v))) ⊎ ((v : ℕ) × (v < n) × (f v ≡ None))
all-some zero f = inl (λ v. [], λ v l. absurd (omega arith))
all-some (suc n) f = ⊎_elim
    (λ some. go (f n) refl some)
    (λ none. inr (none.0, let l = none.1 in omega (arith, l), none.2))
    (all-some n f)
  where
    go : (o : Option (List Row)) → f n ≡ o → (s : Streams) × ((v : ℕ) → v < n → f v ≡ Some (s v))
        → ((s : Streams) × ((v : ℕ) → v < suc n → f v ≡ Some (s v))) ⊎ ((v : ℕ) × (v < suc n) × (f v ≡ None))
    go None e some = inr (n, omega arith, e)
    go (Some xs) e some = inl (λ v. cond (v == n) xs (some.0 v), λ v l. one-more (λ v ys. f v ≡ Some ys) n some.0 xs some.1 e v l (v == n) refl)

-- what stands for some rows has no more than they are
row-list : (by : List ℕ) (aggregates : List Aggregate) (ts : List (Row × List Row)) → list_all (λ t. is_row_of by aggregates t.0 t.1) ts ≡ true
    → length (map (λ (t : Row × List Row). t.0) ts) ≤ length (flat_map (λ (t : Row × List Row). t.1) ts)
row-list by aggregates [] h = omega arith
row-list by aggregates (t ∷ ts) h =
    let r = row-list by aggregates ts (and-right (is_row_of by aggregates t.0 t.1) (list_all (λ (t : Row × List Row). is_row_of by aggregates t.0 t.1) ts) h) in
    let one = some-rows t.0 t.1 (and-left (is_row_of by aggregates t.0 t.1) (list_all (λ (t : Row × List Row). is_row_of by aggregates t.0 t.1) ts) h) in
    let e : length (t.1 ++ flat_map (λ (t : Row × List Row). t.1) ts) ≡ length t.1 + length (flat_map (λ (t : Row × List Row). t.1) ts) = length-append t.1 (flat_map (λ (t : Row × List Row). t.1) ts) in
    omega (arith, r, one, e)
  where
    some-rows : (row : Row) (xs : List Row) → is_row_of by aggregates row xs ≡ true → 1 ≤ length xs
    some-rows row [] h = absurd (true≢false (sym h))
    some-rows row (x ∷ xs) h = omega arith

same-length : (xs ys : List Row) → SameRows xs ys → length xs ≡ length ys
same-length xs ys s = sym (total-ones xs) ∙ (s.totals (λ r. 1) ∙ total-ones ys)

gives-length : (p : Plan) (base xs : List Row) → Gives p base xs → length xs ≤ length base
gives-length (scan n c r m z) base xs h = let e = same-length xs base h in omega (arith, e)
gives-length (unary n c op p) base xs h = by-phase (λ op f. f.gives_of (Gives p) base xs → length xs ≤ length base)
    (λ op w h. let e = same-length xs base h in omega (arith, e))
    (λ by aggregates h.
    let e = row-list by aggregates h.pieces h.each in
    let a : length (map (λ (t : Row × List Row). t.0) h.pieces) ≡ length xs = ap length h.rows_are in
    let b = same-length (flat_map (λ (t : Row × List Row). t.1) h.pieces) base h.whole in
    omega (arith, e, a, b))
    (λ cols h. gives-length p base xs h)
    (λ by aggregates h. let e = same-length xs base h in omega (arith, e)) op h
gives-length (binary n c op p q) base xs h = let e = same-length xs base h in omega (arith, e)
gives-length (exchange n c k m p) base xs h = gives-length p base xs h

module _ (S : RunModel) (giv : Given S.catalog S.db S.sizes (goes S)) (some : 0 < S.morsel) where
  fit-sized : Sized S
  fit-sized = record { some_rows = some; some_workers = giv.some_workers }

  scan-read : (n : ℕ) (c : Claim) (r : ℕ) (m : Bool) (z : Size) (w : ℕ) (t : Trace) (out : List Row) → (S.relation_of n == r) ≡ true
      → MadeOf S (fragment S w (scan n c r m z)) t out → (morsels (morsel_of S.morsel (S.db r)) (t.drew n).numbers ≡ out) × ((t.drew n).met_end ≡ true)
  scan-read n c r m z w t out fit h =
      let l = h.makes.0 in
      let b = h.reads_begin.scanned n in
      let heard : l.left ≡ h.reads.scanned n = h.makes.1.scanned in
      let end = b.ended (sym (ap (λ (s : Stream). s.over) heard) ∙ h.makes.2) in
      let e : l.left.rows ≡ morsels (scan_morsels S n) (t.drew n).numbers = ap (λ (s : Stream). s.rows) heard ∙ b.rows ∙ ap (morsels (scan_morsels S n)) end.0 in
      let P : ℕ → Type 0 = λ k. l.left.rows ≡ morsels (morsel_of S.morsel (S.db k)) (t.drew n).numbers in
      (sym (h.makes.3 ∙ subst P (eqb-true (S.relation_of n) r fit) e), end.1)

  -- a consumer that took Last from a producer took all that it put
  came-whole : (n : ℕ) (c : Claim) (k : ExchangeKind) (merge : List OrderEntry) (p : Plan) (j : ℕ) (t : Trace) (out : List Row) (h : MadeOf S (fragment S j (exchange n c k merge p)) t out)
      → (i : ℕ) → i < workers S.sizes (size p) → (put : List PacketView) → Flows put (t.came n i) → h.makes.0.came i ≡ put
  came-whole n c k merge p j t out h i l put f =
      let seen : h.makes.0.came i ≡ h.reads.came n i = ap (λ (g : ℕ → List PacketView). g i) h.makes.1.came in
      let P : List PacketView → Type 0 = λ ps. has_last ps ≡ true in
      seen ∙ read-whole put (t.came n i) (h.reads.came n i) f (h.reads_begin.came n i) (subst P seen (h.makes.2 i l))

  came-well : (n : ℕ) (c : Claim) (k : ExchangeKind) (merge : List OrderEntry) (p : Plan) (j : ℕ) → j < workers S.sizes (target k) → (t : Trace) (out : List Row) → MadeOf S (fragment S j (exchange n c k merge p)) t out
      → (i : ℕ) → i < workers S.sizes (size p) → (u : Trace) → Flows (u.sent j) (t.came n i) → Ends S (fragment S i p) (send (ship_of S n i k p)) u
      → IsWell S (fragment S i p) (send (ship_of S n i k p)) u
  came-well n c k merge p j b t out h i l u f e =
      let P : List PacketView → Type 0 = λ ps. has_last ps ≡ true in
      ends-well S (fragment S i p) (ship_of S n i k p) u j b e (subst P (came-whole n c k merge p j t out h i l (u.sent j) f) (h.makes.2 i l))

  -- where the top's workers had all their inputs whole, all workers below are well
  all-well : (p : Plan) → is_fit S.relation_of p ≡ true → (ts : ℕ → Trace) → ((w : ℕ) → w < workers S.sizes (size p) → Makers S p ts w) → RunOf S (Ends S) p ts → RunOf S (IsWell S) p ts
  all-well (scan n c r true z) fit ts made run = run
  all-well (scan n c r false z) fit ts made run = run
  all-well (unary n c op p) fit ts made run =
      all-well p fit ts (λ w l. let h = (made w l).1 in (h.makes.0.left.rows, record { reads = h.reads; reads_begin = h.reads_begin; makes = h.makes.1 })) run
  all-well (binary n c op p q) fit ts made run =
      let same : size p ≡ size q = size_eq-is (size p) (size q) (and-left (size_eq (size p) (size q)) _ fit) in
      let fits = and-right (size_eq (size p) (size q)) (is_fit S.relation_of p && is_fit S.relation_of q) fit in
      let back : (w : ℕ) → w < workers S.sizes (size q) → w < workers S.sizes (size p)
      = λ w l. let P : Size → Type 0 = λ z. w < workers S.sizes z in subst P (sym same) l in (
        all-well p (and-left (is_fit S.relation_of p) (is_fit S.relation_of q) fits) ts
            (λ w l. let h = (made w l).1 in (h.makes.0.left.rows, record { reads = h.reads; reads_begin = h.reads_begin; makes = h.makes.1 })) run.0,
        all-well q (and-right (is_fit S.relation_of p) (is_fit S.relation_of q) fits) ts
            (λ w l. let h = (made w (back w l)).1 in (h.makes.0.right.rows, record { reads = h.reads; reads_begin = h.reads_begin; makes = h.makes.2 })) run.1,
      )
  all-well (exchange n c k merge p) fit ts made run =
      let first : 0 < workers S.sizes (target k) = some-workers S.sizes giv.some_workers (target k) in
      let top = made 0 first in
      let wells : (i : ℕ) → i < workers S.sizes (size p) → IsWell S (fragment S i p) (send (ship_of S n i k p)) (run.0 i)
      = λ i l. came-well n c k merge p 0 first (ts 0) top.0 top.1 i l (run.0 i) (run.3 i 0 l first) (run.2 i l) in
      (run.0, all-well p fit run.0 (λ i l. well-maker S i p (send (ship_of S n i k p)) (run.0 i) (wells i l)) run.1, wells, run.3)

  -- an open node whose partial takes too long a list
  open-long : (keys : List ℕ) (puts : List Aggregate) (p : Plan) → opens keys puts p ≡ true → (base : List Row) → serial S.db (spoken p) ≡ rows base → 4611686018427387904 < length base → HasTooLong S.db p
  open-long keys puts (scan n c r m z) e base h l = absurd (true≢false (sym e))
  open-long keys puts (unary n c op p) e base h l = by-phase
      (λ op f. f.is_of keys puts (opens keys puts p) ≡ true → serial S.db (f.spoken_of p (spoken p) (unary n c op p)) ≡ rows base → HasTooLong S.db (unary n c op p))
      (λ op w e h. absurd (true≢false (sym e)))
      (λ by aggregates e h. let P : SerialResult → Type 0 = λ o. IsTooLong (group partial by aggregates) o in inr (subst P (sym h) l))
      (λ order e h. inl (open-long keys puts p (and-right (all_below (length keys) (order_columns order)) (opens keys puts p) e) base h l))
      (λ by aggregates e h. absurd (true≢false (sym e))) op e h
  open-long keys puts (binary n c op p q) e base h l = absurd (true≢false (sym e))
  open-long keys puts (exchange n c k m p) e base h l = open-long keys puts p e base h l

real-erased : (catalog : ℕ → Relation) (db : ℕ → List Row) (p : Plan) → well_formed catalog p ≡ true → Overflows db p → IsReal db p
real-erased catalog db p wf h = ⊎_elim (λ o. inl ((erased-overflows catalog db p wf).0 o)) (λ l. inr l) h

module _ (S : RunModel) (giv : Given S.catalog S.db S.sizes (goes S)) (some : 0 < S.morsel) (Has : Plan → Type 0) (table : Table S giv Has) where
  -- the inputs of a node have one size
  same-size : (n : ℕ) (c : Claim) (op : Binary) (p q : Plan) → Has (binary n c op p q) → size p ≡ size q
  same-size n c op p q ok = size_eq-is (size p) (size q) (and-left (size_eq (size p) (size q)) (is_fit S.relation_of p && is_fit S.relation_of q) (table.fit (binary n c op p q) ok))

  not-overflow : (n : ℕ) (c : Claim) (op : Unary) (p : Plan) (u : Streams) → Has (unary n c op p)
      → Runs S.db S.sizes (goes S) p u → (w : ℕ) → w < workers S.sizes (size p) → unary_rows op (u w) ≡ None → Overflows S.db (unary n c op p)
  not-overflow n c op p u ok run w l none = go (serial S.db (unary n c op p)) refl
    where
      no : (x : Option (List Row)) → x ≡ None → IsSome x → ⊥
      no None e k = true≢false (sym k)
      no (Some xs) e k = cc

      go : (o : SerialResult) → serial S.db (unary n c op p) ≡ o → Overflows S.db (unary n c op p)
      go (rows xs) e = ⊎_elim
          (λ some. absurd (no (unary_rows op (u w)) none some))
          (λ x. ⊎_elim (λ large. inr (inr (inr large))) (λ long. inr (inl (inr long))) x)
          (no-overflow-from S.catalog S.db S.sizes (goes S) giv n c op p u (table.well (unary n c op p) ok) (table.holds p u (table.inherited.input n c op p ok) run) (table.fits n c op p u ok run) xs e w l)
      go (overflow m) e = let P : SerialResult → Type 0 = λ o. IsOverflow o in inl (subst P (sym e) tt)

  -- a worker whose inputs were whole has its list in a run of the plan, or the plan itself overflows
  complete : (p : Plan) → Has p → (ts : ℕ → Trace) → RunOf S (Ends S) p ts → (w : ℕ) → w < workers S.sizes (size p) → (out : List Row) → MadeOf S (fragment S w p) (ts w) out
      → ((u : Streams) × Runs S.db S.sizes (goes S) p u × (u w ≡ out)) ⊎ Overflows S.db p
  complete (scan n c r true z) ok ts run w l out h =
      let e = scan-read S giv some n c r true z w (ts w) out (table.fit (scan n c r true z) ok) h in
      inl (
        λ v. morsels (morsel_of S.morsel (S.db r)) ((ts v).drew n).numbers,
        dispatched-dealt S.morsel (S.db r) (workers S.sizes z) (λ v. (ts v).drew n) some (some-workers S.sizes giv.some_workers z) run w l e.1,
        e.0,
      )
  complete (scan n c r false z) ok ts run w l out h =
      let e = scan-read S giv some n c r false z w (ts w) out (table.fit (scan n c r false z) ok) h in
      inl (λ v. S.db r, λ v k. refl, Dealt-one (dispatched-dealt S.morsel (S.db r) 1 (λ v. (ts w).drew n) some (omega arith) (run w l) 0 (omega arith) e.1) ∙ e.0)
  complete (unary n c op p) ok ts run w l out h =
      ⊎_elim
      (λ got. ⊎_elim
      (λ s. inl (s.0, (got.0, got.1, s.1), some-is _ _ (sym (s.1 w l) ∙ ap (unary_rows op) got.2 ∙ h.makes.2)))
      (λ none. inr (not-overflow n c op p got.0 ok got.1 none.0 none.1 none.2))
      (all-some (workers S.sizes (size p)) (λ v. unary_rows op (got.0 v))))
      (λ real. inr (real-unary S.db n c op p real))
      (complete p (table.inherited.input n c op p ok) ts run w l h.makes.0.left.rows
      (record { reads = h.reads; reads_begin = h.reads_begin; makes = h.makes.1 }))
  complete (binary n c op p q) ok ts run w l out h =
      let same = same-size n c op p q ok in
      let P : Size → Type 0 = λ z. w < workers S.sizes z in
      ⊎_elim
      (λ left. ⊎_elim
      (λ right. inl (
        λ v. binary_rows op (left.0 v) (right.0 v),
        (left.0, right.0, left.1, right.1, λ v k. refl),
        ap (λ xs. binary_rows op xs (right.0 w)) left.2 ∙ ap (binary_rows op h.makes.0.left.rows) right.2 ∙ h.makes.3,
      ))
      (λ real. inr (real-right S.db n c op p q real))
      (complete q (table.inherited.right n c op p q ok) ts run.1 w (subst P same l) h.makes.0.right.rows
      (record { reads = h.reads; reads_begin = h.reads_begin; makes = h.makes.2 })))
      (λ real. inr (real-left S.db n c op p q real))
      (complete p (table.inherited.left n c op p q ok) ts run.0 w l h.makes.0.left.rows
      (record { reads = h.reads; reads_begin = h.reads_begin; makes = h.makes.1 }))
  complete (exchange n c k merge p) ok ts run w l out h =
      let fit = table.fit (exchange n c k merge p) ok in
      let m : ℕ = workers S.sizes (size p) in
      let us = run.0 in
      let wells : (i : ℕ) → i < m → IsWell S (fragment S i p) (send (ship_of S n i k p)) (us i)
      = λ i a. came-well S giv some n c k merge p w l (ts w) out h i a (us i) (run.3 i w a l) (run.2 i a) in
      let below : RunOf S (IsWell S) p us = all-well S giv some p fit us (λ i a. well-maker S i p (send (ship_of S n i k p)) (us i) (wells i a)) run.1 in
      let u = choose (λ i (x : List Row × Streams). Produced S (fit-sized S giv some) n i k p (us i) x) ([], λ j. []) m (λ i a. produced S (fit-sized S giv some) n i k p (us i) (wells i a)) in
      let runs : Runs S.db S.sizes (goes S) p (λ i. (u.0 i).0) = runs-of S (fit-sized S giv some) p fit us (λ i. (u.0 i).0) (λ i a. (u.1 i a).made) below in
      let up : (j : ℕ) → j < workers S.sizes (target k) → (i : ℕ) → i < m → sorted merge ((u.0 i).1 j) ≡ true
      = λ j b i a. sends-sorted (goes S) k (workers S.sizes (target k)) (u.0 i).0 (u.0 i).1 (u.1 i a).sends merge (table.merges n c k merge p (λ i. (u.0 i).0) ok runs i a) j b in
      let own : Dealt m out (λ i. (u.0 i).1 w)
      = dealt-lists m out (λ i. rows_of (h.makes.0.came i)) (λ i. (u.0 i).1 w)
      (λ i a. ap rows_of (came-whole S giv some n c k merge p w (ts w) out h i a ((us i).sent w) (run.3 i w a l)) ∙ port-rows (ship_of S n i k p) w ((u.0 i).1 w) ((us i).sent w) ((u.1 i a).ports w l)) h.makes.3.0 in
      let own_order : is_concat k ≡ true → joined m (λ i. (u.0 i).1 w) ≡ out
      = λ e. joined-ext m (λ i. (u.0 i).1 w) (λ i. rows_of (h.makes.0.came i))
      (λ i a. sym (ap rows_of (came-whole S giv some n c k merge p w (ts w) out h i a ((us i).sent w) (run.3 i w a l)) ∙ port-rows (ship_of S n i k p) w ((u.0 i).1 w) ((us i).sent w) ((u.1 i a).ports w l))) ∙ h.makes.3.2 e in
      let outs = choose (λ j xs. Dealt m xs (λ i. (u.0 i).1 j) × (sorted merge xs ≡ true) × ((j == w) ≡ true → xs ≡ out) × (is_concat k ≡ true → joined m (λ i. (u.0 i).1 j) ≡ xs)) [] (workers S.sizes (target k))
      (λ j b. at-consumer m merge out (λ j i. (u.0 i).1 j) w own h.makes.3.1 k own_order j (λ e. one-place k e j w b l) (up j b) (j == w) refl) in
      inl (
        outs.0,
        (
          λ i. (u.0 i).0,
          runs,
          record {
            sent = λ i. (u.0 i).1;
            sends = λ i a. (u.1 i a).sends;
            gets = λ j b. (outs.1 j b).0;
            merged = λ j b. (outs.1 j b).1;
            in_order = λ e j b. (outs.1 j b).3 e;
          },
        ),
        (outs.1 w l).2 (eq-eqb w w refl),
      )
    where
      -- a concat has one consumer
      one-place : (k : ExchangeKind) → is_concat k ≡ true → (j w : ℕ) → j < workers S.sizes (target k) → w < workers S.sizes (target k) → (j == w) ≡ true
      one-place (route_to z r cols) e j w a b = absurd (true≢false (sym e))
      one-place (round z) e j w a b = absurd (true≢false (sym e))
      one-place (broadcast z) e j w a b = absurd (true≢false (sym e))
      one-place gather e j w a b = absurd (true≢false (sym e))
      one-place concat e j w a b = eq-eqb j w (omega (arith, a, b))

      at-consumer : (m : ℕ) (merge : List OrderEntry) (out : List Row) (sent : ℕ → Streams) (w : ℕ) → Dealt m out (sent w) → sorted merge out ≡ true
          → (k : ExchangeKind) → (is_concat k ≡ true → joined m (sent w) ≡ out)
          → (j : ℕ) → (is_concat k ≡ true → (j == w) ≡ true) → ((i : ℕ) → i < m → sorted merge (sent j i) ≡ true) → (b : Bool) → (j == w) ≡ b
          → (xs : List Row) × (Dealt m xs (sent j) × (sorted merge xs ≡ true) × ((j == w) ≡ true → xs ≡ out) × (is_concat k ≡ true → joined m (sent j) ≡ xs))
      at-consumer m merge out sent w own s k order j only up true e =
          let P : ℕ → Type 0 = λ v. Dealt m out (sent v) in
          let Q : ℕ → Type 0 = λ v. is_concat k ≡ true → joined m (sent v) ≡ out in
          (out, (subst P (sym (eqb-true j w e)) own, s, λ x. refl, subst Q (sym (eqb-true j w e)) order))
      at-consumer m merge out sent w own s k order j only up false e =
          let x = sorted-shuffle merge m (sent j) up in
          (x.0, (x.1, x.2, (λ y. absurd (true≢false (sym y ∙ e))), λ y. absurd (true≢false (sym (only y) ∙ e))))

  -- a group with an overflow of its own
  group-fails : (n : ℕ) (c : Claim) (phase : Phase) (by : List ℕ) (aggregates : List Aggregate) (p : Plan) (u : Streams)
      → Has (unary n c (group phase by aggregates) p) → Runs S.db S.sizes (goes S) p u → (w : ℕ) → w < workers S.sizes (size p)
      → (group_rows by aggregates (u w) ≡ None) ⊎ (4611686018427387904 < length (u w)) → Overflows S.db (unary n c (group phase by aggregates) p)
  group-fails n c phase by aggregates p u ok run w l why = ⊎_elim
      (λ none. not-overflow n c (group phase by aggregates) p u ok run w l none)
      (λ long.
      let holds = table.holds p u (table.inherited.input n c (group phase by aggregates) p ok) run in
      let ones = total-ones (u w) in
      let most = stream-most (goes S) (claim p).part (workers S.sizes (size p)) u (λ xs. Gives p holds.base xs) (λ r. 1) (length holds.base)
      (λ xs g. let a = total-ones xs in let b = gives-length p holds.base xs g in omega (arith, a, b)) holds.holds.part w l in
      go phase formed.1 holds.base holds.is_serial (omega (arith, most, long, ones)))
      why
    where
      formed : (well_formed S.catalog p ≡ true) × (phase_fits (group phase by aggregates) p ≡ true)
      formed = let w = well-under S.catalog n c (group phase by aggregates) p (table.well (unary n c (group phase by aggregates) p) ok) in (w.0, w.1)

      closed : (kind : Phase) → not (is_open p) ≡ true → (base : List Row) → serial S.db (spoken p) ≡ rows base → 4611686018427387904 < length base → HasTooLong S.db (unary n c (group kind by aggregates) p)
      closed kind e base h big =
          let P : SerialResult → Type 0 = λ o. IsTooLong (group kind by aggregates) o in
          let same : serial S.db p ≡ rows base = sym (closed-spoken S.db p (well-phased S.catalog p formed.0) (not-true (is_open p) e)) ∙ h in
          inr (subst P (sym same) big)

      go : (phase : Phase) → phase_fits (group phase by aggregates) p ≡ true → (base : List Row) → serial S.db (spoken p) ≡ rows base → 4611686018427387904 < length base
          → Overflows S.db (unary n c (group phase by aggregates) p)
      go plain e base h big = inr (inl (closed plain e base h big))
      go partial e base h big = inr (inl (closed partial e base h big))
      go final e base h big = inr (inl (inl (open-long S giv some by aggregates p e base h big)))

  -- a worker whose top answers an overflow
  fails : (p : Plan) → Has p → (ts : ℕ → Trace) → RunOf S (Ends S) p ts → (w : ℕ) → w < workers S.sizes (size p)
      → (reads : Reads) → ReadsBegin S (ts w) reads → (out : Stream) → FragAbides (fragment S w p) reads out
      → (node : ℕ) → out.over ≡ Failed (Own Overflow node) → Overflows S.db p
  fails (scan n c r m z) ok ts run w l reads begin out h node e = ⊎_elim
      (λ i. absurd ((begin.scanned n).never_fails (Own Overflow node) (sym (ap (λ (s : Stream). s.over) h.1.scanned) ∙ i)))
      (λ o. absurd o)
      (h.2.blame (Own Overflow node) (ap (λ (s : Stream). s.over) h.3 ∙ e))
  fails (unary n c op p) ok ts run w l reads begin out h node e = ⊎_elim
      (λ i. real-unary S.db n c op p (fails p (table.inherited.input n c op p ok) ts run w l reads begin h.0.left h.1 node i))
      (λ o. own op ok o)
      (h.2.blame (Own Overflow node) (ap (λ (s : Stream). s.over) h.3 ∙ e))
    where
      -- the operator gives no list of its whole input
      no_list : (op : Unary) → Has (unary n c op p) → h.0.left.over ≡ Ended → unary_rows op h.0.left.rows ≡ None → Overflows S.db (unary n c op p)
      no_list op ok ended none = ⊎_elim
          (λ got. not-overflow n c op p got.0 ok got.1 w l (ap (unary_rows op) got.2 ∙ none))
          (λ real. real-unary S.db n c op p real)
          (complete p (table.inherited.input n c op p ok) ts run w l h.0.left.rows (record { reads = reads; reads_begin = begin; makes = abides-makes S w p reads h.0.left h.1 ended }))

      own : (op : Unary) → Has (unary n c op p) → OwnBlame (one_op n op) h.0 (Own Overflow node) → Overflows S.db (unary n c op p)
      own (select fs) ok o = no_list (select fs) ok o.1 o.2
      own (project es) ok o = no_list (project es) ok o.1 o.2
      own (distinct cols) ok o = absurd o
      own (sort of_parts order) ok o = absurd o
      own (limit m) ok o = absurd o
      own (group phase by aggregates) ok o = ⊎_elim
          (λ got.
          let P : List Row → Type 0 = λ xs. (group_rows by aggregates xs ≡ None) ⊎ (4611686018427387904 < length xs) in
          group-fails n c phase by aggregates p got.0 ok got.1 w l (subst P (sym got.2) o.2))
          (λ real. real-unary S.db n c (group phase by aggregates) p real)
          (complete p (table.inherited.input n c (group phase by aggregates) p ok) ts run w l h.0.left.rows (record { reads = reads; reads_begin = begin; makes = abides-makes S w p reads h.0.left h.1 o.1 }))
  fails (binary n c op p q) ok ts run w l reads begin out h node e =
      let same = same-size n c op p q ok in
      let P : Size → Type 0 = λ z. w < workers S.sizes z in
      ⊎_elim
      (λ i. ⊎_elim
      (λ left. real-left S.db n c op p q (fails p (table.inherited.left n c op p q ok) ts run.0 w l reads begin h.0.left h.1 node left))
      (λ right. real-right S.db n c op p q (fails q (table.inherited.right n c op p q ok) ts run.1 w (subst P same l) reads begin h.0.right h.2 node right))
      i)
      (λ o. absurd (none op o))
      (h.3.blame (Own Overflow node) (ap (λ (s : Stream). s.over) h.4 ∙ e))
    where
      none : (op : Binary) → OwnBlame (two_op n op) h.0 (Own Overflow node) → ⊥
      none union o = o
      none (join (by_merging falls) on) o = o
      none (join by_hashing on) o = o
      none (semi_join matched on conditions) o = o
  fails (exchange n c k merge p) ok ts run w l reads begin out h node e = ⊎_elim
      (λ i. absurd i)
      (λ o. absurd o)
      (h.2.blame (Own Overflow node) (ap (λ (s : Stream). s.over) h.3 ∙ e))

  ends-with : (p : Plan) → Has p → (ts : ℕ → Trace) → RunOf S (Ends S) p ts → (w : ℕ) → w < workers S.sizes (size p) → (task : Task) → (node : ℕ)
      → (fate : Fate) → Honest S (fragment S w p) task fate (ts w) → fate ≡ failed (Own Overflow node) → Overflows S.db p
  ends-with p ok ts run w l task node fate h e =
      let P : Fate → Type 0 = λ x. Honest S (fragment S w p) task x (ts w) in
      let f : HasFailed S (fragment S w p) task (Own Overflow node) (ts w) = subst P e h in
      ⊎_elim (λ o. fails p ok ts run w l f.reads f.reads_begin f.out f.abides node o) (λ m. absurd m) f.why

  below : (p : Plan) → Has p → (ts : ℕ → Trace) (run : RunOf S (Ends S) p ts) (node : ℕ) → FailsBelow S (Own Overflow node) p ts run → Overflows S.db p
  below (scan n c r m z) ok ts run node h = absurd h
  below (unary n c op p) ok ts run node h = real-unary S.db n c op p (below p (table.inherited.input n c op p ok) ts run node h)
  below (binary n c op p q) ok ts run node h = ⊎_elim
      (λ left. real-left S.db n c op p q (below p (table.inherited.left n c op p q ok) ts run.0 node left))
      (λ right. real-right S.db n c op p q (below q (table.inherited.right n c op p q ok) ts run.1 node right))
      h
  below (exchange n c k merge p) ok ts run node h =
      let okp = table.inherited.sent n c k merge p ok in
      ⊎_elim
      (λ x. ends-with p okp run.0 run.1 x.0 x.1 (send (ship_of S n x.0 k p)) node (run.2 x.0 x.1).0 (run.2 x.0 x.1).1 x.2)
      (λ x. below p okp run.0 run.1 node x)
      h

  -- all workers ended, and one of them with an overflow of its own
  pub overflow-of-run : (p : Plan) → Has p → is_one (size p) ≡ true → (ts : ℕ → Trace) (kept : List Row) (root : Ends S (fragment S 0 p) (keep kept) (ts 0)) (run : RunOf S (Ends S) p ts)
      → (node : ℕ) → (root.0 ≡ failed (Own Overflow node)) ⊎ FailsBelow S (Own Overflow node) p ts run → IsReal S.db p
  overflow-of-run p ok single ts kept root run node h =
      let n1 : workers S.sizes (size p) ≡ 1 = one-worker S.sizes (size p) single in
      let P : ℕ → Type 0 = λ m. 0 < m in
      real-erased S.catalog S.db p (table.well p ok) (⊎_elim
      (λ e. ends-with p ok ts run 0 (subst P (sym n1) (omega arith)) (keep kept) node root.0 root.1 e)
      (λ b. below p ok ts run node b)
      h)

pub overflow-is-real : OverflowIsReal
overflow-is-real S set p fit wf ok single t kept root run node h =
    let giv = set-given S set in
    overflow-of-run S giv set.some_morsel (IsAllowed S) (first-table S giv) p (fit, (wf, ok)) single (λ _. t) kept root run node h

pub overflow-is-real-derived : OverflowIsRealDerived
overflow-is-real-derived S set p fit wf ins ok single t kept root run node h =
    let giv = set-given S set in
    overflow-of-run S giv set.some_morsel (IsAllowedDerived S) (second-table S giv) p (fit, (wf, (ins, ok))) single (λ _. t) kept root run node h
