-- Where the claimed part is all, two workers whose streams have ended gave the same rows.
use Rattle.std.proofs.Common.{◌≡◌, ⊎_elim, ℕ, ◌<◌, Bool, true, false, ◌&&◌, ◌||◌, List, refl, sym, ap, ◌∙◌, subst, arith, true≢false, eqb-true, Some}
use Rattle.vx_rows_values.specs.declared.order.OrderEntry.{OrderEntry}
use Rattle.vx_rows_values.specs.Values.{Row}
use Rattle.vx_rows_values.specs.Bags.{total, SameRows}
use Rattle.vx_catalog_relations.specs.Relation.{Relation}
use Rattle.vx_plan_nodes.specs.Plan.{Part, one, any, all, routed, Size, Claim, Unary, select, project, distinct, sort, group, plain, partial, final, Binary, union, join, ExchangeKind, route_to, round, broadcast, gather, concat, Plan, scan, unary, binary, exchange, claim, size, is_one, limit, semi_join}
use Rattle.vx_plan_nodes.specs.Parts.{kind_part}
use Rattle.vx_plan_nodes.specs.Phases.{is_partial, is_final}
use Rattle.vx_plan_nodes.specs.Types.{width}
use Rattle.vx_plan_nodes.specs.Describe.{Copying, left_of, right_of, described, whole_rows}
use Rattle.vx_plan_nodes.specs.Serial.{unary_rows, binary_rows}
use Rattle.vx_plan_nodes.specs.Streams.{workers}
use Rattle.vx_plan_nodes.specs.Routes.{Routing}
use Rattle.vx_plan_nodes.specs.Numbering.{is_fit}
use Rattle.vx_plan_facts.specs.Equal.{Equality, equal_at}
use Rattle.vx_check_rules.specs.Rules.{part_gives, has, routed_alike, unless_one, unary_shows, join_shows, shows, semi_join_shows}
use Rattle.vx_check_rules.specs.Derived.{part_matches, routed_as, routed_alike_equally, part_derived, part_shown_derived, is_total_derived, first_rows_known_derived}
use Rattle.vx_ports.specs.Packets.{PacketView, rows_of, has_last}
use Rattle.vx_ops.specs.Ledger.{Stream}
use Rattle.vx_ops.specs.declared.fault.StreamState.TheVariants.{Ended}
use Rattle.vx_worker.specs.Fragment.{goes, RunModel, fragment}
use Rattle.vx_worker.specs.Morsels.{morsel_of, morsels}
use Rattle.vx_worker.specs.Trace.{Trace, Ends}
use Rattle.vx_exchange_ends.specs.Tasks.{send}
use Rattle.vx_exec_laws.specs.RunOf.{ship_of, RunOf}
use Rattle.vx_exec_laws.specs.CutRows.{Output}
use Rattle.vx_exec_laws.proofs.Bags.{and-left, and-right, SameRows-refl, across-ext, Dealt-total}
use Rattle.vx_exec_laws.proofs.Parts.{or-cases, one-worker}
use Rattle.vx_exec_laws.proofs.Binary.{append-same}
use Rattle.vx_exec_laws.proofs.Join.{join-same}
use Rattle.vx_exec_laws.proofs.SemiJoin.{matched-same}
use Rattle.vx_exec_laws.proofs.Orders.{Dealt-one}
use Rattle.vx_exec_laws.proofs.Operators.{is_limit, by-limit, whole}
use Rattle.vx_exec_laws.proofs.Unary.{some-is}
use Rattle.vx_exec_laws.proofs.Decks.{dispatched-dealt}
use Rattle.vx_exec_laws.proofs.Packets.{port-rows}
use Rattle.vx_exec_laws.proofs.Overflows.{read-whole, ends-well}
use Rattle.vx_exec_laws.proofs.DerivedOpen.{derived-tests}
use Rattle.vx_exec_laws.proofs.CutOrigins.{under, on-left, on-right, same-size}
use Rattle.vx_exec_laws.proofs.CutPlaces.{Fine, fine-under, fine-left, fine-right, here}

-- ---- where all rows are shown on each worker, also by what is known of columns

all-is : (q : Part) → part_gives q all ≡ true → q ≡ all
all-is one h = absurd (true≢false (sym h))
all-is any h = absurd (true≢false (sym h))
all-is all h = refl
all-is (routed r cols) h = absurd (true≢false (sym h))

routed-not-all : (w : ℕ) (k : Copying) (e f : Equality) (q : Part) → routed_as w k e f q all ≡ true → ⊥
routed-not-all w k e f one h = true≢false (sym h)
routed-not-all w k e f any h = true≢false (sym h)
routed-not-all w k e f all h = true≢false (sym h)
routed-not-all w k e f (routed r cols) h = true≢false (sym h)

matches-not-all : (e : Equality) (q : Part) → part_matches e q all ≡ true → ⊥
matches-not-all e one h = true≢false (sym h)
matches-not-all e any h = true≢false (sym h)
matches-not-all e all h = true≢false (sym h)
matches-not-all e (routed r cols) h = true≢false (sym h)

derived-not-all : (catalog : ℕ → Relation) (p : Plan) → part_derived catalog p all ≡ true → ⊥
derived-not-all catalog (scan n c r m z) h = true≢false (sym h)
derived-not-all catalog (unary n c op p) h =
    routed-not-all (width catalog (unary n c op p)) (described op).copying (equal_at catalog p) (equal_at catalog (unary n c op p)) (claim p).part h
derived-not-all catalog (binary n c union p q) h =
    matches-not-all (equal_at catalog p) (claim p).part (and-left (part_matches (equal_at catalog p) (claim p).part all) (part_matches (equal_at catalog q) (claim q).part all) h)
derived-not-all catalog (binary n c (join m on) p q) h =
    let node : Plan = binary n c (join m on) p q in
    let v : ℕ = width catalog p in
    let w : ℕ = width catalog node in
    let e : Equality = equal_at catalog p in
    let f : Equality = equal_at catalog q in
    let g : Equality = equal_at catalog node in
    let met : Bool = routed_alike_equally e f on (claim p).part (claim q).part in
    let as_left : Bool = routed_as w (left_of v) e g (claim p).part all in
    let as_right : Bool = routed_as w (right_of v) f g (claim q).part all in
    ⊎_elim
    (λ i. routed-not-all w (left_of v) e g (claim p).part (and-right (has q all || met) as_left i))
    (λ i. routed-not-all w (right_of v) f g (claim q).part (and-right (has p all || met) as_right i))
    (or-cases ((has q all || met) && as_left) ((has p all || met) && as_right) h)
derived-not-all catalog (binary n c (semi_join matched on conditions) p q) h =
    let e : Equality = equal_at catalog p in
    let met : Bool = has q all || routed_alike_equally e (equal_at catalog q) on (claim p).part (claim q).part in
    let g : Equality = equal_at catalog (binary n c (semi_join matched on conditions) p q) in
    routed-not-all (width catalog p) whole_rows e g (claim p).part (and-right met (routed_as (width catalog p) whole_rows e g (claim p).part all) h)
derived-not-all catalog (exchange n c k merge p) h = matches-not-all (equal_at catalog p) (kind_part k) h

shows-all : (catalog : ℕ → Relation) (p : Plan) → (is_one (size p) ≡ true → ⊥) → has p all ≡ true → part_shown_derived catalog p ≡ true → shows catalog p all ≡ true
shows-all catalog p many h t =
    let T : Part → Type 0 = λ q. ((is_one (size p) || unless_one (shows catalog p) q) || part_derived catalog p q) ≡ true in
    let is : (claim p).part ≡ all = ⊎_elim (λ o. absurd (many o)) (λ g. all-is (claim p).part g) (or-cases (is_one (size p)) (part_gives (claim p).part all) h) in
    ⊎_elim
    (λ g. ⊎_elim (λ o. absurd (many o)) (λ i. i) (or-cases (is_one (size p)) (shows catalog p all) g))
    (λ g. absurd (derived-not-all catalog p g))
    (or-cases (is_one (size p) || shows catalog p all) (part_derived catalog p all) (subst T is t))

unary-all : (op : Unary) (p : Plan) → unary_shows op p all ≡ true → has p all ≡ true
unary-all (select fs) p h = h
unary-all (project es) p h = h
unary-all (distinct cols) p h = h
unary-all (sort of_parts order) p h = h
unary-all (group plain by aggregates) p h = h
unary-all (group partial by aggregates) p h = h
unary-all (group final by aggregates) p h = h
unary-all (limit m) p h = h

join-all : (on : List (ℕ × ℕ)) (v : ℕ) (p q : Plan) → join_shows on v p q all ≡ true → (has p all ≡ true) × (has q all ≡ true)
join-all on v p q h =
    let alike : Bool = routed_alike on (claim p).part (claim q).part in
    ⊎_elim
    (λ g. ⊎_elim
    (λ i. absurd (true≢false (sym (and-right alike false i))))
    (λ i. (and-right (has q all) (has p all) i, and-left (has q all) (has p all) i))
    (or-cases (alike && false) (has q all && has p all) g))
    (λ g. (and-left (has p all) (has q all) g, and-right (has p all) (has q all) g))
    (or-cases ((alike && false) || (has q all && has p all)) (has p all && has q all) h)

-- the left input of a semi or an anti join that is routed as the right one has each row once
semi-join-all : (on : List (ℕ × ℕ)) (p q : Plan) → semi_join_shows on p q all ≡ true → (has p all ≡ true) × (has q all ≡ true)
semi-join-all on p q h =
    let alike : Bool = routed_alike on (claim p).part (claim q).part in
    let gives : Bool = part_gives (claim p).part all in
    ⊎_elim
    (λ i. absurd (once (claim p).part (claim q).part (and-left alike gives i) (and-right alike gives i)))
    (λ i. (and-right (has q all) (has p all) i, and-left (has q all) (has p all) i))
    (or-cases (alike && gives) (has q all && has p all) h)
  where
    once : (x y : Part) → routed_alike on x y ≡ true → part_gives x all ≡ true → ⊥
    once one y a g = true≢false (sym g)
    once any y a g = true≢false (sym g)
    once all y a g = true≢false (sym a)
    once (routed r cols) y a g = true≢false (sym g)

-- a limit has one worker
pub limit-alone : (catalog : ℕ → Relation) (n : ℕ) (c : Claim) (m : ℕ) (p : Plan) → first_rows_known_derived catalog (unary n c (limit m) p) ≡ true → is_one (size p) ≡ true
limit-alone catalog n c m p t = and-left (is_one (size p)) (is_total_derived catalog p) t

no-limit : (catalog : ℕ → Relation) (n : ℕ) (c : Claim) (op : Unary) (p : Plan) → first_rows_known_derived catalog (unary n c op p) ≡ true → (is_one (size p) ≡ true → ⊥) → is_limit op ≡ false
no-limit catalog n c op p t many = by-limit (λ op. first_rows_known_derived catalog (unary n c op p) ≡ true → is_limit op ≡ false) (λ m t. absurd (many (limit-alone catalog n c m p t))) (λ op e t. e) op t

-- ---- operators

-- an operator that is no limit makes the same rows of lists of the same rows
pub bags : (goes : Routing) (op : Unary) → is_limit op ≡ false → (xs ys us vs : List Row) → SameRows xs ys → unary_rows op xs ≡ Some us → unary_rows op ys ≡ Some vs → SameRows us vs
bags goes op other xs ys us vs s e f = go op other e f
  where
    by : (op : Unary) → (is_partial op || is_final op) ≡ false → is_limit op ≡ false → unary_rows op xs ≡ Some us → unary_rows op ys ≡ Some vs → SameRows us vs
    by op shut other e f =
        let m = (whole goes op shut other).of_bags xs ys us s e in
        let P : List Row → Type 0 = λ l. SameRows us l in
        subst P (some-is m.out vs (sym m.is ∙ f)) m.same

    go : (op : Unary) → is_limit op ≡ false → unary_rows op xs ≡ Some us → unary_rows op ys ≡ Some vs → SameRows us vs
    go (select fs) other e f = by (select fs) refl refl e f
    go (project es) other e f = by (project es) refl refl e f
    go (distinct cols) other e f = by (distinct cols) refl refl e f
    go (sort of_parts order) other e f = by (sort of_parts order) refl refl e f
    go (group plain by_columns aggregates) other e f = by (group plain by_columns aggregates) refl refl e f
    go (group partial by_columns aggregates) other e f = by (group plain by_columns aggregates) refl refl e f
    go (group final by_columns aggregates) other e f = by (group plain by_columns aggregates) refl refl e f
    go (limit m) other e f = absurd (true≢false other)

module _ (S : RunModel) (some_rows : 0 < S.morsel) where
  many : (p : Plan) (ts : ℕ → Trace) (x y : Output S p ts) → (x.place ≡ y.place → ⊥) → is_one (size p) ≡ true → ⊥
  many p ts x y apart o =
      let n1 : workers S.sizes (size p) ≡ 1 = one-worker S.sizes (size p) o in
      let a = x.below in
      let b = y.below in
      apart (omega (arith, n1, a, b))

  -- a whole scan that has ended gave its relation
  scan-whole : (n : ℕ) (c : Claim) (r : ℕ) (z : Size) (ts : ℕ → Trace) → is_fit S.relation_of (scan n c r false z) ≡ true → RunOf S (Ends S) (scan n c r false z) ts
      → (x : Output S (scan n c r false z) ts) → x.out.over ≡ Ended → x.out.rows ≡ S.db r
  scan-whole n c r z ts fit run x e =
      let led = x.abides.0 in
      let b = x.begins.scanned n in
      let f : ℕ → List Row = morsel_of S.morsel (S.db r) in
      let over_is : led.gave.over ≡ Ended = ap (λ (s : Stream). s.over) x.abides.3 ∙ e in
      let made = x.abides.2.ended over_is in
      let heard : x.reads.scanned n ≡ led.left = sym x.abides.1.scanned in
      let all = b.ended (ap (λ (s : Stream). s.over) heard ∙ made.0) in
      let R : ℕ → Type 0 = λ j. (x.reads.scanned n).rows ≡ morsels (morsel_of S.morsel (S.db j)) b.numbers in
      let dealt = dispatched-dealt S.morsel (S.db r) 1 (λ v. (ts x.place).drew n) some_rows (omega arith) (run x.place x.below) 0 (omega arith) all.1 in
      ap (λ (s : Stream). s.rows) (sym x.abides.3) ∙ (made.1 ∙ (ap (λ (s : Stream). s.rows) (sym heard) ∙ (subst R (eqb-true (S.relation_of n) r fit) b.rows ∙ (ap (morsels f) all.0 ∙ sym (Dealt-one dealt)))))

  -- ---- an exchange that sends all rows to all

  -- a consumer that has ended took all that each producer put
  took-all : (n : ℕ) (c : Claim) (k : ExchangeKind) (merge : List OrderEntry) (p : Plan) (ts : ℕ → Trace) (run : RunOf S (Ends S) (exchange n c k merge p) ts) (x : Output S (exchange n c k merge p) ts)
      → x.out.over ≡ Ended → (i : ℕ) → i < workers S.sizes (size p) → (x.abides.0.came i ≡ (run.0 i).sent x.place) × (has_last ((run.0 i).sent x.place) ≡ true)
  took-all n c k merge p ts run x e i l =
      let led = x.abides.0 in
      let over_is : led.gave.over ≡ Ended = ap (λ (s : Stream). s.over) x.abides.3 ∙ e in
      let last : has_last (led.came i) ≡ true = (x.abides.2.ended over_is).0 i l in
      let seen : led.came i ≡ x.reads.came n i = ap (λ (f : ℕ → List PacketView). f i) x.abides.1.came in
      let P : List PacketView → Type 0 = λ ps. has_last ps ≡ true in
      let is : led.came i ≡ (run.0 i).sent x.place
      = seen ∙ read-whole ((run.0 i).sent x.place) ((ts x.place).came n i) (x.reads.came n i) (run.3 i x.place l x.below) (x.begins.came n i) (subst P seen last) in
      (is, subst P is last)

  sent-alike : (n i : ℕ) (z : Size) (p : Plan) (u : Trace) → Ends S (fragment S i p) (send (ship_of S n i (broadcast z) p)) u → (j m : ℕ) → j < workers S.sizes z → m < workers S.sizes z
      → has_last (u.sent j) ≡ true → rows_of (u.sent j) ≡ rows_of (u.sent m)
  sent-alike n i z p u e j m lj lm last =
      let s = ship_of S n i (broadcast z) p in
      let h = ends-well S (fragment S i p) s u j lj e last in
      port-rows s j (h.finished.sent j) (u.sent j) (h.finished.ports j lj)
      ∙ (sym (h.finished.sends j lj) ∙ (h.finished.sends m lm ∙ sym (port-rows s m (h.finished.sent m) (u.sent m) (h.finished.ports m lm))))

  broadcast-same : (n : ℕ) (c : Claim) (z : Size) (merge : List OrderEntry) (p : Plan) (ts : ℕ → Trace) (run : RunOf S (Ends S) (exchange n c (broadcast z) merge p) ts)
      → (x y : Output S (exchange n c (broadcast z) merge p) ts) → x.out.over ≡ Ended → y.out.over ≡ Ended → SameRows x.out.rows y.out.rows
  broadcast-same n c z merge p ts run x y ex ey =
      let m : ℕ = workers S.sizes (size p) in
      let lx = x.abides.0 in
      let ly = y.abides.0 in
      let over_x : lx.gave.over ≡ Ended = ap (λ (s : Stream). s.over) x.abides.3 ∙ ex in
      let over_y : ly.gave.over ≡ Ended = ap (λ (s : Stream). s.over) y.abides.3 ∙ ey in
      let dx = (x.abides.2.ended over_x).1.0 in
      let dy = (y.abides.2.ended over_y).1.0 in
      let alike : (i : ℕ) → i < m → rows_of (lx.came i) ≡ rows_of (ly.came i) = λ i l.
      let tx = took-all n c (broadcast z) merge p ts run x ex i l in
      let ty = took-all n c (broadcast z) merge p ts run y ey i l in
      ap rows_of tx.0 ∙ (sent-alike n i z p (run.0 i) (run.2 i l) x.place y.place x.below y.below tx.1 ∙ ap rows_of (sym ty.0)) in
      record {
        totals = λ f.
            ap (λ (s : Stream). total f s.rows) (sym x.abides.3)
            ∙ (Dealt-total dx f ∙ (across-ext m (λ i. total f (rows_of (lx.came i))) (λ i. total f (rows_of (ly.came i))) (λ i l. ap (total f) (alike i l))
            ∙ (sym (Dealt-total dy f) ∙ ap (λ (s : Stream). total f s.rows) y.abides.3)));
      }

  pub same-whole : (p : Plan) → Fine S p → (ts : ℕ → Trace) → RunOf S (Ends S) p ts → (x y : Output S p ts) → (x.place ≡ y.place → ⊥) → has p all ≡ true
      → x.out.over ≡ Ended → y.out.over ≡ Ended → SameRows x.out.rows y.out.rows
  same-whole (scan n c r true z) f ts run x y apart h ex ey =
      absurd (true≢false (sym (shows-all S.catalog (scan n c r true z) (many (scan n c r true z) ts x y apart) h (derived-tests S.catalog (scan n c r true z) f.allowed).4)))
  same-whole (scan n c r false z) f ts run x y apart h ex ey =
      let P : List Row → Type 0 = λ l. SameRows x.out.rows l in
      subst P (scan-whole n c r z ts f.fit run x ex ∙ sym (scan-whole n c r z ts f.fit run y ey)) (SameRows-refl x.out.rows)
  same-whole (unary n c op p) f ts run x y apart h ex ey =
      let node : Plan = unary n c op p in
      let lx = x.abides.0 in
      let ly = y.abides.0 in
      let mx = x.abides.2.ended (ap (λ (s : Stream). s.over) x.abides.3 ∙ ex) in
      let my = y.abides.2.ended (ap (λ (s : Stream). s.over) y.abides.3 ∙ ey) in
      let tests = derived-tests S.catalog node (here S node f) in
      let below : has p all ≡ true = unary-all op p (shows-all S.catalog node (many node ts x y apart) h tests.4) in
      let s = same-whole p (fine-under S n c op p f) ts run (under S n c op p ts x) (under S n c op p ts y) apart below mx.0 my.0 in
      let P : List Row → Type 0 = λ l. SameRows l y.out.rows in
      let Q : List Row → Type 0 = λ l. SameRows lx.gave.rows l in
      subst P (ap (λ (s : Stream). s.rows) x.abides.3) (subst Q (ap (λ (s : Stream). s.rows) y.abides.3) (bags (goes S) op (no-limit S.catalog n c op p tests.7 (many node ts x y apart)) lx.left.rows ly.left.rows lx.gave.rows ly.gave.rows s mx.1 my.1))
  same-whole (binary n c op p q) f ts run x y apart h ex ey =
      let node : Plan = binary n c op p q in
      let same : size p ≡ size q = same-size S n c op p q f.fit in
      let lx = x.abides.0 in
      let ly = y.abides.0 in
      let mx = x.abides.3.ended (ap (λ (s : Stream). s.over) x.abides.4 ∙ ex) in
      let my = y.abides.3.ended (ap (λ (s : Stream). s.over) y.abides.4 ∙ ey) in
      let below = both op (shows-all S.catalog node (many node ts x y apart) h (derived-tests S.catalog node (here S node f)).4) in
      let s = same-whole p (fine-left S n c op p q f) ts run.0 (on-left S n c op p q ts x) (on-left S n c op p q ts y) apart below.0 mx.0.0 my.0.0 in
      let t = same-whole q (fine-right S n c op p q f) ts run.1 (on-right S n c op p q ts same x) (on-right S n c op p q ts same y) apart below.1 mx.0.1 my.0.1 in
      let P : List Row → Type 0 = λ l. SameRows l y.out.rows in
      let Q : List Row → Type 0 = λ l. SameRows (binary_rows op lx.left.rows lx.right.rows) l in
      subst P (mx.1 ∙ ap (λ (s : Stream). s.rows) x.abides.4) (subst Q (my.1 ∙ ap (λ (s : Stream). s.rows) y.abides.4) (together op lx.left.rows ly.left.rows lx.right.rows ly.right.rows s t))
    where
      both : (op : Binary) → shows S.catalog (binary n c op p q) all ≡ true → (has p all ≡ true) × (has q all ≡ true)
      both union g = (and-left (has p all) (has q all) g, and-right (has p all) (has q all) g)
      both (join m on) g = join-all on (width S.catalog p) p q g
      both (semi_join matched on conditions) g = semi-join-all on p q g

      together : (op : Binary) (ls js rs ks : List Row) → SameRows ls js → SameRows rs ks → SameRows (binary_rows op ls rs) (binary_rows op js ks)
      together union ls js rs ks s t = append-same s t
      together (join m on) ls js rs ks s t = join-same on ls js rs ks s t
      together (semi_join matched on conditions) ls js rs ks s t = matched-same matched on conditions ls js rs ks s t
  same-whole (exchange n c (route_to z r cols) merge p) f ts run x y apart h ex ey =
      let node : Plan = exchange n c (route_to z r cols) merge p in
      absurd (true≢false (sym (shows-all S.catalog node (many node ts x y apart) h (derived-tests S.catalog node (here S node f)).4)))
  same-whole (exchange n c (round z) merge p) f ts run x y apart h ex ey =
      let node : Plan = exchange n c (round z) merge p in
      absurd (true≢false (sym (shows-all S.catalog node (many node ts x y apart) h (derived-tests S.catalog node (here S node f)).4)))
  same-whole (exchange n c (broadcast z) merge p) f ts run x y apart h ex ey = broadcast-same n c z merge p ts run x y ex ey
  same-whole (exchange n c gather merge p) f ts run x y apart h ex ey =
      let node : Plan = exchange n c gather merge p in
      absurd (true≢false (sym (shows-all S.catalog node (many node ts x y apart) h (derived-tests S.catalog node (here S node f)).4)))
  same-whole (exchange n c concat merge p) f ts run x y apart h ex ey =
      let node : Plan = exchange n c concat merge p in
      absurd (true≢false (sym (shows-all S.catalog node (many node ts x y apart) h (derived-tests S.catalog node (here S node f)).4)))
