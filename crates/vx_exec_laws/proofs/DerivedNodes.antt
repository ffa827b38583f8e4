-- The claims of nodes by the rule table with what is known of columns.
use Rattle.std.proofs.Common.{◌≡◌, ⊎_elim, inl, inr, ℕ, ◌<◌, ◌==◌, Bool, true, false, cond, ◌&&◌, ◌||◌, List, [], ◌++◌, refl, sym, ◌∙◌, subst, arith, true≢false, Some}
use Rattle.std.specs.List.{list_all}
use Rattle.vx_rows_values.specs.declared.order.OrderEntry.{OrderEntry}
use Rattle.vx_rows_values.specs.Values.{Row, row_eq, pick}
use Rattle.vx_rows_values.specs.Order.{sorted}
use Rattle.vx_rows_values.specs.Bags.{count, SameRows}
use Rattle.vx_rows_values.specs.Keys.{HasKey}
use Rattle.vx_catalog_relations.specs.Relation.{Relation}
use Rattle.vx_plan_nodes.specs.Plan.{JoinMethod, Size, Part, one, any, all, routed, Claim, Plan, scan, unary, binary, exchange, claim, size, is_one, target, Unary, Binary, union, join, ExchangeKind, route_to, round, broadcast, gather, concat, semi_join, Condition}
use Rattle.vx_plan_nodes.specs.Parts.{kind_part}
use Rattle.vx_plan_nodes.specs.Types.{width, names_columns, well_formed}
use Rattle.vx_plan_nodes.specs.Phases.{phase_fits, phased, spoken, Gives, listed}
use Rattle.vx_plan_nodes.specs.Describe.{left_of, right_of, described, whole_rows}
use Rattle.vx_plan_nodes.specs.Serial.{rows, serial, unary_rows, binary_rows, join_rows, matched_rows}
use Rattle.vx_plan_nodes.specs.Streams.{Streams, joined, workers}
use Rattle.vx_plan_nodes.specs.Routes.{Routing}
use Rattle.vx_plan_nodes.specs.Runs.{Exchanges, Runs}
use Rattle.vx_plan_facts.specs.Equal.{Equality, equal_at}
use Rattle.vx_plan_facts.specs.Fixed.{fixed_at}
use Rattle.vx_plan_facts.specs.Determined.{Columns, determined}
use Rattle.vx_plan_facts.specs.DeterminedFacts.{ClaimedKeysHold}
use Rattle.vx_plan_facts.specs.Following.{order_follows}
use Rattle.vx_plan_facts.specs.FollowLaws.{Occurs}
use Rattle.vx_plan_facts.specs.RowFacts.{HasEqual, MeetsAt, EachMeets, all_inputs_fit}
use Rattle.vx_plan_facts.proofs.EachRow.{each-weaken, each-of-had}
use Rattle.vx_check_rules.specs.Rules.{has, part_gives, inputs_match, order_given, part_shown, order_shown, keys_of, unless_one, join_shows, routed_alike, alike_shows, through, left_columns, right_columns, semi_join_shows}
use Rattle.vx_check_rules.specs.Derived.{part_matches, routed_alike_equally, unary_meets_equally, routed_as, is_any, join_routed, part_derived, needed_follows, goes_on_derived, unary_order, binary_order, order_derived, allowed_derived, allowed_here_derived, inputs_match_derived, order_given_derived, semi_join_routed, is_total_derived, first_rows_known_derived}
use Rattle.vx_check_rules.specs.Claims.{PartOf, PartHolds, OrderHolds, Given}
use Rattle.vx_check_rules.proofs.Exact.{fits-exactly, parts-exactly}
use Rattle.vx_check_rules.proofs.Bools.{or-left, or-right, or-false}
use Rattle.vx_exec_laws.proofs.Bags.{and-left, and-right, total-joined, across-least}
use Rattle.vx_exec_laws.proofs.Parts.{or-cases, has-part, one-worker}
use Rattle.vx_exec_laws.proofs.Orders.{sorted-front}
use Rattle.vx_exec_laws.proofs.Keys.{covers-key}
use Rattle.vx_exec_laws.proofs.JoinOrder.{wide, all-append}
use Rattle.vx_exec_laws.proofs.Join.{join-left, join-right}
use Rattle.vx_exec_laws.proofs.Binary.{union-any}
use Rattle.vx_exec_laws.proofs.SemiJoin.{matched-whole}
use Rattle.vx_exec_laws.proofs.Exchange.{single-sorted}
use Rattle.vx_exec_laws.proofs.Concat.{exchange-sorted}
use Rattle.vx_exec_laws.proofs.Places.{part-placed, both-ordered}
use Rattle.vx_exec_laws.proofs.Operators.{keeps, by-limit, unary-order}
use Rattle.vx_exec_laws.proofs.OneInput.{Holding, HoldingAt, FitsStreams, unary-ready, made-part, scan-part, scan-order, some, exchange-made, concat-joined, concat-sorted, Told, first-rows}
use Rattle.vx_exec_laws.proofs.TwoInputs.{Both, both-have, binary-over, binary-serial, binary-part}
use Rattle.vx_exec_laws.proofs.DerivedPairs.{pairs-among, order-from}
use Rattle.vx_exec_laws.proofs.DerivedSerial.{KeysBelow, keys-with, serial-pairs}
use Rattle.vx_exec_laws.proofs.DerivedOpen.{derived-tests, Stems, gives-each, listed-each, part-each, PairsAt, stem-pairs}
use Rattle.vx_exec_laws.proofs.DerivedParts.{EqualIn, matches-part, matches-routed, meets-equally, routed-part, left-stems, right-stems, alike-equally, whole-stems, matched-alike-equally}
use Rattle.vx_exec_laws.proofs.OrderFacts.{front-self}
use Rattle.vx_exec_laws.proofs.DerivedOrders.{unary-given, ranged-equally}
use Rattle.vx_exec_laws.proofs.DerivedKeys.{keys-derived, keys-at}
use Rattle.vx_exec_laws.proofs.DerivedTotal.{order-tells-derived}

-- a row of a stream is one of all
stream-occurs : (n : ℕ) (s : Streams) (w : ℕ) → w < n → (row : Row) → Occurs row (s w) → Occurs row (joined n s)
stream-occurs n s w l row o =
    let a = total-joined (λ r. cond (row_eq row r) 1 0) n s in
    let b = across-least n (λ i. count (row_eq row) (s i)) w l in
    omega (arith, a, b, o)

-- where a part is shown at a node with two inputs, these match
shown-match : (catalog : ℕ → Relation) (k : ℕ) (c : Claim) (m : JoinMethod) (on : List (ℕ × ℕ)) (p q : Plan) → part_shown catalog (binary k c (join m on) p q) ≡ true
    → inputs_match (binary k c (join m on) p q) ≡ true
shown-match catalog k c m on p q h = ⊎_elim
    (λ o. or-left (is_one (size p)) (routed_alike on (claim p).part (claim q).part || has q all || has p all) o)
    (λ g. or-right (is_one (size p)) (routed_alike on (claim p).part (claim q).part || has q all || has p all) (by c.part g))
    (or-cases (is_one (size p)) (unless_one (join_shows on (width catalog p) p q) c.part) h)
  where
    A : Bool
    A = routed_alike on (claim p).part (claim q).part

    three : (x : Part) → join_shows on (width catalog p) p q x ≡ true → (A || has q all || has p all) ≡ true
    three x g = go A (has q all) (has p all) g
      where
        go : (a b d : Bool) → ((a && alike_shows (width catalog p) (claim p).part (claim q).part x) || (b && through (has p) (left_columns (width catalog p)) x) || (d && through (has q) (right_columns (width catalog p)) x)) ≡ true
            → (a || b || d) ≡ true
        go true b d g = refl
        go false true d g = refl
        go false false true g = refl
        go false false false g = absurd (true≢false (sym g))

    by : (x : Part) → unless_one (join_shows on (width catalog p) p q) x ≡ true → (A || has q all || has p all) ≡ true
    by one g = absurd (true≢false (sym g))
    by any g = three any g
    by all g = three all g
    by (routed r cols) g = three (routed r cols) g

semi-shown-match : (catalog : ℕ → Relation) (k : ℕ) (c : Claim) (matched : Bool) (on : List (ℕ × ℕ)) (conditions : List Condition) (p q : Plan)
    → part_shown catalog (binary k c (semi_join matched on conditions) p q) ≡ true → inputs_match (binary k c (semi_join matched on conditions) p q) ≡ true
semi-shown-match catalog k c matched on conditions p q h = ⊎_elim
    (λ o. or-left (is_one (size p)) (A || has q all) o)
    (λ g. or-right (is_one (size p)) (A || has q all) (by c.part g))
    (or-cases (is_one (size p)) (unless_one (semi_join_shows on p q) c.part) h)
  where
    A : Bool
    A = routed_alike on (claim p).part (claim q).part

    two : (x : Part) → semi_join_shows on p q x ≡ true → (A || has q all) ≡ true
    two x g = ⊎_elim
        (λ i. or-left A (has q all) (and-left A (part_gives (claim p).part x) i))
        (λ i. or-right A (has q all) (and-left (has q all) (has p x) i))
        (or-cases (A && part_gives (claim p).part x) (has q all && has p x) g)

    by : (x : Part) → unless_one (semi_join_shows on p q) x ≡ true → (A || has q all) ≡ true
    by one g = absurd (true≢false (sym g))
    by any g = two any g
    by all g = two all g
    by (routed r cols) g = two (routed r cols) g

-- a join of inputs that are routed alike has each row once
any-part : (goes : Routing) (n : ℕ) (out : Streams) (list : List Row) (x : Part) → is_any x ≡ true → SameRows (joined n out) list → PartHolds goes x n out list
any-part goes n out list one a h = absurd (true≢false (sym a))
any-part goes n out list any a h = h
any-part goes n out list all a h = absurd (true≢false (sym a))
any-part goes n out list (routed r cols) a h = absurd (true≢false (sym a))

module _ (catalog : ℕ → Relation) (db : ℕ → List Row) (sizes : ℕ → ℕ) (goes : Routing) (given : Given catalog db sizes goes) where
  -- a node's claim holds, and the claimed keys of it and of the nodes below it
  abbrev pub Sure : Plan → Streams → Type 0
  Sure p s = HoldingAt db sizes goes p s × ClaimedKeysHold db p

  -- the node is one of a plan that is allowed
  abbrev pub Allowed : Plan → Type 0
  Allowed p = (all_inputs_fit catalog p ≡ true) × (allowed_derived catalog p ≡ true) × (phased p ≡ true)

  equal-in : (p : Plan) (n : ℕ) (s : Streams) → ((w : ℕ) → w < n → EachMeets catalog p (s w)) → EqualIn (equal_at catalog p) n s
  equal-in p n s h w l = each-weaken (MeetsAt catalog p) (HasEqual (equal_at catalog p)) (λ row t. t.alike) (s w) (h w l)

  -- ---- the rows of a node of which the claim holds

  abbrev PairsOf : Plan → List Row → Type 0
  PairsOf p xs = PairsAt catalog db given.meets p xs

  part-pairs : (p : Plan) → Allowed p → ClaimedKeysHold db p → (base : List Row) → serial db (spoken p) ≡ rows base → (q : Part) (n : ℕ) (s : Streams)
      → PartOf goes q n s (λ xs. Gives p base xs) → PairsOf p (joined n s)
  part-pairs p ok keys base is q n s part =
      stem-pairs catalog db given.meets p ok.0 ok.1 ok.2 keys base is (joined n s) (part-each goes (Stems catalog p base) (λ xs. Gives p base xs) (gives-each catalog p base) q n s part)

  list-pairs : (p : Plan) → Allowed p → ClaimedKeysHold db p → (base : List Row) → serial db (spoken p) ≡ rows base → PairsOf p (listed p base)
  list-pairs p ok keys base is = stem-pairs catalog db given.meets p ok.0 ok.1 ok.2 keys base is (listed p base) (listed-each catalog p base)

  stream-pairs : (p : Plan) (n : ℕ) (s : Streams) → PairsOf p (joined n s) → (w : ℕ) → w < n → PairsOf p (s w)
  stream-pairs p n s h w l = pairs-among (width catalog p) (equal_at catalog p) (fixed_at catalog p) (determined catalog p) (s w) (joined n s) (stream-occurs n s w l) h

  follows : (p : Plan) (xs : List Row) → PairsOf p xs → (order asked : List OrderEntry) → order_follows (equal_at catalog p) (determined catalog p) order asked ≡ true → sorted order xs ≡ true → sorted asked xs ≡ true
  follows p xs h order asked t up = order-from (width catalog p) (equal_at catalog p) (fixed_at catalog p) (determined catalog p) xs h order asked t up

  -- keys hold first, and then orders, which follow by keys
  finish : (p : Plan) (out : Streams) → Allowed p → allowed_here_derived catalog p ≡ true → KeysBelow db p → (base : List Row) → serial db (spoken p) ≡ rows base
      → PartOf goes (claim p).part (workers sizes (size p)) out (λ xs. Gives p base xs) → ((x : List ℕ) → keys_of catalog p x ≡ true → HasKey x (listed p base))
      → (PairsOf p (joined (workers sizes (size p)) out) → PairsOf p (listed p base) → OrderHolds (claim p).order (workers sizes (size p)) out (listed p base))
      → Sure p out
  finish p out ok here below base is part keyed orders =
      let t = derived-tests catalog p here in
      let keys = keys-derived catalog db given.meets p ok.0 ok.1 ok.2 t.6 below base is keyed in
      let all_keys = keys-with db p (keys-at catalog db given.meets p ok.1 ok.2 base is keys) below in (
        record {
          base = base;
          is_serial = is;
          holds = record {
            part = part;
            order = orders (part-pairs p ok all_keys base is (claim p).part (workers sizes (size p)) out part) (list-pairs p ok all_keys base is);
            keys = keys;
          };
        },
        all_keys,
      )

  -- ---- scans

  pub scan-sure : (k : ℕ) (c : Claim) (r : ℕ) (m : Bool) (z : Size) (out : Streams) → Allowed (scan k c r m z) → Runs db sizes goes (scan k c r m z) out → Sure (scan k c r m z) out
  scan-sure k c r m z out ok run =
      let node : Plan = scan k c r m z in
      let t = derived-tests catalog node ok.1 in
      let in_order : PairsOf node (db r) → sorted c.order (db r) ≡ true = λ h. ⊎_elim
      (λ e. sorted-front c.order (catalog r).order e (db r) (given.meets r).order)
      (λ e. follows node (db r) h (catalog r).order c.order e (given.meets r).order)
      (or-cases (order_shown catalog node) (order_derived catalog node c.order) t.5) in
      finish node out ok ok.1 tt (db r) refl
      (made-part goes given.in_range (is_one z) (cond m any all) c.part (workers sizes z) out (λ xs. SameRows xs (db r)) (one-worker sizes z)
      (scan-part catalog db sizes goes given r m k c z out run)
      (sym (parts-exactly catalog node c.part refl) ∙ (sym (or-false (part_shown catalog node)) ∙ t.4)))
      (λ x g. covers-key (catalog r).keys x g (db r) (given.meets r).keys)
      (λ pairs list_pairs. (scan-order catalog db sizes goes given r m k c z out run c.order (in_order list_pairs), in_order list_pairs))

  -- ---- one input

  -- the order of a limit's input tells its rows apart
  told : (k : ℕ) (c : Claim) (op : Unary) (p : Plan) → first_rows_known_derived catalog (unary k c op p) ≡ true → Allowed p → well_formed catalog p ≡ true → ClaimedKeysHold db p → Told db op p
  told k c op p t ok wf keys = by-limit (λ op. first_rows_known_derived catalog (unary k c op p) ≡ true → Told db op p)
      (λ m t e. (
        and-left (is_one (size p)) (is_total_derived catalog p) t,
        λ xs is. order-tells-derived catalog db given.meets p xs wf ok.0 is keys (and-right (is_one (size p)) (is_total_derived catalog p) t),
      ))
      (λ op other t e. absurd (true≢false (sym e ∙ other))) op t

  -- the streams below an operator fit it
  pub fits-equally : (k : ℕ) (c : Claim) (op : Unary) (p : Plan) (s : Streams) → allowed_here_derived catalog (unary k c op p) ≡ true → Allowed p → well_formed catalog p ≡ true
      → phase_fits op p ≡ true → Sure p s → ((w : ℕ) → w < workers sizes (size p) → EachMeets catalog p (s w)) → FitsStreams catalog db sizes goes given op p s
  fits-equally k c op p s here ok wf fits sure meets_in =
      let node : Plan = unary k c op p in
      let n : ℕ = workers sizes (size p) in
      let e : Equality = equal_at catalog p in
      let ih = sure.0 in
      let t = derived-tests catalog node here in (
        ⊎_elim
            (λ h. inl (sym (fits-exactly catalog node) ∙ h))
            (λ h. let m = meets-equally goes e op (claim p).part n s (λ xs. Gives p ih.base xs) h (equal-in p n s meets_in) ih.holds.part in inr (m.0, or-right (is_one (size p)) (part_gives (claim p).part any) m.1))
            (or-cases (inputs_match node) (unary_meets_equally e op (claim p).part) t.2),
        first-rows catalog db sizes goes given op p s ok.2 fits ih (told k c op p t.7 ok wf sure.1),
      )

  pub unary-sure : (k : ℕ) (c : Claim) (op : Unary) (p : Plan) (s out : Streams) → Allowed (unary k c op p) → Allowed p → well_formed catalog p ≡ true → phase_fits op p ≡ true → Sure p s
      → ((w : ℕ) → w < workers sizes (size p) → EachMeets catalog p (s w)) → ((w : ℕ) → w < workers sizes (size p) → EachMeets catalog (unary k c op p) (out w))
      → ((w : ℕ) → w < workers sizes (size p) → unary_rows op (s w) ≡ Some (out w)) → Sure (unary k c op p) out
  unary-sure k c op p s out ok ok_p wf fits sure meets_in meets_out run =
      let node : Plan = unary k c op p in
      let here = and-right (allowed_derived catalog p) (allowed_here_derived catalog node) ok.1 in
      let t = derived-tests catalog node here in
      let ih = sure.0 in
      let n : ℕ = workers sizes (size p) in
      let e : Equality = equal_at catalog p in
      let det : Columns → Columns = determined catalog p in
      let in_equal : EqualIn e n s = equal-in p n s meets_in in
      let in_pairs : PairsOf p (joined n s) = part-pairs p ok_p sure.1 ih.base ih.is_serial (claim p).part n s ih.holds.part in
      let fit = fits-equally k c op p s here ok_p wf fits sure meets_in in
      let r = unary-ready catalog db sizes goes given k c op p s out ok_p.2 fits ih (λ xs. PairsOf p xs) (list-pairs p ok_p sure.1 ih.base ih.is_serial)
      (λ shut xs is. serial-pairs catalog db given.meets p ok_p.0 sure.1 xs is) fit run in
      finish node out ok here sure.1 r.base r.is_serial
      (⊎_elim
      (λ h. r.part c.part h)
      (λ h. routed-part goes (width catalog node) (described op).copying e (equal_at catalog node) (claim p).part c.part h n s out (λ xs. Gives p ih.base xs) (λ xs. Gives node r.base xs)
      in_equal (equal-in node n out meets_out) (λ i l cs ds src test a. (keeps op).stems cs ds src test (s i) (out i) (run i l) a) ih.holds.part
      (λ a. r.together (or-right (is_one (size p)) (part_gives (claim p).part any) a)))
      (or-cases (part_shown catalog node) (part_derived catalog node c.part) t.4))
      r.keyed
      (λ pairs pairs_of_list. ⊎_elim
      (λ h. let o = unary-order catalog k c op p c.order h in (
        (λ w l. (keeps op).ordered c.order o.0 (claim p).order o.1 o.2 (s w) (out w) (run w l) (ih.holds.order.0 w l)),
        r.ordered c.order o.0 (claim p).order o.1 o.2 r.list_sorted,
      ))
      (λ h.
      let order : List OrderEntry = unary_order (width catalog node) op e det (claim p).order in
      let g = unary-given (width catalog node) op e (fixed_at catalog p) det (claim p).order in (
        (λ w l. follows node (out w) (stream-pairs node n out pairs w l) order c.order h
            ((keeps op).ordered order g.sources_are g.under g.are_sources g.in_front (s w) (out w) (run w l)
            (g.in_order (width catalog p) (s w) (stream-pairs p n s in_pairs w l) (ih.holds.order.0 w l)))),
        follows node (listed node r.base) pairs_of_list order c.order h
            (r.ordered order g.sources_are g.under g.are_sources g.in_front (g.in_order (width catalog p) r.list r.list_is r.list_sorted)),
      ))
      (or-cases (order_shown catalog node) (order_derived catalog node c.order) t.5))

  -- ---- two inputs

  -- a part that only what is known of columns shows
  union-derived : (p q : Plan) (s t out : Streams) (base rbase : List Row) (both : Both catalog db sizes goes given p q s t base rbase) (x : Part)
      → (part_matches (equal_at catalog p) (claim p).part x && part_matches (equal_at catalog q) (claim q).part x) ≡ true
      → EqualIn (equal_at catalog p) (workers sizes (size p)) s → EqualIn (equal_at catalog q) (workers sizes (size p)) t
      → ((w : ℕ) → w < workers sizes (size p) → (s w ++ t w) ≡ out w) → PartHolds goes x (workers sizes (size p)) out (base ++ rbase)
  union-derived p q s t out base rbase both x h es et run =
      let n : ℕ = workers sizes (size p) in
      let e : Equality = equal_at catalog p in
      let f : Equality = equal_at catalog q in
      let hp = and-left (part_matches e (claim p).part x) (part_matches f (claim q).part x) h in
      let hq = and-right (part_matches e (claim p).part x) (part_matches f (claim q).part x) h in
      let left : PartHolds goes x n s base = matches-part goes e (claim p).part x n s (λ xs. SameRows xs base) hp es both.part in
      let right : PartHolds goes x n t rbase = matches-part goes f (claim q).part x n t (λ xs. SameRows xs rbase) hq et both.part_right in
      let r = matches-routed e (claim p).part x hp in
      let P : Part → Type 0 = λ y. PartHolds goes y n s base → PartHolds goes y n t rbase → PartHolds goes y n out (base ++ rbase) in
      subst P (sym r.2)
      (λ a b. (
        union-any n s t out base rbase run a.0 b.0,
        λ w l.
            let test : Row → Bool = λ row. goes r.0 (pick r.1 row) n == w in
            let Q : List Row → Type 0 = λ xs. list_all test xs ≡ true in
            subst Q (run w l) (all-append test (s w) (t w) (a.1 w l) (b.1 w l)),
      )) left right

  join-derived : (k : ℕ) (c : Claim) (m : JoinMethod) (on : List (ℕ × ℕ)) (p q : Plan) (s t out : Streams) (base rbase : List Row) (both : Both catalog db sizes goes given p q s t base rbase) (x : Part)
      → part_derived catalog (binary k c (join m on) p q) x ≡ true
      → EqualIn (equal_at catalog p) (workers sizes (size p)) s → EqualIn (equal_at catalog q) (workers sizes (size p)) t
      → EqualIn (equal_at catalog (binary k c (join m on) p q)) (workers sizes (size p)) out
      → ((w : ℕ) → w < workers sizes (size p) → join_rows on (s w) (t w) ≡ out w) → PartHolds goes x (workers sizes (size p)) out (join_rows on base rbase)
  join-derived k c m on p q s t out base rbase both x h es et eo run =
      let node : Plan = binary k c (join m on) p q in
      let n : ℕ = workers sizes (size p) in
      let v : ℕ = width catalog p in
      let w : ℕ = width catalog node in
      let e : Equality = equal_at catalog p in
      let f : Equality = equal_at catalog q in
      let g : Equality = equal_at catalog node in
      let alike : Bool = routed_alike_equally e f on (claim p).part (claim q).part in
      let to : List Row → Type 0 = λ xs. SameRows xs (join_rows on base rbase) in
      let met : alike ≡ true → to (joined n out) = λ a. alike-equally goes e f on (claim p).part (claim q).part n s t out base rbase a es et run both.part both.part_right in
      let as_left : Bool = routed_as w (left_of v) e g (claim p).part x in
      let as_right : Bool = routed_as w (right_of v) f g (claim q).part x in
      ⊎_elim
      (λ a. any-part goes n out (join_rows on base rbase) x (and-left (is_any x) alike a) (met (and-right (is_any x) alike a)))
      (λ a. ⊎_elim
      (λ b.
      let way_is = and-left (has q all || alike) as_left b in
      let as_is = and-right (has q all || alike) as_left b in
      routed-part goes w (left_of v) e g (claim p).part x as_is n s out (λ xs. SameRows xs base) to es eo
      (λ i l cs ds src test u. let P : List Row → Type 0 = λ xs. list_all (λ row. test (pick cs row)) xs ≡ true in subst P (run i l) (left-stems v on (s i) (t i) (both.all_wide i l) cs ds src test u))
      both.part
      (λ z. ⊎_elim
      (λ o. join-left on n s t out base rbase run (both.right all o) (both.left any (or-right (is_one (size p)) (part_gives (claim p).part any) z)))
      met (or-cases (has q all) alike way_is)))
      (λ b.
      let way_is = and-left (has p all || alike) as_right b in
      let as_is = and-right (has p all || alike) as_right b in
      routed-part goes w (right_of v) f g (claim q).part x as_is n t out (λ xs. SameRows xs rbase) to et eo
      (λ i l cs ds src test u. let P : List Row → Type 0 = λ xs. list_all (λ row. test (pick cs row)) xs ≡ true in subst P (run i l) (right-stems v on (s i) (t i) (both.all_wide i l) cs ds src test u))
      both.part_right
      (λ z. ⊎_elim
      (λ o. join-right on n s t out base rbase run (both.left all o) (both.right any (or-right (is_one (size q)) (part_gives (claim q).part any) z)))
      met (or-cases (has p all) alike way_is)))
      (or-cases ((has q all || alike) && as_left) ((has p all || alike) && as_right) a))
      (or-cases (is_any x && alike) (join_routed v w e f g on p q x) h)

  semi-join-derived : (k : ℕ) (c : Claim) (matched : Bool) (on : List (ℕ × ℕ)) (conditions : List Condition) (p q : Plan) (s t out : Streams) (base rbase : List Row)
      (both : Both catalog db sizes goes given p q s t base rbase) (x : Part) → part_derived catalog (binary k c (semi_join matched on conditions) p q) x ≡ true
      → EqualIn (equal_at catalog p) (workers sizes (size p)) s → EqualIn (equal_at catalog q) (workers sizes (size p)) t
      → EqualIn (equal_at catalog (binary k c (semi_join matched on conditions) p q)) (workers sizes (size p)) out
      → ((w : ℕ) → w < workers sizes (size p) → matched_rows matched on conditions (s w) (t w) ≡ out w)
      → PartHolds goes x (workers sizes (size p)) out (matched_rows matched on conditions base rbase)
  semi-join-derived k c matched on conditions p q s t out base rbase both x h es et eo run =
      let n : ℕ = workers sizes (size p) in
      let w : ℕ = width catalog p in
      let e : Equality = equal_at catalog p in
      let f : Equality = equal_at catalog q in
      let g : Equality = equal_at catalog (binary k c (semi_join matched on conditions) p q) in
      let alike : Bool = routed_alike_equally e f on (claim p).part (claim q).part in
      let to : List Row → Type 0 = λ xs. SameRows xs (matched_rows matched on conditions base rbase) in
      let met : alike ≡ true → to (joined n out)
      = λ a. matched-alike-equally goes e f matched on conditions (claim p).part (claim q).part n s t out base rbase a es et run both.part both.part_right in
      let as_left : Bool = routed_as w whole_rows e g (claim p).part x in
      ⊎_elim
      (λ a. any-part goes n out (matched_rows matched on conditions base rbase) x (and-left (is_any x) alike a) (met (and-right (is_any x) alike a)))
      (λ a.
      let way_is = and-left (has q all || alike) as_left a in
      let as_is = and-right (has q all || alike) as_left a in
      routed-part goes w whole_rows e g (claim p).part x as_is n s out (λ xs. SameRows xs base) to es eo
      (λ i l cs ds src test u.
      let P : List Row → Type 0 = λ xs. list_all (λ row. test (pick cs row)) xs ≡ true in
      subst P (run i l) (whole-stems matched on conditions (s i) (t i) cs ds src test u))
      both.part
      (λ z. ⊎_elim
      (λ o. matched-whole matched on conditions n s t out base rbase run (both.right all o) (both.left any (or-right (is_one (size p)) (part_gives (claim p).part any) z)))
      met (or-cases (has q all) alike way_is)))
      (or-cases (is_any x && alike) (semi_join_routed w e f g on p q x) h)

  pub binary-sure : (k : ℕ) (c : Claim) (op : Binary) (p q : Plan) (s t out : Streams) → Allowed (binary k c op p q) → well_formed catalog p ≡ true → names_columns (width catalog p) (claim p) ≡ true
      → (ih : Holding db sizes goes p s) → ClaimedKeysHold db p → (jh : Holding db sizes goes q t) → ClaimedKeysHold db q
      → ((w : ℕ) → w < workers sizes (size p) → EachMeets catalog p (s w)) → ((w : ℕ) → w < workers sizes (size p) → EachMeets catalog q (t w))
      → ((w : ℕ) → w < workers sizes (size p) → EachMeets catalog (binary k c op p q) (out w))
      → ((w : ℕ) → w < workers sizes (size p) → binary_rows op (s w) (t w) ≡ out w) → Sure (binary k c op p q) out
  binary-sure k c op p q s t out ok wf names ih keys jh keys_right meets_left meets_right meets_out run =
      let node : Plan = binary k c op p q in
      let here = and-right (allowed_derived catalog q) (allowed_here_derived catalog node) (and-right (allowed_derived catalog p) (allowed_derived catalog q && allowed_here_derived catalog node) ok.1) in
      let ts = derived-tests catalog node here in
      let n : ℕ = workers sizes (size p) in
      let both = both-have catalog db sizes goes given p q s t ih jh wf ts.0 in
      let made = binary-over catalog db sizes goes given k c op p q s t out ih jh names run both in
      let base : List Row = binary_rows op ih.base jh.base in
      let order : List OrderEntry = binary_order op (claim p).order in
      let ordered : (ls rs : List Row) → wide (width catalog p) ls ≡ true → sorted (claim p).order ls ≡ true → sorted order (binary_rows op ls rs) ≡ true
      = both-order op in
      finish node out ok here (keys, keys_right) base (binary-serial catalog db sizes goes given k c op p q s t ih jh)
      (⊎_elim
      (λ h. binary-part catalog db sizes goes given k c op p q s t out ih jh names run both made c.part (sym (parts-exactly catalog node c.part (matched op ts.2 h)) ∙ h))
      (λ h. derived op h (equal-in p n s meets_left) (equal-in q n t meets_right) (equal-in node n out meets_out) run both)
      (or-cases (part_shown catalog node) (part_derived catalog node c.part) ts.4))
      made.keyed
      (λ pairs pairs_of_list. ⊎_elim
      (λ h. (
        (λ w l. let P : List Row → Type 0 = λ xs. sorted c.order xs ≡ true in subst P (run w l) (both-ordered catalog k c op p q names h (s w) (t w) (both.all_wide w l) (ih.holds.order.0 w l))),
        both-ordered catalog k c op p q names h ih.base jh.base both.base_wide ih.holds.order.1,
      ))
      (λ h. (
        (λ w l. let P : List Row → Type 0 = λ xs. sorted order xs ≡ true in
            follows node (out w) (stream-pairs node n out pairs w l) order c.order (followed op h) (subst P (run w l) (ordered (s w) (t w) (both.all_wide w l) (ih.holds.order.0 w l)))),
        follows node base pairs_of_list order c.order (followed op h) (ordered ih.base jh.base both.base_wide ih.holds.order.1),
      ))
      (or-cases (order_shown catalog node) (order_derived catalog node c.order) ts.5))
    where
      with_order : List OrderEntry → Claim
      with_order order = record { part = c.part; order = order; keys = c.keys }

      both-order : (op : Binary) (ls rs : List Row) → wide (width catalog p) ls ≡ true → sorted (claim p).order ls ≡ true → sorted (binary_order op (claim p).order) (binary_rows op ls rs) ≡ true
      both-order union ls rs v u = both-ordered catalog k (with_order []) union p q names refl ls rs v u
      both-order (join m on) ls rs v u = both-ordered catalog k (with_order (claim p).order) (join m on) p q names (front-self (claim p).order) ls rs v u
      both-order (semi_join matched on conditions) ls rs v u =
          both-ordered catalog k (with_order (claim p).order) (semi_join matched on conditions) p q names (front-self (claim p).order) ls rs v u

      followed : (op : Binary) → order_derived catalog (binary k c op p q) c.order ≡ true
          → order_follows (equal_at catalog (binary k c op p q)) (determined catalog (binary k c op p q)) (binary_order op (claim p).order) c.order ≡ true
      followed op h = h

      matched : (op : Binary) → inputs_match_derived catalog (binary k c op p q) ≡ true → part_shown catalog (binary k c op p q) ≡ true → inputs_match (binary k c op p q) ≡ true
      matched union h g = sym (or-false (inputs_match (binary k c union p q))) ∙ h
      matched (join m on) h g = shown-match catalog k c m on p q g
      matched (semi_join keeps_matched on conditions) h g = semi-shown-match catalog k c keeps_matched on conditions p q g

      derived : (op : Binary) → part_derived catalog (binary k c op p q) c.part ≡ true
          → EqualIn (equal_at catalog p) (workers sizes (size p)) s → EqualIn (equal_at catalog q) (workers sizes (size p)) t → EqualIn (equal_at catalog (binary k c op p q)) (workers sizes (size p)) out
          → ((w : ℕ) → w < workers sizes (size p) → binary_rows op (s w) (t w) ≡ out w) → Both catalog db sizes goes given p q s t ih.base jh.base
          → PartHolds goes c.part (workers sizes (size p)) out (binary_rows op ih.base jh.base)
      derived union h es et eo run both = union-derived p q s t out ih.base jh.base both c.part h es et run
      derived (join m on) h es et eo run both = join-derived k c m on p q s t out ih.base jh.base both c.part h es et eo run
      derived (semi_join matched on conditions) h es et eo run both = semi-join-derived k c matched on conditions p q s t out ih.base jh.base both c.part h es et eo run

  -- ---- exchanges

  concat-equally : (kind : ExchangeKind) (merge : List OrderEntry) (p : Plan) (s : Streams) (ih : HoldingAt db sizes goes p s) (out : Streams)
      → Exchanges goes kind merge (workers sizes (size p)) (workers sizes (target kind)) s out → PairsOf p (joined (workers sizes (size p)) s)
      → goes_on_derived catalog kind p ≡ true → (w : ℕ) → w < workers sizes (target kind) → sorted (claim p).order (out w) ≡ true
  concat-equally (route_to z r cols) merge p s ih out x pairs e w l = absurd (true≢false (sym e))
  concat-equally (round z) merge p s ih out x pairs e w l = absurd (true≢false (sym e))
  concat-equally (broadcast z) merge p s ih out x pairs e w l = absurd (true≢false (sym e))
  concat-equally gather merge p s ih out x pairs e w l = absurd (true≢false (sym e))
  concat-equally concat merge p s ih out x pairs e w l =
      let m : ℕ = workers sizes (size p) in
      let P : List Row → Type 0 = λ xs. sorted (claim p).order xs ≡ true in
      subst P (concat-joined catalog db sizes goes given merge m 1 s out x w l)
      (ranged-equally goes given.rising (width catalog p) (equal_at catalog p) (fixed_at catalog p) (determined catalog p) (claim p).part (claim p).order m s e pairs ih.holds.order.0
      (λ i b. each-of-had (λ row. Occurs row (joined m s)) (s i) (λ row o. stream-occurs m s i b row (omega (arith, o))))
      (part-placed goes (claim p).part m s (λ xs. Gives p ih.base xs) ih.holds.part))

  -- rows that are sorted on the input's order are sorted as an exchange merges them
  merged-as : (k : ℕ) (c : Claim) (kind : ExchangeKind) (merge : List OrderEntry) (p : Plan) (xs : List Row) → order_given_derived catalog (exchange k c kind merge p) ≡ true → PairsOf p xs
      → sorted (claim p).order xs ≡ true → sorted merge xs ≡ true
  merged-as k c kind merge p xs t pairs up = ⊎_elim
      (λ h. sorted-front merge (claim p).order h xs up)
      (λ h. follows p xs pairs (claim p).order merge h up)
      (or-cases (order_given (exchange k c kind merge p)) (needed_follows catalog (exchange k c kind merge p)) t)

  -- and so are the streams below it
  pub streams-merged : (k : ℕ) (c : Claim) (kind : ExchangeKind) (merge : List OrderEntry) (p : Plan) (s : Streams) → allowed_here_derived catalog (exchange k c kind merge p) ≡ true → Allowed p → Sure p s
      → (w : ℕ) → w < workers sizes (size p) → sorted merge (s w) ≡ true
  streams-merged k c kind merge p s here ok_p sure w l =
      let ih = sure.0 in
      let m : ℕ = workers sizes (size p) in
      let in_pairs : PairsOf p (joined m s) = part-pairs p ok_p sure.1 ih.base ih.is_serial (claim p).part m s ih.holds.part in
      merged-as k c kind merge p (s w) (derived-tests catalog (exchange k c kind merge p) here).3 (stream-pairs p m s in_pairs w l) (ih.holds.order.0 w l)

  pub exchange-sure : (k : ℕ) (c : Claim) (kind : ExchangeKind) (merge : List OrderEntry) (p : Plan) (s out : Streams) → Allowed (exchange k c kind merge p) → Allowed p → Sure p s
      → ((w : ℕ) → w < workers sizes (target kind) → EachMeets catalog (exchange k c kind merge p) (out w))
      → Exchanges goes kind merge (workers sizes (size p)) (workers sizes (target kind)) s out → Sure (exchange k c kind merge p) out
  exchange-sure k c kind merge p s out ok ok_p sure meets_out x =
      let node : Plan = exchange k c kind merge p in
      let here = and-right (allowed_derived catalog p) (allowed_here_derived catalog node) ok.1 in
      let t = derived-tests catalog node here in
      let ih = sure.0 in
      let m : ℕ = workers sizes (size p) in
      let n : ℕ = workers sizes (target kind) in
      let list : List Row = listed p ih.base in
      let in_pairs : PairsOf p (joined m s) = part-pairs p ok_p sure.1 ih.base ih.is_serial (claim p).part m s ih.holds.part in
      let made = exchange-made catalog db sizes goes given kind merge p ih.base m s out
      (has-part goes given.in_range (is_one (size p)) (claim p).part any m s (λ xs. Gives p ih.base xs) (one-worker sizes (size p)) t.1 ih.holds.part) x in
      let merged : sorted merge list ≡ true = merged-as k c kind merge p list t.3 (list-pairs p ok_p sure.1 ih.base ih.is_serial) ih.holds.order.1 in
      let single : is_one (size p) ≡ true → (w : ℕ) → w < n → sorted (claim p).order (out w) ≡ true
      = λ o w l. single-sorted goes kind merge m n s out x (one-worker sizes (size p) o) (claim p).order (ih.holds.order.0 0 (some catalog db sizes goes given (size p))) w l in
      let there : Bool = is_one (size p) || goes_on_derived catalog kind p in
      let by_merge : Bool = order_follows (equal_at catalog node) (determined catalog node) merge c.order in
      let by_order : Bool = order_follows (equal_at catalog node) (determined catalog node) (claim p).order c.order in
      finish node out ok here sure.1 ih.base ih.is_serial
      (⊎_elim
      (λ h. made-part goes given.in_range (is_one (target kind)) (kind_part kind) c.part n out (λ xs. Gives p ih.base xs) (one-worker sizes (target kind)) made
      (sym (parts-exactly catalog node c.part refl) ∙ h))
      (λ h. matches-part goes (equal_at catalog p) (kind_part kind) c.part n out (λ xs. Gives p ih.base xs) h (equal-in node n out meets_out) made)
      (or-cases (part_shown catalog node) (part_derived catalog node c.part) t.4))
      (λ y e. covers-key (claim p).keys y e list ih.holds.keys)
      (λ pairs pairs_of_list. ⊎_elim
      (λ h. (
        (λ w l. exchange-sorted p kind merge c.order (out w) h (x.merged w l) (λ o. single o w l) (λ g. concat-sorted catalog db sizes goes given kind merge p s ih out x g w l)),
        exchange-sorted p kind merge c.order list h merged (λ o. ih.holds.order.1) (λ g. ih.holds.order.1),
      ))
      (λ h. (
        (λ w l. let here_pairs = stream-pairs node n out pairs w l in ⊎_elim
            (λ a. follows node (out w) here_pairs merge c.order a (x.merged w l))
            (λ a. follows node (out w) here_pairs (claim p).order c.order (and-right there by_order a)
            (⊎_elim (λ o. single o w l) (λ g. concat-equally kind merge p s ih out x in_pairs g w l) (or-cases (is_one (size p)) (goes_on_derived catalog kind p) (and-left there by_order a))))
            (or-cases by_merge (there && by_order) h)),
        ⊎_elim
            (λ a. follows node list pairs_of_list merge c.order a merged)
            (λ a. follows node list pairs_of_list (claim p).order c.order (and-right there by_order a) ih.holds.order.1)
            (or-cases by_merge (there && by_order) h),
      ))
      (or-cases (order_shown catalog node) (order_derived catalog node c.order) t.5))
