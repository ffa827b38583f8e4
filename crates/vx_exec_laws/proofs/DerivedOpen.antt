-- Where the rows of a node come from, closed or open, and that each two of them are such a pair.
use Rattle.std.proofs.Common.{◌≡◌, ℕ, ◌+◌, ◌<◌, ◌≤◌, Bool, true, false, cond, ◌||◌, List, [], ◌∷◌, ◌++◌, map, flat_map, length, length-append, refl, sym, ap, ◌∙◌, subst, arith, true≢false}
use Rattle.std.proofs.lemmas.List.{length-map}
use Rattle.std.specs.List.{list_all, list_any, AllByRecursion}
use Rattle.vx_rows_values.specs.Values.{Row, row_eq, value_at, pick}
use Rattle.vx_rows_values.specs.Order.{agree}
use Rattle.vx_rows_values.specs.Bags.{count, SameRows}
use Rattle.vx_rows_values.proofs.Compare.{row_eq-same, row_eq-refl}
use Rattle.vx_catalog_relations.specs.Relation.{Relation, Meets}
use Rattle.vx_plan_nodes.specs.Plan.{Part, one, any, all, routed, Unary, select, project, distinct, sort, group, plain, partial, final, Aggregate, Plan, scan, unary, binary, exchange, claim, limit}
use Rattle.vx_plan_nodes.specs.Types.{width}
use Rattle.vx_plan_nodes.specs.Phases.{is_open, phased, spoken, Gives, listed, is_row_of}
use Rattle.vx_plan_nodes.specs.Describe.{columns_kept, whole_rows}
use Rattle.vx_plan_nodes.specs.Serial.{rows, serial, aggregate_of}
use Rattle.vx_plan_nodes.specs.Streams.{Streams, joined}
use Rattle.vx_plan_nodes.specs.Routes.{Routing}
use Rattle.vx_plan_facts.specs.Equal.{equal_at}
use Rattle.vx_plan_facts.specs.Fixed.{fixed_at}
use Rattle.vx_plan_facts.specs.Determined.{Columns, by_input, determined, determined_aside}
use Rattle.vx_plan_facts.specs.DeterminedFacts.{ClaimedKeysHold}
use Rattle.vx_plan_facts.specs.Following.{set_of}
use Rattle.vx_plan_facts.specs.FollowLaws.{Occurs}
use Rattle.vx_plan_facts.specs.RowFacts.{all_inputs_fit}
use Rattle.vx_plan_facts.proofs.Columns.{HasCopies, whole-copies, kept-copies, kept-alone, equal-lifted, fixed-carried}
use Rattle.vx_plan_facts.proofs.EachRow.{each-map, each-firsts, each-sort, each-has, each-of-had, each-same, each-joined}
use Rattle.vx_check_rules.specs.Rules.{covers}
use Rattle.vx_check_rules.specs.Derived.{allowed_derived, allowed_here_derived, inputs_match_derived, order_given_derived, part_shown_derived, order_shown_derived, keys_shown_derived, key_derived, members, first_rows_known_derived}
use Rattle.vx_check_rules.specs.Rules.{sizes_match, not_replicated}
use Rattle.vx_check_rules.specs.Claims.{PartOf}
use Rattle.vx_exec_laws.proofs.Bags.{and-left, and-right, total-append, SameRows-sym}
use Rattle.vx_exec_laws.proofs.Opened.{closed-spoken}
use Rattle.vx_exec_laws.proofs.OneInput.{eight}
use Rattle.vx_exec_laws.proofs.DerivedPairs.{PairOf, Pairs, input-pair, closure-pair}
use Rattle.vx_exec_laws.proofs.DerivedSerial.{serial-pairs}

-- each test at a node
pub derived-tests : (catalog : ℕ → Relation) (p : Plan) → allowed_here_derived catalog p ≡ true
    → (sizes_match p ≡ true) × (not_replicated p ≡ true) × (inputs_match_derived catalog p ≡ true) × (order_given_derived catalog p ≡ true)
    × (part_shown_derived catalog p ≡ true) × (order_shown_derived catalog p ≡ true) × (keys_shown_derived catalog p ≡ true) × (first_rows_known_derived catalog p ≡ true)
derived-tests catalog p h =
    let t = eight (sizes_match p) (not_replicated p) (inputs_match_derived catalog p) (order_given_derived catalog p) (first_rows_known_derived catalog p) (part_shown_derived catalog p)
    (order_shown_derived catalog p) (keys_shown_derived catalog p) h in
    (t.0, t.1, t.2, t.3, t.5, t.6, t.7, t.4)

-- ---- where rows come from

-- a row of a closed node is one of its serial list; one of an open node has the values of a row of the input of its partial in the columns that are copied
abbrev pub UnaryStems : ℕ → Unary → Type 0 → List Row → Row → Type 0
UnaryStems w (group partial by aggregates) below base row = (x : Row) × Occurs x base × HasCopies (columns_kept by) x row × (length row ≤ w)
UnaryStems w (sort true order) below base row = below
UnaryStems w op below base row = Occurs row base

abbrev pub Stems : (ℕ → Relation) → Plan → List Row → Row → Type 0
Stems catalog (scan n c r m z) base row = Occurs row base
Stems catalog (unary n c op p) base row = UnaryStems (width catalog (unary n c op p)) op (Stems catalog p base row) base row
Stems catalog (binary n c op p q) base row = Occurs row base
Stems catalog (exchange n c k m p) base row = Stems catalog p base row

stems-occur : (catalog : ℕ → Relation) (p : Plan) → phased p ≡ true → is_open p ≡ false → (base : List Row) (row : Row) → Stems catalog p base row → Occurs row base
stems-occur catalog (scan n c r m z) fit e base row h = h
stems-occur catalog (unary n c (select fs) p) fit e base row h = h
stems-occur catalog (unary n c (project es) p) fit e base row h = h
stems-occur catalog (unary n c (distinct cols) p) fit e base row h = h
stems-occur catalog (unary n c (sort false order) p) fit e base row h = h
stems-occur catalog (unary n c (sort true order) p) fit e base row h = absurd (true≢false (sym (and-right (phased p) (is_open p) fit) ∙ e))
stems-occur catalog (unary n c (group plain by aggregates) p) fit e base row h = h
stems-occur catalog (unary n c (group partial by aggregates) p) fit e base row h = absurd (true≢false e)
stems-occur catalog (unary n c (group final by aggregates) p) fit e base row h = h
stems-occur catalog (unary n c (limit m) p) fit e base row h = h
stems-occur catalog (binary n c op p q) fit e base row h = h
stems-occur catalog (exchange n c k m p) fit e base row h = stems-occur catalog p fit e base row h

each-occurs : (xs : List Row) → AllByRecursion (λ row. Occurs row xs) xs
each-occurs xs = each-of-had (λ row. Occurs row xs) xs (λ row l. omega (arith, l))

same-each : (base xs : List Row) → SameRows xs base → AllByRecursion (λ row. Occurs row base) xs
same-each base xs s = each-same (λ row. Occurs row base) base xs (SameRows-sym s) (each-occurs base)

piece-stem : (w : ℕ) (by : List ℕ) (aggregates : List Aggregate) → length by + length aggregates ≤ w → (row : Row) (l base : List Row) → is_row_of by aggregates row l ≡ true
    → ((x : Row) → Occurs x l → Occurs x base) → (x : Row) × Occurs x base × HasCopies (columns_kept by) x row × (length row ≤ w)
piece-stem w by aggregates wide row [] base e among = absurd (true≢false (sym e))
piece-stem w by aggregates wide row (x ∷ xs) base e among =
    let tail : Row = map (λ a. aggregate_of a (x ∷ xs)) aggregates in
    let is : row ≡ pick by x ++ tail = row_eq-same row (pick by x ++ tail) (and-right (list_all (agree by x) xs) (row_eq row (pick by x ++ tail)) e) in
    let a : length (pick by x ++ tail) ≡ length (pick by x) + length tail = length-append (pick by x) tail in
    let b : length (pick by x) ≡ length by = length-map by (value_at x) in
    let d : length tail ≡ length aggregates = length-map aggregates (λ a. aggregate_of a (x ∷ xs)) in
    let g : length row ≡ length (pick by x ++ tail) = ap length is in
    let P : Row → Type 0 = λ r. HasCopies (columns_kept by) x r in
    let first : row_eq x x ≡ true = row_eq-refl x in
    (x, among x (here x xs (row_eq x x) first), subst P (sym is) (kept-copies by x tail), omega (arith, a, b, d, g, wide))
  where
    here : (x : Row) (xs : List Row) (k : Bool) → k ≡ true → 0 < cond k 1 0 + count (row_eq x) xs
    here x xs true h = omega arith
    here x xs false h = absurd (true≢false (sym h))

pieces-each : (w : ℕ) (by : List ℕ) (aggregates : List Aggregate) → length by + length aggregates ≤ w → (pieces : List (Row × List Row)) (base : List Row)
    → list_all (λ t. is_row_of by aggregates t.0 t.1) pieces ≡ true → ((x : Row) → Occurs x (flat_map (λ t. t.1) pieces) → Occurs x base)
    → AllByRecursion (λ row. (x : Row) × Occurs x base × HasCopies (columns_kept by) x row × (length row ≤ w)) (map (λ t. t.0) pieces)
pieces-each w by aggregates wide [] base e among = tt
pieces-each w by aggregates wide (t ∷ pieces) base e among =
    let rest : Bool = list_all (λ t. is_row_of by aggregates t.0 t.1) pieces in
    let parted : (x : Row) → count (row_eq x) (t.1 ++ flat_map (λ t. t.1) pieces) ≡ count (row_eq x) t.1 + count (row_eq x) (flat_map (λ t. t.1) pieces)
    = λ x. total-append (λ r. cond (row_eq x r) 1 0) t.1 (flat_map (λ t. t.1) pieces) in (
      piece-stem w by aggregates wide t.0 t.1 base (and-left (is_row_of by aggregates t.0 t.1) rest e) (λ x o. among x (let a = parted x in omega (arith, a, o))),
      pieces-each w by aggregates wide pieces base (and-right (is_row_of by aggregates t.0 t.1) rest e) (λ x o. among x (let a = parted x in omega (arith, a, o))),
    )

pub gives-each : (catalog : ℕ → Relation) (p : Plan) (base xs : List Row) → Gives p base xs → AllByRecursion (Stems catalog p base) xs
gives-each catalog (scan n c r m z) base xs h = same-each base xs h
gives-each catalog (unary n c (select fs) p) base xs h = same-each base xs h
gives-each catalog (unary n c (project es) p) base xs h = same-each base xs h
gives-each catalog (unary n c (distinct cols) p) base xs h = same-each base xs h
gives-each catalog (unary n c (sort false order) p) base xs h = same-each base xs h
gives-each catalog (unary n c (sort true order) p) base xs h = gives-each catalog p base xs h
gives-each catalog (unary n c (group plain by aggregates) p) base xs h = same-each base xs h
gives-each catalog (unary n c (group partial by aggregates) p) base xs h =
    let S : Row → Type 0 = λ row. (x : Row) × Occurs x base × HasCopies (columns_kept by) x row × (length row ≤ length by + length aggregates) in
    let w : ℕ = length by + length aggregates in
    subst (AllByRecursion S) h.rows_are
    (pieces-each w by aggregates (omega arith) h.pieces base h.each (λ x o. let a : count (row_eq x) (flat_map (λ t. t.1) h.pieces) ≡ count (row_eq x) base = h.whole.totals (λ r. cond (row_eq x r) 1 0) in omega (arith, a, o)))
gives-each catalog (unary n c (group final by aggregates) p) base xs h = same-each base xs h
gives-each catalog (unary n c (limit m) p) base xs h = same-each base xs h
gives-each catalog (binary n c op p q) base xs h = same-each base xs h
gives-each catalog (exchange n c k m p) base xs h = gives-each catalog p base xs h

pub listed-each : (catalog : ℕ → Relation) (p : Plan) (base : List Row) → AllByRecursion (Stems catalog p base) (listed p base)
listed-each catalog (scan n c r m z) base = each-occurs base
listed-each catalog (unary n c (select fs) p) base = each-occurs base
listed-each catalog (unary n c (project es) p) base = each-occurs base
listed-each catalog (unary n c (distinct cols) p) base = each-occurs base
listed-each catalog (unary n c (sort false order) p) base = each-occurs base
listed-each catalog (unary n c (sort true order) p) base = each-sort (Stems catalog p base) order (listed p base) (listed-each catalog p base)
listed-each catalog (unary n c (group plain by aggregates) p) base = each-occurs base
listed-each catalog (unary n c (group partial by aggregates) p) base =
    let S : Row → Type 0 = λ row. (x : Row) × Occurs x base × HasCopies (columns_kept by) x row × (length row ≤ length by + length aggregates) in
    each-firsts S (map (pick by) base)
    (each-map (λ row. Occurs row base) S (pick by)
    (λ x o. (x, o, kept-alone by x, (let b : length (pick by x) ≡ length by = length-map by (value_at x) in omega (arith, b)))) base (each-occurs base))
listed-each catalog (unary n c (group final by aggregates) p) base = each-occurs base
listed-each catalog (unary n c (limit m) p) base = each-occurs base
listed-each catalog (binary n c op p q) base = each-occurs base
listed-each catalog (exchange n c k m p) base = listed-each catalog p base

-- what holds of the rows of each list that stands for the serial rows holds of the rows of all streams
pub part-each : (goes : Routing) (P : Row → Type 0) (stands : List Row → Type 0) → ((xs : List Row) → stands xs → AllByRecursion P xs)
    → (q : Part) (n : ℕ) (s : Streams) → PartOf goes q n s stands → AllByRecursion P (joined n s)
part-each goes P stands each one n s h = each (joined n s) h.1
part-each goes P stands each any n s h = each (joined n s) h
part-each goes P stands each all n s h = each-joined P n s (λ w l. each (s w) (h w l))
part-each goes P stands each (routed r cols) n s h = each (joined n s) h.0

-- ---- open nodes claim no keys

none-pass : {X : Type 0} (f : X → Bool) (xs : List X) → ((x : X) → f x ≡ false) → list_all f xs ≡ true → xs ≡ []
none-pass f [] never h = refl
none-pass f (x ∷ xs) never h = absurd (true≢false (sym (and-left (f x) (list_all f xs) h) ∙ never x))

pub open-keys : (catalog : ℕ → Relation) (p : Plan) → allowed_derived catalog p ≡ true → is_open p ≡ true → (claim p).keys ≡ []
open-keys catalog (scan n c r m z) ok e = absurd (true≢false (sym e))
open-keys catalog (unary n c (select fs) p) ok e = absurd (true≢false (sym e))
open-keys catalog (unary n c (project es) p) ok e = absurd (true≢false (sym e))
open-keys catalog (unary n c (distinct cols) p) ok e = absurd (true≢false (sym e))
open-keys catalog (unary n c (sort false order) p) ok e = absurd (true≢false (sym e))
open-keys catalog (unary n c (sort true order) p) ok e =
    let t = derived-tests catalog (unary n c (sort true order) p) (and-right (allowed_derived catalog p) (allowed_here_derived catalog (unary n c (sort true order) p)) ok) in
    none-pass (key_derived catalog (unary n c (sort true order) p)) c.keys (λ k. refl) t.6
open-keys catalog (unary n c (group plain by aggregates) p) ok e = absurd (true≢false (sym e))
open-keys catalog (unary n c (group partial by aggregates) p) ok e =
    let node : Plan = unary n c (group partial by aggregates) p in
    let t = derived-tests catalog node (and-right (allowed_derived catalog p) (allowed_here_derived catalog node) ok) in
    none-pass (key_derived catalog node) c.keys (λ k. refl) t.6
open-keys catalog (unary n c (group final by aggregates) p) ok e = absurd (true≢false (sym e))
open-keys catalog (unary n c (limit m) p) ok e = absurd (true≢false (sym e))
open-keys catalog (binary n c op p q) ok e = absurd (true≢false (sym e))
open-keys catalog (exchange n c k m p) ok e =
    let node : Plan = exchange n c k m p in
    let t = derived-tests catalog node (and-right (allowed_derived catalog p) (allowed_here_derived catalog node) ok) in
    let none = open-keys catalog p (and-left (allowed_derived catalog p) (allowed_here_derived catalog node) ok) e in
    none-pass (key_derived catalog node) c.keys
    (λ x. ap (λ keys. covers keys x || (covers keys (members (width catalog p) (determined_aside catalog node (set_of x))) || false)) none) t.6

-- ---- pairs

module _ (catalog : ℕ → Relation) (db : ℕ → List Row) (meets : (r : ℕ) → Meets (catalog r) (db r)) where
  abbrev pub PairAt : Plan → Row → Row → Type 0
  PairAt p a b = PairOf (width catalog p) (equal_at catalog p) (fixed_at catalog p) (determined catalog p) a b

  keyless : (keys : List (List ℕ)) → keys ≡ [] → (t : Columns) (a b : Row) → list_any (list_all t) keys ≡ true → a ≡ b
  keyless keys none t a b h = let P : List (List ℕ) → Type 0 = λ v. list_any (list_all t) v ≡ true in absurd (true≢false (sym (subst P none h)))

  open-pair : (p : Plan) → all_inputs_fit catalog p ≡ true → allowed_derived catalog p ≡ true → is_open p ≡ true → ClaimedKeysHold db p
      → (base : List Row) → serial db (spoken p) ≡ rows base → (a b : Row) → Stems catalog p base a → Stems catalog p base b → PairAt p a b
  open-pair (scan n c r m z) fit ok e keys base is a b sa sb = absurd (true≢false (sym e))
  open-pair (unary n c (select fs) p) fit ok e keys base is a b sa sb = absurd (true≢false (sym e))
  open-pair (unary n c (project es) p) fit ok e keys base is a b sa sb = absurd (true≢false (sym e))
  open-pair (unary n c (distinct cols) p) fit ok e keys base is a b sa sb = absurd (true≢false (sym e))
  open-pair (unary n c (sort false order) p) fit ok e keys base is a b sa sb = absurd (true≢false (sym e))
  open-pair (unary n c (sort true order) p) fit ok e keys base is a b sa sb =
      let node : Plan = unary n c (sort true order) p in
      let k = open-pair p fit (and-left (allowed_derived catalog p) (allowed_here_derived catalog node) ok) e keys.1 base is a b sa sb in
      let w : ℕ = width catalog p in
      let ea = equal-lifted whole_rows (equal_at catalog p) a a (whole-copies a) k.equal_left in
      let eb = equal-lifted whole_rows (equal_at catalog p) b b (whole-copies b) k.equal_right in
      let fa = fixed-carried whole_rows (fixed_at catalog p) a a (whole-copies a) k.fixed_left in
      let fb = fixed-carried whole_rows (fixed_at catalog p) b b (whole-copies b) k.fixed_right in
      record {
        short_left = k.short_left;
        short_right = k.short_right;
        equal_left = ea;
        equal_right = eb;
        fixed_left = fa;
        fixed_right = fb;
        agree = closure-pair w (equal_at catalog node) (fixed_at catalog node) c.keys (by_input w whole_rows (determined catalog p)) a b ea eb fa fb
            (λ t g l. keyless c.keys (open-keys catalog node ok e) t a b l)
            (input-pair w whole_rows (determined catalog p) a b a b (whole-copies a) (whole-copies b) k.agree);
      }
  open-pair (unary n c (group plain by aggregates) p) fit ok e keys base is a b sa sb = absurd (true≢false (sym e))
  open-pair (unary n c (group partial by aggregates) p) fit ok e keys base is a b sa sb =
      let node : Plan = unary n c (group partial by aggregates) p in
      let k = serial-pairs catalog db meets p fit keys.1 base is sa.0 sb.0 sa.1 sb.1 in
      let w : ℕ = length by + length aggregates in
      let ea = equal-lifted (columns_kept by) (equal_at catalog p) sa.0 a sa.2 k.equal_left in
      let eb = equal-lifted (columns_kept by) (equal_at catalog p) sb.0 b sb.2 k.equal_right in
      let fa = fixed-carried (columns_kept by) (fixed_at catalog p) sa.0 a sa.2 k.fixed_left in
      let fb = fixed-carried (columns_kept by) (fixed_at catalog p) sb.0 b sb.2 k.fixed_right in
      record {
        short_left = sa.3;
        short_right = sb.3;
        equal_left = ea;
        equal_right = eb;
        fixed_left = fa;
        fixed_right = fb;
        agree = closure-pair w (equal_at catalog node) (fixed_at catalog node) c.keys (by_input w (columns_kept by) (determined catalog p)) a b ea eb fa fb
            (λ t g l. keyless c.keys (open-keys catalog node ok e) t a b l)
            (input-pair w (columns_kept by) (determined catalog p) a b sa.0 sb.0 sa.2 sb.2 k.agree);
      }
  open-pair (unary n c (group final by aggregates) p) fit ok e keys base is a b sa sb = absurd (true≢false (sym e))
  open-pair (unary n c (limit m) p) fit ok e keys base is a b sa sb = absurd (true≢false (sym e))
  open-pair (binary n c op p q) fit ok e keys base is a b sa sb = absurd (true≢false (sym e))
  open-pair (exchange n c kind m p) fit ok e keys base is a b sa sb =
      let node : Plan = exchange n c kind m p in
      let k = open-pair p fit (and-left (allowed_derived catalog p) (allowed_here_derived catalog node) ok) e keys.1 base is a b sa sb in
      let w : ℕ = width catalog p in
      record {
        short_left = k.short_left;
        short_right = k.short_right;
        equal_left = k.equal_left;
        equal_right = k.equal_right;
        fixed_left = k.fixed_left;
        fixed_right = k.fixed_right;
        agree = closure-pair w (equal_at catalog p) (fixed_at catalog p) c.keys (by_input w whole_rows (determined catalog p)) a b
            k.equal_left k.equal_right k.fixed_left k.fixed_right
            (λ t g l. keyless c.keys (open-keys catalog node ok e) t a b l)
            (input-pair w whole_rows (determined catalog p) a b a b (whole-copies a) (whole-copies b) k.agree);
      }

  -- rows of a node, closed or open
  abbrev pub PairsAt : Plan → List Row → Type 0
  PairsAt p xs = Pairs (width catalog p) (equal_at catalog p) (fixed_at catalog p) (determined catalog p) xs

  pub stem-pairs : (p : Plan) → all_inputs_fit catalog p ≡ true → allowed_derived catalog p ≡ true → phased p ≡ true → ClaimedKeysHold db p
      → (base : List Row) → serial db (spoken p) ≡ rows base → (xs : List Row) → AllByRecursion (Stems catalog p base) xs → PairsAt p xs
  stem-pairs p fit ok ph keys base is xs each a b oa ob =
      let sa = each-has (Stems catalog p base) a xs each oa in
      let sb = each-has (Stems catalog p base) b xs each ob in
      by (is_open p) refl sa sb
    where
      by : (o : Bool) → is_open p ≡ o → Stems catalog p base a → Stems catalog p base b → PairAt p a b
      by true e sa sb = open-pair p fit ok e keys base is a b sa sb
      by false e sa sb =
          serial-pairs catalog db meets p fit keys base (sym (closed-spoken db p ph e) ∙ is) a b (stems-occur catalog p ph e base a sa) (stems-occur catalog p ph e base b sb)
