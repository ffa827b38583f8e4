-- Parts up to equal columns: rows that are routed on columns are routed on equal ones, and on those that stand for them in an output.
use Rattle.std.proofs.Common.{◌≡◌, ⊎_elim, ℕ, ◌<◌, ◌==◌, Bool, true, ◌&&◌, List, [], ◌∷◌, length, refl, sym, ap, ap₂, ◌∙◌, subst, true≢false, eq-eqb, eqb-true, Option, Some, None}
use Rattle.std.specs.List.{list_all, list_any, AllByRecursion}
use Rattle.vx_rows_values.specs.Values.{Row, pick}
use Rattle.vx_rows_values.specs.Bags.{SameRows}
use Rattle.vx_plan_nodes.specs.Plan.{Route, Part, one, any, all, routed, Unary, select, project, distinct, sort, group, plain, partial, final, limit, Condition}
use Rattle.vx_plan_nodes.specs.Describe.{Copying, source, left_of, right_of, described, whole_rows}
use Rattle.vx_plan_nodes.specs.Serial.{join_rows, matched_rows}
use Rattle.vx_plan_nodes.specs.Streams.{Streams, joined}
use Rattle.vx_plan_nodes.specs.Routes.{Routing}
use Rattle.vx_plan_facts.specs.Equal.{Equality}
use Rattle.vx_plan_facts.specs.Determined.{column_in}
use Rattle.vx_plan_facts.specs.Following.{equal_lists}
use Rattle.vx_plan_facts.specs.RowFacts.{HasEqual}
use Rattle.vx_plan_facts.proofs.Tests.{any-first}
use Rattle.vx_check_rules.specs.Rules.{route_eq, contains, within, cons_both, has_pair, all_pairs, part_gives}
use Rattle.vx_check_rules.specs.Behaviour.{sources}
use Rattle.vx_check_rules.specs.Derived.{part_matches, within_equally, routed_within_equally, has_pair_equally, all_pairs_equally, routed_alike_equally, unary_meets_equally, stands_for, stand_for, routed_as}
use Rattle.vx_check_rules.specs.Claims.{PartOf, PartHolds, InItsStream}
use Rattle.vx_check_rules.proofs.Exact.{sources-left, sources-right}
use Rattle.vx_check_rules.proofs.Bools.{or-left, or-right}
use Rattle.vx_exec_laws.proofs.Bags.{and-left, and-right, and-both}
use Rattle.vx_exec_laws.proofs.Parts.{or-cases, route_eq-is, list_all-always}
use Rattle.vx_exec_laws.proofs.Join.{pick-left, pick-minus, join-alike}
use Rattle.vx_exec_laws.proofs.JoinOrder.{wide, join-all, all-and}
use Rattle.vx_exec_laws.proofs.Binary.{right_columns-is, left_columns-is}
use Rattle.vx_exec_laws.proofs.SemiJoin.{matched-all, matched-alike}
use Rattle.vx_exec_laws.proofs.Operators.{Meets, same-columns}
use Rattle.vx_exec_laws.proofs.DerivedPairs.{equal-picks}

-- ---- rows with equal columns

each-test : (P : Row → Type 0) (p q : Row → Bool) → ((row : Row) → P row → p row ≡ true → q row ≡ true) → (xs : List Row) → AllByRecursion P xs → list_all p xs ≡ true → list_all q xs ≡ true
each-test P p q f [] h t = refl
each-test P p q f (x ∷ xs) h t = and-both (q x) (list_all q xs) (f x h.0 (and-left (p x) (list_all p xs) t)) (each-test P p q f xs h.1 (and-right (p x) (list_all p xs) t))

-- what is tested of these columns is tested of equal ones
test-equal : (e : Equality) (cs ds : List ℕ) → equal_lists e cs ds ≡ true → (test : Row → Bool) (xs : List Row) → AllByRecursion (HasEqual e) xs
    → list_all (λ row. test (pick cs row)) xs ≡ true → list_all (λ row. test (pick ds row)) xs ≡ true
test-equal e cs ds same test xs h t =
    each-test (HasEqual e) (λ row. test (pick cs row)) (λ row. test (pick ds row)) (λ row k u. ap test (sym (equal-picks e row k cs ds same)) ∙ u) xs h t

test-equal-back : (e : Equality) (cs ds : List ℕ) → equal_lists e cs ds ≡ true → (test : Row → Bool) (xs : List Row) → AllByRecursion (HasEqual e) xs
    → list_all (λ row. test (pick ds row)) xs ≡ true → list_all (λ row. test (pick cs row)) xs ≡ true
test-equal-back e cs ds same test xs h t =
    each-test (HasEqual e) (λ row. test (pick ds row)) (λ row. test (pick cs row)) (λ row k u. ap test (equal-picks e row k cs ds same) ∙ u) xs h t

-- each row of each stream has equal values in equal columns
abbrev pub EqualIn : Equality → ℕ → Streams → Type 0
EqualIn e n s = (w : ℕ) → w < n → AllByRecursion (HasEqual e) (s w)

pub matches-part : (goes : Routing) (e : Equality) (q x : Part) (n : ℕ) (s : Streams) (stands : List Row → Type 0) → part_matches e q x ≡ true → EqualIn e n s
    → PartOf goes q n s stands → PartOf goes x n s stands
matches-part goes e one x n s stands t h p = absurd (true≢false (sym t))
matches-part goes e any x n s stands t h p = absurd (true≢false (sym t))
matches-part goes e all x n s stands t h p = absurd (true≢false (sym t))
matches-part goes e (routed r cols) one n s stands t h p = absurd (true≢false (sym t))
matches-part goes e (routed r cols) any n s stands t h p = absurd (true≢false (sym t))
matches-part goes e (routed r cols) all n s stands t h p = absurd (true≢false (sym t))
matches-part goes e (routed r cols) (routed u ds) n s stands t h p =
    let a : r ≡ u = route_eq-is r u (and-left (route_eq r u) (equal_lists e cols ds) t) in
    let R : Route → Type 0 = λ v. (w : ℕ) → w < n → list_all (λ row. goes v (pick ds row) n == w) (s w) ≡ true in
    (p.0, subst R a (λ w l. test-equal e cols ds (and-right (route_eq r u) (equal_lists e cols ds) t) (λ key. goes r key n == w) (s w) (h w l) (p.1 w l)))

-- only a routed part is given so
pub matches-routed : (e : Equality) (q x : Part) → part_matches e q x ≡ true → (r : Route) × (ds : List ℕ) × (x ≡ routed r ds) × (part_gives q any ≡ true)
matches-routed e one x t = absurd (true≢false (sym t))
matches-routed e any x t = absurd (true≢false (sym t))
matches-routed e all x t = absurd (true≢false (sym t))
matches-routed e (routed r cols) one t = absurd (true≢false (sym t))
matches-routed e (routed r cols) any t = absurd (true≢false (sym t))
matches-routed e (routed r cols) all t = absurd (true≢false (sym t))
matches-routed e (routed r cols) (routed u ds) t = (u, ds, refl, refl)

-- ---- K4: rows that agree in kept columns agree in columns that are equal to some of these

any-witness : (f : ℕ → Bool) (xs : List ℕ) → list_any f xs ≡ true → (d : ℕ) × (contains xs d ≡ true) × (f d ≡ true)
any-witness f [] t = absurd (true≢false (sym t))
any-witness f (x ∷ xs) t = ⊎_elim
    (λ h. (x, or-left (x == x) (contains xs x) (eq-eqb x x refl), h))
    (λ h. let k = any-witness f xs h in (k.0, or-right (k.0 == x) (contains xs k.0) k.1, k.2))
    (or-cases (f x) (list_any f xs) t)

pub within-equal : (e : Equality) (cols kept : List ℕ) → within_equally e cols kept ≡ true → (cs : List ℕ) × (within cs kept ≡ true) × (equal_lists e cols cs ≡ true)
within-equal e [] kept t = ([], refl, refl)
within-equal e (c ∷ cols) kept t =
    let k = any-witness (e c) kept (and-left (list_any (e c) kept) (within_equally e cols kept) t) in
    let rest = within-equal e cols kept (and-right (list_any (e c) kept) (within_equally e cols kept) t) in
    (k.0 ∷ rest.0, and-both (contains kept k.0) (within rest.0 kept) k.1 rest.1, and-both (e c k.0) (equal_lists e cols rest.0) k.2 rest.2)

routed-meets : (goes : Routing) (e : Equality) (cols : List ℕ) (q : Part) (n : ℕ) (s : Streams) (stands : List Row → Type 0) → routed_within_equally e q cols ≡ true → EqualIn e n s
    → PartOf goes q n s stands → Meets goes (Some cols) n s × (part_gives q any ≡ true)
routed-meets goes e cols one n s stands t h p = absurd (true≢false (sym t))
routed-meets goes e cols any n s stands t h p = absurd (true≢false (sym t))
routed-meets goes e cols all n s stands t h p = absurd (true≢false (sym t))
routed-meets goes e cols (routed r cs) n s stands t h p =
    let k = within-equal e cs cols t in
    ((r, k.0, k.1, λ w l. test-equal e cs k.0 k.2 (λ key. goes r key n == w) (s w) (h w l) (p.1 w l)), refl)

pub meets-equally : (goes : Routing) (e : Equality) (op : Unary) (q : Part) (n : ℕ) (s : Streams) (stands : List Row → Type 0) → unary_meets_equally e op q ≡ true → EqualIn e n s
    → PartOf goes q n s stands → Meets goes (described op).meets n s × (part_gives q any ≡ true)
meets-equally goes e (select fs) q n s stands t h p = absurd (true≢false (sym t))
meets-equally goes e (project es) q n s stands t h p = absurd (true≢false (sym t))
meets-equally goes e (distinct cols) q n s stands t h p = routed-meets goes e cols q n s stands t h p
meets-equally goes e (sort of_parts order) q n s stands t h p = absurd (true≢false (sym t))
meets-equally goes e (group plain by aggregates) q n s stands t h p = routed-meets goes e by q n s stands t h p
meets-equally goes e (group partial by aggregates) q n s stands t h p = absurd (true≢false (sym t))
meets-equally goes e (limit m) q n s stands t h p = absurd (true≢false (sym t))
meets-equally goes e (group final by aggregates) q n s stands t h p = routed-meets goes e by q n s stands t h p

-- ---- K3: columns that stand for others

pub column-is : (e : Equality) (x : ℕ) (o : Option ℕ) → column_in (λ y. e y x) o ≡ true → (y : ℕ) × (o ≡ Some y) × (e y x ≡ true)
column-is e x None t = absurd (true≢false (sym t))
column-is e x (Some y) t = (y, refl, t)

pub sources-cons : (k : Copying) (d : ℕ) (ds : List ℕ) (y : ℕ) (ys : List ℕ) → source k d ≡ Some y → sources k ds ≡ Some ys → sources k (d ∷ ds) ≡ Some (y ∷ ys)
sources-cons k d ds y ys a b = ap₂ cons_both a b

-- columns that stand: their copies at the input are equal to those that are stood for
pub stand-columns : (w : ℕ) (k : Copying) (e f : Equality) (cols xs : List ℕ) → stand_for w k e f cols xs ≡ true
    → (ds ys : List ℕ) × (sources k ds ≡ Some ys) × (equal_lists f ds cols ≡ true) × (equal_lists e ys xs ≡ true)
stand-columns w k e f [] [] t = ([], [], refl, refl, refl)
stand-columns w k e f [] (x ∷ xs) t = absurd (true≢false (sym t))
stand-columns w k e f (c ∷ cols) [] t = absurd (true≢false (sym t))
stand-columns w k e f (c ∷ cols) (x ∷ xs) t =
    let one_is = any-first (λ d. f d c && column_in (λ y. e y x) (source k d)) w (and-left (stands_for w k e f c x) (stand_for w k e f cols xs) t) in
    let d : ℕ = one_is.0 in
    let y = column-is e x (source k d) (and-right (f d c) (column_in (λ y. e y x) (source k d)) one_is.2) in
    let rest = stand-columns w k e f cols xs (and-right (stands_for w k e f c x) (stand_for w k e f cols xs) t) in (
      d ∷ rest.0,
      y.0 ∷ rest.1,
      sources-cons k d rest.0 y.0 rest.1 y.1 rest.2,
      and-both (f d c) (equal_lists f rest.0 cols) (and-left (f d c) (column_in (λ y. e y x) (source k d)) one_is.2) rest.3,
      and-both (e y.0 x) (equal_lists e rest.1 xs) y.2 rest.4,
    )

-- what is tested of an input's rows is tested of an output's, on the columns that are copied
abbrev pub StemsFrom : Copying → List Row → List Row → Type 0
StemsFrom k xs ys = (cs ds : List ℕ) → sources k cs ≡ Some ds → (test : Row → Bool) → list_all (λ row. test (pick ds row)) xs ≡ true → list_all (λ row. test (pick cs row)) ys ≡ true

pub routed-part : (goes : Routing) (w : ℕ) (k : Copying) (e f : Equality) (q x : Part) → routed_as w k e f q x ≡ true
    → (n : ℕ) (s out : Streams) (from to : List Row → Type 0) → EqualIn e n s → EqualIn f n out → ((i : ℕ) → i < n → StemsFrom k (s i) (out i))
    → PartOf goes q n s from → (part_gives q any ≡ true → to (joined n out)) → PartOf goes x n out to
routed-part goes w k e f one x t n s out from to he hf stems p h = absurd (true≢false (sym t))
routed-part goes w k e f any x t n s out from to he hf stems p h = absurd (true≢false (sym t))
routed-part goes w k e f all x t n s out from to he hf stems p h = absurd (true≢false (sym t))
routed-part goes w k e f (routed r xs) one t n s out from to he hf stems p h = absurd (true≢false (sym t))
routed-part goes w k e f (routed r xs) any t n s out from to he hf stems p h = absurd (true≢false (sym t))
routed-part goes w k e f (routed r xs) all t n s out from to he hf stems p h = absurd (true≢false (sym t))
routed-part goes w k e f (routed r xs) (routed u cols) t n s out from to he hf stems p h =
    let a : r ≡ u = route_eq-is r u (and-left (route_eq r u) (stand_for w k e f cols xs) t) in
    let R : Route → Type 0 = λ v. (i : ℕ) → i < n → list_all (λ row. goes v (pick cols row) n == i) (out i) ≡ true in
    let st = stand-columns w k e f cols xs (and-right (route_eq r u) (stand_for w k e f cols xs) t) in (
      h refl,
      subst R a (λ i l.
          test-equal f st.0 cols st.3 (λ key. goes r key n == i) (out i) (hf i l)
          (stems i l st.0 st.1 st.2 (λ key. goes r key n == i) (test-equal-back e st.1 xs st.4 (λ key. goes r key n == i) (s i) (he i l) (p.1 i l)))),
    )

-- a routed part gives any
pub routed-as-any : (w : ℕ) (k : Copying) (e f : Equality) (q x : Part) → routed_as w k e f q x ≡ true → part_gives q any ≡ true
routed-as-any w k e f one x t = absurd (true≢false (sym t))
routed-as-any w k e f any x t = absurd (true≢false (sym t))
routed-as-any w k e f all x t = absurd (true≢false (sym t))
routed-as-any w k e f (routed r xs) x t = refl

-- ---- joins

pub left-stems : (v : ℕ) (on : List (ℕ × ℕ)) (ls rs : List Row) → wide v ls ≡ true → StemsFrom (left_of v) ls (join_rows on ls rs)
left-stems v on ls rs ws cs ds c test h =
    let k = left_columns-is v cs ds (sym (sources-left v cs) ∙ c) in
    join-all (λ x. test (pick ds x) && (length x == v)) (λ r. true) (λ row. test (pick cs row)) on ls rs
    (λ x r t _. ap test (pick-left v cs x r k.0 (eqb-true (length x) v (and-right (test (pick ds x)) (length x == v) t)) ∙ ap (λ z. pick z x) k.1) ∙ and-left (test (pick ds x)) (length x == v) t)
    (all-and (λ x. test (pick ds x)) (λ x. length x == v) ls h ws) (list_all-always (λ r. true) (λ r. refl) rs)

pub right-stems : (v : ℕ) (on : List (ℕ × ℕ)) (ls rs : List Row) → wide v ls ≡ true → StemsFrom (right_of v) rs (join_rows on ls rs)
right-stems v on ls rs ws cs ds c test h =
    let k = right_columns-is v cs ds (sym (sources-right v cs) ∙ c) in
    join-all (λ x. length x == v) (λ row. test (pick ds row)) (λ row. test (pick cs row)) on ls rs
    (λ x r a b. ap test (pick-minus v cs x r k.0 (eqb-true (length x) v a) ∙ ap (λ y. pick y r) k.1) ∙ b)
    ws h

pair-witness : (e f : Equality) (on : List (ℕ × ℕ)) (a b : ℕ) → has_pair_equally e f on a b ≡ true → (c d : ℕ) × (has_pair on c d ≡ true) × (e a c ≡ true) × (f b d ≡ true)
pair-witness e f [] a b t = absurd (true≢false (sym t))
pair-witness e f (p ∷ on) a b t = ⊎_elim
    (λ h. (
      p.0,
      p.1,
      or-left ((p.0 == p.0) && (p.1 == p.1)) (has_pair on p.0 p.1) (and-both (p.0 == p.0) (p.1 == p.1) (eq-eqb p.0 p.0 refl) (eq-eqb p.1 p.1 refl)),
      and-left (e a p.0) (f b p.1) h,
      and-right (e a p.0) (f b p.1) h,
    ))
    (λ h. let k = pair-witness e f on a b h in (k.0, k.1, or-right ((p.0 == k.0) && (p.1 == k.1)) (has_pair on k.0 k.1) k.2, k.3, k.4))
    (or-cases (e a p.0 && f b p.1) (has_pair_equally e f on a b) t)

pair-columns : (e f : Equality) (on : List (ℕ × ℕ)) (ls rs : List ℕ) → all_pairs_equally e f on ls rs ≡ true
    → (cs ds : List ℕ) × (all_pairs on cs ds ≡ true) × (equal_lists e ls cs ≡ true) × (equal_lists f rs ds ≡ true)
pair-columns e f on [] [] t = ([], [], refl, refl, refl)
pair-columns e f on [] (b ∷ rs) t = absurd (true≢false (sym t))
pair-columns e f on (a ∷ ls) [] t = absurd (true≢false (sym t))
pair-columns e f on (a ∷ ls) (b ∷ rs) t =
    let k = pair-witness e f on a b (and-left (has_pair_equally e f on a b) (all_pairs_equally e f on ls rs) t) in
    let rest = pair-columns e f on ls rs (and-right (has_pair_equally e f on a b) (all_pairs_equally e f on ls rs) t) in (
      k.0 ∷ rest.0,
      k.1 ∷ rest.1,
      and-both (has_pair on k.0 k.1) (all_pairs on rest.0 rest.1) k.2 rest.2,
      and-both (e a k.0) (equal_lists e ls rest.0) k.3 rest.3,
      and-both (f b k.1) (equal_lists f rs rest.1) k.4 rest.4,
    )

-- inputs that are routed alike on columns that are equal to those that are paired: what holds of inputs that are routed alike on the pairs holds of them
by-routes : (goes : Routing) (e f : Equality) (on : List (ℕ × ℕ)) (pp qp : Part) (n : ℕ) (s t : Streams) (base rbase : List Row) (G : Type 0)
    → routed_alike_equally e f on pp qp ≡ true → EqualIn e n s → EqualIn f n t → PartHolds goes pp n s base → PartHolds goes qp n t rbase
    → ((r : Route) (cs ds : List ℕ) → all_pairs on cs ds ≡ true → SameRows (joined n s) base → InItsStream goes r cs n s → SameRows (joined n t) rbase → InItsStream goes r ds n t → G) → G
by-routes goes e f on one qp n s t base rbase G ra he hf hp hq met = absurd (true≢false (sym ra))
by-routes goes e f on any qp n s t base rbase G ra he hf hp hq met = absurd (true≢false (sym ra))
by-routes goes e f on all qp n s t base rbase G ra he hf hp hq met = absurd (true≢false (sym ra))
by-routes goes e f on (routed r ls) one n s t base rbase G ra he hf hp hq met = absurd (true≢false (sym ra))
by-routes goes e f on (routed r ls) any n s t base rbase G ra he hf hp hq met = absurd (true≢false (sym ra))
by-routes goes e f on (routed r ls) all n s t base rbase G ra he hf hp hq met = absurd (true≢false (sym ra))
by-routes goes e f on (routed r ls) (routed u rs) n s t base rbase G ra he hf hp hq met =
    let U : Route → Type 0 = λ k. InItsStream goes k rs n t in
    let same : r ≡ u = route_eq-is r u (and-left (route_eq r u) (all_pairs_equally e f on ls rs) ra) in
    let k = pair-columns e f on ls rs (and-right (route_eq r u) (all_pairs_equally e f on ls rs) ra) in
    let right : InItsStream goes r rs n t = subst U (sym same) hq.1 in
    met r k.0 k.1 k.2 hp.0 (λ w l. test-equal e ls k.0 k.3 (λ key. goes r key n == w) (s w) (he w l) (hp.1 w l))
    hq.0 (λ w l. test-equal f rs k.1 k.4 (λ key. goes r key n == w) (t w) (hf w l) (right w l))

-- rows that are paired meet
pub alike-equally : (goes : Routing) (e f : Equality) (on : List (ℕ × ℕ)) (pp qp : Part) (n : ℕ) (s t out : Streams) (base rbase : List Row)
    → routed_alike_equally e f on pp qp ≡ true → EqualIn e n s → EqualIn f n t → ((w : ℕ) → w < n → join_rows on (s w) (t w) ≡ out w)
    → PartHolds goes pp n s base → PartHolds goes qp n t rbase → SameRows (joined n out) (join_rows on base rbase)
alike-equally goes e f on pp qp n s t out base rbase ra he hf run hp hq =
    by-routes goes e f on pp qp n s t base rbase (SameRows (joined n out) (join_rows on base rbase)) ra he hf hp hq
    (λ r cs ds pairs left ls right rs. join-alike goes r on cs ds n s t out base rbase pairs run left ls right rs)

-- ---- semi and anti joins

pub whole-stems : (matched : Bool) (on : List (ℕ × ℕ)) (conditions : List Condition) (ls rs : List Row) → StemsFrom whole_rows ls (matched_rows matched on conditions ls rs)
whole-stems matched on conditions ls rs cs ds c test h =
    let P : List ℕ → Type 0 = λ v. list_all (λ row. test (pick v row)) (matched_rows matched on conditions ls rs) ≡ true in
    subst P (sym (same-columns cs ds c)) (matched-all (λ row. test (pick ds row)) matched on conditions ls rs h)

-- a left row meets all right rows that match it
pub matched-alike-equally : (goes : Routing) (e f : Equality) (matched : Bool) (on : List (ℕ × ℕ)) (conditions : List Condition) (pp qp : Part) (n : ℕ) (s t out : Streams) (base rbase : List Row)
    → routed_alike_equally e f on pp qp ≡ true → EqualIn e n s → EqualIn f n t → ((w : ℕ) → w < n → matched_rows matched on conditions (s w) (t w) ≡ out w)
    → PartHolds goes pp n s base → PartHolds goes qp n t rbase → SameRows (joined n out) (matched_rows matched on conditions base rbase)
matched-alike-equally goes e f matched on conditions pp qp n s t out base rbase ra he hf run hp hq =
    by-routes goes e f on pp qp n s t base rbase (SameRows (joined n out) (matched_rows matched on conditions base rbase)) ra he hf hp hq
    (λ r cs ds pairs left ls right rs. matched-alike goes r matched on conditions cs ds n s t out base rbase pairs run left ls right rs)
