-- Parts by the ways to them: what the lists of the workers stand for, and where their rows stand.
use Rattle.std.proofs.Common.{◌≡◌, ⊎_elim, ℕ, ◌<◌, ◌==◌, Bool, true, false, ◌&&◌, ◌||◌, List, [], ◌∷◌, ◌++◌, length, refl, sym, ap, ◌∙◌, subst, arith, true≢false, eq-eqb, eqb-true, Some}
use Rattle.std.specs.List.{list_all, list_any}
use Rattle.vx_rows_values.specs.Values.{Row, pick}
use Rattle.vx_plan_nodes.specs.Plan.{JoinMethod, Claim, Binary, binary, Route, Part, one, any, all, routed, Unary, Plan, claim, size, is_one, union, join, semi_join, Condition}
use Rattle.vx_plan_nodes.specs.Types.{part_columns, names_columns, width}
use Rattle.vx_catalog_relations.specs.Relation.{Relation}
use Rattle.vx_plan_nodes.specs.Describe.{whole_rows, left_of, right_of, described, described_both}
use Rattle.vx_plan_nodes.specs.Serial.{unary_rows, binary_rows, join_rows, matched_rows}
use Rattle.vx_plan_nodes.specs.Streams.{Streams, joined}
use Rattle.vx_plan_nodes.specs.Routes.{Routing}
use Rattle.vx_catalog_relations.specs.Catalog.{all_below}
use Rattle.vx_check_rules.specs.Rules.{orders, part_gives, has, route_eq, numbers_eq, right_columns, routed_alike}
use Rattle.vx_check_rules.specs.Behaviour.{behaviour, sources, Way, way, if_so, own, bare, meet, over, ways_over, each_has, gives}
use Rattle.vx_check_rules.specs.Claims.{PartOf}
use Rattle.vx_check_rules.proofs.Exact.{sources-left, sources-right}
use Rattle.vx_check_rules.proofs.Bools.{or-false}
use Rattle.vx_exec_laws.proofs.Bags.{and-left, and-right}
use Rattle.vx_exec_laws.proofs.Parts.{InRange, or-cases, single-of, route_eq-is, numbers_eq-is, list_all-always, list_all-weaken}
use Rattle.vx_exec_laws.proofs.Copies.{if_some-is}
use Rattle.vx_exec_laws.proofs.Join.{pick-left, pick-minus}
use Rattle.vx_exec_laws.proofs.JoinOrder.{join-sorted, wide, join-all, all-append, all-and}
use Rattle.vx_exec_laws.proofs.Binary.{right_columns-is, left_columns-is, front-below}
use Rattle.vx_exec_laws.proofs.Orders.{sorted-front, sorted-none}
use Rattle.vx_exec_laws.proofs.WellFormed.{named}
use Rattle.vx_rows_values.specs.Order.{sorted}
use Rattle.vx_exec_laws.proofs.Operators.{keeps, same-columns}
use Rattle.vx_exec_laws.proofs.SemiJoin.{matched-all, matched-sorted}

-- ---- lists of ways

-- it holds of each
abbrev pub Each : {X : Type 0} → (X → Type 0) → List X → Type 0
Each P [] = Unit {0}
Each P (x ∷ xs) = P x × Each P xs

pub each-if : {X : Type 0} (P : X → Type 0) (b : Bool) (xs : List X) → (b ≡ true → Each P xs) → Each P (if_so b xs)
each-if P true xs h = h refl
each-if P false xs h = tt

pub each-append : {X : Type 0} (P : X → Type 0) (xs ys : List X) → Each P xs → Each P ys → Each P (xs ++ ys)
each-append P [] ys h k = k
each-append P (x ∷ xs) ys h k = (h.0, each-append P xs ys h.1 k)

some-of-each : {X : Type 0} (P : X → Type 0) (f : X → Bool) (G : Type 0) → ((x : X) → P x → f x ≡ true → G) → (xs : List X) → Each P xs → list_any f xs ≡ true → G
some-of-each P f G from [] h e = absurd (true≢false (sym e))
some-of-each P f G from (x ∷ xs) h e = ⊎_elim (λ a. from x h.0 a) (λ b. some-of-each P f G from xs h.1 b) (or-cases (f x) (list_any f xs) e)

-- ---- where rows stand

-- a row of the worker at a place among n, as a part says
abbrev pub at_place : Routing → Part → (n w : ℕ) → Row → Bool
at_place goes one n w row = true
at_place goes any n w row = true
at_place goes all n w row = true
at_place goes (routed r cols) n w row = goes r (pick cols row) n == w

abbrev pub Placed : Routing → Part → (n w : ℕ) → List Row → Type 0
Placed goes q n w xs = list_all (at_place goes q n w) xs ≡ true

pub place-gives : (goes : Routing) (p q : Part) (n w : ℕ) (xs : List Row) → part_gives p q ≡ true → Placed goes p n w xs → Placed goes q n w xs
place-gives goes p one n w xs g h = list_all-always (at_place goes one n w) (λ row. refl) xs
place-gives goes p any n w xs g h = list_all-always (at_place goes any n w) (λ row. refl) xs
place-gives goes p all n w xs g h = list_all-always (at_place goes all n w) (λ row. refl) xs
place-gives goes one (routed r cols) n w xs g h = absurd (true≢false (sym g))
place-gives goes any (routed r cols) n w xs g h = absurd (true≢false (sym g))
place-gives goes all (routed r cols) n w xs g h = absurd (true≢false (sym g))
place-gives goes (routed t ds) (routed r cols) n w xs g h =
    let a : t ≡ r = route_eq-is t r (and-left (route_eq t r) (numbers_eq ds cols) g) in
    let b : ds ≡ cols = numbers_eq-is ds cols (and-right (route_eq t r) (numbers_eq ds cols) g) in
    let P : Route → Type 0 = λ v. list_all (λ row. goes v (pick ds row) n == w) xs ≡ true in
    let Q : List ℕ → Type 0 = λ v. list_all (λ row. goes r (pick v row) n == w) xs ≡ true in
    subst Q b (subst P a h)

-- one worker has every place
pub place-one : (goes : Routing) → InRange goes → (q : Part) (n w : ℕ) → n ≡ 1 → w < n → (xs : List Row) → Placed goes q n w xs
place-one goes law one n w e l xs = list_all-always (at_place goes one n w) (λ row. refl) xs
place-one goes law any n w e l xs = list_all-always (at_place goes any n w) (λ row. refl) xs
place-one goes law all n w e l xs = list_all-always (at_place goes all n w) (λ row. refl) xs
place-one goes law (routed r cols) n w e l xs = list_all-always (at_place goes (routed r cols) n w) (λ row. eq-eqb (goes r (pick cols row) n) w (let b = law r (pick cols row) n (omega arith) in omega (arith, b, e, l))) xs

-- a part that an input has, or one worker
pub had-place : (goes : Routing) → InRange goes → (b : Bool) (p q : Part) (n w : ℕ) → (b ≡ true → n ≡ 1) → w < n → (xs : List Row) → Placed goes p n w xs
    → (b || part_gives p q) ≡ true → Placed goes q n w xs
had-place goes law b p q n w single l xs at h = ⊎_elim (λ o. place-one goes law q n w (single o) l xs) (λ g. place-gives goes p q n w xs g at) (or-cases b (part_gives p q) h)

-- the rows stand where the columns that a way copies say
abbrev pub Places : Routing → (n w : ℕ) → List Row → Way → Type 0
Places goes n w ys v = (r : Route) (cs ds : List ℕ) → sources v.copying cs ≡ Some ds → each_has v.from (routed r ds) ≡ true → Placed goes (routed r cs) n w ys

way-placed : (goes : Routing) (n w : ℕ) (ys : List Row) (q : Part) (v : Way) → Places goes n w ys v → gives v q ≡ true → Placed goes q n w ys
way-placed goes n w ys one v h e = absurd (true≢false (sym e))
way-placed goes n w ys any v h e = list_all-always (at_place goes any n w) (λ row. refl) ys
way-placed goes n w ys all v h e = list_all-always (at_place goes all n w) (λ row. refl) ys
way-placed goes n w ys (routed r cs) v h e = let k = if_some-is (sources v.copying cs) (λ ds. each_has v.from (routed r ds)) e in h r cs k.0 k.1 k.2

-- the rows of a worker stand where a part says that is shown
pub shown-placed : (goes : Routing) → InRange goes → (b : Bool) (ways : List Way) (q : Part) (n w : ℕ) → (b ≡ true → n ≡ 1) → w < n → (ys : List Row)
    → Each (λ v. Places goes n w ys v) ways → (b || list_any (λ v. gives v q) ways) ≡ true → Placed goes q n w ys
shown-placed goes law b ways q n w single l ys h e = ⊎_elim
    (λ o. place-one goes law q n w (single o) l ys)
    (λ g. some-of-each (λ v. Places goes n w ys v) (λ v. gives v q) (Placed goes q n w ys) (way-placed goes n w ys q) ways h g)
    (or-cases b (list_any (λ v. gives v q) ways) e)

-- ---- the operators

-- over one input: rows that stem from rows stand where they did
pub unary-place : (goes : Routing) (op : Unary) (p : Plan) (n w : ℕ) (xs ys : List Row) → unary_rows op xs ≡ Some ys → ((q : Part) → has p q ≡ true → Placed goes q n w xs)
    → Each (λ v. Places goes n w ys v) (way (described op).copying (own p ∷ []) ∷ [])
unary-place goes op p n w xs ys e had =
    ((λ r cs ds c h. (keeps op).stems cs ds c (λ key. goes r key n == w) xs ys e (had (routed r ds) (and-left (has p (routed r ds)) true h))), tt)

pub unary-places : (goes : Routing) (op : Unary) (p : Plan) (n w : ℕ) (xs ys : List Row) → unary_rows op xs ≡ Some ys → ((q : Part) → has p q ≡ true → Placed goes q n w xs)
    → Each (λ v. Places goes n w ys v) (over (described op) p).ways
unary-places goes op p n w xs ys e had =
    each-if (λ v. Places goes n w ys v) (meet (described op).meets (own p)) (way (described op).copying (own p ∷ []) ∷ []) (λ m. unary-place goes op p n w xs ys e had)

-- rows side by side
union-places : (goes : Routing) (v : ℕ) (p q : Plan) (n w : ℕ) (ls rs : List Row)
    → ((x : Part) → has p x ≡ true → Placed goes x n w ls) → ((x : Part) → has q x ≡ true → Placed goes x n w rs)
    → Each (λ v. Places goes n w (ls ++ rs) v) (ways_over (described_both v union).meeting (described_both v union) (own p) (own q))
union-places goes v p q n w ls rs left right =
    each-if (λ v. Places goes n w (ls ++ rs) v) (is_one (size p) || ((has p any && has q any) || (has p all && has q all))) (way whole_rows (own p ∷ own q ∷ []) ∷ [])
    (λ m. (
      λ r cs ds c h.
          let P : List ℕ → Type 0 = λ z. Placed goes (routed r z) n w (ls ++ rs) in
          let k = and-right (has p (routed r ds)) (has q (routed r ds) && true) h in
          subst P (sym (same-columns cs ds c))
          (all-append (at_place goes (routed r ds) n w) ls rs (left (routed r ds) (and-left (has p (routed r ds)) (has q (routed r ds) && true) h)) (right (routed r ds) (and-left (has q (routed r ds)) true k))),
      tt,
    ))

place-left : (goes : Routing) (v : Route) (cols : List ℕ) (on : List (ℕ × ℕ)) (wd n w : ℕ) (ls rs : List Row) → all_below wd cols ≡ true → wide wd ls ≡ true
    → Placed goes (routed v cols) n w ls → Placed goes (routed v cols) n w (join_rows on ls rs)
place-left goes v cols on wd n w ls rs below ws h =
    let q : Row → Bool = λ row. goes v (pick cols row) n == w in
    join-all (λ x. q x && (length x == wd)) (λ r. true) q on ls rs
    (λ x r e _. ap (λ k. goes v k n == w) (pick-left wd cols x r below (eqb-true (length x) wd (and-right (q x) (length x == wd) e))) ∙ and-left (q x) (length x == wd) e)
    (all-and q (λ x. length x == wd) ls h ws) (list_all-always (λ r. true) (λ r. refl) rs)

place-right : (goes : Routing) (v : Route) (cols cs : List ℕ) (on : List (ℕ × ℕ)) (wd n w : ℕ) (ls rs : List Row) → right_columns wd cols ≡ Some cs → wide wd ls ≡ true
    → Placed goes (routed v cs) n w rs → Placed goes (routed v cols) n w (join_rows on ls rs)
place-right goes v cols cs on wd n w ls rs e ws h =
    let k = right_columns-is wd cols cs e in
    join-all (λ x. length x == wd) (λ row. goes v (pick cs row) n == w) (λ row. goes v (pick cols row) n == w) on ls rs
    (λ x r a b. ap (λ y. goes v y n == w) (pick-minus wd cols x r k.0 (eqb-true (length x) wd a) ∙ ap (λ y. pick y r) k.1) ∙ b)
    ws h

-- the columns of a part that is given are columns of the part that gives it
pub given-below : (wd : ℕ) (p : Part) (r : Route) (ds : List ℕ) → part_gives p (routed r ds) ≡ true → all_below wd (part_columns p) ≡ true → all_below wd ds ≡ true
given-below wd one r ds g h = absurd (true≢false (sym g))
given-below wd any r ds g h = absurd (true≢false (sym g))
given-below wd all r ds g h = absurd (true≢false (sym g))
given-below wd (routed t cs) r ds g h =
    let P : List ℕ → Type 0 = λ z. all_below wd z ≡ true in subst P (numbers_eq-is cs ds (and-right (route_eq t r) (numbers_eq cs ds) g)) h

-- rows that are paired stand where their left rows did, and where their right rows did
join-places : (goes : Routing) (m : JoinMethod) (on : List (ℕ × ℕ)) (wd : ℕ) (p q : Plan) (n w : ℕ) (ls rs : List Row) → wide wd ls ≡ true → all_below wd (part_columns (claim p).part) ≡ true
    → Placed goes (claim p).part n w ls → Placed goes (claim q).part n w rs
    → ((x : Part) → has p x ≡ true → Placed goes x n w ls) → ((x : Part) → has q x ≡ true → Placed goes x n w rs)
    → Each (λ v. Places goes n w (join_rows on ls rs) v) (ways_over (described_both wd (join m on)).meeting (described_both wd (join m on)) (own p) (own q))
join-places goes m on wd p q n w ls rs ws below at_left at_right left right =
    let P : Way → Type 0 = λ v. Places goes n w (join_rows on ls rs) v in
    let of_left : List Way = way (left_of wd) (own p ∷ []) ∷ [] in
    let of_right : List Way = way (right_of wd) (own q ∷ []) ∷ [] in
    let alike : List Way = way whole_rows (bare (claim p).part ∷ []) ∷ way (right_of wd) (bare (claim q).part ∷ []) ∷ [] in
    let met : Bool = routed_alike on (claim p).part (claim q).part in
    each-append P (if_so met alike) (if_so (has q all) of_left ++ if_so (has p all) of_right)
    (each-if P met alike (λ a. (
      λ r cs ds c h.
          let Q : List ℕ → Type 0 = λ z. Placed goes (routed r z) n w (join_rows on ls rs) in
          let g = and-left (part_gives (claim p).part (routed r ds)) true h in
          subst Q (sym (same-columns cs ds c)) (place-left goes r ds on wd n w ls rs (given-below wd (claim p).part r ds g below) ws (place-gives goes (claim p).part (routed r ds) n w ls g at_left)),
      (
        λ r cs ds c h. place-right goes r cs ds on wd n w ls rs (sym (sources-right wd cs) ∙ c) ws
            (place-gives goes (claim q).part (routed r ds) n w rs (and-left (part_gives (claim q).part (routed r ds)) true h) at_right),
        tt,
      ),
    )))
    (each-append P (if_so (has q all) of_left) (if_so (has p all) of_right)
    (each-if P (has q all) of_left (λ b. (
      λ r cs ds c h.
          let k = left_columns-is wd cs ds (sym (sources-left wd cs) ∙ c) in
          let Q : List ℕ → Type 0 = λ z. Placed goes (routed r z) n w ls in
          place-left goes r cs on wd n w ls rs k.0 ws (subst Q (sym k.1) (left (routed r ds) (and-left (has p (routed r ds)) true h))),
      tt,
    )))
    (each-if P (has p all) of_right (λ b. (
      λ r cs ds c h. place-right goes r cs ds on wd n w ls rs (sym (sources-right wd cs) ∙ c) ws (right (routed r ds) (and-left (has q (routed r ds)) true h)),
      tt,
    ))))

-- left rows that are kept stand where they did
semi-places : (goes : Routing) (m : Bool) (on : List (ℕ × ℕ)) (conditions : List Condition) (wd : ℕ) (p q : Plan) (n w : ℕ) (ls rs : List Row)
    → Placed goes (claim p).part n w ls → ((x : Part) → has p x ≡ true → Placed goes x n w ls)
    → Each (λ v. Places goes n w (matched_rows m on conditions ls rs) v)
    (ways_over (described_both wd (semi_join m on conditions)).meeting (described_both wd (semi_join m on conditions)) (own p) (own q))
semi-places goes m on conditions wd p q n w ls rs at_left left =
    let out : List Row = matched_rows m on conditions ls rs in
    let P : Way → Type 0 = λ v. Places goes n w out v in
    let alike : List Way = way whole_rows (bare (claim p).part ∷ []) ∷ [] in
    let of_left : List Way = way whole_rows (own p ∷ []) ∷ [] in
    let met : Bool = routed_alike on (claim p).part (claim q).part in
    let kept : (r : Route) (cs ds : List ℕ) → sources whole_rows cs ≡ Some ds → Placed goes (routed r ds) n w ls → Placed goes (routed r cs) n w out = λ r cs ds c h.
    let Q : List ℕ → Type 0 = λ z. Placed goes (routed r z) n w out in
    subst Q (sym (same-columns cs ds c)) (matched-all (at_place goes (routed r ds) n w) m on conditions ls rs h) in
    each-append P (if_so met alike) (if_so (has q all) of_left)
    (each-if P met alike (λ a. (
      (λ r cs ds c h. kept r cs ds c (place-gives goes (claim p).part (routed r ds) n w ls (and-left (part_gives (claim p).part (routed r ds)) true h) at_left)),
      tt,
    )))
    (each-if P (has q all) of_left (λ b. ((λ r cs ds c h. kept r cs ds c (left (routed r ds) (and-left (has p (routed r ds)) true h))), tt)))

-- over two inputs
pub both-places : (goes : Routing) (catalog : ℕ → Relation) (k : ℕ) (c : Claim) (op : Binary) (p q : Plan) (n w : ℕ) (ls rs : List Row) → names_columns (width catalog p) (claim p) ≡ true
    → wide (width catalog p) ls ≡ true → Placed goes (claim p).part n w ls → Placed goes (claim q).part n w rs
    → ((x : Part) → has p x ≡ true → Placed goes x n w ls) → ((x : Part) → has q x ≡ true → Placed goes x n w rs)
    → Each (λ v. Places goes n w (binary_rows op ls rs) v) (behaviour catalog (binary k c op p q)).ways
both-places goes catalog k c union p q n w ls rs names ws at_left at_right left right = union-places goes (width catalog p) p q n w ls rs left right
both-places goes catalog k c (join m on) p q n w ls rs names ws at_left at_right left right =
    join-places goes m on (width catalog p) p q n w ls rs ws (named (width catalog p) (claim p) names).0 at_left at_right left right
both-places goes catalog k c (semi_join m on conditions) p q n w ls rs names ws at_left at_right left right = semi-places goes m on conditions (width catalog p) p q n w ls rs at_left left

-- and the order of their rows
pub both-ordered : (catalog : ℕ → Relation) (k : ℕ) (c : Claim) (op : Binary) (p q : Plan) → names_columns (width catalog p) (claim p) ≡ true → orders catalog (binary k c op p q) c.order ≡ true
    → (ls rs : List Row) → wide (width catalog p) ls ≡ true → sorted (claim p).order ls ≡ true → sorted c.order (binary_rows op ls rs) ≡ true
both-ordered catalog k c union p q names h ls rs v e = sorted-front c.order [] h (ls ++ rs) (sorted-none (ls ++ rs))
both-ordered catalog k c (join m on) p q names h ls rs v e =
    join-sorted c.order (width catalog p) on ls rs (front-below (width catalog p) c.order (claim p).order h (named (width catalog p) (claim p) names).1) v (sorted-front c.order (claim p).order h ls e)
both-ordered catalog k c (semi_join m on conditions) p q names h ls rs v e = matched-sorted c.order m on conditions ls rs (sorted-front c.order (claim p).order h ls e)

-- ---- what the lists stand for

-- the lists of all workers stand for the rows, as a part says, or each of them does
abbrev Standing : Part → ℕ → Streams → (List Row → Type 0) → Type 0
Standing one n s stands = (n ≡ 1) × stands (joined n s)
Standing any n s stands = stands (joined n s)
Standing all n s stands = (w : ℕ) → w < n → stands (s w)
Standing (routed r cols) n s stands = stands (joined n s)

part-by : (goes : Routing) (q : Part) (n : ℕ) (s : Streams) (stands : List Row → Type 0) → Standing q n s stands → ((w : ℕ) → w < n → Placed goes q n w (s w)) → PartOf goes q n s stands
part-by goes one n s stands h at = h
part-by goes any n s stands h at = h
part-by goes all n s stands h at = h
part-by goes (routed r cols) n s stands h at = (h, at)

pub part-placed : (goes : Routing) (q : Part) (n : ℕ) (s : Streams) (stands : List Row → Type 0) → PartOf goes q n s stands → (w : ℕ) → w < n → Placed goes q n w (s w)
part-placed goes one n s stands h w l = list_all-always (at_place goes one n w) (λ row. refl) (s w)
part-placed goes any n s stands h w l = list_all-always (at_place goes any n w) (λ row. refl) (s w)
part-placed goes all n s stands h w l = list_all-always (at_place goes all n w) (λ row. refl) (s w)
part-placed goes (routed r cols) n s stands h w l = h.1 w l

-- what a way says that its lists stand for
abbrev pub Stands : ℕ → Streams → (List Row → Type 0) → Way → Type 0
Stands n s stands v = (each_has v.from any ≡ true → stands (joined n s)) × (each_has v.from all ≡ true → (w : ℕ) → w < n → stands (s w))

routed-any : (b : Bool) (x : Part) (r : Route) (cs : List ℕ) → (b || part_gives x (routed r cs)) ≡ true → (b || part_gives x any) ≡ true
routed-any true x r cs h = refl
routed-any false one r cs h = absurd (true≢false (sym h))
routed-any false any r cs h = refl
routed-any false all r cs h = absurd (true≢false (sym h))
routed-any false (routed t ds) r cs h = refl

way-standing : (n : ℕ) (s : Streams) (stands : List Row → Type 0) (q : Part) (v : Way) → Stands n s stands v → gives v q ≡ true → Standing q n s stands
way-standing n s stands one v h e = absurd (true≢false (sym e))
way-standing n s stands any v h e = h.0 e
way-standing n s stands all v h e = h.1 e
way-standing n s stands (routed r cs) v h e =
    let k = if_some-is (sources v.copying cs) (λ ds. each_has v.from (routed r ds)) e in
    h.0 (list_all-weaken (λ (f : Bool × Part). f.0 || part_gives f.1 (routed r k.0)) (λ (f : Bool × Part). f.0 || part_gives f.1 any) (λ f g. routed-any f.0 f.1 r k.0 g) v.from k.2)

-- a part that is shown holds, where each way that is there says what holds
pub shown-part : (goes : Routing) → InRange goes → (b : Bool) (ways : List Way) (q : Part) (n : ℕ) (s : Streams) (stands : List Row → Type 0)
    → (b ≡ true → n ≡ 1) → (b ≡ true → stands (joined n s)) → Each (λ v. Stands n s stands v) ways → ((w : ℕ) → w < n → Each (λ v. Places goes n w (s w) v) ways)
    → (b || list_any (λ v. gives v q) ways) ≡ true → PartOf goes q n s stands
shown-part goes law b ways q n s stands single alone h at e = ⊎_elim
    (λ o. single-of goes law q n s stands (single o) (alone o))
    (λ g. part-by goes q n s stands
    (some-of-each (λ v. Stands n s stands v) (λ v. gives v q) (Standing q n s stands) (way-standing n s stands q) ways h g)
    (λ w l. shown-placed goes law b ways q n w single l (s w) (at w l) e))
    (or-cases b (list_any (λ v. gives v q) ways) e)

-- a part that is made where it is
made-way : (p q : Part) → gives (way whole_rows (bare p ∷ [])) q ≡ true → part_gives p q ≡ true
made-way p one h = absurd (true≢false (sym h))
made-way p any h = and-left (part_gives p any) true h
made-way p all h = and-left (part_gives p all) true h
made-way p (routed r cs) h =
    let k = if_some-is (sources whole_rows cs) (λ ds. each_has (bare p ∷ []) (routed r ds)) h in
    let P : List ℕ → Type 0 = λ v. part_gives p (routed r v) ≡ true in
    subst P (sym (same-columns cs k.0 k.1)) (and-left (part_gives p (routed r k.0)) true k.2)

pub made-gives : (b : Bool) (p q : Part) → (b || list_any (λ v. gives v q) (way whole_rows (bare p ∷ []) ∷ [])) ≡ true → (b || part_gives p q) ≡ true
made-gives true p q h = refl
made-gives false p q h = made-way p q (sym (or-false (gives (way whole_rows (bare p ∷ [])) q)) ∙ h)
