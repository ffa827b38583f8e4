-- The parts that are placed are options of their nodes.
use Rattle.std.proofs.Common.{◌≡◌, ℕ, Bool, true, false, cond, ◌&&◌, ◌||◌, ◌==◌, List, [], ◌∷◌, Option, Some, None, option_map, unwrap_or, refl, sym, ap, ◌∙◌, true≢false, eqb-true, eq-eqb}
use Rattle.std.specs.List.{list_any, list_all, find}
use Rattle.vx_rows_values.specs.declared.order.OrderEntry.{OrderEntry}
use Rattle.vx_rows_values.proofs.Booleans.{and-left, and-right, and-both}
use Rattle.vx_catalog_relations.specs.Relation.{Relation}
use Rattle.vx_plan_nodes.specs.Plan.{Route, by_hash, by_range, Part, one, any, all, routed, ExchangeKind, route_to, round, broadcast, gather, concat, Plan}
use Rattle.vx_check_rules.specs.Rules.{numbers_eq, route_eq, rises_by}
use Rattle.vx_check_rules.specs.Refusal.{or_else}
use Rattle.vx_check_rules.proofs.Bools.{or-left, or-right}
use Rattle.vx_check_options.specs.Options.{same_part}
use Rattle.vx_check_options.specs.Placed.{first_part, first_two, is_given, parts_below, part_sent}
use Rattle.vx_check_options.specs.Laws.{is_option}

-- ---- the same part

-- equal by the test is equal: lists of numbers
numbers-are : (xs ys : List ℕ) → numbers_eq xs ys ≡ true → xs ≡ ys
numbers-are [] [] e = refl
numbers-are [] (y ∷ ys) e = absurd (true≢false (sym e))
numbers-are (x ∷ xs) [] e = absurd (true≢false (sym e))
numbers-are (x ∷ xs) (y ∷ ys) e =
    let a : x ≡ y = eqb-true x y (and-left (x == y) (numbers_eq xs ys) e) in
    let b : xs ≡ ys = numbers-are xs ys (and-right (x == y) (numbers_eq xs ys) e) in
    cc

-- routes
route-is : (r s : Route) → route_eq r s ≡ true → r ≡ s
route-is (by_hash a) (by_hash b) e = ap by_hash (numbers-are a b e)
route-is (by_hash a) (by_range j) e = absurd (true≢false (sym e))
route-is (by_range i) (by_hash b) e = absurd (true≢false (sym e))
route-is (by_range i) (by_range j) e = ap by_range (eqb-true i j e)

-- and parts
pub part-is : (q x : Part) → same_part q x ≡ true → q ≡ x
part-is one one e = refl
part-is one any e = absurd (true≢false (sym e))
part-is one all e = absurd (true≢false (sym e))
part-is one (routed s ds) e = absurd (true≢false (sym e))
part-is any one e = absurd (true≢false (sym e))
part-is any any e = refl
part-is any all e = absurd (true≢false (sym e))
part-is any (routed s ds) e = absurd (true≢false (sym e))
part-is all one e = absurd (true≢false (sym e))
part-is all any e = absurd (true≢false (sym e))
part-is all all e = refl
part-is all (routed s ds) e = absurd (true≢false (sym e))
part-is (routed r cols) one e = absurd (true≢false (sym e))
part-is (routed r cols) any e = absurd (true≢false (sym e))
part-is (routed r cols) all e = absurd (true≢false (sym e))
part-is (routed r cols) (routed s ds) e =
    let h = and-left (route_eq r s && numbers_eq cols ds) (route_eq s r && numbers_eq ds cols) e in
    let a : r ≡ s = route-is r s (and-left (route_eq r s) (numbers_eq cols ds) h) in
    let b : cols ≡ ds = numbers-are cols ds (and-right (route_eq r s) (numbers_eq cols ds) h) in
    cc

-- a list of numbers is equal to itself by the test
numbers-same : (xs : List ℕ) → numbers_eq xs xs ≡ true
numbers-same [] = refl
numbers-same (x ∷ xs) = and-both (x == x) (numbers_eq xs xs) (eq-eqb x x refl) (numbers-same xs)

-- and so is a part
part-same : (q : Part) → same_part q q ≡ true
part-same one = refl
part-same any = refl
part-same all = refl
part-same (routed r cols) = let h : (route_eq r r && numbers_eq cols cols) ≡ true = and-both (route_eq r r) (numbers_eq cols cols) (route-same r) (numbers-same cols) in and-both _ _ h h
  where
    route-same : (r : Route) → route_eq r r ≡ true
    route-same (by_hash a) = numbers-same a
    route-same (by_range j) = eq-eqb j j refl

-- ---- options

-- what all parts of a list pass, one that is listed passes
listed-passes : (test : Part → Bool) (q : Part) (parts : List Part) → list_any (same_part q) parts ≡ true → list_all test parts ≡ true → test q ≡ true
listed-passes test q [] h k = absurd (true≢false (sym h))
listed-passes test q (x ∷ xs) h k = by (same_part q x) refl (listed-passes test q xs) h
  where
    by : (b : Bool) → same_part q x ≡ b → (list_any (same_part q) xs ≡ true → list_all test xs ≡ true → test q ≡ true) → (b || list_any (same_part q) xs) ≡ true → test q ≡ true
    by true e more l = ap test (part-is q x e) ∙ and-left (test x) (list_all test xs) k
    by false e more l = more l (and-right (test x) (list_all test xs) k)

-- and what any passes too, an option passes
pub option-passes : (test : Part → Bool) (q : Part) (parts : List Part) → test any ≡ true → is_option parts q ≡ true → list_all test parts ≡ true → test q ≡ true
option-passes test q [] e h k = ap test (part-is q any h) ∙ e
option-passes test q (x ∷ xs) e h k = listed-passes test q (x ∷ xs) h k

-- a listed part is an option
listed-option : (q : Part) (parts : List Part) → list_any (same_part q) parts ≡ true → is_option parts q ≡ true
listed-option q [] h = absurd (true≢false (sym h))
listed-option q (x ∷ xs) h = h

-- so is the first part
first-option : (parts : List Part) → is_option parts (first_part parts) ≡ true
first-option [] = refl
first-option (x ∷ xs) = or-left (same_part x x) (list_any (same_part x) xs) (part-same x)

-- a part in front is listed
same-front : (x y : Part) (xs : List Part) → x ≡ y → list_any (same_part y) (x ∷ xs) ≡ true
same-front x y xs e = or-left (same_part y x) (list_any (same_part y) xs) (ap (same_part y) e ∙ part-same y)

-- ---- what is looked for is an option

-- a part that is found is listed
found-listed : (test : Part → Bool) (y : Part) (parts : List Part) → find test parts ≡ Some y → list_any (same_part y) parts ≡ true
found-listed test y [] e = cc
found-listed test y (x ∷ xs) e = by (test x) (found-listed test y xs) e
  where
    by : (b : Bool) → (find test xs ≡ Some y → list_any (same_part y) xs ≡ true) → cond b (Some x) (find test xs) ≡ Some y → list_any (same_part y) (x ∷ xs) ≡ true
    by true more l = same-front x y xs (ap (λ o. unwrap_or o x) l)
    by false more l = or-right (same_part y x) (list_any (same_part y) xs) (more l)

-- two parts that are found are listed
two-listed : (test : Part → Part → Bool) (x y : Part) (lefts rights : List Part) → first_two test lefts rights ≡ Some (x, y)
    → (list_any (same_part x) lefts ≡ true) × (list_any (same_part y) rights ≡ true)
two-listed test x y [] rights e = cc
two-listed test x y (z ∷ lefts) rights e = by (find (test z) rights) refl (two-listed test x y lefts rights) e
  where
    left : Option (Part × Part) → Part
    left None = z
    left (Some w) = w.0

    right : Option (Part × Part) → Option Part
    right None = None
    right (Some w) = Some w.1

    by : (o : Option Part) → find (test z) rights ≡ o → (first_two test lefts rights ≡ Some (x, y) → (list_any (same_part x) lefts ≡ true) × (list_any (same_part y) rights ≡ true))
        → or_else (option_map {U = Part × Part} (λ y. (z, y)) o) (first_two test lefts rights) ≡ Some (x, y) → (list_any (same_part x) (z ∷ lefts) ≡ true) × (list_any (same_part y) rights ≡ true)
    by (Some w) f more l =
        (same-front z x lefts (ap left l), found-listed (test z) y rights (f ∙ ap right l))
    by None f more l = (or-right (same_part x z) (list_any (same_part x) lefts) (more l).0, (more l).1)

-- the parts of the inputs are options of theirs
pub parts_below-options : (catalog : ℕ → Relation) (p : Plan) (q : Part) (lefts rights : List Part)
    → (is_option lefts (parts_below catalog p q lefts rights).0 ≡ true) × (is_option rights (parts_below catalog p q lefts rights).1 ≡ true)
parts_below-options catalog p q lefts rights = by (first_two (is_given catalog p q) lefts rights) refl
  where
    by : (o : Option (Part × Part)) → first_two (is_given catalog p q) lefts rights ≡ o
        → (is_option lefts (unwrap_or o (first_part lefts, first_part rights)).0 ≡ true) × (is_option rights (unwrap_or o (first_part lefts, first_part rights)).1 ≡ true)
    by None e = (first-option lefts, first-option rights)
    by (Some w) e = let h = two-listed (is_given catalog p q) w.0 w.1 lefts rights e in (listed-option w.0 lefts h.0, listed-option w.1 rights h.1)

-- the part of the input of an exchange is an option of it
pub part_sent-option : (k : ExchangeKind) (order : List OrderEntry) (parts : List Part) → is_option parts (part_sent k order parts) ≡ true
part_sent-option (route_to z r cols) order parts = first-option parts
part_sent-option (round z) order parts = first-option parts
part_sent-option (broadcast z) order parts = first-option parts
part_sent-option gather order parts = first-option parts
part_sent-option concat order parts = by (find (λ x. rises_by x order) parts) refl
  where
    by : (o : Option Part) → find (λ x. rises_by x order) parts ≡ o → is_option parts (unwrap_or o (first_part parts)) ≡ true
    by None e = first-option parts
    by (Some w) e = listed-option w parts (found-listed (λ x. rises_by x order) w parts e)
