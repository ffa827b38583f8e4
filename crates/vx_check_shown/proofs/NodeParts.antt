-- What typed nodes do with equal columns and with the parts that their inputs claim.
use Rattle.std.proofs.Common.{◌≡◌, ◌∙◌, ℕ, ◌+◌, ◌==◌, nat_lt, true, false, ◌&&◌, ◌||◌, List, [], ◌∷◌, Some, refl, ap₂, sym, subst}
use Rattle.std.specs.List.{list_all}
use Rattle.std.proofs.lemmas.Bool.{eq-eqb}
use Rattle.vx_rows_values.specs.Order.{order_columns}
use Rattle.vx_rows_values.proofs.Booleans.{and-left, and-right, and-both}
use Rattle.vx_catalog_relations.specs.Relation.{Relation}
use Rattle.vx_catalog_relations.specs.Catalog.{relation_at, all_below}
use Rattle.vx_plan_nodes.specs.Plan.{column, constant, equal, unequal, below, at_most, above, at_least, Test, Side, Condition, claim, Size, one_worker, group_of, size_eq, Unary, select, project, distinct, sort, group, limit, JoinMethod, union, join, semi_join, Plan, scan, unary, binary, exchange, is_one}
use Rattle.vx_plan_nodes.specs.Phases.{phase_fits, both_closed}
use Rattle.vx_plan_nodes.specs.Types.{width, part_columns, names_columns, well_formed}
use Rattle.vx_plan_nodes.specs.Describe.{Copying, whole_rows, left_of, right_of, source, described}
use Rattle.vx_plan_facts.specs.Equal.{Equality, both_equal, lifted, with_pair, with_test, with_conditions, comparisons, with_pairs, unary_equal, binary_equal}
use Rattle.vx_plan_facts.specs.Naming.{pair_within, IsTypedOver}
use Rattle.vx_plan_facts.proofs.Tests.{or-left, or-right}
use Rattle.vx_plan_facts.proofs.WellTyped.{typed-well-formed}
use Rattle.vx_check_shown.proofs.StandFacts.{Lifts}

-- ---- claims name columns

formed-over : (catalog : List Relation) (p : Plan) → IsTypedOver catalog p → well_formed (relation_at catalog) p ≡ true
formed-over catalog p h =
    let P : List Relation → Type 0 = λ l. well_formed (relation_at l) p ≡ true in
    subst P h.1 (typed-well-formed h.0 p h.2)

claim-named : (catalog : ℕ → Relation) (p : Plan) → well_formed catalog p ≡ true → names_columns (width catalog p) (claim p) ≡ true
claim-named catalog (scan n c r m z) h = h
claim-named catalog (unary n c op p) h =
    let named = names_columns (width catalog (unary n c op p)) c in
    and-right (phase_fits op p) named (and-right (well_formed catalog p) (phase_fits op p && named) h)
claim-named catalog (binary n c union p q) h =
    let named = names_columns (width catalog p) c in
    let wide = width catalog p == width catalog q in
    and-right wide named (and-right (both_closed p q) (wide && named)
    (and-right (well_formed catalog q) (both_closed p q && (wide && named))
    (and-right (well_formed catalog p) (well_formed catalog q && (both_closed p q && (wide && named))) h)))
claim-named catalog (binary n c (join m on) p q) h =
    let named = names_columns (width catalog p + width catalog q) c in
    and-right (both_closed p q) named
    (and-right (well_formed catalog q) (both_closed p q && named) (and-right (well_formed catalog p) (well_formed catalog q && (both_closed p q && named)) h))
claim-named catalog (binary n c (semi_join matched on conditions) p q) h =
    let named = names_columns (width catalog p) c in
    and-right (both_closed p q) named
    (and-right (well_formed catalog q) (both_closed p q && named) (and-right (well_formed catalog p) (well_formed catalog q && (both_closed p q && named)) h))
claim-named catalog (exchange n c k m p) h = and-right (well_formed catalog p) (names_columns (width catalog p) c) h

pub part-named : (catalog : List Relation) (p : Plan) → IsTypedOver catalog p → all_below (width (relation_at catalog) p) (part_columns (claim p).part) ≡ true
part-named catalog p h =
    let w : ℕ = width (relation_at catalog) p in
    and-left (all_below w (part_columns (claim p).part)) (all_below w (order_columns (claim p).order) && list_all (all_below w) (claim p).keys) (claim-named (relation_at catalog) p (formed-over catalog p h))

-- ---- workers

pub both-several : (a b : Size) → size_eq a b ≡ true → is_one a ≡ false → is_one b ≡ false
both-several one_worker one_worker h k = cc
both-several one_worker (group_of j) h k = cc
both-several (group_of j) one_worker h k = cc
both-several (group_of j) (group_of l) h k = refl

-- ---- equal columns stay so

pair-keeps : (x y : ℕ) (e : Equality) (a b : ℕ) → e a b ≡ true → with_pair x y e a b ≡ true
pair-keeps x y e a b h = or-left (e a b) ((e a x && e y b) || (e a y && e x b)) h

test-keeps : (x : ℕ) (t : Test) (s : Side) (e : Equality) (a b : ℕ) → e a b ≡ true → with_test x t s e a b ≡ true
test-keeps x equal (column y) e a b h = pair-keeps x y e a b h
test-keeps x equal (constant v) e a b h = h
test-keeps x unequal s e a b h = h
test-keeps x below s e a b h = h
test-keeps x at_most s e a b h = h
test-keeps x above s e a b h = h
test-keeps x at_least s e a b h = h

conditions-keep : (cs : List Condition) (e : Equality) (a b : ℕ) → e a b ≡ true → with_conditions cs e a b ≡ true
conditions-keep [] e a b h = h
conditions-keep (c ∷ cs) e a b h = test-keeps c.left c.test c.right (with_conditions cs e) a b (conditions-keep cs e a b h)

pairs-keep : (v : ℕ) (on : List (ℕ × ℕ)) (e : Equality) (a b : ℕ) → e a b ≡ true → with_pairs v on e a b ≡ true
pairs-keep v [] e a b h = h
pairs-keep v (p ∷ on) e a b h = pair-keeps p.0 (v + p.1) (with_pairs v on e) a b (pairs-keep v on e a b h)

lifted-lifts : (k : Copying) (e : Equality) → Lifts k e (lifted k e)
lifted-lifts k e a b y z s t h =
    or-right (a == b) (both_equal e (source k a) (source k b)) (ap₂ (λ o p. both_equal e o p) s t ∙ h)

whole-is : (a y : ℕ) → Some a ≡ Some y → a ≡ y
whole-is a y h = cc

pub unary-lifts : (op : Unary) (e : Equality) → Lifts (described op).copying e (unary_equal op e)
unary-lifts (select fs) e a b y z s t h =
    conditions-keep (comparisons fs) e a b (subst (λ u. e u b ≡ true) (sym (whole-is a y s)) (subst (λ u. e y u ≡ true) (sym (whole-is b z t)) h))
unary-lifts (project es) e a b y z s t h = lifted-lifts (described (project es)).copying e a b y z s t h
unary-lifts (distinct cols) e a b y z s t h = lifted-lifts (described (distinct cols)).copying e a b y z s t h
unary-lifts (sort of_parts cols) e a b y z s t h = lifted-lifts (described (sort of_parts cols)).copying e a b y z s t h
unary-lifts (group phase by aggregates) e a b y z s t h = lifted-lifts (described (group phase by aggregates)).copying e a b y z s t h
unary-lifts (limit m) e a b y z s t h = lifted-lifts (described (limit m)).copying e a b y z s t h

pub whole-lifts : (e : Equality) → Lifts whole_rows e e
whole-lifts e a b y z s t h = subst (λ u. e u b ≡ true) (sym (whole-is a y s)) (subst (λ u. e y u ≡ true) (sym (whole-is b z t)) h)

pub left-lifts : (v : ℕ) (m : JoinMethod) (on : List (ℕ × ℕ)) (e f : Equality) → Lifts (left_of v) e (binary_equal v (join m on) e f)
left-lifts v m on e f a b y z s t h =
    pairs-keep v on (λ c d. lifted (left_of v) e c d || lifted (right_of v) f c d) a b
    (or-left (lifted (left_of v) e a b) (lifted (right_of v) f a b) (lifted-lifts (left_of v) e a b y z s t h))

pub right-lifts : (v : ℕ) (m : JoinMethod) (on : List (ℕ × ℕ)) (e f : Equality) → Lifts (right_of v) f (binary_equal v (join m on) e f)
right-lifts v m on e f a b y z s t h =
    pairs-keep v on (λ c d. lifted (left_of v) e c d || lifted (right_of v) f c d) a b
    (or-right (lifted (left_of v) e a b) (lifted (right_of v) f a b) (lifted-lifts (right_of v) f a b y z s t h))

-- the columns of each pair are equal in the output of a join
pair-itself : (x y : ℕ) (e : Equality) → e x x ≡ true → e y y ≡ true → with_pair x y e x y ≡ true
pair-itself x y e h k = or-right (e x y) ((e x x && e y y) || (e x y && e x y)) (or-left (e x x && e y y) (e x y && e x y) (and-both (e x x) (e y y) h k))

pairs-equal : (v w : ℕ) (on : List (ℕ × ℕ)) (e : Equality) → ((a : ℕ) → e a a ≡ true) → list_all (pair_within v w) on ≡ true
    → list_all (λ p. nat_lt p.0 v && with_pairs v on e p.0 (v + p.1)) on ≡ true
pairs-equal v w on e itself named = go on named (λ a b h. h)
  where
    self : (ps : List (ℕ × ℕ)) (a : ℕ) → with_pairs v ps e a a ≡ true
    self ps a = pairs-keep v ps e a a (itself a)

    go : (ps : List (ℕ × ℕ)) → list_all (pair_within v w) ps ≡ true → ((a b : ℕ) → with_pairs v ps e a b ≡ true → with_pairs v on e a b ≡ true)
        → list_all (λ p. nat_lt p.0 v && with_pairs v on e p.0 (v + p.1)) ps ≡ true
    go [] h more = refl
    go (p ∷ ps) h more =
        and-both (nat_lt p.0 v && with_pairs v on e p.0 (v + p.1)) (list_all (λ q. nat_lt q.0 v && with_pairs v on e q.0 (v + q.1)) ps)
        (and-both (nat_lt p.0 v) (with_pairs v on e p.0 (v + p.1)) (and-left (nat_lt p.0 v) (nat_lt p.1 w) (and-left (pair_within v w p) (list_all (pair_within v w) ps) h))
        (more p.0 (v + p.1) (pair-itself p.0 (v + p.1) (with_pairs v ps e) (self ps p.0) (self ps (v + p.1)))))
        (go ps (and-right (pair_within v w p) (list_all (pair_within v w) ps) h) (λ a b k. more a b (pair-keeps p.0 (v + p.1) (with_pairs v ps e) a b k)))

pub joined-equal : (v w : ℕ) (m : JoinMethod) (on : List (ℕ × ℕ)) (e f : Equality) → ((a : ℕ) → e a a ≡ true) → list_all (pair_within v w) on ≡ true
    → list_all (λ p. nat_lt p.0 v && binary_equal v (join m on) e f p.0 (v + p.1)) on ≡ true
joined-equal v w m on e f itself named =
    pairs-equal v w on (λ a b. lifted (left_of v) e a b || lifted (right_of v) f a b)
    (λ a. or-left (lifted (left_of v) e a a) (lifted (right_of v) f a a) (or-left (a == a) (both_equal e (source (left_of v) a) (source (left_of v) a)) (eq-eqb a a refl))) named
