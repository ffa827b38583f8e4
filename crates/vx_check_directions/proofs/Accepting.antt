-- The law: a plan that a table accepts with some directions is accepted with those that its claims ask for.
use Rattle.std.proofs.Common.{◌≡◌, ℕ, suc, Bool, true, false, not, cond, ◌&&◌, ◌||◌, ◌==◌, ⊎_elim, List, [], ◌∷◌, map, length, refl, sym, ap, ap₂, ◌∙◌, subst, true≢false, eqb-true, eq-eqb}
use Rattle.std.specs.Prelude.{⊤}
use Rattle.std.specs.List.{list_all}
use Rattle.vx_rows_values.specs.Lists.{is_some_list}
use Rattle.vx_rows_values.specs.declared.order.OrderEntry.{OrderEntry}
use Rattle.vx_rows_values.specs.Order.{entry_eq}
use Rattle.vx_rows_values.proofs.Booleans.{and-left, and-right, and-both}
use Rattle.vx_catalog_relations.specs.Relation.{Relation}
use Rattle.vx_catalog_relations.specs.Catalog.{relation_at}
use Rattle.vx_rows_values.specs.Test.{Test, equal, unequal, below, at_most, above, at_least}
use Rattle.vx_plan_nodes.specs.Plan.{Claim, is_one, Side, column, constant, Condition, Unary, select, project, distinct, sort, group, limit, by_hashing, by_merging, Binary, union, join, semi_join, Plan, scan, unary, binary, exchange, claim, left_order, right_order}
use Rattle.vx_plan_nodes.specs.Types.{width, types_of}
use Rattle.vx_plan_nodes.specs.Phases.{both_closed}
use Rattle.vx_plan_nodes.specs.Typed.{Scope, typed, is_binary, is_pair, are_distinct_pairs}
use Rattle.vx_plan_nodes.specs.Describe.{left_of, right_of}
use Rattle.vx_plan_facts.specs.Equal.{Equality, each_itself, lifted, with_test, with_conditions, comparisons, with_pairs, unary_equal, equal_at}
use Rattle.vx_plan_facts.specs.Determined.{Columns, determined}
use Rattle.vx_plan_facts.specs.Following.{set_of, equal_entries, begins_equally, short_after, short, order_follows}
use Rattle.vx_plan_facts.proofs.Tests.{or-cases, or-left, or-right}
use Rattle.vx_check_rules.specs.Rules.{is_front, sizes_match, not_replicated, inputs_match, order_given, first_rows_known, part_shown, order_shown, keys_shown, allowed_here, allowed}
use Rattle.vx_check_rules.specs.Derived.{inputs_match_derived, needed_follows, order_given_derived, first_rows_known_derived, part_shown_derived, order_shown_derived, keys_shown_derived, allowed_here_derived, allowed_derived}
use Rattle.vx_check_rules.specs.Tables.{allowed_by, root_allowed_by, refusal_by}
use Rattle.vx_check_rules.proofs.Refusals.{refusal-decides-by}
use Rattle.vx_check_directions.specs.Turned.{pairs_of, in_falls, Choice, turned, rising_pairs, DifferInDirections}
use Rattle.vx_check_directions.specs.Directed.{nothing, determined_by, asks_after, asks, agreed, falls_of, directed, DirectedIsAccepted}
use Rattle.vx_check_directions.proofs.Alike.{pairs-alike, falls-twice, claim-alike, size-alike, equal-alike, determined-alike}
use Rattle.vx_check_directions.proofs.Tests.{sizes-alike, once-alike, inputs-alike, first-alike, part-alike, ordered-alike, total-alike}
use Rattle.vx_check_directions.proofs.Tests as first
use Rattle.vx_check_directions.proofs.DerivedTests.{meets-alike, firsts-alike, parts-alike, orders-alike, totals-alike}
use Rattle.vx_check_directions.proofs.DerivedTests as second
use Rattle.vx_check_directions.proofs.AskedFalls.{asked-follow}

-- ---- each column is equal to itself

itself : (c : ℕ) → (c == c) ≡ true
itself c = eq-eqb c c refl

tested-itself : (x : ℕ) (test : Test) (side : Side) (e : Equality) (c : ℕ) → e c c ≡ true → with_test x test side e c c ≡ true
tested-itself x equal (column y) e c h = or-left (e c c) _ h
tested-itself x equal (constant v) e c h = h
tested-itself x unequal side e c h = h
tested-itself x below side e c h = h
tested-itself x at_most side e c h = h
tested-itself x above side e c h = h
tested-itself x at_least side e c h = h

conditions-itself : (cs : List Condition) (e : Equality) (c : ℕ) → e c c ≡ true → with_conditions cs e c c ≡ true
conditions-itself [] e c h = h
conditions-itself (d ∷ cs) e c h = tested-itself d.left d.test d.right (with_conditions cs e) c (conditions-itself cs e c h)

unary-itself : (op : Unary) (e : Equality) (c : ℕ) → e c c ≡ true → unary_equal op e c c ≡ true
unary-itself (select fs) e c h = conditions-itself (comparisons fs) e c h
unary-itself (project es) e c h = or-left (c == c) _ (itself c)
unary-itself (distinct cols) e c h = or-left (c == c) _ (itself c)
unary-itself (sort of_parts order) e c h = or-left (c == c) _ (itself c)
unary-itself (group phase by aggregates) e c h = or-left (c == c) _ (itself c)
unary-itself (limit m) e c h = or-left (c == c) _ (itself c)

pairs-itself : (w : ℕ) (on : List (ℕ × ℕ)) (e : Equality) (c : ℕ) → e c c ≡ true → with_pairs w on e c c ≡ true
pairs-itself w [] e c h = h
pairs-itself w (x ∷ on) e c h = or-left (with_pairs w on e c c) _ (pairs-itself w on e c h)

pub equal-itself : (catalog : ℕ → Relation) (p : Plan) (c : ℕ) → equal_at catalog p c c ≡ true
equal-itself catalog (scan n k r m z) c = itself c
equal-itself catalog (unary n k op p) c = unary-itself op (equal_at catalog p) c (equal-itself catalog p c)
equal-itself catalog (binary n k union p q) c = and-both (equal_at catalog p c c) (equal_at catalog q c c) (equal-itself catalog p c) (equal-itself catalog q c)
equal-itself catalog (binary n k (join method on) p q) c =
    pairs-itself (width catalog p) on (λ a b. lifted (left_of (width catalog p)) (equal_at catalog p) a b || lifted (right_of (width catalog p)) (equal_at catalog q) a b) c
    (or-left (lifted (left_of (width catalog p)) (equal_at catalog p) c c) _ (or-left (c == c) _ (itself c)))
equal-itself catalog (binary n k (semi_join matched on conditions) p q) c = equal-itself catalog p c
equal-itself catalog (exchange n k x m p) c = equal-itself catalog p c

-- ---- an order that begins another one follows from it

same-direction : (b : Bool) → cond b b (not b) ≡ true
same-direction true = refl
same-direction false = refl

direction-is : (a b : Bool) → cond a b (not b) ≡ true → a ≡ b
direction-is true true h = refl
direction-is true false h = cc
direction-is false true h = cc
direction-is false false h = refl

entry-is : (x y : OrderEntry) → entry_eq x y ≡ true → x ≡ y
entry-is x y h =
    let c = eqb-true x.column y.column (and-left (x.column == y.column) (cond x.falling y.falling (not y.falling)) h) in
    let f = direction-is x.falling y.falling (and-right (x.column == y.column) (cond x.falling y.falling (not y.falling)) h) in
    λ i. record { column = c i; falling = f i }

module _ (e : Equality) (det : Columns → Columns) (same : (c : ℕ) → e c c ≡ true) where
  front-begins : (before : List ℕ) (xs ys : List OrderEntry) → is_front xs ys ≡ true → begins_equally e (short_after det before xs) (short_after det before ys) ≡ true
  front-begins before [] ys h = refl
  front-begins before (x ∷ xs) [] h = absurd (true≢false (sym h))
  front-begins before (x ∷ xs) (y ∷ ys) h =
      let is : x ≡ y = entry-is x y (and-left (entry_eq x y) (is_front xs ys) h) in
      let P : OrderEntry → Type 0 = λ z. begins_equally e (short_after det before (x ∷ xs)) (short_after det before (z ∷ ys)) ≡ true in
      subst P is (go (det (set_of before) x.column) (front-begins (x.column ∷ before) xs ys (and-right (entry_eq x y) (is_front xs ys) h)))
    where
      go : (b : Bool) → begins_equally e (short_after det (x.column ∷ before) xs) (short_after det (x.column ∷ before) ys) ≡ true
          → begins_equally e (cond b (short_after det (x.column ∷ before) xs) (x ∷ short_after det (x.column ∷ before) xs))
          (cond b (short_after det (x.column ∷ before) ys) (x ∷ short_after det (x.column ∷ before) ys)) ≡ true
      go true k = k
      go false k = and-both (equal_entries e x x) _ (and-both (e x.column x.column) _ (same x.column) (same-direction x.falling)) k

  pub front-follows : (order given : List OrderEntry) → is_front order given ≡ true → order_follows e det given order ≡ true
  front-follows order given h = front-begins [] order given h

-- where nothing is known of columns an order is one that follows exactly where it begins the other one
pub nothing-short : (before : List ℕ) (order : List OrderEntry) → short_after nothing before order ≡ order
nothing-short before [] = refl
nothing-short before (c ∷ order) = ap (λ xs. c ∷ xs) (nothing-short (c.column ∷ before) order)

front-is : (order given : List OrderEntry) → begins_equally each_itself order given ≡ is_front order given
front-is [] given = refl
front-is (x ∷ xs) [] = refl
front-is (x ∷ xs) (y ∷ ys) = ap (λ b. entry_eq x y && b) (front-is xs ys)

plainly : (order given : List OrderEntry) → order_follows each_itself nothing given order ≡ is_front order given
plainly order given = ap₂ (begins_equally each_itself) (nothing-short [] order) (nothing-short [] given) ∙ front-is order given

-- ---- what a plan asks for does not depend on the directions that it has

determined-by-alike : (derives : Bool) (catalog : ℕ → Relation) (h : Choice) (p : Plan) → determined_by derives catalog (turned h p) ≡ determined_by derives catalog p
determined-by-alike false catalog h p = refl
determined-by-alike true catalog h p = determined-alike catalog h p

pub asks-alike : (derives : Bool) (catalog : ℕ → Relation) (h : Choice) (p : Plan) (cols : List ℕ) → asks derives catalog (turned h p) cols ≡ asks derives catalog p cols
asks-alike derives catalog h p cols =
    ap₂ (λ det c. asks_after det [] (short det c.order) cols) (determined-by-alike derives catalog h p) (claim-alike h p)

pub falls-alike : (derives : Bool) (catalog : ℕ → Relation) (h : Choice) (on : List (ℕ × ℕ)) (p q : Plan) → falls_of derives catalog on (turned h p) (turned h q) ≡ falls_of derives catalog on p q
falls-alike derives catalog h on p q = ap₂ agreed (asks-alike derives catalog h p (map (λ x. x.0) on)) (asks-alike derives catalog h q (map (λ x. x.1) on))

pub directed-again : (derives : Bool) (catalog : ℕ → Relation) (h : Choice) (p : Plan) → directed derives catalog (turned h p) ≡ directed derives catalog p
directed-again derives catalog h (scan n c r m z) = refl
directed-again derives catalog h (unary n c op p) = ap (unary n c op) (directed-again derives catalog h p)
directed-again derives catalog h (binary n c op p q) =
    let f : List Bool = h (pairs_of op) p q in
    ap (λ o. binary n c o (directed derives catalog (turned h p)) (directed derives catalog (turned h q)))
    (ap (λ on. in_falls (falls_of derives catalog on (turned h p) (turned h q)) (in_falls f op)) (pairs-alike f op)
    ∙ (falls-twice (falls_of derives catalog (pairs_of op) (turned h p) (turned h q)) f op ∙ ap (λ g. in_falls g op) (falls-alike derives catalog h (pairs_of op) p q)))
    ∙ ap₂ (binary n c (in_falls (falls_of derives catalog (pairs_of op) p q) op)) (directed-again derives catalog h p) (directed-again derives catalog h q)
directed-again derives catalog h (exchange n c k m p) = ap (exchange n c k m) (directed-again derives catalog h p)

pub directed-alike : (derives : Bool) (catalog : ℕ → Relation) (p q : Plan) → DifferInDirections p q → directed derives catalog p ≡ directed derives catalog q
directed-alike derives catalog p q same =
    sym (directed-again derives catalog rising_pairs p) ∙ (ap (directed derives catalog) same ∙ directed-again derives catalog rising_pairs q)

-- ---- the orders that a node needs

length-firsts : (on : List (ℕ × ℕ)) → length (map (λ x. x.0) on) ≡ length on
length-firsts [] = refl
length-firsts (x ∷ on) = ap suc (length-firsts on)

length-seconds : (on : List (ℕ × ℕ)) → length (map (λ x. x.1) on) ≡ length on
length-seconds [] = refl
length-seconds (x ∷ on) = ap suc (length-seconds on)

-- as many directions as pairs, where a node merges
abbrev pub HasFalls : Plan → Type 0
HasFalls (binary n c (join (by_merging falls) on) p q) = length falls ≡ length on
HasFalls p = ⊤

typed-falls : (s : Scope) (p : Plan) → typed s p ≡ true → HasFalls p
typed-falls s (scan n c r m z) h = tt
typed-falls s (unary n c op p) h = tt
typed-falls s (binary n c union p q) h = tt
typed-falls s (binary n c (join by_hashing on) p q) h = tt
typed-falls s (binary n c (join (by_merging falls) on) p q) h =
    let here = and-right (both_closed p q) _ (and-right (typed s q) _ (and-right (typed s p) _ h)) in
    let is = and-left (is_binary (types_of (relation_at s.catalog) p) (types_of (relation_at s.catalog) q) (join (by_merging falls) on)) _ here in
    eqb-true (length falls) (length on) (and-right (are_distinct_pairs on) _ (and-right (list_all (is_pair (types_of (relation_at s.catalog) p) (types_of (relation_at s.catalog) q)) on) _ (and-right (is_some_list on) _ is)))
typed-falls s (binary n c (semi_join matched on conditions) p q) h = tt
typed-falls s (exchange n c k m p) h = tt

-- in what directions the orders of two inputs begin with these columns
both-asked : (derives : Bool) (catalog : ℕ → Relation) (e f : Equality) (on : List (ℕ × ℕ)) (falls : List Bool) (p q : Plan) → length falls ≡ length on
    → order_follows e (determined_by derives catalog p) (claim p).order (left_order falls on) ≡ true
    → order_follows f (determined_by derives catalog q) (claim q).order (right_order falls on) ≡ true
    → (order_follows e (determined_by derives catalog p) (claim p).order (left_order (falls_of derives catalog on p q) on) ≡ true)
    × (order_follows f (determined_by derives catalog q) (claim q).order (right_order (falls_of derives catalog on p q) on) ≡ true)
both-asked derives catalog e f on falls p q l g h =
    let a = length-firsts on in
    let b = length-seconds on in
    asked-follow e f (determined_by derives catalog p) (determined_by derives catalog q) (claim p).order (claim q).order (map (λ x. x.0) on) (map (λ x. x.1) on) falls (a ∙ sym b) (l ∙ sym a) g h

-- the first table
pub given-directed : (catalog : ℕ → Relation) (p : Plan) → HasFalls p → order_given p ≡ true → order_given (directed false catalog p) ≡ true
given-directed catalog (scan n c r m z) l h = refl
given-directed catalog (unary n c op p) l h = refl
given-directed catalog (binary n c union p q) l h = refl
given-directed catalog (binary n c (join by_hashing on) p q) l h = refl
given-directed catalog (binary n c (join (by_merging falls) on) p q) l h =
    let D : List Bool = falls_of false catalog on p q in
    let g = and-left (is_front (left_order falls on) (claim p).order) (is_front (right_order falls on) (claim q).order) h in
    let k = and-right (is_front (left_order falls on) (claim p).order) (is_front (right_order falls on) (claim q).order) h in
    let both = both-asked false catalog each_itself each_itself on falls p q l (plainly (left_order falls on) (claim p).order ∙ g) (plainly (right_order falls on) (claim q).order ∙ k) in
    rw (claim-alike (falls_of false catalog) p, claim-alike (falls_of false catalog) q)
    (and-both (is_front (left_order D on) (claim p).order) (is_front (right_order D on) (claim q).order)
    (sym (plainly (left_order D on) (claim p).order) ∙ both.0) (sym (plainly (right_order D on) (claim q).order) ∙ both.1))
given-directed catalog (binary n c (semi_join matched on conditions) p q) l h = refl
given-directed catalog (exchange n c k m p) l h = rw (claim-alike (falls_of false catalog) p) h

-- the second
merging-follows : (catalog : ℕ → Relation) (n : ℕ) (c : Claim) (falls : List Bool) (on : List (ℕ × ℕ)) (p q : Plan) → order_given_derived catalog (binary n c (join (by_merging falls) on) p q) ≡ true
    → needed_follows catalog (binary n c (join (by_merging falls) on) p q) ≡ true
merging-follows catalog n c falls on p q h =
    let a : Bool = order_follows (equal_at catalog p) (determined catalog p) (claim p).order (left_order falls on) in
    let b : Bool = order_follows (equal_at catalog q) (determined catalog q) (claim q).order (right_order falls on) in
    let x : Bool = is_front (left_order falls on) (claim p).order in
    let y : Bool = is_front (right_order falls on) (claim q).order in
    ⊎_elim
    (λ l. and-both a b (front-follows (equal_at catalog p) (determined catalog p) (equal-itself catalog p) (left_order falls on) (claim p).order (and-left x y l))
    (front-follows (equal_at catalog q) (determined catalog q) (equal-itself catalog q) (right_order falls on) (claim q).order (and-right x y l)))
    (λ l. l)
    (or-cases (x && y) (a && b) h)

pub follows-directed : (catalog : ℕ → Relation) (p : Plan) → HasFalls p → order_given_derived catalog p ≡ true → order_given_derived catalog (directed true catalog p) ≡ true
follows-directed catalog (scan n c r m z) l h = refl
follows-directed catalog (unary n c op p) l h = refl
follows-directed catalog (binary n c union p q) l h = refl
follows-directed catalog (binary n c (join by_hashing on) p q) l h = refl
follows-directed catalog (binary n c (join (by_merging falls) on) p q) l h =
    let D : List Bool = falls_of true catalog on p q in
    let a : Bool = order_follows (equal_at catalog p) (determined catalog p) (claim p).order (left_order falls on) in
    let b : Bool = order_follows (equal_at catalog q) (determined catalog q) (claim q).order (right_order falls on) in
    let told = merging-follows catalog n c falls on p q h in
    let both = both-asked true catalog (equal_at catalog p) (equal_at catalog q) on falls p q l (and-left a b told) (and-right a b told) in
    let t : Plan = turned (falls_of true catalog) p in
    let u : Plan = turned (falls_of true catalog) q in
    or-right (is_front (left_order D on) (claim t).order && is_front (right_order D on) (claim u).order) (needed_follows catalog (binary n c (join (by_merging D) on) t u))
    (rw (
      equal-alike catalog (falls_of true catalog) p,
      determined-alike catalog (falls_of true catalog) p,
      claim-alike (falls_of true catalog) p,
      equal-alike catalog (falls_of true catalog) q,
      determined-alike catalog (falls_of true catalog) q,
      claim-alike (falls_of true catalog) q,
    )
    (and-both (order_follows (equal_at catalog p) (determined catalog p) (claim p).order (left_order D on)) (order_follows (equal_at catalog q) (determined catalog q) (claim q).order (right_order D on)) both.0 both.1))
follows-directed catalog (binary n c (semi_join matched on conditions) p q) l h = refl
follows-directed catalog (exchange n c k m p) l h =
    rw (claim-alike (falls_of true catalog) p, equal-alike catalog (falls_of true catalog) p, determined-alike catalog (falls_of true catalog) p) h

-- ---- nodes

-- one of eight tests is replaced
swap-fourth : (a b c d x e f g h : Bool) → (d ≡ true → x ≡ true) → (a && (b && (c && (d && (e && (f && (g && h))))))) ≡ true → (a && (b && (c && (x && (e && (f && (g && h))))))) ≡ true
swap-fourth true true true d x e f g h k l = let rest : Bool = e && (f && (g && h)) in and-both x rest (k (and-left d rest l)) (and-right d rest l)
swap-fourth true true false d x e f g h k l = l
swap-fourth true false c d x e f g h k l = l
swap-fourth false b c d x e f g h k l = l

here-directed : (catalog : ℕ → Relation) (p : Plan) → HasFalls p → allowed_here catalog p ≡ true → allowed_here catalog (directed false catalog p) ≡ true
here-directed catalog p l ok =
    let h : Choice = falls_of false catalog in
    let x : Bool = order_given (turned h p) in
    (λ i. sizes-alike h p i && (once-alike h p i && (inputs-alike h p i && (x && (first-alike catalog h p i && (part-alike catalog h p i && (ordered-alike catalog h p i && first.keys-alike catalog h p i)))))))
    ∙ swap-fourth (sizes_match p) (not_replicated p) (inputs_match p) (order_given p) x (first_rows_known catalog p) (part_shown catalog p) (order_shown catalog p) (keys_shown catalog p)
    (given-directed catalog p l) ok

there-directed : (catalog : ℕ → Relation) (p : Plan) → HasFalls p → allowed_here_derived catalog p ≡ true → allowed_here_derived catalog (directed true catalog p) ≡ true
there-directed catalog p l ok =
    let h : Choice = falls_of true catalog in
    let x : Bool = order_given_derived catalog (turned h p) in
    (λ i. sizes-alike h p i && (once-alike h p i && (meets-alike catalog h p i && (x && (firsts-alike catalog h p i && (parts-alike catalog h p i && (orders-alike catalog h p i && second.keys-alike catalog h p i)))))))
    ∙ swap-fourth (sizes_match p) (not_replicated p) (inputs_match_derived catalog p) (order_given_derived catalog p) x (first_rows_known_derived catalog p) (part_shown_derived catalog p)
    (order_shown_derived catalog p) (keys_shown_derived catalog p) (follows-directed catalog p l) ok

-- ---- plans

below-typed : (s : Scope) (n : ℕ) (c : Claim) (op : Binary) (p q : Plan) → typed s (binary n c op p q) ≡ true → (typed s p ≡ true) × (typed s q ≡ true)
below-typed s n c op p q h = (and-left (typed s p) _ h, and-left (typed s q) _ (and-right (typed s p) _ h))

module _ (s : Scope) where
  abbrev C : ℕ → Relation
  C = relation_at s.catalog

  pub allowed-directed : (p : Plan) → typed s p ≡ true → allowed C p ≡ true → allowed C (directed false C p) ≡ true
  allowed-directed (scan n c r m z) t h = here-directed C (scan n c r m z) (typed-falls s (scan n c r m z) t) h
  allowed-directed (unary n c op p) t h =
      and-both (allowed C (directed false C p)) _ (allowed-directed p (and-left (typed s p) _ t) (and-left (allowed C p) _ h))
      (here-directed C (unary n c op p) (typed-falls s (unary n c op p) t) (and-right (allowed C p) _ h))
  allowed-directed (binary n c op p q) t h =
      let below = below-typed s n c op p q t in
      let rest = and-right (allowed C p) _ h in
      and-both (allowed C (directed false C p)) _ (allowed-directed p below.0 (and-left (allowed C p) _ h))
      (and-both (allowed C (directed false C q)) _ (allowed-directed q below.1 (and-left (allowed C q) _ rest))
      (here-directed C (binary n c op p q) (typed-falls s (binary n c op p q) t) (and-right (allowed C q) _ rest)))
  allowed-directed (exchange n c k m p) t h =
      and-both (allowed C (directed false C p)) _ (allowed-directed p (and-left (typed s p) _ t) (and-left (allowed C p) _ h))
      (here-directed C (exchange n c k m p) (typed-falls s (exchange n c k m p) t) (and-right (allowed C p) _ h))

  pub derived-directed : (p : Plan) → typed s p ≡ true → allowed_derived C p ≡ true → allowed_derived C (directed true C p) ≡ true
  derived-directed (scan n c r m z) t h = there-directed C (scan n c r m z) (typed-falls s (scan n c r m z) t) h
  derived-directed (unary n c op p) t h =
      and-both (allowed_derived C (directed true C p)) _ (derived-directed p (and-left (typed s p) _ t) (and-left (allowed_derived C p) _ h))
      (there-directed C (unary n c op p) (typed-falls s (unary n c op p) t) (and-right (allowed_derived C p) _ h))
  derived-directed (binary n c op p q) t h =
      let below = below-typed s n c op p q t in
      let rest = and-right (allowed_derived C p) _ h in
      and-both (allowed_derived C (directed true C p)) _ (derived-directed p below.0 (and-left (allowed_derived C p) _ h))
      (and-both (allowed_derived C (directed true C q)) _ (derived-directed q below.1 (and-left (allowed_derived C q) _ rest))
      (there-directed C (binary n c op p q) (typed-falls s (binary n c op p q) t) (and-right (allowed_derived C q) _ rest)))
  derived-directed (exchange n c k m p) t h =
      and-both (allowed_derived C (directed true C p)) _ (derived-directed p (and-left (typed s p) _ t) (and-left (allowed_derived C p) _ h))
      (there-directed C (exchange n c k m p) (typed-falls s (exchange n c k m p) t) (and-right (allowed_derived C p) _ h))

  nodes-directed : (derives : Bool) (p : Plan) → typed s p ≡ true → allowed_by derives C p ≡ true → allowed_by derives C (directed derives C p) ≡ true
  nodes-directed false p t h = allowed-directed p t h
  nodes-directed true p t h = derived-directed p t h

  root-directed : (derives total : Bool) (p : Plan) → root_allowed_by derives C total (directed derives C p) ≡ root_allowed_by derives C total p
  root-directed false total p = λ i. is_one (size-alike (falls_of false C) p i) && (not total || total-alike C (falls_of false C) p i)
  root-directed true total p = λ i. is_one (size-alike (falls_of true C) p i) && (not total || totals-alike C (falls_of true C) p i)

pub directed-is-accepted : DirectedIsAccepted
directed-is-accepted derives s total p q same t ok =
    let C : ℕ → Relation = relation_at s.catalog in
    let both = (refusal-decides-by derives C total q).0 ok in
    ap (refusal_by derives C total) (directed-alike derives C p q same)
    ∙ (refusal-decides-by derives C total (directed derives C q)).1 (nodes-directed s derives q t both.0, root-directed s derives total q ∙ both.1)
