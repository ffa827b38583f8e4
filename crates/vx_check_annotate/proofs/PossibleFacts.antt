-- The only directions that accepted claims could ask for: a plan that no claims have to change compares in them.
use Rattle.std.proofs.Common.{◌≡◌, ◌∙◌, ℕ, suc, Bool, true, false, cond, not, ◌&&◌, List, [], ◌∷◌, drop, length, Option, Some, None, is_some, option_map, refl, sym, ap, ap₂, eqb-true}
use Rattle.std.specs.List.{list_all}
use Rattle.vx_rows_values.specs.declared.order.OrderEntry.{OrderEntry}
use Rattle.vx_rows_values.specs.Lists.{is_some_list}
use Rattle.vx_rows_values.specs.declared.value.ColType.{ColType}
use Rattle.vx_rows_values.specs.Order.{entry_eq}
use Rattle.vx_rows_values.proofs.Booleans.{and-left, and-right, and-both}
use Rattle.vx_catalog_relations.specs.Relation.{Relation}
use Rattle.vx_catalog_relations.specs.Catalog.{relation_at}
use Rattle.vx_plan_nodes.specs.Plan.{Claim, by_hashing, by_merging, left_order, right_order, Binary, union, join, semi_join, Plan, scan, unary, binary, exchange}
use Rattle.vx_plan_nodes.specs.Typed.{Scope, is_pair, are_distinct_pairs, has_directions, is_binary, typed}
use Rattle.vx_plan_nodes.specs.Phases.{both_closed}
use Rattle.vx_plan_nodes.specs.Types.{types_of}
use Rattle.vx_check_rules.specs.Rules.{is_front, sizes_match}
use Rattle.vx_check_rules.specs.Refusal.{or_else, refused_at}
use Rattle.vx_check_rules.proofs.Refusals.{passed, none-both, none-failed}
use Rattle.vx_check_options.specs.Options.{OrderChoices, has_entry, narrowed, places_at, can_send, can_meet, can_order, can_keep, fit_tests, first_unfit}
use Rattle.vx_check_options.specs.Laws.{may_begin}
use Rattle.vx_check_options.specs.Placed.{is_chosen}
use Rattle.vx_check_options.proofs.Entries.{entry-same}
use Rattle.vx_check_directions.specs.Turned.{pairs_of, in_falls, Choice, IsFull, turned, rising_pairs, DifferInDirections}
use Rattle.vx_check_directions.proofs.Alike.{pairs-alike, falls-twice}
use Rattle.vx_check_annotate.specs.Possible.{rising_entry, possible_falls, possible_operator, possible, possible_choice}
use Rattle.vx_check_annotate.proofs.OneWay.{IsOneWay, AreOneWay, places-one-way}

-- ---- one place

abbrev falling-entry : ℕ → Bool → OrderEntry
falling-entry c f = record { column = c; falling = f }

-- where a column falls it does not rise
no-other : (s : List OrderEntry) (c : ℕ) → IsOneWay s → has_entry s (falling-entry c true) ≡ true → has_entry s (rising_entry c) ≡ false
no-other s c one h = by (has_entry s (rising_entry c)) refl
  where
    by : (b : Bool) → has_entry s (rising_entry c) ≡ b → b ≡ false
    by true e = one (falling-entry c true) (rising_entry c) h e
    by false e = refl

here-falls : (s t : List OrderEntry) (c d : ℕ) (f : Bool) → IsOneWay s → has_entry s (falling-entry c f) ≡ true → has_entry t (falling-entry d f) ≡ true
    → not (has_entry s (rising_entry c) && has_entry t (rising_entry d)) ≡ f
here-falls s t c d false one a b = ap₂ (λ x y. not (x && y)) a b
here-falls s t c d true one a b = ap (λ x. not (x && has_entry t (rising_entry d))) (no-other s c one a)

-- ---- orders

-- directions in which both inputs can be are the only ones
pub only-falls : (lefts rights : OrderChoices) (on : List (ℕ × ℕ)) (falls : List Bool) → AreOneWay lefts → length falls ≡ length on → may_begin (left_order falls on) lefts ≡ true → may_begin (right_order falls on) rights ≡ true
    → possible_falls lefts rights on ≡ falls
only-falls lefts rights [] [] one l a b = refl
only-falls lefts rights [] (f ∷ falls) one l a b = cc
only-falls lefts rights (x ∷ on) [] one l a b = cc
only-falls [] rights (x ∷ on) (f ∷ falls) one l a b = cc
only-falls (s ∷ lefts) [] (x ∷ on) (f ∷ falls) one l a b = cc
only-falls (s ∷ lefts) (t ∷ rights) (x ∷ on) (f ∷ falls) one l a b =
    let left = may_begin (left_order falls on) lefts in
    let right = may_begin (right_order falls on) rights in
    let more : length falls ≡ length on = cc in
    ap₂ (λ g gs. g ∷ gs)
    (here-falls s t x.0 x.1 f one.0 (and-left (has_entry s (falling-entry x.0 f)) left a) (and-left (has_entry t (falling-entry x.1 f)) right b))
    (only-falls lefts rights on falls one.1 more (and-right (has_entry s (falling-entry x.0 f)) left a) (and-right (has_entry t (falling-entry x.1 f)) right b))

-- an order to which places can be narrowed may begin there
narrowed-begins : (order : List OrderEntry) (places : OrderChoices) → is_some (narrowed order places) ≡ true → may_begin order places ≡ true
narrowed-begins [] places h = refl
narrowed-begins (e ∷ es) [] h = cc
narrowed-begins (e ∷ es) (s ∷ places) h = by (has_entry s e) (narrowed es places) refl (narrowed-begins es places) h
  where
    by : (b : Bool) (o : Option OrderChoices) → has_entry s e ≡ b → (is_some o ≡ true → may_begin es places ≡ true) → is_some (cond b (option_map (λ more. (e ∷ []) ∷ more) o) None) ≡ true
        → (has_entry s e && may_begin es places) ≡ true
    by false o f g k = cc
    by true None f g k = cc
    by true (Some more) f g k = and-both (has_entry s e) (may_begin es places) f (g refl)

-- one that is chosen does
pub chosen-begins : (order : List OrderEntry) (places : OrderChoices) → is_chosen order places ≡ true → may_begin order places ≡ true
chosen-begins [] places h = refl
chosen-begins (e ∷ es) [] h = cc
chosen-begins (e ∷ es) (s ∷ places) h =
    and-both (has_entry s e) (may_begin es places) (and-left (has_entry s e) (is_chosen es places) h) (chosen-begins es places (and-right (has_entry s e) (is_chosen es places) h))

-- and so does what it begins with
pub front-begins : (front order : List OrderEntry) (places : OrderChoices) → is_front front order ≡ true → may_begin order places ≡ true → may_begin front places ≡ true
front-begins [] order places h k = refl
front-begins (x ∷ xs) [] places h k = cc
front-begins (x ∷ xs) (y ∷ ys) [] h k = cc
front-begins (x ∷ xs) (y ∷ ys) (s ∷ places) h k =
    let same : x ≡ y = entry-same x y (and-left (entry_eq x y) (is_front xs ys) h) in
    and-both (has_entry s x) (may_begin xs places) (ap (has_entry s) same ∙ and-left (has_entry s y) (may_begin ys places) k)
    (front-begins xs ys places (and-right (entry_eq x y) (is_front xs ys) h) (and-right (has_entry s y) (may_begin ys places) k))

-- ---- operators

-- of a join as many directions as pairs
abbrev pub has_falls : Binary → Bool
has_falls union = true
has_falls (join m on) = has_directions m on
has_falls (semi_join matched on conditions) = true

abbrev can_order_over : Binary → (lefts rights : OrderChoices) → Bool
can_order_over (join (by_merging falls) on) lefts rights = is_some (narrowed (left_order falls on) lefts) && is_some (narrowed (right_order falls on) rights)
can_order_over op lefts rights = true

operator-stays : (lefts rights : OrderChoices) (op : Binary) → AreOneWay lefts → has_falls op ≡ true → can_order_over op lefts rights ≡ true → possible_operator lefts rights op ≡ op
operator-stays lefts rights union one f h = refl
operator-stays lefts rights (join by_hashing on) one f h = refl
operator-stays lefts rights (semi_join matched on conditions) one f h = refl
operator-stays lefts rights (join (by_merging falls) on) one f h =
    let left = is_some (narrowed (left_order falls on) lefts) in
    let right = is_some (narrowed (right_order falls on) rights) in
    ap (λ fs. join (by_merging fs) on)
    (only-falls lefts rights on falls one (eqb-true (length falls) (length on) f) (narrowed-begins (left_order falls on) lefts (and-left left right h))
    (narrowed-begins (right_order falls on) rights (and-right left right h)))

order-over : (catalog : ℕ → Relation) (n : ℕ) (c : Claim) (op : Binary) (p q : Plan) → can_order catalog (binary n c op p q) ≡ can_order_over op (places_at catalog p) (places_at catalog q)
order-over catalog n c union p q = refl
order-over catalog n c (join by_hashing on) p q = refl
order-over catalog n c (join (by_merging falls) on) p q = refl
order-over catalog n c (semi_join matched on conditions) p q = refl

-- ---- plans

-- every join has them
abbrev pub have_falls : Plan → Bool
have_falls (scan n c r m z) = true
have_falls (unary n c op p) = have_falls p
have_falls (binary n c op p q) = have_falls p && (have_falls q && has_falls op)
have_falls (exchange n c k m p) = have_falls p

operator-typed : (ts us : List ColType) (op : Binary) → is_binary ts us op ≡ true → has_falls op ≡ true
operator-typed ts us union h = refl
operator-typed ts us (join m on) h =
    and-right (are_distinct_pairs on) (has_directions m on)
    (and-right (list_all (is_pair ts us) on) (are_distinct_pairs on && has_directions m on) (and-right (is_some_list on) (list_all (is_pair ts us) on && (are_distinct_pairs on && has_directions m on)) h))
operator-typed ts us (semi_join matched on conditions) h = refl

pub typed-falls : (s : Scope) (p : Plan) → typed s p ≡ true → have_falls p ≡ true
typed-falls s (scan n c r m z) h = refl
typed-falls s (unary n c op p) h = typed-falls s p (and-left (typed s p) _ h)
typed-falls s (binary n c op p q) h =
    let one = and-right (typed s p) _ h in
    let two = and-right (both_closed p q) _ (and-right (typed s q) _ one) in
    and-both (have_falls p) (have_falls q && has_falls op) (typed-falls s p (and-left (typed s p) _ h))
    (and-both (have_falls q) (has_falls op) (typed-falls s q (and-left (typed s q) _ one))
    (operator-typed (types_of (relation_at s.catalog) p) (types_of (relation_at s.catalog) q) op (and-left (is_binary (types_of (relation_at s.catalog) p) (types_of (relation_at s.catalog) q) op) _ two)))
typed-falls s (exchange n c k m p) h = typed-falls s p (and-left (typed s p) _ h)

-- the inputs of a node that fits can be in the order that it needs
fit-ordered : (catalog : ℕ → Relation) (p : Plan) → passed (fit_tests catalog p) ≡ true → can_order catalog p ≡ true
fit-ordered catalog p h =
    and-left (can_order catalog p) (can_keep catalog p)
    (and-right (can_meet catalog p) (can_order catalog p && can_keep catalog p)
    (and-right (can_send catalog p) (can_meet catalog p && (can_order catalog p && can_keep catalog p))
    (and-right (sizes_match p) (can_send catalog p && (can_meet catalog p && (can_order catalog p && can_keep catalog p))) h)))

-- a plan without an unfit node compares in the directions that are left it
pub fit-stays : (catalog : ℕ → Relation) (p : Plan) → have_falls p ≡ true → first_unfit catalog p ≡ None → possible catalog p ≡ p
fit-stays catalog (scan n c r m z) f h = refl
fit-stays catalog (unary n c op p) f h =
    ap (unary n c op) (fit-stays catalog p f (none-both (first_unfit catalog p) (refused_at n (fit_tests catalog (unary n c op p))) h).0)
fit-stays catalog (binary n c op p q) f h =
    let here = refused_at n (fit_tests catalog (binary n c op p q)) in
    let w = none-both (first_unfit catalog p) (or_else (first_unfit catalog q) here) h in
    let v = none-both (first_unfit catalog q) here w.1 in
    let more = and-right (have_falls p) (have_falls q && has_falls op) f in
    let left = fit-stays catalog p (and-left (have_falls p) (have_falls q && has_falls op) f) w.0 in
    let right = fit-stays catalog q (and-left (have_falls q) (has_falls op) more) v.0 in
    let ordered = fit-ordered catalog (binary n c op p q) (none-failed n (fit_tests catalog (binary n c op p q)) v.1) in
    let stays : possible_operator (places_at catalog p) (places_at catalog q) op ≡ op =
    operator-stays (places_at catalog p) (places_at catalog q) op (places-one-way catalog p) (and-right (have_falls q) (has_falls op) more) (sym (order-over catalog n c op p q) ∙ ordered) in
    ap₂ (λ a b. binary n c (possible_operator (places_at catalog a) (places_at catalog b) op) a b) left right ∙ ap (λ o. binary n c o p q) stays
fit-stays catalog (exchange n c k m p) f h =
    ap (exchange n c k m) (fit-stays catalog p f (none-both (first_unfit catalog p) (refused_at n (fit_tests catalog (exchange n c k m p))) h).0)

-- ---- whatever directions they had

operator-again : (lefts rights : OrderChoices) (falls : List Bool) (op : Binary) → possible_operator lefts rights (in_falls falls op) ≡ possible_operator lefts rights op
operator-again lefts rights falls op =
    ap (λ on. in_falls (possible_falls lefts rights on) (in_falls falls op)) (pairs-alike falls op) ∙ falls-twice (possible_falls lefts rights (pairs_of op)) falls op

pub possible-again : (catalog : ℕ → Relation) (h : Choice) (p : Plan) → possible catalog (turned h p) ≡ possible catalog p
possible-again catalog h (scan n c r m z) = refl
possible-again catalog h (unary n c op p) = ap (unary n c op) (possible-again catalog h p)
possible-again catalog h (binary n c op p q) =
    ap₂ (λ a b. binary n c (possible_operator (places_at catalog a) (places_at catalog b) (in_falls (h (pairs_of op) p q) op)) a b) (possible-again catalog h p) (possible-again catalog h q)
    ∙ ap (λ o. binary n c o (possible catalog p) (possible catalog q)) (operator-again (places_at catalog (possible catalog p)) (places_at catalog (possible catalog q)) (h (pairs_of op) p q) op)
possible-again catalog h (exchange n c k m p) = ap (exchange n c k m) (possible-again catalog h p)

-- so plans that differ in directions alone get the same ones
pub possible-same : (catalog : ℕ → Relation) (p q : Plan) → DifferInDirections p q → possible catalog p ≡ possible catalog q
possible-same catalog p q h = sym (possible-again catalog rising_pairs p) ∙ (ap (possible catalog) h ∙ possible-again catalog rising_pairs q)

pub possible-turned : (catalog : ℕ → Relation) (p : Plan) → possible catalog p ≡ turned (possible_choice catalog) p
possible-turned catalog (scan n c r m z) = refl
possible-turned catalog (unary n c op p) = ap (unary n c op) (possible-turned catalog p)
possible-turned catalog (binary n c op p q) =
    ap₂ (binary n c (possible_operator (places_at catalog (possible catalog p)) (places_at catalog (possible catalog q)) op)) (possible-turned catalog p) (possible-turned catalog q)
possible-turned catalog (exchange n c k m p) = ap (exchange n c k m) (possible-turned catalog p)

-- as many directions as pairs
pub possible-length : (lefts rights : OrderChoices) (on : List (ℕ × ℕ)) → length (possible_falls lefts rights on) ≡ length on
possible-length lefts rights [] = refl
possible-length lefts rights (x ∷ on) = ap suc (possible-length (drop 1 lefts) (drop 1 rights) on)

pub possible-full : (catalog : ℕ → Relation) → IsFull (possible_choice catalog)
possible-full catalog on p q = possible-length (places_at catalog (possible catalog p)) (places_at catalog (possible catalog q)) on
