-- Claims that are placed where joins by merging compare in the only directions that accepted claims could ask for ask for these directions themselves, where they ask for
-- any that their inputs' orders allow: so the checker says the same of both plans.
use Rattle.std.proofs.Common.{◌≡◌, ◌∙◌, ℕ, Bool, true, false, not, ◌&&◌, ◌||◌, List, [], ◌∷◌, refl, sym, ap, ap₂, subst}
use Rattle.vx_rows_values.specs.declared.order.OrderEntry.{OrderEntry}
use Rattle.vx_rows_values.proofs.Booleans.{and-left, and-right}
use Rattle.vx_catalog_relations.specs.Relation.{Relation}
use Rattle.vx_plan_nodes.specs.Plan.{Part, Claim, by_hashing, by_merging, left_order, right_order, Binary, union, join, semi_join, Plan, scan, unary, binary, exchange, claim, is_one}
use Rattle.vx_check_rules.specs.Rules.{is_front, order_given}
use Rattle.vx_check_rules.specs.Refusal.{size_mismatch, root_not_one, part_not_shown, inputs_not_matched, replicated_input, order_not_shown, order_needed, key_not_shown, total_not_shown, first_rows_open, node_tests, or_else, refused_at, first_refused, refusal}
use Rattle.vx_check_options.specs.Options.{OrderChoices, places_at}
use Rattle.vx_check_options.specs.Placed.{is_chosen}
use Rattle.vx_check_options.specs.Claimed.{note, IsClaimed}
use Rattle.vx_check_options.proofs.PlacedKeeps.{places-filled, left-chosen, right-chosen}
use Rattle.vx_check_directions.specs.Directed.{falls_of, directed}
use Rattle.vx_check_directions.proofs.Alike.{number-alike, claim-alike, size-alike}
use Rattle.vx_check_directions.proofs.Tests.{sizes-alike, once-alike, inputs-alike, first-alike, part-alike, ordered-alike, keys-alike, total-alike}
use Rattle.vx_check_directions.proofs.Accepting.{given-directed}
use Rattle.vx_check_directions.proofs.TurnedPlans.{falls-full}
use Rattle.vx_check_annotate.specs.Possible.{possible_falls, possible_operator, possible}
use Rattle.vx_check_annotate.proofs.OneWay.{places-one-way}
use Rattle.vx_check_annotate.proofs.PossibleFacts.{only-falls, chosen-begins, front-begins, possible-length}

-- ---- a node

same-answers : (a b : Bool) → (a ≡ true → b ≡ true) → (b ≡ true → a ≡ true) → a ≡ b
same-answers true b f g = sym (f refl)
same-answers false true f g = g refl
same-answers false false f g = refl

-- a node that merges over inputs whose orders are chosen
given-same : (catalog : ℕ → Relation) (n : ℕ) (c : Claim) (op : Binary) (p q y z : Plan) → is_chosen (claim y).order (places_at catalog p) ≡ true → is_chosen (claim z).order (places_at catalog q) ≡ true
    → order_given (directed false catalog (binary n c (possible_operator (places_at catalog p) (places_at catalog q) op) y z))
    ≡ order_given (binary n c (possible_operator (places_at catalog p) (places_at catalog q) op) y z)
given-same catalog n c union p q y z a b = refl
given-same catalog n c (join by_hashing on) p q y z a b = refl
given-same catalog n c (semi_join matched on conditions) p q y z a b = refl
given-same catalog n c (join (by_merging old) on) p q y z a b =
    same-answers (order_given (directed false catalog node)) (order_given node) back (given-directed catalog node (possible-length lefts rights on))
  where
    lefts : OrderChoices
    lefts = places_at catalog p

    rights : OrderChoices
    rights = places_at catalog q

    falls : List Bool
    falls = possible_falls lefts rights on

    node : Plan
    node = binary n c (join (by_merging falls) on) y z

    asked : List Bool
    asked = falls_of false catalog on y z

    back : order_given (directed false catalog node) ≡ true → order_given node ≡ true
    back h =
        let g : (is_front (left_order asked on) (claim y).order && is_front (right_order asked on) (claim z).order) ≡ true =
        ap₂ (λ (d e : Claim). is_front (left_order asked on) d.order && is_front (right_order asked on) e.order) (sym (claim-alike (falls_of false catalog) y)) (sym (claim-alike (falls_of false catalog) z)) ∙ h in
        let left = and-left (is_front (left_order asked on) (claim y).order) (is_front (right_order asked on) (claim z).order) g in
        let right = and-right (is_front (left_order asked on) (claim y).order) (is_front (right_order asked on) (claim z).order) g in
        let only : falls ≡ asked =
        only-falls lefts rights on asked (places-one-way catalog p) (falls-full false catalog on y z)
        (front-begins (left_order asked on) (claim y).order lefts left (chosen-begins (claim y).order lefts a))
        (front-begins (right_order asked on) (claim z).order rights right (chosen-begins (claim z).order rights b)) in
        ap (λ fs. is_front (left_order fs on) (claim y).order && is_front (right_order fs on) (claim z).order) only ∙ g

-- the other tests do not look at directions
tests-same : (catalog : ℕ → Relation) (n : ℕ) (x : Plan) → order_given (directed false catalog x) ≡ order_given x → refused_at n (node_tests catalog (directed false catalog x)) ≡ refused_at n (node_tests catalog x)
tests-same catalog n x given =
    λ i. refused_at n ((sizes-alike (falls_of false catalog) x i, size_mismatch) ∷ (once-alike (falls_of false catalog) x i, replicated_input) ∷ (inputs-alike (falls_of false catalog) x i, inputs_not_matched)
    ∷ (given i, order_needed) ∷ (first-alike catalog (falls_of false catalog) x i, first_rows_open) ∷ (part-alike catalog (falls_of false catalog) x i, part_not_shown)
    ∷ (ordered-alike catalog (falls_of false catalog) x i, order_not_shown) ∷ (keys-alike catalog (falls_of false catalog) x i, key_not_shown) ∷ [])

-- ---- plans

-- the order at the top is the one that is placed there
order-claimed : (catalog : ℕ → Relation) (p : Plan) (q : Part) (order : List OrderEntry) (x : Plan) → IsClaimed catalog p q order x → (claim x).order ≡ order
order-claimed catalog (scan n c r m z) q order x h = ap (λ y. (claim y).order) h.1
order-claimed catalog (unary n c op p) q order x h = ap (λ y. (claim y).order) h.2
order-claimed catalog (binary n c op p p2) q order x h = ap (λ y. (claim y).order) h.3
order-claimed catalog (exchange n c k m p) q order x h = ap (λ y. (claim y).order) h.2

nodes-same : (catalog : ℕ → Relation) (p : Plan) (q : Part) (order : List OrderEntry) (x : Plan) → IsClaimed catalog (possible catalog p) q order x
    → first_refused catalog (directed false catalog x) ≡ first_refused catalog x
nodes-same catalog (scan n c r m z) q order x h =
    let P : Plan → Type 0 = λ y. first_refused catalog (directed false catalog y) ≡ first_refused catalog y in
    subst P (sym h.1) refl
nodes-same catalog (unary n c op p) q order x h =
    let P : Plan → Type 0 = λ y. first_refused catalog (directed false catalog y) ≡ first_refused catalog y in
    subst P (sym h.2) (ap₂ or_else (nodes-same catalog p _ _ h.1 h.3) (tests-same catalog n (unary n (note q order h.0) op h.1) refl))
nodes-same catalog (binary n c op p p2) q order x h =
    let P : Plan → Type 0 = λ y. first_refused catalog (directed false catalog y) ≡ first_refused catalog y in
    let lefts : OrderChoices = places_at catalog (possible catalog p) in
    let rights : OrderChoices = places_at catalog (possible catalog p2) in
    let new : Binary = possible_operator lefts rights op in
    let left : is_chosen (claim h.1).order lefts ≡ true =
    ap (λ o. is_chosen o lefts) (order-claimed catalog (possible catalog p) _ _ h.1 h.4) ∙ left-chosen new order lefts (places-filled catalog (possible catalog p)) in
    let right : is_chosen (claim h.2).order rights ≡ true =
    ap (λ o. is_chosen o rights) (order-claimed catalog (possible catalog p2) _ _ h.2 h.5) ∙ right-chosen new rights (places-filled catalog (possible catalog p2)) in
    let given = given-same catalog n (note q order h.0) op (possible catalog p) (possible catalog p2) h.1 h.2 left right in
    subst P (sym h.3)
    (ap₂ or_else (nodes-same catalog p _ _ h.1 h.4) (ap₂ or_else (nodes-same catalog p2 _ _ h.2 h.5) (tests-same catalog n (binary n (note q order h.0) new h.1 h.2) given)))
nodes-same catalog (exchange n c k m p) q order x h =
    let P : Plan → Type 0 = λ y. first_refused catalog (directed false catalog y) ≡ first_refused catalog y in
    let given : order_given (directed false catalog (exchange n (note q order h.0) k m h.1)) ≡ order_given (exchange n (note q order h.0) k m h.1) =
    ap (λ (d : Claim). is_front m d.order) (claim-alike (falls_of false catalog) h.1) in
    subst P (sym h.2) (ap₂ or_else (nodes-same catalog p _ _ h.1 h.3) (tests-same catalog n (exchange n (note q order h.0) k m h.1) given))

-- the checker says the same of the plan with the directions that the claims ask for
pub found-directed : (catalog : ℕ → Relation) (total : Bool) (p : Plan) (q : Part) (order : List OrderEntry) (x : Plan) → IsClaimed catalog (possible catalog p) q order x
    → refusal catalog total (directed false catalog x) ≡ refusal catalog total x
found-directed catalog total p q order x h =
    λ i. or_else (nodes-same catalog p q order x h i)
    (refused_at (number-alike (falls_of false catalog) x i)
    ((is_one (size-alike (falls_of false catalog) x i), root_not_one) ∷ (not total || total-alike catalog (falls_of false catalog) x i, total_not_shown) ∷ []))
