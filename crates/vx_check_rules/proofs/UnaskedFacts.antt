-- The rules do not ask for the functions of a plan.
use Rattle.std.proofs.Common.{◌≡◌, ℕ, Bool, true, false, not, ◌&&◌, ◌||◌, List, [], ◌∷◌, map, refl, ap, ap₂, ◌∙◌}
use Rattle.std.specs.List.{list_all, list_any}
use Rattle.vx_rows_values.specs.declared.order.OrderEntry.{OrderEntry}
use Rattle.vx_rows_values.specs.Order.{order_columns}
use Rattle.vx_catalog_relations.specs.Relation.{Relation}
use Rattle.vx_plan_nodes.specs.Plan.{Part, one, any, all, routed, Entry, Unary, select, project, distinct, sort, group, limit, plain, partial, final, by_hashing, by_merging, Binary, union, join, semi_join, ExchangeKind, route_to, round, broadcast, gather, concat, Plan, scan, unary, binary, exchange, claim, size_eq, is_one, left_order, right_order}
use Rattle.vx_plan_nodes.specs.Parts.{kind_part}
use Rattle.vx_plan_nodes.specs.Types.{width}
use Rattle.vx_plan_nodes.specs.Describe.{kept_column, whole_rows, left_of, right_of}
use Rattle.vx_plan_nodes.specs.Under.{Functions, entry_under, unary_under, under}
use Rattle.vx_plan_nodes.proofs.UnderFacts.{map-same, kept-under, described-under, size-under, claim-under, number-under, width-under}
use Rattle.vx_plan_facts.specs.Equal.{Equality, equal_at}
use Rattle.vx_plan_facts.specs.Determined.{Columns, sources_in, determined, determined_aside}
use Rattle.vx_plan_facts.specs.Following.{set_of, short, order_follows, total_follows}
use Rattle.vx_plan_facts.proofs.UnderFacts.{equal-under, determined-under, aside-under}
use Rattle.vx_check_rules.specs.Rules.{part_gives, has, within, is_front, copied, copied_from, copied_among, copied_order_from, if_order, routed_within, left_columns, right_columns, routed_alike, through, sizes_match, not_replicated, binary_inputs_match, keeps_apart, inputs_match, order_given, numbers_below, is_total_order, first_rows_known, unary_shows, alike_shows, both_have, shows, unless_one, part_shown, unary_orders, goes_on, orders, order_shown, covers, unary_keys, join_keys, keys_of, keys_shown, allowed_here, allowed}
use Rattle.vx_check_rules.specs.Derived.{part_matches, routed_alike_equally, unary_meets_equally, binary_meets_equally, inputs_match_derived, routed_as, is_any, part_derived, part_shown_derived, needed_follows, order_given_derived, is_total_derived, first_rows_known_derived, front_copies, rises_equally, goes_on_derived, unary_order, binary_order, follows_at, order_derived, order_shown_derived, members, key_below, key_derived, keys_shown_derived, allowed_here_derived, allowed_derived}
use Rattle.vx_check_rules.specs.Refusal.{size_mismatch, root_not_one, part_not_shown, inputs_not_matched, replicated_input, order_not_shown, order_needed, key_not_shown, total_not_shown, first_rows_open, or_else, refused_at, first_failing}
use Rattle.vx_check_rules.specs.Tables.{inputs_match_by, order_given_by, first_rows_known_by, part_shown_by, order_shown_by, keys_shown_by, is_total_by, tests_by, root_tests_by, refusal_by, allowed_by, root_allowed_by}
use Rattle.vx_check_rules.specs.Unasked.{FunctionsAreNotAsked}

has-under : (given : Functions) (p : Plan) (q : Part) → has (under given p) q ≡ has p q
has-under given p q = λ i. is_one (size-under given p i) || part_gives (claim-under given p i).part q

-- the columns that a projection keeps
kept-same : (given : Functions) (es : List Entry) → map kept_column (map (entry_under given) es) ≡ map kept_column es
kept-same given es = map-same kept_column (entry_under given) (kept-under given) es

-- ---- sizes, and what operators ask of their inputs

sizes-under : (given : Functions) (p : Plan) → sizes_match (under given p) ≡ sizes_match p
sizes-under given (scan n c r m z) = refl
sizes-under given (unary n c op p) = refl
sizes-under given (binary n c op p q) = ap₂ size_eq (size-under given p) (size-under given q)
sizes-under given (exchange n c k m p) = refl

replicated-under : (given : Functions) (p : Plan) → not_replicated (under given p) ≡ not_replicated p
replicated-under given (scan n c r m z) = refl
replicated-under given (unary n c op p) = refl
replicated-under given (binary n c op p q) = refl
replicated-under given (exchange n c k m p) = has-under given p any

keeps-under : (given : Functions) (op : Unary) (p : Plan) → keeps_apart (unary_under given op) (under given p) ≡ keeps_apart op p
keeps-under given (select fs) p = refl
keeps-under given (project es) p = refl
keeps-under given (distinct cols) p = λ i. has-under given p all i || routed_within (claim-under given p i).part cols
keeps-under given (sort of_parts order) p = refl
keeps-under given (group plain by aggregates) p = λ i. has-under given p all i || routed_within (claim-under given p i).part by
keeps-under given (group partial by aggregates) p = refl
keeps-under given (group final by aggregates) p = λ i. has-under given p all i || routed_within (claim-under given p i).part by
keeps-under given (limit n) p = refl

both-match-under : (given : Functions) (op : Binary) (p q : Plan) → binary_inputs_match op (under given p) (under given q) ≡ binary_inputs_match op p q
both-match-under given union p q = λ i. (has-under given p any i && has-under given q any i) || (has-under given p all i && has-under given q all i)
both-match-under given (join m on) p q =
    λ i. routed_alike on (claim-under given p i).part (claim-under given q i).part || has-under given q all i || has-under given p all i
both-match-under given (semi_join matched on conditions) p q =
    λ i. routed_alike on (claim-under given p i).part (claim-under given q i).part || has-under given q all i

match-under : (given : Functions) (p : Plan) → inputs_match (under given p) ≡ inputs_match p
match-under given (scan n c r m z) = refl
match-under given (unary n c op p) = λ i. is_one (size-under given p i) || keeps-under given op p i
match-under given (binary n c op p q) = λ i. is_one (size-under given p i) || both-match-under given op p q i
match-under given (exchange n c k m p) = refl

given-under : (given : Functions) (p : Plan) → order_given (under given p) ≡ order_given p
given-under given (scan n c r m z) = refl
given-under given (unary n c op p) = refl
given-under given (binary n c union p q) = refl
given-under given (binary n c (join by_hashing on) p q) = refl
given-under given (binary n c (join (by_merging falls) on) p q) =
    λ i. is_front (left_order falls on) (claim-under given p i).order && is_front (right_order falls on) (claim-under given q i).order
given-under given (binary n c (semi_join matched on conditions) p q) = refl
given-under given (exchange n c k merge p) = λ i. is_front merge (claim-under given p i).order

total-under : (given : Functions) (catalog : ℕ → Relation) (p : Plan) → is_total_order catalog (under given p) ≡ is_total_order catalog p
total-under given catalog p =
    λ i. list_any (λ k. within k (order_columns (claim-under given p i).order)) (claim-under given p i).keys
    || within (numbers_below (width-under given catalog p i)) (order_columns (claim-under given p i).order)

first-rows-under : (given : Functions) (catalog : ℕ → Relation) (p : Plan) → first_rows_known catalog (under given p) ≡ first_rows_known catalog p
first-rows-under given catalog (scan n c r m z) = refl
first-rows-under given catalog (unary n c (select fs) p) = refl
first-rows-under given catalog (unary n c (project es) p) = refl
first-rows-under given catalog (unary n c (distinct cols) p) = refl
first-rows-under given catalog (unary n c (sort of_parts order) p) = refl
first-rows-under given catalog (unary n c (group phase by aggregates) p) = refl
first-rows-under given catalog (unary n c (limit m) p) = λ i. is_one (size-under given p i) && total-under given catalog p i
first-rows-under given catalog (binary n c op p q) = refl
first-rows-under given catalog (exchange n c k m p) = refl

-- ---- parts

unary-shows-under : (given : Functions) (op : Unary) (p : Plan) (q : Part) → unary_shows (unary_under given op) (under given p) q ≡ unary_shows op p q
unary-shows-under given (select fs) p q = has-under given p q
unary-shows-under given (project es) p q = λ i. through (λ x. has-under given p x i) (copied_from (kept-same given es i)) q
unary-shows-under given (distinct cols) p q = λ i. through (λ x. has-under given p x i) (copied cols) q
unary-shows-under given (sort of_parts order) p q = has-under given p q
unary-shows-under given (group phase by aggregates) p q = λ i. through (λ x. has-under given p x i) (copied by) q
unary-shows-under given (limit n) p q = has-under given p q

both-have-under : (given : Functions) (p q : Plan) (x : Part) → both_have (under given p) (under given q) x ≡ both_have p q x
both-have-under given p q one = refl
both-have-under given p q any = λ i. has-under given p any i && has-under given q any i
both-have-under given p q all = λ i. has-under given p all i && has-under given q all i
both-have-under given p q (routed r cols) = λ i. has-under given p (routed r cols) i && has-under given q (routed r cols) i

shows-under : (given : Functions) (catalog : ℕ → Relation) (p : Plan) (x : Part) → shows catalog (under given p) x ≡ shows catalog p x
shows-under given catalog (scan n c r m z) x = refl
shows-under given catalog (unary n c op p) x = unary-shows-under given op p x
shows-under given catalog (binary n c union p q) x = both-have-under given p q x
shows-under given catalog (binary n c (join m on) p q) x =
    λ i. (routed_alike on (claim-under given p i).part (claim-under given q i).part
    && alike_shows (width-under given catalog p i) (claim-under given p i).part (claim-under given q i).part x)
    || (has-under given q all i && through (λ y. has-under given p y i) (left_columns (width-under given catalog p i)) x)
    || (has-under given p all i && through (λ y. has-under given q y i) (right_columns (width-under given catalog p i)) x)
shows-under given catalog (binary n c (semi_join matched on conditions) p q) x =
    λ i. (routed_alike on (claim-under given p i).part (claim-under given q i).part && part_gives (claim-under given p i).part x)
    || (has-under given q all i && has-under given p x i)
shows-under given catalog (exchange n c k m p) x = refl

part-under : (given : Functions) (catalog : ℕ → Relation) (p : Plan) → part_shown catalog (under given p) ≡ part_shown catalog p
part-under given catalog p = λ i. is_one (size-under given p i) || unless_one (λ x. shows-under given catalog p x i) (claim-under given p i).part

-- ---- orders

unary-orders-under : (given : Functions) (op : Unary) (below order : List OrderEntry) → unary_orders (unary_under given op) below order ≡ unary_orders op below order
unary-orders-under given (select fs) below order = refl
unary-orders-under given (project es) below order = ap (λ ks. if_order (copied_order_from ks order) (λ o. is_front o below)) (kept-same given es)
unary-orders-under given (distinct cols) below order = refl
unary-orders-under given (sort of_parts given_order) below order = refl
unary-orders-under given (group phase by aggregates) below order = refl
unary-orders-under given (limit n) below order = refl

orders-under : (given : Functions) (catalog : ℕ → Relation) (p : Plan) (order : List OrderEntry) → orders catalog (under given p) order ≡ orders catalog p order
orders-under given catalog (scan n c r m z) order = refl
orders-under given catalog (unary n c op p) order =
    unary-orders-under given op (claim (under given p)).order order ∙ ap (λ d. unary_orders op d.order order) (claim-under given p)
orders-under given catalog (binary n c union p q) order = refl
orders-under given catalog (binary n c (join m on) p q) order = λ i. is_front order (claim-under given p i).order
orders-under given catalog (binary n c (semi_join matched on conditions) p q) order = λ i. is_front order (claim-under given p i).order
orders-under given catalog (exchange n c k merge p) order =
    λ i. is_front order merge || ((is_one (size-under given p i) || goes_on k (claim-under given p i)) && is_front order (claim-under given p i).order)

order-under : (given : Functions) (catalog : ℕ → Relation) (p : Plan) → order_shown catalog (under given p) ≡ order_shown catalog p
order-under given catalog p = orders-under given catalog p (claim (under given p)).order ∙ ap (λ d. orders catalog p d.order) (claim-under given p)

-- ---- keys

unary-keys-under : (given : Functions) (op : Unary) (keys : List (List ℕ)) (x : List ℕ) → unary_keys (unary_under given op) keys x ≡ unary_keys op keys x
unary-keys-under given (select fs) keys x = refl
unary-keys-under given (project es) keys x = ap (λ ks. covers keys (copied_among ks x)) (kept-same given es)
unary-keys-under given (distinct cols) keys x = refl
unary-keys-under given (sort of_parts order) keys x = refl
unary-keys-under given (group phase by aggregates) keys x = refl
unary-keys-under given (limit n) keys x = refl

keys-of-under : (given : Functions) (catalog : ℕ → Relation) (p : Plan) (x : List ℕ) → keys_of catalog (under given p) x ≡ keys_of catalog p x
keys-of-under given catalog (scan n c r m z) x = refl
keys-of-under given catalog (unary n c op p) x =
    unary-keys-under given op (claim (under given p)).keys x ∙ ap (λ d. unary_keys op d.keys x) (claim-under given p)
keys-of-under given catalog (binary n c union p q) x = refl
keys-of-under given catalog (binary n c (join m on) p q) x =
    λ i. join_keys on (width-under given catalog p i) (claim-under given p i).keys (claim-under given q i).keys x
keys-of-under given catalog (binary n c (semi_join matched on conditions) p q) x = λ i. covers (claim-under given p i).keys x
keys-of-under given catalog (exchange n c k m p) x = λ i. covers (claim-under given p i).keys x

keys-under : (given : Functions) (catalog : ℕ → Relation) (p : Plan) → keys_shown catalog (under given p) ≡ keys_shown catalog p
keys-under given catalog p = λ i. list_all (λ x. keys-of-under given catalog p x i) (claim-under given p i).keys

-- ---- with what is known of columns: what operators ask of their inputs

meets-under : (given : Functions) (e : Equality) (op : Unary) (q : Part) → unary_meets_equally e (unary_under given op) q ≡ unary_meets_equally e op q
meets-under given e (select fs) q = refl
meets-under given e (project es) q = refl
meets-under given e (distinct cols) q = refl
meets-under given e (sort of_parts order) q = refl
meets-under given e (group phase by aggregates) q = refl
meets-under given e (limit n) q = refl

match-derived-under : (given : Functions) (catalog : ℕ → Relation) (p : Plan) → inputs_match_derived catalog (under given p) ≡ inputs_match_derived catalog p
match-derived-under given catalog (scan n c r m z) = refl
match-derived-under given catalog (unary n c op p) =
    ap₂ (λ a b. a || b) (match-under given (unary n c op p))
    (meets-under given (equal_at catalog (under given p)) op (claim (under given p)).part
    ∙ ap₂ (λ e d. unary_meets_equally e op d.part) (equal-under given catalog p) (claim-under given p))
match-derived-under given catalog (binary n c op p q) =
    λ i. match-under given (binary n c op p q) i
    || binary_meets_equally (equal-under given catalog p i) (equal-under given catalog q i) op (claim-under given p i).part (claim-under given q i).part
match-derived-under given catalog (exchange n c k m p) = refl

needed-under : (given : Functions) (catalog : ℕ → Relation) (p : Plan) → needed_follows catalog (under given p) ≡ needed_follows catalog p
needed-under given catalog (scan n c r m z) = refl
needed-under given catalog (unary n c op p) = refl
needed-under given catalog (binary n c union p q) = refl
needed-under given catalog (binary n c (join by_hashing on) p q) = refl
needed-under given catalog (binary n c (join (by_merging falls) on) p q) =
    λ i. order_follows (equal-under given catalog p i) (determined-under given catalog p i) (claim-under given p i).order (left_order falls on)
    && order_follows (equal-under given catalog q i) (determined-under given catalog q i) (claim-under given q i).order (right_order falls on)
needed-under given catalog (binary n c (semi_join matched on conditions) p q) = refl
needed-under given catalog (exchange n c k merge p) =
    λ i. order_follows (equal-under given catalog p i) (determined-under given catalog p i) (claim-under given p i).order merge

given-derived-under : (given : Functions) (catalog : ℕ → Relation) (p : Plan) → order_given_derived catalog (under given p) ≡ order_given_derived catalog p
given-derived-under given catalog p = λ i. given-under given p i || needed-under given catalog p i

total-derived-under : (given : Functions) (catalog : ℕ → Relation) (p : Plan) → is_total_derived catalog (under given p) ≡ is_total_derived catalog p
total-derived-under given catalog p =
    λ i. total-under given catalog p i
    || total_follows (width-under given catalog p i) (determined-under given catalog p i) (claim-under given p i).keys (order_columns (claim-under given p i).order)

first-derived-under : (given : Functions) (catalog : ℕ → Relation) (p : Plan) → first_rows_known_derived catalog (under given p) ≡ first_rows_known_derived catalog p
first-derived-under given catalog (scan n c r m z) = refl
first-derived-under given catalog (unary n c (select fs) p) = refl
first-derived-under given catalog (unary n c (project es) p) = refl
first-derived-under given catalog (unary n c (distinct cols) p) = refl
first-derived-under given catalog (unary n c (sort of_parts order) p) = refl
first-derived-under given catalog (unary n c (group phase by aggregates) p) = refl
first-derived-under given catalog (unary n c (limit m) p) = λ i. is_one (size-under given p i) && total-derived-under given catalog p i
first-derived-under given catalog (binary n c op p q) = refl
first-derived-under given catalog (exchange n c k m p) = refl

-- ---- parts

part-derived-at : (given : Functions) (catalog : ℕ → Relation) (p : Plan) (x : Part) → part_derived catalog (under given p) x ≡ part_derived catalog p x
part-derived-at given catalog (scan n c r m z) x = refl
part-derived-at given catalog (unary n c op p) x =
    λ i. routed_as (width-under given catalog (unary n c op p) i) (described-under given op i).copying (equal-under given catalog p i)
    (equal-under given catalog (unary n c op p) i) (claim-under given p i).part x
part-derived-at given catalog (binary n c union p q) x =
    λ i. part_matches (equal-under given catalog p i) (claim-under given p i).part x && part_matches (equal-under given catalog q i) (claim-under given q i).part x
part-derived-at given catalog (binary n c (join m on) p q) x =
    λ i. (is_any x && alike i)
    || (((has-under given q all i || alike i)
    && routed_as (wide i) (left_of (width-under given catalog p i)) (equal-under given catalog p i) (equal i) (claim-under given p i).part x)
    || ((has-under given p all i || alike i)
    && routed_as (wide i) (right_of (width-under given catalog p i)) (equal-under given catalog q i) (equal i) (claim-under given q i).part x))
  where
    alike : routed_alike_equally (equal_at catalog (under given p)) (equal_at catalog (under given q)) on (claim (under given p)).part (claim (under given q)).part
        ≡ routed_alike_equally (equal_at catalog p) (equal_at catalog q) on (claim p).part (claim q).part
    alike = λ i. routed_alike_equally (equal-under given catalog p i) (equal-under given catalog q i) on (claim-under given p i).part (claim-under given q i).part

    wide : width catalog (under given (binary n c (join m on) p q)) ≡ width catalog (binary n c (join m on) p q)
    wide = width-under given catalog (binary n c (join m on) p q)

    equal : equal_at catalog (under given (binary n c (join m on) p q)) ≡ equal_at catalog (binary n c (join m on) p q)
    equal = equal-under given catalog (binary n c (join m on) p q)
part-derived-at given catalog (binary n c (semi_join matched on conditions) p q) x =
    λ i. (is_any x && alike i)
    || ((has-under given q all i || alike i)
    && routed_as (width-under given catalog p i) whole_rows (equal-under given catalog p i) (equal i) (claim-under given p i).part x)
  where
    alike : routed_alike_equally (equal_at catalog (under given p)) (equal_at catalog (under given q)) on (claim (under given p)).part (claim (under given q)).part
        ≡ routed_alike_equally (equal_at catalog p) (equal_at catalog q) on (claim p).part (claim q).part
    alike = λ i. routed_alike_equally (equal-under given catalog p i) (equal-under given catalog q i) on (claim-under given p i).part (claim-under given q i).part

    equal : equal_at catalog (under given (binary n c (semi_join matched on conditions) p q)) ≡ equal_at catalog (binary n c (semi_join matched on conditions) p q)
    equal = equal-under given catalog (binary n c (semi_join matched on conditions) p q)
part-derived-at given catalog (exchange n c k m p) x = λ i. part_matches (equal-under given catalog p i) (kind_part k) x

part-derived-under : (given : Functions) (catalog : ℕ → Relation) (p : Plan) → part_shown_derived catalog (under given p) ≡ part_shown_derived catalog p
part-derived-under given catalog p =
    ap₂ (λ a b. a || b) (part-under given catalog p)
    (part-derived-at given catalog p (claim (under given p)).part ∙ ap (λ d. part_derived catalog p d.part) (claim-under given p))

-- ---- orders

goes-under : (given : Functions) (catalog : ℕ → Relation) (k : ExchangeKind) (p : Plan) → goes_on_derived catalog k (under given p) ≡ goes_on_derived catalog k p
goes-under given catalog (route_to z r cols) p = refl
goes-under given catalog (round z) p = refl
goes-under given catalog (broadcast z) p = refl
goes-under given catalog gather p = refl
goes-under given catalog concat p =
    λ i. rises_equally (equal-under given catalog p i) (determined-under given catalog p i) (claim-under given p i).part (claim-under given p i).order

unary-order-under : (given : Functions) (w : ℕ) (op : Unary) (e : Equality) (det : Columns → Columns) (below : List OrderEntry)
    → unary_order w (unary_under given op) e det below ≡ unary_order w op e det below
unary-order-under given w (select fs) e det below = refl
unary-order-under given w (project es) e det below = ap (λ d. front_copies w d.copying e (short det below)) (described-under given (project es))
unary-order-under given w (distinct cols) e det below = refl
unary-order-under given w (sort of_parts order) e det below = refl
unary-order-under given w (group phase by aggregates) e det below = refl
unary-order-under given w (limit n) e det below = refl

follows-under : (given : Functions) (catalog : ℕ → Relation) (p : Plan) (own other order : List OrderEntry) → own ≡ other
    → follows_at catalog (under given p) own order ≡ follows_at catalog p other order
follows-under given catalog p own other order same = λ i. order_follows (equal-under given catalog p i) (determined-under given catalog p i) (same i) order

order-derived-at : (given : Functions) (catalog : ℕ → Relation) (p : Plan) (order : List OrderEntry) → order_derived catalog (under given p) order ≡ order_derived catalog p order
order-derived-at given catalog (scan n c r m z) order = refl
order-derived-at given catalog (unary n c op p) order =
    follows-under given catalog (unary n c op p)
    (unary_order (width catalog (under given (unary n c op p))) (unary_under given op) (equal_at catalog (under given p)) (determined catalog (under given p)) (claim (under given p)).order)
    (unary_order (width catalog (unary n c op p)) op (equal_at catalog p) (determined catalog p) (claim p).order) order
    (unary-order-under given (width catalog (under given (unary n c op p))) op (equal_at catalog (under given p)) (determined catalog (under given p)) (claim (under given p)).order ∙ same)
  where
    same : unary_order (width catalog (under given (unary n c op p))) op (equal_at catalog (under given p)) (determined catalog (under given p)) (claim (under given p)).order
        ≡ unary_order (width catalog (unary n c op p)) op (equal_at catalog p) (determined catalog p) (claim p).order
    same = λ i. unary_order (width-under given catalog (unary n c op p) i) op (equal-under given catalog p i) (determined-under given catalog p i) (claim-under given p i).order
order-derived-at given catalog (binary n c op p q) order =
    follows-under given catalog (binary n c op p q) (binary_order op (claim (under given p)).order) (binary_order op (claim p).order) order
    (ap (λ d. binary_order op d.order) (claim-under given p))
order-derived-at given catalog (exchange n c k merge p) order =
    λ i. follows-under given catalog (exchange n c k merge p) merge merge order refl i
    || ((is_one (size-under given p i) || goes-under given catalog k p i)
    && follows-under given catalog (exchange n c k merge p) (claim (under given p)).order (claim p).order order (ap (λ d. d.order) (claim-under given p)) i)

order-derived-under : (given : Functions) (catalog : ℕ → Relation) (p : Plan) → order_shown_derived catalog (under given p) ≡ order_shown_derived catalog p
order-derived-under given catalog p =
    ap₂ (λ a b. a || b) (order-under given catalog p)
    (order-derived-at given catalog p (claim (under given p)).order ∙ ap (λ d. order_derived catalog p d.order) (claim-under given p))

-- ---- keys

below-under : (given : Functions) (catalog : ℕ → Relation) (p : Plan) (key : List ℕ) → key_below catalog (under given p) key ≡ key_below catalog p key
below-under given catalog (scan n c r m z) key = refl
below-under given catalog (unary n c (select fs) p) key = refl
below-under given catalog (unary n c (project es) p) key =
    λ i. list_any (list_all (determined-under given catalog p i
    (sources_in (width-under given catalog (unary n c (project es) p) i) (described-under given (project es) i).copying (set_of key)))) (claim-under given p i).keys
below-under given catalog (unary n c (distinct cols) p) key = refl
below-under given catalog (unary n c (sort of_parts order) p) key = refl
below-under given catalog (unary n c (group phase by aggregates) p) key = refl
below-under given catalog (unary n c (limit m) p) key = refl
below-under given catalog (binary n c op p q) key = refl
below-under given catalog (exchange n c k m p) key = refl

key-derived-at : (given : Functions) (catalog : ℕ → Relation) (p : Plan) (key : List ℕ) → key_derived catalog (under given p) key ≡ key_derived catalog p key
key-derived-at given catalog p key =
    ap₂ (λ a b. a || b) (keys-of-under given catalog p key)
    (ap₂ (λ a b. a || b)
    (keys-of-under given catalog p (members (width catalog (under given p)) (determined_aside catalog (under given p) (set_of key)))
    ∙ ap₂ (λ w det. keys_of catalog p (members w (det (set_of key)))) (width-under given catalog p) (aside-under given catalog p))
    (below-under given catalog p key))

keys-derived-under : (given : Functions) (catalog : ℕ → Relation) (p : Plan) → keys_shown_derived catalog (under given p) ≡ keys_shown_derived catalog p
keys-derived-under given catalog p = λ i. list_all (λ key. key-derived-at given catalog p key i) (claim-under given p i).keys

-- ---- all tests of a node, by either table

match-by : (given : Functions) (derives : Bool) (catalog : ℕ → Relation) (p : Plan) → inputs_match_by derives catalog (under given p) ≡ inputs_match_by derives catalog p
match-by given false catalog p = match-under given p
match-by given true catalog p = match-derived-under given catalog p

given-by : (given : Functions) (derives : Bool) (catalog : ℕ → Relation) (p : Plan) → order_given_by derives catalog (under given p) ≡ order_given_by derives catalog p
given-by given false catalog p = given-under given p
given-by given true catalog p = given-derived-under given catalog p

first-by : (given : Functions) (derives : Bool) (catalog : ℕ → Relation) (p : Plan) → first_rows_known_by derives catalog (under given p) ≡ first_rows_known_by derives catalog p
first-by given false catalog p = first-rows-under given catalog p
first-by given true catalog p = first-derived-under given catalog p

part-by : (given : Functions) (derives : Bool) (catalog : ℕ → Relation) (p : Plan) → part_shown_by derives catalog (under given p) ≡ part_shown_by derives catalog p
part-by given false catalog p = part-under given catalog p
part-by given true catalog p = part-derived-under given catalog p

order-by : (given : Functions) (derives : Bool) (catalog : ℕ → Relation) (p : Plan) → order_shown_by derives catalog (under given p) ≡ order_shown_by derives catalog p
order-by given false catalog p = order-under given catalog p
order-by given true catalog p = order-derived-under given catalog p

keys-by : (given : Functions) (derives : Bool) (catalog : ℕ → Relation) (p : Plan) → keys_shown_by derives catalog (under given p) ≡ keys_shown_by derives catalog p
keys-by given false catalog p = keys-under given catalog p
keys-by given true catalog p = keys-derived-under given catalog p

total-by : (given : Functions) (derives : Bool) (catalog : ℕ → Relation) (p : Plan) → is_total_by derives catalog (under given p) ≡ is_total_by derives catalog p
total-by given false catalog p = total-under given catalog p
total-by given true catalog p = total-derived-under given catalog p

tests-under : (given : Functions) (derives : Bool) (catalog : ℕ → Relation) (p : Plan) → tests_by derives catalog (under given p) ≡ tests_by derives catalog p
tests-under given derives catalog p =
    λ i. (sizes-under given p i, size_mismatch) ∷ (replicated-under given p i, replicated_input) ∷ (match-by given derives catalog p i, inputs_not_matched)
    ∷ (given-by given derives catalog p i, order_needed) ∷ (first-by given derives catalog p i, first_rows_open) ∷ (part-by given derives catalog p i, part_not_shown)
    ∷ (order-by given derives catalog p i, order_not_shown) ∷ (keys-by given derives catalog p i, key_not_shown) ∷ []

root-tests-under : (given : Functions) (derives : Bool) (catalog : ℕ → Relation) (total : Bool) (p : Plan)
    → root_tests_by derives catalog total (under given p) ≡ root_tests_by derives catalog total p
root-tests-under given derives catalog total p =
    λ i. (is_one (size-under given p i), root_not_one) ∷ (not total || total-by given derives catalog p i, total_not_shown) ∷ []

-- ---- all nodes

here-under : (given : Functions) (catalog : ℕ → Relation) (p : Plan) → allowed_here catalog (under given p) ≡ allowed_here catalog p
here-under given catalog p =
    λ i. sizes-under given p i && (replicated-under given p i && (match-under given p i && (given-under given p i && (first-rows-under given catalog p i
    && (part-under given catalog p i && (order-under given catalog p i && keys-under given catalog p i))))))

here-derived-under : (given : Functions) (catalog : ℕ → Relation) (p : Plan) → allowed_here_derived catalog (under given p) ≡ allowed_here_derived catalog p
here-derived-under given catalog p =
    λ i. sizes-under given p i && (replicated-under given p i && (match-derived-under given catalog p i && (given-derived-under given catalog p i
    && (first-derived-under given catalog p i
    && (part-derived-under given catalog p i && (order-derived-under given catalog p i && keys-derived-under given catalog p i))))))

allowed-under : (given : Functions) (catalog : ℕ → Relation) (p : Plan) → allowed catalog (under given p) ≡ allowed catalog p
allowed-under given catalog (scan n c r m z) = refl
allowed-under given catalog (unary n c op p) = λ i. allowed-under given catalog p i && here-under given catalog (unary n c op p) i
allowed-under given catalog (binary n c op p q) =
    λ i. allowed-under given catalog p i && (allowed-under given catalog q i && here-under given catalog (binary n c op p q) i)
allowed-under given catalog (exchange n c k m p) = λ i. allowed-under given catalog p i && here-under given catalog (exchange n c k m p) i

allowed-derived-under : (given : Functions) (catalog : ℕ → Relation) (p : Plan) → allowed_derived catalog (under given p) ≡ allowed_derived catalog p
allowed-derived-under given catalog (scan n c r m z) = refl
allowed-derived-under given catalog (unary n c op p) = λ i. allowed-derived-under given catalog p i && here-derived-under given catalog (unary n c op p) i
allowed-derived-under given catalog (binary n c op p q) =
    λ i. allowed-derived-under given catalog p i && (allowed-derived-under given catalog q i && here-derived-under given catalog (binary n c op p q) i)
allowed-derived-under given catalog (exchange n c k m p) = λ i. allowed-derived-under given catalog p i && here-derived-under given catalog (exchange n c k m p) i

allowed-by-under : (given : Functions) (derives : Bool) (catalog : ℕ → Relation) (p : Plan) → allowed_by derives catalog (under given p) ≡ allowed_by derives catalog p
allowed-by-under given false catalog p = allowed-under given catalog p
allowed-by-under given true catalog p = allowed-derived-under given catalog p

root-by-under : (given : Functions) (derives : Bool) (catalog : ℕ → Relation) (total : Bool) (p : Plan)
    → root_allowed_by derives catalog total (under given p) ≡ root_allowed_by derives catalog total p
root-by-under given false catalog total p = λ i. is_one (size-under given p i) && (not total || total-under given catalog p i)
root-by-under given true catalog total p = λ i. is_one (size-under given p i) && (not total || total-derived-under given catalog p i)

failing-under : (given : Functions) (derives : Bool) (catalog : ℕ → Relation) (p : Plan)
    → first_failing (tests_by derives catalog) (under given p) ≡ first_failing (tests_by derives catalog) p
failing-under given derives catalog (scan n c r m z) = refl
failing-under given derives catalog (unary n c op p) =
    λ i. or_else (failing-under given derives catalog p i) (refused_at n (tests-under given derives catalog (unary n c op p) i))
failing-under given derives catalog (binary n c op p q) =
    λ i. or_else (failing-under given derives catalog p i) (or_else (failing-under given derives catalog q i) (refused_at n (tests-under given derives catalog (binary n c op p q) i)))
failing-under given derives catalog (exchange n c k m p) =
    λ i. or_else (failing-under given derives catalog p i) (refused_at n (tests-under given derives catalog (exchange n c k m p) i))

refusal-under : (given : Functions) (derives : Bool) (catalog : ℕ → Relation) (total : Bool) (p : Plan)
    → refusal_by derives catalog total (under given p) ≡ refusal_by derives catalog total p
refusal-under given derives catalog total p =
    λ i. or_else (failing-under given derives catalog p i) (refused_at (number-under given p i) (root-tests-under given derives catalog total p i))

pub functions-are-not-asked : FunctionsAreNotAsked
functions-are-not-asked = record { allowed = allowed-by-under; root = root-by-under; refused = refusal-under }
