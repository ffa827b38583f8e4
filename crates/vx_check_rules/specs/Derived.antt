-- The rule table of a plan that asks for what is known of its columns. A claim is shown too if it follows from one that the table shows, by equal and fixed
-- columns and by what the claimed keys determine.
use Rattle.std.specs.Prelude.{ℕ, Bool, true, false, not, ◌&&◌, ◌||◌, List, [], ◌∷◌, filter, Option, Some, None}
use Rattle.std.specs.List.{list_all, list_any}
use Rattle.vx_rows_values.specs.declared.order.OrderEntry.{OrderEntry}
use Rattle.vx_rows_values.specs.Order.{order_columns}
use Rattle.vx_catalog_relations.specs.Relation.{Relation}
use Rattle.vx_plan_nodes.specs.Plan.{by_range, Part, any, all, routed, Unary, select, project, distinct, sort, group, limit, plain, final, by_merging, Binary, union, join, semi_join, ExchangeKind, concat, Plan, scan, unary, binary, exchange, claim, size, is_one, left_order, right_order}
use Rattle.vx_plan_nodes.specs.Parts.{kind_part}
use Rattle.vx_plan_nodes.specs.Phases.{first_columns}
use Rattle.vx_plan_nodes.specs.Types.{width}
use Rattle.vx_plan_nodes.specs.Describe.{Copying, whole_rows, source, left_of, right_of, described}
use Rattle.vx_plan_facts.specs.Equal.{Equality, equal_at}
use Rattle.vx_plan_facts.specs.Determined.{Columns, column_in, sources_in, determined, determined_aside}
use Rattle.vx_plan_facts.specs.Following.{set_of, equal_lists, short, order_follows, total_follows}
use Rattle.vx_check_rules.specs.Behaviour.{Keyed, keys_give}
use Rattle.vx_check_rules.specs.Rules.{route_eq, has, sizes_match, not_replicated, inputs_match, order_given, first_rows_known, part_shown, order_shown, keys_of, is_total_order}

-- ---- parts

-- the first part gives the second, on equal columns
abbrev pub part_matches : Equality → Part → Part → Bool
part_matches e (routed r cols) (routed s ds) = route_eq r s && equal_lists e cols ds
part_matches e p q = false

-- each of the columns is equal to one of these
abbrev pub within_equally : Equality → List ℕ → List ℕ → Bool
within_equally e cols kept = list_all (λ c. list_any (e c) kept) cols

-- a part that is routed on columns that are all equal to some of these
abbrev pub routed_within_equally : Equality → Part → List ℕ → Bool
routed_within_equally e (routed r cols) kept = within_equally e cols kept
routed_within_equally e q kept = false

-- the columns are equal to those of one of the pairs, at either input
abbrev pub has_pair_equally : (left right : Equality) → List (ℕ × ℕ) → ℕ → ℕ → Bool
has_pair_equally e f on a b = list_any (λ p. e a p.0 && f b p.1) on

abbrev pub all_pairs_equally : (left right : Equality) → List (ℕ × ℕ) → List ℕ → List ℕ → Bool
all_pairs_equally e f on [] [] = true
all_pairs_equally e f on (a ∷ as') (b ∷ bs) = has_pair_equally e f on a b && all_pairs_equally e f on as' bs
all_pairs_equally e f on _ _ = false

-- both inputs are routed alike on columns that are equal to those that the join pairs
abbrev pub routed_alike_equally : (left right : Equality) → List (ℕ × ℕ) → Part → Part → Bool
routed_alike_equally e f on (routed r ls) (routed s rs) = route_eq r s && all_pairs_equally e f on ls rs
routed_alike_equally e f on _ _ = false

-- K4: rows that belong together meet, by equal columns
abbrev pub unary_meets_equally : Equality → Unary → Part → Bool
unary_meets_equally e (distinct cols) q = routed_within_equally e q cols
unary_meets_equally e (group plain by aggregates) q = routed_within_equally e q by
unary_meets_equally e (group final by aggregates) q = routed_within_equally e q by
unary_meets_equally e op q = false

abbrev pub binary_meets_equally : (left right : Equality) → Binary → Part → Part → Bool
binary_meets_equally e f union p q = false
binary_meets_equally e f (join m on) p q = routed_alike_equally e f on p q
binary_meets_equally e f (semi_join matched on conditions) p q = routed_alike_equally e f on p q

abbrev pub inputs_match_derived : (ℕ → Relation) → Plan → Bool
inputs_match_derived catalog (unary n c op p) = inputs_match (unary n c op p) || unary_meets_equally (equal_at catalog p) op (claim p).part
inputs_match_derived catalog (binary n c op p q) =
    inputs_match (binary n c op p q) || binary_meets_equally (equal_at catalog p) (equal_at catalog q) op (claim p).part (claim q).part
inputs_match_derived catalog p = inputs_match p

-- an output column stands for an input column: of the first w columns of the output one that is equal to it there is a copy of a column that is equal to
-- the other one at the input
abbrev pub stands_for : ℕ → Copying → (input output : Equality) → ℕ → ℕ → Bool
stands_for w k e f c x = list_any (λ d. f d c && column_in (λ y. e y x) (source k d)) (first_columns w)

-- equally long, and each stands for the other one
abbrev pub stand_for : ℕ → Copying → (input output : Equality) → List ℕ → List ℕ → Bool
stand_for w k e f [] [] = true
stand_for w k e f (c ∷ cs) (x ∷ xs) = stands_for w k e f c x && stand_for w k e f cs xs
stand_for w k e f _ _ = false

-- an output is routed as this part of an input, on columns that stand for those that it is routed on
abbrev pub routed_as : ℕ → Copying → (input output : Equality) → Part → Part → Bool
routed_as w k e f (routed r xs) (routed s cols) = route_eq r s && stand_for w k e f cols xs
routed_as w k e f p q = false

-- K3: routed parts that a node shows of those that its inputs claim
abbrev pub join_routed : (v w : ℕ) → (left right output : Equality) → List (ℕ × ℕ) → Plan → Plan → Part → Bool
join_routed v w e f g on p q x =
    ((has q all || routed_alike_equally e f on (claim p).part (claim q).part) && routed_as w (left_of v) e g (claim p).part x)
    || ((has p all || routed_alike_equally e f on (claim p).part (claim q).part) && routed_as w (right_of v) f g (claim q).part x)

abbrev pub semi_join_routed : (w : ℕ) → (left right output : Equality) → List (ℕ × ℕ) → Plan → Plan → Part → Bool
semi_join_routed w e f g on p q x = (has q all || routed_alike_equally e f on (claim p).part (claim q).part) && routed_as w whole_rows e g (claim p).part x

-- a join of inputs that are routed alike has each row once
abbrev pub is_any : Part → Bool
is_any any = true
is_any q = false

abbrev pub part_derived : (ℕ → Relation) → Plan → Part → Bool
part_derived catalog (scan n c r m z) x = false
part_derived catalog (unary n c op p) x =
    routed_as (width catalog (unary n c op p)) (described op).copying (equal_at catalog p) (equal_at catalog (unary n c op p)) (claim p).part x
part_derived catalog (binary n c union p q) x =
    part_matches (equal_at catalog p) (claim p).part x && part_matches (equal_at catalog q) (claim q).part x
part_derived catalog (binary n c (join m on) p q) x =
    (is_any x && routed_alike_equally (equal_at catalog p) (equal_at catalog q) on (claim p).part (claim q).part)
    || join_routed (width catalog p) (width catalog (binary n c (join m on) p q)) (equal_at catalog p) (equal_at catalog q) (equal_at catalog (binary n c (join m on) p q)) on p q x
part_derived catalog (binary n c (semi_join matched on conditions) p q) x =
    (is_any x && routed_alike_equally (equal_at catalog p) (equal_at catalog q) on (claim p).part (claim q).part)
    || semi_join_routed (width catalog p) (equal_at catalog p) (equal_at catalog q) (equal_at catalog (binary n c (semi_join matched on conditions) p q)) on p q x
part_derived catalog (exchange n c k m p) x = part_matches (equal_at catalog p) (kind_part k) x

abbrev pub part_shown_derived : (ℕ → Relation) → Plan → Bool
part_shown_derived catalog p = part_shown catalog p || part_derived catalog p (claim p).part

-- ---- orders

-- K7: what is asked of the inputs' orders follows from them
abbrev pub needed_follows : (ℕ → Relation) → Plan → Bool
needed_follows catalog (binary n c (join (by_merging falls) on) p q) =
    order_follows (equal_at catalog p) (determined catalog p) (claim p).order (left_order falls on)
    && order_follows (equal_at catalog q) (determined catalog q) (claim q).order (right_order falls on)
needed_follows catalog (exchange n c k merge p) = order_follows (equal_at catalog p) (determined catalog p) (claim p).order merge
needed_follows catalog p = false

abbrev pub order_given_derived : (ℕ → Relation) → Plan → Bool
order_given_derived catalog p = order_given p || needed_follows catalog p

-- K9 and K11: the order is total by the table, or it determines a claimed key or all columns
abbrev pub is_total_derived : (ℕ → Relation) → Plan → Bool
is_total_derived catalog p = is_total_order catalog p || total_follows (width catalog p) (determined catalog p) (claim p).keys (order_columns (claim p).order)

-- K11: the first rows of a limit's input are known
abbrev pub first_rows_known_derived : (ℕ → Relation) → Plan → Bool
first_rows_known_derived catalog (unary n c (limit m) p) = is_one (size p) && is_total_derived catalog p
first_rows_known_derived catalog p = first_rows_known catalog p

-- of the first w output columns the first one that is a copy of a column that is equal to this input column
abbrev pub first_of : List ℕ → Option ℕ
first_of [] = None
first_of (c ∷ cs) = Some c

abbrev pub copy_of : ℕ → Copying → Equality → ℕ → Option ℕ
copy_of w k e x = first_of (filter (λ c. column_in (λ y. e y x) (source k c)) (first_columns w))

-- the entries of an input's order where such copies stand, up to the first that has none; each keeps its direction
abbrev pub copies_then : Option ℕ → (falling : Bool) → List OrderEntry → List OrderEntry
copies_then None falling order = []
copies_then (Some c) falling order = record { column = c; falling = falling } ∷ order

abbrev pub front_copies : ℕ → Copying → Equality → List OrderEntry → List OrderEntry
front_copies w k e [] = []
front_copies w k e (x ∷ xs) = copies_then (copy_of w k e x.column) x.falling (front_copies w k e xs)

-- rows that a range routed on a column rise from one worker to the next if their order begins with it, rising, but for what is fixed
abbrev pub rises_equally : Equality → (Columns → Columns) → Part → List OrderEntry → Bool
rises_equally e det (routed (by_range k) (c ∷ [])) order = order_follows e det order (record { column = c; falling = false } ∷ [])
rises_equally e det q order = false

-- the order of an exchange's input goes on, where the input has this part and this order; and where it has those that it claims
abbrev pub goes_on_with : (ℕ → Relation) → ExchangeKind → Plan → Part → List OrderEntry → Bool
goes_on_with catalog concat p q order = rises_equally (equal_at catalog p) (determined catalog p) q order
goes_on_with catalog k p q order = false

abbrev pub goes_on_derived : (ℕ → Relation) → ExchangeKind → Plan → Bool
goes_on_derived catalog k p = goes_on_with catalog k p (claim p).part (claim p).order

-- the orders that a node has by the table
abbrev pub unary_order : ℕ → Unary → Equality → (Columns → Columns) → List OrderEntry → List OrderEntry
unary_order w (select fs) e det below = below
unary_order w (sort of_parts order) e det below = order
unary_order w (project es) e det below = front_copies w (described (project es)).copying e (short det below)
unary_order w (distinct cols) e det below = front_copies w (described (distinct cols)).copying e (short det below)
unary_order w (group phase by aggregates) e det below = front_copies w (described (group phase by aggregates)).copying e (short det below)
unary_order w (limit m) e det below = below

abbrev pub binary_order : Binary → List OrderEntry → List OrderEntry
binary_order union left = []
binary_order (join m on) left = left
binary_order (semi_join matched on conditions) left = left

-- an order follows from one that a node has
abbrev pub follows_at : (ℕ → Relation) → Plan → (given order : List OrderEntry) → Bool
follows_at catalog p given order = order_follows (equal_at catalog p) (determined catalog p) given order

-- K6: the order follows from one that the table shows at the node
abbrev pub order_derived : (ℕ → Relation) → Plan → List OrderEntry → Bool
order_derived catalog (scan n c r m z) order = follows_at catalog (scan n c r m z) (catalog r).order order
order_derived catalog (unary n c op p) order =
    follows_at catalog (unary n c op p) (unary_order (width catalog (unary n c op p)) op (equal_at catalog p) (determined catalog p) (claim p).order) order
order_derived catalog (binary n c op p q) order = follows_at catalog (binary n c op p q) (binary_order op (claim p).order) order
order_derived catalog (exchange n c k merge p) order =
    follows_at catalog (exchange n c k merge p) merge order
    || ((is_one (size p) || goes_on_derived catalog k p) && follows_at catalog (exchange n c k merge p) (claim p).order order)

abbrev pub order_shown_derived : (ℕ → Relation) → Plan → Bool
order_shown_derived catalog p = order_shown catalog p || order_derived catalog p (claim p).order

-- ---- keys

-- the columns of a set, of the first w
abbrev pub members : ℕ → Columns → List ℕ
members w s = filter s (first_columns w)

-- of a projection: the input columns that these are copies of determine a key that the input claims
abbrev pub key_below : (ℕ → Relation) → Plan → List ℕ → Bool
key_below catalog (unary n c (project es) p) key =
    list_any (list_all (determined catalog p (sources_in (width catalog (unary n c (project es) p)) (described (project es)).copying (set_of key)))) (claim p).keys
key_below catalog p key = false

-- K8: what a key determines holds one that the table shows
abbrev pub key_derived : (ℕ → Relation) → Plan → List ℕ → Bool
key_derived catalog p key = keys_of catalog p key || (keys_of catalog p (members (width catalog p) (determined_aside catalog p (set_of key))) || key_below catalog p key)

-- K8, where these keys are there
abbrev pub key_derived_by : (ℕ → Relation) → Plan → List Keyed → List ℕ → Bool
key_derived_by catalog p keyed key =
    list_any (λ k. keys_give k key) keyed
    || (list_any (λ k. keys_give k (members (width catalog p) (determined_aside catalog p (set_of key)))) keyed || key_below catalog p key)

abbrev pub keys_shown_derived : (ℕ → Relation) → Plan → Bool
keys_shown_derived catalog p = list_all (key_derived catalog p) (claim p).keys

-- ---- nodes and the root

-- the tests at one node, in their order
abbrev pub allowed_here_derived : (ℕ → Relation) → Plan → Bool
allowed_here_derived catalog p =
    sizes_match p && (not_replicated p && (inputs_match_derived catalog p && (order_given_derived catalog p
    && (first_rows_known_derived catalog p && (part_shown_derived catalog p && (order_shown_derived catalog p && keys_shown_derived catalog p))))))

-- every node passes its tests
abbrev pub allowed_derived : (ℕ → Relation) → Plan → Bool
allowed_derived catalog (scan n c r m z) = allowed_here_derived catalog (scan n c r m z)
allowed_derived catalog (unary n c op p) = allowed_derived catalog p && allowed_here_derived catalog (unary n c op p)
allowed_derived catalog (binary n c op p q) = allowed_derived catalog p && (allowed_derived catalog q && allowed_here_derived catalog (binary n c op p q))
allowed_derived catalog (exchange n c k m p) = allowed_derived catalog p && allowed_here_derived catalog (exchange n c k m p)

-- K2 and K9: the root has one worker, and where the plan says total, its order is
abbrev pub root_allowed_derived : (ℕ → Relation) → (total : Bool) → Plan → Bool
root_allowed_derived catalog total p = is_one (size p) && (not total || is_total_derived catalog p)
