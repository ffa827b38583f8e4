-- The rule table (our own): what a node may claim, from size names, claims and columns alone, and at a scan from what the catalog declares. Every rule is a test that computes.
use Rattle.std.specs.Prelude.{ℕ, zero, suc, ◌+◌, ◌-◌, ◌==◌, nat_lt, nat_le, Bool, true, false, cond, not, ◌&&◌, ◌||◌, List, [], ◌∷◌, map, filter_map, length, Option, Some, None, slice_get}
use Rattle.std.specs.List.{list_all, list_any}
use Rattle.vx_rows_values.specs.declared.order.OrderEntry.{OrderEntry}
use Rattle.vx_rows_values.specs.Order.{order_columns, entry_eq}
use Rattle.vx_plan_nodes.specs.Plan.{Route, by_hash, by_range, Part, one, any, all, routed, Unary, select, project, distinct, sort, group, limit, by_merging, Binary, union, join, semi_join, ExchangeKind, route_to, round, broadcast, gather, Plan, scan, unary, binary, exchange, claim, size, size_eq, is_one, Claim, plain, partial, final, concat, left_order, right_order}
use Rattle.vx_plan_nodes.specs.Describe.{entries_kept, kept_column, source}
use Rattle.vx_catalog_relations.specs.Relation.{Relation}
use Rattle.vx_plan_nodes.specs.Types.{width}

-- the same numbers
abbrev pub numbers_eq : List ℕ → List ℕ → Bool
numbers_eq [] [] = true
numbers_eq [] (y ∷ ys) = false
numbers_eq (x ∷ xs) [] = false
numbers_eq (x ∷ xs) (y ∷ ys) = (x == y) && numbers_eq xs ys

-- the same kind and name
abbrev pub route_eq : Route → Route → Bool
route_eq (by_hash a) (by_hash b) = numbers_eq a b
route_eq (by_hash a) (by_range j) = false
route_eq (by_range i) (by_hash b) = false
route_eq (by_range i) (by_range j) = i == j

-- a part that is claimed as q, or routed where q is any
abbrev pub part_gives : Part → Part → Bool
part_gives one one = true
part_gives any any = true
part_gives all all = true
part_gives (routed r cols) any = true
part_gives (routed r cols) (routed s ds) = route_eq r s && numbers_eq cols ds
part_gives _ _ = false

-- the part q holds at the node, as its claim and its size name show
abbrev pub has : Plan → Part → Bool
has p q = is_one (size p) || part_gives (claim p).part q

-- the number is in the list
abbrev pub contains : List ℕ → ℕ → Bool
contains xs x = list_any (λ y. x == y) xs

-- each number of the first list is in the second
abbrev pub within : List ℕ → List ℕ → Bool
within xs ys = list_all (contains ys) xs

-- the first list begins the second
abbrev pub is_prefix : List ℕ → List ℕ → Bool
is_prefix [] ys = true
is_prefix (x ∷ xs) [] = false
is_prefix (x ∷ xs) (y ∷ ys) = (x == y) && is_prefix xs ys

-- the first order begins the second, each entry in its direction
abbrev pub is_front : List OrderEntry → List OrderEntry → Bool
is_front [] order = true
is_front (x ∷ xs) [] = false
is_front (x ∷ xs) (y ∷ ys) = entry_eq x y && is_front xs ys

-- a column in front of the others, where all are there
abbrev pub cons_both : Option ℕ → Option (List ℕ) → Option (List ℕ)
cons_both (Some c) (Some cs) = Some (c ∷ cs)
cons_both _ _ = None

-- the input columns that these output columns copy, where the node keeps these input columns
abbrev pub copied : List ℕ → List ℕ → Option (List ℕ)
copied kept [] = Some []
copied kept (c ∷ cs) = cons_both (slice_get kept c) (copied kept cs)

-- the input columns that these output columns copy, where each of them is an entry that keeps one; and those that some of them copy
abbrev pub copied_from : List (Option ℕ) → List ℕ → Option (List ℕ)
copied_from ks [] = Some []
copied_from ks (c ∷ cs) = cons_both (source (entries_kept ks) c) (copied_from ks cs)

abbrev pub copied_among : List (Option ℕ) → List ℕ → List ℕ
copied_among ks cols = filter_map (source (entries_kept ks)) cols

-- the test of the columns, if there are any to test
abbrev pub if_some : Option (List ℕ) → (List ℕ → Bool) → Bool
if_some None test = false
if_some (Some cs) test = test cs

-- the entry with this column in place of its own, in its direction
abbrev pub entry_at : ℕ → OrderEntry → OrderEntry
entry_at c e = record { column = c; falling = e.falling }

-- the entry with this column in front of the others, where all are there
abbrev pub entry_both : Option ℕ → OrderEntry → Option (List OrderEntry) → Option (List OrderEntry)
entry_both (Some c) e (Some order) = Some (entry_at c e ∷ order)
entry_both _ _ _ = None

-- the order of the input columns that the columns of this order copy, in the same directions, where the node keeps these input columns
abbrev pub copied_order : List ℕ → List OrderEntry → Option (List OrderEntry)
copied_order kept [] = Some []
copied_order kept (e ∷ order) = entry_both (slice_get kept e.column) e (copied_order kept order)

-- the same, where each of these columns is an entry that keeps an input column
abbrev pub copied_order_from : List (Option ℕ) → List OrderEntry → Option (List OrderEntry)
copied_order_from ks [] = Some []
copied_order_from ks (e ∷ order) = entry_both (source (entries_kept ks) e.column) e (copied_order_from ks order)

-- the test of the order, if there is one to test
abbrev pub if_order : Option (List OrderEntry) → (List OrderEntry → Bool) → Bool
if_order None test = false
if_order (Some order) test = test order

-- a part that is routed on columns that are all among these
abbrev pub routed_within : Part → List ℕ → Bool
routed_within (routed r cols) kept = within cols kept
routed_within _ kept = false

-- columns of a join's output that are all of its left input, or all of its right one
abbrev pub left_columns : ℕ → List ℕ → Option (List ℕ)
left_columns w cols = cond (list_all (λ c. nat_lt c w) cols) (Some cols) None

abbrev pub right_columns : ℕ → List ℕ → Option (List ℕ)
right_columns w cols = cond (list_all (λ c. nat_le w c) cols) (Some (map (λ c. c - w) cols)) None

-- the columns are one of the pairs
abbrev pub has_pair : List (ℕ × ℕ) → ℕ → ℕ → Bool
has_pair on a b = list_any (λ p. (p.0 == a) && (p.1 == b)) on

-- the lists are equally long and pair by pair among the pairs
abbrev pub all_pairs : List (ℕ × ℕ) → List ℕ → List ℕ → Bool
all_pairs on [] [] = true
all_pairs on (a ∷ as') (b ∷ bs) = has_pair on a b && all_pairs on as' bs
all_pairs on _ _ = false

-- both inputs are routed alike on columns that the join pairs
abbrev pub routed_alike : List (ℕ × ℕ) → Part → Part → Bool
routed_alike on (routed r ls) (routed s rs) = route_eq r s && all_pairs on ls rs
routed_alike on _ _ = false

-- the part that a node shows of a part that its input has: the same part, on the columns that are copied
abbrev pub through : (Part → Bool) → (List ℕ → Option (List ℕ)) → Part → Bool
through has_part columns one = false
through has_part columns any = has_part any
through has_part columns all = has_part all
through has_part columns (routed r cols) = if_some (columns cols) (λ cs. has_part (routed r cs))

-- K1: the inputs of a join or a union have the same size name
abbrev pub sizes_match : Plan → Bool
sizes_match (binary n c op p q) = size_eq (size p) (size q)
sizes_match _ = true

-- K5: an exchange's input has each row once
abbrev pub not_replicated : Plan → Bool
not_replicated (exchange n c k m p) = has p any
not_replicated _ = true

-- a union's inputs both have any, or both have all; a join's are routed alike, or one of them has all, of a semi or an anti join the right one. A left row that
-- every worker has would be kept by several of them, or by those that do not see what it matches
abbrev pub binary_inputs_match : Binary → Plan → Plan → Bool
binary_inputs_match union p q = (has p any && has q any) || (has p all && has q all)
binary_inputs_match (join m on) p q = routed_alike on (claim p).part (claim q).part || has q all || has p all
binary_inputs_match (semi_join matched on conditions) p q = routed_alike on (claim p).part (claim q).part || has q all

-- the rows of a distinct or a group that belong together are on one worker
abbrev pub keeps_apart : Unary → Plan → Bool
keeps_apart (distinct cols) p = has p all || routed_within (claim p).part cols
keeps_apart (group plain by aggregates) p = has p all || routed_within (claim p).part by
keeps_apart (group partial by aggregates) p = true
keeps_apart (group final by aggregates) p = has p all || routed_within (claim p).part by
keeps_apart _ p = true

-- K4: what an operator with more than one worker asks of its inputs' parts
abbrev pub inputs_match : Plan → Bool
inputs_match (unary n c op p) = is_one (size p) || keeps_apart op p
inputs_match (binary n c op p q) = is_one (size p) || binary_inputs_match op p q
inputs_match _ = true

-- K7: the orders of a merge join's inputs begin with the columns that it joins on, in its directions, a merging exchange's with the order that it merges on
abbrev pub order_given : Plan → Bool
order_given (binary n c (join (by_merging falls) on) p q) =
    is_front (left_order falls on) (claim p).order && is_front (right_order falls on) (claim q).order
order_given (exchange n c k merge p) = is_front merge (claim p).order
order_given _ = true

-- the numbers below n
abbrev pub numbers_below : ℕ → List ℕ
numbers_below zero = []
numbers_below (suc n) = n ∷ numbers_below n

-- K9 and K11: the order contains all columns of a claimed key, or all output columns, in whatever directions
abbrev pub is_total_order : (ℕ → Relation) → Plan → Bool
is_total_order catalog p =
    list_any (λ k. within k (order_columns (claim p).order)) (claim p).keys || within (numbers_below (width catalog p)) (order_columns (claim p).order)

-- K11: the rows of which a limit takes the first ones are at one worker, in a total order
abbrev pub first_rows_known : (ℕ → Relation) → Plan → Bool
first_rows_known catalog (unary n c (limit m) p) = is_one (size p) && is_total_order catalog p
first_rows_known catalog _ = true

-- the parts that an operator shows of its input's
abbrev pub unary_shows : Unary → Plan → Part → Bool
unary_shows (select fs) p q = has p q
unary_shows (sort of_parts cols) p q = has p q
unary_shows (project es) p q = through (has p) (copied_from (map kept_column es)) q
unary_shows (distinct cols) p q = through (has p) (copied cols) q
unary_shows (group phase by aggregates) p q = through (has p) (copied by) q
unary_shows (limit m) p q = has p q

-- from two inputs that are routed alike: any, the left route, and the right route at the output's columns
abbrev pub alike_shows : ℕ → Part → Part → Part → Bool
alike_shows w p q any = true
alike_shows w p q (routed r cols) =
    part_gives p (routed r cols) || if_some (right_columns w cols) (λ cs. part_gives q (routed r cs))
alike_shows w p q _ = false

-- a join shows the parts of each way in which its inputs match
abbrev pub join_shows : List (ℕ × ℕ) → ℕ → Plan → Plan → Part → Bool
join_shows on w p q x =
    (routed_alike on (claim p).part (claim q).part && alike_shows w (claim p).part (claim q).part x)
    || (has q all && through (has p) (left_columns w) x)
    || (has p all && through (has q) (right_columns w) x)

-- a semi and an anti join show the left input's parts: the claimed one where the inputs are routed alike, and each that it has over a whole right input
abbrev pub semi_join_shows : List (ℕ × ℕ) → Plan → Plan → Part → Bool
semi_join_shows on p q x =
    (routed_alike on (claim p).part (claim q).part && part_gives (claim p).part x) || (has q all && has p x)

-- a part that both inputs have; the one part is not shown
abbrev pub both_have : Plan → Plan → Part → Bool
both_have p q one = false
both_have p q x = has p x && has q x

-- what an exchange shows by its kind
abbrev pub kind_shows : ExchangeKind → Part → Bool
kind_shows (route_to z r cols) q = part_gives (routed r cols) q
kind_shows (round z) q = part_gives any q
kind_shows (broadcast z) q = part_gives all q
kind_shows gather q = part_gives one q
kind_shows concat q = part_gives one q

-- the parts shown at a node whose size is not one
abbrev pub shows : (ℕ → Relation) → Plan → Part → Bool
shows catalog (scan n c r true z) q = part_gives any q
shows catalog (scan n c r false z) q = part_gives all q
shows catalog (unary n c op p) q = unary_shows op p q
shows catalog (binary n c union p q) x = both_have p q x
shows catalog (binary n c (join m on) p q) x = join_shows on (width catalog p) p q x
shows catalog (binary n c (semi_join matched on conditions) p q) x = semi_join_shows on p q x
shows catalog (exchange n c k m p) q = kind_shows k q

-- the test of the part, which the part of one worker never passes
abbrev pub unless_one : (Part → Bool) → Part → Bool
unless_one test one = false
unless_one test q = test q

-- K3: the claimed part is shown; where the size is not one, the part of one worker never is
abbrev pub part_shown : (ℕ → Relation) → Plan → Bool
part_shown catalog p = is_one (size p) || unless_one (shows catalog p) (claim p).part

-- the orders that an operator shows
abbrev pub unary_orders : Unary → List OrderEntry → List OrderEntry → Bool
unary_orders (select fs) below order = is_front order below
unary_orders (sort of_parts given) below order = is_front order given
unary_orders (project es) below order = if_order (copied_order_from (map kept_column es) order) (λ o. is_front o below)
unary_orders (distinct cols) below order = if_order (copied_order cols order) (λ o. is_front o below)
unary_orders (group phase by aggregates) below order = if_order (copied_order by order) (λ o. is_front o below)
unary_orders (limit m) below order = is_front order below

-- the rows are routed by a range on a column, and the order begins with it, rising
abbrev pub rises_by : Part → List OrderEntry → Bool
rises_by (routed (by_range k) (c ∷ [])) (e ∷ order) = (c == e.column) && not e.falling
rises_by q order = false

-- the producers' lists one after the other are sorted where each of them is
abbrev pub goes_on : ExchangeKind → Claim → Bool
goes_on concat c = rises_by c.part c.order
goes_on k c = false

-- the orders shown at a node, an empty one always
abbrev pub orders : (ℕ → Relation) → Plan → List OrderEntry → Bool
orders catalog (scan n c r m z) order = is_front order (catalog r).order
orders catalog (unary n c op p) order = unary_orders op (claim p).order order
orders catalog (binary n c union p q) order = is_front order []
orders catalog (binary n c (join m on) p q) order = is_front order (claim p).order
orders catalog (binary n c (semi_join matched on conditions) p q) order = is_front order (claim p).order
orders catalog (exchange n c k merge p) order =
    is_front order merge || ((is_one (size p) || goes_on k (claim p)) && is_front order (claim p).order)

-- K6: the claimed order is shown
abbrev pub order_shown : (ℕ → Relation) → Plan → Bool
order_shown catalog p = orders catalog p (claim p).order

-- a superset of one of these keys
abbrev pub covers : List (List ℕ) → List ℕ → Bool
covers keys x = list_any (λ k. within k x) keys

-- the keys that an operator shows, as sets of columns
abbrev pub unary_keys : Unary → List (List ℕ) → List ℕ → Bool
unary_keys (select fs) keys x = covers keys x
unary_keys (sort of_parts cols) keys x = not of_parts && covers keys x
unary_keys (project es) keys x = covers keys (copied_among (map kept_column es) x)
unary_keys (distinct cols) keys x = within (numbers_below (length cols)) x && within x (numbers_below (length cols))
unary_keys (group plain by aggregates) keys x = within (numbers_below (length by)) x
unary_keys (group partial by aggregates) keys x = false
unary_keys (group final by aggregates) keys x = within (numbers_below (length by)) x
unary_keys (limit m) keys x = nat_le m 1 || covers keys x

-- the columns of a join's right input, where they stand in its output
abbrev pub shifted : ℕ → List ℕ → List ℕ
shifted w cols = map (λ c. w + c) cols

-- a left and a right key together; or one input's key alone, where the other input is joined on a key
abbrev pub join_keys : List (ℕ × ℕ) → ℕ → List (List ℕ) → List (List ℕ) → List ℕ → Bool
join_keys on w lefts rights x =
    (covers lefts x && covers (map (shifted w) rights) x)
    || (covers lefts x && covers rights (map (λ p. p.1) on))
    || (covers (map (shifted w) rights) x && covers lefts (map (λ p. p.0) on))

-- the keys shown at a node
abbrev pub keys_of : (ℕ → Relation) → Plan → List ℕ → Bool
keys_of catalog (scan n c r m z) x = covers (catalog r).keys x
keys_of catalog (unary n c op p) x = unary_keys op (claim p).keys x
keys_of catalog (binary n c union p q) x = false
keys_of catalog (binary n c (join m on) p q) x = join_keys on (width catalog p) (claim p).keys (claim q).keys x
keys_of catalog (binary n c (semi_join matched on conditions) p q) x = covers (claim p).keys x
keys_of catalog (exchange n c k m p) x = covers (claim p).keys x

-- K8: each claimed key is shown
abbrev pub keys_shown : (ℕ → Relation) → Plan → Bool
keys_shown catalog p = list_all (keys_of catalog p) (claim p).keys

-- the tests at one node, in their order
abbrev pub allowed_here : (ℕ → Relation) → Plan → Bool
allowed_here catalog p =
    sizes_match p && (not_replicated p && (inputs_match p && (order_given p && (first_rows_known catalog p
    && (part_shown catalog p && (order_shown catalog p && keys_shown catalog p))))))

-- every node passes its tests
abbrev pub allowed : (ℕ → Relation) → Plan → Bool
allowed catalog (scan n c r m z) = allowed_here catalog (scan n c r m z)
allowed catalog (unary n c op p) = allowed catalog p && allowed_here catalog (unary n c op p)
allowed catalog (binary n c op p q) = allowed catalog p && (allowed catalog q && allowed_here catalog (binary n c op p q))
allowed catalog (exchange n c k m p) = allowed catalog p && allowed_here catalog (exchange n c k m p)

-- K2 and K9: the root has one worker, and where the plan says total, its order is
abbrev pub root_allowed : (ℕ → Relation) → (total : Bool) → Plan → Bool
root_allowed catalog total p = is_one (size p) && (not total || is_total_order catalog p)
