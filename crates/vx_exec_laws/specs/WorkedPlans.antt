-- Worked plans over two small relations: t (id, k, v) with key [id] and order [id], and d (k, n) with key [k].
use Rattle.std.specs.Prelude.{ℕ, zero, suc, true, false, pos, negsuc, List, [], ◌∷◌}
use Rattle.vx_rows_values.specs.declared.order.OrderEntry.{OrderEntry}
use Rattle.vx_rows_values.specs.Order.{rising}
use Rattle.vx_rows_values.specs.declared.value.ColType.TheVariants.{Int, Text}
use Rattle.vx_rows_values.specs.Values.{Val, num, text, Row}
use Rattle.vx_catalog_relations.specs.Relation.{Relation}
use Rattle.vx_plan_nodes.specs.Typed.{Scope}
use Rattle.vx_plan_nodes.specs.Plan.{Size, one_worker, group_of, Route, by_hash, Part, one, any, all, routed, Claim, equal, constant, comparing, sum, count_rows, Unary, select, sort, group, plain, union, by_hashing, by_merging, join, route_to, round, broadcast, gather, Plan, scan, unary, binary, exchange}

abbrev pub t_and_d : ℕ → Relation
t_and_d zero = record { name = []; names = []; types = Int ∷ Text ∷ Int ∷ []; keys = (0 ∷ []) ∷ []; order = rising (0 ∷ []) }
t_and_d (suc r) = record { name = []; names = []; types = Text ∷ Int ∷ []; keys = (0 ∷ []) ∷ []; order = [] }

-- two size names
abbrev pub many : Size
many = group_of 0

abbrev pub few : Size
few = group_of 1

-- three hash routes
abbrev pub h : Route
h = by_hash (104 ∷ [])

abbrev pub h1 : Route
h1 = by_hash (104 ∷ 49 ∷ [])

abbrev pub h2 : Route
h2 = by_hash (104 ∷ 50 ∷ [])

abbrev pub claimed : Part → List OrderEntry → List (List ℕ) → Claim
claimed p order keys = record { part = p; order = order; keys = keys }

-- a part alone
abbrev pub part_only : Part → Claim
part_only p = claimed p [] []

-- the first column, as a list of columns
abbrev pub first : List ℕ
first = 0 ∷ []

-- and as the only key
abbrev pub first_key : List (List ℕ)
first_key = first ∷ []

-- and as an order, rising
abbrev pub by_first : List OrderEntry
by_first = rising first

abbrev pub v_is_7 : Unary
v_is_7 = select (comparing (record { left = 2; test = equal; right = constant (num (pos 7)) }) ∷ [])

abbrev pub shared_t : ℕ → Claim → Plan
shared_t n c = scan n c 0 true many

abbrev pub shared_d : ℕ → Claim → Plan
shared_d n c = scan n c 1 true many

-- a gather over a select over a shared scan; the select claims this part
abbrev pub select_gathered : Part → Plan
select_gathered p = exchange 0 (part_only one) gather [] (unary 1 (part_only p) v_is_7 (shared_t 2 (part_only any)))

-- the same merging by this order; the scan claims this order, the root these keys
abbrev pub select_merged : (merge scan_order : List OrderEntry) → (root_keys : List (List ℕ)) → Plan
select_merged merge scan_order root_keys =
    exchange 0 (claimed one by_first root_keys) gather merge
    (unary 1 (claimed any by_first first_key) v_is_7
    (shared_t 2 (claimed any scan_order first_key)))

-- a merging gather over a sort over a grouping by k with the sum of v, over this input; what the sort and the grouping claim
abbrev pub sums_over : (sorted grouped : Claim) → Plan → Plan
sums_over sorted grouped below =
    exchange 0 (claimed one by_first first_key) gather by_first
    (unary 1 sorted (sort false by_first)
    (unary 2 grouped (group plain (1 ∷ []) (sum 2 ∷ [])) below))

abbrev pub h_sorted : Claim
h_sorted = claimed (routed h first) by_first first_key

abbrev pub h_grouped : Claim
h_grouped = claimed (routed h first) [] first_key

-- t by hash h on k; what the exchange and the scan claim
abbrev pub t_by_k : (exchanged scanned : Claim) → Plan
t_by_k exchanged scanned = exchange 3 exchanged (route_to many h (1 ∷ [])) [] (shared_t 4 scanned)

abbrev pub h_on_k : Claim
h_on_k = part_only (routed h (1 ∷ []))

abbrev pub sums_by_hash : Plan
sums_by_hash = sums_over h_sorted h_grouped (t_by_k h_on_k (part_only any))

-- without the hash exchange
abbrev pub sums_unrouted : Plan
sums_unrouted = sums_over h_sorted h_grouped (shared_t 3 (part_only any))

-- a merging gather over t joined with a broadcast of d on k; the orders and keys claimed at the root and the join, by the broadcast and at d
abbrev pub join_broadcast : (root joined sent scanned : Claim) → Plan
join_broadcast root joined sent scanned =
    exchange 0 root gather by_first
    (binary 1 joined (join by_hashing ((1, 0) ∷ []))
    (shared_t 2 (claimed any by_first first_key))
    (exchange 3 sent (broadcast many) [] (shared_d 4 scanned)))

abbrev pub t_with_d : Plan
t_with_d = join_broadcast (claimed one by_first first_key) (claimed any by_first first_key) (claimed all [] first_key) (claimed any [] first_key)

-- a gather over replicas
abbrev pub replica_gathered : Plan
replica_gathered = exchange 0 (part_only one) gather [] (scan 1 (part_only all) 0 false many)

-- a join of inputs that are routed by two names
abbrev pub join_unlike : Plan
join_unlike =
    exchange 0 (part_only one) gather []
    (binary 1 (part_only any) (join by_hashing ((1, 0) ∷ []))
    (exchange 2 (part_only (routed h1 (1 ∷ []))) (route_to many h1 (1 ∷ [])) [] (shared_t 3 (part_only any)))
    (exchange 4 (part_only (routed h2 (0 ∷ []))) (route_to many h2 (0 ∷ [])) [] (shared_d 5 (part_only any))))

-- replicas claimed of a round robin exchange
abbrev pub round_replicated : Plan
round_replicated = exchange 0 (part_only one) gather [] (exchange 1 (part_only all) (round many) [] (shared_t 2 (part_only any)))

-- t joined with a broadcast of d on v = n, which is no key of d
abbrev pub join_off_key : Plan
join_off_key =
    exchange 0 (part_only one) gather []
    (binary 1 (claimed any [] first_key) (join by_hashing ((2, 1) ∷ []))
    (shared_t 2 (claimed any by_first first_key))
    (exchange 3 (claimed all [] first_key) (broadcast many) [] (shared_d 4 (claimed any [] first_key))))

-- a sum of texts, and a union of unlike types
abbrev pub text_summed : Plan
text_summed = unary 0 (part_only one) (group plain [] (sum 1 ∷ [])) (scan 1 (part_only one) 0 false one_worker)

abbrev pub union_unlike : Plan
union_unlike = binary 0 (part_only one) union (scan 1 (part_only one) 0 false one_worker) (scan 2 (part_only one) 1 false one_worker)

-- what the worked plans may name
abbrev pub worked_scope : Scope
worked_scope = record { catalog = t_and_d 0 ∷ t_and_d 1 ∷ []; ranges = []; sizes = 2 }

-- a union of replicas and parts
abbrev pub union_mixed : Plan
union_mixed = exchange 0 (part_only one) gather [] (binary 1 (part_only any) union (scan 2 (part_only all) 1 false many) (shared_d 3 (part_only any)))

-- a union of inputs with two size names
abbrev pub union_two_sizes : Plan
union_two_sizes = exchange 0 (part_only one) gather [] (binary 1 (part_only any) union (shared_d 2 (part_only any)) (scan 3 (part_only any) 1 true few))

-- on one worker: the sums of t by k, joined with d
abbrev pub sums_with_d : Plan
sums_with_d =
    binary 0 (part_only one) (join by_hashing ((0, 0) ∷ []))
    (unary 1 (part_only one) (group plain (1 ∷ []) (sum 2 ∷ [])) (scan 2 (part_only one) 0 false one_worker))
    (scan 3 (part_only one) 1 false one_worker)

-- on one worker: how many rows t has, in a grouping by nothing
abbrev pub rows_counted : Plan
rows_counted = unary 0 (part_only one) (group plain [] (count_rows ∷ [])) (scan 1 (part_only one) 0 false one_worker)

-- on one worker, total: a merge join of t and d, both sorted on k
abbrev pub merge_joined : (right_order : List OrderEntry) → Plan → Plan
merge_joined right_order right =
    binary 0 (claimed one (rising (1 ∷ 0 ∷ [])) first_key) (join (by_merging (false ∷ [])) ((1, 0) ∷ []))
    (unary 1 (claimed one (rising (1 ∷ 0 ∷ [])) first_key) (sort false (rising (1 ∷ 0 ∷ []))) (scan 2 (claimed one [] first_key) 0 false one_worker)) right

abbrev pub d_sorted : Plan
d_sorted = unary 3 (claimed one by_first first_key) (sort false by_first) (scan 4 (claimed one [] first_key) 1 false one_worker)

abbrev pub d_unsorted : Plan
d_unsorted = scan 3 (claimed one [] first_key) 1 false one_worker

-- t's order by v, falling
abbrev pub v_falls : List OrderEntry
v_falls = record { column = 2; falling = true } ∷ []

abbrev pub one_row : Val → Val → Val → Row
one_row x y z = x ∷ y ∷ z ∷ []

abbrev pub a : Val
a = text (97 ∷ [])

abbrev pub b : Val
b = text (98 ∷ [])

abbrev pub c : Val
c = text (99 ∷ [])

abbrev pub n : ℕ → Val
n k = num (pos k)

-- the number two below zero
abbrev pub minus_2 : Val
minus_2 = num (negsuc 1)

abbrev pub t_rows : List Row
t_rows = one_row (n 0) a (n 5) ∷ one_row (n 1) b (n 7) ∷ one_row (n 2) a minus_2 ∷ one_row (n 3) c (n 7) ∷ []

abbrev pub db : ℕ → List Row
db zero = t_rows
db (suc r) = (a ∷ n 10 ∷ []) ∷ (b ∷ n 20 ∷ []) ∷ []

abbrev pub empty_db : ℕ → List Row
empty_db r = []

-- the sum of `a` leaves 64 bits on the way, and at the end where no last row brings it back
abbrev pub large : List Row → ℕ → List Row
large last zero = one_row (n 0) a (n 9223372036854775807) ∷ one_row (n 1) a (n 1) ∷ last
large last (suc r) = []

abbrev pub minus_1_row : List Row
minus_1_row = one_row (n 2) a (num (negsuc 0)) ∷ []
