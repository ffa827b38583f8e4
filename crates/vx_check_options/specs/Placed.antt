-- The claims that are placed at all nodes, from the top down: under the part and the order of a node its inputs get those with which they are shown.
use Rattle.std.specs.Prelude.{ℕ, Bool, true, false, cond, ◌&&◌, ◌||◌, List, [], ◌∷◌, find, Option, Some, None, option_map, unwrap_or, slice_get}
use Rattle.vx_catalog_relations.specs.Relation.{Relation}
use Rattle.vx_rows_values.specs.declared.order.OrderEntry.{OrderEntry}
use Rattle.vx_plan_nodes.specs.Plan.{Part, any, Claim, by_merging, right_order, Binary, union, join, semi_join, ExchangeKind, concat, Plan, scan, unary, binary, exchange, size, is_one}
use Rattle.vx_plan_nodes.specs.Describe.{Copying, whole_rows, source, OrderAfter, order_kept, sorted_on, described}
use Rattle.vx_check_rules.specs.Rules.{entry_at, rises_by}
use Rattle.vx_check_rules.specs.Refusal.{or_else}
use Rattle.vx_check_options.specs.Options.{OrderChoices, has_entry, no_input, gives_part, parts_at, places_at}

-- ---- orders

-- the first entry of each place
abbrev pub first_entries : OrderChoices → List OrderEntry
first_entries [] = []
first_entries ([] ∷ places) = []
first_entries ((e ∷ es) ∷ places) = e ∷ first_entries places

-- the entry, if it may stand at the place, else the first that may
abbrev pub entry_or_first : List OrderEntry → OrderEntry → OrderEntry
entry_or_first [] e = e
entry_or_first (f ∷ fs) e = cond (has_entry (f ∷ fs) e) e f

-- the entry of the input's column of which an entry's column is a copy, in its direction
abbrev pub source_entry : Copying → OrderEntry → OrderEntry
source_entry k e = entry_at (unwrap_or (source k e.column) 0) e

-- the order of an input with these places, under an order of the output: the columns of which those are copies, where they may stand, and then the first ones
abbrev pub order_along : Copying → List OrderEntry → OrderChoices → List OrderEntry
order_along k [] places = first_entries places
order_along k (e ∷ es) [] = []
order_along k (e ∷ es) (s ∷ places) = entry_or_first s (source_entry k e) ∷ order_along k es places

-- the entry at one place of it, under the entry of that order there: one place's part of what comes before
abbrev pub next_entry : Copying → Option OrderEntry → List OrderEntry → Option OrderEntry
next_entry k (Some e) s = Some (entry_or_first s (source_entry k e))
next_entry k None s = slice_get s 0

-- under an operator over one input; the order of a sort is its own
abbrev pub order_below : OrderAfter → Copying → List OrderEntry → OrderChoices → List OrderEntry
order_below order_kept k order places = order_along k order places
order_below (sorted_on own) k order places = first_entries places

-- under one over two inputs, the left one's and the right one's
abbrev pub order_to_left : Binary → List OrderEntry → OrderChoices → List OrderEntry
order_to_left union order places = first_entries places
order_to_left (join m on) order places = order_along whole_rows order places
order_to_left (semi_join matched on conditions) order places = order_along whole_rows order places

abbrev pub order_to_right : Binary → OrderChoices → List OrderEntry
order_to_right (join (by_merging falls) on) places = order_along whole_rows (right_order falls on) places
order_to_right op places = first_entries places

-- under an exchange: of one producer the same, and of several what it merges by, or for a concat the same
abbrev pub order_sent : ExchangeKind → (alone : Bool) → (merge order : List OrderEntry) → List OrderEntry
order_sent k true merge order = order
order_sent concat false merge order = order
order_sent k false merge order = merge

-- each entry is one of those that may stand at its place, and no place is left
abbrev pub is_chosen : List OrderEntry → OrderChoices → Bool
is_chosen [] [] = true
is_chosen (e ∷ es) (s ∷ places) = has_entry s e && is_chosen es places
is_chosen _ _ = false

-- ---- parts

-- the first of the parts; any where there is none
abbrev pub first_part : List Part → Part
first_part [] = any
first_part (q ∷ qs) = q

-- the first two that pass the test
abbrev pub first_two : (Part → Part → Bool) → (lefts rights : List Part) → Option (Part × Part)
first_two test [] rights = None
first_two test (x ∷ xs) rights = or_else (option_map (λ y. (x, y)) (find (test x) rights)) (first_two test xs rights)

-- a node shows the part where its inputs have these, or has one worker
abbrev pub is_given : (ℕ → Relation) → Plan → Part → Part → Part → Bool
is_given catalog p q x y = is_one (size p) || gives_part catalog p q x y

-- the parts of the inputs with which a node shows its own, each the first of its list where none do
abbrev pub parts_below : (ℕ → Relation) → Plan → Part → (lefts rights : List Part) → Part × Part
parts_below catalog p q lefts rights = unwrap_or (first_two (is_given catalog p q) lefts rights) (first_part lefts, first_part rights)

-- the part of an exchange's input, under a concat one by which the order rises
abbrev pub part_sent : ExchangeKind → List OrderEntry → List Part → Part
part_sent concat order parts = unwrap_or (find (λ x. rises_by x order) parts) (first_part parts)
part_sent k order parts = first_part parts

-- ---- plans

-- a claim with this part and this order, and no key
abbrev pub keyless : Part → List OrderEntry → Claim
keyless q order = record { part = q; order = order; keys = [] }

-- the plan with this part and this order at the top, and below it those with which they are shown
abbrev pub placed : (ℕ → Relation) → Plan → Part → List OrderEntry → Plan
placed catalog (scan n c r m z) q order = scan n (keyless q order) r m z
placed catalog (unary n c op p) q order =
    unary n (keyless q order) op
    (placed catalog p (parts_below catalog (unary n c op p) q (parts_at catalog p) no_input).0 (order_below (described op).order (described op).copying order (places_at catalog p)))
placed catalog (binary n c op p q) x order =
    binary n (keyless x order) op
    (placed catalog p (parts_below catalog (binary n c op p q) x (parts_at catalog p) (parts_at catalog q)).0 (order_to_left op order (places_at catalog p)))
    (placed catalog q (parts_below catalog (binary n c op p q) x (parts_at catalog p) (parts_at catalog q)).1 (order_to_right op (places_at catalog q)))
placed catalog (exchange n c k merge p) q order =
    exchange n (keyless q order) k merge
    (placed catalog p (part_sent k order (parts_at catalog p)) (order_along whole_rows (order_sent k (is_one (size p)) merge order) (places_at catalog p)))

-- ---- claims beside others

-- the same nodes, whatever they claim
abbrev pub bare : Plan → Plan
bare (scan n c r m z) = scan n (keyless any []) r m z
bare (unary n c op p) = unary n (keyless any []) op (bare p)
bare (binary n c op p q) = binary n (keyless any []) op (bare p) (bare q)
bare (exchange n c k m p) = exchange n (keyless any []) k m (bare p)
