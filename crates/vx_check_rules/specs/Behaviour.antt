-- What a node has of its inputs' claims, by the description of its operator: the ways to a part, the orders and the keys that are there. Read downwards it tests a claim; read upwards it makes one.
use Rattle.std.specs.Prelude.{ℕ, ◌==◌, Bool, true, false, cond, not, ◌&&◌, ◌||◌, List, [], ◌∷◌, ◌++◌, map, flat_map, filter_map, Option, Some, None}
use Rattle.std.specs.List.{list_all, list_any}
use Rattle.vx_rows_values.specs.declared.order.OrderEntry.{OrderEntry}
use Rattle.vx_catalog_relations.specs.Relation.{Relation}
use Rattle.vx_plan_nodes.specs.Plan.{Route, Part, one, any, all, routed, ExchangeKind, Plan, scan, unary, binary, exchange, claim, size, is_one}
use Rattle.vx_plan_nodes.specs.Parts.{kind_part}
use Rattle.vx_plan_nodes.specs.Phases.{first_columns}
use Rattle.vx_plan_nodes.specs.Types.{width}
use Rattle.vx_plan_nodes.specs.Describe.{Copying, whole_rows, source, place, OrderAfter, order_kept, sorted_on, KeysAfter, keys_kept, key_of_first, no_key, Described, described, Meeting, side_by_side, paired_on, matched_on, DescribedBoth, described_both}
use Rattle.vx_check_rules.specs.Rules.{part_gives, is_front, cons_both, if_some, entry_at, entry_both, if_order, routed_within, routed_alike, covers, goes_on}

-- ---- columns, all of them or up to the first

-- the input columns that these are copies of, if each is one
abbrev pub sources : Copying → List ℕ → Option (List ℕ)
sources k [] = Some []
sources k (c ∷ cs) = cons_both (source k c) (sources k cs)

-- where these input columns stand in the output, if each has a place
abbrev pub places : Copying → List ℕ → Option (List ℕ)
places k [] = Some []
places k (c ∷ cs) = cons_both (place k c) (places k cs)

-- where they stand up to the first that has no place
abbrev pub place_then : Option ℕ → List ℕ → List ℕ
place_then None cs = []
place_then (Some c) cs = c ∷ cs

abbrev pub front_places : Copying → List ℕ → List ℕ
front_places k [] = []
front_places k (c ∷ cs) = place_then (place k c) (front_places k cs)

-- ---- orders, likewise; each column keeps its direction

-- the order of the input columns that these are copies of, if each is one
abbrev pub order_sources : Copying → List OrderEntry → Option (List OrderEntry)
order_sources k [] = Some []
order_sources k (e ∷ order) = entry_both (source k e.column) e (order_sources k order)

-- where the columns of this order stand up to the first that has no place
abbrev pub entry_then : Option ℕ → OrderEntry → List OrderEntry → List OrderEntry
entry_then None e order = []
entry_then (Some c) e order = entry_at c e ∷ order

abbrev pub front_order : Copying → List OrderEntry → List OrderEntry
front_order k [] = []
front_order k (e ∷ order) = entry_then (place k e.column) e (front_order k order)

-- ---- what is there

-- a way to a part: each of these inputs has it, on the columns that are copied; of each input whether it has one worker, and its part
pub record Way : Type 0 where
  pub copying : Copying
  pub from : List (Bool × Part)

-- an order, on the columns that are copied
pub record Sorted : Type 0 where
  pub copying : Copying
  pub order : List OrderEntry

-- keys: one of each of these lists, together, on the columns that are copied
pub record Keyed : Type 0 where
  pub from : List (Copying × List (List ℕ))

-- the ways to a part, none where the operator does not fit its inputs; the orders; and the keys
pub record Behaviour : Type 0 where
  pub ways : List Way
  pub sortings : List Sorted
  pub keyed : List Keyed

abbrev pub way : Copying → List (Bool × Part) → Way
way k from = record { copying = k; from = from }

abbrev pub sorted_by : Copying → List OrderEntry → Sorted
sorted_by k order = record { copying = k; order = order }

abbrev pub keyed_by : List (Copying × List (List ℕ)) → Keyed
keyed_by from = record { from = from }

-- ---- the behaviour of a node

-- the list where the test passes, else none
abbrev pub if_so : {X : Type 0} → Bool → List X → List X
if_so b xs = cond b xs []

-- an input's part, as it claims it; and a part alone
abbrev pub own : Plan → Bool × Part
own p = (is_one (size p), (claim p).part)

abbrev pub bare : Part → Bool × Part
bare q = (false, q)

-- the input has the part, as its one worker or what it claims shows
abbrev pub input_has : Bool × Part → Part → Bool
input_has h q = h.0 || part_gives h.1 q

-- rows of an input that agree in these columns are on one worker
abbrev pub meet : Option (List ℕ) → Bool × Part → Bool
meet None h = true
meet (Some cols) h = h.0 || (input_has h all || routed_within h.1 cols)

abbrev pub order_after : OrderAfter → List OrderEntry → List OrderEntry
order_after order_kept below = below
order_after (sorted_on order) below = order

abbrev pub keyed_after : KeysAfter → Copying → List (List ℕ) → List Keyed
keyed_after keys_kept k below = keyed_by ((k, below) ∷ []) ∷ []
keyed_after (key_of_first n) k below = keyed_by ((whole_rows, first_columns n ∷ []) ∷ []) ∷ []
keyed_after no_key k below = []

-- the ways of an operator over one input: one, where the rows that have to meet do
abbrev pub ways_along : Described → Bool × Part → List Way
ways_along d h = if_so (meet d.meets h) (way d.copying (h ∷ []) ∷ [])

-- of an operator over one input
abbrev pub over : Described → Plan → Behaviour
over d p = record {
  ways = ways_along d (own p);
  sortings = sorted_by d.copying (order_after d.order (claim p).order) ∷ [];
  keyed = keyed_after d.keys d.copying (claim p).keys;
}

-- of one over two inputs. Rows side by side have the parts that both inputs have, if both have each row once or both have all on each worker.
-- Rows that have to meet do where both inputs are routed alike, and where each worker has one of them whole; where left rows are kept that are matched, only the
-- right one counts. An input of one worker has every part, so that there a left column is tested to be one; a left input's own route and order name left columns,
-- which stand where they stood
abbrev pub ways_over : Meeting → DescribedBoth → Bool × Part → Bool × Part → List Way
ways_over side_by_side d h g = if_so (h.0 || ((input_has h any && input_has g any) || (input_has h all && input_has g all))) (way d.left (h ∷ g ∷ []) ∷ [])
ways_over (matched_on on) d h g = if_so (routed_alike on h.1 g.1) (way whole_rows (bare h.1 ∷ []) ∷ []) ++ if_so (input_has g all) (way d.left (h ∷ []) ∷ [])
ways_over (paired_on on) d h g =
    if_so (routed_alike on h.1 g.1) (way whole_rows (bare h.1 ∷ []) ∷ way d.right (bare g.1 ∷ []) ∷ [])
    ++ (if_so (input_has g all) (way d.left (h ∷ []) ∷ []) ++ if_so (input_has h all) (way d.right (g ∷ []) ∷ []))

-- the left input's order goes on where rows meet, and is lost where they stand side by side
abbrev pub order_over : Meeting → List OrderEntry → List OrderEntry
order_over side_by_side left = []
order_over (paired_on on) left = left
order_over (matched_on on) left = left

-- an input's keys where the rows of the other one meet one row each; else a key of each input together
abbrev pub keyed_held : (right_held left_held : Bool) → (lefts rights : Copying × List (List ℕ)) → List Keyed
keyed_held right_held left_held lefts rights =
    if_so right_held (keyed_by (lefts ∷ []) ∷ []) ++ (if_so left_held (keyed_by (rights ∷ []) ∷ []) ++ if_so (not (right_held || left_held)) (keyed_by (lefts ∷ rights ∷ []) ∷ []))

abbrev pub keyed_over : Meeting → DescribedBoth → (lefts rights : List (List ℕ)) → List Keyed
keyed_over side_by_side d lefts rights = []
keyed_over (matched_on on) d lefts rights = keyed_by ((whole_rows, lefts) ∷ []) ∷ []
keyed_over (paired_on on) d lefts rights =
    keyed_held (covers rights (map (λ p. p.1) on)) (covers lefts (map (λ p. p.0) on)) (whole_rows, lefts) (d.right, rights)

abbrev pub over_both : DescribedBoth → Plan → Plan → Behaviour
over_both d p q = record {
  ways = ways_over d.meeting d (own p) (own q);
  sortings = sorted_by whole_rows (order_over d.meeting (claim p).order) ∷ [];
  keyed = keyed_over d.meeting d (claim p).keys (claim q).keys;
}

-- the way to a part that is there whatever the inputs have
abbrev pub ways_made : Part → List Way
ways_made q = way whole_rows (bare q ∷ []) ∷ []

-- of a scan: what its relation declares
abbrev pub of_relation : Bool → Relation → Behaviour
of_relation shared r = record {
  ways = ways_made (cond shared any all);
  sortings = sorted_by whole_rows r.order ∷ [];
  keyed = keyed_by ((whole_rows, r.keys) ∷ []) ∷ [];
}

-- of an exchange: the part that it makes; the input's order where that goes on, and the one that it merges by; and the input's keys
abbrev pub moved : ExchangeKind → List OrderEntry → Plan → Behaviour
moved kind merge p = record {
  ways = ways_made (kind_part kind);
  sortings = if_so (is_one (size p) || goes_on kind (claim p)) (sorted_by whole_rows (claim p).order ∷ []) ++ sorted_by whole_rows merge ∷ [];
  keyed = keyed_by ((whole_rows, (claim p).keys) ∷ []) ∷ [];
}

abbrev pub behaviour : (ℕ → Relation) → Plan → Behaviour
behaviour catalog (scan n c r shared z) = of_relation shared (catalog r)
behaviour catalog (unary n c op p) = over (described op) p
behaviour catalog (binary n c op p q) = over_both (described_both (width catalog p) op) p q
behaviour catalog (exchange n c kind merge p) = moved kind merge p

-- the ways of a node whose inputs have these parts in place of those that they claim
abbrev pub ways_from : (ℕ → Relation) → Plan → (left right : Bool × Part) → List Way
ways_from catalog (scan n c r shared z) h g = ways_made (cond shared any all)
ways_from catalog (unary n c op p) h g = ways_along (described op) h
ways_from catalog (binary n c op p q) h g = ways_over (described_both (width catalog p) op).meeting (described_both (width catalog p) op) h g
ways_from catalog (exchange n c kind merge p) h g = ways_made (kind_part kind)

-- the ways of a node if its operator fits its inputs, which is not tested
abbrev pub both_if_fit : Meeting → DescribedBoth → Bool × Part → Bool × Part → List Way
both_if_fit side_by_side d h g = way d.left (h ∷ g ∷ []) ∷ []
both_if_fit (paired_on on) d h g = ways_over (paired_on on) d h g
both_if_fit (matched_on on) d h g = ways_over (matched_on on) d h g

abbrev pub ways_if_fit : (ℕ → Relation) → Plan → List Way
ways_if_fit catalog (scan n c r shared z) = ways_made (cond shared any all)
ways_if_fit catalog (unary n c op p) = way (described op).copying (own p ∷ []) ∷ []
ways_if_fit catalog (binary n c op p q) = both_if_fit (described_both (width catalog p) op).meeting (described_both (width catalog p) op) (own p) (own q)
ways_if_fit catalog (exchange n c kind merge p) = ways_made (kind_part kind)

-- the keys of a node whose inputs have these in place of those that they claim
abbrev pub keyed_from : (ℕ → Relation) → Plan → (lefts rights : List (List ℕ)) → List Keyed
keyed_from catalog (scan n c r shared z) lefts rights = keyed_by ((whole_rows, (catalog r).keys) ∷ []) ∷ []
keyed_from catalog (unary n c op p) lefts rights = keyed_after (described op).keys (described op).copying lefts
keyed_from catalog (binary n c op p q) lefts rights = keyed_over (described_both (width catalog p) op).meeting (described_both (width catalog p) op) lefts rights
keyed_from catalog (exchange n c kind merge p) lefts rights = keyed_by ((whole_rows, lefts) ∷ []) ∷ []

-- ---- downwards: what is shown

-- the operator fits its inputs: there is a way
abbrev pub fits : Behaviour → Bool
fits b = list_any (λ w. true) b.ways

-- each of the inputs has the part
abbrev pub each_has : List (Bool × Part) → Part → Bool
each_has from q = list_all (λ f. input_has f q) from

-- a way gives the part; no way has all rows on one of several workers
abbrev pub gives : Way → Part → Bool
gives w one = false
gives w any = each_has w.from any
gives w all = each_has w.from all
gives w (routed r cols) = if_some (sources w.copying cols) (λ cs. each_has w.from (routed r cs))

-- the rows are sorted so, as they are sorted on the columns that these are copies of
abbrev pub sorts : Sorted → List OrderEntry → Bool
sorts s order = if_order (order_sources s.copying order) (λ o. is_front o s.order)

-- the column is this one
abbrev pub is_column : Option ℕ → ℕ → Bool
is_column None c = false
is_column (Some d) c = c == d

-- among these output columns is a copy of this input column; and copies of all columns of one of these keys
abbrev pub has_copy : Copying → List ℕ → ℕ → Bool
has_copy k cols c = list_any (λ x. is_column (source k x) c) cols

abbrev pub has_key : Copying → List (List ℕ) → List ℕ → Bool
has_key k keys cols = list_any (λ key. list_all (has_copy k cols) key) keys

-- these output columns contain a key of each of the inputs
abbrev pub keys_give : Keyed → List ℕ → Bool
keys_give k cols = list_all (λ f. has_key f.0 f.1 cols) k.from

-- the part, the order and the key are shown
abbrev pub shown_part : Behaviour → Part → Bool
shown_part b q = list_any (λ w. gives w q) b.ways

abbrev pub shown_order : Behaviour → List OrderEntry → Bool
shown_order b order = list_any (λ s. sorts s order) b.sortings

abbrev pub shown_key : Behaviour → List ℕ → Bool
shown_key b cols = list_any (λ k. keys_give k cols) b.keyed

-- ---- upwards: what is claimed

-- routed by the columns at their places; any part where one of them has none
abbrev pub routed_at : Route → Option (List ℕ) → Part
routed_at r None = any
routed_at r (Some cols) = routed r cols

-- what an output has of an input's part; of one worker's part nothing, which no several workers have
abbrev pub part_up : Copying → Part → Option Part
part_up k one = None
part_up k any = Some any
part_up k all = Some all
part_up k (routed r cols) = Some (routed_at r (places k cols))

-- the first input's part if the others have it too, else any
abbrev pub common_part : List (Bool × Part) → Part
common_part [] = any
common_part (f ∷ fs) = cond (list_all (λ g. part_gives g.1 f.1) fs) f.1 any

-- the part that the first way carries up
abbrev pub first_part : List Way → Option Part
first_part [] = None
first_part (w ∷ ws) = part_up w.copying (common_part w.from)

-- the order that the first sorting carries up
abbrev pub first_order : List Sorted → List OrderEntry
first_order [] = []
first_order (s ∷ ss) = front_order s.copying s.order

-- the keys of which each column has a place
abbrev pub kept_keys : Copying → List (List ℕ) → List (List ℕ)
kept_keys k keys = filter_map (places k) keys

-- of one list all; of more the first of each, together
abbrev pub first_pair : List (List ℕ) → List (List ℕ) → List (List ℕ)
first_pair (k ∷ lefts) (j ∷ rights) = (k ++ j) ∷ []
first_pair _ _ = []

abbrev pub together : List (List (List ℕ)) → List (List ℕ)
together [] = []
together (keys ∷ []) = keys
together (keys ∷ more ∷ others) = first_pair keys (together (more ∷ others))

abbrev pub keys_up : Keyed → List (List ℕ)
keys_up k = together (map (λ f. kept_keys f.0 f.1) k.from)

-- what a node claims in place of its claim: one worker's part, or the one that is carried up; the order; and the keys
abbrev pub node_part : (ℕ → Relation) → Plan → Option Part
node_part catalog p = cond (is_one (size p)) (Some one) (first_part (behaviour catalog p).ways)

abbrev pub node_order : (ℕ → Relation) → Plan → List OrderEntry
node_order catalog p = first_order (behaviour catalog p).sortings

abbrev pub node_keys : (ℕ → Relation) → Plan → List (List ℕ)
node_keys catalog p = flat_map keys_up (behaviour catalog p).keyed
