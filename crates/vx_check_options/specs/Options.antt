-- What nodes can claim: the parts, and the entries that may stand at each place of an order, each by what the inputs can claim. A claim that a node has already narrows them.
use Rattle.std.specs.Prelude.{ℕ, suc, ◌+◌, ◌==◌, nat_lt, nat_le, Bool, true, false, cond, ◌&&◌, ◌||◌, List, [], ◌∷◌, ◌++◌, map, flat_map, filter, length, take, Option, Some, None, is_some, option_map, unwrap_or}
use Rattle.std.specs.List.{list_all, list_any}
use Rattle.vx_rows_values.specs.declared.order.OrderEntry.{OrderEntry}
use Rattle.vx_rows_values.specs.Order.{entry_eq}
use Rattle.vx_rows_values.specs.Lists.{is_some_list}
use Rattle.vx_catalog_relations.specs.Relation.{Relation}
use Rattle.vx_plan_nodes.specs.Plan.{Route, Part, one, any, all, routed, by_hashing, by_merging, left_order, right_order, Binary, union, join, semi_join, ExchangeKind, concat, Plan, scan, unary, binary, exchange, claim, size, is_one}
use Rattle.vx_plan_nodes.specs.Describe.{Copying, whole_rows, columns_kept, entries_kept, is_column, left_of, right_of, no_columns, OrderAfter, order_kept, sorted_on, described}
use Rattle.vx_check_rules.specs.Rules.{part_gives, entry_at, rises_by, sizes_match}
use Rattle.vx_check_rules.specs.Behaviour.{Way, gives, common_part, ways_from}
use Rattle.vx_check_rules.specs.Refusal.{Rule, size_mismatch, replicated_input, inputs_not_matched, order_needed, order_not_shown, or_else, refused_at}
use Rattle.vx_rows_values.specs.Limits.{max_columns}

-- ---- copies of columns

-- the places of a column in a list, counted from a number on
abbrev pub places_from : ℕ → List ℕ → ℕ → List ℕ
places_from n [] c = []
places_from n (k ∷ ks) c = cond (c == k) (n ∷ places_from (suc n) ks c) (places_from (suc n) ks c)

-- the places of those of a list that are this column, where some are none
abbrev pub entries_from : ℕ → List (Option ℕ) → ℕ → List ℕ
entries_from n [] c = []
entries_from n (k ∷ ks) c = cond (is_column c k) (n ∷ entries_from (suc n) ks c) (entries_from (suc n) ks c)

-- all output columns that are copies of an input column
abbrev pub copies : Copying → ℕ → List ℕ
copies whole_rows c = c ∷ []
copies (columns_kept cols) c = places_from 0 cols c
copies (entries_kept ks) c = entries_from 0 ks c
copies (left_of w) c = cond (nat_lt c w) (c ∷ []) []
copies (right_of w) c = cond (nat_lt c max_columns) ((w + c) ∷ []) []
copies no_columns c = []

-- a copy of the first column in front of each of these lists
abbrev pub in_front : Copying → ℕ → List (List ℕ) → List (List ℕ)
in_front k c lists = flat_map (λ d. map (λ ds. d ∷ ds) lists) (copies k c)

-- the lists of output columns that are copies of these input columns, one by one: the first 64
abbrev pub copied_lists : Copying → List ℕ → List (List ℕ)
copied_lists k [] = [] ∷ []
copied_lists k (c ∷ cs) = take 64 (in_front k c (copied_lists k cs))

-- these are all that there are
abbrev pub are_all_lists : Copying → List ℕ → Bool
are_all_lists k [] = true
are_all_lists k (c ∷ cs) = are_all_lists k cs && nat_le (length (in_front k c (copied_lists k cs))) 64

-- ---- parts

-- routed by each of these lists of columns; any part where there is none
abbrev pub routed_by : Route → List (List ℕ) → List Part
routed_by r [] = any ∷ []
routed_by r (cols ∷ more) = map (routed r) (cols ∷ more)

-- what an output can have of an input's part
abbrev pub parts_up : Copying → Part → List Part
parts_up k one = []
parts_up k any = any ∷ []
parts_up k all = all ∷ []
parts_up k (routed r cols) = routed_by r (copied_lists k cols)

-- the parts that a way gives
abbrev pub parts_of_way : Way → List Part
parts_of_way w = parts_up w.copying (common_part w.from)

-- those of a node whose inputs have these parts, on several workers
abbrev pub parts_over : (ℕ → Relation) → Plan → (left right : Part) → List Part
parts_over catalog p x y = flat_map parts_of_way (ways_from catalog p (false, x) (false, y))

-- and where each input has one of these
abbrev pub parts_among : (ℕ → Relation) → Plan → (lefts rights : List Part) → List Part
parts_among catalog p lefts rights = flat_map (λ x. flat_map (parts_over catalog p x) rights) lefts

-- the same part: each gives the other
abbrev pub same_part : Part → Part → Bool
same_part p q = part_gives p q && part_gives q p

-- each part once, the first ones first
abbrev pub with_part : List Part → Part → List Part
with_part parts q = cond (list_any (same_part q) parts) parts (parts ++ q ∷ [])

abbrev pub with_parts : List Part → List Part → List Part
with_parts parts [] = parts
with_parts parts (q ∷ qs) = with_parts (with_part parts q) qs

abbrev pub is_routed : Part → Bool
is_routed (routed r cols) = true
is_routed _ = false

-- those that tell the most: the routed ones, if there are any
abbrev pub most_telling : List Part → List Part
most_telling parts = cond (list_any is_routed parts) (filter is_routed parts) parts

-- a node on several workers shows the part, where its inputs have these
abbrev pub gives_part : (ℕ → Relation) → Plan → Part → (left right : Part) → Bool
gives_part catalog p q x y = list_any (λ w. gives w q) (ways_from catalog p (false, x) (false, y))

-- the part alone, if it is shown where each input has one of these
abbrev pub part_if_given : (ℕ → Relation) → Plan → Part → (lefts rights : List Part) → List Part
part_if_given catalog p q lefts rights = cond (list_any (λ x. list_any (gives_part catalog p q x) rights) lefts) (q ∷ []) []

-- a node that claims all or a route already keeps it; any other can claim what tells the most
abbrev pub told_parts : (ℕ → Relation) → Plan → Part → (lefts rights : List Part) → List Part
told_parts catalog p one lefts rights = most_telling (with_parts [] (parts_among catalog p lefts rights))
told_parts catalog p any lefts rights = most_telling (with_parts [] (parts_among catalog p lefts rights))
told_parts catalog p all lefts rights = part_if_given catalog p all lefts rights
told_parts catalog p (routed r cols) lefts rights = part_if_given catalog p (routed r cols) lefts rights

-- the parts that a node can claim, before the bound: one worker has all rows
abbrev pub parts_above : (ℕ → Relation) → Plan → (lefts rights : List Part) → List Part
parts_above catalog p lefts rights = cond (is_one (size p)) (one ∷ []) (told_parts catalog p (claim p).part lefts rights)

-- of a node with fewer than two inputs the list of one part stands for the parts of the others, at which no way looks
abbrev pub no_input : List Part
no_input = any ∷ []

-- the parts that a node can claim, 64 at the most
abbrev pub parts_at : (ℕ → Relation) → Plan → List Part
parts_at catalog (scan n c r m z) = take 64 (parts_above catalog (scan n c r m z) no_input no_input)
parts_at catalog (unary n c op p) = take 64 (parts_above catalog (unary n c op p) (parts_at catalog p) no_input)
parts_at catalog (binary n c op p q) = take 64 (parts_above catalog (binary n c op p q) (parts_at catalog p) (parts_at catalog q))
parts_at catalog (exchange n c k m p) = take 64 (parts_above catalog (exchange n c k m p) no_input no_input)

-- the copies of the columns of a part are all there
abbrev pub are_all_of : Copying → Part → Bool
are_all_of k (routed r cols) = are_all_lists k cols
are_all_of k q = true

-- no bound cuts any part off, at a node whose inputs can claim these
abbrev pub is_within_here : (ℕ → Relation) → Plan → (lefts rights : List Part) → Bool
is_within_here catalog p lefts rights =
    nat_le (length (parts_above catalog p lefts rights)) 64
    && list_all (λ x. list_all (λ y. list_all (λ w. are_all_of w.copying (common_part w.from)) (ways_from catalog p (false, x) (false, y))) rights) lefts

-- and below
abbrev pub is_within : (ℕ → Relation) → Plan → Bool
is_within catalog (scan n c r m z) = is_within_here catalog (scan n c r m z) no_input no_input
is_within catalog (unary n c op p) = is_within catalog p && is_within_here catalog (unary n c op p) (parts_at catalog p) no_input
is_within catalog (binary n c op p q) = is_within catalog p && (is_within catalog q && is_within_here catalog (binary n c op p q) (parts_at catalog p) (parts_at catalog q))
is_within catalog (exchange n c k m p) = is_within catalog p && is_within_here catalog (exchange n c k m p) no_input no_input

-- ---- orders

-- the entries that may stand at each place
abbrev pub OrderChoices : Type 0
OrderChoices = List (List OrderEntry)

abbrev pub singles : List OrderEntry → OrderChoices
singles order = map (λ e. e ∷ []) order

-- the entry is one of these
abbrev pub has_entry : List OrderEntry → OrderEntry → Bool
has_entry es e = list_any (entry_eq e) es

-- the copies of an entry's column, in its direction
abbrev pub entry_copies : Copying → OrderEntry → List OrderEntry
entry_copies k e = map (λ c. entry_at c e) (copies k e.column)

-- these entries in front, if there are any
abbrev pub place_then : List OrderEntry → OrderChoices → OrderChoices
place_then [] places = []
place_then (e ∷ es) places = (e ∷ es) ∷ places

-- the copies of what may stand at each place, up to the first that has none
abbrev pub places_up : Copying → OrderChoices → OrderChoices
places_up k [] = []
places_up k (s ∷ places) = place_then (flat_map (entry_copies k) s) (places_up k places)

-- each of these entries alone at its place, if it may stand there
abbrev pub narrowed : List OrderEntry → OrderChoices → Option OrderChoices
narrowed [] places = Some places
narrowed (e ∷ es) [] = None
narrowed (e ∷ es) (s ∷ places) = cond (has_entry s e) (option_map (λ more. (e ∷ []) ∷ more) (narrowed es places)) None

abbrev pub or_nowhere : Option OrderChoices → OrderChoices
or_nowhere o = unwrap_or o []

-- what becomes of the places of an order
abbrev pub places_after : OrderAfter → OrderChoices → OrderChoices
places_after order_kept places = places
places_after (sorted_on order) places = singles order

-- of an operator over two inputs, by the left one's
abbrev pub places_over_both : Binary → OrderChoices → OrderChoices
places_over_both union places = []
places_over_both (join (by_merging falls) on) places = or_nowhere (narrowed (left_order falls on) places)
places_over_both (join by_hashing on) places = places
places_over_both (semi_join matched on conditions) places = places

-- the order begins with a rising column by whose ranges the rows can be routed
abbrev pub rising : List Part → OrderChoices → OrderChoices
rising parts [] = []
rising parts (s ∷ places) = place_then (filter (λ e. list_any (λ x. rises_by x (e ∷ [])) parts) s) places

-- of an exchange of several producers, which can have these parts: what it merges by, or for a concat the producers' order where rows rise with them
abbrev pub places_sent : ExchangeKind → List OrderEntry → List Part → OrderChoices → OrderChoices
places_sent concat merge parts places = rising parts places
places_sent k merge parts places = singles merge

-- what may stand at each place of an order of the node, where the (left) input can claim these parts and these places
abbrev pub places_over : (ℕ → Relation) → Plan → List Part → OrderChoices → OrderChoices
places_over catalog (scan n c r m z) parts places = singles (catalog r).order
places_over catalog (unary n c op p) parts places = places_up (described op).copying (places_after (described op).order places)
places_over catalog (binary n c op p q) parts places = places_over_both op places
places_over catalog (exchange n c k merge p) parts places = cond (is_one (size p)) (or_nowhere (narrowed merge places)) (places_sent k merge parts places)

-- and of the longest order that it can claim, which keeps the one that it claims already
abbrev pub places_at : (ℕ → Relation) → Plan → OrderChoices
places_at catalog (scan n c r m z) = or_nowhere (narrowed c.order (places_over catalog (scan n c r m z) [] []))
places_at catalog (unary n c op p) = or_nowhere (narrowed c.order (places_over catalog (unary n c op p) [] (places_at catalog p)))
places_at catalog (binary n c op p q) = or_nowhere (narrowed c.order (places_over catalog (binary n c op p q) [] (places_at catalog p)))
places_at catalog (exchange n c k m p) = or_nowhere (narrowed c.order (places_over catalog (exchange n c k m p) (parts_at catalog p) (places_at catalog p)))

-- before the order that it claims already narrows it
abbrev pub places_here : (ℕ → Relation) → Plan → OrderChoices
places_here catalog (scan n c r m z) = places_over catalog (scan n c r m z) [] []
places_here catalog (unary n c op p) = places_over catalog (unary n c op p) [] (places_at catalog p)
places_here catalog (binary n c op p q) = places_over catalog (binary n c op p q) [] (places_at catalog p)
places_here catalog (exchange n c k m p) = places_over catalog (exchange n c k m p) (parts_at catalog p) (places_at catalog p)

-- ---- nodes that nothing fits

-- each row can be on one worker alone
abbrev pub can_send : (ℕ → Relation) → Plan → Bool
can_send catalog (exchange n c k m p) = is_one (size p) || list_any (λ x. part_gives x any) (parts_at catalog p)
can_send catalog p = true

-- there is a part that the node can claim
abbrev pub can_meet : (ℕ → Relation) → Plan → Bool
can_meet catalog p = is_some_list (parts_at catalog p)

-- the inputs can be in the order that the node needs
abbrev pub can_order : (ℕ → Relation) → Plan → Bool
can_order catalog (binary n c (join (by_merging falls) on) p q) =
    is_some (narrowed (left_order falls on) (places_at catalog p)) && is_some (narrowed (right_order falls on) (places_at catalog q))
can_order catalog (exchange n c k merge p) = is_some (narrowed merge (places_at catalog p))
can_order catalog p = true

-- the node can keep the order that it claims
abbrev pub can_keep : (ℕ → Relation) → Plan → Bool
can_keep catalog (scan n c r m z) = is_some (narrowed c.order (places_over catalog (scan n c r m z) [] []))
can_keep catalog (unary n c op p) = is_some (narrowed c.order (places_over catalog (unary n c op p) [] (places_at catalog p)))
can_keep catalog (binary n c op p q) = is_some (narrowed c.order (places_over catalog (binary n c op p q) [] (places_at catalog p)))
can_keep catalog (exchange n c k m p) = is_some (narrowed c.order (places_over catalog (exchange n c k m p) (parts_at catalog p) (places_at catalog p)))

-- the tests that no claims can pass, in their order
abbrev pub fit_tests : (ℕ → Relation) → Plan → List (Bool × Rule)
fit_tests catalog p =
    (sizes_match p, size_mismatch) ∷ (can_send catalog p, replicated_input) ∷ (can_meet catalog p, inputs_not_matched) ∷ (can_order catalog p, order_needed)
    ∷ (can_keep catalog p, order_not_shown) ∷ []

-- the first node in post-order that no claims can save, and the test that fails there
abbrev pub first_unfit : (ℕ → Relation) → Plan → Option (ℕ × Rule)
first_unfit catalog (scan n c r m z) = refused_at n (fit_tests catalog (scan n c r m z))
first_unfit catalog (unary n c op p) = or_else (first_unfit catalog p) (refused_at n (fit_tests catalog (unary n c op p)))
first_unfit catalog (binary n c op p q) = or_else (first_unfit catalog p) (or_else (first_unfit catalog q) (refused_at n (fit_tests catalog (binary n c op p q))))
first_unfit catalog (exchange n c k m p) = or_else (first_unfit catalog p) (refused_at n (fit_tests catalog (exchange n c k m p)))
