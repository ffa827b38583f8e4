-- The checker refuses what is placed exactly where no claims fit.
use Rattle.std.specs.Prelude.{⊤}
use Rattle.std.proofs.Common.{◌≡◌, ℕ, Bool, true, false, cond, ◌&&◌, ◌||◌, ◌⊎◌, inl, inr, ⊎_elim, List, [], ◌∷◌, take, refl, sym, ap, ◌∙◌, Option, Some, None, is_some, option_map, unwrap_or}
use Rattle.std.specs.List.{list_any, list_all, filter}
use Rattle.vx_rows_values.specs.Order.{order_columns}
use Rattle.vx_rows_values.specs.declared.order.OrderEntry.{OrderEntry}
use Rattle.vx_rows_values.specs.Lists.{is_some_list}
use Rattle.vx_rows_values.proofs.Booleans.{and-left, and-right, and-both}
use Rattle.vx_catalog_relations.specs.Relation.{Relation}
use Rattle.vx_catalog_relations.specs.Catalog.{relation_at}
use Rattle.vx_plan_nodes.specs.Plan.{Size, by_hash, by_range, Part, one, any, all, routed, Claim, Unary, Binary, union, join, semi_join, ExchangeKind, route_to, round, broadcast, gather, concat, Plan, scan, unary, binary, exchange, number, claim, size, is_one, size_eq, by_hashing, by_merging, left_order, right_order}
use Rattle.vx_plan_nodes.specs.Types.{width, unary_width, binary_width}
use Rattle.vx_plan_nodes.specs.Typed.{Scope, may_merge, is_kind, are_columns, typed}
use Rattle.vx_plan_nodes.specs.Describe.{Copying, whole_rows, OrderAfter, order_kept, sorted_on, described, described_both}
use Rattle.vx_check_rules.specs.Rules.{part_gives, is_front, rises_by, goes_on, sizes_match, not_replicated, inputs_match, order_given, part_shown, order_shown, keys_of, keys_shown, if_order}
use Rattle.vx_check_rules.specs.Refusal.{Rule, size_mismatch, part_not_shown, inputs_not_matched, replicated_input, order_not_shown, order_needed, key_not_shown, first_rows_open, first_failure, or_else, refused_at}
use Rattle.vx_check_rules.specs.Behaviour.{own, gives, order_after, ways_along, ways_over, ways_from, behaviour, fits, shown_part, order_sources}
use Rattle.vx_check_rules.proofs.Bools.{or-left, or-right, any-more}
use Rattle.vx_check_rules.proofs.Exact.{fits-exactly, parts-exactly, orders-exactly}
use Rattle.vx_check_rules.proofs.Refusals.{none-both, none-failed}
use Rattle.vx_check_options.specs.Options.{told_parts, parts_at, OrderChoices, singles, narrowed, or_nowhere, places_over_both, places_sent, rising, places_at, can_send, can_meet, can_order, can_keep, fit_tests, first_unfit, has_entry}
use Rattle.vx_check_options.specs.Placed.{order_along, order_below, order_to_left, order_to_right, order_sent, is_chosen, first_part, parts_below, part_sent, keyless, placed, bare}
use Rattle.vx_check_options.specs.Claimed.{fit_tests_with}
use Rattle.vx_check_options.specs.Laws.{is_option}
use Rattle.vx_check_options.proofs.Entries.{kept-passes, front-same}
use Rattle.vx_check_options.proofs.PlacedOrders.{same-tests, are_full, full-singles, full-up, full-rising, full-nowhere, first-chosen, along-chosen, chosen-along, begins-same, kept-chosen, goes-on-same, none-chosen, kept-front, singles-chosen, then-chosen, below-shown}
use Rattle.vx_check_options.proofs.PlacedParts.{lefts_at, rights_at, parts-at-is, below-given, below-in, sent-in, option-in, find-some, met-some, both-several}
use Rattle.vx_check_options.proofs.PlacedSent.{all-say, each-says}

-- ---- what is placed

pub size-placed : (catalog : ℕ → Relation) (p : Plan) (q : Part) (order : List OrderEntry) → size (placed catalog p q order) ≡ size p
size-placed catalog (scan n c r m z) q order = refl
size-placed catalog (unary n c op p) q order = size-placed catalog p _ _
size-placed catalog (binary n c op p p2) q order = size-placed catalog p _ _
size-placed catalog (exchange n c k m p) q order = refl

pub width-placed : (catalog : ℕ → Relation) (p : Plan) (q : Part) (order : List OrderEntry) → width catalog (placed catalog p q order) ≡ width catalog p
width-placed catalog (scan n c r m z) q order = refl
width-placed catalog (unary n c op p) q order = ap (unary_width op) (width-placed catalog p _ _)
width-placed catalog (binary n c op p p2) q order =
    wide (width-placed catalog p _ _) (width-placed catalog p2 _ _)
  where
    wide : {a b c d : ℕ} → a ≡ b → c ≡ d → binary_width op a c ≡ binary_width op b d
    wide e f = cc
width-placed catalog (exchange n c k m p) q order = width-placed catalog p _ _

pub claim-placed : (catalog : ℕ → Relation) (p : Plan) (q : Part) (order : List OrderEntry) → claim (placed catalog p q order) ≡ keyless q order
claim-placed catalog (scan n c r m z) q order = refl
claim-placed catalog (unary n c op p) q order = refl
claim-placed catalog (binary n c op p p2) q order = refl
claim-placed catalog (exchange n c k m p) q order = refl

pub part-placed : (catalog : ℕ → Relation) (p : Plan) (q : Part) (order : List OrderEntry) → (claim (placed catalog p q order)).part ≡ q
part-placed catalog p q order = ap (λ c. c.part) (claim-placed catalog p q order)

pub order-placed : (catalog : ℕ → Relation) (p : Plan) (q : Part) (order : List OrderEntry) → (claim (placed catalog p q order)).order ≡ order
order-placed catalog p q order = ap (λ c. c.order) (claim-placed catalog p q order)

one-placed : (catalog : ℕ → Relation) (p : Plan) (q : Part) (order : List OrderEntry) → is_one (size (placed catalog p q order)) ≡ is_one (size p)
one-placed catalog p q order = ap is_one (size-placed catalog p q order)

own-placed : (catalog : ℕ → Relation) (p : Plan) (q : Part) (order : List OrderEntry) → is_one (size p) ≡ false → own (placed catalog p q order) ≡ (false, q)
own-placed catalog p q order s =
    ap (λ b. (b, (claim (placed catalog p q order)).part)) (one-placed catalog p q order ∙ s) ∙ ap (λ z. (false, z)) (part-placed catalog p q order)

-- no place of a node is empty
full-both : (op : Binary) (places : OrderChoices) → are_full places ≡ true → are_full (places_over_both op places) ≡ true
full-both union places h = refl
full-both (join (by_merging falls) on) places h = full-nowhere (left_order falls on) places h
full-both (join by_hashing on) places h = h
full-both (semi_join matched on conditions) places h = h

full-sent : (k : ExchangeKind) (merge : List OrderEntry) (parts : List Part) (places : OrderChoices) (b : Bool) → are_full places ≡ true
    → are_full (cond b (or_nowhere (narrowed merge places)) (places_sent k merge parts places)) ≡ true
full-sent k merge parts places true h = full-nowhere merge places h
full-sent (route_to z r cols) merge parts places false h = full-singles merge
full-sent (round z) merge parts places false h = full-singles merge
full-sent (broadcast z) merge parts places false h = full-singles merge
full-sent gather merge parts places false h = full-singles merge
full-sent concat merge parts places false h = full-rising parts places h

pub full-at : (catalog : ℕ → Relation) (p : Plan) → are_full (places_at catalog p) ≡ true
full-at catalog (scan n c r m z) = full-nowhere c.order (singles (catalog r).order) (full-singles (catalog r).order)
full-at catalog (unary n c op p) = full-nowhere c.order _ (full-up (described op).copying _)
full-at catalog (binary n c op p q) = full-nowhere c.order (places_over_both op (places_at catalog p)) (full-both op (places_at catalog p) (full-at catalog p))
full-at catalog (exchange n c k m p) = full-nowhere c.order _ (full-sent k m (parts_at catalog p) (places_at catalog p) (is_one (size p)) (full-at catalog p))

-- ---- parts

ways-both : (catalog : ℕ → Relation) (op : Binary) (p p2 : Plan) (x y : Part) (order order2 : List OrderEntry) → is_one (size p) ≡ false → is_one (size p2) ≡ false
    → ways_over (described_both (width catalog (placed catalog p x order)) op).meeting (described_both (width catalog (placed catalog p x order)) op) (own (placed catalog p x order)) (own (placed catalog p2 y order2))
    ≡ ways_over (described_both (width catalog p) op).meeting (described_both (width catalog p) op) (false, x) (false, y)
ways-both catalog op p p2 x y order order2 s s2 =
    ap (λ w. ways_over (described_both w op).meeting (described_both w op) (own (placed catalog p x order)) (own (placed catalog p2 y order2))) (width-placed catalog p x order)
    ∙ (ap (λ h. ways_over (described_both (width catalog p) op).meeting (described_both (width catalog p) op) h (own (placed catalog p2 y order2))) (own-placed catalog p x order s)
    ∙ ap (λ h. ways_over (described_both (width catalog p) op).meeting (described_both (width catalog p) op) (false, x) h) (own-placed catalog p2 y order2 s2))

-- the parts that are placed below a node
abbrev pub left_part : (ℕ → Relation) → Plan → Part → Part
left_part catalog p q = (parts_below catalog p q (lefts_at catalog p) (rights_at catalog p)).0

abbrev pub right_part : (ℕ → Relation) → Plan → Part → Part
right_part catalog p q = (parts_below catalog p q (lefts_at catalog p) (rights_at catalog p)).1

-- the ways of a node are those over the parts that are placed below it
pub ways-placed : (catalog : ℕ → Relation) (p : Plan) (q : Part) (order : List OrderEntry) → is_one (size p) ≡ false → sizes_match p ≡ true
    → (behaviour catalog (placed catalog p q order)).ways ≡ ways_from catalog p (false, left_part catalog p q) (false, right_part catalog p q)
ways-placed catalog (scan n c r m z) q order s e = refl
ways-placed catalog (unary n c op p) q order s e = ap (λ h. ways_along (described op) h) (own-placed catalog p _ _ s)
ways-placed catalog (binary n c op p p2) q order s e = ways-both catalog op p p2 _ _ _ _ s (both-several (size p) (size p2) e s)
ways-placed catalog (exchange n c k m p) q order s e = refl

-- where the node can claim a part, there is a way
met-placed : (catalog : ℕ → Relation) (p : Plan) (q : Part) (order : List OrderEntry) → sizes_match p ≡ true → is_some_list (parts_at catalog p) ≡ true → is_option (parts_at catalog p) q ≡ true
    → inputs_match (placed catalog p q order) ≡ true
met-placed catalog p q order e met h = fits-exactly catalog (placed catalog p q order) ∙ by (is_one (size p)) refl
  where
    by : (b : Bool) → is_one (size p) ≡ b → (is_one (size (placed catalog p q order)) || fits (behaviour catalog (placed catalog p q order))) ≡ true
    by true s = or-left _ _ (one-placed catalog p q order ∙ s)
    by false s =
        or-right _ _
        (ap (list_any (λ w. true)) (ways-placed catalog p q order s e)
        ∙ any-more (λ w. gives w q) (λ w. true) (ways_from catalog p (false, left_part catalog p q) (false, right_part catalog p q)) (λ w g. refl)
        (below-given catalog p q s (option-in q (parts_at catalog p) met h)))

-- and the part is shown
shown-placed : (catalog : ℕ → Relation) (p : Plan) (q : Part) (order : List OrderEntry) → sizes_match p ≡ true → is_some_list (parts_at catalog p) ≡ true → is_option (parts_at catalog p) q ≡ true
    → part_shown catalog (placed catalog p q order) ≡ true
shown-placed catalog p q order e met h =
    parts-exactly catalog (placed catalog p q order) (claim (placed catalog p q order)).part (met-placed catalog p q order e met h) ∙ by (is_one (size p)) refl
  where
    by : (b : Bool) → is_one (size p) ≡ b
        → (is_one (size (placed catalog p q order)) || shown_part (behaviour catalog (placed catalog p q order)) (claim (placed catalog p q order)).part) ≡ true
    by true s = or-left _ _ (one-placed catalog p q order ∙ s)
    by false s =
        or-right _ _
        (ap (shown_part (behaviour catalog (placed catalog p q order))) (part-placed catalog p q order)
        ∙ (ap (list_any (λ w. gives w q)) (ways-placed catalog p q order s e) ∙ below-given catalog p q s (option-in q (parts_at catalog p) met h)))

or-drop : (b c : Bool) → b ≡ false → (b || c) ≡ true → c ≡ true
or-drop true c h k = cc
or-drop false c h k = k

-- where there is a way, a node without a claim can claim a part
met-back : (catalog : ℕ → Relation) (p : Plan) (q : Part) (order : List OrderEntry) → sizes_match p ≡ true → (claim p).part ≡ any → is_some_list (lefts_at catalog p) ≡ true → is_some_list (rights_at catalog p) ≡ true
    → inputs_match (placed catalog p q order) ≡ true → is_some_list (parts_at catalog p) ≡ true
met-back catalog p q order e c hl hr h = by (is_one (size p)) refl
  where
    by : (b : Bool) → is_one (size p) ≡ b → is_some_list (parts_at catalog p) ≡ true
    by true s =
        ap is_some_list (parts-at-is catalog p)
        ∙ ap (λ b. is_some_list (take 64 (cond b (one ∷ []) (told_parts catalog p (claim p).part (lefts_at catalog p) (rights_at catalog p))))) s
    by false s =
        let both = below-in catalog p q (lefts_at catalog p) (rights_at catalog p) in
        let fit : fits (behaviour catalog (placed catalog p q order)) ≡ true =
        or-drop (is_one (size (placed catalog p q order))) (fits (behaviour catalog (placed catalog p q order))) (one-placed catalog p q order ∙ s) (sym (fits-exactly catalog (placed catalog p q order)) ∙ h) in
        met-some catalog p (left_part catalog p q) (right_part catalog p q) s e c (option-in _ _ hl both.0) (option-in _ _ hr both.1)
        (sym (ap (list_any (λ w. true)) (ways-placed catalog p q order s e)) ∙ fit)

-- ---- orders

-- an exchange's input is in the order that it merges by exactly where it can be
sent-given : (k : ExchangeKind) (merge claimed : List OrderEntry) (parts : List Part) (places : OrderChoices) (order : List OrderEntry) (b : Bool) → may_merge k merge ≡ true → are_full places ≡ true
    → is_some (narrowed claimed (cond b (or_nowhere (narrowed merge places)) (places_sent k merge parts places))) ≡ true
    → is_chosen order (or_nowhere (narrowed claimed (cond b (or_nowhere (narrowed merge places)) (places_sent k merge parts places)))) ≡ true
    → is_front merge (order_along whole_rows (order_sent k b merge order) places) ≡ is_some (narrowed merge places)
sent-given k merge claimed parts places order true may f keep h = goes-on-same claimed merge places order f keep h
sent-given (route_to z r cols) merge claimed parts places order false may f keep h = begins-same merge places f
sent-given (round z) merge claimed parts places order false may f keep h = begins-same merge places f
sent-given (broadcast z) merge claimed parts places order false may f keep h = begins-same merge places f
sent-given gather merge claimed parts places order false may f keep h = begins-same merge places f
sent-given concat [] claimed parts places order false may f keep h = refl
sent-given concat (c ∷ merge) claimed parts places order false may f keep h = cc

rises-more : (x : Part) (d : OrderEntry) (ds : List OrderEntry) → rises_by x (d ∷ []) ≡ true → rises_by x (d ∷ ds) ≡ true
rises-more one d ds h = cc
rises-more any d ds h = cc
rises-more all d ds h = cc
rises-more (routed (by_hash a) cols) d ds h = cc
rises-more (routed (by_range k) []) d ds h = cc
rises-more (routed (by_range k) (c ∷ [])) d ds h = h
rises-more (routed (by_range k) (c ∷ e ∷ cols)) d ds h = cc

-- rows that rise with the producers are in order one producer after the other
rising-shown : (merge : List OrderEntry) (parts : List Part) (places : OrderChoices) (order : List OrderEntry) → is_chosen order (rising parts places) ≡ true
    → (is_front order merge || (rises_by (part_sent concat order parts) (order_along whole_rows order places) && is_front order (order_along whole_rows order places))) ≡ true
rising-shown merge parts places [] h = refl
rising-shown merge parts [] (d ∷ ds) h = cc
rising-shown merge parts (s ∷ places) (d ∷ ds) h =
    let w = then-chosen d ds (filter (λ e. list_any (λ x. rises_by x (e ∷ [])) parts) s) places h in
    let v = kept-passes (λ e. list_any (λ x. rises_by x (e ∷ [])) parts) s d w.0 in
    let same : order_along whole_rows (d ∷ ds) (s ∷ places) ≡ d ∷ ds = chosen-along (d ∷ ds) (s ∷ places) (and-both (has_entry s d) (is_chosen ds places) v.0 w.1) in
    let rises : list_any (λ x. rises_by x (d ∷ ds)) parts ≡ true = any-more (λ x. rises_by x (d ∷ [])) (λ x. rises_by x (d ∷ ds)) parts (λ x r. rises-more x d ds r) v.1 in
    let found = find-some (λ x. rises_by x (d ∷ ds)) parts rises in
    let by : rises_by (part_sent concat (d ∷ ds) parts) (d ∷ ds) ≡ true = ap (λ (o : Option Part). rises_by (unwrap_or o (first_part parts)) (d ∷ ds)) found.1 ∙ found.2 in
    or-right (is_front (d ∷ ds) merge) _
    (ap (λ xs. rises_by (part_sent concat (d ∷ ds) parts) xs && is_front (d ∷ ds) xs) same
    ∙ and-both (rises_by (part_sent concat (d ∷ ds) parts) (d ∷ ds)) (is_front (d ∷ ds) (d ∷ ds)) by (front-same (d ∷ ds)))

-- an order that is merged by is shown
merged : (merge claimed order : List OrderEntry) → is_some (narrowed claimed (singles merge)) ≡ true → is_chosen order (or_nowhere (narrowed claimed (singles merge))) ≡ true → is_front order merge ≡ true
merged merge claimed order keep h = ap (is_front order) (sym (singles-chosen order merge (kept-chosen claimed (singles merge) order keep h).0)) ∙ front-same order

-- an exchange shows its order
sent-shown : (k : ExchangeKind) (merge claimed : List OrderEntry) (parts : List Part) (places : OrderChoices) (order : List OrderEntry) (b : Bool) (c : Claim)
    → c ≡ keyless (part_sent k order parts) (order_along whole_rows (order_sent k b merge order) places)
    → is_some (narrowed claimed (cond b (or_nowhere (narrowed merge places)) (places_sent k merge parts places))) ≡ true
    → is_chosen order (or_nowhere (narrowed claimed (cond b (or_nowhere (narrowed merge places)) (places_sent k merge parts places)))) ≡ true
    → (is_front order merge || ((b || goes_on k c) && is_front order c.order)) ≡ true
sent-shown k merge claimed parts places order true c is keep h =
    or-right (is_front order merge) (is_front order c.order)
    (ap (λ d. is_front order d.order) is ∙ kept-front merge places order (kept-chosen claimed (or_nowhere (narrowed merge places)) order keep h).0)
sent-shown (route_to z r cols) merge claimed parts places order false c is keep h =
    or-left _ _ (merged merge claimed order keep h)
sent-shown (round z) merge claimed parts places order false c is keep h = or-left _ _ (merged merge claimed order keep h)
sent-shown (broadcast z) merge claimed parts places order false c is keep h = or-left _ _ (merged merge claimed order keep h)
sent-shown gather merge claimed parts places order false c is keep h = or-left _ _ (merged merge claimed order keep h)
sent-shown concat merge claimed parts places order false c is keep h =
    ap (λ d. is_front order merge || (rises_by d.part d.order && is_front order d.order)) is ∙ rising-shown merge parts places order (kept-chosen claimed (rising parts places) order keep h).0

-- ---- one node

sizes-placed : (catalog : ℕ → Relation) (p : Plan) (q : Part) (order : List OrderEntry) → sizes_match (placed catalog p q order) ≡ sizes_match p
sizes-placed catalog (scan n c r m z) q order = refl
sizes-placed catalog (unary n c op p) q order = refl
sizes-placed catalog (binary n c op p p2) q order = alike (size-placed catalog p _ _) (size-placed catalog p2 _ _)
  where
    alike : {a b c d : Size} → a ≡ b → c ≡ d → size_eq a c ≡ size_eq b d
    alike e f = cc
sizes-placed catalog (exchange n c k m p) q order = refl

-- the first failure is the same
same-failure : (a b c d e m a' b' c' d' f g h : Bool) → a' ≡ a → b' ≡ b → (a ≡ true → c ≡ true → c' ≡ true) → (a ≡ true → c' ≡ true → c ≡ true) → d' ≡ d → e ≡ true
    → (a ≡ true → c ≡ true → f ≡ true) → g ≡ true → h ≡ true
    → first_failure ((a', size_mismatch) ∷ (b', replicated_input) ∷ (c', inputs_not_matched) ∷ (d', order_needed) ∷ (m, first_rows_open) ∷ (f, part_not_shown) ∷ (g, order_not_shown) ∷ (h, key_not_shown) ∷ [])
    ≡ first_failure ((a, size_mismatch) ∷ (b, replicated_input) ∷ (c, inputs_not_matched) ∷ (d, order_needed) ∷ (m, first_rows_open) ∷ (e, order_not_shown) ∷ [])
same-failure false b c d e m a' b' c' d' f g h sa sb cc1 cc2 sd se sf sg sh = rw sa refl
same-failure true false c d e m a' b' c' d' f g h sa sb cc1 cc2 sd se sf sg sh = rw (sa, sb) refl
same-failure true true false d e m a' b' c' d' f g h sa sb cc1 cc2 sd se sf sg sh =
    let no : c' ≡ false = same-tests c' false (cc2 refl) (cc1 refl) in
    rw (sa, sb, no) refl
same-failure true true true false e m a' b' c' d' f g h sa sb cc1 cc2 sd se sf sg sh =
    let yes : c' ≡ true = cc1 refl refl in
    rw (sa, sb, yes, sd) refl
same-failure true true true true e m a' b' c' d' f g h sa sb cc1 cc2 sd se sf sg sh =
    let yes : c' ≡ true = cc1 refl refl in
    let shown : f ≡ true = sf refl refl in
    rw (sa, sb, yes, sd, se, shown, sg, sh) refl

-- the tests of a node, but that of the first rows is this one
abbrev pub tests_with : (known : Bool) → (ℕ → Relation) → Plan → List (Bool × Rule)
tests_with known catalog p =
    (sizes_match p, size_mismatch) ∷ (not_replicated p, replicated_input) ∷ (inputs_match p, inputs_not_matched) ∷ (order_given p, order_needed) ∷ (known, first_rows_open)
    ∷ (part_shown catalog p, part_not_shown) ∷ (order_shown catalog p, order_not_shown) ∷ (keys_shown catalog p, key_not_shown) ∷ []

-- the node can keep the order that it claims, and claims no part or can keep it
record Ready (catalog : ℕ → Relation) (p : Plan) : Type 0 where
  keep : can_keep catalog p ≡ true
  meets : ((claim p).part ≡ any) ⊎ (is_some_list (parts_at catalog p) ≡ true)

-- at a node whose inputs can claim a part
node-fit : (catalog : ℕ → Relation) (p : Plan) (q : Part) (order : List OrderEntry) (n : ℕ) → Ready catalog p → is_option (parts_at catalog p) q ≡ true
    → is_some_list (lefts_at catalog p) ≡ true → is_some_list (rights_at catalog p) ≡ true → not_replicated (placed catalog p q order) ≡ can_send catalog p
    → order_given (placed catalog p q order) ≡ can_order catalog p → order_shown catalog (placed catalog p q order) ≡ true
    → (known : Bool) → refused_at n (tests_with known catalog (placed catalog p q order)) ≡ refused_at n (fit_tests_with known catalog p)
node-fit catalog p q order n r h hl hr once given shown known =
    ap (λ (o : Option Rule). option_map {U = ℕ × Rule} (λ x. (n, x)) o)
    (same-failure (sizes_match p) (can_send catalog p) (can_meet catalog p) (can_order catalog p) (can_keep catalog p) known (sizes_match (placed catalog p q order))
    (not_replicated (placed catalog p q order)) (inputs_match (placed catalog p q order)) (order_given (placed catalog p q order)) (part_shown catalog (placed catalog p q order))
    (order_shown catalog (placed catalog p q order)) (keys_shown catalog (placed catalog p q order)) (sizes-placed catalog p q order) once
    (λ e met. met-placed catalog p q order e met h)
    (λ e back. ⊎_elim (λ c. met-back catalog p q order e c hl hr back) (λ met. met) r.meets) given r.keep (λ e met. shown-placed catalog p q order e met h) shown
    (ap (λ (c : Claim). list_all (keys_of catalog (placed catalog p q order)) c.keys) (claim-placed catalog p q order)))

-- ---- where no node is unfit

here-none : (catalog : ℕ → Relation) (p : Plan) → first_unfit catalog p ≡ None → refused_at (number p) (fit_tests catalog p) ≡ None
here-none catalog (scan n c r m z) e = e
here-none catalog (unary n c op p) e = (none-both (first_unfit catalog p) (refused_at n (fit_tests catalog (unary n c op p))) e).1
here-none catalog (binary n c op p q) e =
    (none-both (first_unfit catalog q) (refused_at n (fit_tests catalog (binary n c op p q)))
    (none-both (first_unfit catalog p) (or_else (first_unfit catalog q) (refused_at n (fit_tests catalog (binary n c op p q)))) e).1).1
here-none catalog (exchange n c k m p) e = (none-both (first_unfit catalog p) (refused_at n (fit_tests catalog (exchange n c k m p))) e).1

-- no test fails at the node
pub record AllFit (catalog : ℕ → Relation) (p : Plan) : Type 0 where
  pub sizes : sizes_match p ≡ true
  pub sends : can_send catalog p ≡ true
  pub met : is_some_list (parts_at catalog p) ≡ true
  pub ordered : can_order catalog p ≡ true
  pub keep : can_keep catalog p ≡ true

pub all-fit : (catalog : ℕ → Relation) (p : Plan) → first_unfit catalog p ≡ None → AllFit catalog p
all-fit catalog p e =
    let passed : (sizes_match p && (can_send catalog p && (can_meet catalog p && (can_order catalog p && can_keep catalog p)))) ≡ true =
    none-failed (number p) (fit_tests catalog p) (here-none catalog p e) in
    let rest = and-right (sizes_match p) (can_send catalog p && (can_meet catalog p && (can_order catalog p && can_keep catalog p))) passed in
    let more = and-right (can_send catalog p) (can_meet catalog p && (can_order catalog p && can_keep catalog p)) rest in
    let last = and-right (can_meet catalog p) (can_order catalog p && can_keep catalog p) more in
    record {
      sizes = and-left (sizes_match p) (can_send catalog p && (can_meet catalog p && (can_order catalog p && can_keep catalog p))) passed;
      sends = and-left (can_send catalog p) (can_meet catalog p && (can_order catalog p && can_keep catalog p)) rest;
      met = and-left (can_meet catalog p) (can_order catalog p && can_keep catalog p) more;
      ordered = and-left (can_order catalog p) (can_keep catalog p) last;
      keep = and-right (can_order catalog p) (can_keep catalog p) last;
    }

-- a plan without claims, or one where no node is unfit
abbrev pub Placeable : (ℕ → Relation) → Plan → Type 0
Placeable catalog p = (bare p ≡ p) ⊎ (first_unfit catalog p ≡ None)

bare-keep : (c : Claim) (places : OrderChoices) → keyless any [] ≡ c → is_some (narrowed c.order places) ≡ true
bare-keep c places e = ap (λ (d : Claim). is_some (narrowed d.order places)) (sym e)

bare-part : (c : Claim) → keyless any [] ≡ c → c.part ≡ any
bare-part c e = ap (λ (d : Claim). d.part) (sym e)

bare-ready : (catalog : ℕ → Relation) (p : Plan) → bare p ≡ p → Ready catalog p
bare-ready catalog (scan n c r m z) e = record { keep = bare-keep c _ (ap claim e); meets = inl (bare-part c (ap claim e)) }
bare-ready catalog (unary n c op p) e = record { keep = bare-keep c _ (ap claim e); meets = inl (bare-part c (ap claim e)) }
bare-ready catalog (binary n c op p q) e = record { keep = bare-keep c _ (ap claim e); meets = inl (bare-part c (ap claim e)) }
bare-ready catalog (exchange n c k m p) e = record { keep = bare-keep c _ (ap claim e); meets = inl (bare-part c (ap claim e)) }

ready : (catalog : ℕ → Relation) (p : Plan) → Placeable catalog p → Ready catalog p
ready catalog p h = ⊎_elim (λ e. bare-ready catalog p e) (λ e. let f = all-fit catalog p e in record { keep = f.keep; meets = inr f.met }) h

pub below-unary : (catalog : ℕ → Relation) (n : ℕ) (c : Claim) (op : Unary) (p : Plan) → Placeable catalog (unary n c op p) → Placeable catalog p
below-unary catalog n c op p h = ⊎_elim (λ e. inl (under e)) (λ e. inr (none-both (first_unfit catalog p) (refused_at n (fit_tests catalog (unary n c op p))) e).0) h
  where
    under : unary n (keyless any []) op (bare p) ≡ unary n c op p → bare p ≡ p
    under e = cc

pub below-exchange : (catalog : ℕ → Relation) (n : ℕ) (c : Claim) (k : ExchangeKind) (m : List OrderEntry) (p : Plan) → Placeable catalog (exchange n c k m p) → Placeable catalog p
below-exchange catalog n c k m p h = ⊎_elim (λ e. inl (under e)) (λ e. inr (none-both (first_unfit catalog p) (refused_at n (fit_tests catalog (exchange n c k m p))) e).0) h
  where
    under : exchange n (keyless any []) k m (bare p) ≡ exchange n c k m p → bare p ≡ p
    under e = cc

pub below-left : (catalog : ℕ → Relation) (n : ℕ) (c : Claim) (op : Binary) (p q : Plan) → Placeable catalog (binary n c op p q) → Placeable catalog p
below-left catalog n c op p q h =
    ⊎_elim (λ e. inl (under e)) (λ e. inr (none-both (first_unfit catalog p) (or_else (first_unfit catalog q) (refused_at n (fit_tests catalog (binary n c op p q)))) e).0) h
  where
    under : binary n (keyless any []) op (bare p) (bare q) ≡ binary n c op p q → bare p ≡ p
    under e = cc

pub below-right : (catalog : ℕ → Relation) (n : ℕ) (c : Claim) (op : Binary) (p q : Plan) → Placeable catalog (binary n c op p q) → Placeable catalog q
below-right catalog n c op p q h =
    ⊎_elim (λ e. inl (under e))
    (λ e. inr (none-both (first_unfit catalog q) (refused_at n (fit_tests catalog (binary n c op p q)))
    (none-both (first_unfit catalog p) (or_else (first_unfit catalog q) (refused_at n (fit_tests catalog (binary n c op p q)))) e).1).0) h
  where
    under : binary n (keyless any []) op (bare p) (bare q) ≡ binary n c op p q → bare q ≡ q
    under e = cc

-- ---- each operator

unary-shown : (catalog : ℕ → Relation) (n : ℕ) (c : Claim) (op : Unary) (p : Plan) (q : Part) (order : List OrderEntry) → can_keep catalog (unary n c op p) ≡ true
    → is_chosen order (places_at catalog (unary n c op p)) ≡ true → order_shown catalog (placed catalog (unary n c op p) q order) ≡ true
unary-shown catalog n c op p q order keep h =
    orders-exactly catalog (placed catalog (unary n c op p) q order) order
    ∙ or-left _ false
    (ap (λ below. if_order (order_sources (described op).copying order) (λ o. is_front o (order_after (described op).order below))) (order-placed catalog p _ _)
    ∙ below-shown (described op).order (described op).copying order (places_at catalog p) (kept-chosen c.order _ order keep h).0)

both-given : (catalog : ℕ → Relation) (n : ℕ) (c : Claim) (op : Binary) (p q : Plan) (x : Part) (order : List OrderEntry) → can_keep catalog (binary n c op p q) ≡ true
    → is_chosen order (places_at catalog (binary n c op p q)) ≡ true → order_given (placed catalog (binary n c op p q) x order) ≡ can_order catalog (binary n c op p q)
both-given catalog n c union p q x order keep h = refl
both-given catalog n c (join by_hashing on) p q x order keep h = refl
both-given catalog n c (semi_join matched on conditions) p q x order keep h = refl
both-given catalog n c (join (by_merging falls) on) p q x order keep h =
    both _ _ _ _ (ap (is_front (left_order falls on)) (order-placed catalog p _ _) ∙ goes-on-same c.order (left_order falls on) (places_at catalog p) order (full-at catalog p) keep h)
    (ap (is_front (right_order falls on)) (order-placed catalog q _ _) ∙ begins-same (right_order falls on) (places_at catalog q) (full-at catalog q))
  where
    both : (a b c d : Bool) → a ≡ c → b ≡ d → (a && b) ≡ (c && d)
    both a b c d e f = cc

both-shown : (catalog : ℕ → Relation) (n : ℕ) (c : Claim) (op : Binary) (p q : Plan) (x : Part) (order : List OrderEntry) → can_keep catalog (binary n c op p q) ≡ true
    → is_chosen order (places_at catalog (binary n c op p q)) ≡ true → order_shown catalog (placed catalog (binary n c op p q) x order) ≡ true
both-shown catalog n c union p q x order keep h = ap (λ xs. is_front xs []) (none-chosen order (kept-chosen c.order [] order keep h).0)
both-shown catalog n c (join (by_merging falls) on) p q x order keep h =
    ap (is_front order) (order-placed catalog p _ _) ∙ kept-front (left_order falls on) (places_at catalog p) order (kept-chosen c.order _ order keep h).0
both-shown catalog n c (join by_hashing on) p q x order keep h =
    ap (is_front order) (order-placed catalog p _ _)
    ∙ (ap (is_front order) (chosen-along order (places_at catalog p) (kept-chosen c.order (places_at catalog p) order keep h).0) ∙ front-same order)
both-shown catalog n c (semi_join matched on conditions) p q x order keep h =
    ap (is_front order) (order-placed catalog p _ _)
    ∙ (ap (is_front order) (chosen-along order (places_at catalog p) (kept-chosen c.order (places_at catalog p) order keep h).0) ∙ front-same order)

-- an exchange's input has each row once exactly where it can
sent-once : (catalog : ℕ → Relation) (n : ℕ) (c : Claim) (k : ExchangeKind) (merge : List OrderEntry) (p : Plan) (q : Part) (order : List OrderEntry) → is_some_list (parts_at catalog p) ≡ true
    → not_replicated (placed catalog (exchange n c k merge p) q order) ≡ can_send catalog (exchange n c k merge p)
sent-once catalog n c k merge p q order met =
    both _ _ _ _ (one-placed catalog p _ _)
    (ap (λ z. part_gives z any) (part-placed catalog p _ _)
    ∙ each-says (parts_at catalog p) (part_sent k order (parts_at catalog p)) (all-say catalog p)
    (option-in (part_sent k order (parts_at catalog p)) (parts_at catalog p) met (sent-in k order (parts_at catalog p))))
  where
    both : (a b c d : Bool) → a ≡ c → b ≡ d → (a || b) ≡ (c || d)
    both a b c d e f = cc

exchange-shown : (catalog : ℕ → Relation) (n : ℕ) (c : Claim) (k : ExchangeKind) (merge : List OrderEntry) (p : Plan) (q : Part) (order : List OrderEntry) → can_keep catalog (exchange n c k merge p) ≡ true
    → is_chosen order (places_at catalog (exchange n c k merge p)) ≡ true → order_shown catalog (placed catalog (exchange n c k merge p) q order) ≡ true
exchange-shown catalog n c k merge p q order keep h =
    let x : Part = part_sent k order (parts_at catalog p) in
    let below : List OrderEntry = order_along whole_rows (order_sent k (is_one (size p)) merge order) (places_at catalog p) in
    ap (λ b. is_front order merge || ((b || goes_on k (claim (placed catalog p x below))) && is_front order (claim (placed catalog p x below)).order)) (one-placed catalog p x below)
    ∙ sent-shown k merge c.order (parts_at catalog p) (places_at catalog p) order (is_one (size p)) (claim (placed catalog p x below)) (claim-placed catalog p x below) keep h

-- ---- all nodes

pub else-same : {X : Type 0} (o o' u u' : Option X) → o ≡ o' → (o' ≡ None → u ≡ u') → or_else o u ≡ or_else o' u'
else-same o None u u' e f = rw e (f refl)
else-same o (Some x) u u' e f = rw e refl

pub left-chosen : (op : Binary) (order : List OrderEntry) (places : OrderChoices) → are_full places ≡ true → is_chosen (order_to_left op order places) places ≡ true
left-chosen union order places f = first-chosen places f
left-chosen (join m on) order places f = along-chosen whole_rows order places f
left-chosen (semi_join matched on conditions) order places f = along-chosen whole_rows order places f

pub right-chosen : (op : Binary) (places : OrderChoices) → are_full places ≡ true → is_chosen (order_to_right op places) places ≡ true
right-chosen union places f = first-chosen places f
right-chosen (join (by_merging falls) on) places f = along-chosen whole_rows (right_order falls on) places f
right-chosen (join by_hashing on) places f = first-chosen places f
right-chosen (semi_join matched on conditions) places f = first-chosen places f

pub below-chosen : (a : OrderAfter) (k : Copying) (order : List OrderEntry) (places : OrderChoices) → are_full places ≡ true → is_chosen (order_below a k order places) places ≡ true
below-chosen order_kept k order places f = along-chosen k order places f
below-chosen (sorted_on own) k order places f = first-chosen places f

-- no node below is unfit
abbrev pub InputsFit : (ℕ → Relation) → Plan → Type 0
InputsFit catalog (scan n c r m z) = ⊤
InputsFit catalog (unary n c op p) = first_unfit catalog p ≡ None
InputsFit catalog (binary n c op p q) = (first_unfit catalog p ≡ None) × (first_unfit catalog q ≡ None)
InputsFit catalog (exchange n c k m p) = first_unfit catalog p ≡ None

-- then the first test that fails is the same, whether or not the first rows are known
pub placed-node : (s : Scope) (p : Plan) (q : Part) (order : List OrderEntry) → typed s p ≡ true → Placeable (relation_at s.catalog) p → InputsFit (relation_at s.catalog) p
    → is_option (parts_at (relation_at s.catalog) p) q ≡ true → is_chosen order (places_at (relation_at s.catalog) p) ≡ true → (known : Bool) (i : ℕ)
    → refused_at i (tests_with known (relation_at s.catalog) (placed (relation_at s.catalog) p q order)) ≡ refused_at i (fit_tests_with known (relation_at s.catalog) p)
placed-node s (scan n c r m z) q order t how fits o h known i =
    let catalog = relation_at s.catalog in
    let here = ready catalog (scan n c r m z) how in
    node-fit catalog (scan n c r m z) q order i here o refl refl refl refl (merged (catalog r).order c.order order here.keep h) known
placed-node s (unary n c op p) q order t how fits o h known i =
    let catalog = relation_at s.catalog in
    let here = ready catalog (unary n c op p) how in
    node-fit catalog (unary n c op p) q order i here o (all-fit catalog p fits).met refl refl refl (unary-shown catalog n c op p q order here.keep h) known
placed-node s (binary n c op p p2) q order t how fits o h known i =
    let catalog = relation_at s.catalog in
    let here = ready catalog (binary n c op p p2) how in
    node-fit catalog (binary n c op p p2) q order i here o (all-fit catalog p fits.0).met (all-fit catalog p2 fits.1).met refl
    (both-given catalog n c op p p2 q order here.keep h) (both-shown catalog n c op p p2 q order here.keep h) known
placed-node s (exchange n c k m p) q order t how fits o h known i =
    let catalog = relation_at s.catalog in
    let here = ready catalog (exchange n c k m p) how in
    let may : may_merge k m ≡ true = and-left (may_merge k m) _ (and-right (are_columns _ (order_columns m)) _ (and-right (is_kind s _ k) _ (and-right (typed s p) _ t))) in
    let met = (all-fit catalog p fits).met in
    node-fit catalog (exchange n c k m p) q order i here o refl refl (sent-once catalog n c k m p q order met)
    (ap (is_front m) (order-placed catalog p _ _)
    ∙ sent-given k m c.order (parts_at catalog p) (places_at catalog p) order (is_one (size p)) may (full-at catalog p) here.keep h)
    (exchange-shown catalog n c k m p q order here.keep h) known
