-- What is placed keeps the claims that are there.
use Rattle.std.proofs.Common.{◌≡◌, ℕ, Bool, true, false, cond, ◌&&◌, List, [], ◌∷◌, take, refl, sym, ap, ◌∙◌, true≢false, None}
use Rattle.vx_rows_values.specs.declared.order.OrderEntry.{OrderEntry}
use Rattle.vx_rows_values.specs.Lists.{is_some_list}
use Rattle.vx_rows_values.proofs.Booleans.{and-left, and-right}
use Rattle.vx_catalog_relations.specs.Relation.{Relation}
use Rattle.vx_plan_nodes.specs.Plan.{Part, one, any, all, routed, Binary, union, join, semi_join, ExchangeKind, route_to, round, broadcast, gather, concat, Plan, scan, unary, binary, exchange, claim, size, is_one, by_hashing, by_merging, left_order, right_order}
use Rattle.vx_plan_nodes.specs.Describe.{Copying, whole_rows, OrderAfter, order_kept, sorted_on, described}
use Rattle.vx_check_rules.specs.Rules.{part_gives, sizes_match}
use Rattle.vx_check_rules.specs.Refusal.{or_else, refused_at}
use Rattle.vx_check_rules.proofs.Bools.{or-false}
use Rattle.vx_check_rules.proofs.Refusals.{passed, none-both, none-failed}
use Rattle.vx_check_options.specs.Options.{OrderChoices, no_input, told_parts, parts_above, parts_at, same_part, narrowed, or_nowhere, places_after, places_over_both, places_sent, places_over, places_at, can_send, can_meet, can_order, can_keep, fit_tests, first_unfit}
use Rattle.vx_check_options.specs.Placed.{order_below, order_to_left, order_to_right, order_sent, is_chosen, keyless, placed}
use Rattle.vx_check_options.specs.Laws.{keeps_part, is_option, Keeps}
use Rattle.vx_check_options.proofs.ChosenParts.{part-is, parts_below-options, part_sent-option}
use Rattle.vx_check_options.proofs.ChosenOrders.{are_filled, first-entries-chosen, along-chosen, begins-chosen, nowhere-filled, singles-filled, up-filled, rising-filled}

-- ---- parts

-- a part that gives another one keeps it
kept-part : (c q : Part) → part_gives q c ≡ true → keeps_part c q ≡ true
kept-part one one h = refl
kept-part one any h = refl
kept-part one all h = refl
kept-part one (routed r cols) h = refl
kept-part any one h = refl
kept-part any any h = refl
kept-part any all h = refl
kept-part any (routed r cols) h = refl
kept-part all one h = refl
kept-part all any h = h
kept-part all all h = refl
kept-part all (routed r cols) h = h
kept-part (routed r cols) one h = refl
kept-part (routed r cols) any h = h
kept-part (routed r cols) all h = h
kept-part (routed r cols) (routed s ds) h = h

-- one worker keeps each part
one-keeps : (c : Part) → keeps_part c one ≡ true
one-keeps one = refl
one-keeps any = refl
one-keeps all = refl
one-keeps (routed r cols) = refl

-- each part keeps one and any
any-kept : (q : Part) → (keeps_part one q ≡ true) × (keeps_part any q ≡ true)
any-kept one = (refl, refl)
any-kept any = (refl, refl)
any-kept all = (refl, refl)
any-kept (routed r cols) = (refl, refl)

-- of a claimed part alone, the option keeps it
lone-kept : (c q : Part) (b : Bool) → is_some_list (take 64 (cond b (c ∷ []) [])) ≡ true → is_option (take 64 (cond b (c ∷ []) [])) q ≡ true → keeps_part c q ≡ true
lone-kept c q true s h = kept-part c q (and-left (part_gives q c) (part_gives c q) (sym (or-false (same_part q c)) ∙ h))
lone-kept c q false s h = absurd (true≢false (sym s))

-- an option of a node keeps the part that it claims
option-kept : (catalog : ℕ → Relation) (p : Plan) (q : Part) (lefts rights : List Part) → is_some_list (take 64 (parts_above catalog p lefts rights)) ≡ true
    → is_option (take 64 (parts_above catalog p lefts rights)) q ≡ true → keeps_part (claim p).part q ≡ true
option-kept catalog p q lefts rights s h = by (is_one (size p)) (claim p).part s h
  where
    by : (b : Bool) (c : Part) → is_some_list (take 64 (cond b (one ∷ []) (told_parts catalog p c lefts rights))) ≡ true
        → is_option (take 64 (cond b (one ∷ []) (told_parts catalog p c lefts rights))) q ≡ true → keeps_part c q ≡ true
    by true c t k = ap (keeps_part c) (part-is q one (sym (or-false (same_part q one)) ∙ k)) ∙ one-keeps c
    by false one t k = (any-kept q).0
    by false any t k = (any-kept q).1
    by false all t k = lone-kept all q _ t k
    by false (routed r cols) t k = lone-kept (routed r cols) q _ t k

-- ---- orders

-- no place of several producers is empty
sent-filled : (k : ExchangeKind) (merge : List OrderEntry) (parts : List Part) (places : OrderChoices) → are_filled places ≡ true → are_filled (places_sent k merge parts places) ≡ true
sent-filled concat merge parts places h = rising-filled parts places h
sent-filled (route_to z r cols) merge parts places h = singles-filled merge
sent-filled (round z) merge parts places h = singles-filled merge
sent-filled (broadcast z) merge parts places h = singles-filled merge
sent-filled gather merge parts places h = singles-filled merge

-- and none of an operator over two inputs
both-filled : (op : Binary) (places : OrderChoices) → are_filled places ≡ true → are_filled (places_over_both op places) ≡ true
both-filled union places h = refl
both-filled (join (by_merging falls) on) places h = nowhere-filled (left_order falls on) places h
both-filled (join by_hashing on) places h = h
both-filled (semi_join matched on conditions) places h = h

-- no place of a node is empty
pub places-filled : (catalog : ℕ → Relation) (p : Plan) → are_filled (places_at catalog p) ≡ true
places-filled catalog (scan n c r m z) = nowhere-filled c.order (places_over catalog (scan n c r m z) [] []) (singles-filled (catalog r).order)
places-filled catalog (unary n c op p) =
    nowhere-filled c.order (places_over catalog (unary n c op p) [] (places_at catalog p)) (up-filled (described op).copying (places_after (described op).order (places_at catalog p)))
places-filled catalog (binary n c op p q) =
    nowhere-filled c.order (places_over catalog (binary n c op p q) [] (places_at catalog p)) (both-filled op (places_at catalog p) (places-filled catalog p))
places-filled catalog (exchange n c k merge p) =
    nowhere-filled c.order (places_over catalog (exchange n c k merge p) (parts_at catalog p) (places_at catalog p)) (by (is_one (size p)) (places-filled catalog p))
  where
    by : (b : Bool) → are_filled (places_at catalog p) ≡ true
        → are_filled (cond b (or_nowhere (narrowed merge (places_at catalog p))) (places_sent k merge (parts_at catalog p) (places_at catalog p))) ≡ true
    by true h = nowhere-filled merge (places_at catalog p) h
    by false h = sent-filled k merge (parts_at catalog p) (places_at catalog p) h

-- the orders of the inputs of a node are chosen from their places
pub below-chosen : (after : OrderAfter) (k : Copying) (order : List OrderEntry) (places : OrderChoices) → are_filled places ≡ true → is_chosen (order_below after k order places) places ≡ true
below-chosen order_kept k order places f = along-chosen k order places f
below-chosen (sorted_on own) k order places f = first-entries-chosen places f

-- of the left input
pub left-chosen : (op : Binary) (order : List OrderEntry) (places : OrderChoices) → are_filled places ≡ true → is_chosen (order_to_left op order places) places ≡ true
left-chosen union order places f = first-entries-chosen places f
left-chosen (join m on) order places f = along-chosen whole_rows order places f
left-chosen (semi_join matched on conditions) order places f = along-chosen whole_rows order places f

-- and of the right one
pub right-chosen : (op : Binary) (places : OrderChoices) → are_filled places ≡ true → is_chosen (order_to_right op places) places ≡ true
right-chosen union places f = first-entries-chosen places f
right-chosen (join (by_merging falls) on) places f = along-chosen whole_rows (right_order falls on) places f
right-chosen (join by_hashing on) places f = first-entries-chosen places f
right-chosen (semi_join matched on conditions) places f = first-entries-chosen places f

-- ---- plans

-- what a node that fits can do
fit-here : (catalog : ℕ → Relation) (p : Plan) → passed (fit_tests catalog p) ≡ true → (can_meet catalog p ≡ true) × (can_keep catalog p ≡ true)
fit-here catalog p h =
    let rest : (can_meet catalog p && (can_order catalog p && can_keep catalog p)) ≡ true =
    and-right (can_send catalog p) (can_meet catalog p && (can_order catalog p && can_keep catalog p))
    (and-right (sizes_match p) (can_send catalog p && (can_meet catalog p && (can_order catalog p && can_keep catalog p))) h) in (
      and-left (can_meet catalog p) (can_order catalog p && can_keep catalog p) rest,
      and-right (can_order catalog p) (can_keep catalog p) (and-right (can_meet catalog p) (can_order catalog p && can_keep catalog p) rest),
    )

-- by induction from the top: what is placed at an input is one of its options, and is chosen from its places
pub placed-keeps : (catalog : ℕ → Relation) (p : Plan) (q : Part) (order : List OrderEntry) → first_unfit catalog p ≡ None
    → is_option (parts_at catalog p) q ≡ true → is_chosen order (places_at catalog p) ≡ true → Keeps p (placed catalog p q order)
placed-keeps catalog (scan n c r m z) q order fit is_opt chosen =
    let node : Plan = scan n c r m z in
    let here = fit-here catalog node (none-failed n (fit_tests catalog node) fit) in
    (keyless q order, refl, (option-kept catalog node q no_input no_input here.0 is_opt, begins-chosen c.order order (places_over catalog node [] []) here.1 chosen))
placed-keeps catalog (unary n c op p) q order fit is_opt chosen =
    let node : Plan = unary n c op p in
    let w = none-both (first_unfit catalog p) (refused_at n (fit_tests catalog node)) fit in
    let here = fit-here catalog node (none-failed n (fit_tests catalog node) w.1) in
    let places : OrderChoices = places_over catalog node [] (places_at catalog p) in (
      keyless q order,
      _,
      refl,
      (option-kept catalog node q (parts_at catalog p) no_input here.0 is_opt, begins-chosen c.order order places here.1 chosen),
      placed-keeps catalog p _ _ w.0 (parts_below-options catalog node q (parts_at catalog p) no_input).0
          (below-chosen (described op).order (described op).copying order (places_at catalog p) (places-filled catalog p)),
    )
placed-keeps catalog (binary n c op p p2) q order fit is_opt chosen =
    let node : Plan = binary n c op p p2 in
    let w = none-both (first_unfit catalog p) (or_else (first_unfit catalog p2) (refused_at n (fit_tests catalog node))) fit in
    let v = none-both (first_unfit catalog p2) (refused_at n (fit_tests catalog node)) w.1 in
    let here = fit-here catalog node (none-failed n (fit_tests catalog node) v.1) in
    let places : OrderChoices = places_over catalog node [] (places_at catalog p) in
    let options = parts_below-options catalog node q (parts_at catalog p) (parts_at catalog p2) in (
      keyless q order,
      _,
      _,
      refl,
      (option-kept catalog node q (parts_at catalog p) (parts_at catalog p2) here.0 is_opt, begins-chosen c.order order places here.1 chosen),
      placed-keeps catalog p _ _ w.0 options.0 (left-chosen op order (places_at catalog p) (places-filled catalog p)),
      placed-keeps catalog p2 _ _ v.0 options.1 (right-chosen op (places_at catalog p2) (places-filled catalog p2)),
    )
placed-keeps catalog (exchange n c k merge p) q order fit is_opt chosen =
    let node : Plan = exchange n c k merge p in
    let w = none-both (first_unfit catalog p) (refused_at n (fit_tests catalog node)) fit in
    let here = fit-here catalog node (none-failed n (fit_tests catalog node) w.1) in
    let places : OrderChoices = places_over catalog node (parts_at catalog p) (places_at catalog p) in (
      keyless q order,
      _,
      refl,
      (option-kept catalog node q no_input no_input here.0 is_opt, begins-chosen c.order order places here.1 chosen),
      placed-keeps catalog p _ _ w.0 (part_sent-option k order (parts_at catalog p))
          (along-chosen whole_rows (order_sent k (is_one (size p)) merge order) (places_at catalog p) (places-filled catalog p)),
    )
