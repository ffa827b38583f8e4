-- At each place of an order that a node can claim all entries rise, or all fall.
use Rattle.std.proofs.Common.{◌≡◌, ◌∙◌, ℕ, Bool, true, false, cond, List, [], ◌∷◌, flat_map, filter, Option, Some, None, option_map, refl, sym, ap}
use Rattle.std.specs.List.{list_any}
use Rattle.vx_rows_values.specs.declared.order.OrderEntry.{OrderEntry}
use Rattle.vx_catalog_relations.specs.Relation.{Relation}
use Rattle.vx_plan_nodes.specs.Plan.{Part, by_hashing, by_merging, left_order, Binary, union, join, semi_join, ExchangeKind, route_to, round, broadcast, gather, concat, Plan, scan, unary, binary, exchange, size, is_one}
use Rattle.vx_plan_nodes.specs.Describe.{Copying, OrderAfter, order_kept, sorted_on, described}
use Rattle.vx_check_rules.specs.Rules.{rises_by}
use Rattle.vx_check_options.specs.Options.{OrderChoices, parts_at, singles, has_entry, entry_copies, place_then, places_up, narrowed, or_nowhere, places_after, places_over_both, rising, places_sent, places_over, places_at}
use Rattle.vx_check_options.proofs.Entries.{lone-entry, kept-passes}
use Rattle.vx_check_options.proofs.PlacedOrders.{copied-from}

-- any two of the entries go one way
abbrev pub IsOneWay : List OrderEntry → Type 0
IsOneWay s = (d e : OrderEntry) → has_entry s d ≡ true → has_entry s e ≡ true → d.falling ≡ e.falling

-- so at every place
abbrev pub AreOneWay : OrderChoices → Type 0
AreOneWay [] = true ≡ true
AreOneWay (s ∷ places) = IsOneWay s × AreOneWay places

-- ---- entries

abbrev way-of : OrderEntry → Bool
way-of e = e.falling

lone-way : (x : OrderEntry) → IsOneWay (x ∷ [])
lone-way x d e a b = ap way-of (lone-entry x d a) ∙ sym (ap way-of (lone-entry x e b))

copies-way : (k : Copying) (s : List OrderEntry) → IsOneWay s → IsOneWay (flat_map (entry_copies k) s)
copies-way k s one d e a b =
    let u = copied-from k s d a in
    let v = copied-from k s e b in
    ap way-of u.3 ∙ (one u.0 v.0 u.1 v.1 ∙ sym (ap way-of v.3))

kept-way : (test : OrderEntry → Bool) (s : List OrderEntry) → IsOneWay s → IsOneWay (filter test s)
kept-way test s one d e a b = one d e (kept-passes test s d a).0 (kept-passes test s e b).0

-- ---- places

singles-way : (order : List OrderEntry) → AreOneWay (singles order)
singles-way [] = refl
singles-way (e ∷ order) = (lone-way e, singles-way order)

then-way : (s : List OrderEntry) (places : OrderChoices) → IsOneWay s → AreOneWay places → AreOneWay (place_then s places)
then-way [] places one h = refl
then-way (e ∷ es) places one h = (one, h)

up-way : (k : Copying) (places : OrderChoices) → AreOneWay places → AreOneWay (places_up k places)
up-way k [] h = refl
up-way k (s ∷ places) h = then-way (flat_map (entry_copies k) s) (places_up k places) (copies-way k s h.0) (up-way k places h.1)

nowhere-way : (order : List OrderEntry) (places : OrderChoices) → AreOneWay places → AreOneWay (or_nowhere (narrowed order places))
nowhere-way [] places h = h
nowhere-way (e ∷ es) [] h = refl
nowhere-way (e ∷ es) (s ∷ places) h = by (has_entry s e) (narrowed es places) (nowhere-way es places h.1)
  where
    by : (b : Bool) (o : Option OrderChoices) → AreOneWay (or_nowhere o) → AreOneWay (or_nowhere (cond b (option_map (λ more. (e ∷ []) ∷ more) o) None))
    by false o k = refl
    by true None k = refl
    by true (Some more) k = (lone-way e, k)

after-way : (after : OrderAfter) (places : OrderChoices) → AreOneWay places → AreOneWay (places_after after places)
after-way order_kept places h = h
after-way (sorted_on order) places h = singles-way order

both-way : (op : Binary) (places : OrderChoices) → AreOneWay places → AreOneWay (places_over_both op places)
both-way union places h = refl
both-way (join (by_merging falls) on) places h = nowhere-way (left_order falls on) places h
both-way (join by_hashing on) places h = h
both-way (semi_join matched on conditions) places h = h

rising-way : (parts : List Part) (places : OrderChoices) → AreOneWay places → AreOneWay (rising parts places)
rising-way parts [] h = refl
rising-way parts (s ∷ places) h = let test = λ (e : OrderEntry). list_any (λ x. rises_by x (e ∷ [])) parts in then-way (filter test s) places (kept-way test s h.0) h.1

sent-way : (k : ExchangeKind) (merge : List OrderEntry) (parts : List Part) (places : OrderChoices) → AreOneWay places → AreOneWay (places_sent k merge parts places)
sent-way concat merge parts places h = rising-way parts places h
sent-way (route_to z r cols) merge parts places h = singles-way merge
sent-way (round z) merge parts places h = singles-way merge
sent-way (broadcast z) merge parts places h = singles-way merge
sent-way gather merge parts places h = singles-way merge

-- ---- nodes

pub places-one-way : (catalog : ℕ → Relation) (p : Plan) → AreOneWay (places_at catalog p)
places-one-way catalog (scan n c r m z) = nowhere-way c.order (places_over catalog (scan n c r m z) [] []) (singles-way (catalog r).order)
places-one-way catalog (unary n c op p) =
    nowhere-way c.order (places_over catalog (unary n c op p) [] (places_at catalog p))
    (up-way (described op).copying (places_after (described op).order (places_at catalog p)) (after-way (described op).order (places_at catalog p) (places-one-way catalog p)))
places-one-way catalog (binary n c op p q) =
    nowhere-way c.order (places_over catalog (binary n c op p q) [] (places_at catalog p)) (both-way op (places_at catalog p) (places-one-way catalog p))
places-one-way catalog (exchange n c k merge p) =
    nowhere-way c.order (places_over catalog (exchange n c k merge p) (parts_at catalog p) (places_at catalog p)) (by (is_one (size p)) (places-one-way catalog p))
  where
    by : (b : Bool) → AreOneWay (places_at catalog p)
        → AreOneWay (cond b (or_nowhere (narrowed merge (places_at catalog p))) (places_sent k merge (parts_at catalog p) (places_at catalog p)))
    by true h = nowhere-way merge (places_at catalog p) h
    by false h = sent-way k merge (parts_at catalog p) (places_at catalog p) h
