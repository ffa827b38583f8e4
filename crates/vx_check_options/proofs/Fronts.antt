-- Orders among the entries that may stand at their places.
use Rattle.std.proofs.Common.{ℕ, ◌≡◌, ◌==◌, Bool, true, false, cond, ◌&&◌, ◌||◌, ⊎_elim, List, [], ◌∷◌, map, flat_map, filter, Option, Some, None, is_some, refl, sym, ap, ◌∙◌}
use Rattle.std.specs.List.{list_any}
use Rattle.vx_rows_values.specs.declared.order.OrderEntry.{OrderEntry}
use Rattle.vx_rows_values.specs.Order.{entry_eq}
use Rattle.vx_rows_values.proofs.Booleans.{and-left, and-right, and-both}
use Rattle.vx_catalog_relations.specs.Relation.{Relation}
use Rattle.vx_plan_nodes.specs.Plan.{by_hash, by_range, Part, one, any, all, routed, Claim, Unary, select, project, distinct, sort, group, limit, plain, partial, final, by_hashing, by_merging, left_order, right_order, Binary, union, join, semi_join, ExchangeKind, route_to, round, broadcast, gather, concat, Plan, unary, binary, exchange, claim, size, is_one}
use Rattle.vx_plan_nodes.specs.Typed.{may_merge}
use Rattle.vx_plan_nodes.specs.Describe.{Copying, whole_rows, columns_kept, entries_kept, kept_column, source, OrderAfter, order_kept, sorted_on, described}
use Rattle.vx_check_rules.specs.Rules.{contains, is_front, entry_at, entry_both, if_order, part_gives, rises_by, goes_on, orders, order_given}
use Rattle.vx_check_rules.specs.Behaviour.{order_sources, Sorted, sorted_by, order_after, sorts}
use Rattle.vx_check_rules.proofs.Bools.{or-left, or-right, or-false, any-more}
use Rattle.vx_check_rules.proofs.WayFacts.{any-flat}
use Rattle.vx_check_rules.proofs.Exact.{orders-exactly}
use Rattle.vx_check_options.specs.Options.{copies, OrderChoices, singles, has_entry, entry_copies, place_then, places_up, narrowed, or_nowhere, places_after, places_over_both, rising, places_sent}
use Rattle.vx_check_options.specs.Laws.{is_told, may_begin}
use Rattle.vx_check_options.proofs.Entries.{entry-same, has-first, copy-there}
use Rattle.vx_check_options.proofs.Telling.{same, gives-is, or-cases}
use Rattle.vx_check_options.proofs.EntryCopies.{entry-found}
use Rattle.vx_check_options.proofs.Told.{kept-found}

-- ---- what begins an order

-- what begins a front is one
front-less : (xs ys : List OrderEntry) (places : OrderChoices) → is_front xs ys ≡ true → may_begin ys places ≡ true → may_begin xs places ≡ true
front-less [] ys places h k = refl
front-less (x ∷ xs) [] places h k = cc
front-less (x ∷ xs) (y ∷ ys) [] h k = cc
front-less (x ∷ xs) (y ∷ ys) (s ∷ places) h k =
    let is : x ≡ y = entry-same x y (and-left (entry_eq x y) (is_front xs ys) h) in
    and-both (has_entry s x) (may_begin xs places) (rw is (and-left (has_entry s y) (may_begin ys places) k))
    (front-less xs ys places (and-right (entry_eq x y) (is_front xs ys) h) (and-right (has_entry s y) (may_begin ys places) k))

-- a front that begins with some columns is one where those are alone at their places
narrowed-front : (xs ys : List OrderEntry) (places : OrderChoices) → is_front xs ys ≡ true → may_begin ys places ≡ true
    → (more : OrderChoices) × (narrowed xs places ≡ Some more) × (may_begin ys more ≡ true)
narrowed-front [] ys places h k = (places, refl, k)
narrowed-front (x ∷ xs) [] places h k = cc
narrowed-front (x ∷ xs) (y ∷ ys) [] h k = cc
narrowed-front (x ∷ xs) (y ∷ ys) (s ∷ places) h k =
    let is : x ≡ y = entry-same x y (and-left (entry_eq x y) (is_front xs ys) h) in
    let w = narrowed-front xs ys places (and-right (entry_eq x y) (is_front xs ys) h) (and-right (has_entry s y) (may_begin ys places) k) in
    let has : has_entry s x ≡ true = rw is (and-left (has_entry s y) (may_begin ys places) k) in (
      (x ∷ []) ∷ w.0,
      rw (has, w.1) refl,
      and-both (has_entry (x ∷ []) y) (may_begin ys w.0) (rw is (has-first y [])) w.2,
    )

pub narrowed-some : (xs ys : List OrderEntry) (places : OrderChoices) → is_front xs ys ≡ true → may_begin ys places ≡ true → is_some (narrowed xs places) ≡ true
narrowed-some xs ys places h k = let w = narrowed-front xs ys places h k in rw w.1 refl

pub narrowed-kept : (xs ys : List OrderEntry) (places : OrderChoices) → is_front xs ys ≡ true → may_begin ys places ≡ true → may_begin ys (or_nowhere (narrowed xs places)) ≡ true
narrowed-kept xs ys places h k = let w = narrowed-front xs ys places h k in rw w.1 w.2

pub front-singles : (xs ys : List OrderEntry) → is_front xs ys ≡ true → may_begin xs (singles ys) ≡ true
front-singles [] ys h = refl
front-singles (x ∷ xs) [] h = cc
front-singles (x ∷ xs) (y ∷ ys) h =
    and-both (has_entry (y ∷ []) x) (may_begin xs (singles ys)) (or-left (entry_eq x y) false (and-left (entry_eq x y) (is_front xs ys) h)) (front-singles xs ys (and-right (entry_eq x y) (is_front xs ys) h))

-- ---- orders of nodes

-- a copying in which an output column is always among the copies of its source
abbrev pub Finds : Copying → Type 0
Finds k = (c d : ℕ) → source k d ≡ Some c → contains (copies k c) d ≡ true

-- so is an entry among those of the one with that column
up-has : (k : Copying) → Finds k → (s : List OrderEntry) (c : ℕ) (d : OrderEntry) → source k d.column ≡ Some c → has_entry s (entry_at c d) ≡ true → has_entry (flat_map (entry_copies k) s) d ≡ true
up-has k finds s c d e h =
    any-flat (entry_eq d) (entry_copies k) s
    ∙ any-more (entry_eq (entry_at c d)) (λ x. has_entry (entry_copies k x) d) s
    (λ x i. ap (λ y. has_entry (entry_copies k y) d) (sym (entry-same (entry_at c d) x i)) ∙ copy-there k c d (finds c d.column e)) h

place-begins : (s : List OrderEntry) (places : OrderChoices) (d : OrderEntry) (ds : List OrderEntry) → has_entry s d ≡ true → may_begin ds places ≡ true → may_begin (d ∷ ds) (place_then s places) ≡ true
place-begins [] places d ds h k = cc
place-begins (c ∷ cs) places d ds h k = and-both (has_entry (c ∷ cs) d) (may_begin ds places) h k

-- copies of what may begin the places may begin the copies
up-begins : (k : Copying) → Finds k → (ds cs : List OrderEntry) (places : OrderChoices) → order_sources k ds ≡ Some cs → may_begin cs places ≡ true → may_begin ds (places_up k places) ≡ true
up-begins k finds [] cs places e h = refl
up-begins k finds (d ∷ ds) cs places e h = by (source k d.column) (order_sources k ds) refl (λ es more i j. up-begins k finds ds es more i j) e
  where
    at : (c : ℕ) (es : List OrderEntry) (places : OrderChoices) → source k d.column ≡ Some c → ((more : OrderChoices) → may_begin es more ≡ true → may_begin ds (places_up k more) ≡ true)
        → may_begin (entry_at c d ∷ es) places ≡ true → may_begin (d ∷ ds) (places_up k places) ≡ true
    at c es [] s more f = cc
    at c es (x ∷ xs) s more f =
        place-begins (flat_map (entry_copies k) x) (places_up k xs) d ds (up-has k finds x c d s (and-left (has_entry x (entry_at c d)) (may_begin es xs) f))
        (more xs (and-right (has_entry x (entry_at c d)) (may_begin es xs) f))

    by : (o : Option ℕ) (os : Option (List OrderEntry)) → source k d.column ≡ o
        → ((es : List OrderEntry) (more : OrderChoices) → os ≡ Some es → may_begin es more ≡ true → may_begin ds (places_up k more) ≡ true)
        → entry_both o d os ≡ Some cs → may_begin (d ∷ ds) (places_up k places) ≡ true
    by None os s more i = cc
    by (Some c) None s more i = cc
    by (Some c) (Some es) s more i = let is : cs ≡ entry_at c d ∷ es = cc in at c es places s (λ xs. more es xs refl) (ap (λ o. may_begin o places) (sym is) ∙ h)

whole-finds : Finds whole_rows
whole-finds c d e = let is : c ≡ d = cc in rw is (or-left (d == d) false (same d))

kept-finds : (cols : List ℕ) → Finds (columns_kept cols)
kept-finds cols c d e = kept-found cols c d e

entries-find : (ks : List (Option ℕ)) → Finds (entries_kept ks)
entries-find ks c d e = entry-found ks c d e

op-finds : (op : Unary) → Finds (described op).copying
op-finds (select fs) = whole-finds
op-finds (project es) = entries-find (map kept_column es)
op-finds (distinct cols) = kept-finds cols
op-finds (sort of_parts cols) = whole-finds
op-finds (group plain by aggregates) = kept-finds by
op-finds (group partial by aggregates) = kept-finds by
op-finds (group final by aggregates) = kept-finds by
op-finds (limit m) = whole-finds

after-front : (o : OrderAfter) (cs below : List OrderEntry) (places : OrderChoices) → is_front cs (order_after o below) ≡ true → may_begin below places ≡ true → may_begin cs (places_after o places) ≡ true
after-front order_kept cs below places h k = front-less cs below places h k
after-front (sorted_on order) cs below places h k = front-singles cs order h

-- the test is passed by an order that is there
some-order : (o : Option (List OrderEntry)) (test : List OrderEntry → Bool) → if_order o test ≡ true → (cs : List OrderEntry) × (o ≡ Some cs) × (test cs ≡ true)
some-order None test h = cc
some-order (Some cs) test h = (cs, refl, h)

-- the order that an operator over one input shows
pub unary-front : (catalog : ℕ → Relation) (n : ℕ) (d : Claim) (op : Unary) (p : Plan) (places : OrderChoices) → orders catalog (unary n d op p) d.order ≡ true → may_begin (claim p).order places ≡ true
    → may_begin d.order (places_up (described op).copying (places_after (described op).order places)) ≡ true
unary-front catalog n d op p places h k =
    let from : Sorted = sorted_by (described op).copying (order_after (described op).order (claim p).order) in
    let shown : sorts from d.order ≡ true = sym (or-false (sorts from d.order)) ∙ (sym (orders-exactly catalog (unary n d op p) d.order) ∙ h) in
    let w = some-order (order_sources (described op).copying d.order) (λ o. is_front o (order_after (described op).order (claim p).order)) shown in
    up-begins (described op).copying (op-finds op) d.order w.0 (places_after (described op).order places) w.1 (after-front (described op).order w.0 (claim p).order places w.2 k)

-- of one over two
pub binary-front : (catalog : ℕ → Relation) (n : ℕ) (d : Claim) (op : Binary) (p q : Plan) (places : OrderChoices) → orders catalog (binary n d op p q) d.order ≡ true → order_given (binary n d op p q) ≡ true
    → may_begin (claim p).order places ≡ true → may_begin d.order (places_over_both op places) ≡ true
binary-front catalog n d union p q places h g k = none d.order h
  where
    none : (order : List OrderEntry) → is_front order [] ≡ true → may_begin order [] ≡ true
    none [] e = refl
    none (c ∷ cs) e = cc
binary-front catalog n d (join (by_merging falls) on) p q places h g k =
    front-less d.order (claim p).order (or_nowhere (narrowed (left_order falls on) places)) h
    (narrowed-kept (left_order falls on) (claim p).order places (and-left (is_front (left_order falls on) (claim p).order) (is_front (right_order falls on) (claim q).order) g) k)
binary-front catalog n d (join by_hashing on) p q places h g k = front-less d.order (claim p).order places h k
binary-front catalog n d (semi_join matched on conditions) p q places h g k = front-less d.order (claim p).order places h k

-- the parts by which an order rises
rises-more : (x y : Part) (d : OrderEntry) (order : List OrderEntry) → part_gives x y ≡ true → rises_by y (d ∷ order) ≡ true → rises_by x (d ∷ []) ≡ true
rises-more x y d order h k = ⊎_elim (λ e. rw e (alone y k)) (λ w. let f : rises_by any (d ∷ order) ≡ true = rw w.0 at k in cc) (gives-is x y h)
  where
    alone : (z : Part) → rises_by z (d ∷ order) ≡ true → rises_by z (d ∷ []) ≡ true
    alone one e = cc
    alone any e = cc
    alone all e = cc
    alone (routed (by_hash a) cols) e = cc
    alone (routed (by_range i) []) e = cc
    alone (routed (by_range i) (c ∷ [])) e = e
    alone (routed (by_range i) (c ∷ b ∷ cols)) e = cc

kept-has : (f : OrderEntry → Bool) (s : List OrderEntry) (d : OrderEntry) → f d ≡ true → has_entry s d ≡ true → has_entry (filter f s) d ≡ true
kept-has f [] d h k = cc
kept-has f (c ∷ s) d h k = by (f c) refl (kept-has f s d h)
  where
    by : (t : Bool) → f c ≡ t → (has_entry s d ≡ true → has_entry (filter f s) d ≡ true) → has_entry (cond t (c ∷ filter f s) (filter f s)) d ≡ true
    by true e more = ⊎_elim (λ i. or-left (entry_eq d c) (has_entry (filter f s) d) i) (λ i. or-right (entry_eq d c) (has_entry (filter f s) d) (more i)) (or-cases (entry_eq d c) (has_entry s d) k)
    by false e more =
        ⊎_elim (λ i. let t : f c ≡ true = ap f (sym (entry-same d c i)) ∙ h in cc) more (or-cases (entry_eq d c) (has_entry s d) k)

rising-front : (parts : List Part) (y : Part) (order : List OrderEntry) (places : OrderChoices) → is_told parts y ≡ true → rises_by y order ≡ true → may_begin order places ≡ true → may_begin order (rising parts places) ≡ true
rising-front parts y [] places h r k = refl
rising-front parts y (d ∷ order) [] h r k = cc
rising-front parts y (d ∷ order) (s ∷ places) h r k =
    let f = λ (e : OrderEntry). list_any (λ x. rises_by x (e ∷ [])) parts in
    place-begins (filter f s) places d order
    (kept-has f s d (any-more (λ x. part_gives x y) (λ x. rises_by x (d ∷ [])) parts (λ x e. rises-more x y d order e r) h) (and-left (has_entry s d) (may_begin order places) k))
    (and-right (has_entry s d) (may_begin order places) k)

sent-front : (k : ExchangeKind) (merge : List OrderEntry) (parts : List Part) (places : OrderChoices) (c : Claim) (order : List OrderEntry) → may_merge k merge ≡ true
    → (is_front order merge || (goes_on k c && is_front order c.order)) ≡ true → is_told parts c.part ≡ true → may_begin c.order places ≡ true
    → may_begin order (places_sent k merge parts places) ≡ true
sent-front (route_to z r cols) merge parts places c order m h t f = front-singles order merge (sym (or-false (is_front order merge)) ∙ h)
sent-front (round z) merge parts places c order m h t f = front-singles order merge (sym (or-false (is_front order merge)) ∙ h)
sent-front (broadcast z) merge parts places c order m h t f = front-singles order merge (sym (or-false (is_front order merge)) ∙ h)
sent-front gather merge parts places c order m h t f = front-singles order merge (sym (or-false (is_front order merge)) ∙ h)
sent-front concat [] parts places c [] m h t f = refl
sent-front concat [] parts places c (d ∷ order) m h t f =
    let g : rises_by c.part c.order ≡ true = and-left (rises_by c.part c.order) (is_front (d ∷ order) c.order) h in
    front-less (d ∷ order) c.order (rising parts places) (and-right (rises_by c.part c.order) (is_front (d ∷ order) c.order) h) (rising-front parts c.part c.order places t g f)
sent-front concat (b ∷ merge) parts places c order m h t f = cc

-- of an exchange over a plan of the same size
pub exchange-front : (catalog : ℕ → Relation) (n : ℕ) (d : Claim) (k : ExchangeKind) (merge : List OrderEntry) (p p' : Plan) (parts : List Part) (places : OrderChoices) → size p' ≡ size p → may_merge k merge ≡ true
    → orders catalog (exchange n d k merge p') d.order ≡ true → is_front merge (claim p').order ≡ true → (is_one (size p) || is_told parts (claim p').part) ≡ true → may_begin (claim p').order places ≡ true
    → may_begin d.order (cond (is_one (size p)) (or_nowhere (narrowed merge places)) (places_sent k merge parts places)) ≡ true
exchange-front catalog n d k merge p p' parts places e m h g t f = by (is_one (size p)) (rw e at h) t
  where
    by : (b : Bool) → (is_front d.order merge || ((b || goes_on k (claim p')) && is_front d.order (claim p').order)) ≡ true → (b || is_told parts (claim p').part) ≡ true
        → may_begin d.order (cond b (or_nowhere (narrowed merge places)) (places_sent k merge parts places)) ≡ true
    by true o i =
        let all_of_it = narrowed-kept merge (claim p').order places g f in
        ⊎_elim (λ j. front-less d.order merge (or_nowhere (narrowed merge places)) j (front-less merge (claim p').order (or_nowhere (narrowed merge places)) g all_of_it))
        (λ j. front-less d.order (claim p').order (or_nowhere (narrowed merge places)) j all_of_it) (or-cases (is_front d.order merge) (is_front d.order (claim p').order) o)
    by false o i = sent-front k merge parts places (claim p') d.order m o i f
