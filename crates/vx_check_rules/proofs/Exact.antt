-- The behaviours say what the rule table says.
use Rattle.std.proofs.Common.{ℕ, zero, suc, ◌≡◌, ◌+◌, ◌-◌, ◌<◌, ◌==◌, nat_lt, nat_le, Bool, true, false, cond, ◌&&◌, ◌||◌, List, [], ◌∷◌, ◌++◌, map, filter_map, length, get_or, refl, sym, ap, ◌∙◌, arith, Option, Some, None, slice_get}
use Rattle.std.specs.List.{list_any, list_all, cons_option}
use Rattle.std.proofs.lemmas.Bool.Decides.{nat_tests}
use Rattle.std.proofs.lemmas.List.Folds.{list_any-append, list_all-append, list_all-map}
use Rattle.vx_rows_values.proofs.Booleans.{and-left, and-right}
use Rattle.vx_rows_values.specs.declared.order.OrderEntry.{OrderEntry}
use Rattle.vx_catalog_relations.specs.Relation.{Relation}
use Rattle.vx_catalog_relations.proofs.NameFacts.{list_any-map}
use Rattle.vx_plan_nodes.specs.Plan.{Route, Part, one, any, all, routed, Claim, Unary, select, project, distinct, sort, group, limit, plain, partial, final, union, join, semi_join, ExchangeKind, route_to, round, broadcast, gather, concat, Plan, scan, unary, binary, exchange, claim, size, is_one, target}
use Rattle.vx_plan_nodes.specs.Parts.{kind_part}
use Rattle.vx_plan_nodes.specs.Phases.{first_columns}
use Rattle.vx_plan_nodes.specs.Types.{width}
use Rattle.vx_plan_nodes.specs.Describe.{Copying, whole_rows, columns_kept, entries_kept, kept_column, left_of, right_of, no_columns, source, keys_kept, key_of_first, paired_on, matched_on, described}
use Rattle.vx_check_rules.specs.Rules.{part_gives, has, contains, within, is_front, cons_both, if_some, entry_both, if_order, unless_one, through, copied, copied_from, copied_among, copied_order, copied_order_from, left_columns, right_columns, routed_within, routed_alike, alike_shows, join_shows, semi_join_shows, both_have, kind_shows, unary_shows, keeps_apart, shows, sizes_match, not_replicated, inputs_match, order_given, first_rows_known, part_shown, order_shown, covers, numbers_below, shifted, goes_on, orders, keys_of, keys_shown, join_keys}
use Rattle.vx_check_rules.specs.Refusal.{size_mismatch, part_not_shown, inputs_not_matched, replicated_input, order_not_shown, order_needed, key_not_shown, first_rows_open, first_failure}
use Rattle.vx_check_rules.specs.Behaviour.{sources, order_sources, Way, way, sorted_by, keyed_by, if_so, own, bare, over, ways_over, ways_if_fit, keyed_after, keyed_held, behaviour, fits, each_has, gives, sorts, is_column, has_copy, has_key, keys_give, shown_part, shown_order, shown_key}
use Rattle.vx_check_rules.specs.Exactly.{FitsExactly, PartsExactly, OrdersExactly, KeysExactly, VerdictsExactly}
use Rattle.vx_check_rules.proofs.Bools.{or-false, or-true, and-true, or-assoc, or-swap, or-again, any-if}
use Rattle.vx_check_rules.proofs.ColumnFacts.{list_all-ext, list_any-ext, contains-below, first-suc}

-- ---- columns

pub sources-whole : (cs : List ℕ) → sources whole_rows cs ≡ Some cs
sources-whole [] = refl
sources-whole (c ∷ cs) = ap (cons_both (Some c)) (sources-whole cs)

pub sources-kept : (cols cs : List ℕ) → sources (columns_kept cols) cs ≡ copied cols cs
sources-kept cols [] = refl
sources-kept cols (c ∷ cs) = ap (cons_both (slice_get cols c)) (sources-kept cols cs)

pub sources-entries : (ks : List (Option ℕ)) (cs : List ℕ) → sources (entries_kept ks) cs ≡ copied_from ks cs
sources-entries ks [] = refl
sources-entries ks (c ∷ cs) = ap (cons_both (source (entries_kept ks) c)) (sources-entries ks cs)

cons-cond : (a b : Bool) (c : ℕ) (cs : List ℕ) → cons_both (cond a (Some c) None) (cond b (Some cs) None) ≡ cond (a && b) (Some (c ∷ cs)) None
cons-cond true true c cs = refl
cons-cond true false c cs = refl
cons-cond false b c cs = refl

pub sources-left : (w : ℕ) (cs : List ℕ) → sources (left_of w) cs ≡ left_columns w cs
sources-left w [] = refl
sources-left w (c ∷ cs) = ap (cons_both (source (left_of w) c)) (sources-left w cs) ∙ cons-cond (nat_lt c w) (list_all (λ d. nat_lt d w) cs) c cs

pub sources-right : (w : ℕ) (cs : List ℕ) → sources (right_of w) cs ≡ right_columns w cs
sources-right w [] = refl
sources-right w (c ∷ cs) =
    ap (cons_both (source (right_of w) c)) (sources-right w cs) ∙ cons-cond (nat_le w c) (list_all (λ d. nat_le w d) cs) (c - w) (map (λ d. d - w) cs)

-- ---- orders

pub order-whole_rows : (order : List OrderEntry) → order_sources whole_rows order ≡ Some order
order-whole_rows [] = refl
order-whole_rows (e ∷ order) = ap (entry_both (Some e.column) e) (order-whole_rows order)

pub order-copied : (cols : List ℕ) (order : List OrderEntry) → order_sources (columns_kept cols) order ≡ copied_order cols order
order-copied cols [] = refl
order-copied cols (e ∷ order) = ap (entry_both (slice_get cols e.column) e) (order-copied cols order)

pub order-entries : (ks : List (Option ℕ)) (order : List OrderEntry) → order_sources (entries_kept ks) order ≡ copied_order_from ks order
order-entries ks [] = refl
order-entries ks (e ∷ order) = ap (entry_both (source (entries_kept ks) e.column) e) (order-entries ks order)

sorts-whole : (below order : List OrderEntry) → sorts (sorted_by whole_rows below) order ≡ is_front order below
sorts-whole below order = ap (λ o. if_order o (λ given. is_front given below)) (order-whole_rows order)

order-whole : (below order : List OrderEntry) → is_front order below ≡ list_any (λ s. sorts s order) (sorted_by whole_rows below ∷ [])
order-whole below order = sym (or-false (sorts (sorted_by whole_rows below) order) ∙ sorts-whole below order)

order-kept : (cols : List ℕ) (below order : List OrderEntry)
    → if_order (copied_order cols order) (λ o. is_front o below) ≡ list_any (λ s. sorts s order) (sorted_by (columns_kept cols) below ∷ [])
order-kept cols below order =
    sym (or-false (sorts (sorted_by (columns_kept cols) below) order) ∙ ap (λ o. if_order o (λ given. is_front given below)) (order-copied cols order))

order-from : (ks : List (Option ℕ)) (below order : List OrderEntry)
    → if_order (copied_order_from ks order) (λ o. is_front o below) ≡ list_any (λ s. sorts s order) (sorted_by (entries_kept ks) below ∷ [])
order-from ks below order =
    sym (or-false (sorts (sorted_by (entries_kept ks) below) order) ∙ ap (λ o. if_order o (λ given. is_front given below)) (order-entries ks order))

unary-orders : (op : Unary) (catalog : ℕ → Relation) (n : ℕ) (c : Claim) (p : Plan) (order : List OrderEntry)
    → orders catalog (unary n c op p) order ≡ shown_order (behaviour catalog (unary n c op p)) order
unary-orders (select fs) catalog n c p order = order-whole (claim p).order order
unary-orders (sort of_parts given) catalog n c p order = order-whole given order
unary-orders (project es) catalog n c p order = order-from (map kept_column es) (claim p).order order
unary-orders (distinct cols) catalog n c p order = order-kept cols (claim p).order order
unary-orders (group plain by aggregates) catalog n c p order = order-kept by (claim p).order order
unary-orders (group partial by aggregates) catalog n c p order = order-kept by (claim p).order order
unary-orders (group final by aggregates) catalog n c p order = order-kept by (claim p).order order
unary-orders (limit m) catalog n c p order = order-whole (claim p).order order

moved-orders : (b : Bool) (below merge order : List OrderEntry)
    → (is_front order merge || (b && is_front order below)) ≡ list_any (λ s. sorts s order) (if_so b (sorted_by whole_rows below ∷ []) ++ sorted_by whole_rows merge ∷ [])
moved-orders true below merge order =
    or-swap (is_front order merge) (is_front order below)
    ∙ sym (ap (λ x. x || (sorts (sorted_by whole_rows merge) order || false)) (sorts-whole below order) ∙ ap (λ x. is_front order below || x) (sym (order-whole merge order)))
moved-orders false below merge order = or-false (is_front order merge) ∙ order-whole merge order

pub orders-exactly : OrdersExactly
orders-exactly catalog (scan n c r m z) order = order-whole (catalog r).order order
orders-exactly catalog (unary n c op p) order = unary-orders op catalog n c p order
orders-exactly catalog (binary n c union p q) order = order-whole [] order
orders-exactly catalog (binary n c (join m on) p q) order = order-whole (claim p).order order
orders-exactly catalog (binary n c (semi_join matched on conditions) p q) order = order-whole (claim p).order order
orders-exactly catalog (exchange n c k merge p) order = moved-orders (is_one (size p) || goes_on k (claim p)) (claim p).order merge order

-- ---- parts

-- what a way gives, in the table's words
some-same : (r : Route) (from : List (Bool × Part)) (had : Part → Bool) → ((q : Part) → each_has from q ≡ had q) → (o : Option (List ℕ))
    → if_some o (λ cs. each_has from (routed r cs)) ≡ if_some o (λ cs. had (routed r cs))
some-same r from had same None = refl
some-same r from had same (Some cs) = same (routed r cs)

gives-through : (k : Copying) (from : List (Bool × Part)) (had : Part → Bool) (columns : List ℕ → Option (List ℕ)) → ((q : Part) → each_has from q ≡ had q)
    → ((cs : List ℕ) → sources k cs ≡ columns cs) → (q : Part) → gives (way k from) q ≡ through had columns q
gives-through k from had columns each same one = refl
gives-through k from had columns each same any = each any
gives-through k from had columns each same all = each all
gives-through k from had columns each same (routed r cs) = some-same r from had each (sources k cs) ∙ ap (λ o. if_some o (λ ds. had (routed r ds))) (same cs)

through-whole : (had : Part → Bool) (q : Part) → through had (λ cs. Some cs) q ≡ unless_one had q
through-whole had one = refl
through-whole had any = refl
through-whole had all = refl
through-whole had (routed r cs) = refl

pub through-unless : (had : Part → Bool) (columns : List ℕ → Option (List ℕ)) (q : Part) → unless_one (through had columns) q ≡ through had columns q
through-unless had columns one = refl
through-unless had columns any = refl
through-unless had columns all = refl
through-unless had columns (routed r cs) = refl

unless-same : (f g : Part → Bool) → ((q : Part) → f q ≡ g q) → (q : Part) → unless_one f q ≡ unless_one g q
unless-same f g same one = refl
unless-same f g same any = same any
unless-same f g same all = same all
unless-same f g same (routed r cs) = same (routed r cs)

gives-whole : (from : List (Bool × Part)) (had : Part → Bool) → ((q : Part) → each_has from q ≡ had q) → (q : Part) → gives (way whole_rows from) q ≡ unless_one had q
gives-whole from had each q = gives-through whole_rows from had (λ cs. Some cs) each sources-whole q ∙ through-whole had q

each-own : (p : Plan) (q : Part) → each_has (own p ∷ []) q ≡ has p q
each-own p q = and-true (has p q)

each-bare : (q x : Part) → each_has (bare q ∷ []) x ≡ part_gives q x
each-bare q x = and-true (part_gives q x)

own-kept : (cols : List ℕ) (p : Plan) (q : Part) → gives (way (columns_kept cols) (own p ∷ [])) q ≡ unless_one (through (has p) (copied cols)) q
own-kept cols p q = gives-through (columns_kept cols) (own p ∷ []) (has p) (copied cols) (each-own p) (sources-kept cols) q ∙ sym (through-unless (has p) (copied cols) q)

own-entries : (ks : List (Option ℕ)) (p : Plan) (q : Part) → gives (way (entries_kept ks) (own p ∷ [])) q ≡ unless_one (through (has p) (copied_from ks)) q
own-entries ks p q = gives-through (entries_kept ks) (own p ∷ []) (has p) (copied_from ks) (each-own p) (sources-entries ks) q ∙ sym (through-unless (has p) (copied_from ks) q)

bare-whole : (p q : Part) → gives (way whole_rows (bare p ∷ [])) q ≡ unless_one (part_gives p) q
bare-whole p q = gives-whole (bare p ∷ []) (part_gives p) (each-bare p) q

-- a way that is there, and one that is there if a test passes
here : (a : Bool) (w : Way) (q : Part) (had : Bool) → gives w q ≡ had → (a || had) ≡ (a || list_any (λ v. gives v q) (w ∷ []))
here a w q had is = ap (λ x. a || x) (sym (or-false (gives w q) ∙ is))

if-there : (a b : Bool) (w : Way) (q : Part) (had : Bool) → b ≡ true → gives w q ≡ had → (a || had) ≡ (a || list_any (λ v. gives v q) (if_so b (w ∷ [])))
if-there a b w q had e is = rw e (here a w q had is)

unary-parts : (op : Unary) (p : Plan) (q : Part) → (is_one (size p) || keeps_apart op p) ≡ true
    → (is_one (size p) || unless_one (unary_shows op p) q) ≡ (is_one (size p) || shown_part (over (described op) p) q)
unary-parts (select fs) p q e = here (is_one (size p)) (way whole_rows (own p ∷ [])) q (unless_one (has p) q) (gives-whole (own p ∷ []) (has p) (each-own p) q)
unary-parts (sort of_parts cols) p q e = here (is_one (size p)) (way whole_rows (own p ∷ [])) q (unless_one (has p) q) (gives-whole (own p ∷ []) (has p) (each-own p) q)
unary-parts (project es) p q e =
    here (is_one (size p)) (way (entries_kept (map kept_column es)) (own p ∷ [])) q (unless_one (through (has p) (copied_from (map kept_column es))) q) (own-entries (map kept_column es) p q)
unary-parts (distinct cols) p q e =
    if-there (is_one (size p)) (is_one (size p) || (has p all || routed_within (claim p).part cols)) (way (columns_kept cols) (own p ∷ [])) q (unless_one (through (has p) (copied cols)) q) e (own-kept cols p q)
unary-parts (group plain by aggregates) p q e =
    if-there (is_one (size p)) (is_one (size p) || (has p all || routed_within (claim p).part by)) (way (columns_kept by) (own p ∷ [])) q (unless_one (through (has p) (copied by)) q) e (own-kept by p q)
unary-parts (group partial by aggregates) p q e = here (is_one (size p)) (way (columns_kept by) (own p ∷ [])) q (unless_one (through (has p) (copied by)) q) (own-kept by p q)
unary-parts (group final by aggregates) p q e =
    if-there (is_one (size p)) (is_one (size p) || (has p all || routed_within (claim p).part by)) (way (columns_kept by) (own p ∷ [])) q (unless_one (through (has p) (copied by)) q) e (own-kept by p q)
unary-parts (limit m) p q e = here (is_one (size p)) (way whole_rows (own p ∷ [])) q (unless_one (has p) q) (gives-whole (own p ∷ []) (has p) (each-own p) q)

-- the way of an operator over one input gives what the operator shows
pub unary-gives : (op : Unary) (p : Plan) (q : Part) → gives (way (described op).copying (own p ∷ [])) q ≡ unless_one (unary_shows op p) q
unary-gives (select fs) p q = gives-whole (own p ∷ []) (has p) (each-own p) q
unary-gives (sort of_parts cols) p q = gives-whole (own p ∷ []) (has p) (each-own p) q
unary-gives (project es) p q = own-entries (map kept_column es) p q
unary-gives (distinct cols) p q = own-kept cols p q
unary-gives (group plain by aggregates) p q = own-kept by p q
unary-gives (group partial by aggregates) p q = own-kept by p q
unary-gives (group final by aggregates) p q = own-kept by p q
unary-gives (limit m) p q = gives-whole (own p ∷ []) (has p) (each-own p) q

both-unless : (p q : Plan) (x : Part) → unless_one (both_have p q) x ≡ unless_one (λ y. has p y && has q y) x
both-unless p q one = refl
both-unless p q any = refl
both-unless p q all = refl
both-unless p q (routed r cs) = refl

gives-both : (p q : Plan) (x : Part) → gives (way whole_rows (own p ∷ own q ∷ [])) x ≡ unless_one (both_have p q) x
gives-both p q x =
    gives-whole (own p ∷ own q ∷ []) (λ y. has p y && has q y) (λ y. ap (λ b. has p y && b) (and-true (has q y))) x ∙ sym (both-unless p q x)

-- inputs that are routed alike
alike : (on : List (ℕ × ℕ)) (w : ℕ) (p q x : Part)
    → (routed_alike on p q && (gives (way whole_rows (bare p ∷ [])) x || (gives (way (right_of w) (bare q ∷ [])) x || false))) ≡ (routed_alike on p q && alike_shows w p q x)
alike on w one q x = refl
alike on w any q x = refl
alike on w all q x = refl
alike on w (routed r ls) one x = refl
alike on w (routed r ls) any x = refl
alike on w (routed r ls) all x = refl
alike on w (routed r ls) (routed s rs) one = refl
alike on w (routed r ls) (routed s rs) any = refl
alike on w (routed r ls) (routed s rs) all = refl
alike on w (routed r ls) (routed s rs) (routed t cs) =
    let l : gives (way whole_rows (bare (routed r ls) ∷ [])) (routed t cs) ≡ part_gives (routed r ls) (routed t cs) = bare-whole (routed r ls) (routed t cs) in
    let g : Bool = gives (way (right_of w) (bare (routed s rs) ∷ [])) (routed t cs) in
    let m : g ≡ if_some (right_columns w cs) (λ ds. part_gives (routed s rs) (routed t ds))
    = gives-through (right_of w) (bare (routed s rs) ∷ []) (part_gives (routed s rs)) (right_columns w) (each-bare (routed s rs)) (sources-right w) (routed t cs) in
    ap (λ b. routed_alike on (routed r ls) (routed s rs) && b) (ap (λ b. b || (g || false)) l ∙ ap (λ b. part_gives (routed r ls) (routed t cs) || b) (or-false g ∙ m))

pub join-unless : (on : List (ℕ × ℕ)) (w : ℕ) (p q : Plan) (x : Part) → unless_one (join_shows on w p q) x ≡ join_shows on w p q x
join-unless on w p q one = none (routed_alike on (claim p).part (claim q).part) (has q all) (has p all)
  where
    none : (a b c : Bool) → false ≡ (((a && false) || (b && false)) || (c && false))
    none true true true = refl
    none true true false = refl
    none true false true = refl
    none true false false = refl
    none false true true = refl
    none false true false = refl
    none false false true = refl
    none false false false = refl
join-unless on w p q any = refl
join-unless on w p q all = refl
join-unless on w p q (routed r cs) = refl

pub join-parts : (on : List (ℕ × ℕ)) (w : ℕ) (p q : Plan) (x : Part)
    → join_shows on w p q x ≡ list_any (λ v. gives v x) (ways_over (paired_on on) (record { left = left_of w; right = right_of w; meeting = paired_on on }) (own p) (own q))
join-parts on w p q x =
    let f = λ (v : Way). gives v x in
    let a : Bool = routed_alike on (claim p).part (claim q).part in
    let us : List Way = way whole_rows (bare (claim p).part ∷ []) ∷ way (right_of w) (bare (claim q).part ∷ []) ∷ [] in
    let l : Way = way (left_of w) (own p ∷ []) in
    let r : Way = way (right_of w) (own q ∷ []) in
    let A : Bool = a && alike_shows w (claim p).part (claim q).part x in
    let B : Bool = has q all && through (has p) (left_columns w) x in
    let C : Bool = has p all && through (has q) (right_columns w) x in
    let ea : list_any f (if_so a us) ≡ A = any-if f a us ∙ alike on w (claim p).part (claim q).part x in
    let eb : list_any f (if_so (has q all) (l ∷ [])) ≡ B
    = any-if f (has q all) (l ∷ []) ∙ ap (λ b. has q all && b) (or-false (gives l x) ∙ gives-through (left_of w) (own p ∷ []) (has p) (left_columns w) (each-own p) (sources-left w) x) in
    let ec : list_any f (if_so (has p all) (r ∷ [])) ≡ C
    = any-if f (has p all) (r ∷ []) ∙ ap (λ b. has p all && b) (or-false (gives r x) ∙ gives-through (right_of w) (own q ∷ []) (has q) (right_columns w) (each-own q) (sources-right w) x) in
    let rest : List Way = if_so (has q all) (l ∷ []) ++ if_so (has p all) (r ∷ []) in
    let split : list_any f (if_so a us ++ rest) ≡ (A || (B || C))
    = list_any-append f (if_so a us) rest
    ∙ (ap (λ b. b || list_any f rest) ea
    ∙ ap (λ b. A || b) (list_any-append f (if_so (has q all) (l ∷ [])) (if_so (has p all) (r ∷ [])) ∙ (ap (λ b. b || list_any f (if_so (has p all) (r ∷ []))) eb ∙ ap (λ b. B || b) ec))) in
    or-assoc A B C ∙ sym split

-- left rows that are kept as they meet right ones
unless-two : (a b : Bool) (f g : Part → Bool) (x : Part) → unless_one (λ y. (a && f y) || (b && g y)) x ≡ ((a && unless_one f x) || (b && unless_one g x))
unless-two true true f g one = refl
unless-two true false f g one = refl
unless-two false true f g one = refl
unless-two false false f g one = refl
unless-two a b f g any = refl
unless-two a b f g all = refl
unless-two a b f g (routed r cs) = refl

pub semi-parts : (on : List (ℕ × ℕ)) (p q : Plan) (x : Part)
    → unless_one (semi_join_shows on p q) x ≡ list_any (λ v. gives v x) (ways_over (matched_on on) (record { left = whole_rows; right = no_columns; meeting = matched_on on }) (own p) (own q))
semi-parts on p q x =
    let f = λ (v : Way). gives v x in
    let a : Bool = routed_alike on (claim p).part (claim q).part in
    let u : Way = way whole_rows (bare (claim p).part ∷ []) in
    let l : Way = way whole_rows (own p ∷ []) in
    let A : Bool = a && unless_one (part_gives (claim p).part) x in
    let B : Bool = has q all && unless_one (has p) x in
    let ea : list_any f (if_so a (u ∷ [])) ≡ A = any-if f a (u ∷ []) ∙ ap (λ b. a && b) (or-false (gives u x) ∙ bare-whole (claim p).part x) in
    let eb : list_any f (if_so (has q all) (l ∷ [])) ≡ B
    = any-if f (has q all) (l ∷ []) ∙ ap (λ b. has q all && b) (or-false (gives l x) ∙ gives-whole (own p ∷ []) (has p) (each-own p) x) in
    unless-two a (has q all) (part_gives (claim p).part) (has p) x
    ∙ sym (list_any-append f (if_so a (u ∷ [])) (if_so (has q all) (l ∷ [])) ∙ (ap (λ b. b || list_any f (if_so (has q all) (l ∷ []))) ea ∙ ap (λ b. A || b) eb))

kind-parts : (k : ExchangeKind) (q : Part) → kind_shows k q ≡ part_gives (kind_part k) q
kind-parts (route_to z r cols) q = refl
kind-parts (round z) q = refl
kind-parts (broadcast z) q = refl
kind-parts gather q = refl
kind-parts concat q = refl

pub parts-exactly : PartsExactly
parts-exactly catalog (scan n c r true z) q e = here (is_one z) (way whole_rows (bare any ∷ [])) q (unless_one (part_gives any) q) (bare-whole any q)
parts-exactly catalog (scan n c r false z) q e = here (is_one z) (way whole_rows (bare all ∷ [])) q (unless_one (part_gives all) q) (bare-whole all q)
parts-exactly catalog (unary n c op p) q e = unary-parts op p q e
parts-exactly catalog (binary n c union p q) x e =
    if-there (is_one (size p)) (is_one (size p) || ((has p any && has q any) || (has p all && has q all))) (way whole_rows (own p ∷ own q ∷ [])) x (unless_one (both_have p q) x) e (gives-both p q x)
parts-exactly catalog (binary n c (join m on) p q) x e = ap (λ b. is_one (size p) || b) (join-unless on (width catalog p) p q x ∙ join-parts on (width catalog p) p q x)
parts-exactly catalog (binary n c (semi_join matched on conditions) p q) x e = ap (λ b. is_one (size p) || b) (semi-parts on p q x)
parts-exactly catalog (exchange n c k m p) q e =
    here (is_one (target k)) (way whole_rows (bare (kind_part k) ∷ [])) q (unless_one (kind_shows k) q)
    (bare-whole (kind_part k) q ∙ sym (unless-same (kind_shows k) (part_gives (kind_part k)) (kind-parts k) q))

-- a part is shown by a way that is there if the operator fits, whether or not it does
pub parts-if-fit : (catalog : ℕ → Relation) (p : Plan) (q : Part) → (is_one (size p) || unless_one (shows catalog p) q) ≡ (is_one (size p) || list_any (λ w. gives w q) (ways_if_fit catalog p))
parts-if-fit catalog (scan n c r m z) q = parts-exactly catalog (scan n c r m z) q refl
parts-if-fit catalog (unary n c op p) q = here (is_one (size p)) (way (described op).copying (own p ∷ [])) q (unless_one (unary_shows op p) q) (unary-gives op p q)
parts-if-fit catalog (binary n c union p q) x = here (is_one (size p)) (way whole_rows (own p ∷ own q ∷ [])) x (unless_one (both_have p q) x) (gives-both p q x)
parts-if-fit catalog (binary n c (join m on) p q) x = ap (λ b. is_one (size p) || b) (join-unless on (width catalog p) p q x ∙ join-parts on (width catalog p) p q x)
parts-if-fit catalog (binary n c (semi_join matched on conditions) p q) x = ap (λ b. is_one (size p) || b) (semi-parts on p q x)
parts-if-fit catalog (exchange n c k m p) q = parts-exactly catalog (exchange n c k m p) q refl

-- ---- fits

-- with no way, or with one
fits-if : (b : Bool) (w : Way) → list_any (λ x. true) (if_so b (w ∷ [])) ≡ b
fits-if true w = refl
fits-if false w = refl

again-if : (a b : Bool) (w : Way) → (a || b) ≡ (a || list_any (λ x. true) (if_so (a || b) (w ∷ [])))
again-if a b w = or-again a b ∙ ap (λ x. a || x) (sym (fits-if (a || b) w))

unary-fits : (op : Unary) (p : Plan) → (is_one (size p) || keeps_apart op p) ≡ (is_one (size p) || fits (over (described op) p))
unary-fits (select fs) p = refl
unary-fits (sort of_parts cols) p = refl
unary-fits (project es) p = refl
unary-fits (distinct cols) p = again-if (is_one (size p)) (has p all || routed_within (claim p).part cols) (way (columns_kept cols) (own p ∷ []))
unary-fits (group plain by aggregates) p = again-if (is_one (size p)) (has p all || routed_within (claim p).part by) (way (columns_kept by) (own p ∷ []))
unary-fits (group partial by aggregates) p = refl
unary-fits (group final by aggregates) p = again-if (is_one (size p)) (has p all || routed_within (claim p).part by) (way (columns_kept by) (own p ∷ []))
unary-fits (limit m) p = refl

semi-fits : (a b : Bool) (u l : Way) → (a || b) ≡ list_any (λ x. true) (if_so a (u ∷ []) ++ if_so b (l ∷ []))
semi-fits true b u l = refl
semi-fits false true u l = refl
semi-fits false false u l = refl

join-fits : (a b c : Bool) (u v l r : Way) → (a || b || c) ≡ list_any (λ x. true) (if_so a (u ∷ v ∷ []) ++ (if_so b (l ∷ []) ++ if_so c (r ∷ [])))
join-fits true b c u v l r = refl
join-fits false true c u v l r = refl
join-fits false false true u v l r = refl
join-fits false false false u v l r = refl

pub fits-exactly : FitsExactly
fits-exactly catalog (scan n c r m z) = sym (or-true (is_one z))
fits-exactly catalog (unary n c op p) = unary-fits op p
fits-exactly catalog (binary n c union p q) = again-if (is_one (size p)) ((has p any && has q any) || (has p all && has q all)) (way whole_rows (own p ∷ own q ∷ []))
fits-exactly catalog (binary n c (join m on) p q) =
    ap (λ b. is_one (size p) || b)
    (join-fits (routed_alike on (claim p).part (claim q).part) (has q all) (has p all) (way whole_rows (bare (claim p).part ∷ [])) (way (right_of (width catalog p)) (bare (claim q).part ∷ []))
    (way (left_of (width catalog p)) (own p ∷ [])) (way (right_of (width catalog p)) (own q ∷ [])))
fits-exactly catalog (binary n c (semi_join matched on conditions) p q) =
    ap (λ b. is_one (size p) || b)
    (semi-fits (routed_alike on (claim p).part (claim q).part) (has q all) (way whole_rows (bare (claim p).part ∷ [])) (way whole_rows (own p ∷ [])))
fits-exactly catalog (exchange n c k m p) = sym (or-true (is_one (target k)))

-- ---- keys

-- those that are there as they are
pub key-whole : (keys : List (List ℕ)) (cols : List ℕ) → covers keys cols ≡ list_any (λ k. keys_give k cols) (keyed_by ((whole_rows, keys) ∷ []) ∷ [])
key-whole keys cols = sym (or-false (covers keys cols && true) ∙ and-true (covers keys cols))

key-one : (k : Copying) (keys : List (List ℕ)) (cols : List ℕ) → has_key k keys cols ≡ list_any (λ k. keys_give k cols) (keyed_by ((k, keys) ∷ []) ∷ [])
key-one k keys cols = sym (or-false (has_key k keys cols && true) ∙ and-true (has_key k keys cols))

pub slice-at : (xs : List ℕ) (i : ℕ) → i < length xs → slice_get xs i ≡ Some (get_or xs i 0)
slice-at [] i h = absurd (omega arith)
slice-at (x ∷ xs) zero h = refl
slice-at (x ∷ xs) (suc i) h = slice-at xs i (omega arith)

-- those of entries that keep columns
copied-copies : (ks : List (Option ℕ)) (xs : List ℕ) (c : ℕ) → has_copy (entries_kept ks) xs c ≡ contains (copied_among ks xs) c
copied-copies ks [] c = refl
copied-copies ks (x ∷ xs) c = by (source (entries_kept ks) x) (copied-copies ks xs c)
  where
    by : (o : Option ℕ) → has_copy (entries_kept ks) xs c ≡ contains (copied_among ks xs) c → (is_column o c || has_copy (entries_kept ks) xs c) ≡ contains (cons_option o (copied_among ks xs)) c
    by None e = e
    by (Some d) e = ap (λ b. (c == d) || b) e

pub key-entries : (ks : List (Option ℕ)) (keys : List (List ℕ)) (xs : List ℕ) → covers keys (copied_among ks xs) ≡ list_any (λ k. keys_give k xs) (keyed_by ((entries_kept ks, keys) ∷ []) ∷ [])
key-entries ks keys xs =
    sym (list_any-ext (λ key. list_all (has_copy (entries_kept ks) xs) key) (λ key. list_all (contains (copied_among ks xs)) key) keys
    (λ key. list_all-ext (has_copy (entries_kept ks) xs) (contains (copied_among ks xs)) key (copied-copies ks xs)))
    ∙ key-one (entries_kept ks) keys xs

-- those behind a left input's columns
behind : (w c x : ℕ) → is_column (cond (nat_le w x) (Some (x - w)) None) c ≡ ((w + c) == x)
behind w c x = by (nat_le w x) refl
  where
    by : (b : Bool) → nat_le w x ≡ b → is_column (cond b (Some (x - w)) None) c ≡ ((w + c) == x)
    by true e = grind (arith, nat_tests)
    by false e = grind (arith, nat_tests)

pub covers-behind : (w : ℕ) (keys : List (List ℕ)) (cols : List ℕ) → covers (map (shifted w) keys) cols ≡ has_key (right_of w) keys cols
covers-behind w keys cols =
    sym (list_any-ext (λ k. list_all (has_copy (right_of w) cols) k) (λ k. within (shifted w k) cols) keys
    (λ k. list_all-ext (has_copy (right_of w) cols) (λ c. contains cols (w + c)) k (λ c. list_any-ext (λ x. is_column (source (right_of w) x) c) (λ x. (w + c) == x) cols (λ x. behind w c x))
    ∙ sym (list_all-map (contains cols) (λ c. w + c) k))
    ∙ sym (list_any-map (λ k. within k cols) (shifted w) keys))

-- keys of either input, or of both together
held : (a b : Bool) (lefts rights : Copying × List (List ℕ)) (cols : List ℕ)
    → (((has_key lefts.0 lefts.1 cols && has_key rights.0 rights.1 cols) || (has_key lefts.0 lefts.1 cols && a)) || (has_key rights.0 rights.1 cols && b))
    ≡ list_any (λ k. keys_give k cols) (keyed_held a b lefts rights)
held a b lefts rights cols = by a b (has_key lefts.0 lefts.1 cols) (has_key rights.0 rights.1 cols) refl refl
  where
    L : Bool
    L = has_key lefts.0 lefts.1 cols

    R : Bool
    R = has_key rights.0 rights.1 cols

    by : (a b l r : Bool) → L ≡ l → R ≡ r → (((L && R) || (L && a)) || (R && b)) ≡ list_any (λ k. keys_give k cols) (keyed_held a b lefts rights)
    by true true true true e f = rw (e, f) refl
    by true true true false e f = rw (e, f) refl
    by true true false true e f = rw (e, f) refl
    by true true false false e f = rw (e, f) refl
    by true false true true e f = rw (e, f) refl
    by true false true false e f = rw (e, f) refl
    by true false false true e f = rw (e, f) refl
    by true false false false e f = rw (e, f) refl
    by false true true true e f = rw (e, f) refl
    by false true true false e f = rw (e, f) refl
    by false true false true e f = rw (e, f) refl
    by false true false false e f = rw (e, f) refl
    by false false true true e f = rw (e, f) refl
    by false false true false e f = rw (e, f) refl
    by false false false true e f = rw (e, f) refl
    by false false false false e f = rw (e, f) refl

pub join-keys : (on : List (ℕ × ℕ)) (w : ℕ) (lefts rights : List (List ℕ)) (cols : List ℕ)
    → join_keys on w lefts rights cols
    ≡ list_any (λ k. keys_give k cols) (keyed_held (covers rights (map (λ p. p.1) on)) (covers lefts (map (λ p. p.0) on)) (whole_rows, lefts) (right_of w, rights))
join-keys on w lefts rights cols =
    let a : Bool = covers rights (map (λ p. p.1) on) in
    let b : Bool = covers lefts (map (λ p. p.0) on) in
    ap (λ r. ((covers lefts cols && r) || (covers lefts cols && a)) || (r && b)) (covers-behind w rights cols) ∙ held a b (whole_rows, lefts) (right_of w, rights) cols

-- the first columns are the numbers below
pub all-first : (test : ℕ → Bool) (n : ℕ) → list_all test (numbers_below n) ≡ list_all test (first_columns n)
all-first test zero = refl
all-first test (suc n) =
    ap (λ b. test n && b) (all-first test n)
    ∙ (swap (test n) (list_all test (first_columns n)) ∙ sym (ap (list_all test) (first-suc n) ∙ list_all-append test (first_columns n) (n ∷ [])))
  where
    swap : (a b : Bool) → (a && b) ≡ (b && (a && true))
    swap true true = refl
    swap true false = refl
    swap false true = refl
    swap false false = refl

pub key-first : (n : ℕ) (cols : List ℕ) → within (numbers_below n) cols ≡ list_any (λ k. keys_give k cols) (keyed_by ((whole_rows, first_columns n ∷ []) ∷ []) ∷ [])
key-first n cols = all-first (contains cols) n ∙ (sym (or-false (within (first_columns n) cols)) ∙ key-whole (first_columns n ∷ []) cols)

-- of so few first rows no column is a key
pub limit-key : (b : Bool) (keys : List (List ℕ)) (cols : List ℕ)
    → (b || covers keys cols) ≡ list_any (λ k. keys_give k cols) (keyed_after (cond b (key_of_first 0) keys_kept) whole_rows keys)
limit-key true keys cols = key-first 0 cols
limit-key false keys cols = key-whole keys cols

unary-key : (op : Unary) (catalog : ℕ → Relation) (n : ℕ) (c : Claim) (p : Plan) (cols : List ℕ) → within cols (numbers_below (width catalog (unary n c op p))) ≡ true
    → keys_of catalog (unary n c op p) cols ≡ shown_key (behaviour catalog (unary n c op p)) cols
unary-key (select fs) catalog n c p cols e = key-whole (claim p).keys cols
unary-key (sort false kept) catalog n c p cols e = key-whole (claim p).keys cols
unary-key (sort true kept) catalog n c p cols e = refl
unary-key (project es) catalog n c p cols e = key-entries (map kept_column es) (claim p).keys cols
unary-key (distinct kept) catalog n c p cols e =
    (ap (λ b. within (numbers_below (length kept)) cols && b) e ∙ and-true (within (numbers_below (length kept)) cols)) ∙ key-first (length kept) cols
unary-key (group plain by aggregates) catalog n c p cols e = key-first (length by) cols
unary-key (group partial by aggregates) catalog n c p cols e = refl
unary-key (group final by aggregates) catalog n c p cols e = key-first (length by) cols
unary-key (limit m) catalog n c p cols e = limit-key (nat_le m 1) (claim p).keys cols

pub keys-exactly : KeysExactly
keys-exactly catalog (scan n c r m z) cols e = key-whole (catalog r).keys cols
keys-exactly catalog (unary n c op p) cols e = unary-key op catalog n c p cols e
keys-exactly catalog (binary n c union p q) cols e = refl
keys-exactly catalog (binary n c (join m on) p q) cols e = join-keys on (width catalog p) (claim p).keys (claim q).keys cols
keys-exactly catalog (binary n c (semi_join matched on conditions) p q) cols e = key-whole (claim p).keys cols
keys-exactly catalog (exchange n c k m p) cols e = key-whole (claim p).keys cols

-- ---- the verdict

pub keys-all : (catalog : ℕ → Relation) (p : Plan) (keys : List (List ℕ)) → list_all (λ k. within k (numbers_below (width catalog p))) keys ≡ true
    → list_all (keys_of catalog p) keys ≡ list_all (shown_key (behaviour catalog p)) keys
keys-all catalog p [] h = refl
keys-all catalog p (k ∷ keys) h =
    let a : Bool = within k (numbers_below (width catalog p)) in
    let b : Bool = list_all (λ x. within x (numbers_below (width catalog p))) keys in
    ap (λ x. x && list_all (keys_of catalog p) keys) (keys-exactly catalog p k (and-left a b h)) ∙ ap (λ x. shown_key (behaviour catalog p) k && x) (keys-all catalog p keys (and-right a b h))

cascade : (a b c d m e e' f f' g g' : Bool) → (c ≡ true → e ≡ e') → f ≡ f' → g ≡ g'
    → first_failure ((a, size_mismatch) ∷ (b, replicated_input) ∷ (c, inputs_not_matched) ∷ (d, order_needed) ∷ (m, first_rows_open) ∷ (e, part_not_shown) ∷ (f, order_not_shown) ∷ (g, key_not_shown) ∷ [])
    ≡ first_failure ((a, size_mismatch) ∷ (b, replicated_input) ∷ (c, inputs_not_matched) ∷ (d, order_needed) ∷ (m, first_rows_open) ∷ (e', part_not_shown) ∷ (f', order_not_shown) ∷ (g', key_not_shown) ∷ [])
cascade a b true d m e e' f f' g g' h k l = rw (h refl, k, l) refl
cascade a b false d m e e' f f' g g' h k l = refl

pub verdicts-exactly : VerdictsExactly
verdicts-exactly catalog p h =
    let a : Bool = sizes_match p in
    let b : Bool = not_replicated p in
    let d : Bool = order_given p in
    let m : Bool = first_rows_known catalog p in
    let e' : Bool = is_one (size p) || shown_part (behaviour catalog p) (claim p).part in
    let f' : Bool = shown_order (behaviour catalog p) (claim p).order in
    let g' : Bool = list_all (shown_key (behaviour catalog p)) (claim p).keys in
    cascade a b (inputs_match p) d m (part_shown catalog p) e' (order_shown catalog p) f' (keys_shown catalog p) g' (parts-exactly catalog p (claim p).part)
    (orders-exactly catalog p (claim p).order) (keys-all catalog p (claim p).keys h)
    ∙ ap (λ c. first_failure ((a, size_mismatch) ∷ (b, replicated_input) ∷ (c, inputs_not_matched) ∷ (d, order_needed) ∷ (m, first_rows_open) ∷ (e', part_not_shown) ∷ (f', order_not_shown) ∷ (g', key_not_shown) ∷ []))
    (fits-exactly catalog p)
