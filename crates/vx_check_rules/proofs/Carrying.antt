-- What is carried up is shown.
use Rattle.std.proofs.Common.{ℕ, zero, suc, ◌≡◌, ◌+◌, ◌-◌, ◌<◌, ◌==◌, nat_lt, nat_le, Bool, true, false, cond, not, ◌&&◌, ◌||◌, List, [], ◌∷◌, ◌++◌, map, flat_map, length, get_or, position, refl, sym, ap, ◌∙◌, arith, Option, Some, None, slice_get}
use Rattle.std.specs.List.{list_any, list_all, cons_option}
use Rattle.std.proofs.lemmas.Bool.{eqb-true}
use Rattle.std.proofs.lemmas.Bool.Decides.{nat_tests}
use Rattle.std.proofs.lemmas.List.Folds.{list_any-append, list_all-append}
use Rattle.std.proofs.lemmas.List.Quantifiers.{position-Some}
use Rattle.vx_rows_values.proofs.Booleans.{and-left, and-right, and-both}
use Rattle.vx_rows_values.specs.declared.order.OrderEntry.{OrderEntry}
use Rattle.vx_rows_values.specs.Order.{entry_eq}
use Rattle.vx_catalog_relations.specs.Relation.{Relation}
use Rattle.vx_plan_nodes.specs.Plan.{Route, by_hash, by_range, Part, one, any, all, routed, Claim, Unary, select, project, distinct, sort, group, limit, plain, partial, final, by_hashing, by_merging, union, join, semi_join, Plan, scan, unary, binary, exchange, claim, size, is_one, Size, one_worker, group_of, size_eq}
use Rattle.vx_plan_nodes.specs.Parts.{kind_part}
use Rattle.vx_plan_nodes.specs.Phases.{first_columns}
use Rattle.vx_plan_nodes.specs.Types.{width}
use Rattle.vx_plan_nodes.specs.Describe.{Copying, whole_rows, columns_kept, entries_kept, kept_column, left_of, right_of, no_columns, source, place, described, described_both}
use Rattle.vx_plan_nodes.specs.Describe as describe
use Rattle.vx_check_rules.specs.Rules.{numbers_eq, route_eq, part_gives, has, contains, within, is_front, cons_both, entry_at, entry_both, copied_among, if_some, if_order, unless_one, sizes_match, not_replicated, inputs_match, order_given, first_rows_known, shows, orders, covers, numbers_below, keys_of, routed_alike, goes_on}
use Rattle.vx_check_rules.specs.Refusal.{size_mismatch, replicated_input, inputs_not_matched, order_needed, part_not_shown, order_not_shown, key_not_shown, first_rows_open, first_failure, node_tests}
use Rattle.vx_check_rules.specs.Behaviour.{sources, places, order_sources, entry_then, front_order, Way, Sorted, Keyed, way, sorted_by, order_after, order_over, if_so, own, bare, meet, behaviour, each_has, gives, sorts, is_column, has_copy, has_key, keys_give, shown_part, shown_order, shown_key, routed_at, part_up, first_part, first_order, kept_keys, first_pair, together, keys_up, node_part, node_order, node_keys}
use Rattle.vx_check_rules.specs.Carried.{CopiesBack, OrdersCarried, KeysCarried, PartsCarried, with_claim, carried, CarriedIsShown}
use Rattle.vx_check_rules.proofs.Bools.{or-left, or-right, all-more, any-more}
use Rattle.vx_check_rules.proofs.ColumnFacts.{list_all-ext}
use Rattle.vx_check_rules.proofs.Exact.{slice-at, key-entries, orders-exactly, parts-exactly, key-whole, key-first, limit-key, join-keys, all-first}

-- ---- columns

same : (x : ℕ) → (x == x) ≡ true
same x = grind (arith, nat_tests)

kept-back : (cols : List ℕ) (c d : ℕ) → position (λ k. c == k) cols ≡ Some d → slice_get cols d ≡ Some c
kept-back cols c d e =
    let w = position-Some (λ k. c == k) cols d 0 e in
    let is : c ≡ get_or cols d 0 = eqb-true c (get_or cols d 0) w.1 in
    slice-at cols d w.0 ∙ ap Some (sym is)

column-is : (c : ℕ) (o : Option ℕ) → describe.is_column c o ≡ true → o ≡ Some c
column-is c None h = cc
column-is c (Some k) h = ap Some (sym (eqb-true c k h))

entry-at : (ks : List (Option ℕ)) (d : ℕ) → d < length ks → source (entries_kept ks) d ≡ get_or ks d None
entry-at [] d h = absurd (omega arith)
entry-at (k ∷ ks) zero h = refl
entry-at (k ∷ ks) (suc d) h = entry-at ks d (omega arith)

entries-back : (ks : List (Option ℕ)) (c d : ℕ) → position (describe.is_column c) ks ≡ Some d → source (entries_kept ks) d ≡ Some c
entries-back ks c d e =
    let w = position-Some (describe.is_column c) ks d None e in
    entry-at ks d w.0 ∙ column-is c (get_or ks d None) w.1

left-back : (w c d : ℕ) → cond (nat_lt c w) (Some c) None ≡ Some d → cond (nat_lt d w) (Some d) None ≡ Some c
left-back w c d e = by (nat_lt c w) refl e
  where
    by : (b : Bool) → nat_lt c w ≡ b → cond b (Some c) None ≡ Some d → cond (nat_lt d w) (Some d) None ≡ Some c
    by true t e = let is : d ≡ c = cc in rw (is, t) refl
    by false t e = cc

right-back : (w c d : ℕ) → cond (nat_lt c 64) (Some (w + c)) None ≡ Some d → cond (nat_le w d) (Some (d - w)) None ≡ Some c
right-back w c d e = by (nat_lt c 64) e
  where
    at : nat_le w (w + c) ≡ true
    at = grind (arith, nat_tests)

    back : (w + c) - w ≡ c
    back = omega arith

    by : (b : Bool) → cond b (Some (w + c)) None ≡ Some d → cond (nat_le w d) (Some (d - w)) None ≡ Some c
    by true e = let is : d ≡ w + c = cc in rw (is, at, back) refl
    by false e = cc

pub copies-back : CopiesBack
copies-back whole_rows c d e = cc
copies-back (columns_kept cols) c d e = kept-back cols c d e
copies-back (entries_kept ks) c d e = entries-back ks c d e
copies-back (left_of w) c d e = left-back w c d e
copies-back (right_of w) c d e = right-back w c d e
copies-back no_columns c d e = cc

-- all columns come back
pub places-back : (k : Copying) (cs ds : List ℕ) → places k cs ≡ Some ds → sources k ds ≡ Some cs
places-back k [] ds e = let is : ds ≡ [] = cc in rw is refl
places-back k (c ∷ cs) ds e = by (place k c) (places k cs) refl (λ es f. places-back k cs es f) e
  where
    by : (o : Option ℕ) (os : Option (List ℕ)) → place k c ≡ o → ((es : List ℕ) → os ≡ Some es → sources k es ≡ Some cs) → cons_both o os ≡ Some ds → sources k ds ≡ Some (c ∷ cs)
    by None os f more e = cc
    by (Some d) None f more e = cc
    by (Some d) (Some es) f more e = let is : ds ≡ d ∷ es = cc in rw (is, copies-back k c d f, more es refl) refl

-- ---- orders

falls-same : (b : Bool) → cond b b (not b) ≡ true
falls-same true = refl
falls-same false = refl

-- an entry is its own
entry-same : (e : OrderEntry) → entry_eq e e ≡ true
entry-same e = and-both (e.column == e.column) (cond e.falling e.falling (not e.falling)) (same e.column) (falls-same e.falling)

front-back : (k : Copying) (order : List OrderEntry) → (given : List OrderEntry) × (order_sources k (front_order k order) ≡ Some given) × (is_front given order ≡ true)
front-back k [] = ([], refl, refl)
front-back k (e ∷ order) = by (place k e.column) refl (front-back k order)
  where
    by : (o : Option ℕ) → place k e.column ≡ o → ((given : List OrderEntry) × (order_sources k (front_order k order) ≡ Some given) × (is_front given order ≡ true))
        → (given : List OrderEntry) × (order_sources k (entry_then o e (front_order k order)) ≡ Some given) × (is_front given (e ∷ order) ≡ true)
    by None at more = ([], refl, refl)
    by (Some d) at more = (
      entry_at e.column e ∷ more.0,
      ap (λ o. entry_both o (entry_at d e) (order_sources k (front_order k order))) (copies-back k e.column d at) ∙ ap (entry_both (Some e.column) (entry_at d e)) more.1,
      and-both (entry_eq e e) (is_front more.0 order) (entry-same e) more.2,
    )

pub orders-carried : OrdersCarried
orders-carried s = let w = front-back s.copying s.order in ap (λ o. if_order o (λ given. is_front given s.order)) w.1 ∙ w.2

first-order : (s : Sorted) (ss : List Sorted) → list_any (λ t. sorts t (first_order (s ∷ ss))) (s ∷ ss) ≡ true
first-order s ss = or-left (sorts s (first_order (s ∷ ss))) (list_any (λ t. sorts t (first_order (s ∷ ss))) ss) (orders-carried s)

moved-order : (b : Bool) (s t : Sorted) → list_any (λ u. sorts u (first_order (if_so b (s ∷ []) ++ t ∷ []))) (if_so b (s ∷ []) ++ t ∷ []) ≡ true
moved-order true s t = first-order s (t ∷ [])
moved-order false s t = first-order t []

order-carried : (catalog : ℕ → Relation) (p : Plan) → shown_order (behaviour catalog p) (node_order catalog p) ≡ true
order-carried catalog (scan n c r m z) = first-order (sorted_by whole_rows (catalog r).order) []
order-carried catalog (unary n c op p) = first-order (sorted_by (described op).copying (order_after (described op).order (claim p).order)) []
order-carried catalog (binary n c op p q) = first-order (sorted_by whole_rows (order_over (described_both (width catalog p) op).meeting (claim p).order)) []
order-carried catalog (exchange n c k merge p) = moved-order (is_one (size p) || goes_on k (claim p)) (sorted_by whole_rows (claim p).order) (sorted_by whole_rows merge)

-- ---- keys

-- among the places of columns stands a copy of each
copy-of : (k : Copying) (key x : List ℕ) → places k key ≡ Some x → (c : ℕ) → contains key c ≡ true → has_copy k x c ≡ true
copy-of k [] x e c h = cc
copy-of k (d ∷ key) x e c h = by (place k d) (places k key) refl (λ es f. copy-of k key es f c) e
  where
    here : (a : ℕ) (es : List ℕ) → source k a ≡ Some d → (contains key c ≡ true → has_copy k es c ≡ true) → (b : Bool) → (c == d) ≡ b → (b || contains key c) ≡ true → has_copy k (a ∷ es) c ≡ true
    here a es s more true f l = or-left (is_column (source k a) c) (has_copy k es c) (ap (λ o. is_column o c) s ∙ f)
    here a es s more false f l = or-right (is_column (source k a) c) (has_copy k es c) (more l)

    by : (o : Option ℕ) (os : Option (List ℕ)) → place k d ≡ o → ((es : List ℕ) → os ≡ Some es → contains key c ≡ true → has_copy k es c ≡ true) → cons_both o os ≡ Some x → has_copy k x c ≡ true
    by None os f more e = cc
    by (Some a) None f more e = cc
    by (Some a) (Some es) f more e = let is : x ≡ a ∷ es = cc in rw is (here a es (copies-back k d a f) (more es refl) (c == d) refl h)

within-same : (xs : List ℕ) → within xs xs ≡ true
within-same [] = refl
within-same (x ∷ xs) =
    and-both (contains (x ∷ xs) x) (within xs (x ∷ xs)) (or-left (x == x) (contains xs x) (same x))
    (all-more (contains xs) (contains (x ∷ xs)) xs (λ y h. or-right (y == x) (contains xs y) h) (within-same xs))

covers-each : (keys : List (List ℕ)) → list_all (covers keys) keys ≡ true
covers-each [] = refl
covers-each (k ∷ keys) =
    and-both (covers (k ∷ keys) k) (list_all (covers (k ∷ keys)) keys) (or-left (within k k) (covers keys k) (within-same k))
    (all-more (covers keys) (covers (k ∷ keys)) keys (λ x h. or-right (within k x) (covers keys x) h) (covers-each keys))

-- keys that pass a test, and pass another one at their places
kept-pass : (k : Copying) (test moved : List ℕ → Bool) (keys : List (List ℕ)) → ((key x : List ℕ) → places k key ≡ Some x → test key ≡ true → moved x ≡ true)
    → list_all test keys ≡ true → list_all moved (kept_keys k keys) ≡ true
kept-pass k test moved [] pass h = refl
kept-pass k test moved (key ∷ keys) pass h =
    by (places k key) refl (and-left (test key) (list_all test keys) h) (kept-pass k test moved keys pass (and-right (test key) (list_all test keys) h))
  where
    by : (o : Option (List ℕ)) → places k key ≡ o → test key ≡ true → list_all moved (kept_keys k keys) ≡ true → list_all moved (cons_option o (kept_keys k keys)) ≡ true
    by None e h more = more
    by (Some x) e h more = and-both (moved x) (list_all moved (kept_keys k keys)) (pass key x e h) more

kept-give : (k : Copying) (keys : List (List ℕ)) → list_all (has_key k keys) (kept_keys k keys) ≡ true
kept-give k keys =
    kept-pass k (covers keys) (has_key k keys) keys
    (λ key x e h. any-more (λ j. within j key) (λ j. list_all (has_copy k x) j) keys (λ j l. all-more (contains key) (has_copy k x) j (copy-of k key x e) l) h) (covers-each keys)

-- more columns contain what fewer do
has-key-more : (k : Copying) (keys : List (List ℕ)) (x y : List ℕ) → ((c : ℕ) → has_copy k x c ≡ true → has_copy k y c ≡ true) → has_key k keys x ≡ true → has_key k keys y ≡ true
has-key-more k keys x y more h = any-more (λ j. list_all (has_copy k x) j) (λ j. list_all (has_copy k y) j) keys (λ j l. all-more (has_copy k x) (has_copy k y) j more l) h

in-front : (k : Copying) (keys : List (List ℕ)) (x y : List ℕ) → has_key k keys x ≡ true → has_key k keys (x ++ y) ≡ true
in-front k keys x y h =
    has-key-more k keys x (x ++ y) (λ c l. list_any-append (λ z. is_column (source k z) c) x y ∙ or-left (has_copy k x c) (has_copy k y c) l) h

behind-it : (k : Copying) (keys : List (List ℕ)) (x y : List ℕ) → has_key k keys y ≡ true → has_key k keys (x ++ y) ≡ true
behind-it k keys x y h =
    has-key-more k keys y (x ++ y) (λ c l. list_any-append (λ z. is_column (source k z) c) x y ∙ or-right (has_copy k x c) (has_copy k y c) l) h

pair-give : (p q r : List ℕ → Bool) (ks js : List (List ℕ)) → ((a b : List ℕ) → p a ≡ true → q b ≡ true → r (a ++ b) ≡ true) → list_all p ks ≡ true → list_all q js ≡ true
    → list_all r (first_pair ks js) ≡ true
pair-give p q r [] js both h l = refl
pair-give p q r (k ∷ ks) [] both h l = refl
pair-give p q r (k ∷ ks) (j ∷ js) both h l = and-both (r (k ++ j)) true (both k j (and-left (p k) (list_all p ks) h) (and-left (q j) (list_all q js) l)) refl

abbrev each-key : List (Copying × List (List ℕ)) → List ℕ → Bool
each-key from x = list_all (λ f. has_key f.0 f.1 x) from

together-give : (from : List (Copying × List (List ℕ))) → list_all (each-key from) (together (map (λ f. kept_keys f.0 f.1) from)) ≡ true
together-give [] = refl
together-give (f ∷ []) = all-more (has_key f.0 f.1) (each-key (f ∷ [])) (kept_keys f.0 f.1) (λ x h. and-both (has_key f.0 f.1 x) true h refl) (kept-give f.0 f.1)
together-give (f ∷ g ∷ from) =
    pair-give (has_key f.0 f.1) (each-key (g ∷ from)) (each-key (f ∷ g ∷ from)) (kept_keys f.0 f.1) (together (map (λ h. kept_keys h.0 h.1) (g ∷ from)))
    (λ a b h l. and-both (has_key f.0 f.1 (a ++ b)) (each-key (g ∷ from) (a ++ b)) (in-front f.0 f.1 a b h)
    (all-more (λ (e : Copying × List (List ℕ)). has_key e.0 e.1 b) (λ (e : Copying × List (List ℕ)). has_key e.0 e.1 (a ++ b)) (g ∷ from) (λ e i. behind-it e.0 e.1 a b i) l))
    (kept-give f.0 f.1) (together-give (g ∷ from))

pub keys-carried : KeysCarried
keys-carried k = together-give k.from

-- of all that are there
all-carried : (ks more : List Keyed) → ((x : List ℕ) → list_any (λ k. keys_give k x) ks ≡ true → list_any (λ k. keys_give k x) more ≡ true)
    → list_all (λ x. list_any (λ k. keys_give k x) more) (flat_map keys_up ks) ≡ true
all-carried [] more sub = refl
all-carried (k ∷ ks) more sub =
    list_all-append (λ x. list_any (λ j. keys_give j x) more) (keys_up k) (flat_map keys_up ks)
    ∙ and-both _ _
    (all-more (keys_give k) (λ x. list_any (λ j. keys_give j x) more) (keys_up k) (λ x h. sub x (or-left (keys_give k x) (list_any (λ j. keys_give j x) ks) h)) (keys-carried k))
    (all-carried ks more (λ x h. sub x (or-right (keys_give k x) (list_any (λ j. keys_give j x) ks) h)))

node-keys-carried : (catalog : ℕ → Relation) (p : Plan) → list_all (shown_key (behaviour catalog p)) (node_keys catalog p) ≡ true
node-keys-carried catalog p = all-carried (behaviour catalog p).keyed (behaviour catalog p).keyed (λ x h. h)

-- and in the table's words
by-exact : (catalog : ℕ → Relation) (p : Plan) → ((x : List ℕ) → keys_of catalog p x ≡ shown_key (behaviour catalog p) x) → list_all (keys_of catalog p) (node_keys catalog p) ≡ true
by-exact catalog p exact = list_all-ext (keys_of catalog p) (shown_key (behaviour catalog p)) (node_keys catalog p) exact ∙ node-keys-carried catalog p

pub places-whole : (cs : List ℕ) → places whole_rows cs ≡ Some cs
places-whole [] = refl
places-whole (c ∷ cs) = ap (cons_both (Some c)) (places-whole cs)

pub kept-whole : (keys : List (List ℕ)) → kept_keys whole_rows keys ≡ keys
kept-whole [] = refl
kept-whole (key ∷ keys) = ap (λ o. cons_option o (kept_keys whole_rows keys)) (places-whole key) ∙ ap (λ ks. key ∷ ks) (kept-whole keys)

distinct-first : (n : ℕ) → list_all (λ x. within (numbers_below n) x && within x (numbers_below n)) (kept_keys whole_rows (first_columns n ∷ []) ++ []) ≡ true
distinct-first n =
    ap (λ ks. list_all (λ x. within (numbers_below n) x && within x (numbers_below n)) (ks ++ [])) (kept-whole (first_columns n ∷ []))
    ∙ and-both _ true
    (and-both _ _ (all-first (contains (first_columns n)) n ∙ within-same (first_columns n)) (sym (all-first (contains (numbers_below n)) n) ∙ within-same (numbers_below n))) refl

unary-keys-carried : (op : Unary) (catalog : ℕ → Relation) (n : ℕ) (c : Claim) (p : Plan) → list_all (keys_of catalog (unary n c op p)) (node_keys catalog (unary n c op p)) ≡ true
unary-keys-carried (select fs) catalog n c p = by-exact catalog (unary n c (select fs) p) (key-whole (claim p).keys)
unary-keys-carried (sort false cols) catalog n c p = by-exact catalog (unary n c (sort false cols) p) (key-whole (claim p).keys)
unary-keys-carried (sort true cols) catalog n c p = refl
unary-keys-carried (project es) catalog n c p = by-exact catalog (unary n c (project es) p) (key-entries (map kept_column es) (claim p).keys)
unary-keys-carried (distinct cols) catalog n c p = distinct-first (length cols)
unary-keys-carried (group plain by aggregates) catalog n c p = by-exact catalog (unary n c (group plain by aggregates) p) (key-first (length by))
unary-keys-carried (group partial by aggregates) catalog n c p = refl
unary-keys-carried (group final by aggregates) catalog n c p = by-exact catalog (unary n c (group final by aggregates) p) (key-first (length by))
unary-keys-carried (limit m) catalog n c p = by-exact catalog (unary n c (limit m) p) (limit-key (nat_le m 1) (claim p).keys)

table-keys : (catalog : ℕ → Relation) (p : Plan) → list_all (keys_of catalog p) (node_keys catalog p) ≡ true
table-keys catalog (scan n c r m z) = by-exact catalog (scan n c r m z) (key-whole (catalog r).keys)
table-keys catalog (unary n c op p) = unary-keys-carried op catalog n c p
table-keys catalog (binary n c union p q) = refl
table-keys catalog (binary n c (join m on) p q) = by-exact catalog (binary n c (join m on) p q) (join-keys on (width catalog p) (claim p).keys (claim q).keys)
table-keys catalog (binary n c (semi_join matched on conditions) p q) = by-exact catalog (binary n c (semi_join matched on conditions) p q) (key-whole (claim p).keys)
table-keys catalog (exchange n c k m p) = by-exact catalog (exchange n c k m p) (key-whole (claim p).keys)

-- ---- parts

numbers-same : (xs : List ℕ) → numbers_eq xs xs ≡ true
numbers-same [] = refl
numbers-same (x ∷ xs) = and-both (x == x) (numbers_eq xs xs) (same x) (numbers-same xs)

route-same : (r : Route) → route_eq r r ≡ true
route-same (by_hash a) = numbers-same a
route-same (by_range j) = same j

gives-same : (q : Part) → part_gives q q ≡ true
gives-same one = refl
gives-same any = refl
gives-same all = refl
gives-same (routed r cols) = and-both (route_eq r r) (numbers_eq cols cols) (route-same r) (numbers-same cols)

-- a part that each of a way's inputs has, and any with it
carried-part : (k : Copying) (from : List (Bool × Part)) (p q : Part) → each_has from p ≡ true → (part_gives p any ≡ true → each_has from any ≡ true) → part_up k p ≡ Some q
    → gives (way k from) q ≡ true
carried-part k from one q has any-too e = cc
carried-part k from any q has any-too e = let is : q ≡ any = cc in rw is has
carried-part k from all q has any-too e = let is : q ≡ all = cc in rw is has
carried-part k from (routed r cols) q has any-too e = let is : q ≡ routed_at r (places k cols) = cc in rw is (by (places k cols) refl)
  where
    by : (o : Option (List ℕ)) → places k cols ≡ o → gives (way k from) (routed_at r o) ≡ true
    by None f = any-too refl
    by (Some ds) f = ap (λ o. if_some o (λ cs. each_has from (routed r cs))) (places-back k cols ds f) ∙ has

pub parts-carried : PartsCarried
parts-carried k b p q e =
    carried-part k ((b, p) ∷ []) p q (and-both (b || part_gives p p) true (or-right b (part_gives p p) (gives-same p)) refl)
    (λ h. and-both (b || part_gives p any) true (or-right b (part_gives p any) h) refl) e

-- the first way of several
alone : (k : Copying) (b : Bool) (p q : Part) (ws : List Way) → part_up k p ≡ Some q → list_any (λ w. gives w q) (way k ((b, p) ∷ []) ∷ ws) ≡ true
alone k b p q ws e = or-left (gives (way k ((b, p) ∷ [])) q) (list_any (λ w. gives w q) ws) (parts-carried k b p q e)

alone-if : (t : Bool) (k : Copying) (b : Bool) (p q : Part) → first_part (if_so t (way k ((b, p) ∷ []) ∷ [])) ≡ Some q → list_any (λ w. gives w q) (if_so t (way k ((b, p) ∷ []) ∷ [])) ≡ true
alone-if true k b p q e = alone k b p q [] e
alone-if false k b p q e = cc

alone-of : (a b c : Bool) (ku kl kr : Copying) (p q x : Part) (s t : Bool) (v : Way)
    → first_part (if_so a (way ku (bare p ∷ []) ∷ v ∷ []) ++ (if_so b (way kl ((s, p) ∷ []) ∷ []) ++ if_so c (way kr ((t, q) ∷ []) ∷ []))) ≡ Some x
    → list_any (λ w. gives w x) (if_so a (way ku (bare p ∷ []) ∷ v ∷ []) ++ (if_so b (way kl ((s, p) ∷ []) ∷ []) ++ if_so c (way kr ((t, q) ∷ []) ∷ []))) ≡ true
alone-of true b c ku kl kr p q x s t v e = alone ku false p x (v ∷ (if_so b (way kl ((s, p) ∷ []) ∷ []) ++ if_so c (way kr ((t, q) ∷ []) ∷ []))) e
alone-of false true c ku kl kr p q x s t v e = alone kl s p x (if_so c (way kr ((t, q) ∷ []) ∷ [])) e
alone-of false false true ku kl kr p q x s t v e = alone kr t q x [] e
alone-of false false false ku kl kr p q x s t v e = cc

alone-kept : (a b : Bool) (p x : Part) (s : Bool) → first_part (if_so a (way whole_rows (bare p ∷ []) ∷ []) ++ if_so b (way whole_rows ((s, p) ∷ []) ∷ [])) ≡ Some x
    → list_any (λ w. gives w x) (if_so a (way whole_rows (bare p ∷ []) ∷ []) ++ if_so b (way whole_rows ((s, p) ∷ []) ∷ [])) ≡ true
alone-kept true b p x s e = alone whole_rows false p x (if_so b (way whole_rows ((s, p) ∷ []) ∷ [])) e
alone-kept false true p x s e = alone whole_rows s p x [] e
alone-kept false false p x s e = cc

-- a part of both inputs that stand side by side
record Common (p q x : Part) : Type 0 where
  left : part_gives p x ≡ true
  right : part_gives q x ≡ true
  any-too : part_gives x any ≡ true → (part_gives p any ≡ true) × (part_gives q any ≡ true)

or-none : (b : Bool) → (b || false) ≡ true → b ≡ true
or-none true h = refl
or-none false h = h

common : (p q : Part) → ((part_gives p any && part_gives q any) || (part_gives p all && part_gives q all)) ≡ true → Common p q (cond (part_gives q p && true) p any)
common one q h = cc
common any q h =
    let r : part_gives q any ≡ true = or-none (part_gives q any) h in
    rw r (record { left = refl; right = r; any-too = λ e. (refl, r) })
common all q h = rw h (record { left = refl; right = h; any-too = λ e. cc })
common (routed r cols) q h = by (part_gives q (routed r cols)) refl
  where
    right : part_gives q any ≡ true
    right = or-none (part_gives q any) h

    by : (t : Bool) → part_gives q (routed r cols) ≡ t → Common (routed r cols) q (cond (t && true) (routed r cols) any)
    by true e = record { left = gives-same (routed r cols); right = e; any-too = λ f. (refl, right) }
    by false e = record { left = refl; right = right; any-too = λ f. (refl, right) }

-- inputs of one size name
both-several : (a b : Size) → size_eq a b ≡ true → is_one a ≡ false → is_one b ≡ false
both-several one_worker b h k = cc
both-several (group_of i) one_worker h k = cc
both-several (group_of i) (group_of j) h k = refl

side-by-side : (p q : Plan) (x : Part) (t : Bool) → is_one (size p) ≡ false → is_one (size q) ≡ false → ((has p any && has q any) || (has p all && has q all)) ≡ true
    → first_part (if_so t (way whole_rows (own p ∷ own q ∷ []) ∷ [])) ≡ Some x → list_any (λ w. gives w x) (if_so t (way whole_rows (own p ∷ own q ∷ []) ∷ [])) ≡ true
side-by-side p q x false h k fit e = cc
side-by-side p q x true h k fit e =
    let is = common (claim p).part (claim q).part (rw (h, k) at fit) in
    or-left (gives (way whole_rows (own p ∷ own q ∷ [])) x) false
    (carried-part whole_rows (own p ∷ own q ∷ []) (cond (part_gives (claim q).part (claim p).part && true) (claim p).part any) x (both _ is.left is.right) (λ f. let l = is.any-too f in both any l.0 l.1) e)
  where
    both : (y : Part) → part_gives (claim p).part y ≡ true → part_gives (claim q).part y ≡ true → each_has (own p ∷ own q ∷ []) y ≡ true
    both y l r = and-both (has p y) (has q y && true) (or-right (is_one (size p)) (part_gives (claim p).part y) l) (and-both (has q y) true (or-right (is_one (size q)) (part_gives (claim q).part y) r) refl)

or-drop : (b c : Bool) → b ≡ false → (b || c) ≡ true → c ≡ true
or-drop true c h k = cc
or-drop false c h k = k

several : (catalog : ℕ → Relation) (p : Plan) (q : Part) → is_one (size p) ≡ false → sizes_match p ≡ true → inputs_match p ≡ true → first_part (behaviour catalog p).ways ≡ Some q
    → shown_part (behaviour catalog p) q ≡ true
several catalog (scan n c r shared z) q s h k e = alone whole_rows false (cond shared any all) q [] e
several catalog (unary n c op p) q s h k e = alone-if (meet (described op).meets (own p)) (described op).copying (is_one (size p)) (claim p).part q e
several catalog (binary n c union p q) x s h k e =
    side-by-side p q x (is_one (size p) || ((has p any && has q any) || (has p all && has q all))) s (both-several (size p) (size q) h s) (or-drop (is_one (size p)) _ s k) e
several catalog (binary n c (join m on) p q) x s h k e =
    alone-of (routed_alike on (claim p).part (claim q).part) (has q all) (has p all) whole_rows (left_of (width catalog p)) (right_of (width catalog p)) (claim p).part (claim q).part x
    (is_one (size p)) (is_one (size q)) (way (right_of (width catalog p)) (bare (claim q).part ∷ [])) e
several catalog (binary n c (semi_join matched on conditions) p q) x s h k e =
    alone-kept (routed_alike on (claim p).part (claim q).part) (has q all) (claim p).part x (is_one (size p)) e
several catalog (exchange n c kind m p) q s h k e = alone whole_rows false (kind_part kind) q [] e

table-part : (catalog : ℕ → Relation) (p : Plan) (q : Part) → sizes_match p ≡ true → inputs_match p ≡ true → node_part catalog p ≡ Some q → (is_one (size p) || unless_one (shows catalog p) q) ≡ true
table-part catalog p q h k e = parts-exactly catalog p q k ∙ by (is_one (size p)) refl e
  where
    by : (b : Bool) → is_one (size p) ≡ b → cond b (Some one) (first_part (behaviour catalog p).ways) ≡ Some q → (b || shown_part (behaviour catalog p) q) ≡ true
    by true s e = refl
    by false s e = several catalog p q s h k e

-- ---- claims

tests-pass : (s r i o f t u k : Bool) → s ≡ true → r ≡ true → i ≡ true → o ≡ true → f ≡ true → t ≡ true → u ≡ true → k ≡ true
    → first_failure ((s, size_mismatch) ∷ (r, replicated_input) ∷ (i, inputs_not_matched) ∷ (o, order_needed) ∷ (f, first_rows_open) ∷ (t, part_not_shown) ∷ (u, order_not_shown) ∷ (k, key_not_shown) ∷ []) ≡ None
tests-pass s r i o f t u k hs hr hi ho hf ht hu hk = rw (hs, hr, hi, ho, hf, ht, hu, hk) refl

-- the tests of the operator do not depend on the claim
claim-passes : (catalog : ℕ → Relation) (p : Plan) (c : Claim) → sizes_match p ≡ true → not_replicated p ≡ true → inputs_match p ≡ true → order_given p ≡ true
    → first_rows_known catalog p ≡ true
    → (is_one (size p) || unless_one (shows catalog p) c.part) ≡ true → orders catalog p c.order ≡ true → list_all (keys_of catalog p) c.keys ≡ true
    → first_failure (node_tests catalog (with_claim c p)) ≡ None
claim-passes catalog (scan n d r true z) c s o i g f h k l = tests-pass _ _ _ _ _ _ _ _ s o i g f h k l
claim-passes catalog (scan n d r false z) c s o i g f h k l = tests-pass _ _ _ _ _ _ _ _ s o i g f h k l
claim-passes catalog (unary n d (select fs) p) c s o i g f h k l = tests-pass _ _ _ _ _ _ _ _ s o i g f h k l
claim-passes catalog (unary n d (project es) p) c s o i g f h k l = tests-pass _ _ _ _ _ _ _ _ s o i g f h k l
claim-passes catalog (unary n d (distinct cols) p) c s o i g f h k l = tests-pass _ _ _ _ _ _ _ _ s o i g f h k l
claim-passes catalog (unary n d (sort of_parts cols) p) c s o i g f h k l = tests-pass _ _ _ _ _ _ _ _ s o i g f h k l
claim-passes catalog (unary n d (group phase by aggregates) p) c s o i g f h k l = tests-pass _ _ _ _ _ _ _ _ s o i g f h k l
claim-passes catalog (unary n d (limit m) p) c s o i g f h k l = tests-pass _ _ _ _ _ _ _ _ s o i g f h k l
claim-passes catalog (binary n d union p q) c s o i g f h k l = tests-pass _ _ _ _ _ _ _ _ s o i g f h k l
claim-passes catalog (binary n d (join (by_merging falls) on) p q) c s o i g f h k l = tests-pass _ _ _ _ _ _ _ _ s o i g f h k l
claim-passes catalog (binary n d (join by_hashing on) p q) c s o i g f h k l = tests-pass _ _ _ _ _ _ _ _ s o i g f h k l
claim-passes catalog (binary n d (semi_join matched on conditions) p q) c s o i g f h k l = tests-pass _ _ _ _ _ _ _ _ s o i g f h k l
claim-passes catalog (exchange n d kind m p) c s o i g f h k l = tests-pass _ _ _ _ _ _ _ _ s o i g f h k l

pub carried-is-shown : CarriedIsShown
carried-is-shown catalog p q s o i g f e =
    claim-passes catalog p (carried catalog p q) s o i g f (table-part catalog p q s i e) (orders-exactly catalog p (node_order catalog p) ∙ order-carried catalog p) (table-keys catalog p)
