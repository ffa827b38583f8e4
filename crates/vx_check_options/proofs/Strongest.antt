-- What is placed tells the most at every node.
use Rattle.std.proofs.Common.{◌≡◌, ◌≤◌, ℕ, zero, suc, ◌+◌, ◌-◌, ◌==◌, nat_lt, nat_le, Bool, true, false, cond, not, ◌&&◌, ◌||◌, List, [], ◌∷◌, ◌++◌, map, length, take, refl, sym, ap, ◌∙◌, arith, Option, Some, None, slice_get, is_some}
use Rattle.std.specs.List.{list_any, list_all, flat_map, filter}
use Rattle.std.proofs.lemmas.Bool.Decides.{nat_tests}
use Rattle.vx_rows_values.specs.Order.{entry_eq, order_columns}
use Rattle.vx_rows_values.specs.declared.order.OrderEntry.{OrderEntry}
use Rattle.vx_rows_values.specs.Lists.{is_some_list}
use Rattle.vx_rows_values.proofs.Booleans.{and-left, and-right, and-both}
use Rattle.vx_catalog_relations.specs.Relation.{Relation}
use Rattle.vx_catalog_relations.specs.Catalog.{relation_at}
use Rattle.vx_plan_nodes.specs.Plan.{Route, by_hash, by_range, Part, one, any, all, routed, Claim, Unary, select, project, distinct, sort, group, limit, plain, partial, final, Binary, union, join, semi_join, ExchangeKind, route_to, round, broadcast, gather, concat, Plan, scan, unary, binary, exchange, claim, size, is_one, by_hashing, by_merging, left_order, right_order}
use Rattle.vx_plan_nodes.specs.Typed.{Scope, may_merge, is_kind, are_columns, typed}
use Rattle.vx_plan_nodes.specs.Describe.{Copying, whole_rows, columns_kept, entries_kept, kept_column, left_of, right_of, no_columns, source, OrderAfter, order_kept, sorted_on, described}
use Rattle.vx_check_rules.specs.Rules.{part_gives, is_front, cons_both, if_some, rises_by, goes_on, orders, if_order, entry_at, entry_both}
use Rattle.vx_check_rules.specs.Refusal.{or_else, refused_at}
use Rattle.vx_check_rules.specs.Behaviour.{sources, Way, way, order_after, gives, ways_from, behaviour, shown_part, shown_order, order_sources}
use Rattle.vx_check_rules.proofs.Bools.{or-false, any-more}
use Rattle.vx_check_rules.proofs.Exact.{orders-exactly}
use Rattle.vx_check_rules.proofs.Refusals.{none-both}
use Rattle.vx_check_options.specs.Options.{places_from, copies, in_front, copied_lists, routed_by, parts_up, parts_of_way, parts_among, same_part, is_routed, told_parts, parts_above, parts_at, OrderChoices, singles, place_then, places_up, narrowed, or_nowhere, places_after, places_sent, rising, places_at, fit_tests, first_unfit, has_entry, entry_copies}
use Rattle.vx_check_options.specs.Placed.{order_along, order_below, order_sent, is_chosen, part_sent, keyless, placed}
use Rattle.vx_check_options.specs.Laws.{is_option, IsStrongest, AtEach}
use Rattle.vx_check_options.proofs.EntryCopies.{entry-some as entries-some}
use Rattle.vx_check_options.proofs.Entries.{entry-same, has-first}
use Rattle.vx_check_options.proofs.PlacedOrders.{same-number, are_full, some-is, narrowed-length, chosen-length, along-chosen, chosen-along, kept-chosen, singles-chosen}
use Rattle.vx_check_options.proofs.PlacedParts.{any-where, not-so, any-take, take-some, filter-some, routed-is, part-is, any-at, told-any, common_of, ways-each, lefts_at, rights_at, parts-at-is, passes_over, among-some, if-given, below-in, sent-in, option-in}
use Rattle.vx_check_options.proofs.PlacedIsFit.{size-placed, part-placed, claim-placed, order-placed, full-at, left_part, right_part, ways-placed, AllFit, all-fit, left-chosen, right-chosen, below-chosen}

-- ---- copies

or-elim : (G : Type 0) (a b : Bool) → (a ≡ true → G) → (b ≡ true → G) → (a || b) ≡ true → G
or-elim G true b f g h = f refl
or-elim G false b f g h = g h

place-some : (n : ℕ) (cols : List ℕ) (c d : ℕ) → slice_get cols d ≡ Some c → is_some_list (places_from n cols c) ≡ true
place-some n [] c d h = cc
place-some n (k ∷ ks) c zero h =
    let is : k ≡ c = cc in
    let same : (c == k) ≡ true = ap (λ x. c == x) is ∙ same-number c in
    rw same refl
place-some n (k ∷ ks) c (suc d) h = by (c == k) (place-some (suc n) ks c d h)
  where
    by : (b : Bool) → is_some_list (places_from (suc n) ks c) ≡ true → is_some_list (cond b (n ∷ places_from (suc n) ks c) (places_from (suc n) ks c)) ≡ true
    by true l = refl
    by false l = l

left-some : (w c d : ℕ) → cond (nat_lt d w) (Some d) None ≡ Some c → is_some_list (cond (nat_lt c w) (c ∷ []) []) ≡ true
left-some w c d h = by (nat_lt d w) refl h
  where
    by : (b : Bool) → nat_lt d w ≡ b → cond b (Some d) None ≡ Some c → is_some_list (cond (nat_lt c w) (c ∷ []) []) ≡ true
    by true t e = let is : c ≡ d = cc in rw (is, t) refl
    by false t e = cc

right-some : (w c d : ℕ) → nat_lt d 64 ≡ true → cond (nat_le w d) (Some (d - w)) None ≡ Some c → is_some_list (cond (nat_lt c 64) ((w + c) ∷ []) []) ≡ true
right-some w c d s h = by (nat_le w d) h
  where
    by : (b : Bool) → cond b (Some (d - w)) None ≡ Some c → is_some_list (cond (nat_lt c 64) ((w + c) ∷ []) []) ≡ true
    by true e =
        let is : c ≡ d - w = cc in
        let t : nat_lt c 64 ≡ true = grind (arith, nat_tests, s, is) in
        rw t refl
    by false e = cc

-- a column that has a copy has one among its copies; of a right input where the copy is below 64
copies-some : (k : Copying) (c d : ℕ) → nat_lt d 64 ≡ true → source k d ≡ Some c → is_some_list (copies k c) ≡ true
copies-some whole_rows c d s h = refl
copies-some (columns_kept cols) c d s h = place-some 0 cols c d h
copies-some (entries_kept ks) c d s h = entries-some ks c d h
copies-some (left_of w) c d s h = left-some w c d h
copies-some (right_of w) c d s h = right-some w c d s h
copies-some no_columns c d s h = cc

front-some : (xs : List ℕ) (lists : List (List ℕ)) → is_some_list xs ≡ true → is_some_list lists ≡ true → is_some_list (flat_map (λ d. map (λ ds. d ∷ ds) lists) xs) ≡ true
front-some [] lists h k = cc
front-some (d ∷ xs) [] h k = cc
front-some (d ∷ xs) (ds ∷ lists) h k = refl

-- columns that have copies have a list of copies
lists-some : (k : Copying) (cols cs : List ℕ) → list_all (λ c. nat_lt c 64) cols ≡ true → sources k cols ≡ Some cs → is_some_list (copied_lists k cs) ≡ true
lists-some k [] cs s e = let is : cs ≡ [] = cc in rw is refl
lists-some k (d ∷ ds) cs s e =
    by (source k d) (sources k ds) refl (λ es f. lists-some k ds es (and-right (nat_lt d 64) (list_all (λ c. nat_lt c 64) ds) s) f) e
  where
    by : (o : Option ℕ) (os : Option (List ℕ)) → source k d ≡ o → ((es : List ℕ) → os ≡ Some es → is_some_list (copied_lists k es) ≡ true) → cons_both o os ≡ Some cs
        → is_some_list (copied_lists k cs) ≡ true
    by None os f more g = cc
    by (Some c) None f more g = cc
    by (Some c) (Some es) f more g =
        let is : cs ≡ c ∷ es = cc in
        let some : is_some_list (copies k c) ≡ true = copies-some k c d (and-left (nat_lt d 64) (list_all (λ x. nat_lt x 64) ds) s) f in
        rw is (take-some 63 (in_front k c (copied_lists k es)) (front-some (copies k c) (copied_lists k es) some (more es refl)))

-- ---- a routed part is told where one is shown

routed-some : (r : Route) (lists : List (List ℕ)) → is_some_list lists ≡ true → list_any is_routed (routed_by r lists) ≡ true
routed-some r [] h = cc
routed-some r (ds ∷ lists) h = refl

up-routed : (k : Copying) (z : Part) (r : Route) (cols cs : List ℕ) → list_all (λ c. nat_lt c 64) cols ≡ true → sources k cols ≡ Some cs → part_gives z (routed r cs) ≡ true
    → list_any is_routed (parts_up k z) ≡ true
up-routed k z r cols cs s e h =
    let is : z ≡ routed r cs = routed-is z r cs h in
    rw is (routed-some r (copied_lists k cs) (lists-some k cols cs s e))

-- the way does not give the part, or one that it gives is routed
abbrev tells_route : Part → Way → Bool
tells_route q w = not (gives w q) || list_any is_routed (parts_of_way w)

not-or : (a b : Bool) → (a ≡ true → b ≡ true) → (not a || b) ≡ true
not-or true b f = f refl
not-or false b f = refl

or-not : (a b : Bool) → (not a || b) ≡ true → a ≡ true → b ≡ true
or-not true b h k = h
or-not false b h k = cc

lone-route : (r : Route) (cols : List ℕ) (k : Copying) (z : Part) → list_all (λ c. nat_lt c 64) cols ≡ true → gives (way k ((false, z) ∷ [])) (routed r cols) ≡ true
    → list_any is_routed (parts_up k z) ≡ true
lone-route r cols k z s h = by (sources k cols) refl h
  where
    by : (o : Option (List ℕ)) → sources k cols ≡ o → if_some o (λ cs. part_gives z (routed r cs) && true) ≡ true → list_any is_routed (parts_up k z) ≡ true
    by None e l = cc
    by (Some cs) e l = up-routed k z r cols cs s e (and-left (part_gives z (routed r cs)) true l)

both-route : (r : Route) (cols : List ℕ) (x y : Part) → list_all (λ c. nat_lt c 64) cols ≡ true → gives (way whole_rows ((false, x) ∷ (false, y) ∷ [])) (routed r cols) ≡ true
    → list_any is_routed (parts_up whole_rows (common_of x y)) ≡ true
both-route r cols x y s h = by (sources whole_rows cols) refl h
  where
    by : (o : Option (List ℕ)) → sources whole_rows cols ≡ o → if_some o (λ cs. part_gives x (routed r cs) && (part_gives y (routed r cs) && true)) ≡ true
        → list_any is_routed (parts_up whole_rows (common_of x y)) ≡ true
    by None e l = cc
    by (Some cs) e l =
        let gx : part_gives x (routed r cs) ≡ true = and-left (part_gives x (routed r cs)) (part_gives y (routed r cs) && true) l in
        let gy : part_gives y (routed r cs) ≡ true = and-left (part_gives y (routed r cs)) true (and-right (part_gives x (routed r cs)) (part_gives y (routed r cs) && true) l) in
        let x-is : x ≡ routed r cs = routed-is x r cs gx in
        let same : part_gives y x ≡ true = ap (part_gives y) x-is ∙ gy in
        ap (λ b. list_any is_routed (parts_up whole_rows (cond (b && true) x any))) same ∙ up-routed whole_rows x r cols cs s e gx

-- any part is an option only where no routed one is
any-alone : (catalog : ℕ → Relation) (p : Plan) (lefts rights : List Part) (z : Part) → list_any (same_part any) (told_parts catalog p z lefts rights) ≡ true
    → list_any is_routed (parts_among catalog p lefts rights) ≡ true → ⊥
any-alone catalog p lefts rights one h k = told-any (parts_among catalog p lefts rights) h k
any-alone catalog p lefts rights any h k = told-any (parts_among catalog p lefts rights) h k
any-alone catalog p lefts rights all h k = let w = if-given catalog p (same_part any) all lefts rights h in let no : same_part any all ≡ true = w.0 in cc
any-alone catalog p lefts rights (routed r cols) h k = let w = if-given catalog p (same_part any) (routed r cols) lefts rights h in let no : same_part any (routed r cols) ≡ true = w.0 in cc

no-route : (catalog : ℕ → Relation) (p : Plan) (order : List OrderEntry) (r : Route) (cols : List ℕ) → is_one (size p) ≡ false → AllFit catalog p → is_option (parts_at catalog p) any ≡ true
    → is_some_list (lefts_at catalog p) ≡ true → is_some_list (rights_at catalog p) ≡ true → list_all (λ c. nat_lt c 64) cols ≡ true
    → shown_part (behaviour catalog (placed catalog p any order)) (routed r cols) ≡ true → ⊥
no-route catalog p order r cols s fit o hl hr small h =
    let lefts = lefts_at catalog p in
    let rights = rights_at catalog p in
    let x = left_part catalog p any in
    let y = right_part catalog p any in
    let both = below-in catalog p any lefts rights in
    let given : list_any (λ w. gives w (routed r cols)) (ways_from catalog p (false, x) (false, y)) ≡ true =
    sym (ap (list_any (λ w. gives w (routed r cols))) (ways-placed catalog p any order s fit.sizes)) ∙ h in
    let told =
    ways-each catalog p (λ z. true) (tells_route (routed r cols)) x y s refl refl (λ z e. refl)
    (λ k z e. not-or (gives (way k ((false, z) ∷ [])) (routed r cols)) (list_any is_routed (parts_up k z)) (lone-route r cols k z small))
    (λ e. not-or (gives (way whole_rows ((false, x) ∷ (false, y) ∷ [])) (routed r cols)) (list_any is_routed (parts_up whole_rows (common_of x y))) (both-route r cols x y small)) in
    let over : passes_over catalog p is_routed x y ≡ true =
    any-where (tells_route (routed r cols)) (λ w. gives w (routed r cols)) (λ w. list_any is_routed (parts_of_way w)) (ways_from catalog p (false, x) (false, y)) told
    (λ w t g. or-not (gives w (routed r cols)) (list_any is_routed (parts_of_way w)) t g) given in
    let among : list_any is_routed (parts_among catalog p lefts rights) ≡ true =
    among-some catalog p is_routed lefts rights
    ∙ any-at (λ z. list_any (passes_over catalog p is_routed z) rights) x lefts (option-in x lefts hl both.0) (any-at (passes_over catalog p is_routed x) y rights (option-in y rights hr both.1) over) in
    let there = any-take (same_part any) 64 (parts_above catalog p lefts rights) (sym (ap (list_any (same_part any)) (parts-at-is catalog p)) ∙ option-in any (parts_at catalog p) fit.met o) in
    any-alone catalog p lefts rights (claim p).part
    (sym (ap (λ b. list_any (same_part any) (cond b (one ∷ []) (told_parts catalog p (claim p).part lefts rights))) s) ∙ there) among

-- one worker has all rows
lone-part : (catalog : ℕ → Relation) (p : Plan) (q : Part) → is_one (size p) ≡ true → is_option (parts_at catalog p) q ≡ true → q ≡ one
lone-part catalog p q s h =
    let is : parts_at catalog p ≡ one ∷ [] =
    parts-at-is catalog p ∙ ap (λ b. take 64 (cond b (one ∷ []) (told_parts catalog p (claim p).part (lefts_at catalog p) (rights_at catalog p)))) s in
    part-is q one (sym (or-false (same_part q one)) ∙ (sym (ap (λ ps. is_option ps q) is) ∙ h))

-- ---- no longer order is shown

front-length : (xs ys : List OrderEntry) → is_front xs ys ≡ true → length xs ≤ length ys
front-length [] ys h = omega arith
front-length (x ∷ xs) [] h = cc
front-length (x ∷ xs) (y ∷ ys) h =
    let rest : length xs ≤ length ys = front-length xs ys (and-right (entry_eq x y) (is_front xs ys) h) in
    omega arith

flat-some : (k : Copying) (s : List OrderEntry) (c : OrderEntry) → has_entry s c ≡ true → is_some_list (entry_copies k c) ≡ true → is_some_list (flat_map (entry_copies k) s) ≡ true
flat-some k [] c h l = cc
flat-some k (x ∷ s) c h l = by (entry_eq c x) refl (λ g. flat-some k s c g l) h
  where
    joined : (xs ys : List OrderEntry) → is_some_list xs ≡ true → is_some_list (xs ++ ys) ≡ true
    joined [] ys g = cc
    joined (z ∷ xs) ys g = refl

    behind : (xs ys : List OrderEntry) → is_some_list ys ≡ true → is_some_list (xs ++ ys) ≡ true
    behind [] ys g = g
    behind (z ∷ xs) ys g = refl

    by : (b : Bool) → entry_eq c x ≡ b → (has_entry s c ≡ true → is_some_list (flat_map (entry_copies k) s) ≡ true) → (b || has_entry s c) ≡ true
        → is_some_list (entry_copies k x ++ flat_map (entry_copies k) s) ≡ true
    by true e more g = joined (entry_copies k x) (flat_map (entry_copies k) s) (ap (λ y. is_some_list (entry_copies k y)) (sym (entry-same c x e)) ∙ l)
    by false e more g = behind (entry_copies k x) (flat_map (entry_copies k) s) (more g)

-- a column with copies gives an entry with copies
entry-some : (k : Copying) (c : ℕ) (e : OrderEntry) → is_some_list (copies k c) ≡ true → is_some_list (entry_copies k (entry_at c e)) ≡ true
entry-some k c e h = some (copies k c) h
  where
    some : (cs : List ℕ) → is_some_list cs ≡ true → is_some_list (map (λ d. entry_at d (entry_at c e)) cs) ≡ true
    some [] g = cc
    some (d ∷ ds) g = refl

then-length : (cols : List OrderEntry) (places : OrderChoices) → is_some_list cols ≡ true → length (place_then cols places) ≡ suc (length places)
then-length [] places h = cc
then-length (c ∷ cols) places h = refl

-- an order is no longer than there are places with copies
along-longest : (k : Copying) (o : List OrderEntry) (places : OrderChoices) (below : List OrderEntry) → ((c d : ℕ) → source k d ≡ Some c → is_some_list (copies k c) ≡ true) → is_chosen below places ≡ true
    → if_order (order_sources k o) (λ from. is_front from below) ≡ true → length o ≤ length (places_up k places)
along-longest k [] places below some h l = omega arith
along-longest k (d ∷ ds) places below some h l = by (source k d.column) (order_sources k ds) refl refl places below h l (λ ps bs g m. along-longest k ds ps bs some g m)
  where
    by : (o : Option ℕ) (os : Option (List OrderEntry)) → source k d.column ≡ o → order_sources k ds ≡ os → (ps : OrderChoices) (bs : List OrderEntry) → is_chosen bs ps ≡ true
        → if_order (entry_both o d os) (λ from. is_front from bs) ≡ true
        → ((ps : OrderChoices) (bs : List OrderEntry) → is_chosen bs ps ≡ true → if_order (order_sources k ds) (λ from. is_front from bs) ≡ true → length ds ≤ length (places_up k ps))
        → suc (length ds) ≤ length (places_up k ps)
    by None os e f ps bs g m more = cc
    by (Some c) None e f ps bs g m more = cc
    by (Some c) (Some cs) e f ps [] g m more = cc
    by (Some c) (Some cs) e f [] (b ∷ bs) g m more = cc
    by (Some c) (Some cs) e f (s ∷ ps) (b ∷ bs) g m more =
        let is : entry_at c d ≡ b = entry-same (entry_at c d) b (and-left (entry_eq (entry_at c d) b) (is_front cs bs) m) in
        let there : has_entry s (entry_at c d) ≡ true = ap (has_entry s) is ∙ and-left (has_entry s b) (is_chosen bs ps) g in
        let longer : length (place_then (flat_map (entry_copies k) s) (places_up k ps)) ≡ suc (length (places_up k ps)) =
        then-length (flat_map (entry_copies k) s) (places_up k ps) (flat-some k s (entry_at c d) there (entry-some k c d (some c d.column e))) in
        let rest : length ds ≤ length (places_up k ps) =
        more ps bs (and-right (has_entry s b) (is_chosen bs ps) g) (ap (λ o. if_order o (λ xs. is_front xs bs)) f ∙ and-right (entry_eq (entry_at c d) b) (is_front cs bs) m) in
        omega (arith, longer, rest)

-- an operator over one input has a copy among its copies
unary-copies : (op : Unary) (c d : ℕ) → source (described op).copying d ≡ Some c → is_some_list (copies (described op).copying c) ≡ true
unary-copies (select fs) c d h = refl
unary-copies (sort of_parts cols) c d h = refl
unary-copies (project es) c d h = entries-some (map kept_column es) c d h
unary-copies (distinct cols) c d h = place-some 0 cols c d h
unary-copies (group plain by aggregates) c d h = place-some 0 by c d h
unary-copies (group partial by aggregates) c d h = place-some 0 by c d h
unary-copies (group final by aggregates) c d h = place-some 0 by c d h
unary-copies (limit m) c d h = refl

singles-self : (order : List OrderEntry) → is_chosen order (singles order) ≡ true
singles-self [] = refl
singles-self (e ∷ order) = and-both (has_entry (e ∷ []) e) (is_chosen order (singles order)) (has-first e []) (singles-self order)

below-longest : (a : OrderAfter) (k : Copying) (o order : List OrderEntry) (places : OrderChoices) → ((c d : ℕ) → source k d ≡ Some c → is_some_list (copies k c) ≡ true) → are_full places ≡ true
    → if_order (order_sources k o) (λ from. is_front from (order_after a (order_below a k order places))) ≡ true → length o ≤ length (places_up k (places_after a places))
below-longest order_kept k o order places some f h = along-longest k o places (order_along k order places) some (along-chosen k order places f) h
below-longest (sorted_on own) k o order places some f h = along-longest k o (singles own) own some (singles-self own) h

unary-longest : (catalog : ℕ → Relation) (n : ℕ) (c : Claim) (op : Unary) (p : Plan) (q : Part) (order o : List OrderEntry) → AllFit catalog (unary n c op p)
    → is_chosen order (places_at catalog (unary n c op p)) ≡ true → shown_order (behaviour catalog (placed catalog (unary n c op p) q order)) o ≡ true → length o ≤ length order
unary-longest catalog n c op p q order o fit h l =
    let k = (described op).copying in
    let shown : if_order (order_sources k o) (λ from. is_front from (order_after (described op).order (order_below (described op).order k order (places_at catalog p)))) ≡ true =
    sym (ap (λ below. if_order (order_sources k o) (λ from. is_front from (order_after (described op).order below))) (order-placed catalog p _ _)) ∙ (sym (or-false _) ∙ l) in
    let longest : length o ≤ length (places_up k (places_after (described op).order (places_at catalog p))) =
    below-longest (described op).order k o order (places_at catalog p) (unary-copies op) (full-at catalog p) shown in
    let same : length order ≡ length (places_up k (places_after (described op).order (places_at catalog p))) =
    chosen-length order _ (kept-chosen c.order _ order fit.keep h).0 in
    omega (arith, longest, same)

-- an order that is shown by an input in full places
input-longest : (catalog : ℕ → Relation) (p : Plan) (x : Part) (below o : List OrderEntry) → is_chosen below (places_at catalog p) ≡ true
    → is_front o (claim (placed catalog p x below)).order ≡ true → length o ≤ length (places_at catalog p)
input-longest catalog p x below o h l =
    let shorter : length o ≤ length below = front-length o below (sym (ap (is_front o) (order-placed catalog p x below)) ∙ l) in
    let same : length below ≡ length (places_at catalog p) = chosen-length below (places_at catalog p) h in
    omega (arith, shorter, same)

nowhere-length : (cs : List OrderEntry) (places : OrderChoices) → is_some (narrowed cs places) ≡ true → length (or_nowhere (narrowed cs places)) ≡ length places
nowhere-length cs places h = let w = some-is (narrowed cs places) h in ap (λ o. length (or_nowhere o)) w.1 ∙ narrowed-length cs places w.0 w.1

both-longest : (catalog : ℕ → Relation) (n : ℕ) (c : Claim) (op : Binary) (p q : Plan) (x : Part) (order o : List OrderEntry) → AllFit catalog (binary n c op p q)
    → is_chosen order (places_at catalog (binary n c op p q)) ≡ true → orders catalog (placed catalog (binary n c op p q) x order) o ≡ true → length o ≤ length order
both-longest catalog n c union p q x order o fit h l =
    let none : length o ≤ length {A = OrderEntry} [] = front-length o [] l in
    omega (arith, none)
both-longest catalog n c (join (by_merging falls) on) p q x order o fit h l =
    let longest : length o ≤ length (places_at catalog p) =
    input-longest catalog p _ (order_along whole_rows order (places_at catalog p)) o (along-chosen whole_rows order (places_at catalog p) (full-at catalog p)) l in
    let left : is_some (narrowed (left_order falls on) (places_at catalog p)) ≡ true =
    and-left (is_some (narrowed (left_order falls on) (places_at catalog p))) (is_some (narrowed (right_order falls on) (places_at catalog q))) fit.ordered in
    let narrow : length (or_nowhere (narrowed (left_order falls on) (places_at catalog p))) ≡ length (places_at catalog p) = nowhere-length (left_order falls on) (places_at catalog p) left in
    let same : length order ≡ length (or_nowhere (narrowed (left_order falls on) (places_at catalog p))) = chosen-length order _ (kept-chosen c.order _ order fit.keep h).0 in
    omega (arith, longest, narrow, same)
both-longest catalog n c (join by_hashing on) p q x order o fit h l =
    let longest : length o ≤ length (places_at catalog p) =
    input-longest catalog p _ (order_along whole_rows order (places_at catalog p)) o (along-chosen whole_rows order (places_at catalog p) (full-at catalog p)) l in
    let same : length order ≡ length (places_at catalog p) = chosen-length order _ (kept-chosen c.order _ order fit.keep h).0 in
    omega (arith, longest, same)
both-longest catalog n c (semi_join matched on conditions) p q x order o fit h l =
    let longest : length o ≤ length (places_at catalog p) =
    input-longest catalog p _ (order_along whole_rows order (places_at catalog p)) o (along-chosen whole_rows order (places_at catalog p) (full-at catalog p)) l in
    let same : length order ≡ length (places_at catalog p) = chosen-length order _ (kept-chosen c.order _ order fit.keep h).0 in
    omega (arith, longest, same)

-- a concat over rows that do not rise with it shows no order
rises-less : (x : Part) (d : OrderEntry) (ds : List OrderEntry) → rises_by x (d ∷ ds) ≡ true → rises_by x (d ∷ []) ≡ true
rises-less one d ds h = cc
rises-less any d ds h = cc
rises-less all d ds h = cc
rises-less (routed (by_hash a) cols) d ds h = cc
rises-less (routed (by_range k) []) d ds h = cc
rises-less (routed (by_range k) (c ∷ [])) d ds h = h
rises-less (routed (by_range k) (c ∷ e ∷ cols)) d ds h = cc

rises-none : (x : Part) → rises_by x [] ≡ true → ⊥
rises-none one h = cc
rises-none any h = cc
rises-none all h = cc
rises-none (routed (by_hash a) cols) h = cc
rises-none (routed (by_range k) []) h = cc
rises-none (routed (by_range k) (c ∷ [])) h = cc
rises-none (routed (by_range k) (c ∷ e ∷ cols)) h = cc

rising-length : (parts : List Part) (places : OrderChoices) (below : List OrderEntry) (x : Part) → list_any (same_part x) parts ≡ true → is_chosen below places ≡ true → rises_by x below ≡ true
    → length (rising parts places) ≡ length places
rising-length parts places [] x there h r = absurd (rises-none x r)
rising-length parts [] (d ∷ ds) x there h r = cc
rising-length parts (s ∷ places) (d ∷ ds) x there h r =
    let rises : list_any (λ z. rises_by z (d ∷ [])) parts ≡ true = any-at (λ z. rises_by z (d ∷ [])) x parts there (rises-less x d ds r) in
    let in-front : list_any (λ c. list_any (λ z. rises_by z (c ∷ [])) parts) s ≡ true =
    any-more (entry_eq d) (λ c. list_any (λ z. rises_by z (c ∷ [])) parts) s (λ c e. ap (λ a. list_any (λ z. rises_by z (a ∷ [])) parts) (sym (entry-same d c e)) ∙ rises)
    (and-left (has_entry s d) (is_chosen ds places) h) in
    then-length (filter (λ c. list_any (λ z. rises_by z (c ∷ [])) parts) s) places (filter-some (λ c. list_any (λ z. rises_by z (c ∷ [])) parts) s in-front)

-- an exchange shows no longer order
merged-longest : (merge claimed order o : List OrderEntry) (c : Claim) → is_some (narrowed claimed (singles merge)) ≡ true → is_chosen order (or_nowhere (narrowed claimed (singles merge))) ≡ true
    → (is_front o merge || ((false || false) && is_front o c.order)) ≡ true → length o ≤ length order
merged-longest merge claimed order o c keep h l =
    let shorter : length o ≤ length merge = front-length o merge (sym (or-false (is_front o merge)) ∙ l) in
    let same : length order ≡ length merge = ap length (singles-chosen order merge (kept-chosen claimed (singles merge) order keep h).0) in
    omega (arith, shorter, same)

sent-longest : (k : ExchangeKind) (merge claimed : List OrderEntry) (parts : List Part) (places : OrderChoices) (order o : List OrderEntry) (b : Bool) (c : Claim) → may_merge k merge ≡ true → are_full places ≡ true
    → is_some_list parts ≡ true → is_some (narrowed merge places) ≡ true → c ≡ keyless (part_sent k order parts) (order_along whole_rows (order_sent k b merge order) places)
    → is_some (narrowed claimed (cond b (or_nowhere (narrowed merge places)) (places_sent k merge parts places))) ≡ true
    → is_chosen order (or_nowhere (narrowed claimed (cond b (or_nowhere (narrowed merge places)) (places_sent k merge parts places)))) ≡ true
    → (is_front o merge || ((b || goes_on k c) && is_front o c.order)) ≡ true → length o ≤ length order
sent-longest k merge claimed parts places order o true c may f met given is keep h l =
    let first = kept-chosen claimed (or_nowhere (narrowed merge places)) order keep h in
    let whole = kept-chosen merge places order given first.0 in
    or-elim (length o ≤ length order) (is_front o merge) (is_front o c.order)
    (λ e.
    let a : length o ≤ length merge = front-length o merge e in
    let b : length merge ≤ length order = front-length merge order whole.1 in
    omega (arith, a, b))
    (λ e. front-length o order (sym (ap (λ (d : Claim). is_front o d.order) is ∙ ap (is_front o) (chosen-along order places whole.0)) ∙ e)) l
sent-longest (route_to z r cols) merge claimed parts places order o false c may f met given is keep h l = merged-longest merge claimed order o c keep h l
sent-longest (round z) merge claimed parts places order o false c may f met given is keep h l = merged-longest merge claimed order o c keep h l
sent-longest (broadcast z) merge claimed parts places order o false c may f met given is keep h l = merged-longest merge claimed order o c keep h l
sent-longest gather merge claimed parts places order o false c may f met given is keep h l = merged-longest merge claimed order o c keep h l
sent-longest concat (m ∷ merge) claimed parts places order o false c may f met given is keep h l = cc
sent-longest concat [] claimed parts places order o false c may f met given is keep h l =
    let x : Part = part_sent concat order parts in
    let below : List OrderEntry = order_along whole_rows order places in
    let chosen : is_chosen below places ≡ true = along-chosen whole_rows order places f in
    or-elim (length o ≤ length order) (is_front o []) (rises_by c.part c.order && is_front o c.order)
    (λ e. let none : length o ≤ length {A = OrderEntry} [] = front-length o [] e in omega (arith, none))
    (λ e.
    let both : (rises_by x below && is_front o below) ≡ true = sym (ap (λ (d : Claim). rises_by d.part d.order && is_front o d.order) is) ∙ e in
    let shorter : length o ≤ length below = front-length o below (and-right (rises_by x below) (is_front o below) both) in
    let as-long : length below ≡ length places = chosen-length below places chosen in
    let rises : length (rising parts places) ≡ length places =
    rising-length parts places below x (option-in x parts met (sent-in concat order parts)) chosen (and-left (rises_by x below) (is_front o below) both) in
    let same : length order ≡ length (rising parts places) = chosen-length order (rising parts places) (kept-chosen claimed (rising parts places) order keep h).0 in
    omega (arith, shorter, as-long, rises, same)) l

exchange-longest : (catalog : ℕ → Relation) (n : ℕ) (c : Claim) (k : ExchangeKind) (merge : List OrderEntry) (p : Plan) (q : Part) (order o : List OrderEntry) → may_merge k merge ≡ true
    → is_some_list (parts_at catalog p) ≡ true → AllFit catalog (exchange n c k merge p) → is_chosen order (places_at catalog (exchange n c k merge p)) ≡ true
    → orders catalog (placed catalog (exchange n c k merge p) q order) o ≡ true → length o ≤ length order
exchange-longest catalog n c k merge p q order o may met fit h l =
    let x : Part = part_sent k order (parts_at catalog p) in
    let below : List OrderEntry = order_along whole_rows (order_sent k (is_one (size p)) merge order) (places_at catalog p) in
    let own : Claim = claim (placed catalog p x below) in
    let shown : (is_front o merge || ((is_one (size p) || goes_on k own) && is_front o own.order)) ≡ true =
    sym (ap (λ z. is_front o merge || ((is_one z || goes_on k own) && is_front o own.order)) (size-placed catalog p x below)) ∙ l in
    sent-longest k merge c.order (parts_at catalog p) (places_at catalog p) order o (is_one (size p)) own may (full-at catalog p) met fit.ordered (claim-placed catalog p x below) fit.keep h shown

-- ---- all nodes

strongest-here : (catalog : ℕ → Relation) (p : Plan) (q : Part) (order : List OrderEntry) → AllFit catalog p → is_some_list (lefts_at catalog p) ≡ true → is_some_list (rights_at catalog p) ≡ true
    → is_option (parts_at catalog p) q ≡ true → ((o : List OrderEntry) → shown_order (behaviour catalog (placed catalog p q order)) o ≡ true → length o ≤ length order)
    → IsStrongest catalog (placed catalog p q order)
strongest-here catalog p q order fit hl hr o longest = record {
  alone = λ s. part-placed catalog p q order ∙ lone-part catalog p q (sym (ap is_one (size-placed catalog p q order)) ∙ s) o;
  routed_first = λ s a r cols small.
      let is : q ≡ any = sym (part-placed catalog p q order) ∙ a in
      not-so _
      (λ h. no-route catalog p order r cols (sym (ap is_one (size-placed catalog p q order)) ∙ s) fit (sym (ap (is_option (parts_at catalog p)) is) ∙ o) hl hr small
      (sym (ap (λ x. shown_part (behaviour catalog (placed catalog p x order)) (routed r cols)) is) ∙ h));
  longest = λ xs h.
      let shorter : length xs ≤ length order = longest xs h in
      let same : length (claim (placed catalog p q order)).order ≡ length order = ap length (order-placed catalog p q order) in
      omega (arith, shorter, same);
}

pub placed-is-strongest : (s : Scope) (p : Plan) (q : Part) (order : List OrderEntry) → typed s p ≡ true → first_unfit (relation_at s.catalog) p ≡ None
    → is_option (parts_at (relation_at s.catalog) p) q ≡ true → is_chosen order (places_at (relation_at s.catalog) p) ≡ true
    → AtEach (IsStrongest (relation_at s.catalog)) (placed (relation_at s.catalog) p q order)
placed-is-strongest s (scan n c r m z) q order t e o h =
    let catalog = relation_at s.catalog in
    let fit = all-fit catalog (scan n c r m z) e in
    strongest-here catalog (scan n c r m z) q order fit refl refl o
    (λ xs l.
    let shorter : length xs ≤ length (catalog r).order = front-length xs (catalog r).order (orders-exactly catalog (placed catalog (scan n c r m z) q order) xs ∙ l) in
    let same : length order ≡ length (catalog r).order =
    ap length (singles-chosen order (catalog r).order (kept-chosen c.order (singles (catalog r).order) order fit.keep h).0) in
    omega (arith, shorter, same))
placed-is-strongest s (unary n c op p) q order t e o h =
    let catalog = relation_at s.catalog in
    let fit = all-fit catalog (unary n c op p) e in
    let below = (none-both (first_unfit catalog p) (refused_at n (fit_tests catalog (unary n c op p))) e).0 in (
      placed-is-strongest s p _ _ (and-left (typed s p) _ t) below (below-in catalog (unary n c op p) q (parts_at catalog p) (rights_at catalog (unary n c op p))).0
          (below-chosen (described op).order (described op).copying order (places_at catalog p) (full-at catalog p)),
      strongest-here catalog (unary n c op p) q order fit (all-fit catalog p below).met refl o (λ xs l. unary-longest catalog n c op p q order xs fit h l),
    )
placed-is-strongest s (binary n c op p p2) q order t e o h =
    let catalog = relation_at s.catalog in
    let fit = all-fit catalog (binary n c op p p2) e in
    let here = refused_at n (fit_tests catalog (binary n c op p p2)) in
    let left = none-both (first_unfit catalog p) (or_else (first_unfit catalog p2) here) e in
    let right = none-both (first_unfit catalog p2) here left.1 in
    let parts = below-in catalog (binary n c op p p2) q (parts_at catalog p) (parts_at catalog p2) in (
      placed-is-strongest s p _ _ (and-left (typed s p) _ t) left.0 parts.0 (left-chosen op order (places_at catalog p) (full-at catalog p)),
      placed-is-strongest s p2 _ _ (and-left (typed s p2) _ (and-right (typed s p) _ t)) right.0 parts.1 (right-chosen op (places_at catalog p2) (full-at catalog p2)),
      strongest-here catalog (binary n c op p p2) q order fit (all-fit catalog p left.0).met (all-fit catalog p2 right.0).met o
          (λ xs l. both-longest catalog n c op p p2 q order xs fit h (orders-exactly catalog (placed catalog (binary n c op p p2) q order) xs ∙ l)),
    )
placed-is-strongest s (exchange n c k m p) q order t e o h =
    let catalog = relation_at s.catalog in
    let fit = all-fit catalog (exchange n c k m p) e in
    let below = (none-both (first_unfit catalog p) (refused_at n (fit_tests catalog (exchange n c k m p))) e).0 in
    let may : may_merge k m ≡ true = and-left (may_merge k m) _ (and-right (are_columns _ (order_columns m)) _ (and-right (is_kind s _ k) _ (and-right (typed s p) _ t))) in (
      placed-is-strongest s p _ _ (and-left (typed s p) _ t) below (sent-in k order (parts_at catalog p))
          (along-chosen whole_rows (order_sent k (is_one (size p)) m order) (places_at catalog p) (full-at catalog p)),
      strongest-here catalog (exchange n c k m p) q order fit refl refl o
          (λ xs l. exchange-longest catalog n c k m p q order xs may (all-fit catalog p below).met fit h (orders-exactly catalog (placed catalog (exchange n c k m p) q order) xs ∙ l)),
    )
