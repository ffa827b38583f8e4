-- The parts that a typed node can claim have routes that there are, by columns of its output.
use Rattle.std.proofs.Common.{◌≡◌, ℕ, zero, suc, ◌+◌, nat_lt, nat_le, Bool, true, false, cond, not, ◌&&◌, ◌||◌, ◌==◌, List, [], ◌∷◌, ◌++◌, map, flat_map, filter, length, take, Some, slice_get, unwrap_or, refl, sym, ap, subst, ◌∙◌, true≢false, eqb-true, eq-eqb, arith, length-append}
use Rattle.std.specs.List.{list_any, list_all}
use Rattle.std.proofs.lemmas.Bool.Decides.{nat_tests}
use Rattle.std.proofs.lemmas.List.{append-nil}
use Rattle.std.proofs.lemmas.List.Folds.{list_all-append, list_all-map}
use Rattle.vx_rows_values.specs.Order.{order_columns}
use Rattle.vx_rows_values.specs.declared.value.ColType.{ColType}
use Rattle.vx_rows_values.specs.Types.{type_at}
use Rattle.vx_rows_values.specs.Lists.{is_some_list}
use Rattle.vx_rows_values.proofs.Booleans.{and-left, and-right, and-both}
use Rattle.vx_catalog_relations.specs.Relation.{Relation}
use Rattle.vx_catalog_relations.specs.Catalog.{relation_at, all_below, are_distinct}
use Rattle.vx_plan_nodes.specs.Plan.{Route, by_hash, by_range, Part, one, any, all, routed, Entry, copy_of, made_by, Unary, select, project, distinct, sort, group, limit, plain, partial, final, Binary, union, join, semi_join, ExchangeKind, route_to, round, broadcast, gather, concat, Plan, scan, unary, binary, exchange, claim, size, is_one, Claim}
use Rattle.vx_plan_nodes.specs.Parts.{kind_part}
use Rattle.vx_plan_nodes.specs.Describe.{Copying, whole_rows, columns_kept, entries_kept, kept_column, left_of, right_of, source, described}
use Rattle.vx_plan_nodes.specs.Types.{entry_type, unary_types, binary_types, aggregate_type, types_of, width}
use Rattle.vx_plan_nodes.specs.Typed.{Scope, type_eq, are_columns, range_type, bounds_at, is_size, is_routed, is_part, is_claim, is_unary, is_binary, is_kind, may_merge, is_output, typed}
use Rattle.vx_plan_nodes.specs.Phases.{phase_fits, both_closed}
use Rattle.vx_plan_nodes.proofs.ErasedFacts.{type-right}
use Rattle.vx_check_rules.specs.Rules.{contains, part_gives}
use Rattle.vx_check_rules.specs.Behaviour.{Way, ways_from, way, if_so}
use Rattle.vx_check_rules.proofs.Bools.{all-more, or-right}
use Rattle.vx_check_rules.proofs.WidthFacts.{types_of-width}
use Rattle.vx_check_options.specs.Options.{copies, in_front, copied_lists, routed_by, parts_up, parts_of_way, parts_over, parts_among, with_part, with_parts, same_part, most_telling, part_if_given, told_parts, no_input, parts_above, parts_at}
use Rattle.vx_check_options.specs.Options as options
use Rattle.vx_check_options.proofs.ChosenOrders.{copy-source, lone-is, are_front_copies}

-- ---- the types of copies

-- a copy of a column is one of the output, of the same type
abbrev pub KeepsTypes : Copying → List ColType → List ColType → Type 0
KeepsTypes k ts us = (x c : ℕ) → nat_lt x (length ts) ≡ true → contains (copies k x) c ≡ true → (nat_lt c (length us) ≡ true) × (type_at us c ≡ type_at ts x)

-- whole rows keep their types
pub whole-types : (ts : List ColType) → KeepsTypes whole_rows ts ts
whole-types ts x c h k = let e : c ≡ x = lone-is x c k in (ap (λ y. nat_lt y (length ts)) e ∙ h, ap (type_at ts) e)

-- below, one further
lt-suc : (a b : ℕ) → nat_lt (suc a) (suc b) ≡ nat_lt a b
lt-suc a b = grind (arith, nat_tests)

-- the first column is there
lt-zero : (b : ℕ) → nat_lt 0 (suc b) ≡ true
lt-zero b = grind (arith, nat_tests)

-- no column is there
not-below : (a : ℕ) → nat_lt a 0 ≡ true → ⊥
not-below a h = grind (arith, nat_tests)

-- the types of the left columns of two lists
type-left : (ts us : List ColType) (c : ℕ) → nat_lt c (length ts) ≡ true → (nat_lt c (length (ts ++ us)) ≡ true) × (type_at (ts ++ us) c ≡ type_at ts c)
type-left [] us c h = absurd (not-below c h)
type-left (t ∷ ts) us zero h = (lt-zero (length (ts ++ us)), refl)
type-left (t ∷ ts) us (suc c) h = let rest = type-left ts us c (sym (lt-suc c (length ts)) ∙ h) in (lt-suc c (length (ts ++ us)) ∙ rest.0, rest.1)

-- the left columns stand where they stood
pub left-types : (ts us : List ColType) → KeepsTypes whole_rows ts (ts ++ us)
left-types ts us x c h k =
    let e : c ≡ x = lone-is x c k in
    let t = type-left ts us x h in
    (ap (λ y. nat_lt y (length (ts ++ us))) e ∙ t.0, ap (type_at (ts ++ us)) e ∙ t.1)

-- and keep their types
left-of-types : (w : ℕ) (ts us : List ColType) → KeepsTypes (left_of w) ts (ts ++ us)
left-of-types w ts us x c h k = by (nat_lt x w) k
  where
    by : (b : Bool) → contains (cond b (x ∷ []) []) c ≡ true → (nat_lt c (length (ts ++ us)) ≡ true) × (type_at (ts ++ us) c ≡ type_at ts x)
    by true l = left-types ts us x c h l
    by false l = absurd (true≢false (sym l))

-- a right column is behind all left ones
lt-right : (w x u : ℕ) → nat_lt x u ≡ true → nat_lt (w + x) (w + u) ≡ true
lt-right w x u h = grind (arith, nat_tests)

-- the right columns keep their types behind the left ones
right-of-types : (w : ℕ) (ts us : List ColType) → length ts ≡ w → KeepsTypes (right_of w) us (ts ++ us)
right-of-types w ts us e x c h k = by (nat_lt x 64) k
  where
    all-of : length (ts ++ us) ≡ w + length us
    all-of = length-append ts us ∙ ap (λ n. n + length us) e

    by : (b : Bool) → contains (cond b ((w + x) ∷ []) []) c ≡ true → (nat_lt c (length (ts ++ us)) ≡ true) × (type_at (ts ++ us) c ≡ type_at us x)
    by true l =
        let d : c ≡ w + x = lone-is (w + x) c l in
        let f : c ≡ length ts + x = d ∙ ap (λ n. n + x) (sym e) in
        (ap (λ y. nat_lt y (length (ts ++ us))) d ∙ ap (nat_lt (w + x)) all-of ∙ lt-right w x (length us) h, type-right ts us c x f)
    by false l = absurd (true≢false (sym l))

-- the type at the place of a kept column
kept-type : (f : ℕ → ColType) (cols : List ℕ) (rest : List ColType) (x c : ℕ) → slice_get cols c ≡ Some x
    → (nat_lt c (length (map f cols ++ rest)) ≡ true) × (type_at (map f cols ++ rest) c ≡ f x)
kept-type f [] rest x c e = cc
kept-type f (k ∷ ks) rest x zero e = (lt-zero (length (map f ks ++ rest)), ap (λ o. f (unwrap_or o x)) e)
kept-type f (k ∷ ks) rest x (suc c) e = let more = kept-type f ks rest x c e in (lt-suc c (length (map f ks ++ rest)) ∙ more.0, more.1)

-- kept columns keep their types, whatever stands behind them
kept-types : (cols : List ℕ) (ts rest : List ColType) → KeepsTypes (columns_kept cols) ts (map (type_at ts) cols ++ rest)
kept-types cols ts rest x c h k = kept-type (type_at ts) cols rest x c (copy-source (columns_kept cols) x c k)

-- or nothing
kept-alone : (cols : List ℕ) (ts : List ColType) → KeepsTypes (columns_kept cols) ts (map (type_at ts) cols)
kept-alone cols ts = let P : List ColType → Type 0 = KeepsTypes (columns_kept cols) ts in subst P (append-nil (map (type_at ts) cols)) (kept-types cols ts [])

-- the type of an entry that keeps a column
entry-type : (ts : List ColType) (es : List Entry) (x c : ℕ) → source (entries_kept (map kept_column es)) c ≡ Some x
    → (nat_lt c (length (map (entry_type ts) es)) ≡ true) × (type_at (map (entry_type ts) es) c ≡ type_at ts x)
entry-type ts [] x c e = cc
entry-type ts (copy_of k ∷ es) x zero e = (lt-zero (length (map (entry_type ts) es)), ap (λ o. type_at ts (unwrap_or o x)) e)
entry-type ts (made_by m ∷ es) x zero e = cc
entry-type ts (y ∷ es) x (suc c) e = let more = entry-type ts es x c e in (lt-suc c (length (map (entry_type ts) es)) ∙ more.0, more.1)

entries-types : (es : List Entry) (ts : List ColType) → KeepsTypes (entries_kept (map kept_column es)) ts (map (entry_type ts) es)
entries-types es ts x c h k = entry-type ts es x c (copy-source (entries_kept (map kept_column es)) x c k)

-- of an operator over one input
pub unary-types : (op : Unary) (ts : List ColType) → KeepsTypes (described op).copying ts (unary_types op ts)
unary-types (select fs) ts = whole-types ts
unary-types (project es) ts = entries-types es ts
unary-types (distinct cols) ts = kept-alone cols ts
unary-types (sort of_parts cols) ts = whole-types ts
unary-types (group plain by aggregates) ts = kept-types by ts (map (aggregate_type ts) aggregates)
unary-types (group partial by aggregates) ts = kept-types by ts (map (aggregate_type ts) aggregates)
unary-types (group final by aggregates) ts = kept-types by ts (map (aggregate_type ts) aggregates)
unary-types (limit m) ts = whole-types ts

-- ---- copies of lists of columns

-- copies of columns that are there are there
below-copied : (k : Copying) (ts us : List ColType) (xs cs : List ℕ) → KeepsTypes k ts us → are_front_copies k xs cs ≡ true → all_below (length ts) xs ≡ true → all_below (length us) cs ≡ true
below-copied k ts us xs [] keeps h b = refl
below-copied k ts us [] (c ∷ cs) keeps h b = absurd (true≢false (sym h))
below-copied k ts us (x ∷ xs) (c ∷ cs) keeps h b =
    and-both (nat_lt c (length us)) (all_below (length us) cs)
    (keeps x c (and-left (nat_lt x (length ts)) (all_below (length ts) xs) b) (and-left (contains (copies k x) c) (are_front_copies k xs cs) h)).0
    (below-copied k ts us xs cs keeps (and-right (contains (copies k x) c) (are_front_copies k xs cs) h) (and-right (nat_lt x (length ts)) (all_below (length ts) xs) b))

-- a column is copied once where what it copies stands once
copied-twice : (k : Copying) (x c : ℕ) (xs cs : List ℕ) → contains (copies k x) c ≡ true → are_front_copies k xs cs ≡ true → contains cs c ≡ true → contains xs x ≡ true
copied-twice k x c xs [] h f t = absurd (true≢false (sym t))
copied-twice k x c [] (d ∷ ds) h f t = absurd (true≢false (sym f))
copied-twice k x c (y ∷ ys) (d ∷ ds) h f t = by (c == d) refl (copied-twice k x c ys ds h (and-right (contains (copies k y) d) (are_front_copies k ys ds) f)) t
  where
    by : (b : Bool) → (c == d) ≡ b → (contains ds c ≡ true → contains ys x ≡ true) → (b || contains ds c) ≡ true → contains (y ∷ ys) x ≡ true
    by true e more l =
        let same : c ≡ d = eqb-true c d e in
        let from : source k d ≡ Some y = copy-source k y d (and-left (contains (copies k y) d) (are_front_copies k ys ds) f) in
        let both : Some x ≡ Some y = sym (copy-source k x c h) ∙ ap (source k) same ∙ from in
        ap (λ b. b || contains ys x) (eq-eqb x y (ap (λ o. unwrap_or o x) both))
    by false e more l = or-right (x == y) (contains ys x) (more l)

-- copies of columns that stand once stand once
distinct-copied : (k : Copying) (xs cs : List ℕ) → are_front_copies k xs cs ≡ true → are_distinct xs ≡ true → are_distinct cs ≡ true
distinct-copied k xs [] f d = refl
distinct-copied k [] (c ∷ cs) f d = absurd (true≢false (sym f))
distinct-copied k (x ∷ xs) (c ∷ cs) f d =
    let rest = and-right (contains (copies k x) c) (are_front_copies k xs cs) f in
    and-both (not (contains cs c)) (are_distinct cs)
    (by (contains cs c) (copied-twice k x c xs cs (and-left (contains (copies k x) c) (are_front_copies k xs cs) f) rest) (and-left (not (contains xs x)) (are_distinct xs) d))
    (distinct-copied k xs cs rest (and-right (not (contains xs x)) (are_distinct xs) d))
  where
    by : (b : Bool) → (b ≡ true → contains xs x ≡ true) → not (contains xs x) ≡ true → not b ≡ true
    by false more n = refl
    by true more n = sym (ap not (more refl)) ∙ n

-- copies of columns that are there, each once, are such columns
pub columns-copied : (k : Copying) (ts us : List ColType) (xs cs : List ℕ) → KeepsTypes k ts us → are_front_copies k xs cs ≡ true → are_columns (length ts) xs ≡ true → are_columns (length us) cs ≡ true
columns-copied k ts us xs cs keeps f h =
    and-both (all_below (length us) cs) (are_distinct cs) (below-copied k ts us xs cs keeps f (and-left (all_below (length ts) xs) (are_distinct xs) h))
    (distinct-copied k xs cs f (and-right (all_below (length ts) xs) (are_distinct xs) h))

-- all of these columns are copied, one by one
abbrev are_copies : Copying → List ℕ → List ℕ → Bool
are_copies k [] [] = true
are_copies k [] (c ∷ cs) = false
are_copies k (x ∷ xs) [] = false
are_copies k (x ∷ xs) (c ∷ cs) = contains (copies k x) c && are_copies k xs cs

-- all of them are the first of them
front-copies : (k : Copying) (xs cs : List ℕ) → are_copies k xs cs ≡ true → are_front_copies k xs cs ≡ true
front-copies k [] [] h = refl
front-copies k [] (c ∷ cs) h = h
front-copies k (x ∷ xs) [] h = refl
front-copies k (x ∷ xs) (c ∷ cs) h =
    and-both (contains (copies k x) c) (are_front_copies k xs cs) (and-left (contains (copies k x) c) (are_copies k xs cs) h)
    (front-copies k xs cs (and-right (contains (copies k x) c) (are_copies k xs cs) h))

-- there are some where there were some
some-copied : (k : Copying) (xs cs : List ℕ) → are_copies k xs cs ≡ true → is_some_list xs ≡ true → is_some_list cs ≡ true
some-copied k [] cs h s = absurd (true≢false (sym s))
some-copied k (x ∷ xs) [] h s = h
some-copied k (x ∷ xs) (c ∷ cs) h s = refl

-- a route of the input is one of the output, by the copies of its columns
route-copied : (s : Scope) (k : Copying) (ts us : List ColType) (r : Route) (xs cs : List ℕ) → KeepsTypes k ts us → is_routed s ts r xs ≡ true → are_copies k xs cs ≡ true → is_routed s us r cs ≡ true
route-copied s k ts us (by_hash name) xs cs keeps h c =
    let rest = and-right (is_some_list name) (is_some_list xs && are_columns (length ts) xs) h in
    and-both (is_some_list name) (is_some_list cs && are_columns (length us) cs) (and-left (is_some_list name) (is_some_list xs && are_columns (length ts) xs) h)
    (and-both (is_some_list cs) (are_columns (length us) cs) (some-copied k xs cs c (and-left (is_some_list xs) (are_columns (length ts) xs) rest))
    (columns-copied k ts us xs cs keeps (front-copies k xs cs c) (and-right (is_some_list xs) (are_columns (length ts) xs) rest)))
route-copied s k ts us (by_range j) [] cs keeps h c = absurd (true≢false (sym h))
route-copied s k ts us (by_range j) (x ∷ y ∷ xs) cs keeps h c = absurd (true≢false (sym h))
route-copied s k ts us (by_range j) (x ∷ []) [] keeps h c = absurd (true≢false (sym c))
route-copied s k ts us (by_range j) (x ∷ []) (d ∷ e ∷ es) keeps h c = absurd (true≢false (sym (and-right (contains (copies k x) d) false c)))
route-copied s k ts us (by_range j) (x ∷ []) (d ∷ []) keeps h c =
    let t : ColType = range_type (bounds_at s.ranges j) in
    let rest = and-right (nat_lt j (length s.ranges)) (nat_lt x (length ts) && type_eq (type_at ts x) t) h in
    let copy = keeps x d (and-left (nat_lt x (length ts)) (type_eq (type_at ts x) t) rest) (and-left (contains (copies k x) d) true c) in
    and-both (nat_lt j (length s.ranges)) (nat_lt d (length us) && type_eq (type_at us d) t) (and-left (nat_lt j (length s.ranges)) (nat_lt x (length ts) && type_eq (type_at ts x) t) h)
    (and-both (nat_lt d (length us)) (type_eq (type_at us d) t) copy.0
    (ap (λ u. type_eq u t) copy.1 ∙ and-right (nat_lt x (length ts)) (type_eq (type_at ts x) t) rest))

-- ---- what all of a list pass

-- the first elements
all-take : {X : Type 0} (test : X → Bool) (n : ℕ) (xs : List X) → list_all test xs ≡ true → list_all test (take n xs) ≡ true
all-take test zero xs h = refl
all-take test (suc n) [] h = refl
all-take test (suc n) (x ∷ xs) h = and-both (test x) (list_all test (take n xs)) (and-left (test x) (list_all test xs) h) (all-take test n xs (and-right (test x) (list_all test xs) h))

-- two lists
all-both : {X : Type 0} (test : X → Bool) (xs ys : List X) → list_all test xs ≡ true → list_all test ys ≡ true → list_all test (xs ++ ys) ≡ true
all-both test xs ys h k = list_all-append test xs ys ∙ and-both (list_all test xs) (list_all test ys) h k

-- lists that are joined
all-flat : {X Y : Type 0} (here : X → Bool) (test : Y → Bool) (f : X → List Y) (xs : List X) → ((x : X) → here x ≡ true → list_all test (f x) ≡ true) → list_all here xs ≡ true
    → list_all test (flat_map f xs) ≡ true
all-flat here test f [] each h = refl
all-flat here test f (x ∷ xs) each h =
    all-both test (f x) (flat_map f xs) (each x (and-left (here x) (list_all here xs) h)) (all-flat here test f xs each (and-right (here x) (list_all here xs) h))

-- what a filter keeps
all-filter : {X : Type 0} (test keep : X → Bool) (xs : List X) → list_all test xs ≡ true → list_all test (filter keep xs) ≡ true
all-filter test keep [] h = refl
all-filter test keep (x ∷ xs) h = by (keep x) (all-filter test keep xs (and-right (test x) (list_all test xs) h))
  where
    by : (b : Bool) → list_all test (filter keep xs) ≡ true → list_all test (cond b (x ∷ filter keep xs) (filter keep xs)) ≡ true
    by true k = and-both (test x) (list_all test (filter keep xs)) (and-left (test x) (list_all test xs) h) k
    by false k = k

-- a list or none
all-so : {X : Type 0} (test : X → Bool) (b : Bool) (xs : List X) → list_all test xs ≡ true → list_all test (if_so b xs) ≡ true
all-so test true xs h = h
all-so test false xs h = refl

-- a list contains each of its numbers
each-contained : (xs : List ℕ) → list_all (contains xs) xs ≡ true
each-contained [] = refl
each-contained (x ∷ xs) =
    and-both (contains (x ∷ xs) x) (list_all (contains (x ∷ xs)) xs) (ap (λ b. b || contains xs x) (eq-eqb x x refl))
    (all-more (contains xs) (contains (x ∷ xs)) xs (λ y h. or-right (y == x) (contains xs y) h) (each-contained xs))

-- ---- parts

-- all lists of copies are copies
lists-copied : (k : Copying) (xs : List ℕ) → list_all (are_copies k xs) (copied_lists k xs) ≡ true
lists-copied k [] = refl
lists-copied k (x ∷ xs) =
    all-take (are_copies k (x ∷ xs)) 64 (in_front k x (copied_lists k xs))
    (all-flat (contains (copies k x)) (are_copies k (x ∷ xs)) (λ d. map (λ ds. d ∷ ds) (copied_lists k xs)) (copies k x)
    (λ d h. list_all-map (are_copies k (x ∷ xs)) (λ ds. d ∷ ds) (copied_lists k xs)
    ∙ all-more (are_copies k xs) (λ ds. contains (copies k x) d && are_copies k xs ds) (copied_lists k xs) (λ ds l. and-both (contains (copies k x) d) (are_copies k xs ds) h l) (lists-copied k xs))
    (each-contained (copies k x)))

-- what an output has of a typed part is typed
up-typed : (s : Scope) (k : Copying) (ts us : List ColType) (q : Part) → KeepsTypes k ts us → is_part s ts q ≡ true → list_all (is_part s us) (parts_up k q) ≡ true
up-typed s k ts us one keeps h = refl
up-typed s k ts us any keeps h = refl
up-typed s k ts us all keeps h = refl
up-typed s k ts us (routed r cols) keeps h = by (copied_lists k cols) (lists-copied k cols)
  where
    by : (lists : List (List ℕ)) → list_all (are_copies k cols) lists ≡ true → list_all (is_part s us) (routed_by r lists) ≡ true
    by [] l = refl
    by (ds ∷ more) l = list_all-map (is_part s us) (routed r) (ds ∷ more) ∙ all-more (are_copies k cols) (is_routed s us r) (ds ∷ more) (λ es c. route-copied s k ts us r cols es keeps h c) l

-- what one way of an input's part gives
abbrev is_typed_way : Scope → List ColType → Way → Bool
is_typed_way s us w = list_all (is_part s us) (parts_of_way w)

-- and so is what it has of a way from one input
way-typed : (s : Scope) (k : Copying) (ts us : List ColType) (q : Part) (b : Bool) → KeepsTypes k ts us → is_part s ts q ≡ true → list_all (is_typed_way s us) (if_so b (way k ((false, q) ∷ []) ∷ [])) ≡ true
way-typed s k ts us q b keeps h = all-so (is_typed_way s us) b (way k ((false, q) ∷ []) ∷ []) (and-both (list_all (is_part s us) (parts_up k q)) true (up-typed s k ts us q keeps h) refl)

-- and of the inputs of a union
union-typed : (s : Scope) (ts : List ColType) (x y : Part) (b : Bool) → is_part s ts x ≡ true → list_all (is_typed_way s ts) (if_so b (way whole_rows ((false, x) ∷ (false, y) ∷ []) ∷ [])) ≡ true
union-typed s ts x y b h = all-so (is_typed_way s ts) b (way whole_rows ((false, x) ∷ (false, y) ∷ []) ∷ [])
    (and-both (is_typed_way s ts (way whole_rows ((false, x) ∷ (false, y) ∷ []))) true (by (part_gives y x && true)) refl)
  where
    by : (d : Bool) → list_all (is_part s ts) (parts_up whole_rows (cond d x any)) ≡ true
    by true = up-typed s whole_rows ts ts x (whole-types ts) h
    by false = refl

-- the parts of a join come from one input or from both
join-typed : (s : Scope) (w : ℕ) (ts us : List ColType) (x y : Part) (a b c : Bool) → length ts ≡ w → is_part s ts x ≡ true → is_part s us y ≡ true
    → list_all (is_typed_way s (ts ++ us)) (if_so a (way whole_rows ((false, x) ∷ []) ∷ way (right_of w) ((false, y) ∷ []) ∷ [])
    ++ (if_so b (way (left_of w) ((false, x) ∷ []) ∷ []) ++ if_so c (way (right_of w) ((false, y) ∷ []) ∷ []))) ≡ true
join-typed s w ts us x y a b c e h k =
    let test : Way → Bool = is_typed_way s (ts ++ us) in
    let right : list_all test (if_so true (way (right_of w) ((false, y) ∷ []) ∷ [])) ≡ true = way-typed s (right_of w) us (ts ++ us) y true (right-of-types w ts us e) k in
    all-both test (if_so a (way whole_rows ((false, x) ∷ []) ∷ way (right_of w) ((false, y) ∷ []) ∷ [])) (if_so b (way (left_of w) ((false, x) ∷ []) ∷ []) ++ if_so c (way (right_of w) ((false, y) ∷ []) ∷ []))
    (all-so test a (way whole_rows ((false, x) ∷ []) ∷ way (right_of w) ((false, y) ∷ []) ∷ [])
    (and-both (test (way whole_rows ((false, x) ∷ []))) (list_all test (way (right_of w) ((false, y) ∷ []) ∷ [])) (up-typed s whole_rows ts (ts ++ us) x (left-types ts us) h) right))
    (all-both test (if_so b (way (left_of w) ((false, x) ∷ []) ∷ [])) (if_so c (way (right_of w) ((false, y) ∷ []) ∷ []))
    (way-typed s (left_of w) ts (ts ++ us) x b (left-of-types w ts us) h)
    (way-typed s (right_of w) us (ts ++ us) y c (right-of-types w ts us e) k))

-- the parts of left rows that are kept come from the left input
semi-typed : (s : Scope) (ts : List ColType) (x : Part) (a b : Bool) → is_part s ts x ≡ true
    → list_all (is_typed_way s ts) (if_so a (way whole_rows ((false, x) ∷ []) ∷ []) ++ if_so b (way whole_rows ((false, x) ∷ []) ∷ [])) ≡ true
semi-typed s ts x a b h =
    all-both (is_typed_way s ts) (if_so a (way whole_rows ((false, x) ∷ []) ∷ [])) (if_so b (way whole_rows ((false, x) ∷ []) ∷ []))
    (way-typed s whole_rows ts ts x a (whole-types ts) h) (way-typed s whole_rows ts ts x b (whole-types ts) h)

-- the parts of a node, by those of its inputs
ways-typed : (catalog : ℕ → Relation) (p : Plan) (left right here : Part → Bool) (lefts rights : List Part)
    → ((x y : Part) → left x ≡ true → right y ≡ true → list_all (λ w. list_all here (parts_of_way w)) (ways_from catalog p (false, x) (false, y)) ≡ true)
    → list_all left lefts ≡ true → list_all right rights ≡ true → list_all here (parts_among catalog p lefts rights) ≡ true
ways-typed catalog p left right here lefts rights each ls rs = all-flat left here (λ x. flat_map (parts_over catalog p x) rights) lefts
    (λ x h. all-flat right here (parts_over catalog p x) rights
    (λ y k. all-flat (λ w. list_all here (parts_of_way w)) here parts_of_way (ways_from catalog p (false, x) (false, y)) (λ w l. l) (each x y h k)) rs) ls

-- and each of them once
with-typed : (test : Part → Bool) (parts qs : List Part) → list_all test parts ≡ true → list_all test qs ≡ true → list_all test (with_parts parts qs) ≡ true
with-typed test parts [] h k = h
with-typed test parts (q ∷ qs) h k = with-typed test (with_part parts q) qs (by (list_any (same_part q) parts)) (and-right (test q) (list_all test qs) k)
  where
    by : (b : Bool) → list_all test (cond b parts (parts ++ q ∷ [])) ≡ true
    by true = h
    by false = all-both test parts (q ∷ []) h (and-both (test q) true (and-left (test q) (list_all test qs) k) refl)

-- what a node can claim passes a test that its own claim passes, and that what it has of its inputs passes
above-typed : (catalog : ℕ → Relation) (p : Plan) (test : Part → Bool) (lefts rights : List Part) → test one ≡ true → test all ≡ true → test (claim p).part ≡ true
    → list_all test (parts_among catalog p lefts rights) ≡ true → list_all test (take 64 (parts_above catalog p lefts rights)) ≡ true
above-typed catalog p test lefts rights h a k l = all-take test 64 (parts_above catalog p lefts rights) (by (is_one (size p)) (claim p).part k)
  where
    alone : (c : Part) (b : Bool) → test c ≡ true → list_all test (cond b (c ∷ []) []) ≡ true
    alone c true t = and-both (test c) true t refl
    alone c false t = refl

    most : (b : Bool) (parts : List Part) → list_all test parts ≡ true → list_all test (cond b (filter options.is_routed parts) parts) ≡ true
    most true parts t = all-filter test options.is_routed parts t
    most false parts t = t

    told : list_all test (most_telling (with_parts [] (parts_among catalog p lefts rights))) ≡ true
    told = most _ (with_parts [] (parts_among catalog p lefts rights)) (with-typed test [] (parts_among catalog p lefts rights) refl l)

    by : (b : Bool) (c : Part) → test c ≡ true → list_all test (cond b (one ∷ []) (told_parts catalog p c lefts rights)) ≡ true
    by true c t = and-both (test one) true h refl
    by false one t = told
    by false any t = told
    by false all t = alone all _ a
    by false (routed r cols) t = alone (routed r cols) _ t

-- ---- nodes

-- a typed claim has a typed part
output-part : (s : Scope) (types : List ColType) (c : Claim) → is_output s types c ≡ true → is_part s types c.part ≡ true
output-part s types c h =
    and-left (is_part s types c.part) (are_columns (length types) (order_columns c.order) && list_all (are_columns (length types)) c.keys) (and-right (nat_le (length types) 64) (is_claim s types c) h)

-- the part that an exchange makes is typed
kind-typed : (s : Scope) (types : List ColType) (k : ExchangeKind) → is_kind s types k ≡ true → is_part s types (kind_part k) ≡ true
kind-typed s types (route_to z r cols) h = and-right (is_size s.sizes z) (is_routed s types r cols) h
kind-typed s types (round z) h = refl
kind-typed s types (broadcast z) h = refl
kind-typed s types gather h = refl
kind-typed s types concat h = refl

-- and that of a scan
scanned-typed : (s : Scope) (types : List ColType) (shared : Bool) → is_part s types (cond shared any all) ≡ true
scanned-typed s types true = refl
scanned-typed s types false = refl

-- the ways of an operator over two inputs give typed parts
both-typed : (s : Scope) (ts us : List ColType) (op : Binary) (catalog : ℕ → Relation) (n : ℕ) (c : Claim) (p q : Plan) (x y : Part) → length ts ≡ width catalog p
    → is_part s ts x ≡ true → is_part s us y ≡ true → list_all (is_typed_way s (binary_types op ts us)) (ways_from catalog (binary n c op p q) (false, x) (false, y)) ≡ true
both-typed s ts us union catalog n c p q x y e h k = union-typed s ts x y _ h
both-typed s ts us (join m on) catalog n c p q x y e h k = join-typed s (width catalog p) ts us x y _ _ _ e h k
both-typed s ts us (semi_join matched on conditions) catalog n c p q x y e h k = semi-typed s ts x _ _ h

-- each part that a typed node can claim is typed
pub parts-typed : (s : Scope) (p : Plan) → typed s p ≡ true → list_all (is_part s (types_of (relation_at s.catalog) p)) (parts_at (relation_at s.catalog) p) ≡ true
parts-typed s (scan n c r m z) h =
    let node : Plan = scan n c r m z in
    let us : List ColType = types_of (relation_at s.catalog) node in
    let out = and-right (is_size s.sizes z) (is_output s us c) (and-right (nat_lt r (length s.catalog)) (is_size s.sizes z && is_output s us c) h) in
    above-typed (relation_at s.catalog) node (is_part s us) no_input no_input refl refl (output-part s us c out)
    (ways-typed (relation_at s.catalog) node (λ x. true) (λ x. true) (is_part s us) no_input no_input
    (λ x y i j. way-typed s whole_rows us us (cond m any all) true (whole-types us) (scanned-typed s us m)) refl refl)
parts-typed s (unary n c op p) h =
    let node : Plan = unary n c op p in
    let ts : List ColType = types_of (relation_at s.catalog) p in
    let us : List ColType = types_of (relation_at s.catalog) node in
    let rest = and-right (typed s p) (phase_fits op p && (is_unary ts op && is_output s us c)) h in
    let out = and-right (is_unary ts op) (is_output s us c) (and-right (phase_fits op p) (is_unary ts op && is_output s us c) rest) in
    above-typed (relation_at s.catalog) node (is_part s us) (parts_at (relation_at s.catalog) p) no_input refl refl (output-part s us c out)
    (ways-typed (relation_at s.catalog) node (is_part s ts) (λ x. true) (is_part s us) (parts_at (relation_at s.catalog) p) no_input
    (λ x y i j. way-typed s (described op).copying ts us x _ (unary-types op ts) i)
    (parts-typed s p (and-left (typed s p) (phase_fits op p && (is_unary ts op && is_output s us c)) h)) refl)
parts-typed s (binary n c op p q) h =
    let node : Plan = binary n c op p q in
    let ts : List ColType = types_of (relation_at s.catalog) p in
    let vs : List ColType = types_of (relation_at s.catalog) q in
    let us : List ColType = types_of (relation_at s.catalog) node in
    let here : Bool = both_closed p q && (is_binary ts vs op && is_output s us c) in
    let rest = and-right (typed s p) (typed s q && here) h in
    let out = and-right (is_binary ts vs op) (is_output s us c) (and-right (both_closed p q) (is_binary ts vs op && is_output s us c) (and-right (typed s q) here rest)) in
    above-typed (relation_at s.catalog) node (is_part s us) (parts_at (relation_at s.catalog) p) (parts_at (relation_at s.catalog) q) refl refl (output-part s us c out)
    (ways-typed (relation_at s.catalog) node (is_part s ts) (is_part s vs) (is_part s us) (parts_at (relation_at s.catalog) p) (parts_at (relation_at s.catalog) q)
    (λ x y i j. both-typed s ts vs op (relation_at s.catalog) n c p q x y (types_of-width (relation_at s.catalog) p) i j)
    (parts-typed s p (and-left (typed s p) (typed s q && here) h)) (parts-typed s q (and-left (typed s q) here rest)))
parts-typed s (exchange n c k m p) h =
    let node : Plan = exchange n c k m p in
    let ts : List ColType = types_of (relation_at s.catalog) p in
    let last : Bool = are_columns (length ts) (order_columns m) && (may_merge k m && is_output s ts c) in
    let rest = and-right (typed s p) (is_kind s ts k && last) h in
    let more = and-right (is_kind s ts k) last rest in
    let out = and-right (may_merge k m) (is_output s ts c) (and-right (are_columns (length ts) (order_columns m)) (may_merge k m && is_output s ts c) more) in
    above-typed (relation_at s.catalog) node (is_part s ts) no_input no_input refl refl (output-part s ts c out)
    (ways-typed (relation_at s.catalog) node (λ x. true) (λ x. true) (is_part s ts) no_input no_input
    (λ x y i j. way-typed s whole_rows ts ts (kind_part k) true (whole-types ts) (kind-typed s ts k (and-left (is_kind s ts k) last rest))) refl refl)
