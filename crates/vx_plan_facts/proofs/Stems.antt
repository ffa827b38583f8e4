-- The rows of an operator's list come from rows of its inputs, whose values they have in the columns that are copies.
use Rattle.std.proofs.Common.{◌≡◌, ℕ, zero, suc, ◌+◌, ◌-◌, ◌<◌, ◌≤◌, nat_lt, nat_le, Bool, true, false, not, cond, ◌||◌, ◌⊎◌, inl, inr, ⊎_elim, List, [], ◌∷◌, ◌++◌, map, filter, take, length, refl, sym, ap, ◌∙◌, subst, arith, true≢false, is_le, Option, Some, None, slice_get, ltb-true, leb-true, append-nil}
use Rattle.std.specs.List.{list_all}
use Rattle.vx_rows_values.specs.Values.{Row, row_eq, value_at, pick}
use Rattle.vx_rows_values.specs.declared.order.OrderEntry.{OrderEntry}
use Rattle.vx_rows_values.specs.Order.{compare_on, insert_sorted, sort_on}
use Rattle.vx_rows_values.specs.Bags.{count}
use Rattle.vx_rows_values.proofs.Booleans.{and-left, and-right, and-both}
use Rattle.vx_rows_values.proofs.Compare.{row_eq-refl, row_eq-same}
use Rattle.vx_plan_nodes.specs.Plan.{Plan, Condition, Entry, Unary, select, project, distinct, sort, group, limit, plain, partial, final, Binary, Aggregate}
use Rattle.vx_plan_nodes.specs.Describe.{Copying, whole_rows, columns_kept, entries_kept, kept_column, left_of, right_of, source, described}
use Rattle.vx_plan_nodes.specs.Serial.{filters_hold, filters_fit, entries_row, entries_fit, firsts, matches, joined_with, join_rows, is_matched, matched_rows, aggregate_of, of_key, group_keys, group_row, group_fits, group_rows, unary_rows, binary_rows, SerialResult, rows, overflow, or_overflow, after, serial}
use Rattle.vx_plan_facts.specs.DeterminedFacts.{occurs}
use Rattle.vx_plan_facts.proofs.Columns.{entry-at}
use Rattle.vx_plan_facts.proofs.Fitting.{where-fit-is}
use Rattle.vx_plan_facts.proofs.Tests.{or-cases, or-left, or-right, all-more}

-- ---- rows that occur

-- what holds of each row of a list holds of one that occurs there
pub at-occurring : (q : Row → Bool) (a : Row) (xs : List Row) → list_all q xs ≡ true → occurs a xs ≡ true → q a ≡ true
at-occurring q a [] h o = absurd (true≢false (sym o))
at-occurring q a (x ∷ xs) h o =
    ⊎_elim
    (λ e. let P : Row → Type 0 = λ r. q r ≡ true in subst P (sym (row_eq-same a x e)) (and-left (q x) (list_all q xs) h))
    (λ l. at-occurring q a xs (and-right (q x) (list_all q xs) h) l)
    (or-cases (row_eq a x) (occurs a xs) o)

-- each row of a list occurs there
pub all-occur : (xs : List Row) → list_all (λ y. occurs y xs) xs ≡ true
all-occur [] = refl
all-occur (x ∷ xs) =
    and-both (occurs x (x ∷ xs)) (list_all (λ y. occurs y (x ∷ xs)) xs) (or-left (row_eq x x) (occurs x xs) (row_eq-refl x))
    (all-more (λ y. occurs y xs) (λ y. occurs y (x ∷ xs)) (λ y e. or-right (row_eq y x) (occurs y xs) e) xs (all-occur xs))

-- a row that a function gives of a row of the list
pub occurs-map : (g : Row → Row) (a : Row) (xs : List Row) → occurs a (map g xs) ≡ true → (x : Row) × (occurs x xs ≡ true) × (a ≡ g x)
occurs-map g a [] o = absurd (true≢false (sym o))
occurs-map g a (x ∷ xs) o =
    ⊎_elim
    (λ e. (x, or-left (row_eq x x) (occurs x xs) (row_eq-refl x), row_eq-same a (g x) e))
    (λ l. let w = occurs-map g a xs l in (w.0, or-right (row_eq w.0 x) (occurs w.0 xs) w.1, w.2))
    (or-cases (row_eq a (g x)) (occurs a (map g xs)) o)

pub occurs-append : (a : Row) (xs ys : List Row) → occurs a (xs ++ ys) ≡ true → (occurs a xs ≡ true) ⊎ (occurs a ys ≡ true)
occurs-append a [] ys o = inr o
occurs-append a (x ∷ xs) ys o =
    ⊎_elim
    (λ e. inl (or-left (row_eq a x) (occurs a xs) e))
    (λ l. ⊎_elim (λ m. inl (or-right (row_eq a x) (occurs a xs) m)) (λ m. inr m) (occurs-append a xs ys l))
    (or-cases (row_eq a x) (occurs a (xs ++ ys)) o)

-- a row occurs where it is counted once or more
pub occurs-counted : (a : Row) (xs : List Row) → occurs a xs ≡ true → 1 ≤ count (row_eq a) xs
occurs-counted a [] o = absurd (true≢false (sym o))
occurs-counted a (x ∷ xs) o = go (row_eq a x) (occurs-counted a xs) o
  where
    go : (b : Bool) → (occurs a xs ≡ true → 1 ≤ count (row_eq a) xs) → (b || occurs a xs) ≡ true → 1 ≤ cond b 1 0 + count (row_eq a) xs
    go true later e = omega arith
    go false later e = let r = later e in omega (arith, r)

pub counted-occurs : (a : Row) (xs : List Row) → 1 ≤ count (row_eq a) xs → occurs a xs ≡ true
counted-occurs a [] h = absurd (omega arith)
counted-occurs a (x ∷ xs) h = go (row_eq a x) (counted-occurs a xs) h
  where
    go : (b : Bool) → (1 ≤ count (row_eq a) xs → occurs a xs ≡ true) → 1 ≤ cond b 1 0 + count (row_eq a) xs → (b || occurs a xs) ≡ true
    go true later k = refl
    go false later k = later (omega arith)

-- ---- what filters, sorts and first occurrences keep

all-filter : (q p : Row → Bool) (xs : List Row) → list_all q xs ≡ true → list_all q (filter p xs) ≡ true
all-filter q p [] h = refl
all-filter q p (x ∷ xs) h = go (p x) (all-filter q p xs (and-right (q x) (list_all q xs) h))
  where
    go : (b : Bool) → list_all q (filter p xs) ≡ true → list_all q (cond b (x ∷ filter p xs) (filter p xs)) ≡ true
    go true r = and-both (q x) (list_all q (filter p xs)) (and-left (q x) (list_all q xs) h) r
    go false r = r

all-insert : (q : Row → Bool) (order : List OrderEntry) (x : Row) (ys : List Row) → q x ≡ true → list_all q ys ≡ true → list_all q (insert_sorted order x ys) ≡ true
all-insert q order x [] h k = and-both (q x) true h refl
all-insert q order x (y ∷ ys) h k = go (is_le (compare_on order x y)) (all-insert q order x ys h (and-right (q y) (list_all q ys) k))
  where
    go : (b : Bool) → list_all q (insert_sorted order x ys) ≡ true → list_all q (cond b (x ∷ y ∷ ys) (y ∷ insert_sorted order x ys)) ≡ true
    go true r = and-both (q x) (list_all q (y ∷ ys)) h k
    go false r = and-both (q y) (list_all q (insert_sorted order x ys)) (and-left (q y) (list_all q ys) k) r

all-sort : (q : Row → Bool) (order : List OrderEntry) (xs : List Row) → list_all q xs ≡ true → list_all q (sort_on order xs) ≡ true
all-sort q order [] h = refl
all-sort q order (x ∷ xs) h = all-insert q order x (sort_on order xs) (and-left (q x) (list_all q xs) h) (all-sort q order xs (and-right (q x) (list_all q xs) h))

pub all-firsts : (q : Row → Bool) (xs : List Row) → list_all q xs ≡ true → list_all q (firsts xs) ≡ true
all-firsts q [] h = refl
all-firsts q (x ∷ xs) h =
    and-both (q x) (list_all q (filter (λ y. not (row_eq x y)) (firsts xs))) (and-left (q x) (list_all q xs) h)
    (all-filter q (λ y. not (row_eq x y)) (firsts xs) (all-firsts q xs (and-right (q x) (list_all q xs) h)))

all-take : (q : Row → Bool) (n : ℕ) (xs : List Row) → list_all q xs ≡ true → list_all q (take n xs) ≡ true
all-take q zero xs h = refl
all-take q (suc n) [] h = refl
all-take q (suc n) (x ∷ xs) h = and-both (q x) (list_all q (take n xs)) (and-left (q x) (list_all q xs) h) (all-take q n xs (and-right (q x) (list_all q xs) h))

-- ---- values of rows that are put together

pub value-left : (l r : Row) (c : ℕ) → c < length l → value_at (l ++ r) c ≡ value_at l c
value-left [] r c h = absurd (omega arith)
value-left (x ∷ l) r zero h = refl
value-left (x ∷ l) r (suc c) h = value-left l r c (omega arith)

pub value-right : (l r : Row) (c d : ℕ) → c ≡ length l + d → value_at (l ++ r) c ≡ value_at r d
value-right [] r c d h = let e : c ≡ d = omega arith in ap (λ k. value_at r k) e
value-right (x ∷ l) r zero d h = absurd (omega arith)
value-right (x ∷ l) r (suc c) d h = value-right l r c d (omega arith)

pub value-kept : (kept : List ℕ) (c d : ℕ) (row tail : Row) → slice_get kept c ≡ Some d → value_at (pick kept row ++ tail) c ≡ value_at row d
value-kept [] c d row tail h = cc
value-kept (k ∷ kept) zero d row tail h = let e : k ≡ d = cc in ap (λ x. value_at row x) e
value-kept (k ∷ kept) (suc c) d row tail h = value-kept kept c d row tail h

-- ---- operators over one input

-- the row has, in the first w columns, the values of the other in the columns that they are copies of
abbrev pub IsCopyOf : ℕ → Copying → Row → Row → Type 0
IsCopyOf w k a x = (c d : ℕ) → c < w → source k c ≡ Some d → value_at a c ≡ value_at x d

pub some-number : (c d : ℕ) → ◌≡◌ {A = Option ℕ} (Some c) (Some d) → c ≡ d
some-number c d e = cc

pub copy-itself : (w : ℕ) (a : Row) → IsCopyOf w whole_rows a a
copy-itself w a c d l e = ap (λ k. value_at a k) (some-number c d e)

-- a row that begins with kept columns
pub copy-kept : (w : ℕ) (kept : List ℕ) (a x tail : Row) → a ≡ pick kept x ++ tail → IsCopyOf w (columns_kept kept) a x
copy-kept w kept a x tail is c d l e = ap (λ r. value_at r c) is ∙ value-kept kept c d x tail e

-- a row that a projection makes
pub copy-entries : (w : ℕ) (es : List Entry) (a x : Row) → a ≡ entries_row es x → IsCopyOf w (entries_kept (map kept_column es)) a x
copy-entries w es a x is c d l e = ap (λ r. value_at r c) is ∙ entry-at es x c d e

-- a row of the list and the row of the input that it comes from
abbrev pub Stem : ℕ → Copying → List Row → Row → Type 0
Stem w k xs a = (x : Row) × (occurs x xs ≡ true) × IsCopyOf w k a x

-- the operator's list is what a function gives, of which each row is one of the input
whole-stem : (w : ℕ) (f : List Row → List Row) → ((q : Row → Bool) (xs : List Row) → list_all q xs ≡ true → list_all q (f xs) ≡ true)
    → (xs ys : List Row) → ◌≡◌ {A = Option (List Row)} (Some (f xs)) (Some ys) → (a : Row) → occurs a ys ≡ true → Stem w whole_rows xs a
whole-stem w f keeps xs ys e a o =
    let is : ys ≡ f xs = cc in
    let P : List Row → Type 0 = λ l. occurs a l ≡ true in
    (a, at-occurring (λ y. occurs y xs) a (f xs) (keeps (λ y. occurs y xs) xs (all-occur xs)) (subst P is o), copy-itself w a)

-- a kept row among the first occurrences
pub first-stem : (kept : List ℕ) (xs : List Row) (key : Row) → occurs key (firsts (map (pick kept) xs)) ≡ true → (x : Row) × (occurs x xs ≡ true) × (key ≡ pick kept x)
first-stem kept xs key o =
    occurs-map (pick kept) key xs
    (at-occurring (λ y. occurs y (map (pick kept) xs)) key (firsts (map (pick kept) xs))
    (all-firsts (λ y. occurs y (map (pick kept) xs)) (map (pick kept) xs) (all-occur (map (pick kept) xs))) o)

group-stem : (w : ℕ) (by : List ℕ) (aggregates : List Aggregate) (xs ys : List Row) → group_rows by aggregates xs ≡ Some ys
    → (a : Row) → occurs a ys ≡ true → Stem w (columns_kept by) xs a
group-stem w by aggregates xs ys e a o = go (list_all (group_fits by aggregates xs) (group_keys by xs)) e
  where
    go : (b : Bool) → cond b (Some (map (group_row by aggregates xs) (group_keys by xs))) None ≡ Some ys → Stem w (columns_kept by) xs a
    go true g =
        let is : ys ≡ map (group_row by aggregates xs) (group_keys by xs) = cc in
        let P : List Row → Type 0 = λ l. occurs a l ≡ true in
        let key = occurs-map (group_row by aggregates xs) a (group_keys by xs) (subst P is o) in
        let stem = first-stem by xs key.0 key.1 in
        let tail : Row = map (λ g. aggregate_of g (of_key by key.0 xs)) aggregates in
        (stem.0, stem.1, copy-kept w by a stem.0 tail (key.2 ∙ ap (λ k. k ++ tail) stem.2))
    go false g = cc

pub unary-stem : (w : ℕ) (op : Unary) (xs ys : List Row) → unary_rows op xs ≡ Some ys → (a : Row) → occurs a ys ≡ true → Stem w (described op).copying xs a
unary-stem w (select fs) xs ys e a o =
    whole-stem w (filter (filters_hold fs)) (λ q l h. all-filter q (filters_hold fs) l h) xs ys
    (ap Some (where-fit-is (filters_fit fs) xs (filter (filters_hold fs) xs) ys e)) a o
unary-stem w (project es) xs ys e a o =
    let is : map (entries_row es) xs ≡ ys = where-fit-is (entries_fit es) xs (map (entries_row es) xs) ys e in
    let P : List Row → Type 0 = λ l. occurs a l ≡ true in
    let stem = occurs-map (entries_row es) a xs (subst P (sym is) o) in
    (stem.0, stem.1, copy-entries w es a stem.0 stem.2)
unary-stem w (distinct cols) xs ys e a o =
    let is : ys ≡ firsts (map (pick cols) xs) = cc in
    let P : List Row → Type 0 = λ l. occurs a l ≡ true in
    let stem = first-stem cols xs a (subst P is o) in
    (stem.0, stem.1, copy-kept w cols a stem.0 [] (stem.2 ∙ sym (append-nil (pick cols stem.0))))
unary-stem w (sort of_parts order) xs ys e a o = whole-stem w (sort_on order) (λ q l h. all-sort q order l h) xs ys e a o
unary-stem w (group plain by aggregates) xs ys e a o = group-stem w by aggregates xs ys e a o
unary-stem w (group partial by aggregates) xs ys e a o = group-stem w by aggregates xs ys e a o
unary-stem w (group final by aggregates) xs ys e a o = group-stem w by aggregates xs ys e a o
unary-stem w (limit m) xs ys e a o = whole-stem w (take m) (λ q l h. all-take q m l h) xs ys e a o

-- ---- joins

pub copy-left : (v w : ℕ) (a l r : Row) → a ≡ l ++ r → length l ≡ v → IsCopyOf w (left_of v) a l
copy-left v w a l r is wide c d n e = go (nat_lt c v) refl e
  where
    go : (b : Bool) → nat_lt c v ≡ b → cond b (Some c) None ≡ Some d → value_at a c ≡ value_at l d
    go true t g =
        let near = ltb-true c v t in
        ap (λ row. value_at row c) is ∙ (value-left l r c (omega (arith, near, wide)) ∙ ap (λ k. value_at l k) (some-number c d g))
    go false t g = cc

pub copy-right : (v w : ℕ) (a l r : Row) → a ≡ l ++ r → length l ≡ v → IsCopyOf w (right_of v) a r
copy-right v w a l r is wide c d n e = go (nat_le v c) refl e
  where
    go : (b : Bool) → nat_le v c ≡ b → cond b (Some (c - v)) None ≡ Some d → value_at a c ≡ value_at r d
    go true t g =
        let far = leb-true v c t in
        let same = some-number (c - v) d g in
        ap (λ row. value_at row c) is ∙ value-right l r c d (omega (arith, far, wide, same))
    go false t g = cc

-- a joined row is a left row and a right row
pub join-stem : (on : List (ℕ × ℕ)) (ls rs : List Row) (a : Row) → occurs a (join_rows on ls rs) ≡ true
    → (l r : Row) × (occurs l ls ≡ true) × (occurs r rs ≡ true) × (a ≡ l ++ r)
join-stem on [] rs a o = absurd (true≢false (sym o))
join-stem on (l ∷ ls) rs a o =
    ⊎_elim
    (λ here.
    let w = occurs-map (λ r. l ++ r) a (filter (matches on l) rs) here in
    let there = at-occurring (λ y. occurs y rs) w.0 (filter (matches on l) rs) (all-filter (λ y. occurs y rs) (matches on l) rs (all-occur rs)) w.1 in
    (l, w.0, or-left (row_eq l l) (occurs l ls) (row_eq-refl l), there, w.2))
    (λ later. let w = join-stem on ls rs a later in (w.0, w.1, or-right (row_eq w.0 l) (occurs w.0 ls) w.2, w.3, w.4))
    (occurs-append a (joined_with on rs l) (join_rows on ls rs) o)

-- a left row that is kept is one of the left rows
pub matched-stem : (matched : Bool) (on : List (ℕ × ℕ)) (conditions : List Condition) (ls rs : List Row) (a : Row) → occurs a (matched_rows matched on conditions ls rs) ≡ true → occurs a ls ≡ true
matched-stem true on conditions ls rs a o =
    at-occurring (λ y. occurs y ls) a (filter (is_matched on conditions rs) ls) (all-filter (λ y. occurs y ls) (is_matched on conditions rs) ls (all-occur ls)) o
matched-stem false on conditions ls rs a o =
    let apart : Row → Bool = λ l. not (is_matched on conditions rs l) in
    at-occurring (λ y. occurs y ls) a (filter apart ls) (all-filter (λ y. occurs y ls) apart ls (all-occur ls)) o

-- ---- the lists that the serial meaning makes

abbrev pub MadeOf : Unary → SerialResult → List Row → Type 0
MadeOf op o ys = (xs : List Row) × (o ≡ rows xs) × (unary_rows op xs ≡ Some ys)

pub unary-made : (db : ℕ → List Row) (n : ℕ) (op : Unary) (p : Plan) (ys : List Row) → after (serial db p) (λ xs. or_overflow n (unary_rows op xs)) ≡ rows ys
    → MadeOf op (serial db p) ys
unary-made db n op p ys e = go (serial db p) e
  where
    made : (o : Option (List Row)) → or_overflow n o ≡ rows ys → o ≡ Some ys
    made (Some zs) f = let s : zs ≡ ys = cc in ap Some s
    made None f = cc

    go : (s : SerialResult) → after s (λ xs. or_overflow n (unary_rows op xs)) ≡ rows ys → MadeOf op s ys
    go (rows xs) f = (xs, refl, made (unary_rows op xs) f)
    go (overflow m) f = cc

abbrev pub MadeOfBoth : Binary → SerialResult → SerialResult → List Row → Type 0
MadeOfBoth op o u zs = (xs ys : List Row) × (o ≡ rows xs) × (u ≡ rows ys) × (binary_rows op xs ys ≡ zs)

pub binary-made : (op : Binary) (o u : SerialResult) (zs : List Row) → after o (λ xs. after u (λ ys. rows (binary_rows op xs ys))) ≡ rows zs
    → MadeOfBoth op o u zs
binary-made op (rows xs) (rows ys) zs e = let s : binary_rows op xs ys ≡ zs = cc in (xs, ys, refl, refl, s)
binary-made op (rows xs) (overflow m) zs e = cc
binary-made op (overflow m) u zs e = cc
