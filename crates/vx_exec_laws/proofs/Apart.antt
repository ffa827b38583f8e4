-- Distinct rows and groups, where equal keys meet in one stream.
use Rattle.std.proofs.Common.{◌≡◌, ◌≢◌, ℕ, zero, suc, ◌+◌, ◌<◌, ◌≤◌, ◌==◌, pos, ◌-ℤ◌, Bool, true, false, cond, not, ◌&&◌, ◌||◌, ◌⊎◌, inl, inr, ⊎_elim, List, [], ◌∷◌, ◌++◌, map, filter, length, refl, sym, ap, ap₂, ◌∙◌, subst, arith, true≢false, eqb-true, is_le, Ordering, Less, Equal, Greater}
use Rattle.std.specs.List.{list_all}
use Rattle.std.specs.Ordering.{ordering_reverse}
use Rattle.std.proofs.lemmas.Bool.{eqb-false}
use Rattle.vx_rows_values.specs.declared.order.OrderEntry.{OrderEntry}
use Rattle.vx_rows_values.specs.Values.{Val, num, Row, val_cmp, row_eq, value_at, pick}
use Rattle.vx_rows_values.specs.Order.{agree, sorted, compare_on}
use Rattle.vx_rows_values.specs.Bags.{total, count, SameRows}
use Rattle.vx_rows_values.specs.Keys.{HasKey}
use Rattle.vx_plan_nodes.specs.Plan.{Route, Aggregate, least, greatest, sum, count_rows}
use Rattle.vx_plan_nodes.specs.Serial.{firsts, group_row, group_fits, of_key, aggregate_of, fits, sum_of, count_of, above_zero, below_zero, least_of, greatest_of, smaller, larger, first_or_none}
use Rattle.vx_rows_values.specs.Types.{fits_64}
use Rattle.vx_plan_nodes.specs.Streams.{Streams, joined, across}
use Rattle.vx_plan_nodes.specs.Routes.{Routing}
use Rattle.vx_check_rules.specs.Rules.{within, contains, numbers_below}
use Rattle.vx_check_rules.specs.Claims.{InItsStream}
use Rattle.vx_exec_laws.proofs.Bags.{and-left, and-right, and-both, when, total-map, total-filter, total-ext, total-zero, total-joined, across-ext, SameRows-all, SameRows-sym}
use Rattle.vx_exec_laws.proofs.Parts.{list_all-weaken}
use Rattle.vx_exec_laws.proofs.Keys.{agree-within, agree-at, one-if-mono}
use Rattle.vx_rows_values.proofs.Compare.{val_cmp_total, val_cmp-same, row_eq-same, row_eq-refl, row_eq-laws, is_eq-Equal, le-reverse, not_gt-le, le-not_gt, agree-both}
use Rattle.std.proofs.lemmas.Cmp.{upto, tied_itself}
use Rattle.vx_exec_laws.proofs.Orders.{list_all-filter, sorted-filter}
use Rattle.vx_exec_laws.proofs.Join.{total-all-ext, total-all-le, across-only}
use Rattle.vx_exec_laws.proofs.Widths.{firsts-all, picks-wide}

pub flag-no : (b : Bool) → b ≡ false → ◌≡◌ {A = ℕ} (cond b 1 0) 0
flag-no true e = absurd (true≢false e)
flag-no false e = refl

pub flag-yes : (b : Bool) → b ≡ true → ◌≡◌ {A = ℕ} (cond b 1 0) 1
flag-yes true e = refl
flag-yes false e = absurd (true≢false (sym e))

-- rows as often as each other have the same totals
unfoldable pub remove_one : Row → List Row → List Row
remove_one x [] = []
remove_one x (y ∷ ys) = cond (row_eq x y) ys (y ∷ remove_one x ys)

pub removed-total : (f : Row → ℕ) (x : Row) (ys : List Row) → 0 < count (row_eq x) ys → total f ys ≡ f x + total f (remove_one x ys)
unfolding remove_one
removed-total f x [] h = absurd (omega arith)
removed-total f x (y ∷ ys) h = cases (row_eq x y) refl (removed-total f x ys)
  where
    cases : (b : Bool) → row_eq x y ≡ b → (0 < count (row_eq x) ys → total f ys ≡ f x + total f (remove_one x ys))
        → f y + total f ys ≡ f x + total f (cond b ys (y ∷ remove_one x ys))
    cases true e ih = let same : x ≡ y = row_eq-same x y e in let v : f x ≡ f y = ap f same in omega arith
    cases false e ih =
        let z = flag-no (row_eq x y) e in
        let v : total f ys ≡ f x + total f (remove_one x ys) = ih (omega (arith, z, h)) in
        omega arith

pub self-counts : (y : Row) (ys : List Row) → 0 < count (row_eq y) (y ∷ ys)
self-counts y ys = let e = flag-yes (row_eq y y) (row_eq-refl y) in omega (arith, e)

pub same-from-counts : (xs ys : List Row) → ((r : Row) → count (row_eq r) xs ≡ count (row_eq r) ys) → SameRows xs ys
same-from-counts [] [] h = record { totals = λ f. refl }
same-from-counts [] (y ∷ ys) h = let e = h y in let k = self-counts y ys in absurd (omega (arith, e, k))
same-from-counts (x ∷ xs) ys h =
    let k = self-counts x xs in
    let e = h x in
    let some : 0 < count (row_eq x) ys = omega (arith, e, k) in
    let ih = same-from-counts xs (remove_one x ys) (λ r.
    let a = h r in
    let b = removed-total (λ y. cond (row_eq r y) 1 0) x ys some in
    omega (arith, a, b)) in
    record { totals = λ f. let a = ih.totals f in let b = removed-total f x ys some in omega (arith, a, b) }

-- first occurrences
abbrev pub sign : ℕ → ℕ
sign zero = 0
sign (suc n) = 1

pub firsts-count : (r : Row) (xs : List Row) → count (row_eq r) (firsts xs) ≡ sign (count (row_eq r) xs)
firsts-count r [] = refl
firsts-count r (x ∷ xs) = cases (row_eq r x) refl (firsts-count r xs)
  where
    drop_rest : count (row_eq r) (filter (λ y. not (row_eq x y)) (firsts xs)) ≡ total (λ y. when (not (row_eq x y)) (cond (row_eq r y) 1 0)) (firsts xs)
    drop_rest = total-filter (λ y. cond (row_eq r y) 1 0) (λ y. not (row_eq x y)) (firsts xs)

    gone : (e : row_eq r x ≡ true) → (y : Row) → when (not (row_eq x y)) (cond (row_eq r y) 1 0) ≡ 0
    gone e y = go (row_eq x y) (row_eq r y) (row_eq-laws.congr r x y e)
      where
        go : (a b : Bool) → b ≡ a → when (not a) (cond b 1 0) ≡ 0
        go true b k = refl
        go false b k = rw k refl

    stays : (e : row_eq r x ≡ false) → (y : Row) → when (not (row_eq x y)) (cond (row_eq r y) 1 0) ≡ cond (row_eq r y) 1 0
    stays e y = go (row_eq r y) (row_eq x y) refl refl
      where
        go : (b a : Bool) → row_eq r y ≡ b → row_eq x y ≡ a → when (not a) (cond b 1 0) ≡ cond b 1 0
        go false true k l = refl
        go false false k l = refl
        go true false k l = refl
        go true true k l = absurd (true≢false (sym (row_eq-laws.congr r y x k ∙ (row_eq-laws.symm y x ∙ l)) ∙ e))

    cases : (b : Bool) → row_eq r x ≡ b → count (row_eq r) (firsts xs) ≡ sign (count (row_eq r) xs)
        → cond b 1 0 + count (row_eq r) (filter (λ y. not (row_eq x y)) (firsts xs)) ≡ sign (cond b 1 0 + count (row_eq r) xs)
    cases true e ih =
        let a : total (λ y. when (not (row_eq x y)) (cond (row_eq r y) 1 0)) (firsts xs) ≡ total (λ y. 0) (firsts xs) = total-ext _ _ (gone e) (firsts xs) in
        let z : total (λ y. 0) (firsts xs) ≡ 0 = total-zero (firsts xs) in
        let d = drop_rest in
        let one : (m : ℕ) → sign (1 + m) ≡ 1 = (λ m. ap sign (let e : 1 + m ≡ suc m = omega arith in e)) in
        omega (arith, a, z, d, one (count (row_eq r) xs))
    cases false e ih =
        let a : total (λ y. when (not (row_eq x y)) (cond (row_eq r y) 1 0)) (firsts xs) ≡ count (row_eq r) (firsts xs) = total-ext _ _ (stays e) (firsts xs) in
        let d = drop_rest in
        let s : sign (0 + count (row_eq r) xs) ≡ sign (count (row_eq r) xs) = ap sign (let e : 0 + count (row_eq r) xs ≡ count (row_eq r) xs = omega arith in e) in
        omega (arith, a, d, s, ih)

pub sign-le : (n : ℕ) → sign n ≤ 1
sign-le zero = omega arith
sign-le (suc n) = omega arith

pub sign-add : (a b : ℕ) → ((a ≡ 0) ⊎ (b ≡ 0)) → sign a + sign b ≡ sign (a + b)
sign-add zero zero h = refl
sign-add zero (suc b) h = ap sign (let e : suc b ≡ 0 + suc b = omega arith in e)
sign-add (suc a) zero h = ap sign (let e : suc a ≡ suc a + 0 = omega arith in e)
sign-add (suc a) (suc b) h = ⊎_elim (λ e. absurd (omega arith)) (λ e. absurd (omega arith)) h

pub across-sign : (n : ℕ) (c : ℕ → ℕ) → ((i j : ℕ) → i < n → j < n → i ≢ j → (c i ≡ 0) ⊎ (c j ≡ 0)) → across n (λ i. sign (c i)) ≡ sign (across n c)
across-sign zero c h = refl
across-sign (suc n) c h =
    ap (λ k. k + sign (c n)) (across-sign n c (λ i j a b ne. h i j (omega arith) (omega arith) ne))
    ∙ sign-add (across n c) (c n) (others n (c n) refl (λ i l. h i n (omega arith) (omega arith) (omega arith)))
  where
    others : (m v : ℕ) → c n ≡ v → ((i : ℕ) → i < m → (c i ≡ 0) ⊎ (c n ≡ 0)) → (across m c ≡ 0) ⊎ (c n ≡ 0)
    others m zero e f = inr e
    others zero (suc v) e f = inl refl
    others (suc m) (suc v) e f = ⊎_elim
        (λ z. ⊎_elim (λ y. inl (omega arith)) (λ y. inr y) (f m (omega arith)))
        (λ z. inr z)
        (others m (suc v) e (λ i l. f i (omega arith)))

-- either no row passes, or one of which P holds does
pub find-in : {X : Type 0} (P p : X → Bool) (xs : List X) → list_all P xs ≡ true → (count p xs ≡ 0) ⊎ ((x : X) × (p x ≡ true) × (P x ≡ true))
find-in P p [] h = inl refl
find-in {X} P p (x ∷ xs) h = cases (p x) refl (find-in P p xs (and-right (P x) (list_all P xs) h))
  where
    cases : (b : Bool) → p x ≡ b → ((count p xs ≡ 0) ⊎ ((x : X) × (p x ≡ true) × (P x ≡ true))) → (cond b 1 0 + count p xs ≡ 0) ⊎ ((x : X) × (p x ≡ true) × (P x ≡ true))
    cases true e r = inr (x, e, and-left (P x) (list_all P xs) h)
    cases false e r = ⊎_elim (λ z. inl (omega arith)) (λ w. inr w) r

-- rows with one key have one route, where the route's columns are among the key's
pub same-route : (goes : Routing) (rt : Route) (cols kept : List ℕ) (n i j : ℕ) (key x y : Row) → within cols kept ≡ true
    → row_eq key (pick kept x) ≡ true → row_eq key (pick kept y) ≡ true
    → (goes rt (pick cols x) n == i) ≡ true → (goes rt (pick cols y) n == j) ≡ true → i ≡ j
same-route goes rt cols kept n i j key x y w hx hy gx gy =
    let a : agree kept x y ≡ true = sym (row_eq-laws.congr key (pick kept x) (pick kept y) hx) ∙ hy in
    let e : pick cols x ≡ pick cols y = row_eq-same _ _ (agree-within cols kept x y w a) in
    let f : goes rt (pick cols x) n ≡ goes rt (pick cols y) n = ap (λ k. goes rt k n) e in
    let g : goes rt (pick cols x) n ≡ i = eqb-true _ i gx in
    let h : goes rt (pick cols y) n ≡ j = eqb-true _ j gy in
    cc

pub picks-same : (kept : List ℕ) {xs ys : List Row} → SameRows xs ys → SameRows (map (pick kept) xs) (map (pick kept) ys)
picks-same kept {xs} {ys} s = record { totals = λ f. total-map f (pick kept) xs ∙ (s.totals (λ r. f (pick kept r)) ∙ sym (total-map f (pick kept) ys)) }

pub firsts-same : {xs ys : List Row} → SameRows xs ys → SameRows (firsts xs) (firsts ys)
firsts-same {xs} {ys} s = same-from-counts (firsts xs) (firsts ys) (λ r.
    firsts-count r xs ∙ (ap sign (s.totals (λ y. cond (row_eq r y) 1 0)) ∙ sym (firsts-count r ys)))

-- the first occurrences of the streams are those of all rows
pub firsts-joined : (goes : Routing) (rt : Route) (cols kept : List ℕ) (n : ℕ) (s s' : Streams) (base : List Row) → within cols kept ≡ true
    → ((w : ℕ) → w < n → firsts (map (pick kept) (s w)) ≡ s' w)
    → SameRows (joined n s) base → InItsStream goes rt cols n s → SameRows (joined n s') (firsts (map (pick kept) base))
firsts-joined goes rt cols kept n s s' base sub run same apart = same-from-counts _ _ (λ r.
    let p : Row → ℕ = λ y. cond (row_eq r y) 1 0 in
    let c : ℕ → ℕ = λ i. total (λ y. p (pick kept y)) (s i) in
    total-joined p n s'
    ∙ (across-ext n (λ i. total p (s' i)) (λ i. sign (c i)) (λ i l. ap (total p) (sym (run i l)) ∙ (firsts-count r (map (pick kept) (s i)) ∙ ap sign (total-map p (pick kept) (s i))))
    ∙ (across-sign n c (λ i j a b ne. pairwise r i j a b ne)
    ∙ (ap sign (sym (total-joined (λ y. p (pick kept y)) n s) ∙ (same.totals (λ y. p (pick kept y)) ∙ sym (total-map p (pick kept) base)))
    ∙ sym (firsts-count r (map (pick kept) base))))))
  where
    pairwise : (r : Row) (i j : ℕ) → i < n → j < n → i ≢ j
        → (total (λ y. cond (row_eq r (pick kept y)) 1 0) (s i) ≡ 0) ⊎ (total (λ y. cond (row_eq r (pick kept y)) 1 0) (s j) ≡ 0)
    pairwise r i j a b ne = ⊎_elim
        (λ z. inl z)
        (λ x. ⊎_elim
        (λ z. inr z)
        (λ y. absurd (ne (same-route goes rt cols kept n i j r x.0 y.0 sub x.1 y.1 x.2 y.2)))
        (find-in (λ row. goes rt (pick cols row) n == j) (λ y. row_eq r (pick kept y)) (s j) (apart j b)))
        (find-in (λ row. goes rt (pick cols row) n == i) (λ y. row_eq r (pick kept y)) (s i) (apart i a))

pub firsts-sorted : (order : List OrderEntry) (xs : List Row) → sorted order xs ≡ true → sorted order (firsts xs) ≡ true
firsts-sorted order [] h = refl
firsts-sorted order (x ∷ xs) h =
    and-both (list_all (λ y. is_le (compare_on order x y)) (filter (λ y. not (row_eq x y)) (firsts xs))) _
    (list_all-filter (λ y. is_le (compare_on order x y)) (λ y. not (row_eq x y)) (firsts xs)
    (firsts-all (λ y. is_le (compare_on order x y)) xs (and-left (list_all (λ y. is_le (compare_on order x y)) xs) (sorted order xs) h)))
    (sorted-filter order (λ y. not (row_eq x y)) (firsts xs) (firsts-sorted order xs (and-right (list_all (λ y. is_le (compare_on order x y)) xs) (sorted order xs) h)))

-- rows of one width that agree on all columns are equal
pub rows-equal : (a b : Row) → length a ≡ length b → ((c : ℕ) → c < length a → value_at a c ≡ value_at b c) → a ≡ b
rows-equal [] [] e h = refl
rows-equal [] (y ∷ b) e h = absurd (omega arith)
rows-equal (x ∷ a) [] e h = absurd (omega arith)
rows-equal (x ∷ a) (y ∷ b) e h =
    let v : x ≡ y = h 0 (omega arith) in
    let t : a ≡ b = rows-equal a b (omega arith) (λ c l. h (suc c) (omega arith)) in
    cc

pub below-contains : (n c : ℕ) → c < n → contains (numbers_below n) c ≡ true
below-contains zero c h = absurd (omega arith)
below-contains (suc n) c h = cases (c == n) refl (below-contains n c)
  where
    cases : (b : Bool) → (c == n) ≡ b → (c < n → contains (numbers_below n) c ≡ true) → (b || contains (numbers_below n) c) ≡ true
    cases true e ih = refl
    cases false e ih = let other : c ≢ n = eqb-false c n e in ih (omega arith)

pub agree-value : (x : List ℕ) (c : ℕ) (a b : Row) → contains x c ≡ true → agree x a b ≡ true → value_at a c ≡ value_at b c
agree-value x c a b h e = val_cmp-same _ _ (is_eq-Equal _ (agree-at x c a b h e))

pub agree-all : (n : ℕ) (x : List ℕ) (a b : Row) → within (numbers_below n) x ≡ true → length a ≡ n → length b ≡ n → agree x a b ≡ true → a ≡ b
agree-all n x a b w ha hb e = rows-equal a b (omega arith) (λ c l.
    agree-value (numbers_below n) c a b (below-contains n c (omega arith)) (agree-within (numbers_below n) x a b w e))

-- a test that counts one row at most at each row that passes it and another test
pub count-witness-in : {X : Type 0} (P p : X → Bool) (xs : List X) → list_all P xs ≡ true → ((x : X) → P x ≡ true → p x ≡ true → count p xs ≤ 1) → count p xs ≤ 1
count-witness-in P p xs k h = ⊎_elim (λ z. omega arith) (λ w. h w.0 w.2 w.1) (find-in P p xs k)

pub count-mono-in : {X : Type 0} (P p q : X → Bool) → ((x : X) → P x ≡ true → p x ≡ true → q x ≡ true) → (xs : List X) → list_all P xs ≡ true → count p xs ≤ count q xs
count-mono-in P p q h xs k = total-all-le P (λ x. cond (p x) 1 0) (λ x. cond (q x) 1 0) (λ x e. one-if-mono (p x) (q x) (h x e)) xs k

-- rows of which no two are equal
pub firsts-at-most : (r : Row) (xs : List Row) → count (row_eq r) (firsts xs) ≤ 1
firsts-at-most r xs = let a = firsts-count r xs in let b = sign-le (count (row_eq r) xs) in omega (arith, a, b)

pub distinct-key : (cols x : List ℕ) (xs : List Row) → within (numbers_below (length cols)) x ≡ true → HasKey x (firsts (map (pick cols) xs))
distinct-key cols x xs w row =
    let P : Row → Bool = λ r. length r == length cols in
    let ys : List Row = firsts (map (pick cols) xs) in
    let wide : list_all P ys ≡ true = firsts-all P (map (pick cols) xs) (picks-wide cols xs) in
    count-witness-in P (agree x row) ys wide (λ r0 h0 e0.
    let a : count (agree x row) ys ≤ count (row_eq r0) ys = count-mono-in P (agree x row) (row_eq r0) (λ r h e.
    let same : r0 ≡ r = agree-all (length cols) x r0 r w (eqb-true _ _ h0) (eqb-true _ _ h) (agree-both x row r0 r e0 e) in
    let Q : Row → Type 0 = λ v. row_eq r0 v ≡ true in
    subst Q same (row_eq-refl r0)) ys wide in
    let b = firsts-at-most r0 (map (pick cols) xs) in
    omega (arith, a, b))

-- aggregates of the same rows
pub of_key-same : (by : List ℕ) (key : Row) {xs ys : List Row} → SameRows xs ys → SameRows (of_key by key xs) (of_key by key ys)
of_key-same by key {xs} {ys} s = record {
  totals = λ f. total-filter f (λ r. row_eq key (pick by r)) xs
      ∙ (s.totals (λ r. when (row_eq key (pick by r)) (f r)) ∙ sym (total-filter f (λ r. row_eq key (pick by r)) ys));
}

pub sum-same : (c : ℕ) {xs ys : List Row} → SameRows xs ys → sum_of c xs ≡ sum_of c ys
sum-same c {xs} {ys} s = ap₂ (λ a b. pos a -ℤ pos b) (s.totals (λ r. above_zero (value_at r c))) (s.totals (λ r. below_zero (value_at r c)))

pub count-same : {xs ys : List Row} → SameRows xs ys → count_of xs ≡ count_of ys
count-same s = ap (λ a. pos a) (s.totals (λ r. 1))

pub fits-same : (a : Aggregate) {xs ys : List Row} → SameRows xs ys → fits a xs ≡ fits a ys
fits-same (least c) s = refl
fits-same (greatest c) s = refl
fits-same (sum c) s = ap fits_64 (sum-same c s)
fits-same count_rows s = ap fits_64 (count-same s)

pub val-trans : (a b c : Val) → is_le (val_cmp a b) ≡ true → is_le (val_cmp b c) ≡ true → is_le (val_cmp a c) ≡ true
val-trans a b c h k = le-not_gt _ (upto val_cmp_total a b c (not_gt-le _ h) (not_gt-le _ k))

val-other : (a b : Val) → is_le (val_cmp a b) ≡ false → is_le (val_cmp b a) ≡ true
val-other a b h = le-reverse (val_cmp a b) (val_cmp b a) (val_cmp_total.antisymm a b) h

pub val-refl : (a : Val) → is_le (val_cmp a a) ≡ true
val-refl a = let e = tied_itself val_cmp_total a in ap is_le e

pub val-both : (a b : Val) → is_le (val_cmp a b) ≡ true → is_le (val_cmp b a) ≡ true → a ≡ b
val-both a b h k = val_cmp-same a b (go (val_cmp a b) (val_cmp b a) (val_cmp_total.antisymm a b) h k)
  where
    go : (o p : Ordering) → o ≡ ordering_reverse p → is_le o ≡ true → is_le p ≡ true → o ≡ Equal
    go o Less e h k = let b : is_le o ≡ false = ap is_le e in absurd (true≢false (sym h ∙ b))
    go o Equal e h k = e
    go o Greater e h k = absurd (true≢false (sym k))

-- the least and the greatest value: one of the values, and none of them comes before it
pub record Extreme (of : ℕ → Row → List Row → Val) (before : Val → Val → Bool) : Type 0 where
  pub among : (c : ℕ) (x : Row) (xs : List Row) (p : Val → Bool) → list_all (λ r. p (value_at r c)) (x ∷ xs) ≡ true → p (of c x xs) ≡ true
  pub first : (c : ℕ) (x : Row) (xs : List Row) → list_all (λ r. before (of c x xs) (value_at r c)) (x ∷ xs) ≡ true
  pub trans : (a b c : Val) → before a b ≡ true → before b c ≡ true → before a c ≡ true
  pub both : (a b : Val) → before a b ≡ true → before b a ≡ true → a ≡ b

-- one of two values, before both
pub record Chosen (before : Val → Val → Bool) (a b chosen : Val) : Type 0 where
  pub one_of : (p : Val → Bool) → p a ≡ true → p b ≡ true → p chosen ≡ true
  pub before_first : before chosen a ≡ true
  pub before_second : before chosen b ≡ true

module _ (of : ℕ → Row → List Row → Val) (before : Val → Val → Bool) (choose : Val → Val → Val)
    (of_one : (c : ℕ) (x : Row) → of c x [] ≡ value_at x c) (of_more : (c : ℕ) (x y : Row) (ys : List Row) → of c x (y ∷ ys) ≡ choose (value_at x c) (of c y ys))
    (chooses : (a b : Val) → Chosen before a b (choose a b)) (itself : (a : Val) → before a a ≡ true)
    (trans : (a b c : Val) → before a b ≡ true → before b c ≡ true → before a c ≡ true) where
  extreme-among : (c : ℕ) (x : Row) (xs : List Row) (p : Val → Bool) → list_all (λ r. p (value_at r c)) (x ∷ xs) ≡ true → p (of c x xs) ≡ true
  extreme-among c x [] p h = ap p (of_one c x) ∙ and-left (p (value_at x c)) true h
  extreme-among c x (y ∷ ys) p h =
      let rest : Bool = list_all (λ r. p (value_at r c)) (y ∷ ys) in
      ap p (of_more c x y ys) ∙ (chooses (value_at x c) (of c y ys)).one_of p (and-left (p (value_at x c)) rest h) (extreme-among c y ys p (and-right (p (value_at x c)) rest h))

  extreme-first : (c : ℕ) (x : Row) (xs : List Row) → list_all (λ r. before (of c x xs) (value_at r c)) (x ∷ xs) ≡ true
  extreme-first c x [] = and-both _ true (ap (λ v. before v (value_at x c)) (of_one c x) ∙ itself (value_at x c)) refl
  extreme-first c x (y ∷ ys) =
      let k = chooses (value_at x c) (of c y ys) in
      let v : Val = choose (value_at x c) (of c y ys) in
      let P : Val → Type 0 = λ u. list_all (λ r. before u (value_at r c)) (x ∷ y ∷ ys) ≡ true in
      subst P (sym (of_more c x y ys)) (and-both (before v (value_at x c)) (list_all (λ r. before v (value_at r c)) (y ∷ ys)) k.before_first
      (list_all-weaken (λ r. before (of c y ys) (value_at r c)) (λ r. before v (value_at r c)) (λ r e. trans v (of c y ys) (value_at r c) k.before_second e) (y ∷ ys) (extreme-first c y ys)))

pub least-extreme : Extreme least_of (λ a b. is_le (val_cmp a b))
least-extreme = record {
  among = extreme-among least_of le smaller (λ c x. refl) (λ c x y ys. refl) chooses val-refl val-trans;
  first = extreme-first least_of le smaller (λ c x. refl) (λ c x y ys. refl) chooses val-refl val-trans;
  trans = val-trans;
  both = val-both;
}
  where
    le : Val → Val → Bool
    le a b = is_le (val_cmp a b)

    chooses : (a b : Val) → Chosen le a b (smaller a b)
    chooses a b = go (is_le (val_cmp a b)) refl
      where
        go : (t : Bool) → is_le (val_cmp a b) ≡ t → Chosen le a b (cond t a b)
        go true e = record { one_of = λ p u v. u; before_first = val-refl a; before_second = e }
        go false e = record { one_of = λ p u v. v; before_first = val-other a b e; before_second = val-refl b }

pub greatest-extreme : Extreme greatest_of (λ a b. is_le (val_cmp b a))
greatest-extreme = record {
  among = extreme-among greatest_of ge larger (λ c x. refl) (λ c x y ys. refl) chooses val-refl above;
  first = extreme-first greatest_of ge larger (λ c x. refl) (λ c x y ys. refl) chooses val-refl above;
  trans = above;
  both = λ a b h k. val-both a b k h;
}
  where
    ge : Val → Val → Bool
    ge a b = is_le (val_cmp b a)

    above : (a b c : Val) → is_le (val_cmp b a) ≡ true → is_le (val_cmp c b) ≡ true → is_le (val_cmp c a) ≡ true
    above a b c h k = val-trans c b a k h

    chooses : (a b : Val) → Chosen ge a b (larger a b)
    chooses a b = go (is_le (val_cmp a b)) refl
      where
        go : (t : Bool) → is_le (val_cmp a b) ≡ t → Chosen ge a b (cond t b a)
        go true e = record { one_of = λ p u v. v; before_first = e; before_second = val-refl b }
        go false e = record { one_of = λ p u v. u; before_first = val-refl a; before_second = val-other a b e }

pub nothing-same : (x : Row) (xs : List Row) → SameRows [] (x ∷ xs) → ⊥
nothing-same x xs s = let e = s.totals (λ r. 1) in absurd (omega (arith, e))

extreme-same : (of : ℕ → Row → List Row → Val) (before : Val → Val → Bool) → Extreme of before → (c : ℕ) (xs ys : List Row) → SameRows xs ys → first_or_none (of c) xs ≡ first_or_none (of c) ys
extreme-same of before e c [] [] s = refl
extreme-same of before e c [] (y ∷ ys) s = absurd (nothing-same y ys s)
extreme-same of before e c (x ∷ xs) [] s = absurd (nothing-same x xs (SameRows-sym s))
extreme-same of before e c (x ∷ xs) (y ∷ ys) s =
    e.both (of c x xs) (of c y ys)
    (e.among c y ys (λ v. before (of c x xs) v) (SameRows-all s (λ r. before (of c x xs) (value_at r c)) (e.first c x xs)))
    (e.among c x xs (λ v. before (of c y ys) v) (SameRows-all (SameRows-sym s) (λ r. before (of c y ys) (value_at r c)) (e.first c y ys)))

pub aggregate-same : (a : Aggregate) (xs ys : List Row) → SameRows xs ys → aggregate_of a xs ≡ aggregate_of a ys
aggregate-same (least c) xs ys s = extreme-same least_of (λ a b. is_le (val_cmp a b)) least-extreme c xs ys s
aggregate-same (greatest c) xs ys s = extreme-same greatest_of (λ a b. is_le (val_cmp b a)) greatest-extreme c xs ys s
aggregate-same (sum c) xs ys s = ap num (sum-same c s)
aggregate-same count_rows xs ys s = ap num (count-same s)

-- groups of the same rows of a key
pub values-same : (aggregates : List Aggregate) (xs ys : List Row) → SameRows xs ys → map (λ a. aggregate_of a xs) aggregates ≡ map (λ a. aggregate_of a ys) aggregates
values-same [] xs ys s = refl
values-same (a ∷ aggregates) xs ys s =
    let e : aggregate_of a xs ≡ aggregate_of a ys = aggregate-same a xs ys s in
    let t : map (λ a. aggregate_of a xs) aggregates ≡ map (λ a. aggregate_of a ys) aggregates = values-same aggregates xs ys s in
    cc

pub all-fit-same : (aggregates : List Aggregate) (xs ys : List Row) → SameRows xs ys → list_all (λ a. fits a xs) aggregates ≡ list_all (λ a. fits a ys) aggregates
all-fit-same [] xs ys s = refl
all-fit-same (a ∷ aggregates) xs ys s = ap₂ (λ b c. b && c) (fits-same a s) (all-fit-same aggregates xs ys s)

pub group_row-same : (by : List ℕ) (aggregates : List Aggregate) (xs ys : List Row) (key : Row) → SameRows (of_key by key xs) (of_key by key ys)
    → group_row by aggregates xs key ≡ group_row by aggregates ys key
group_row-same by aggregates xs ys key s = ap (λ v. key ++ v) (values-same aggregates (of_key by key xs) (of_key by key ys) s)

pub group_fits-same : (by : List ℕ) (aggregates : List Aggregate) (xs ys : List Row) (key : Row) → SameRows (of_key by key xs) (of_key by key ys)
    → group_fits by aggregates xs key ≡ group_fits by aggregates ys key
group_fits-same by aggregates xs ys key s = all-fit-same aggregates (of_key by key xs) (of_key by key ys) s

-- a key's rows all stand in the stream of one of them
pub key-apart : (goes : Routing) (rt : Route) (cols by : List ℕ) (n : ℕ) (s : Streams) (base : List Row) → within cols by ≡ true
    → SameRows (joined n s) base → InItsStream goes rt cols n s
    → (i : ℕ) → i < n → (x : Row) → (goes rt (pick cols x) n == i) ≡ true → SameRows (of_key by (pick by x) (s i)) (of_key by (pick by x) base)
key-apart goes rt cols by n s base sub same apart i l x here = record {
  totals = λ f.
      let g : Row → ℕ = λ r. when (row_eq (pick by x) (pick by r)) (f r) in
      total-filter f (λ r. row_eq (pick by x) (pick by r)) (s i)
      ∙ (sym (across-only n i (λ j. total g (s j)) l (λ j k ne.
      total-all-ext (λ row. goes rt (pick cols row) n == j) g (λ r. 0) (λ r h. elsewhere f j r ne h) (s j) (apart j k) ∙ total-zero (s j)))
      ∙ (sym (total-joined g n s) ∙ (same.totals g ∙ sym (total-filter f (λ r. row_eq (pick by x) (pick by r)) base))));
}
  where
    elsewhere : (f : Row → ℕ) (j : ℕ) (r : Row) → j ≢ i → (goes rt (pick cols r) n == j) ≡ true → when (row_eq (pick by x) (pick by r)) (f r) ≡ 0
    elsewhere f j r ne h = go (row_eq (pick by x) (pick by r)) refl
      where
        go : (b : Bool) → row_eq (pick by x) (pick by r) ≡ b → when b (f r) ≡ 0
        go true e = absurd (ne (sym (same-route goes rt cols by n i j (pick by x) x r sub (row_eq-refl (pick by x)) e here h)))
        go false e = refl
