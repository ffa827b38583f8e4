-- Keys and determined columns of the lists of which the keys of nodes are claimed: at an open node the keys of its groups, without aggregates.
use Rattle.std.proofs.Common.{◌≡◌, ℕ, ◌+◌, ◌==◌, Bool, true, false, cond, not, ◌||◌, ⊎_elim, List, [], ◌∷◌, ◌++◌, map, length, refl, sym, ap, ◌∙◌, subst, arith, true≢false, Option, Some, None, slice_get, eqb-true, eq-eqb, append-nil}
use Rattle.std.specs.List.{list_all}
use Rattle.std.proofs.lemmas.Bool.{cases_lt}
use Rattle.std.proofs.lemmas.List.{length-map}
use Rattle.vx_rows_values.specs.Values.{Val, Row, row_eq, value_at, pick}
use Rattle.vx_rows_values.specs.declared.order.OrderEntry.{OrderEntry}
use Rattle.vx_rows_values.specs.Order.{agree, compare_on, insert_sorted, sort_on}
use Rattle.vx_rows_values.specs.Bags.{total}
use Rattle.vx_rows_values.specs.Keys.{HasKey, is_key}
use Rattle.std.specs.Ordering.{is_le}
use Rattle.vx_rows_values.proofs.Booleans.{and-left, and-right, and-both}
use Rattle.vx_rows_values.proofs.Compare.{row_eq-same}
use Rattle.vx_rows_values.proofs.KeyFacts.{to-key, from-key}
use Rattle.vx_catalog_relations.specs.Relation.{Relation, KeysHold}
use Rattle.vx_plan_nodes.specs.Plan.{Plan, scan, unary, binary, exchange, select, project, distinct, sort, group, limit, plain, partial, final, Aggregate}
use Rattle.vx_plan_nodes.specs.Phases.{spoken, listed}
use Rattle.vx_plan_nodes.specs.Types.{width}
use Rattle.vx_plan_nodes.specs.Describe.{columns_kept, whole_rows}
use Rattle.vx_plan_nodes.specs.Serial.{rows, serial, aggregate_of, of_key, group_keys, group_row, group_fits, group_rows}
use Rattle.vx_plan_facts.specs.Equal.{Equality, both_equal, lifted, equal_at}
use Rattle.vx_plan_facts.specs.Fixed.{Values, values_at, carried_values, has_value, fixed_at}
use Rattle.vx_plan_facts.specs.RowFacts.{MeetsFacts}
use Rattle.vx_plan_facts.specs.Determined.{by_input, determined}
use Rattle.vx_plan_facts.specs.DeterminedFacts.{occurs, FactsHold, ListedKeysHold, KeysOfSerial, DeterminedInListed}
use Rattle.vx_plan_facts.proofs.Tests.{or-cases}
use Rattle.vx_plan_facts.proofs.Stems.{all-firsts, value-left, value-kept, first-stem, copy-itself, copy-kept, unary-made}
use Rattle.vx_plan_facts.proofs.Meaning.{past-end, agree-of, ShortFacts, short-facts, HoldsOf, input-agrees, closure-agrees, facts-here, determined-holds}

-- ---- keys of rows that go on behind their first columns

-- rows of one length that agree with something behind them agree without it: past their end both have the same value
front-same : (n : ℕ) (cols : List ℕ) (a b t u : Row) → length a ≡ n → length b ≡ n → pick cols (a ++ t) ≡ pick cols (b ++ u) → pick cols a ≡ pick cols b
front-same n [] a b t u la lb e = refl
front-same n (c ∷ cols) a b t u la lb e =
    let here : value_at a c ≡ value_at b c = ⊎_elim
    (λ l. sym (value-left a t c (omega (arith, la))) ∙ (heads e ∙ value-left b u c (omega (arith, lb))))
    (λ g. past-end a c (omega (arith, la)) ∙ sym (past-end b c (omega (arith, lb))))
    (cases_lt c n) in
    let rest : pick cols a ≡ pick cols b = front-same n cols a b t u la lb (tails e) in
    cc
  where
    heads : {x y : Val} {xs ys : Row} → x ∷ xs ≡ y ∷ ys → x ≡ y
    heads h = cc

    tails : {x y : Val} {xs ys : Row} → x ∷ xs ≡ y ∷ ys → xs ≡ ys
    tails h = cc

agree-same : (cols : List ℕ) (a b : Row) → agree cols a b ≡ true → pick cols a ≡ pick cols b
agree-same cols a b e = row_eq-same (pick cols a) (pick cols b) e

front-apart : (n : ℕ) (cols : List ℕ) (tail : Row → Row) (a b : Row) → length a ≡ n → length b ≡ n → not (agree cols a b) ≡ true
    → not (agree cols (a ++ tail a) (b ++ tail b)) ≡ true
front-apart n cols tail a b la lb h = go (agree cols (a ++ tail a) (b ++ tail b)) refl
  where
    go : (x : Bool) → agree cols (a ++ tail a) (b ++ tail b) ≡ x → not x ≡ true
    go false e = refl
    go true e =
        let yes : agree cols a b ≡ true = agree-of cols a b (front-same n cols a b (tail a) (tail b) la lb (agree-same cols (a ++ tail a) (b ++ tail b) e)) in
        sym (ap not yes) ∙ h

front-all-apart : (n : ℕ) (cols : List ℕ) (tail : Row → Row) (a : Row) (xs : List Row) → length a ≡ n → list_all (λ r. length r == n) xs ≡ true
    → list_all (λ y. not (agree cols a y)) xs ≡ true → list_all (λ y. not (agree cols (a ++ tail a) y)) (map (λ r. r ++ tail r) xs) ≡ true
front-all-apart n cols tail a [] la w h = refl
front-all-apart n cols tail a (x ∷ xs) la w h =
    let lx : length x ≡ n = eqb-true (length x) n (and-left (length x == n) (list_all (λ r. length r == n) xs) w) in
    and-both (not (agree cols (a ++ tail a) (x ++ tail x))) (list_all (λ y. not (agree cols (a ++ tail a) y)) (map (λ r. r ++ tail r) xs))
    (front-apart n cols tail a x la lx (and-left (not (agree cols a x)) (list_all (λ y. not (agree cols a y)) xs) h))
    (front-all-apart n cols tail a xs la (and-right (length x == n) (list_all (λ r. length r == n) xs) w)
    (and-right (not (agree cols a x)) (list_all (λ y. not (agree cols a y)) xs) h))

-- a key of rows of one length is one of those with something behind each
front-key : (n : ℕ) (cols : List ℕ) (tail : Row → Row) (xs : List Row) → list_all (λ r. length r == n) xs ≡ true
    → is_key cols xs ≡ true → is_key cols (map (λ r. r ++ tail r) xs) ≡ true
front-key n cols tail [] w h = refl
front-key n cols tail (x ∷ xs) w h =
    let lx : length x ≡ n = eqb-true (length x) n (and-left (length x == n) (list_all (λ r. length r == n) xs) w) in
    let others = and-right (length x == n) (list_all (λ r. length r == n) xs) w in
    and-both (list_all (λ y. not (agree cols (x ++ tail x) y)) (map (λ r. r ++ tail r) xs)) (is_key cols (map (λ r. r ++ tail r) xs))
    (front-all-apart n cols tail x xs lx others (and-left (list_all (λ y. not (agree cols x y)) xs) (is_key cols xs) h))
    (front-key n cols tail xs others (and-right (list_all (λ y. not (agree cols x y)) xs) (is_key cols xs) h))

keys-wide : (by : List ℕ) (xs : List Row) → list_all (λ r. length r == length by) (group_keys by xs) ≡ true
keys-wide by xs = all-firsts (λ r. length r == length by) (map (pick by) xs) (picks xs)
  where
    picks : (xs : List Row) → list_all (λ r. length r == length by) (map (pick by) xs) ≡ true
    picks [] = refl
    picks (x ∷ xs) =
        and-both (length (pick by x) == length by) (list_all (λ r. length r == length by) (map (pick by) xs))
        (eq-eqb (length (pick by x)) (length by) (length-map by (λ c. value_at x c))) (picks xs)

group-keys-hold : (keys : List (List ℕ)) (by : List ℕ) (aggregates : List Aggregate) (xs ys : List Row) → group_rows by aggregates xs ≡ Some ys
    → KeysHold keys (group_keys by xs) → KeysHold keys ys
group-keys-hold [] by aggregates xs ys e h = tt
group-keys-hold (k ∷ keys) by aggregates xs ys e h = (here (list_all (group_fits by aggregates xs) (group_keys by xs)) e, group-keys-hold keys by aggregates xs ys e h.1)
  where
    tail : Row → Row
    tail key = map (λ a. aggregate_of a (of_key by key xs)) aggregates

    here : (b : Bool) → cond b (Some (map (group_row by aggregates xs) (group_keys by xs))) None ≡ Some ys → HasKey k ys
    here true g =
        let is : map (group_row by aggregates xs) (group_keys by xs) ≡ ys = cc in
        let P : List Row → Type 0 = λ l. HasKey k l in
        subst P is (to-key k (map (group_row by aggregates xs) (group_keys by xs))
        (front-key (length by) k (λ key. map (λ a. aggregate_of a (of_key by key xs)) aggregates) (group_keys by xs) (keys-wide by xs) (from-key k (group_keys by xs) h.0)))
    here false g = cc

-- ---- sorts of parts

insert-total : (f : Row → ℕ) (order : List OrderEntry) (x : Row) (ys : List Row) → total f (insert_sorted order x ys) ≡ f x + total f ys
insert-total f order x [] = refl
insert-total f order x (y ∷ ys) = go (is_le (compare_on order x y)) (insert-total f order x ys)
  where
    go : (b : Bool) → total f (insert_sorted order x ys) ≡ f x + total f ys → total f (cond b (x ∷ y ∷ ys) (y ∷ insert_sorted order x ys)) ≡ f x + (f y + total f ys)
    go true h = refl
    go false h = omega (arith, h)

sort-total : (f : Row → ℕ) (order : List OrderEntry) (xs : List Row) → total f (sort_on order xs) ≡ total f xs
sort-total f order [] = refl
sort-total f order (x ∷ xs) = let a = insert-total f order x (sort_on order xs) in let b = sort-total f order xs in omega (arith, a, b)

keys-sorted : (keys : List (List ℕ)) (order : List OrderEntry) (xs : List Row) → KeysHold keys xs → KeysHold keys (sort_on order xs)
keys-sorted [] order xs h = tt
keys-sorted (k ∷ keys) order xs h =
    (λ row. let a = sort-total (λ r. cond (agree k row r) 1 0) order xs in let b = h.0 row in omega (arith, a, b), keys-sorted keys order xs h.1)

keys-unsorted : (keys : List (List ℕ)) (order : List OrderEntry) (xs : List Row) → KeysHold keys (sort_on order xs) → KeysHold keys xs
keys-unsorted [] order xs h = tt
keys-unsorted (k ∷ keys) order xs h =
    (λ row. let a = sort-total (λ r. cond (agree k row r) 1 0) order xs in let b = h.0 row in omega (arith, a, b), keys-unsorted keys order xs h.1)

occurs-unsorted : (order : List OrderEntry) (a : Row) (xs : List Row) → occurs a (sort_on order xs) ≡ true → occurs a xs ≡ true
occurs-unsorted order a [] h = h
occurs-unsorted order a (x ∷ xs) h = or-later (row_eq a x) (occurs a (sort_on order xs)) (occurs a xs) (occurs-unsorted order a xs) (insert-occurs (sort_on order xs) h)
  where
    or-later : (b c d : Bool) → (c ≡ true → d ≡ true) → (b || c) ≡ true → (b || d) ≡ true
    or-later true c d f h = refl
    or-later false c d f h = f h

    swap : (b c d : Bool) → (b || (c || d)) ≡ true → (c || (b || d)) ≡ true
    swap true true d h = refl
    swap true false d h = refl
    swap false true d h = refl
    swap false false d h = h

    insert-occurs : (ys : List Row) → occurs a (insert_sorted order x ys) ≡ true → (row_eq a x || occurs a ys) ≡ true
    insert-occurs [] h = h
    insert-occurs (y ∷ ys) h = go (is_le (compare_on order x y)) h (insert-occurs ys)
      where
        go : (b : Bool) → occurs a (cond b (x ∷ y ∷ ys) (y ∷ insert_sorted order x ys)) ≡ true → (occurs a (insert_sorted order x ys) ≡ true → (row_eq a x || occurs a ys) ≡ true)
            → (row_eq a x || (row_eq a y || occurs a ys)) ≡ true
        go true h f = h
        go false h f = swap (row_eq a y) (row_eq a x) (occurs a ys) (or-later (row_eq a y) (occurs a (insert_sorted order x ys)) (row_eq a x || occurs a ys) f h)

-- ---- from the lists of which keys are claimed to the serial lists

keys-of : (db : ℕ → List Row) (keys : List (List ℕ)) (p : Plan) → ((base : List Row) → serial db (spoken p) ≡ rows base → KeysHold keys (listed p base))
    → (ys : List Row) → serial db p ≡ rows ys → KeysHold keys ys
keys-of db keys (scan n c r m z) h ys e = h ys e
keys-of db keys (unary n c (select cs) p) h ys e = h ys e
keys-of db keys (unary n c (project cols) p) h ys e = h ys e
keys-of db keys (unary n c (distinct cols) p) h ys e = h ys e
keys-of db keys (unary n c (sort false cols) p) h ys e = h ys e
keys-of db keys (unary n c (sort true cols) p) h ys e =
    let made = unary-made db n (sort true cols) p ys e in
    let is : sort_on cols made.0 ≡ ys = cc in
    let P : List Row → Type 0 = λ l. KeysHold keys l in
    subst P is (keys-sorted keys cols made.0 (keys-of db keys p (λ base k. keys-unsorted keys cols (listed p base) (h base k)) made.0 made.1))
keys-of db keys (unary n c (group plain by aggregates) p) h ys e = h ys e
keys-of db keys (unary n c (group partial by aggregates) p) h ys e =
    let made = unary-made db n (group partial by aggregates) p ys e in
    group-keys-hold keys by aggregates made.0 ys made.2 (h made.0 made.1)
keys-of db keys (unary n c (group final by aggregates) p) h ys e = h ys e
keys-of db keys (unary n c (limit m) p) h ys e = h ys e
keys-of db keys (binary n c op p q) h ys e = h ys e
keys-of db keys (exchange n c k m p) h ys e = keys-of db keys p h ys e

pub keys-of-serial : KeysOfSerial
keys-of-serial db (scan n c r m z) h = h
keys-of-serial db (unary n c op p) h = (keys-of db c.keys (unary n c op p) h.0, keys-of-serial db p h.1)
keys-of-serial db (binary n c op p q) h = (h.0, keys-of-serial db p h.1, keys-of-serial db q h.2)
keys-of-serial db (exchange n c k m p) h = (keys-of db c.keys (exchange n c k m p) h.0, keys-of-serial db p h.1)

-- ---- the facts of the keys of groups

kept-value : (kept : List ℕ) (c d : ℕ) (a x : Row) → a ≡ pick kept x → slice_get kept c ≡ Some d → value_at a c ≡ value_at x d
kept-value kept c d a x is e = ap (λ r. value_at r c) (is ∙ sym (append-nil (pick kept x))) ∙ value-kept kept c d x [] e

key-facts : (v n : ℕ) (e : Equality) (f : Values) (by : List ℕ) (a x : Row) → MeetsFacts v e f x → a ≡ pick by x
    → ShortFacts (length by + n) (lifted (columns_kept by) e) (carried_values (columns_kept by) f) a
key-facts v n e f by a x h is = record {
  short = let l = length-map by (λ c. value_at x c) in let k = ap length is in omega (arith, l, k);
  alike = λ c d t. ⊎_elim (λ same. ap (λ k. value_at a k) (eqb-true c d same)) (λ r. both c d (slice_get by c) (slice_get by d) refl refl r)
      (or-cases (c == d) (both_equal e (slice_get by c) (slice_get by d)) t);
  fixed = λ c u t. one c (slice_get by c) refl u t;
}
  where
    both : (c d : ℕ) (o p : Option ℕ) → slice_get by c ≡ o → slice_get by d ≡ p → both_equal e o p ≡ true → value_at a c ≡ value_at a d
    both c d (Some i) (Some j) g k t =
        kept-value by c i a x is g
        ∙ (h.alike i j t ∙ sym (kept-value by d j a x is k))
    both c d (Some i) None g k t = absurd (true≢false (sym t))
    both c d None p g k t = absurd (true≢false (sym t))

    one : (c : ℕ) (o : Option ℕ) → slice_get by c ≡ o → (u : Val) → has_value (values_at f o) u ≡ true → value_at a c ≡ u
    one c (Some i) g u t = kept-value by c i a x is g ∙ h.fixed i u t
    one c None g u t = absurd (true≢false (sym t))

whole-facts : (w : ℕ) (e : Equality) (f : Values) (a : Row) → ShortFacts w e f a → ShortFacts w (lifted whole_rows e) (carried_values whole_rows f) a
whole-facts w e f a h = record {
  short = h.short;
  alike = λ c d t. ⊎_elim (λ same. ap (λ k. value_at a k) (eqb-true c d same)) (λ r. h.alike c d r) (or-cases (c == d) (e c d) t);
  fixed = λ c u t. h.fixed c u t;
}

-- each row of the list of which a node's keys are claimed has the facts of the node
listed-facts : (catalog : ℕ → Relation) (db : ℕ → List Row) (p : Plan) → FactsHold catalog db p
    → (base : List Row) → serial db (spoken p) ≡ rows base → (a : Row) → occurs a (listed p base) ≡ true
    → ShortFacts (width catalog p) (equal_at catalog p) (fixed_at catalog p) a
listed-facts catalog db (scan n c r m z) f base e a o = short-facts (f base e a o)
listed-facts catalog db (unary n c (select cs) p) f base e a o = short-facts (f.0 base e a o)
listed-facts catalog db (unary n c (project cols) p) f base e a o = short-facts (f.0 base e a o)
listed-facts catalog db (unary n c (distinct cols) p) f base e a o = short-facts (f.0 base e a o)
listed-facts catalog db (unary n c (sort false cols) p) f base e a o = short-facts (f.0 base e a o)
listed-facts catalog db (unary n c (sort true cols) p) f base e a o =
    whole-facts (width catalog p) (equal_at catalog p) (fixed_at catalog p) a (listed-facts catalog db p f.1 base e a (occurs-unsorted cols a (listed p base) o))
listed-facts catalog db (unary n c (group plain by aggregates) p) f base e a o = short-facts (f.0 base e a o)
listed-facts catalog db (unary n c (group partial by aggregates) p) f base e a o =
    let x = first-stem by base a o in
    key-facts (width catalog p) (length aggregates) (equal_at catalog p) (fixed_at catalog p) by a x.0 (facts-here catalog db p f.1 base e x.0 x.1) x.2
listed-facts catalog db (unary n c (group final by aggregates) p) f base e a o = short-facts (f.0 base e a o)
listed-facts catalog db (unary n c (limit m) p) f base e a o = short-facts (f.0 base e a o)
listed-facts catalog db (binary n c op p q) f base e a o = short-facts (f.0 base e a o)
listed-facts catalog db (exchange n c k m p) f base e a o = listed-facts catalog db p f.1 base e a o

-- ---- determined columns

-- a node that is neither a partial nor an exchange has its serial list there
closed-holds : (catalog : ℕ → Relation) (db : ℕ → List Row) (p : Plan) → FactsHold catalog db p → ListedKeysHold db p
    → (base : List Row) → serial db p ≡ rows base → (a b : Row) → occurs a base ≡ true → occurs b base ≡ true → HoldsOf (width catalog p) (determined catalog p) a b
closed-holds catalog db p f h base e a b o u s k = determined-holds catalog db p f (keys-of-serial db p h) base e a b o u s k

pub determined-in-listed : DeterminedInListed
determined-in-listed catalog db (scan n c r m z) f h base e a b o u = closed-holds catalog db (scan n c r m z) f h base e a b o u
determined-in-listed catalog db (unary n c (select cs) p) f h base e a b o u = closed-holds catalog db (unary n c (select cs) p) f h base e a b o u
determined-in-listed catalog db (unary n c (project cols) p) f h base e a b o u = closed-holds catalog db (unary n c (project cols) p) f h base e a b o u
determined-in-listed catalog db (unary n c (distinct cols) p) f h base e a b o u = closed-holds catalog db (unary n c (distinct cols) p) f h base e a b o u
determined-in-listed catalog db (unary n c (sort false cols) p) f h base e a b o u = closed-holds catalog db (unary n c (sort false cols) p) f h base e a b o u
determined-in-listed catalog db (unary n c (sort true cols) p) f h base e a b o u =
    let node = unary n c (sort true cols) p in
    let w = width catalog p in
    closure-agrees w (equal_at catalog node) (fixed_at catalog node) c.keys (by_input w whole_rows (determined catalog p)) (sort_on cols (listed p base)) a b
    (listed-facts catalog db node f base e a o) (listed-facts catalog db node f base e b u) (h.0 base e) o u
    (input-agrees w w whole_rows (determined catalog p) a b a b (copy-itself w a) (copy-itself w b)
    (determined-in-listed catalog db p f.1 h.1 base e a b (occurs-unsorted cols a (listed p base) o) (occurs-unsorted cols b (listed p base) u)))
determined-in-listed catalog db (unary n c (group plain by aggregates) p) f h base e a b o u =
    closed-holds catalog db (unary n c (group plain by aggregates) p) f h base e a b o u
determined-in-listed catalog db (unary n c (group partial by aggregates) p) f h base e a b o u =
    let node = unary n c (group partial by aggregates) p in
    let w = width catalog node in
    let k = columns_kept by in
    let x = first-stem by base a o in
    let y = first-stem by base b u in
    closure-agrees w (equal_at catalog node) (fixed_at catalog node) c.keys (by_input w k (determined catalog p)) (group_keys by base) a b
    (listed-facts catalog db node f base e a o) (listed-facts catalog db node f base e b u) (h.0 base e) o u
    (input-agrees w (width catalog p) k (determined catalog p) a b x.0 y.0
    (copy-kept w by a x.0 [] (x.2 ∙ sym (append-nil (pick by x.0)))) (copy-kept w by b y.0 [] (y.2 ∙ sym (append-nil (pick by y.0))))
    (closed-holds catalog db p f.1 h.1 base e x.0 y.0 x.1 y.1))
determined-in-listed catalog db (unary n c (group final by aggregates) p) f h base e a b o u =
    closed-holds catalog db (unary n c (group final by aggregates) p) f h base e a b o u
determined-in-listed catalog db (unary n c (limit m) p) f h base e a b o u = closed-holds catalog db (unary n c (limit m) p) f h base e a b o u
determined-in-listed catalog db (binary n c op p q) f h base e a b o u = closed-holds catalog db (binary n c op p q) f h base e a b o u
determined-in-listed catalog db (exchange n c k m p) f h base e a b o u =
    let w = width catalog p in
    closure-agrees w (equal_at catalog p) (fixed_at catalog p) c.keys (by_input w whole_rows (determined catalog p)) (listed p base) a b
    (listed-facts catalog db p f.1 base e a o) (listed-facts catalog db p f.1 base e b u) (h.0 base e) o u
    (input-agrees w w whole_rows (determined catalog p) a b a b (copy-itself w a) (copy-itself w b) (determined-in-listed catalog db p f.1 h.1 base e a b o u))
