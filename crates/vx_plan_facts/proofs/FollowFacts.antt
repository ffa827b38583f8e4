-- Orders, keys and totals that follow from facts of columns.
use Rattle.std.proofs.Common.{◌≡◌, ℕ, zero, suc, ◌+◌, ◌<◌, ◌≤◌, ◌==◌, Bool, true, false, cond, not, ◌||◌, ◌&&◌, ⊎_elim, ◌⊎◌, inl, inr, List, [], ◌∷◌, length, refl, sym, ap, ap₂, ◌∙◌, subst, arith, true≢false, eqb-true, ltb-true, nat_lt, is_le, is_eq, Ordering, Less, Equal, Greater}
use Rattle.std.proofs.lemmas.Bool.{eqb-false}
use Rattle.std.specs.List.{list_all, list_any}
use Rattle.std.specs.Ordering.{ordering_then}
use Rattle.vx_rows_values.specs.Values.{Val, Row, val_cmp, row_cmp, row_eq, value_at, pick}
use Rattle.vx_rows_values.specs.declared.order.OrderEntry.{OrderEntry}
use Rattle.vx_rows_values.specs.Order.{order_columns, compare_values, compare_on, agree, sorted}
use Rattle.vx_rows_values.specs.Bags.{count}
use Rattle.vx_rows_values.specs.Keys.{HasKey}
use Rattle.vx_rows_values.proofs.Booleans.{and-left, and-right, and-both}
use Rattle.vx_rows_values.proofs.Compare.{row_eq-refl, row_eq-same, row_eq-laws, val_cmp-same, is_eq-Equal, agree-both}
use Rattle.vx_catalog_relations.specs.Catalog.{all_below}
use Rattle.vx_catalog_relations.specs.Relation.{KeysHold}
use Rattle.vx_plan_nodes.specs.Phases.{columns_from, first_columns}
use Rattle.vx_plan_facts.specs.Equal.{Equality}
use Rattle.vx_plan_facts.specs.Determined.{Columns}
use Rattle.vx_plan_facts.specs.Following.{set_of, equal_entries, begins_equally, short_after, short, key_follows}
use Rattle.vx_plan_facts.specs.FollowLaws.{Occurs, AgreeIn, Agreeing, OrderFollows, KeyFollows, TotalFollows}

or-cases : (a b : Bool) → (a || b) ≡ true → (a ≡ true) ⊎ (b ≡ true)
or-cases true b e = inl refl
or-cases false b e = inr e

-- ---- two rows

equal-then : (o : Ordering) → is_eq (ordering_then o Equal) ≡ true → o ≡ Equal
equal-then Less h = absurd (true≢false (sym h))
equal-then Equal h = refl
equal-then Greater h = absurd (true≢false (sym h))

equal-cmp : (u v : Val) → u ≡ v → val_cmp u v ≡ Equal
equal-cmp u v e = let P : Val → Type 0 = λ x. val_cmp u x ≡ Equal in subst P e (equal-then (val_cmp u u) (row_eq-refl (u ∷ [])))

-- and so in either direction
equal-values : (falling : Bool) (u v : Val) → u ≡ v → compare_values falling u v ≡ Equal
equal-values false u v e = equal-cmp u v e
equal-values true u v e = equal-cmp v u (sym e)

values-same : (falling : Bool) (u v : Val) → compare_values falling u v ≡ Equal → u ≡ v
values-same false u v e = val_cmp-same u v e
values-same true u v e = sym (val_cmp-same v u e)

same-way : (f g : Bool) → cond f g (not g) ≡ true → f ≡ g
same-way true true h = refl
same-way true false h = absurd (true≢false (sym h))
same-way false true h = absurd (true≢false (sym h))
same-way false false h = refl

module _ (w : ℕ) (e : Equality) (det : Columns → Columns) (a b : Row)
    (equal_a : (c d : ℕ) → c < w → d < w → e c d ≡ true → value_at a c ≡ value_at a d)
    (equal_b : (c d : ℕ) → c < w → d < w → e c d ≡ true → value_at b c ≡ value_at b d)
    (determined : (s : Columns) → AgreeIn w s a b → AgreeIn w (det s) a b) where
  with-one : (c : ℕ) (before : List ℕ) → value_at a c ≡ value_at b c → AgreeIn w (set_of before) a b → AgreeIn w (set_of (c ∷ before)) a b
  with-one c before same h x l m = ⊎_elim
      (λ (k : (x == c) ≡ true). let P : ℕ → Type 0 = λ v. value_at a v ≡ value_at b v in subst P (sym (eqb-true x c k)) same)
      (λ k. h x l k)
      (or-cases (x == c) (set_of before x) m)

  -- how the rows compare in an entry
  abbrev in-entry : OrderEntry → Ordering
  in-entry c = compare_values c.falling (value_at a c.column) (value_at b c.column)

  short-same : (before : List ℕ) (order : List OrderEntry) → all_below w (order_columns order) ≡ true → AgreeIn w (set_of before) a b
      → compare_on (short_after det before order) a b ≡ compare_on order a b
  short-same before [] l h = refl
  short-same before (c ∷ order) l h =
      let below : c.column < w = ltb-true c.column w (and-left (nat_lt c.column w) (all_below w (order_columns order)) l) in
      let rest = and-right (nat_lt c.column w) (all_below w (order_columns order)) l in
      let after : value_at a c.column ≡ value_at b c.column → compare_on (short_after det (c.column ∷ before) order) a b ≡ compare_on order a b =
      λ same. short-same (c.column ∷ before) order rest (with-one c.column before same h) in
      go (det (set_of before) c.column) refl below after
    where
      go : (k : Bool) → det (set_of before) c.column ≡ k → c.column < w
          → (value_at a c.column ≡ value_at b c.column → compare_on (short_after det (c.column ∷ before) order) a b ≡ compare_on order a b)
          → compare_on (cond k (short_after det (c.column ∷ before) order) (c ∷ short_after det (c.column ∷ before) order)) a b ≡ compare_on (c ∷ order) a b
      go true k below after =
          let same : value_at a c.column ≡ value_at b c.column = determined (set_of before) h c.column below k in
          after same ∙ sym (ap (λ o. ordering_then o (compare_on order a b)) (equal-values c.falling (value_at a c.column) (value_at b c.column) same))
      go false k below after = by (in-entry c) refl
        where
          by : (o : Ordering) → in-entry c ≡ o → ordering_then o (compare_on (short_after det (c.column ∷ before) order) a b) ≡ ordering_then o (compare_on order a b)
          by Less m = refl
          by Equal m = after (values-same c.falling (value_at a c.column) (value_at b c.column) m)
          by Greater m = refl

  -- equal columns in the same direction compare alike
  entries-alike : (c d : OrderEntry) → c.column < w → d.column < w → equal_entries e c d ≡ true → in-entry c ≡ in-entry d
  entries-alike c d lc ld h =
      let same = and-left (e c.column d.column) (cond c.falling d.falling (not d.falling)) h in
      let way : c.falling ≡ d.falling = same-way c.falling d.falling (and-right (e c.column d.column) (cond c.falling d.falling (not d.falling)) h) in
      ap (λ f. compare_values f (value_at a c.column) (value_at b c.column)) way
      ∙ ap₂ (compare_values d.falling) (equal_a c.column d.column lc ld same) (equal_b c.column d.column lc ld same)

  begins-le : (cs ds : List OrderEntry) → all_below w (order_columns cs) ≡ true → all_below w (order_columns ds) ≡ true → begins_equally e cs ds ≡ true
      → is_le (compare_on ds a b) ≡ true → is_le (compare_on cs a b) ≡ true
  begins-le [] ds l m h k = refl
  begins-le (c ∷ cs) [] l m h k = absurd (true≢false (sym h))
  begins-le (c ∷ cs) (d ∷ ds) l m h k =
      let lc = ltb-true c.column w (and-left (nat_lt c.column w) (all_below w (order_columns cs)) l) in
      let ld = ltb-true d.column w (and-left (nat_lt d.column w) (all_below w (order_columns ds)) m) in
      let o : in-entry c ≡ in-entry d = entries-alike c d lc ld (and-left (equal_entries e c d) (begins_equally e cs ds) h) in
      let P : Ordering → Type 0 = λ x. is_le (ordering_then x (compare_on cs a b)) ≡ true in
      subst P (sym o)
      (go (in-entry d) k
      (begins-le cs ds (and-right (nat_lt c.column w) (all_below w (order_columns cs)) l) (and-right (nat_lt d.column w) (all_below w (order_columns ds)) m)
      (and-right (equal_entries e c d) (begins_equally e cs ds) h)))
    where
      go : (o : Ordering) → is_le (ordering_then o (compare_on ds a b)) ≡ true → (is_le (compare_on ds a b) ≡ true → is_le (compare_on cs a b) ≡ true)
          → is_le (ordering_then o (compare_on cs a b)) ≡ true
      go Less k f = refl
      go Equal k f = f k
      go Greater k f = k

short-below : (w : ℕ) (det : Columns → Columns) (before : List ℕ) (order : List OrderEntry) → all_below w (order_columns order) ≡ true
    → all_below w (order_columns (short_after det before order)) ≡ true
short-below w det before [] l = refl
short-below w det before (c ∷ order) l =
    go (det (set_of before) c.column) (and-left (nat_lt c.column w) (all_below w (order_columns order)) l)
    (short-below w det (c.column ∷ before) order (and-right (nat_lt c.column w) (all_below w (order_columns order)) l))
  where
    go : (k : Bool) → nat_lt c.column w ≡ true → all_below w (order_columns (short_after det (c.column ∷ before) order)) ≡ true
        → all_below w (order_columns (cond k (short_after det (c.column ∷ before) order) (c ∷ short_after det (c.column ∷ before) order))) ≡ true
    go true l m = m
    go false l m = and-both (nat_lt c.column w) (all_below w (order_columns (short_after det (c.column ∷ before) order))) l m

-- ---- lists of rows

occurs-first : (x : Row) (xs : List Row) → Occurs x (x ∷ xs)
occurs-first x xs = go (row_eq x x) (row_eq-refl x)
  where
    go : (k : Bool) → k ≡ true → 0 < cond k 1 0 + count (row_eq x) xs
    go true h = omega arith
    go false h = absurd (true≢false (sym h))

occurs-later : (y x : Row) (xs : List Row) → Occurs y xs → Occurs y (x ∷ xs)
occurs-later y x xs h = omega (arith, h)

list_all-occurs : (p q : Row → Bool) (xs : List Row) → ((y : Row) → Occurs y xs → p y ≡ true → q y ≡ true) → list_all p xs ≡ true → list_all q xs ≡ true
list_all-occurs p q [] h k = refl
list_all-occurs p q (x ∷ xs) h k = and-both (q x) (list_all q xs) (h x (occurs-first x xs) (and-left (p x) (list_all p xs) k))
    (list_all-occurs p q xs (λ y m. h y (occurs-later y x xs m)) (and-right (p x) (list_all p xs) k))

agreeing-rest : (w : ℕ) (e : Equality) (det : Columns → Columns) (x : Row) (xs : List Row) → Agreeing w e det (x ∷ xs) → Agreeing w e det xs
agreeing-rest w e det x xs h = record {
  equal = λ row m. h.equal row (occurs-later row x xs m);
  determined = λ a b m n. h.determined a b (occurs-later a x xs m) (occurs-later b x xs n);
}

pub order-follows : OrderFollows
order-follows w e det [] h given order l m f k = refl
order-follows w e det (x ∷ xs) h given order l m f k =
    and-both (list_all (λ y. is_le (compare_on order x y)) xs) (sorted order xs)
    (list_all-occurs (λ y. is_le (compare_on given x y)) (λ y. is_le (compare_on order x y)) xs
    (λ y o g.
    let pair : (s : Columns) → AgreeIn w s x y → AgreeIn w (det s) x y = h.determined x y (occurs-first x xs) (occurs-later y x xs o) in
    let ex = h.equal x (occurs-first x xs) in
    let ey = h.equal y (occurs-later y x xs o) in
    let none : AgreeIn w (set_of []) x y = λ c l e. absurd (true≢false (sym e)) in
    let P : Ordering → Type 0 = λ v. is_le v ≡ true in
    subst P (short-same w e det x y ex ey pair [] order m none)
    (begins-le w e det x y ex ey pair (short det order) (short det given) (short-below w det [] order m) (short-below w det [] given l) f
    (subst P (sym (short-same w e det x y ex ey pair [] given l none)) g)))
    (and-left (list_all (λ y. is_le (compare_on given x y)) xs) (sorted given xs) k))
    (order-follows w e det xs (agreeing-rest w e det x xs h) given order l m f (and-right (list_all (λ y. is_le (compare_on given x y)) xs) (sorted given xs) k))

-- and so where what is asked begins what is left of the other order, up to equal columns
pub begins-follow : (w : ℕ) (e : Equality) (det : Columns → Columns) (xs : List Row) → Agreeing w e det xs
    → (given order : List OrderEntry) → all_below w (order_columns given) ≡ true → all_below w (order_columns order) ≡ true → begins_equally e order (short det given) ≡ true → sorted given xs ≡ true → sorted order xs ≡ true
begins-follow w e det [] h given order l m f k = refl
begins-follow w e det (x ∷ xs) h given order l m f k =
    and-both (list_all (λ y. is_le (compare_on order x y)) xs) (sorted order xs)
    (list_all-occurs (λ y. is_le (compare_on given x y)) (λ y. is_le (compare_on order x y)) xs
    (λ y o g.
    let pair : (s : Columns) → AgreeIn w s x y → AgreeIn w (det s) x y = h.determined x y (occurs-first x xs) (occurs-later y x xs o) in
    let ex = h.equal x (occurs-first x xs) in
    let ey = h.equal y (occurs-later y x xs o) in
    let none : AgreeIn w (set_of []) x y = λ c l e. absurd (true≢false (sym e)) in
    let P : Ordering → Type 0 = λ v. is_le v ≡ true in
    begins-le w e det x y ex ey pair order (short det given) m (short-below w det [] given l) f
    (subst P (sym (short-same w e det x y ex ey pair [] given l none)) g))
    (and-left (list_all (λ y. is_le (compare_on given x y)) xs) (sorted given xs) k))
    (begins-follow w e det xs (agreeing-rest w e det x xs h) given order l m f (and-right (list_all (λ y. is_le (compare_on given x y)) xs) (sorted given xs) k))

-- ---- keys

count-some : (p : Row → Bool) (xs : List Row) → (count p xs ≡ 0) ⊎ ((x : Row) × Occurs x xs × (p x ≡ true))
count-some p [] = inl refl
count-some p (x ∷ xs) = go (p x) refl (count-some p xs)
  where
    go : (k : Bool) → p x ≡ k → (count p xs ≡ 0) ⊎ ((y : Row) × Occurs y xs × (p y ≡ true)) → (cond k 1 0 + count p xs ≡ 0) ⊎ ((y : Row) × Occurs y (x ∷ xs) × (p y ≡ true))
    go true h r = inr (x, occurs-first x xs, h)
    go false h (inl z) = inl (omega (arith, z))
    go false h (inr y) = inr (y.0, occurs-later y.0 x xs y.1, y.2)

pub count-once : (p : Row → Bool) (xs : List Row) → ((x : Row) → Occurs x xs → p x ≡ true → count p xs ≤ 1) → count p xs ≤ 1
count-once p xs h = ⊎_elim (λ z. omega (arith, z)) (λ y. h y.0 y.1 y.2) (count-some p xs)

pub count-fewer : (p q : Row → Bool) (xs : List Row) → ((y : Row) → Occurs y xs → p y ≡ true → q y ≡ true) → count p xs ≤ count q xs
count-fewer p q [] h = omega arith
count-fewer p q (x ∷ xs) h =
    let rest = count-fewer p q xs (λ y m. h y (occurs-later y x xs m)) in
    let one = go (p x) (q x) refl (h x (occurs-first x xs)) in
    omega (arith, rest, one)
  where
    go : (k m : Bool) → p x ≡ k → (k ≡ true → m ≡ true) → cond k 1 0 ≤ cond m 1 0
    go true true e f = omega arith
    go true false e f = absurd (true≢false (sym (f refl)))
    go false m e f = omega arith

then-eq : (o p : Ordering) → is_eq (ordering_then o p) ≡ (is_eq o && is_eq p)
then-eq Less p = refl
then-eq Equal p = refl
then-eq Greater p = refl

-- rows that agree in a list agree in each column of it, and the other way round
pub agree-each : (cols : List ℕ) (a b : Row) → agree cols a b ≡ true → (c : ℕ) → set_of cols c ≡ true → value_at a c ≡ value_at b c
agree-each [] a b h c m = absurd (true≢false (sym m))
agree-each (d ∷ cols) a b h c m =
    let both = sym (then-eq (val_cmp (value_at a d) (value_at b d)) (row_cmp (pick cols a) (pick cols b))) ∙ h in
    let P : ℕ → Type 0 = λ v. value_at a v ≡ value_at b v in
    ⊎_elim
    (λ k. subst P (sym (eqb-true c d k)) (val_cmp-same (value_at a d) (value_at b d) (is_eq-Equal _ (and-left (is_eq (val_cmp (value_at a d) (value_at b d))) (agree cols a b) both))))
    (λ k. agree-each cols a b (and-right (is_eq (val_cmp (value_at a d) (value_at b d))) (agree cols a b) both) c k)
    (or-cases (c == d) (set_of cols c) m)

pub each-agree : (cols : List ℕ) (a b : Row) (q : ℕ → Bool) → list_all q cols ≡ true → ((c : ℕ) → q c ≡ true → value_at a c ≡ value_at b c) → agree cols a b ≡ true
each-agree [] a b q l h = refl
each-agree (c ∷ cols) a b q l h =
    then-eq (val_cmp (value_at a c) (value_at b c)) (row_cmp (pick cols a) (pick cols b))
    ∙ and-both (is_eq (val_cmp (value_at a c) (value_at b c))) (agree cols a b)
    (ap is_eq (equal-cmp (value_at a c) (value_at b c) (h c (and-left (q c) (list_all q cols) l))))
    (each-agree cols a b q (and-right (q c) (list_all q cols) l) h)

both-all : (p q : ℕ → Bool) (cols : List ℕ) → list_all p cols ≡ true → list_all q cols ≡ true → list_all (λ c. p c && q c) cols ≡ true
both-all p q [] h k = refl
both-all p q (c ∷ cols) h k = and-both (p c && q c) (list_all (λ c. p c && q c) cols)
    (and-both (p c) (q c) (and-left (p c) (list_all p cols) h) (and-left (q c) (list_all q cols) k))
    (both-all p q cols (and-right (p c) (list_all p cols) h) (and-right (q c) (list_all q cols) k))

module _ (w : ℕ) (e : Equality) (det : Columns → Columns) (xs : List Row) (h : Agreeing w e det xs) where
  -- rows that agree in some columns agree in a list of columns that these determine
  determined-agree : (cols key : List ℕ) → all_below w key ≡ true → list_all (det (set_of cols)) key ≡ true
      → (a b : Row) → Occurs a xs → Occurs b xs → agree cols a b ≡ true → agree key a b ≡ true
  determined-agree cols key l d a b oa ob g =
      let s : AgreeIn w (det (set_of cols)) a b = h.determined a b oa ob (set_of cols) (λ c m k. agree-each cols a b g c k) in
      each-agree key a b (λ c. nat_lt c w && det (set_of cols) c) (both-all (λ c. nat_lt c w) (det (set_of cols)) key l d)
      (λ c q. s c (ltb-true c w (and-left (nat_lt c w) (det (set_of cols) c) q)) (and-right (nat_lt c w) (det (set_of cols) c) q))

  one-key : (cols key : List ℕ) → all_below w key ≡ true → list_all (det (set_of cols)) key ≡ true → HasKey key xs → HasKey cols xs
  one-key cols key l d k row = count-once (agree cols row) xs (λ x o g.
      let less = count-fewer (agree cols row) (agree key x) xs (λ y m n. determined-agree cols key l d x y o m (agree-both cols row x y g n)) in
      let most = k x in
      omega (arith, less, most))

key-follows-each : (w : ℕ) (e : Equality) (det : Columns → Columns) (xs : List Row) → Agreeing w e det xs → (keys : List (List ℕ)) → list_all (all_below w) keys ≡ true → KeysHold keys xs
    → (cols : List ℕ) → list_any (list_all (det (set_of cols))) keys ≡ true → HasKey cols xs
key-follows-each w e det xs h [] l k cols f = absurd (true≢false (sym f))
key-follows-each w e det xs h (key ∷ keys) l k cols f = ⊎_elim
    (λ m. one-key w e det xs h cols key (and-left (all_below w key) (list_all (all_below w) keys) l) m k.0)
    (λ m. key-follows-each w e det xs h keys (and-right (all_below w key) (list_all (all_below w) keys) l) k.1 cols m)
    (or-cases (list_all (det (set_of cols)) key) (list_any (list_all (det (set_of cols))) keys) f)

pub key-follows : KeyFollows
key-follows w e det xs h keys l k cols f = key-follows-each w e det xs h keys l k cols f

-- ---- totals

pub same-values : (w : ℕ) (a b : Row) → length a ≡ w → length b ≡ w → ((c : ℕ) → c < w → value_at a c ≡ value_at b c) → a ≡ b
same-values zero [] [] l m h = refl
same-values zero [] (v ∷ b) l m h = absurd (omega (arith, m))
same-values zero (u ∷ a) b l m h = absurd (omega (arith, l))
same-values (suc w) [] b l m h = absurd (omega (arith, l))
same-values (suc w) (u ∷ a) [] l m h = absurd (omega (arith, m))
same-values (suc w) (u ∷ a) (v ∷ b) l m h =
    let first : u ≡ v = h 0 (omega arith) in
    let rest : a ≡ b = same-values w a b (omega (arith, l)) (omega (arith, m)) (λ c k. h (suc c) (omega (arith, k))) in
    ap₂ (λ x y. x ∷ y) first rest

occurs-all : (q : Row → Bool) (xs : List Row) → list_all q xs ≡ true → (a : Row) → Occurs a xs → q a ≡ true
occurs-all q [] h a o = absurd (omega (arith, o))
occurs-all q (x ∷ xs) h a o = go (row_eq a x) refl o (λ k. occurs-all q xs (and-right (q x) (list_all q xs) h) a k)
  where
    go : (k : Bool) → row_eq a x ≡ k → 0 < cond k 1 0 + count (row_eq a) xs → (Occurs a xs → q a ≡ true) → q a ≡ true
    go true e o f = let P : Row → Type 0 = λ r. q r ≡ true in subst P (sym (row_eq-same a x e)) (and-left (q x) (list_all q xs) h)
    go false e o f = f (omega (arith, o))

first-all : (q : ℕ → Bool) (n i : ℕ) → list_all q (columns_from i n) ≡ true → (c : ℕ) → i ≤ c → c < i + n → q c ≡ true
first-all q zero i h c l m = absurd (omega (arith, l, m))
first-all q (suc n) i h c l m = go (i == c) refl (λ k. first-all q n (suc i) (and-right (q i) (list_all q (columns_from (suc i) n)) h) c k (omega (arith, m)))
  where
    go : (k : Bool) → (i == c) ≡ k → (suc i ≤ c → q c ≡ true) → q c ≡ true
    go true e f = let P : ℕ → Type 0 = λ v. q v ≡ true in subst P (eqb-true i c e) (and-left (q i) (list_all q (columns_from (suc i) n)) h)
    go false e f = f (let d = eqb-false i c e in omega (arith, l, d))

-- rows that agree on a key are one row
key-one : (key : List ℕ) (xs : List Row) → HasKey key xs → (a b : Row) → Occurs a xs → Occurs b xs → agree key a b ≡ true → a ≡ b
key-one key xs k a b oa ob g = go (row_eq a b) refl
  where
    each : row_eq a b ≡ false → (r : Row) → cond (row_eq a r) 1 0 + cond (row_eq b r) 1 0 ≤ cond (agree key a r) 1 0
    each ne r = by (row_eq a r) (row_eq b r) (agree key a r) refl refl refl
      where
        by : (u v w : Bool) → row_eq a r ≡ u → row_eq b r ≡ v → agree key a r ≡ w → cond u 1 0 + cond v 1 0 ≤ cond w 1 0
        by false false w p q z = omega arith
        by true true w p q z = absurd (true≢false (sym (row_eq-laws.congr a r b p ∙ (row_eq-laws.symm r b ∙ q)) ∙ ne))
        by true false true p q z = omega arith
        by false true true p q z = omega arith
        by true false false p q z = let s : a ≡ r = row_eq-same a r p in let P : Row → Type 0 = λ v. agree key a v ≡ true in absurd (true≢false (sym (subst P s (row_eq-refl (pick key a))) ∙ z))
        by false true false p q z = let s : b ≡ r = row_eq-same b r q in let P : Row → Type 0 = λ v. agree key a v ≡ true in absurd (true≢false (sym (subst P s g) ∙ z))

    most : row_eq a b ≡ false → (xs : List Row) → count (row_eq a) xs + count (row_eq b) xs ≤ count (agree key a) xs
    most ne [] = omega arith
    most ne (x ∷ xs) = let one = each ne x in let rest = most ne xs in omega (arith, one, rest)

    go : (u : Bool) → row_eq a b ≡ u → a ≡ b
    go true e = row_eq-same a b e
    go false e = let m = most e xs in let n = k a in absurd (omega (arith, m, n, oa, ob))

pub total-follows : TotalFollows
total-follows w e det xs h wide keys l k cols t a b oa ob g = ⊎_elim by_key by_all (or-cases (key_follows det keys cols) (list_all (det (set_of cols)) (first_columns w)) t)
  where
    by_key : key_follows det keys cols ≡ true → a ≡ b
    by_key f = key-one cols xs (key-follows w e det xs h keys l k cols f) a b oa ob g

    by_all : list_all (det (set_of cols)) (first_columns w) ≡ true → a ≡ b
    by_all f =
        let s : AgreeIn w (det (set_of cols)) a b = h.determined a b oa ob (set_of cols) (λ c m n. agree-each cols a b g c n) in
        same-values w a b (eqb-true (length a) w (occurs-all (λ row. length row == w) xs wide a oa)) (eqb-true (length b) w (occurs-all (λ row. length row == w) xs wide b ob))
        (λ c m. s c m (first-all (det (set_of cols)) w 0 f c (omega arith) (omega (arith, m))))
