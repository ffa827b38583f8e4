-- Orders of copies: over an input by which more is determined, an output has orders from which the ones before follow.
use Rattle.std.proofs.Common.{◌≡◌, ℕ, ◌<◌, ◌≤◌, ◌==◌, nat_lt, Bool, true, false, cond, ◌&&◌, ◌||◌, ⊎_elim, List, [], ◌∷◌, refl, sym, ap, ◌∙◌, subst, arith, true≢false, ltb-true, eqb-true, eq-eqb, Option, Some, None}
use Rattle.std.specs.List.{list_all, list_any, filter}
use Rattle.vx_rows_values.specs.declared.order.OrderEntry.{OrderEntry}
use Rattle.vx_rows_values.specs.Order.{order_columns}
use Rattle.vx_rows_values.proofs.Booleans.{and-left, and-right, and-both}
use Rattle.vx_catalog_relations.specs.Catalog.{all_below}
use Rattle.vx_plan_nodes.specs.Describe.{Copying, source}
use Rattle.vx_plan_nodes.specs.Phases.{first_columns}
use Rattle.vx_plan_facts.specs.Equal.{Equality}
use Rattle.vx_plan_facts.specs.Asking.{Reaches}
use Rattle.vx_plan_facts.specs.Determined.{Columns, column_in, is_copy_of, sources_in}
use Rattle.vx_plan_facts.specs.DeterminedFacts.{WithinFirst}
use Rattle.vx_plan_facts.specs.Following.{equal_entries, begins_equally, short, order_follows}
use Rattle.vx_plan_facts.proofs.Tests.{or-cases, or-left, or-right}
use Rattle.vx_plan_facts.proofs.ColumnSets.{any-at}
use Rattle.vx_check_rules.specs.Rules.{is_front}
use Rattle.vx_check_rules.specs.Derived.{first_of, copy_of, copies_then, front_copies}
use Rattle.vx_check_rules.proofs.CopySteps.{copies-below}
use Rattle.vx_check_rules.proofs.Shortening.{Closes, with_one, short_past}
use Rattle.vx_check_shown.proofs.Entries.{one_way, entry_of, way-itself, way-is, entry-itself}
use Rattle.vx_check_keeping.specs.Laws.{IsEquivalence}
use Rattle.vx_check_keeping.proofs.MoreDetermined.{first-below}
use Rattle.vx_check_keeping.proofs.OrdersFollow.{Larger, none, column-below, rest-below, longer-below, begins-follows, front-begins, short-is, short-again, short-below, follows-joins, same-bool}

-- an output of w columns over an input of v: copies of equal columns are equal, and what the input determines by the columns of which copies are there, its copies show
pub record Carries (w v : ℕ) (k : Copying) (e g : Equality) (det other : Columns → Columns) : Type 0 where
  pub reaches : Reaches w k v
  pub equal : (c d x y : ℕ) → source k c ≡ Some x → source k d ≡ Some y → e x y ≡ true → g c d ≡ true
  pub more : (s : Columns) (c x : ℕ) → c < w → source k c ≡ Some x → det (sources_in w k (other s)) x ≡ true → other s c ≡ true
  pub closes : Closes v e det
  pub above : Closes w g other
  pub under_is : IsEquivalence e
  pub is : IsEquivalence g

-- ---- the first copy

-- whether an output column is a copy of one that is equal to x
abbrev pub copies : Copying → Equality → ℕ → ℕ → Bool
copies k e x c = column_in (λ y. e y x) (source k c)

first-passes : (q p : ℕ → Bool) (xs : List ℕ) (c : ℕ) → list_all q xs ≡ true → first_of (filter p xs) ≡ Some c → (q c ≡ true) × (p c ≡ true)
first-passes q p [] c h e = absurd cc
first-passes q p (x ∷ xs) c h e = go (p x) refl (first-passes q p xs c (and-right (q x) (list_all q xs) h)) e
  where
    go : (b : Bool) → p x ≡ b → (first_of (filter p xs) ≡ Some c → (q c ≡ true) × (p c ≡ true)) → first_of (cond b (x ∷ filter p xs) (filter p xs)) ≡ Some c
        → (q c ≡ true) × (p c ≡ true)
    go true is f e = let same : x ≡ c = cc in (subst (λ z. q z ≡ true) same (and-left (q x) (list_all q xs) h), subst (λ z. p z ≡ true) same is)
    go false is f e = f e

first-some : (p : ℕ → Bool) (xs : List ℕ) → list_any p xs ≡ true → (c : ℕ) × (first_of (filter p xs) ≡ Some c)
first-some p [] h = absurd (true≢false (sym h))
first-some p (x ∷ xs) h = go (p x) h (first-some p xs)
  where
    go : (b : Bool) → (b || list_any p xs) ≡ true → (list_any p xs ≡ true → (c : ℕ) × (first_of (filter p xs) ≡ Some c))
        → (c : ℕ) × (first_of (cond b (x ∷ filter p xs) (filter p xs)) ≡ Some c)
    go true h f = (x, refl)
    go false h f = f h

filter-same : (p q : ℕ → Bool) → ((c : ℕ) → p c ≡ q c) → (xs : List ℕ) → filter p xs ≡ filter q xs
filter-same p q h [] = refl
filter-same p q h (x ∷ xs) =
    ap (λ b. cond b (x ∷ filter p xs) (filter p xs)) (h x) ∙ ap (λ ys. cond (q x) (x ∷ ys) ys) (filter-same p q h xs)

copy-is : (w : ℕ) (k : Copying) (e : Equality) (x c : ℕ) → copy_of w k e x ≡ Some c → (c < w) × (copies k e x c ≡ true)
copy-is w k e x c h =
    let t = first-passes (λ d. nat_lt d w) (copies k e x) (first_columns w) c (first-below w 0 w (omega arith)) h in
    (ltb-true c w t.0, t.1)

in-some : (s : Columns) (o : Option ℕ) → column_in s o ≡ true → (x : ℕ) × (o ≡ Some x) × (s x ≡ true)
in-some s None h = absurd (true≢false (sym h))
in-some s (Some x) h = (x, refl, h)

itself : (n : ℕ) → (n == n) ≡ true
itself n = eq-eqb n n refl

-- each output column is a copy of the input column at its place, in the same direction
abbrev pub AreCopies : Copying → List OrderEntry → List OrderEntry → Type 0
AreCopies k [] [] = Unit {0}
AreCopies k (c ∷ cs) (x ∷ xs) = (source k c.column ≡ Some x.column) × (c.falling ≡ x.falling) × AreCopies k cs xs
AreCopies k _ _ = ⊥

module _ (w v : ℕ) (k : Copying) (e g : Equality) (det other : Columns → Columns) (carries : Carries w v k e g det other) where
  abbrev fronts : List OrderEntry → List OrderEntry
  fronts xs = front_copies w k e xs

  -- what the columns determine of which copies are among these
  abbrev seen : Columns → Columns
  seen s = det (sources_in w k (other s))

  source-in : (s : Columns) (c x : ℕ) → c < w → source k c ≡ Some x → s c ≡ true → sources_in w k s x ≡ true
  source-in s c x l h i =
      any-at (λ d. s d && is_copy_of x (source k d)) w c l
      (and-both (s c) (is_copy_of x (source k c)) i (subst (λ o. is_copy_of x o ≡ true) (sym h) (itself x)))

  -- the column of which this copy is there
  seen-there : (s : Columns) (c b : ℕ) → b < v → c < w → copies k e b c ≡ true → other s c ≡ true → seen s b ≡ true
  seen-there s c b lb l h i =
      let t = in-some (λ y. e y b) (source k c) h in
      let lx : t.0 < v = carries.reaches c t.0 l t.1 in
      carries.closes.equal (sources_in w k (other s)) t.0 b lx lb t.2
      (carries.closes.holds (sources_in w k (other s)) t.0 lx (source-in (other s) c t.0 l t.1 i))

  -- and the copy of a column that is determined so
  copy-there : (s : Columns) (c b : ℕ) → b < v → c < w → copies k e b c ≡ true → seen s b ≡ true → other s c ≡ true
  copy-there s c b lb l h i =
      let t = in-some (λ y. e y b) (source k c) h in
      let lx : t.0 < v = carries.reaches c t.0 l t.1 in
      carries.more s c t.0 l t.1
      (carries.closes.equal (sources_in w k (other s)) b t.0 lb lx (carries.under_is.swap t.0 b t.2) i)

  -- with a column more
  sources-more : (s u : Columns) → WithinFirst w s u → (x : ℕ) → sources_in w k s x ≡ true → sources_in w k u x ≡ true
  sources-more s u h x i = by (first_columns w) (first-below w 0 w (omega arith)) i
    where
      one : (c : ℕ) → nat_lt c w ≡ true → (s c && is_copy_of x (source k c)) ≡ true → (u c && is_copy_of x (source k c)) ≡ true
      one c l j = and-both (u c) (is_copy_of x (source k c)) (h c (ltb-true c w l) (and-left (s c) (is_copy_of x (source k c)) j)) (and-right (s c) (is_copy_of x (source k c)) j)

      by : (cs : List ℕ) → all_below w cs ≡ true → list_any (λ c. s c && is_copy_of x (source k c)) cs ≡ true → list_any (λ c. u c && is_copy_of x (source k c)) cs ≡ true
      by [] l j = j
      by (c ∷ cs) l j =
          ⊎_elim
          (λ m. or-left (u c && is_copy_of x (source k c)) (list_any (λ d. u d && is_copy_of x (source k d)) cs) (one c (and-left (nat_lt c w) (all_below w cs) l) m))
          (λ m. or-right (u c && is_copy_of x (source k c)) (list_any (λ d. u d && is_copy_of x (source k d)) cs) (by cs (and-right (nat_lt c w) (all_below w cs) l) m))
          (or-cases (s c && is_copy_of x (source k c)) (list_any (λ d. s d && is_copy_of x (source k d)) cs) j)

  other-more : (s : Columns) (c : ℕ) → WithinFirst w (other s) (other (with_one s c))
  other-more s c = carries.above.again s (with_one s c) (λ x l h. carries.above.holds (with_one s c) x l (or-left (s x) (x == c) h))

  seen-more : (s : Columns) (c : ℕ) → WithinFirst v (seen s) (seen (with_one s c))
  seen-more s c =
      carries.closes.again (sources_in w k (other s)) (sources_in w k (other (with_one s c)))
      (λ x l h. carries.closes.holds (sources_in w k (other (with_one s c))) x l (sources-more (other s) (other (with_one s c)) (other-more s c) x h))

  -- the columns passed at the input are determined by what stands at the output
  abbrev Stands : Columns → Columns → Type 0
  Stands t s = WithinFirst v t (seen s)

  stands-one : (t s : Columns) (b : ℕ) → Stands t s → seen s b ≡ true → Stands (with_one t b) s
  stands-one t s b h i x l m =
      ⊎_elim (λ j. h x l j) (λ (j : (x == b) ≡ true). subst (λ z. seen s z ≡ true) (sym (eqb-true x b j)) i) (or-cases (t x) (x == b) m)

  stands-det : (t s : Columns) (b : ℕ) → Stands t s → b < v → det t b ≡ true → seen s b ≡ true
  stands-det t s b h l i = carries.closes.again t (sources_in w k (other s)) h b l i

  stands-more : (t s : Columns) (c : ℕ) → Stands t s → Stands t (with_one s c)
  stands-more t s c h x l i = seen-more s c x l (h x l i)

  -- the copies of an order follow from those of its short form
  past-fronts : (t s : Columns) (xs : List OrderEntry) → all_below v (order_columns xs) ≡ true → Stands t s
      → begins_equally g (short_past other s (fronts xs)) (short_past other s (fronts (short_past det t xs))) ≡ true
  past-fronts t s [] l h = refl
  past-fronts t s (x ∷ xs) l h =
      let b : ℕ = x.column in
      let lb = column-below v x xs l in
      let rest = rest-below v x xs l in
      go (copy_of w k e b) (λ c i. copy-is w k e b c i) refl (det t b) (λ i. stands-det t s b h lb i) lb (past-fronts t s xs rest h)
      (λ i. past-fronts (with_one t b) s xs rest (stands-one t s b h i))
      (λ c i. past-fronts (with_one t b) (with_one s c) xs rest (stands-one t (with_one s c) b (stands-more t s c h) i))
    where
      here : (c : ℕ) (a : Bool) → (c < w) → copies k e x.column c ≡ true → x.column < v → other s c ≡ a
          → (seen s x.column ≡ true → begins_equally g (short_past other s (fronts xs)) (short_past other s (fronts (short_past det (with_one t x.column) xs))) ≡ true)
          → ((c : ℕ) → seen (with_one s c) x.column ≡ true
          → begins_equally g (short_past other (with_one s c) (fronts xs)) (short_past other (with_one s c) (fronts (short_past det (with_one t x.column) xs))) ≡ true)
          → begins_equally g (cond a (short_past other s (fronts xs)) (entry_of c x.falling ∷ short_past other (with_one s c) (fronts xs)))
          (cond a (short_past other s (fronts (short_past det (with_one t x.column) xs)))
          (entry_of c x.falling ∷ short_past other (with_one s c) (fronts (short_past det (with_one t x.column) xs)))) ≡ true
      here c true l i lb j skip keep = skip (seen-there s c x.column lb l i j)
      here c false l i lb j skip keep =
          let y : OrderEntry = entry_of c x.falling in
          and-both (equal_entries g y y)
          (begins_equally g (short_past other (with_one s c) (fronts xs)) (short_past other (with_one s c) (fronts (short_past det (with_one t x.column) xs))))
          (entry-itself g carries.is.same y)
          (keep c (seen-there (with_one s c) c x.column lb l i (carries.above.holds (with_one s c) c l (or-right (s c) (c == c) (itself c)))))

      go : (o : Option ℕ) → ((c : ℕ) → copy_of w k e x.column ≡ Some c → (c < w) × (copies k e x.column c ≡ true)) → copy_of w k e x.column ≡ o
          → (a : Bool) → (a ≡ true → seen s x.column ≡ true) → x.column < v
          → begins_equally g (short_past other s (fronts xs)) (short_past other s (fronts (short_past det t xs))) ≡ true
          → (seen s x.column ≡ true → begins_equally g (short_past other s (fronts xs)) (short_past other s (fronts (short_past det (with_one t x.column) xs))) ≡ true)
          → ((c : ℕ) → seen (with_one s c) x.column ≡ true
          → begins_equally g (short_past other (with_one s c) (fronts xs)) (short_past other (with_one s c) (fronts (short_past det (with_one t x.column) xs))) ≡ true)
          → begins_equally g (short_past other s (copies_then o x.falling (fronts xs)))
          (short_past other s (fronts (cond a (short_past det t xs) (x ∷ short_past det (with_one t x.column) xs)))) ≡ true
      go None is i a passed lb old skip keep = refl
      go (Some c) is i true passed lb old skip keep =
          let found = is c i in
          subst (λ (y : Bool). begins_equally g (cond y (short_past other s (fronts xs)) (entry_of c x.falling ∷ short_past other (with_one s c) (fronts xs)))
          (short_past other s (fronts (short_past det t xs))) ≡ true)
          (sym (copy-there s c x.column lb found.0 found.1 (passed refl))) old
      go (Some c) is i false passed lb old skip keep =
          let found = is c i in
          subst (λ (y : Option ℕ). begins_equally g (short_past other s (entry_of c x.falling ∷ fronts xs))
          (short_past other s (copies_then y x.falling (fronts (short_past det (with_one t x.column) xs)))) ≡ true) (sym i)
          (here c (other s c) found.0 found.1 lb refl skip keep)

  fronts-below : (xs : List OrderEntry) → all_below w (order_columns (fronts xs)) ≡ true
  fronts-below xs = copies-below w k e xs

  pub fronts-short : (xs : List OrderEntry) → all_below v (order_columns xs) ≡ true → order_follows g other (fronts (short det xs)) (fronts xs) ≡ true
  fronts-short xs l =
      let x = past-fronts none none xs l (λ y m i. absurd (true≢false (sym i))) in
      let inner : short det xs ≡ short_past det none xs = short-is v e det carries.closes xs l in
      subst (λ (ys : List OrderEntry). begins_equally g (short other (fronts xs)) (short other (fronts ys)) ≡ true) (sym inner)
      (subst (λ (ys : List OrderEntry). begins_equally g ys (short other (fronts (short_past det none xs))) ≡ true) (sym (short-is w g other carries.above (fronts xs) (fronts-below xs)))
      (subst (λ (ys : List OrderEntry). begins_equally g (short_past other none (fronts xs)) ys ≡ true)
      (sym (short-is w g other carries.above (fronts (short_past det none xs)) (fronts-below (short_past det none xs)))) x))

  -- ---- copies of equal columns

  copy-same : (x y : ℕ) → e x y ≡ true → copy_of w k e x ≡ copy_of w k e y
  copy-same x y h = ap first_of (filter-same (copies k e x) (copies k e y) (λ c. by (source k c)) (first_columns w))
    where
      by : (o : Option ℕ) → column_in (λ z. e z x) o ≡ column_in (λ z. e z y) o
      by None = refl
      by (Some z) = same-bool (e z x) (e z y) (λ i. carries.under_is.joins z x y i h) (λ i. carries.under_is.joins z y x i (carries.under_is.swap x y h))

  fronts-begin : (xs ys : List OrderEntry) → begins_equally e xs ys ≡ true → begins_equally g (fronts xs) (fronts ys) ≡ true
  fronts-begin [] ys h = refl
  fronts-begin (x ∷ xs) [] h = absurd (true≢false (sym h))
  fronts-begin (x ∷ xs) (y ∷ ys) h =
      let alike : equal_entries e x y ≡ true = and-left (equal_entries e x y) (begins_equally e xs ys) h in
      let same : e x.column y.column ≡ true = and-left (e x.column y.column) (one_way x.falling y.falling) alike in
      let way : x.falling ≡ y.falling = way-is x.falling y.falling (and-right (e x.column y.column) (one_way x.falling y.falling) alike) in
      subst (λ (b : Bool). begins_equally g (copies_then (copy_of w k e x.column) x.falling (fronts xs)) (copies_then (copy_of w k e y.column) b (fronts ys)) ≡ true) way
      (subst (λ (o : Option ℕ). begins_equally g (copies_then (copy_of w k e x.column) x.falling (fronts xs)) (copies_then o x.falling (fronts ys)) ≡ true)
      (copy-same x.column y.column same)
      (go (copy_of w k e x.column) (fronts-begin xs ys (and-right (equal_entries e x y) (begins_equally e xs ys) h))))
    where
      go : (o : Option ℕ) → begins_equally g (fronts xs) (fronts ys) ≡ true → begins_equally g (copies_then o x.falling (fronts xs)) (copies_then o x.falling (fronts ys)) ≡ true
      go None i = refl
      go (Some c) i =
          let z : OrderEntry = entry_of c x.falling in
          and-both (equal_entries g z z) (begins_equally g (fronts xs) (fronts ys)) (entry-itself g carries.is.same z) i

  pub fronts-follow : (given order : List OrderEntry) → order_follows e det given order ≡ true → order_follows g other (fronts (short det given)) (fronts (short det order)) ≡ true
  fronts-follow given order h =
      begins-follows w g other carries.above (fronts (short det given)) (fronts (short det order)) (fronts-below (short det given)) (fronts-below (short det order))
      (fronts-begin (short det order) (short det given) h)

  -- over an input by which less is determined, and whose order follows
  pub fronts-told : (u : ℕ) (d : Equality) (before : Columns → Columns) → Larger u v d e before det → (given order : List OrderEntry) → all_below u (order_columns order) ≡ true
      → order_follows e det given order ≡ true → order_follows g other (fronts (short det given)) (fronts (short before order)) ≡ true
  fronts-told u d before larger given order l h =
      let wide : u ≤ v = larger.wide in
      let x : order_follows g other (fronts (short det (short before order))) (fronts (short before order)) ≡ true =
      fronts-short (short before order) (longer-below u v (order_columns (short before order)) wide (short-below u v d e before det larger order l)) in
      let y : order_follows g other (fronts (short det order)) (fronts (short before order)) ≡ true =
      subst (λ (xs : List OrderEntry). order_follows g other (fronts xs) (fronts (short before order)) ≡ true) (short-again u v d e before det larger order l) x in
      follows-joins g other carries.is (fronts (short det given)) (fronts (short det order)) (fronts (short before order)) (fronts-follow given order h) y

  -- ---- an order of copies of the first columns

  copies-begin : (cs xs : List OrderEntry) → all_below w (order_columns cs) ≡ true → AreCopies k cs xs → begins_equally g cs (fronts xs) ≡ true
  copies-begin [] [] l h = refl
  copies-begin [] (x ∷ xs) l h = absurd h
  copies-begin (c ∷ cs) [] l h = absurd h
  copies-begin (c ∷ cs) (x ∷ xs) l h =
      let d : ℕ = c.column in
      let z : ℕ = x.column in
      let lc = column-below w c cs l in
      let some = first-some (copies k e z) (first_columns w)
      (any-at (copies k e z) w d lc (subst (λ o. column_in (λ y. e y z) o ≡ true) (sym h.0) (carries.under_is.same z))) in
      let found = copy-is w k e z some.0 some.1 in
      let t = in-some (λ y. e y z) (source k some.0) found.1 in
      let put : OrderEntry = entry_of some.0 x.falling in
      let way : one_way c.falling x.falling ≡ true = ap (one_way c.falling) (sym h.1) ∙ way-itself c.falling in
      subst (λ (o : Option ℕ). begins_equally g (c ∷ cs) (copies_then o x.falling (fronts xs)) ≡ true) (sym some.1)
      (and-both (equal_entries g c put) (begins_equally g cs (fronts xs))
      (and-both (g d some.0) (one_way c.falling x.falling) (carries.equal d some.0 z t.0 h.0 t.1 (carries.under_is.swap t.0 z t.2)) way)
      (copies-begin cs xs (rest-below w c cs l) h.2))

  -- it follows from the copies of that order
  pub copies-follow : (below order xs : List OrderEntry) → all_below v (order_columns below) ≡ true → all_below v (order_columns xs) ≡ true → all_below w (order_columns order) ≡ true
      → AreCopies k order xs → is_front xs below ≡ true → order_follows g other (fronts (short det below)) order ≡ true
  copies-follow below order xs l m n h i =
      let a : order_follows e det below xs ≡ true = begins-follows v e det carries.closes below xs l m (front-begins e carries.under_is xs below i) in
      let b : order_follows g other (fronts xs) order ≡ true =
      begins-follows w g other carries.above (fronts xs) order (fronts-below xs) n (copies-begin order xs n h) in
      follows-joins g other carries.is (fronts (short det below)) (fronts xs) order
      (follows-joins g other carries.is (fronts (short det below)) (fronts (short det xs)) (fronts xs) (fronts-follow below xs a) (fronts-short xs m)) b

  -- ---- rows that stay whole

  -- where the columns of the input stand at their own places, what it determines the output does
  pub stays-larger : v ≤ w → ((x : ℕ) → x < v → source k x ≡ Some x) → Larger v w e g det other
  stays-larger wide stays = record {
    wide = wide;
    equal = λ a b l m h. carries.equal a b a b (stays a l) (stays b m) h;
    more = λ s c l h.
        carries.more s c c (omega (arith, l, wide)) (stays c l)
        (carries.closes.again s (sources_in w k (other s))
        (λ x m i. carries.closes.holds (sources_in w k (other s)) x m
        (source-in (other s) x x (omega (arith, m, wide)) (stays x m) (carries.above.holds s x (omega (arith, m, wide)) i))) c l h);
    closes = carries.closes;
    above = carries.above;
  }
