-- Orders that follow: along, from those that they begin, and by what determines more.
use Rattle.std.proofs.Common.{◌≡◌, ℕ, ◌<◌, ◌≤◌, ◌==◌, nat_lt, Bool, true, false, cond, ⊎_elim, List, [], ◌∷◌, refl, sym, ap, ◌∙◌, subst, arith, true≢false, ltb-true, eqb-true}
use Rattle.std.proofs.lemmas.Bool.Decides.{nat_tests}
use Rattle.vx_rows_values.specs.declared.order.OrderEntry.{OrderEntry}
use Rattle.vx_rows_values.specs.Order.{order_columns, entry_eq}
use Rattle.vx_rows_values.proofs.Booleans.{and-left, and-right, and-both}
use Rattle.vx_catalog_relations.specs.Catalog.{all_below}
use Rattle.vx_plan_facts.specs.Equal.{Equality}
use Rattle.vx_plan_facts.specs.Determined.{Columns}
use Rattle.vx_plan_facts.specs.DeterminedFacts.{WithinFirst}
use Rattle.vx_plan_facts.specs.Following.{equal_entries, begins_equally, short, order_follows}
use Rattle.vx_plan_facts.proofs.Tests.{or-cases, or-left, or-right}
use Rattle.vx_check_rules.specs.Rules.{is_front}
use Rattle.vx_check_rules.proofs.Shortening.{Closes, with_one, short_past, Alike, alike-at, alike-same, alike-equal, short-starts}
use Rattle.vx_check_shown.proofs.Entries.{one_way, entry-same, entry-itself, entry-chain}
use Rattle.vx_check_keeping.specs.Laws.{IsEquivalence}

-- ---- lists

pub begins-joins : (e : Equality) → IsEquivalence e → (xs ys zs : List OrderEntry) → begins_equally e xs ys ≡ true → begins_equally e ys zs ≡ true → begins_equally e xs zs ≡ true
begins-joins e is [] ys zs h k = refl
begins-joins e is (x ∷ xs) [] zs h k = absurd (true≢false (sym h))
begins-joins e is (x ∷ xs) (y ∷ ys) [] h k = absurd (true≢false (sym k))
begins-joins e is (x ∷ xs) (y ∷ ys) (z ∷ zs) h k =
    and-both (equal_entries e x z) (begins_equally e xs zs)
    (entry-chain e is.joins x y z (and-left (equal_entries e x y) (begins_equally e xs ys) h) (and-left (equal_entries e y z) (begins_equally e ys zs) k))
    (begins-joins e is xs ys zs (and-right (equal_entries e x y) (begins_equally e xs ys) h) (and-right (equal_entries e y z) (begins_equally e ys zs) k))

pub begins-self : (e : Equality) → IsEquivalence e → (xs : List OrderEntry) → begins_equally e xs xs ≡ true
begins-self e is [] = refl
begins-self e is (x ∷ xs) = and-both (equal_entries e x x) (begins_equally e xs xs) (entry-itself e is.same x) (begins-self e is xs)

pub front-begins : (e : Equality) → IsEquivalence e → (xs ys : List OrderEntry) → is_front xs ys ≡ true → begins_equally e xs ys ≡ true
front-begins e is [] ys h = refl
front-begins e is (x ∷ xs) [] h = absurd (true≢false (sym h))
front-begins e is (x ∷ xs) (y ∷ ys) h =
    and-both (equal_entries e x y) (begins_equally e xs ys)
    (subst (λ (z : OrderEntry). equal_entries e x z ≡ true) (entry-same x y (and-left (entry_eq x y) (is_front xs ys) h)) (entry-itself e is.same x))
    (front-begins e is xs ys (and-right (entry_eq x y) (is_front xs ys) h))

pub column-below : (w : ℕ) (c : OrderEntry) (order : List OrderEntry) → all_below w (order_columns (c ∷ order)) ≡ true → c.column < w
column-below w c order l = ltb-true c.column w (and-left (nat_lt c.column w) (all_below w (order_columns order)) l)

pub rest-below : (w : ℕ) (c : OrderEntry) (order : List OrderEntry) → all_below w (order_columns (c ∷ order)) ≡ true → all_below w (order_columns order) ≡ true
rest-below w c order l = and-right (nat_lt c.column w) (all_below w (order_columns order)) l

pub longer-below : (v w : ℕ) (cols : List ℕ) → v ≤ w → all_below v cols ≡ true → all_below w cols ≡ true
longer-below v w [] l h = refl
longer-below v w (c ∷ cols) l h =
    and-both (nat_lt c w) (all_below w cols) (more c (and-left (nat_lt c v) (all_below v cols) h)) (longer-below v w cols l (and-right (nat_lt c v) (all_below v cols) h))
  where
    more : (x : ℕ) → nat_lt x v ≡ true → nat_lt x w ≡ true
    more x e = grind (arith, nat_tests)

-- ---- short orders

abbrev pub none : Columns
none c = false

pub past-below : (w : ℕ) (det : Columns → Columns) (s : Columns) (order : List OrderEntry) → all_below w (order_columns order) ≡ true
    → all_below w (order_columns (short_past det s order)) ≡ true
past-below w det s [] l = refl
past-below w det s (c ∷ order) l =
    go (det s c.column) (past-below w det s order (rest-below w c order l)) (past-below w det (with_one s c.column) order (rest-below w c order l))
  where
    go : (b : Bool) → all_below w (order_columns (short_past det s order)) ≡ true → all_below w (order_columns (short_past det (with_one s c.column) order)) ≡ true
        → all_below w (order_columns (cond b (short_past det s order) (c ∷ short_past det (with_one s c.column) order))) ≡ true
    go true x y = x
    go false x y =
        and-both (nat_lt c.column w) (all_below w (order_columns (short_past det (with_one s c.column) order))) (and-left (nat_lt c.column w) (all_below w (order_columns order)) l) y

pub same-bool : (a b : Bool) → (a ≡ true → b ≡ true) → (b ≡ true → a ≡ true) → a ≡ b
same-bool true b f g = sym (f refl)
same-bool false true f g = g refl
same-bool false false f g = refl

module _ (w : ℕ) (e : Equality) (det : Columns → Columns) (closes : Closes w e det) where
  pub short-is : (order : List OrderEntry) → all_below w (order_columns order) ≡ true → short det order ≡ short_past det none order
  short-is order l = short-starts w e det closes none order (λ c. refl) l

  pub self-alike : (s : Columns) → Alike w det s s
  self-alike s = alike-same w e det closes s s (λ c l. refl)

  -- equal columns are determined alike
  equal-at : (s t : Columns) → Alike w det s t → (c d : ℕ) → c < w → d < w → e c d ≡ true → det s c ≡ det t d
  equal-at s t h c d l m same =
      alike-at w det s t h c l
      ∙ same-bool (det t c) (det t d) (λ k. closes.equal t c d l m same k) (λ k. closes.equal t d c m l (closes.swap c d l m same) k)

  -- a list that begins another one does so without what is determined
  pub begins-past : (s t : Columns) (cs ds : List OrderEntry) → Alike w det s t → all_below w (order_columns cs) ≡ true → all_below w (order_columns ds) ≡ true
      → begins_equally e cs ds ≡ true → begins_equally e (short_past det s cs) (short_past det t ds) ≡ true
  begins-past s t [] ds h l m k = refl
  begins-past s t (c ∷ cs) [] h l m k = absurd (true≢false (sym k))
  begins-past s t (c ∷ cs) (d ∷ ds) h l m k =
      let x : ℕ = c.column in
      let y : ℕ = d.column in
      let alike : equal_entries e c d ≡ true = and-left (equal_entries e c d) (begins_equally e cs ds) k in
      let same : e x y ≡ true = and-left (e x y) (one_way c.falling d.falling) alike in
      let rest : begins_equally e cs ds ≡ true = and-right (equal_entries e c d) (begins_equally e cs ds) k in
      let lc = column-below w c cs l in
      let ld = column-below w d ds m in
      go (det s x) (det t y) (equal-at s t h x y lc ld same) alike (begins-past s t cs ds h (rest-below w c cs l) (rest-below w d ds m) rest)
      (begins-past (with_one s x) (with_one t y) cs ds (alike-equal w e det closes s t x y lc ld same h) (rest-below w c cs l) (rest-below w d ds m) rest)
    where
      go : (a b : Bool) → a ≡ b → equal_entries e c d ≡ true → begins_equally e (short_past det s cs) (short_past det t ds) ≡ true
          → begins_equally e (short_past det (with_one s c.column) cs) (short_past det (with_one t d.column) ds) ≡ true
          → begins_equally e (cond a (short_past det s cs) (c ∷ short_past det (with_one s c.column) cs))
          (cond b (short_past det t ds) (d ∷ short_past det (with_one t d.column) ds)) ≡ true
      go true true i j x y = x
      go true false i j x y = absurd (true≢false i)
      go false true i j x y = absurd (true≢false (sym i))
      go false false i j x y =
          and-both (equal_entries e c d) (begins_equally e (short_past det (with_one s c.column) cs) (short_past det (with_one t d.column) ds)) j y

  -- an order follows where it begins equally
  pub begins-follows : (given order : List OrderEntry) → all_below w (order_columns given) ≡ true → all_below w (order_columns order) ≡ true → begins_equally e order given ≡ true
      → order_follows e det given order ≡ true
  begins-follows given order l m h =
      let x : begins_equally e (short_past det none order) (short_past det none given) ≡ true = begins-past none none order given (self-alike none) m l h in
      subst (λ (xs : List OrderEntry). begins_equally e xs (short det given) ≡ true) (sym (short-is order m))
      (subst (λ (ys : List OrderEntry). begins_equally e (short_past det none order) ys ≡ true) (sym (short-is given l)) x)

-- ---- what determines more

-- from a node to one whose columns it has first: equal ones stay equal, and the same columns determine more
pub record Larger (v w : ℕ) (e d : Equality) (det other : Columns → Columns) : Type 0 where
  pub wide : v ≤ w
  pub equal : (a b : ℕ) → a < v → b < v → e a b ≡ true → d a b ≡ true
  pub more : (s : Columns) → WithinFirst v (det s) (other s)
  pub closes : Closes v e det
  pub above : Closes w d other

itself : (n : ℕ) → (n == n) ≡ true
itself n = grind (arith, nat_tests)

module _ (v w : ℕ) (e d : Equality) (det other : Columns → Columns) (larger : Larger v w e d det other) where
  abbrev In : Columns → Columns → Type 0
  In t s = WithinFirst w t (other s)

  -- what the smaller one determines of a set within this one
  in-more : (t s : Columns) → In t s → (c : ℕ) → c < v → det t c ≡ true → other s c ≡ true
  in-more t s h c l k = let wide : v ≤ w = larger.wide in larger.above.again t s h c (omega (arith, l, wide)) (larger.more t c l k)

  in-one : (t s : Columns) → In t s → (c : ℕ) → other s c ≡ true → In (with_one t c) s
  in-one t s h c k x l m =
      ⊎_elim (λ i. h x l i) (λ (i : (x == c) ≡ true). subst (λ z. other s z ≡ true) (sym (eqb-true x c i)) k) (or-cases (t x) (x == c) m)

  in-both : (t s : Columns) → In t s → (c : ℕ) → c < w → In (with_one t c) (with_one s c)
  in-both t s h c below x l m =
      ⊎_elim
      (λ i. larger.above.again s (with_one s c) (λ y n j. larger.above.holds (with_one s c) y n (or-left (s y) (y == c) j)) x l (h x l i))
      (λ (i : (x == c) ≡ true). subst (λ z. other (with_one s c) z ≡ true) (sym (eqb-true x c i))
      (larger.above.holds (with_one s c) c below (or-right (s c) (c == c) (itself c))))
      (or-cases (t x) (x == c) m)

  -- what the smaller one leaves out the larger one leaves out
  pub past-again : (t s : Columns) (order : List OrderEntry) → In t s → all_below v (order_columns order) ≡ true → short_past other s (short_past det t order) ≡ short_past other s order
  past-again t s [] h l = refl
  past-again t s (x ∷ order) h l =
      let c : ℕ = x.column in
      let lc = column-below v x order l in
      let rest = rest-below v x order l in
      let wide : v ≤ w = larger.wide in
      go (det t c) (other s c) (in-more t s h c lc) (past-again t s order h rest)
      (λ is. past-again (with_one t c) s order (in-one t s h c is) rest)
      (past-again (with_one t c) (with_one s c) order (in-both t s h c (omega (arith, lc, wide))) rest) refl
    where
      go : (a b : Bool) → (a ≡ true → b ≡ true) → short_past other s (short_past det t order) ≡ short_past other s order
          → (b ≡ true → short_past other s (short_past det (with_one t x.column) order) ≡ short_past other s order)
          → short_past other (with_one s x.column) (short_past det (with_one t x.column) order) ≡ short_past other (with_one s x.column) order → other s x.column ≡ b
          → short_past other s (cond a (short_past det t order) (x ∷ short_past det (with_one t x.column) order))
          ≡ cond b (short_past other s order) (x ∷ short_past other (with_one s x.column) order)
      go true true f u y z is = u
      go true false f u y z is = absurd (true≢false (sym (f refl)))
      go false true f u y z is =
          let less : List OrderEntry = short_past det (with_one t x.column) order in
          ap (λ k. cond k (short_past other s less) (x ∷ short_past other (with_one s x.column) less)) is ∙ y refl
      go false false f u y z is =
          let less : List OrderEntry = short_past det (with_one t x.column) order in
          ap (λ k. cond k (short_past other s less) (x ∷ short_past other (with_one s x.column) less)) is ∙ ap (λ xs. x ∷ xs) z

  none-in : In none none
  none-in x l m = absurd (true≢false (sym m))

  -- the short form by the larger one of the short form by the smaller one
  pub short-again : (order : List OrderEntry) → all_below v (order_columns order) ≡ true → short other (short det order) ≡ short other order
  short-again order l =
      let wide : v ≤ w = larger.wide in
      let inner : short det order ≡ short_past det none order = short-is v e det larger.closes order l in
      let below : all_below w (order_columns (short_past det none order)) ≡ true =
      longer-below v w (order_columns (short_past det none order)) wide (past-below v det none order l) in
      ap (short other) inner ∙ short-is w d other larger.above (short_past det none order) below ∙ past-again none none order none-in l
      ∙ sym (short-is w d other larger.above order (longer-below v w (order_columns order) wide l))

  begins-equal : (cs ds : List OrderEntry) → all_below v (order_columns cs) ≡ true → all_below v (order_columns ds) ≡ true → begins_equally e cs ds ≡ true → begins_equally d cs ds ≡ true
  begins-equal [] ds l m h = refl
  begins-equal (c ∷ cs) [] l m h = h
  begins-equal (c ∷ cs) (x ∷ ds) l m h =
      let alike : equal_entries e c x ≡ true = and-left (equal_entries e c x) (begins_equally e cs ds) h in
      let one : Bool = one_way c.falling x.falling in
      and-both (equal_entries d c x) (begins_equally d cs ds)
      (and-both (d c.column x.column) one
      (larger.equal c.column x.column (column-below v c cs l) (column-below v x ds m) (and-left (e c.column x.column) one alike)) (and-right (e c.column x.column) one alike))
      (begins-equal cs ds (rest-below v c cs l) (rest-below v x ds m) (and-right (equal_entries e c x) (begins_equally e cs ds) h))

  pub short-below : (order : List OrderEntry) → all_below v (order_columns order) ≡ true → all_below v (order_columns (short det order)) ≡ true
  short-below order l = subst (λ (xs : List OrderEntry). all_below v (order_columns xs) ≡ true) (sym (short-is v e det larger.closes order l)) (past-below v det none order l)

  -- what follows by the smaller one follows by the larger one
  pub follows-more : (given order : List OrderEntry) → all_below v (order_columns given) ≡ true → all_below v (order_columns order) ≡ true → order_follows e det given order ≡ true
      → order_follows d other given order ≡ true
  follows-more given order l m h =
      let wide : v ≤ w = larger.wide in
      let lg = short-below given l in
      let lo = short-below order m in
      let begun : begins_equally d (short det order) (short det given) ≡ true = begins-equal (short det order) (short det given) lo lg h in
      let x : order_follows d other (short det given) (short det order) ≡ true =
      begins-follows w d other larger.above (short det given) (short det order) (longer-below v w (order_columns (short det given)) wide lg)
      (longer-below v w (order_columns (short det order)) wide lo) begun in
      subst (λ (xs : List OrderEntry). begins_equally d xs (short other given) ≡ true) (short-again order m)
      (subst (λ (ys : List OrderEntry). begins_equally d (short other (short det order)) ys ≡ true) (short-again given l) x)

-- along
pub follows-joins : (e : Equality) (det : Columns → Columns) → IsEquivalence e → (given mid order : List OrderEntry) → order_follows e det given mid ≡ true
    → order_follows e det mid order ≡ true → order_follows e det given order ≡ true
follows-joins e det is given mid order h k = begins-joins e is (short det order) (short det mid) (short det given) k h

pub follows-self : (e : Equality) (det : Columns → Columns) → IsEquivalence e → (order : List OrderEntry) → order_follows e det order order ≡ true
follows-self e det is order = begins-self e is (short det order)
