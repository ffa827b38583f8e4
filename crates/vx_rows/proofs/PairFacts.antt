-- The first clash, from the positions of rows in order: rows that agree are neighbours there, the earlier one first.
use Rattle.std.proofs.Common.{◌≡◌, ℕ, zero, suc, ◌+◌, ◌-◌, ◌<◌, ◌≤◌, Bool, true, false, cond, ltb, List, [], ◌∷◌, ◌++◌, length, get_or, filter, Option, Some, None, refl, sym, ap, ◌∙◌, subst, arith, inl, inr, true≢false, Ordering, is_le, is_eq, append_assoc, zero-le}
use Rattle.std.specs.List.{AllByRecursion}
use Rattle.std.proofs.lemmas.Bool.{cases_lt}
use Rattle.std.proofs.lemmas.List.Elements.{filter-append}
use Rattle.std.specs.Cmp.{IsTotalOrder}
use Rattle.std.proofs.lemmas.Cmp.{on_total}
use Rattle.vx_rows_values.specs.Values.{Row, row_cmp, pick}
use Rattle.vx_rows_values.specs.Order.{rising}
use Rattle.std.proofs.lemmas.Bool.{ltb-true, ltb-false}
use Rattle.vx_rows_values.specs.Keys.{first_clash, earlier_clash}
use Rattle.vx_rows.specs.Lists.{each_below}
use Rattle.vx_rows.specs.Sorting.{sort_by, order_on}
use Rattle.vx_rows.specs.View.{ArePositions}
use Rattle.vx_rows_values.proofs.Compare.{row_cmp_total, compare_on-rising, agree-both}
use Rattle.vx_rows_values.proofs.Booleans.{and-left, and-right}
use Rattle.vx_rows.proofs.Below.{all_push}
use Rattle.vx_rows.proofs.SortFacts.{ordered, alike, low, eq-le, both-le, cmp-trans, same-self, sort-is-sorted, sort-alike}
use Rattle.vx_rows.proofs.PlaceFacts.{order-there}
use Rattle.vx_rows_values.proofs.ClashFacts.{meet, Apart, IsFirst, clash-none, clash-some}

-- each number is above those before it
abbrev Rising : List ℕ → Type 0
Rising [] = Unit {0}
Rising (x ∷ xs) = AllByRecursion (λ y. x < y) xs × Rising xs

rising-push : (xs : List ℕ) (n : ℕ) → Rising xs → AllByRecursion (λ x. x < n) xs → Rising (xs ++ n ∷ [])
rising-push [] n r h = (tt, tt)
rising-push (x ∷ xs) n r h = (all_push (λ y. x < y) xs n r.0 h.0, rising-push xs n r.1 h.1)

below-more : (n : ℕ) (xs : List ℕ) → AllByRecursion (λ x. x < n) xs → AllByRecursion (λ x. x < suc n) xs
below-more n [] h = tt
below-more n (x ∷ xs) h = let l = h.0 in (omega (arith, l), below-more n xs h.1)

numbers-below : (n : ℕ) → AllByRecursion (λ x. x < n) (each_below n (λ k. k))
unfolding each_below
numbers-below zero = tt
numbers-below (suc n) = all_push (λ x. x < suc n) (each_below n (λ k. k)) n (below-more n _ (numbers-below n)) (omega arith)

numbers-rise : (n : ℕ) → Rising (each_below n (λ k. k))
unfolding each_below
numbers-rise zero = tt
numbers-rise (suc n) = rising-push (each_below n (λ k. k)) n (numbers-rise n) (numbers-below n)

all-filter : (P : ℕ → Type 0) (f : ℕ → Bool) (xs : List ℕ) → AllByRecursion P xs → AllByRecursion P (filter f xs)
all-filter P f [] h = tt
all-filter P f (x ∷ xs) h = step (f x) (all-filter P f xs h.1)
  where
    step : (b : Bool) → AllByRecursion P (filter f xs) → AllByRecursion P (cond b (x ∷ filter f xs) (filter f xs))
    step true r = (h.0, r)
    step false r = r

rising-filter : (f : ℕ → Bool) (xs : List ℕ) → Rising xs → Rising (filter f xs)
rising-filter f [] h = tt
rising-filter f (x ∷ xs) h = step (f x) (rising-filter f xs h.1)
  where
    step : (b : Bool) → Rising (filter f xs) → Rising (cond b (x ∷ filter f xs) (filter f xs))
    step true r = (all-filter (λ y. x < y) f xs h.0, r)
    step false r = r

-- of neighbours that pass, in a list whose passing numbers rise, the second is above the first
neighbours-rise : (f : ℕ → Bool) (ys : List ℕ) (k : ℕ) → Rising (filter f ys) → suc k < length ys → f (get_or ys k 0) ≡ true → f (get_or ys (suc k) 0) ≡ true → get_or ys k 0 < get_or ys (suc k) 0
neighbours-rise f [] k r h p q = absurd (omega arith)
neighbours-rise f (y ∷ []) k r h p q = absurd (omega arith)
neighbours-rise f (y ∷ z ∷ ys) zero r h p q =
    let e : filter f (y ∷ z ∷ ys) ≡ y ∷ z ∷ filter f ys = ap (λ b. cond b (y ∷ filter f (z ∷ ys)) (filter f (z ∷ ys))) p ∙ ap (λ b. y ∷ cond b (z ∷ filter f ys) (filter f ys)) q in
    let s : Rising (y ∷ z ∷ filter f ys) = subst Rising e r in
    s.0.0
neighbours-rise f (y ∷ z ∷ ys) (suc k) r h p q = neighbours-rise f (z ∷ ys) k (rest (f y) r) (omega arith) p q
  where
    rest : (b : Bool) → Rising (cond b (y ∷ filter f (z ∷ ys)) (filter f (z ∷ ys))) → Rising (filter f (z ∷ ys))
    rest true s = s.1
    rest false s = s

-- some element before z passes
record Behind (z : ℕ) (xs : List ℕ) : Type 0 where
  pub first : ℕ
  pub between : List ℕ
  pub after : List ℕ
  pub is : xs ≡ first ∷ between ++ z ∷ after

-- the element right before z in a list
record Before (cmp : ℕ → ℕ → Ordering) (z : ℕ) (ys : List ℕ) : Type 0 where
  pub at : ℕ
  pub near : suc at < length ys
  pub is : get_or ys (suc at) 0 ≡ z
  pub same : is_eq (cmp z (get_or ys at 0)) ≡ true

before-cons : (cmp : ℕ → ℕ → Ordering) (z y : ℕ) (ys : List ℕ) → Before cmp z ys → Before cmp z (y ∷ ys)
before-cons cmp z y ys b = let near = b.near in record { at = suc b.at; near = omega (arith, near); is = b.is; same = b.same }

abbrev tail-of : List ℕ → List ℕ
tail-of [] = []
tail-of (x ∷ xs) = xs

abbrev head-of : List ℕ → ℕ
head-of [] = 0
head-of (x ∷ xs) = x

module _ (cmp : ℕ → ℕ → Ordering) (total : IsTotalOrder cmp) where
  -- in an ordered list z stands right behind an equal element, if one comes before it
  next-is : (z y : ℕ) (ys after : List ℕ) → ordered cmp (y ∷ ys) ≡ true → is_eq (cmp z y) ≡ true → alike cmp z ys ≡ z ∷ after → Before cmp z (y ∷ ys)
  next-is z y [] after o s e = absurd (cc e)
  next-is z y (x ∷ xs) after o s e = step (is_eq (cmp z x)) refl e
    where
      step : (b : Bool) → is_eq (cmp z x) ≡ b → cond b (x ∷ alike cmp z xs) (alike cmp z xs) ≡ z ∷ after → Before cmp z (y ∷ x ∷ xs)
      step true t f = record { at = 0; near = omega arith; is = ap head-of f; same = s }
      step false t f =
          let up : is_le (cmp y x) ≡ true = and-left _ _ (and-left _ _ o) in
          let rest : ordered cmp (x ∷ xs) ≡ true = and-right _ _ o in
          let down : is_le (cmp x z) ≡ true = low cmp total x z xs (and-left _ _ rest) z after f in
          let back : is_le (cmp z x) ≡ true = cmp-trans cmp total z y x (eq-le _ s) up in
          let meets : is_eq (cmp z x) ≡ true = both-le _ _ (total.antisymm z x) back down in
          absurd (true≢false (sym meets ∙ t))

  before-in : (z : ℕ) (ys : List ℕ) (first : ℕ) (between after : List ℕ) → ordered cmp ys ≡ true → alike cmp z ys ≡ first ∷ between ++ z ∷ after → Before cmp z ys
  before-in z [] first between after o e = absurd (cc e)
  before-in z (y ∷ ys) first between after o e =
      step (is_eq (cmp z y)) between refl e (before-in z ys first between after (and-right _ _ o)) (λ next more. before-in z ys next more after (and-right _ _ o)) refl
    where
      step : (b : Bool) (more : List ℕ) → is_eq (cmp z y) ≡ b → cond b (y ∷ alike cmp z ys) (alike cmp z ys) ≡ first ∷ more ++ z ∷ after
          → (alike cmp z ys ≡ first ∷ between ++ z ∷ after → Before cmp z ys)
          → ((next : ℕ) (rest : List ℕ) → alike cmp z ys ≡ next ∷ rest ++ z ∷ after → Before cmp z ys)
          → more ≡ between → Before cmp z (y ∷ ys)
      step true [] s f r q w = next-is z y ys after o s (ap tail-of f)
      step true (u ∷ us) s f r q w = before-cons cmp z y ys (q u us (ap tail-of f))
      step false more s f r q w = before-cons cmp z y ys (r (f ∙ ap (λ l. first ∷ l ++ z ∷ after) w))

  some-pass : (i n z : ℕ) → i < n → is_eq (cmp z i) ≡ true → (first : ℕ) × (rest : List ℕ) × (alike cmp z (each_below n (λ k. k)) ≡ first ∷ rest)
  unfolding each_below
  some-pass i zero z h s = absurd (omega arith)
  some-pass i (suc n) z h s =
      let numbers = each_below n (λ k. k) in
      let e = filter-append (λ k. is_eq (cmp z k)) numbers (n ∷ []) in
      elim (cases_lt i n) [
        | inl l ↦ let p = some-pass i n z l s in (p.0, p.1 ++ alike cmp z (n ∷ []), e ∙ ap (λ l. l ++ alike cmp z (n ∷ [])) p.2)
        | inr g ↦
            let same : i ≡ n = omega arith in
            let here : alike cmp z (n ∷ []) ≡ n ∷ [] = ap (λ b. cond b (n ∷ []) []) (ap (λ k. is_eq (cmp z k)) (sym same) ∙ s) in
            let p = first-of (alike cmp z numbers) n in
            (p.0, p.1, e ∙ (ap (λ l. alike cmp z numbers ++ l) here ∙ p.2))
      ]
    where
      first-of : (xs : List ℕ) (n : ℕ) → (first : ℕ) × (rest : List ℕ) × (xs ++ n ∷ [] ≡ first ∷ rest)
      first-of [] n = (n, [], refl)
      first-of (x ∷ xs) n = (x, xs ++ n ∷ [], refl)

  behind : (i j n : ℕ) → i < j → j < n → is_eq (cmp j i) ≡ true → Behind j (alike cmp j (each_below n (λ k. k)))
  unfolding each_below
  behind i j zero h l s = absurd (omega arith)
  behind i j (suc n) h l s =
      let numbers = each_below n (λ k. k) in
      let e = filter-append (λ k. is_eq (cmp j k)) numbers (n ∷ []) in
      elim (cases_lt j n) [
        | inl m ↦
            let b = behind i j n h m s in
            record {
              first = b.first;
              between = b.between;
              after = b.after ++ alike cmp j (n ∷ []);
              is = e ∙ (ap (λ l. l ++ alike cmp j (n ∷ [])) b.is ∙ ap (λ l. b.first ∷ l) (append_assoc b.between (j ∷ b.after) (alike cmp j (n ∷ []))));
            }
        | inr g ↦
            let same : j ≡ n = omega arith in
            let p = some-pass i n j (omega arith) s in
            let here : alike cmp j (n ∷ []) ≡ j ∷ [] = ap (λ k. alike cmp j (k ∷ [])) (sym same) ∙ ap (λ b. cond b (j ∷ []) []) (same-self cmp total j) in
            record { first = p.0; between = p.1; after = []; is = e ∙ (ap (λ l. l ++ alike cmp j (n ∷ [])) p.2 ∙ ap (λ l. p.0 ∷ p.1 ++ l) here) }
      ]

not-so : (b : Bool) → (b ≡ true → ⊥) → b ≡ false
not-so true h = absurd (h refl)
not-so false h = refl

-- what a walk over the neighbours below k has found: nothing that agrees, or of all that agree the least second
module _ (cols : List ℕ) (rows : List Row) where
  abbrev compare : ℕ → ℕ → Ordering
  compare i j = row_cmp (pick cols (get_or rows i [])) (pick cols (get_or rows j []))

  compare_total : IsTotalOrder compare
  compare_total = on_total (λ i. pick cols (get_or rows i [])) row_cmp_total

  -- on rising columns rows are in the order of their values there
  by-values : order_on (rising cols) rows ≡ sort_by compare (each_below (length rows) (λ k. k))
  by-values = λ t. sort_by (λ i j. compare_on-rising cols (get_or rows i []) (get_or rows j []) t) (each_below (length rows) (λ k. k))

  pub record Found (ps : List ℕ) (k : ℕ) (p : ℕ × ℕ) : Type 0 where
    pub at : ℕ
    pub near : suc at < k
    pub first : p.0 ≡ get_or ps at 0
    pub second : p.1 ≡ get_or ps (suc at) 0
    pub agrees : meet cols rows (get_or ps (suc at) 0) (get_or ps at 0) ≡ true
    pub least : (b : ℕ) → suc b < k → meet cols rows (get_or ps (suc b) 0) (get_or ps b 0) ≡ true → p.1 ≤ get_or ps (suc b) 0

  abbrev pub Least : List ℕ → ℕ → Option (ℕ × ℕ) → Type 0
  Least ps k None = (b : ℕ) → suc b < k → meet cols rows (get_or ps (suc b) 0) (get_or ps b 0) ≡ false
  Least ps k (Some p) = Found ps k p

  -- rows that agree: the later one has a neighbour before it that agrees
  neighbour : (ps : List ℕ) → ps ≡ order_on (rising cols) rows → (i j : ℕ) → i < j → j < length rows → meet cols rows j i ≡ true → Before compare j ps
  neighbour ps e i j h l m =
      let numbers = each_below (length rows) (λ k. k) in
      let b = behind compare compare_total i j (length rows) h l m in
      let found = before-in compare compare_total j (sort_by compare numbers) b.first b.between b.after (sort-is-sorted compare compare_total numbers) (sort-alike compare compare_total j numbers ∙ b.is) in
      subst (λ (qs : List ℕ). Before compare j qs) (sym (e ∙ by-values)) found

  agrees-there : (ps : List ℕ) (j : ℕ) (b : Before compare j ps) → meet cols rows (get_or ps (suc b.at) 0) (get_or ps b.at 0) ≡ true
  agrees-there ps j b = ap (λ q. meet cols rows q (get_or ps b.at 0)) b.is ∙ b.same

  -- neighbours that agree stand in the order of their positions
  rises : (ps : List ℕ) → ps ≡ order_on (rising cols) rows → (k : ℕ) → suc k < length ps → meet cols rows (get_or ps (suc k) 0) (get_or ps k 0) ≡ true → get_or ps k 0 < get_or ps (suc k) 0
  rises ps e k h m =
      let numbers = each_below (length rows) (λ i. i) in
      let q = get_or ps (suc k) 0 in
      let alikes : ℕ → Bool = λ i. is_eq (compare q i) in
      let same : alike compare q ps ≡ alike compare q numbers = ap (alike compare q) (e ∙ by-values) ∙ sort-alike compare compare_total q numbers in
      neighbours-rise alikes ps k (subst Rising (sym same) (rising-filter alikes numbers (numbers-rise (length rows)))) h m (same-self compare compare_total q)

  none-found : (ps : List ℕ) → ps ≡ order_on (rising cols) rows → Least ps (length ps) None → Apart cols rows (length rows)
  none-found ps e f i j h l = not-so _ (λ m. let b = neighbour ps e i j h l m in true≢false (sym (agrees-there ps j b) ∙ f b.at b.near))

  one-found : (ps : List ℕ) (p : ℕ × ℕ) → ps ≡ order_on (rising cols) rows → Found ps (length ps) p → IsFirst cols rows p.0 p.1
  one-found ps p e f =
      let first = f.first in
      let second = f.second in
      let up = rises ps e f.at f.near f.agrees in
      let there = subst (λ (qs : List ℕ). ArePositions (length rows) qs) (sym e) (order-there (rising cols) rows) (suc f.at) 0 f.near in
      let meets : meet cols rows p.1 p.0 ≡ true = ap (λ a. meet cols rows a p.0) second ∙ (ap (λ b. meet cols rows (get_or ps (suc f.at) 0) b) first ∙ f.agrees) in
      record {
        order = omega (arith, first, second, up);
        there = omega (arith, second, there);
        agrees = meets;
        before = λ i j h l. not-so _ (λ m.
            let b = neighbour ps e i j h (omega (arith, l, second, there)) m in
            let least = f.least b.at b.near (agrees-there ps j b) in
            let is = b.is in
            omega (arith, l, least, is));
        least = λ i h. not-so _ (λ m.
            let other : meet cols rows p.0 i ≡ true = agree-both cols (get_or rows p.1 []) (get_or rows p.0 []) (get_or rows i []) meets m in
            let b = neighbour ps e i p.0 h (omega (arith, first, second, up, there)) other in
            let least = f.least b.at b.near (agrees-there ps p.0 b) in
            let is = b.is in
            omega (arith, least, is, first, second, up));
      }

  pub least-is : (ps : List ℕ) (best : Option (ℕ × ℕ)) → ps ≡ order_on (rising cols) rows → Least ps (length ps) best → best ≡ first_clash cols rows
  least-is ps None e f = sym (clash-none cols [] rows (none-found ps e f))
  least-is ps (Some p) e f = sym (clash-some cols [] rows p.0 p.1 (one-found ps p e f) zero-le)

  -- what was found stays, where the next pair does not agree with a second below it
  found-on : (ps : List ℕ) (k : ℕ) (p : ℕ × ℕ) → Found ps (suc k) p → (meet cols rows (get_or ps (suc k) 0) (get_or ps k 0) ≡ true → p.1 ≤ get_or ps (suc k) 0) → Found ps (suc (suc k)) p
  found-on ps k p f next =
      let near = f.near in
      record {
        at = f.at;
        near = omega (arith, near);
        first = f.first;
        second = f.second;
        agrees = f.agrees;
        least = λ b h t. elim (cases_lt (suc b) (suc k)) [
          | inl l ↦ f.least b l t
          | inr g ↦
              let e : b ≡ k = omega arith in
              subst (λ (i : ℕ). p.1 ≤ get_or ps (suc i) 0) (sym e) (next (sym (ap (λ i. meet cols rows (get_or ps (suc i) 0) (get_or ps i 0)) e) ∙ t))
        ];
      }

  -- one more pair of neighbours
  pub least-skip : (ps : List ℕ) (k : ℕ) (best : Option (ℕ × ℕ)) → meet cols rows (get_or ps (suc k) 0) (get_or ps k 0) ≡ false → Least ps (suc k) best → Least ps (suc (suc k)) best
  least-skip ps k None m f =
      λ b h. elim (cases_lt (suc b) (suc k)) [ inl l ↦ f b l | inr g ↦ let e : b ≡ k = omega arith in ap (λ i. meet cols rows (get_or ps (suc i) 0) (get_or ps i 0)) e ∙ m ]
  least-skip ps k (Some p) m f = found-on ps k p f (λ t. absurd (true≢false (sym t ∙ m)))

  pub least-keep : (ps : List ℕ) (k : ℕ) (p : ℕ × ℕ) → p.1 ≤ get_or ps (suc k) 0 → Least ps (suc k) (Some p) → Least ps (suc (suc k)) (Some p)
  least-keep ps k p up f = found-on ps k p f (λ t. up)

  -- the new pair is the least, where what was found before is above it
  pub least-take : (ps : List ℕ) (k : ℕ) → meet cols rows (get_or ps (suc k) 0) (get_or ps k 0) ≡ true
      → ((b : ℕ) → suc b < suc k → meet cols rows (get_or ps (suc b) 0) (get_or ps b 0) ≡ true → get_or ps (suc k) 0 ≤ get_or ps (suc b) 0) → Least ps (suc (suc k)) (Some (get_or ps k 0, get_or ps (suc k) 0))
  least-take ps k m above = record {
    at = k;
    near = omega arith;
    first = refl;
    second = refl;
    agrees = m;
    least = λ b h t. elim (cases_lt (suc b) (suc k)) [
      | inl l ↦ above b l t
      | inr g ↦ let e : k ≡ b = omega arith in let s = ap (λ i. get_or ps (suc i) 0) e in omega (arith, s)
    ];
  }

  pub least-pair : (ps : List ℕ) (k : ℕ) (best : Option (ℕ × ℕ)) → meet cols rows (get_or ps (suc k) 0) (get_or ps k 0) ≡ true → Least ps (suc k) best
      → Least ps (suc (suc k)) (earlier_clash best (get_or ps k 0) (get_or ps (suc k) 0))
  least-pair ps k None m f = least-take ps k m (λ b h t. absurd (true≢false (sym t ∙ f b h)))
  least-pair ps k (Some p) m f = step (ltb (get_or ps (suc k) 0) p.1) refl
    where
      step : (b : Bool) → ltb (get_or ps (suc k) 0) p.1 ≡ b → Least ps (suc (suc k)) (cond b (Some (get_or ps k 0, get_or ps (suc k) 0)) (Some p))
      step true l = let below = ltb-true _ _ l in least-take ps k m (λ b h t. let least = f.least b h t in omega (arith, below, least))
      step false l = least-keep ps k p (ltb-false _ _ l) f

  -- one step of the walk, at the neighbours before k and at k
  pub least-walk : (ps : List ℕ) (k : ℕ) (best : Option (ℕ × ℕ)) → 0 < k → Least ps k best
      → Least ps (k + 1) (cond (meet cols rows (get_or ps k 0) (get_or ps (k - 1) 0)) (earlier_clash best (get_or ps (k - 1) 0) (get_or ps k 0)) best)
  least-walk ps k best h f =
      let back : suc (k - 1) ≡ k = omega arith in
      let up : suc (suc (k - 1)) ≡ k + 1 = omega arith in
      let from : Least ps (suc (k - 1)) best = subst (λ (n : ℕ). Least ps n best) (sym back) f in
      let next = step (meet cols rows (get_or ps (suc (k - 1)) 0) (get_or ps (k - 1) 0)) refl from in
      let there = subst (λ (n : ℕ). Least ps n (cond (meet cols rows (get_or ps (suc (k - 1)) 0) (get_or ps (k - 1) 0)) (earlier_clash best (get_or ps (k - 1) 0) (get_or ps (suc (k - 1)) 0)) best)) up next in
      subst (λ (n : ℕ). Least ps (k + 1) (cond (meet cols rows (get_or ps n 0) (get_or ps (k - 1) 0)) (earlier_clash best (get_or ps (k - 1) 0) (get_or ps n 0)) best)) back there
    where
      step : (b : Bool) → meet cols rows (get_or ps (suc (k - 1)) 0) (get_or ps (k - 1) 0) ≡ b → Least ps (suc (k - 1)) best
          → Least ps (suc (suc (k - 1))) (cond b (earlier_clash best (get_or ps (k - 1) 0) (get_or ps (suc (k - 1)) 0)) best)
      step true m g = least-pair ps (k - 1) best m g
      step false m g = least-skip ps (k - 1) best m g

  -- the walk is done
  pub least-end : (ps : List ℕ) (k : ℕ) (best : Option (ℕ × ℕ)) → length ps ≤ k → k ≤ length ps + 1 → 0 < k → (0 < length ps → k ≤ length ps) → Least ps k best → Least ps (length ps) best
  least-end ps k best far near some end f = elim (cases_lt 0 (length ps)) [
    | inl l ↦ let up = end l in let e : k ≡ length ps = omega arith in subst (λ (n : ℕ). Least ps n best) e f
    | inr g ↦ none g best f
  ]
    where
      none : length ps ≤ 0 → (best : Option (ℕ × ℕ)) → Least ps k best → Least ps (length ps) best
      none g None f = λ b h. absurd (omega arith)
      none g (Some p) f = let at = f.near in absurd (omega (arith, at))
