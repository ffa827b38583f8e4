-- Orders without the entries whose columns earlier ones determine, where a set stands for the columns that were passed.
use Rattle.std.proofs.Common.{◌≡◌, ℕ, zero, suc, ◌+◌, ◌<◌, ◌≤◌, ◌==◌, nat_lt, Bool, true, false, cond, not, ◌||◌, ◌&&◌, ⊎_elim, List, [], ◌∷◌, length, drop, drop-cons, Option, Some, slice_get, refl, sym, ap, ◌∙◌, subst, arith, true≢false, eqb-true, ltb-true}
use Rattle.std.proofs.lemmas.List.{drop_all}
use Rattle.std.proofs.lemmas.Option.{slice_get_within, get_or_from_slice_get}
use Rattle.std.proofs.lemmas.Bool.Decides.{nat_tests}
use Rattle.vx_rows_values.specs.declared.order.OrderEntry.{OrderEntry}
use Rattle.vx_rows_values.specs.Order.{order_columns}
use Rattle.vx_rows_values.proofs.Booleans.{and-left, and-right}
use Rattle.vx_catalog_relations.specs.Catalog.{all_below}
use Rattle.vx_plan_facts.specs.Equal.{Equality}
use Rattle.vx_plan_facts.specs.Determined.{Columns}
use Rattle.vx_plan_facts.specs.DeterminedFacts.{WithinFirst}
use Rattle.vx_plan_facts.specs.Following.{set_of, equal_entries, begins_equally, short_after, short}
use Rattle.vx_plan_facts.proofs.Tests.{or-cases, or-left, or-right}
use Rattle.vx_check_rules.specs.Passed.{past, first_passes}

-- what columns determine: themselves, no more than a set in whose determined columns they are, and with a column those that are equal to it
pub record Closes (w : ℕ) (e : Equality) (det : Columns → Columns) : Type 0 where
  pub holds : (s : Columns) → WithinFirst w s (det s)
  pub again : (s t : Columns) → WithinFirst w s (det t) → WithinFirst w (det s) (det t)
  pub equal : (s : Columns) (c d : ℕ) → c < w → d < w → e c d ≡ true → det s c ≡ true → det s d ≡ true
  pub swap : (c d : ℕ) → c < w → d < w → e c d ≡ true → e d c ≡ true

-- a set with one column more
abbrev pub with_one : Columns → ℕ → Columns
with_one s c x = s x || (x == c)

-- the entries of an order whose columns those before them and those of the set do not determine
abbrev pub short_past : (Columns → Columns) → Columns → List OrderEntry → List OrderEntry
short_past det s [] = []
short_past det s (c ∷ order) = cond (det s c.column) (short_past det s order) (c ∷ short_past det (with_one s c.column) order)

-- an order from one of its entries on
pub drop-at : {X : Type 0} (xs : List X) (i : ℕ) (x : X) → slice_get xs i ≡ Some x → drop i xs ≡ x ∷ drop (suc i) xs
drop-at xs i x e = drop-cons xs i x (slice_get_within xs i x e) ∙ ap (λ y. y ∷ drop (suc i) xs) (get_or_from_slice_get xs i x x e)

-- two sets determine the same of the first w columns
pub record Alike (w : ℕ) (det : Columns → Columns) (s t : Columns) : Type 0 where
  pub there : WithinFirst w (det s) (det t)
  pub back : WithinFirst w (det t) (det s)

same-bool : (a b : Bool) → (a ≡ true → b ≡ true) → (b ≡ true → a ≡ true) → a ≡ b
same-bool true b f g = sym (f refl)
same-bool false true f g = g refl
same-bool false false f g = refl

pub alike-at : (w : ℕ) (det : Columns → Columns) (s t : Columns) → Alike w det s t → (c : ℕ) → c < w → det s c ≡ det t c
alike-at w det s t h c l = same-bool (det s c) (det t c) (h.there c l) (h.back c l)

column-below : (w : ℕ) (c : OrderEntry) (order : List OrderEntry) → all_below w (order_columns (c ∷ order)) ≡ true → c.column < w
column-below w c order l = ltb-true c.column w (and-left (nat_lt c.column w) (all_below w (order_columns order)) l)

rest-below : (w : ℕ) (c : OrderEntry) (order : List OrderEntry) → all_below w (order_columns (c ∷ order)) ≡ true → all_below w (order_columns order) ≡ true
rest-below w c order l = and-right (nat_lt c.column w) (all_below w (order_columns order)) l

module _ (w : ℕ) (e : Equality) (det : Columns → Columns) (closes : Closes w e det) where
  -- the same columns, of the first w
  pub alike-same : (s t : Columns) → ((c : ℕ) → c < w → s c ≡ t c) → Alike w det s t
  alike-same s t h = record {
    there = closes.again s t (λ c l k. closes.holds t c l (sym (h c l) ∙ k));
    back = closes.again t s (λ c l k. closes.holds s c l (h c l ∙ k));
  }

  pub alike-after : (s t u : Columns) → Alike w det s t → Alike w det t u → Alike w det s u
  alike-after s t u h k = record {
    there = λ c l m. k.there c l (h.there c l m);
    back = λ c l m. h.back c l (k.back c l m);
  }

  -- a set within what another one determines stays so with a column more on either side
  one-within : (s t : Columns) (c d : ℕ) → det (with_one t d) c ≡ true → WithinFirst w (det s) (det t) → WithinFirst w (with_one s c) (det (with_one t d))
  one-within s t c d last h x l y =
      ⊎_elim
      (λ old. closes.again t (with_one t d) (λ z n o. closes.holds (with_one t d) z n (or-left (t z) (z == d) o)) x l (h x l (closes.holds s x l old)))
      (λ (new : (x == c) ≡ true). let P : ℕ → Type 0 = λ v. det (with_one t d) v ≡ true in subst P (sym (eqb-true x c new)) last)
      (or-cases (s x) (x == c) y)

  same-number : (n : ℕ) → (n == n) ≡ true
  same-number n = grind (arith, nat_tests)

  last-is : (s : Columns) (c : ℕ) → c < w → det (with_one s c) c ≡ true
  last-is s c l = closes.holds (with_one s c) c l (or-right (s c) (c == c) (same-number c))

  -- the same column more
  pub alike-one : (s t : Columns) (c : ℕ) → c < w → Alike w det s t → Alike w det (with_one s c) (with_one t c)
  alike-one s t c l h = record {
    there = closes.again (with_one s c) (with_one t c) (one-within s t c c (last-is t c l) h.there);
    back = closes.again (with_one t c) (with_one s c) (one-within t s c c (last-is s c l) h.back);
  }

  -- equal columns more
  pub alike-equal : (s t : Columns) (c d : ℕ) → c < w → d < w → e c d ≡ true → Alike w det s t → Alike w det (with_one s c) (with_one t d)
  alike-equal s t c d l m same h = record {
    there = closes.again (with_one s c) (with_one t d)
        (one-within s t c d (closes.equal (with_one t d) d c m l (closes.swap c d l m same) (last-is t d m)) h.there);
    back = closes.again (with_one t d) (with_one s c) (one-within t s d c (closes.equal (with_one s c) c d l m same (last-is s c l)) h.back);
  }

  -- a column more that is determined
  pub alike-passed : (s t : Columns) (c : ℕ) → det s c ≡ true → c < w → Alike w det s t → Alike w det (with_one s c) t
  alike-passed s t c is l h = record {
    there = closes.again (with_one s c) t (λ x m y. ⊎_elim
        (λ old. h.there x m (closes.holds s x m old))
        (λ (new : (x == c) ≡ true). let P : ℕ → Type 0 = λ v. det t v ≡ true in subst P (sym (eqb-true x c new)) (h.there c l is))
        (or-cases (s x) (x == c) y));
    back = closes.again t (with_one s c) (λ x m y.
        closes.again s (with_one s c) (λ z n o. closes.holds (with_one s c) z n (or-left (s z) (z == c) o)) x m (h.back x m (closes.holds t x m y)));
  }

  -- ---- short orders

  -- past sets that determine the same an order is equally short
  pub short-same : (s t : Columns) (cols : List OrderEntry) → Alike w det s t → all_below w (order_columns cols) ≡ true → short_past det s cols ≡ short_past det t cols
  short-same s t [] h l = refl
  short-same s t (c ∷ cols) h l =
      let below = column-below w c cols l in
      let rest = rest-below w c cols l in
      go (det s c.column) (det t c.column) (alike-at w det s t h c.column below) (short-same s t cols h rest)
      (short-same (with_one s c.column) (with_one t c.column) cols (alike-one s t c.column below h) rest)
    where
      go : (a b : Bool) → a ≡ b → short_past det s cols ≡ short_past det t cols → short_past det (with_one s c.column) cols ≡ short_past det (with_one t c.column) cols
          → cond a (short_past det s cols) (c ∷ short_past det (with_one s c.column) cols) ≡ cond b (short_past det t cols) (c ∷ short_past det (with_one t c.column) cols)
      go true true same x y = x
      go true false same x y = absurd (true≢false same)
      go false true same x y = absurd (true≢false (sym same))
      go false false same x y = ap (λ xs. c ∷ xs) y

  or-swap : (a b : Bool) → (a || b) ≡ (b || a)
  or-swap true true = refl
  or-swap true false = refl
  or-swap false true = refl
  or-swap false false = refl

  front-one : (c : ℕ) (before : List ℕ) → Alike w det (set_of (c ∷ before)) (with_one (set_of before) c)
  front-one c before = alike-same (set_of (c ∷ before)) (with_one (set_of before) c) (λ x l. or-swap (x == c) (set_of before x))

  -- a set stands for the columns before
  pub short-before : (before : List ℕ) (s : Columns) (cols : List OrderEntry) → Alike w det (set_of before) s → all_below w (order_columns cols) ≡ true
      → short_after det before cols ≡ short_past det s cols
  short-before before s [] h l = refl
  short-before before s (c ∷ cols) h l =
      let x : ℕ = c.column in
      let below = column-below w c cols l in
      let rest = rest-below w c cols l in
      let same = alike-at w det (set_of before) s h x below in
      go (det (set_of before) x) (det s x) refl same
      (λ is. short-before (x ∷ before) s cols
      (alike-after (set_of (x ∷ before)) (with_one (set_of before) x) s (front-one x before) (alike-passed (set_of before) s x is below h)) rest)
      (short-before (x ∷ before) (with_one s x) cols
      (alike-after (set_of (x ∷ before)) (with_one (set_of before) x) (with_one s x) (front-one x before) (alike-one (set_of before) s x below h)) rest)
    where
      go : (a b : Bool) → det (set_of before) c.column ≡ a → a ≡ b → (a ≡ true → short_after det (c.column ∷ before) cols ≡ short_past det s cols)
          → short_after det (c.column ∷ before) cols ≡ short_past det (with_one s c.column) cols
          → cond a (short_after det (c.column ∷ before) cols) (c ∷ short_after det (c.column ∷ before) cols)
          ≡ cond b (short_past det s cols) (c ∷ short_past det (with_one s c.column) cols)
      go true true is same x y = x refl
      go true false is same x y = absurd (true≢false same)
      go false true is same x y = absurd (true≢false (sym same))
      go false false is same x y = ap (λ xs. c ∷ xs) y

  -- nothing is before the first column
  pub short-starts : (s : Columns) (cols : List OrderEntry) → ((c : ℕ) → s c ≡ false) → all_below w (order_columns cols) ≡ true → short det cols ≡ short_past det s cols
  short-starts s cols none l = short-before [] s cols (alike-same (set_of []) s (λ c m. sym (none c))) l

  -- columns that are determined may be skipped
  pub short-skips : (s found : Columns) → ((c : ℕ) → c < w → found c ≡ det s c) → (cols : List OrderEntry) → all_below w (order_columns cols) ≡ true
      → short_past det s (past found cols) ≡ short_past det s cols
  short-skips s found is [] l = refl
  short-skips s found is (c ∷ cols) l =
      go (found c.column) (det s c.column) refl (is c.column (column-below w c cols l)) (short-skips s found is cols (rest-below w c cols l))
    where
      go : (a b : Bool) → det s c.column ≡ b → a ≡ b → short_past det s (past found cols) ≡ short_past det s cols
          → short_past det s (cond a (past found cols) (c ∷ cols)) ≡ cond b (short_past det s cols) (c ∷ short_past det (with_one s c.column) cols)
      go true true here same x = x
      go true false here same x = absurd (true≢false same)
      go false true here same x = absurd (true≢false (sym same))
      go false false here same x = ap (λ k. cond k (short_past det s cols) (c ∷ short_past det (with_one s c.column) cols)) here

  -- ---- two orders side by side

  module _ (order given : List OrderEntry) (order-below : all_below w (order_columns order) ≡ true) (given-below : all_below w (order_columns given) ≡ true) where
    -- from these places on, past a set, the orders compare as they do from their fronts
    abbrev pub Walks : ℕ → ℕ → Columns → Type 0
    Walks i j s = begins_equally e (short det order) (short det given) ≡ begins_equally e (short_past det s (drop i order)) (short_past det s (drop j given))

    pub walk-starts : (s : Columns) → ((c : ℕ) → s c ≡ false) → Walks 0 0 s
    walk-starts s none =
        ap (λ xs. begins_equally e xs (short det given)) (short-starts s order none order-below)
        ∙ ap (begins_equally e (short_past det s order)) (short-starts s given none given-below)

    drop-below : (xs : List OrderEntry) → all_below w (order_columns xs) ≡ true → (i : ℕ) → all_below w (order_columns (drop i xs)) ≡ true
    drop-below xs l zero = l
    drop-below [] l (suc i) = refl
    drop-below (x ∷ xs) l (suc i) = drop-below xs (rest-below w x xs l) i

    here-below : (xs : List OrderEntry) → all_below w (order_columns xs) ≡ true → (i : ℕ) (c : OrderEntry) → slice_get xs i ≡ Some c → c.column < w
    here-below xs l i c h = let P : List OrderEntry → Type 0 = λ ys. all_below w (order_columns ys) ≡ true in
        column-below w c (drop (suc i) xs) (subst P (drop-at xs i c h) (drop-below xs l i))

    next-place : (i : ℕ) → suc i ≡ i + 1
    next-place i = omega arith

    -- the column is determined
    pub walk-passes : (i j : ℕ) (s : Columns) → Walks i j s → (c : OrderEntry) → slice_get order i ≡ Some c → det s c.column ≡ true → Walks (i + 1) j s
    walk-passes i j s at c h is =
        let rest : List OrderEntry = drop (suc i) order in
        let tail : List OrderEntry = short_past det s (drop j given) in
        at ∙ ap (λ xs. begins_equally e (short_past det s xs) tail) (drop-at order i c h)
        ∙ ap (λ b. begins_equally e (cond b (short_past det s rest) (c ∷ short_past det (with_one s c.column) rest)) tail) is
        ∙ ap (λ n. begins_equally e (short_past det s (drop n order)) tail) (next-place i)

    -- the entry at a place whose column is not determined, before what comes past the determined ones
    turn : (i j : ℕ) (s found : Columns) (c : OrderEntry) → slice_get order i ≡ Some c → ((c : ℕ) → c < w → found c ≡ det s c) → det s c.column ≡ false
        → (k : ℕ) → drop k given ≡ past found (drop j given)
        → begins_equally e (short_past det s (drop i order)) (short_past det s (drop j given))
        ≡ begins_equally e (c ∷ short_past det (with_one s c.column) (drop (suc i) order)) (short_past det s (drop k given))
    turn i j s found c h is not-here k there =
        let rest : List OrderEntry = drop (suc i) order in
        let tail : List OrderEntry = short_past det s (drop j given) in
        ap (λ xs. begins_equally e (short_past det s xs) tail) (drop-at order i c h)
        ∙ ap (λ b. begins_equally e (cond b (short_past det s rest) (c ∷ short_past det (with_one s c.column) rest)) tail) not-here
        ∙ ap (begins_equally e (c ∷ short_past det (with_one s c.column) rest))
        (sym (short-skips s found is (drop j given) (drop-below given given-below j)) ∙ ap (short_past det s) (sym there))

    -- what comes past the determined columns is not determined
    past-first : (found : Columns) (ys : List OrderEntry) (d : OrderEntry) (ds : List OrderEntry) → past found ys ≡ d ∷ ds → found d.column ≡ false
    past-first found [] d ds h = cc
    past-first found (y ∷ ys) d ds h = go (found y.column) refl h (past-first found ys d ds)
      where
        go : (b : Bool) → found y.column ≡ b → cond b (past found ys) (y ∷ ys) ≡ d ∷ ds → (past found ys ≡ d ∷ ds → found d.column ≡ false) → found d.column ≡ false
        go true is k f = f k
        go false is k f = ap (λ z. found z.column) (ap (head-or y) (sym k)) ∙ is
          where
            head-or : OrderEntry → List OrderEntry → OrderEntry
            head-or z [] = z
            head-or z (x ∷ xs) = x

    stays : (s found : Columns) → ((c : ℕ) → c < w → found c ≡ det s c) → (d : OrderEntry) (ds : List OrderEntry) → all_below w (order_columns (d ∷ ds)) ≡ true
        → (ys : List OrderEntry) → d ∷ ds ≡ past found ys → short_past det s (d ∷ ds) ≡ d ∷ short_past det (with_one s d.column) ds
    stays s found is d ds l ys there =
        ap (λ b. cond b (short_past det s ds) (d ∷ short_past det (with_one s d.column) ds)) (sym (is d.column (column-below w d ds l)) ∙ past-first found ys d ds (sym there))

    ends : (c : OrderEntry) (xs : List OrderEntry) (s found : Columns) → ((c : ℕ) → c < w → found c ≡ det s c) → (zs : List OrderEntry) → all_below w (order_columns zs) ≡ true
        → (ys : List OrderEntry) → zs ≡ past found ys → first_passes (equal_entries e c) zs ≡ false → begins_equally e (c ∷ xs) (short_past det s zs) ≡ false
    ends c xs s found is [] l ys there none = refl
    ends c xs s found is (d ∷ ds) l ys there none =
        ap (begins_equally e (c ∷ xs)) (stays s found is d ds l ys there) ∙ ap (λ b. b && begins_equally e xs (short_past det (with_one s d.column) ds)) none

    abbrev behind : List OrderEntry → List OrderEntry
    behind [] = []
    behind (x ∷ xs) = xs

    behind-drop : (k : ℕ) (xs : List OrderEntry) → behind (drop k xs) ≡ drop (suc k) xs
    behind-drop zero [] = refl
    behind-drop zero (x ∷ xs) = refl
    behind-drop (suc k) [] = refl
    behind-drop (suc k) (x ∷ xs) = behind-drop k xs

    goes : (c : OrderEntry) → c.column < w → (s t found : Columns) → ((c : ℕ) → c < w → found c ≡ det s c) → Alike w det (with_one s c.column) t
        → (xs : List OrderEntry) → all_below w (order_columns xs) ≡ true
        → (zs : List OrderEntry) → all_below w (order_columns zs) ≡ true → (ys : List OrderEntry) → zs ≡ past found ys → first_passes (equal_entries e c) zs ≡ true
        → begins_equally e (c ∷ short_past det (with_one s c.column) xs) (short_past det s zs) ≡ begins_equally e (short_past det t xs) (short_past det t (behind zs))
    goes c below s t found is more xs m [] l ys there goes-on = absurd (true≢false (sym goes-on))
    goes c below s t found is more xs m (d ∷ ds) l ys there goes-on =
        let x : ℕ = c.column in
        let y : ℕ = d.column in
        let last : y < w = column-below w d ds l in
        let equal : e x y ≡ true = and-left (e x y) (cond c.falling d.falling (not d.falling)) goes-on in
        let self : Alike w det s s = alike-same s s (λ x n. refl) in
        let other : Alike w det (with_one s y) t = alike-after (with_one s y) (with_one s x) t (alike-equal s s y x last below (closes.swap x y below last equal) self) more in
        ap (begins_equally e (c ∷ short_past det (with_one s x) xs)) (stays s found is d ds l ys there)
        ∙ ap (λ b. b && begins_equally e (short_past det (with_one s x) xs) (short_past det (with_one s y) ds)) goes-on
        ∙ ap (λ zs. begins_equally e zs (short_past det (with_one s y) ds)) (short-same (with_one s x) t xs more m)
        ∙ ap (begins_equally e (short_past det t xs)) (short-same (with_one s y) t ds other (rest-below w d ds l))

    -- it is not, and no equal column goes on
    pub walk-fails : (i j : ℕ) (s found : Columns) → Walks i j s → (c : OrderEntry) → slice_get order i ≡ Some c → ((c : ℕ) → c < w → found c ≡ det s c)
        → det s c.column ≡ false → (k : ℕ) → drop k given ≡ past found (drop j given) → first_passes (equal_entries e c) (drop k given) ≡ false
        → begins_equally e (short det order) (short det given) ≡ false
    walk-fails i j s found at c h is not-here k there none =
        let xs : List OrderEntry = short_past det (with_one s c.column) (drop (suc i) order) in
        at ∙ turn i j s found c h is not-here k there ∙ ends c xs s found is (drop k given) (drop-below given given-below k) (drop j given) there none

    -- an equal column in the same direction goes on
    pub walk-goes : (i j : ℕ) (s t found : Columns) → Walks i j s → (c : OrderEntry) → slice_get order i ≡ Some c → ((c : ℕ) → c < w → found c ≡ det s c)
        → det s c.column ≡ false → (k : ℕ) → drop k given ≡ past found (drop j given) → first_passes (equal_entries e c) (drop k given) ≡ true
        → ((x : ℕ) → x < w → t x ≡ with_one s c.column x) → Walks (i + 1) (k + 1) t
    walk-goes i j s t found at c h is not-here k there goes-on same =
        let below : c.column < w = here-below order order-below i c h in
        let more : Alike w det (with_one s c.column) t = alike-same (with_one s c.column) t (λ x l. sym (same x l)) in
        at ∙ turn i j s found c h is not-here k there
        ∙ goes c below s t found is more (drop (suc i) order) (drop-below order order-below (suc i)) (drop k given) (drop-below given given-below k) (drop j given) there goes-on
        ∙ ap (λ n. begins_equally e (short_past det t (drop n order)) (short_past det t (behind (drop k given)))) (next-place i)
        ∙ ap (λ ys. begins_equally e (short_past det t (drop (i + 1) order)) (short_past det t ys)) (behind-drop k given ∙ ap (λ n. drop n given) (next-place k))

    pub walk-ends : (i j : ℕ) (s : Columns) → Walks i j s → length order ≤ i → begins_equally e (short det order) (short det given) ≡ true
    walk-ends i j s at h = at ∙ ap (λ xs. begins_equally e (short_past det s xs) (short_past det s (drop j given))) (drop_all i order h)
