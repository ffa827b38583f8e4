-- Joins: their totals, routes, order and keys.
use Rattle.std.proofs.Common.{◌≡◌, ◌≢◌, ℕ, zero, suc, ◌+◌, ◌-◌, ◌<◌, ◌≤◌, ◌==◌, nat_lt, nat_le, Bool, true, false, ◌&&◌, ⊎_elim, List, [], ◌∷◌, ◌++◌, map, filter, length, drop, refl, sym, ap, ◌∙◌, arith, true≢false, is_eq, ltb-true, leb-true, eqb-true}
use Rattle.std.specs.List.{list_all}
use Rattle.std.proofs.lemmas.Bool.{eqb-false}
use Rattle.vx_rows_values.specs.Values.{Row, val_cmp, value_at, pick}
use Rattle.vx_rows_values.specs.Bags.{total, SameRows}
use Rattle.vx_plan_nodes.specs.Plan.{Route}
use Rattle.vx_catalog_relations.specs.Catalog.{all_below}
use Rattle.vx_plan_nodes.specs.Serial.{matches, joined_with, join_rows}
use Rattle.vx_plan_nodes.specs.Streams.{Streams, joined, across}
use Rattle.vx_plan_nodes.specs.Routes.{Routing}
use Rattle.vx_check_rules.specs.Rules.{shifted, has_pair, all_pairs}
use Rattle.vx_check_rules.specs.Claims.{InItsStream}
use Rattle.vx_exec_laws.proofs.Bags.{and-left, and-right, when, total-map, total-filter, total-flat_map, total-ext, total-add, total-zero, total-joined, across-ext}
use Rattle.vx_exec_laws.proofs.Parts.{or-cases}
use Rattle.vx_exec_laws.proofs.Keys.{is_eq-then}
use Rattle.vx_rows_values.proofs.Compare.{val_cmp-same, is_eq-Equal}

-- columns of a left row with a right row behind it
pub value-left : (l r : Row) (c : ℕ) → c < length l → value_at (l ++ r) c ≡ value_at l c
value-left [] r c h = absurd (omega arith)
value-left (x ∷ l) r zero h = refl
value-left (x ∷ l) r (suc c) h = value-left l r c (omega arith)

pub value-right : (l r : Row) (c d : ℕ) → c ≡ length l + d → value_at (l ++ r) c ≡ value_at r d
value-right [] r c d h = let e : c ≡ d = omega arith in ap (λ k. value_at r k) e
value-right (x ∷ l) r zero d h = absurd (omega arith)
value-right (x ∷ l) r (suc c) d h = value-right l r c d (omega arith)

pub pick-left : (w : ℕ) (cols : List ℕ) (l r : Row) → all_below w cols ≡ true → length l ≡ w → pick cols (l ++ r) ≡ pick cols l
pick-left w [] l r h e = refl
pick-left w (c ∷ cols) l r h e =
    let b : c < w = ltb-true c w (and-left _ _ h) in
    let a : value_at (l ++ r) c ≡ value_at l c = value-left l r c (omega arith) in
    let k : pick cols (l ++ r) ≡ pick cols l = pick-left w cols l r (and-right (nat_lt c w) (all_below w cols) h) e in
    cc

pub pick-shifted : (w : ℕ) (cols : List ℕ) (l r : Row) → length l ≡ w → pick (shifted w cols) (l ++ r) ≡ pick cols r
pick-shifted w [] l r e = refl
pick-shifted w (c ∷ cols) l r e =
    let a : value_at (l ++ r) (w + c) ≡ value_at r c = value-right l r (w + c) c (omega arith) in
    let k : pick (shifted w cols) (l ++ r) ≡ pick cols r = pick-shifted w cols l r e in
    cc

pub pick-minus : (w : ℕ) (cols : List ℕ) (l r : Row) → list_all (λ c. nat_le w c) cols ≡ true → length l ≡ w → pick cols (l ++ r) ≡ pick (map (λ c. c - w) cols) r
pick-minus w [] l r h e = refl
pick-minus w (c ∷ cols) l r h e =
    let b : w ≤ c = leb-true w c (and-left _ _ h) in
    let a : value_at (l ++ r) c ≡ value_at r (c - w) = value-right l r c (c - w) (omega arith) in
    let k : pick cols (l ++ r) ≡ pick (map (λ c. c - w) cols) r = pick-minus w cols l r (and-right (nat_le w c) (list_all (λ c. nat_le w c) cols) h) e in
    cc

-- the columns of a row from w on
pub value-drop : (w c : ℕ) (row : Row) → value_at row (w + c) ≡ value_at (drop w row) c
value-drop zero c row = let e : 0 + c ≡ c = omega arith in ap (λ k. value_at row k) e
value-drop (suc w) c [] = refl
value-drop (suc w) c (x ∷ row) =
    let e : suc w + c ≡ suc (w + c) = omega arith in
    ap (λ k. value_at (x ∷ row) k) e ∙ value-drop w c row

pub pick-drop : (w : ℕ) (cols : List ℕ) (row : Row) → pick (shifted w cols) row ≡ pick cols (drop w row)
pick-drop w [] row = refl
pick-drop w (c ∷ cols) row =
    let a : value_at row (w + c) ≡ value_at (drop w row) c = value-drop w c row in
    let k : pick (shifted w cols) row ≡ pick cols (drop w row) = pick-drop w cols row in
    cc

-- totals
pub total-swap : {X Y : Type 0} (h : X → Y → ℕ) (xs : List X) (ys : List Y) → total (λ x. total (λ y. h x y) ys) xs ≡ total (λ y. total (λ x. h x y) xs) ys
total-swap h [] ys = sym (total-zero ys)
total-swap h (x ∷ xs) ys = ap (λ k. total (λ y. h x y) ys + k) (total-swap h xs ys) ∙ sym (total-add (λ y. h x y) (λ y. total (λ x. h x y) xs) ys)

abbrev pub pair : List (ℕ × ℕ) → (Row → ℕ) → Row → Row → ℕ
pair on f l r = when (matches on l r) (f (l ++ r))

pub join-total : (on : List (ℕ × ℕ)) (f : Row → ℕ) (ls rs : List Row) → total f (join_rows on ls rs) ≡ total (λ l. total (pair on f l) rs) ls
join-total on f ls rs =
    total-flat_map f (joined_with on rs) ls
    ∙ total-ext (λ l. total f (joined_with on rs l)) (λ l. total (pair on f l) rs)
    (λ l. total-map f (λ r. l ++ r) (filter (matches on l) rs) ∙ total-filter (λ r. f (l ++ r)) (matches on l) rs) ls

pub total-all-ext : {X : Type 0} (p : X → Bool) (f g : X → ℕ) → ((x : X) → p x ≡ true → f x ≡ g x) → (xs : List X) → list_all p xs ≡ true → total f xs ≡ total g xs
total-all-ext p f g e [] h = refl
total-all-ext p f g e (x ∷ xs) h =
    let a : f x ≡ g x = e x (and-left _ _ h) in
    let b : total f xs ≡ total g xs = total-all-ext p f g e xs (and-right (p x) (list_all p xs) h) in
    cc

pub total-all-le : {X : Type 0} (p : X → Bool) (f g : X → ℕ) → ((x : X) → p x ≡ true → f x ≤ g x) → (xs : List X) → list_all p xs ≡ true → total f xs ≤ total g xs
total-all-le p f g e [] h = omega arith
total-all-le p f g e (x ∷ xs) h =
    let a : f x ≤ g x = e x (and-left _ _ h) in
    let b : total f xs ≤ total g xs = total-all-le p f g e xs (and-right (p x) (list_all p xs) h) in
    omega arith

-- a join whose right side is the same for all workers takes its totals from the left
pub join-left : (on : List (ℕ × ℕ)) (n : ℕ) (s t s' : Streams) (base rbase : List Row)
    → ((w : ℕ) → w < n → join_rows on (s w) (t w) ≡ s' w) → ((w : ℕ) → w < n → SameRows (t w) rbase)
    → SameRows (joined n s) base → SameRows (joined n s') (join_rows on base rbase)
join-left on n s t s' base rbase run same left = record {
  totals = λ f.
      total-joined f n s'
      ∙ (across-ext n (λ i. total f (s' i)) (λ i. total (λ l. total (pair on f l) rbase) (s i))
      (λ i k. ap (total f) (sym (run i k)) ∙ (join-total on f (s i) (t i)
      ∙ total-ext (λ l. total (pair on f l) (t i)) (λ l. total (pair on f l) rbase) (λ l. (same i k).totals (pair on f l)) (s i)))
      ∙ (sym (total-joined (λ l. total (pair on f l) rbase) n s)
      ∙ (left.totals (λ l. total (pair on f l) rbase) ∙ sym (join-total on f base rbase))));
}

pub join-right : (on : List (ℕ × ℕ)) (n : ℕ) (s t s' : Streams) (base rbase : List Row)
    → ((w : ℕ) → w < n → join_rows on (s w) (t w) ≡ s' w) → ((w : ℕ) → w < n → SameRows (s w) base)
    → SameRows (joined n t) rbase → SameRows (joined n s') (join_rows on base rbase)
join-right on n s t s' base rbase run same right = record {
  totals = λ f.
      total-joined f n s'
      ∙ (across-ext n (λ i. total f (s' i)) (λ i. total (λ r. total (λ l. pair on f l r) base) (t i))
      (λ i k. ap (total f) (sym (run i k)) ∙ (join-total on f (s i) (t i)
      ∙ ((same i k).totals (λ l. total (pair on f l) (t i)) ∙ total-swap (pair on f) base (t i))))
      ∙ (sym (total-joined (λ r. total (λ l. pair on f l r) base) n t)
      ∙ (right.totals (λ r. total (λ l. pair on f l r) base)
      ∙ (sym (total-swap (pair on f) base rbase) ∙ sym (join-total on f base rbase)))));
}

pub join-same : (on : List (ℕ × ℕ)) (ls ls' rs rs' : List Row) → SameRows ls ls' → SameRows rs rs' → SameRows (join_rows on ls rs) (join_rows on ls' rs')
join-same on ls ls' rs rs' a b = record {
  totals = λ f.
      join-total on f ls rs
      ∙ (total-ext (λ l. total (pair on f l) rs) (λ l. total (pair on f l) rs') (λ l. b.totals (pair on f l)) ls
      ∙ (a.totals (λ l. total (pair on f l) rs') ∙ sym (join-total on f ls' rs')));
}

-- only one worker counts
pub across-only : (n i : ℕ) (g : ℕ → ℕ) → i < n → ((j : ℕ) → j < n → j ≢ i → g j ≡ 0) → across n g ≡ g i
across-only zero i g l h = absurd (omega arith)
across-only (suc n) i g l h = cases (i == n) refl (across-only n i g)
  where
    zeros : (m : ℕ) (g : ℕ → ℕ) → ((j : ℕ) → j < m → g j ≡ 0) → across m g ≡ 0
    zeros zero g h = refl
    zeros (suc m) g h =
        let a : across m g ≡ 0 = zeros m g (λ j l. h j (omega arith)) in
        let b : g m ≡ 0 = h m (omega arith) in
        omega arith

    cases : (b : Bool) → (i == n) ≡ b → (i < n → ((j : ℕ) → j < n → j ≢ i → g j ≡ 0) → across n g ≡ g i) → across (suc n) g ≡ g i
    cases true e ih =
        let same : i ≡ n = eqb-true i n e in
        let v : g i ≡ g n = ap g same in
        let z : across n g ≡ 0 = zeros n g (λ j k. h j (omega arith) (omega arith)) in
        omega arith
    cases false e ih =
        let other : i ≢ n = eqb-false i n e in
        let v : across n g ≡ g i = ih (omega arith) (λ j k d. h j (omega arith) d) in
        let z : g n ≡ 0 = h n (omega arith) (omega arith) in
        omega arith

-- rows that match have equal values at each pair
pub match-at : (on : List (ℕ × ℕ)) (a b : ℕ) (l r : Row) → matches on l r ≡ true → has_pair on a b ≡ true → value_at l a ≡ value_at r b
match-at [] a b l r h e = absurd (true≢false (sym e))
match-at (p ∷ on) a b l r h e =
    let both : (is_eq (val_cmp (value_at l p.0) (value_at r p.1)) && matches on l r) ≡ true = sym (is_eq-then _ _) ∙ h in
    ⊎_elim
    (λ here.
    let x : p.0 ≡ a = eqb-true p.0 a (and-left _ _ here) in
    let y : p.1 ≡ b = eqb-true p.1 b (and-right (p.0 == a) (p.1 == b) here) in
    let z : value_at l p.0 ≡ value_at r p.1 = val_cmp-same _ _ (is_eq-Equal _ (and-left _ _ both)) in
    ap (λ k. value_at l k) (sym x) ∙ (z ∙ ap (λ k. value_at r k) y))
    (λ later. match-at on a b l r (and-right _ _ both) later)
    (or-cases _ _ e)

pub match-pick : (on : List (ℕ × ℕ)) (as' bs : List ℕ) (l r : Row) → matches on l r ≡ true → all_pairs on as' bs ≡ true → pick as' l ≡ pick bs r
match-pick on [] [] l r h e = refl
match-pick on [] (b ∷ bs) l r h e = absurd (true≢false (sym e))
match-pick on (a ∷ as') [] l r h e = absurd (true≢false (sym e))
match-pick on (a ∷ as') (b ∷ bs) l r h e =
    let x : value_at l a ≡ value_at r b = match-at on a b l r h (and-left _ _ e) in
    let y : pick as' l ≡ pick bs r = match-pick on as' bs l r h (and-right (has_pair on a b) (all_pairs on as' bs) e) in
    cc

-- a right row of another worker than the left row's does not match
pub pair-elsewhere : (goes : Routing) (rt : Route) (on : List (ℕ × ℕ)) (as' bs : List ℕ) (n i j : ℕ) (f : Row → ℕ) (l r : Row)
    → all_pairs on as' bs ≡ true → j ≢ i → (goes rt (pick as' l) n == i) ≡ true → (goes rt (pick bs r) n == j) ≡ true → pair on f l r ≡ 0
pair-elsewhere goes rt on as' bs n i j f l r e ne hl hr = cases (matches on l r) refl
  where
    cases : (b : Bool) → matches on l r ≡ b → when b (f (l ++ r)) ≡ 0
    cases true m =
        let k : pick as' l ≡ pick bs r = match-pick on as' bs l r m e in
        let a : goes rt (pick as' l) n ≡ i = eqb-true _ i hl in
        let b : goes rt (pick bs r) n ≡ j = eqb-true _ j hr in
        let c : goes rt (pick as' l) n ≡ goes rt (pick bs r) n = ap (λ v. goes rt v n) k in
        let d : j ≡ i = cc in
        absurd (ne d)
    cases false m = refl

pub join-alike : (goes : Routing) (rt : Route) (on : List (ℕ × ℕ)) (as' bs : List ℕ) (n : ℕ) (s t s' : Streams) (base rbase : List Row)
    → all_pairs on as' bs ≡ true
    → ((w : ℕ) → w < n → join_rows on (s w) (t w) ≡ s' w)
    → SameRows (joined n s) base → InItsStream goes rt as' n s
    → SameRows (joined n t) rbase → InItsStream goes rt bs n t
    → SameRows (joined n s') (join_rows on base rbase)
join-alike goes rt on as' bs n s t s' base rbase e run left ls right rs = record {
  totals = λ f.
      total-joined f n s'
      ∙ (across-ext n (λ i. total f (s' i)) (λ i. total (λ l. total (pair on f l) rbase) (s i))
      (λ i k. ap (total f) (sym (run i k)) ∙ (join-total on f (s i) (t i)
      ∙ total-all-ext (λ row. goes rt (pick as' row) n == i) (λ l. total (pair on f l) (t i)) (λ l. total (pair on f l) rbase) (λ l h. alone f i k l h) (s i) (ls i k)))
      ∙ (sym (total-joined (λ l. total (pair on f l) rbase) n s)
      ∙ (left.totals (λ l. total (pair on f l) rbase) ∙ sym (join-total on f base rbase))));
}
  where
    -- the right rows that a left row of worker i meets at i are all that it matches
    alone : (f : Row → ℕ) (i : ℕ) → i < n → (l : Row) → (goes rt (pick as' l) n == i) ≡ true → total (pair on f l) (t i) ≡ total (pair on f l) rbase
    alone f i k l h =
        sym (across-only n i (λ j. total (pair on f l) (t j)) k (λ j kj ne.
        total-all-ext (λ row. goes rt (pick bs row) n == j) (pair on f l) (λ r. 0) (λ r hr. pair-elsewhere goes rt on as' bs n i j f l r e ne h hr) (t j) (rs j kj)
        ∙ total-zero (t j)))
        ∙ (sym (total-joined (pair on f l) n t) ∙ right.totals (pair on f l))
