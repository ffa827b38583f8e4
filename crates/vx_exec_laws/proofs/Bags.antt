-- Totals of lists: each way to make a list from lists says what its totals are.
use Rattle.std.proofs.Common.{◌≡◌, ℕ, zero, suc, ◌+◌, ◌<◌, ◌≤◌, ◌==◌, nat_lt, Bool, true, false, cond, not, List, [], ◌∷◌, ◌++◌, map, filter, flat_map, length, refl, sym, ap, ◌∙◌, arith, add_assoc, zero-add, ltb-true, eqb-true, ne_eqb, eq-eqb, ◌≢◌}
use Rattle.std.specs.List.{list_all}
use Rattle.std.proofs.lemmas.Bool.{eqb-false}
pub use Rattle.vx_rows_values.proofs.Booleans.{and-left, and-right, and-both}
use Rattle.vx_rows_values.specs.Values.{Row}
use Rattle.vx_rows_values.specs.Bags.{total, SameRows}
use Rattle.vx_plan_nodes.specs.Streams.{Streams, across, joined, bearing, Dealt}

abbrev pub when : Bool → ℕ → ℕ
when true n = n
when false n = 0

pub total-append : {X : Type 0} (f : X → ℕ) (xs ys : List X) → total f (xs ++ ys) ≡ total f xs + total f ys
total-append f [] ys = sym (zero-add (total f ys))
total-append f (x ∷ xs) ys = ap (λ n. f x + n) (total-append f xs ys) ∙ sym (add_assoc (f x) (total f xs) (total f ys))

pub total-map : {X Y : Type 0} (f : Y → ℕ) (g : X → Y) (xs : List X) → total f (map g xs) ≡ total (λ x. f (g x)) xs
total-map f g [] = refl
total-map f g (x ∷ xs) = ap (λ n. f (g x) + n) (total-map f g xs)

pub total-cond : {X : Type 0} (f : X → ℕ) (b : Bool) (x : X) (xs : List X) → total f (cond b (x ∷ xs) xs) ≡ when b (f x) + total f xs
total-cond f true x xs = refl
total-cond f false x xs = sym (zero-add (total f xs))

pub total-filter : {X : Type 0} (f : X → ℕ) (p : X → Bool) (xs : List X) → total f (filter p xs) ≡ total (λ x. when (p x) (f x)) xs
total-filter f p [] = refl
total-filter f p (x ∷ xs) = total-cond f (p x) x (filter p xs) ∙ ap (λ n. when (p x) (f x) + n) (total-filter f p xs)

pub total-flat_map : {X Y : Type 0} (f : Y → ℕ) (g : X → List Y) (xs : List X) → total f (flat_map g xs) ≡ total (λ x. total f (g x)) xs
total-flat_map f g [] = refl
total-flat_map f g (x ∷ xs) = total-append f (g x) (flat_map g xs) ∙ ap (λ n. total f (g x) + n) (total-flat_map f g xs)

pub total-ext : {X : Type 0} (f g : X → ℕ) → ((x : X) → f x ≡ g x) → (xs : List X) → total f xs ≡ total g xs
total-ext f g e [] = refl
total-ext f g e (x ∷ xs) = let a = e x in let b = total-ext f g e xs in cc

pub total-zero : {X : Type 0} (xs : List X) → total (λ x. 0) xs ≡ 0
total-zero [] = refl
total-zero (x ∷ xs) = zero-add (total (λ x. 0) xs) ∙ total-zero xs

pub total-add : {X : Type 0} (f g : X → ℕ) (xs : List X) → total (λ x. f x + g x) xs ≡ total f xs + total g xs
total-add f g [] = refl
total-add f g (x ∷ xs) = omega (arith, total-add f g xs)

-- as many ones as elements
pub total-ones : {X : Type 0} (xs : List X) → total (λ x. 1) xs ≡ length xs
total-ones [] = refl
total-ones (x ∷ xs) = let e = total-ones xs in omega (arith, e)

pub total-joined : (f : Row → ℕ) (n : ℕ) (s : Streams) → total f (joined n s) ≡ across n (λ i. total f (s i))
total-joined f zero s = refl
total-joined f (suc n) s = total-append f (joined n s) (s n) ∙ ap (λ k. k + total f (s n)) (total-joined f n s)

pub across-ext : (n : ℕ) (g h : ℕ → ℕ) → ((i : ℕ) → i < n → g i ≡ h i) → across n g ≡ across n h
across-ext zero g h e = refl
across-ext (suc n) g h e =
    let a : g n ≡ h n = e n (omega arith) in
    let b : across n g ≡ across n h = across-ext n g h (λ i l. e i (omega arith)) in
    cc

pub across-zero : (n : ℕ) → across n (λ i. 0) ≡ 0
across-zero zero = refl
across-zero (suc n) = omega (arith, across-zero n)

pub across-add : (n : ℕ) (g h : ℕ → ℕ) → across n (λ i. g i + h i) ≡ across n g + across n h
across-add zero g h = refl
across-add (suc n) g h = omega (arith, across-add n g h)

pub across-swap : (n m : ℕ) (h : ℕ → ℕ → ℕ) → across n (λ i. across m (λ j. h i j)) ≡ across m (λ j. across n (λ i. h i j))
across-swap zero m h = sym (across-zero m)
across-swap (suc n) m h =
    ap (λ k. k + across m (λ j. h n j)) (across-swap n m h) ∙ sym (across-add m (λ j. across n (λ i. h i j)) (λ j. h n j))

-- the totals of a list are the sums of those of the lists that it is dealt out to
pub across-total : {X : Type 0} (n : ℕ) (h : ℕ → X → ℕ) (xs : List X) → across n (λ i. total (h i) xs) ≡ total (λ x. across n (λ i. h i x)) xs
across-total zero h xs = sym (total-zero xs)
across-total (suc n) h xs =
    ap (λ k. k + total (h n) xs) (across-total n h xs) ∙ sym (total-add (λ x. across n (λ i. h i x)) (h n) xs)

pub eqb-refl : (k : ℕ) → (k == k) ≡ true
eqb-refl k = eq-eqb k k refl

pub when-yes : (b : Bool) (v : ℕ) → b ≡ true → when b v ≡ v
when-yes b v e = rw e refl

pub when-no : (b : Bool) (v : ℕ) → b ≡ false → when b v ≡ 0
when-no b v e = rw e refl

-- a number that only one worker has
pub across-past : (n k v : ℕ) → n ≤ k → across n (λ i. when (k == i) v) ≡ 0
across-past zero k v l = refl
across-past (suc n) k v l =
    let here : when (k == n) v ≡ 0 = when-no (k == n) v (ne_eqb k n (omega arith)) in
    let less : across n (λ i. when (k == i) v) ≡ 0 = across-past n k v (omega arith) in
    omega arith

pub across-one : (n k v : ℕ) → k < n → across n (λ i. when (k == i) v) ≡ v
across-one zero k v l = absurd (omega arith)
across-one (suc n) k v l = cases (k == n) refl (across-one n k v)
  where
    cases : (b : Bool) → (k == n) ≡ b → (k < n → across n (λ i. when (k == i) v) ≡ v) → across (suc n) (λ i. when (k == i) v) ≡ v
    cases true e ih =
        let same : k ≡ n = eqb-true k n e in
        let here : when (k == n) v ≡ v = when-yes (k == n) v e in
        let less : across n (λ i. when (k == i) v) ≡ 0 = across-past n k v (omega arith) in
        omega arith
    cases false e ih =
        let other : k ≢ n = eqb-false k n e in
        let here : when (k == n) v ≡ 0 = when-no (k == n) v e in
        let less : across n (λ i. when (k == i) v) ≡ v = ih (omega arith) in
        omega arith

pub total-bearing : (f : Row → ℕ) (i : ℕ) (ts : List (ℕ × Row)) → total f (bearing i ts) ≡ total (λ t. when (t.0 == i) (f t.1)) ts
total-bearing f i [] = refl
total-bearing f i (t ∷ ts) = total-cond f (t.0 == i) t.1 (bearing i ts) ∙ ap (λ n. when (t.0 == i) (f t.1) + n) (total-bearing f i ts)

-- each numbered row counts for one of n
pub numbered-total : (f : Row → ℕ) (n : ℕ) (ts : List (ℕ × Row)) → list_all (λ t. nat_lt t.0 n) ts ≡ true
    → total (λ t. across n (λ i. when (t.0 == i) (f t.1))) ts ≡ total (λ t. f t.1) ts
numbered-total f n [] h = refl
numbered-total f n (t ∷ ts) h =
    let here : across n (λ i. when (t.0 == i) (f t.1)) ≡ f t.1 = across-one n t.0 (f t.1) (ltb-true t.0 n (and-left _ _ h)) in
    let rest : total (λ t. across n (λ i. when (t.0 == i) (f t.1))) ts ≡ total (λ t. f t.1) ts = numbered-total f n ts (and-right _ _ h) in
    cc

-- the totals of a list are the sums of those of the lists that it is dealt out to
pub Dealt-total : {n : ℕ} {xs : List Row} {ls : Streams} → Dealt n xs ls → (f : Row → ℕ) → total f xs ≡ across n (λ i. total f (ls i))
Dealt-total {n} {xs} {ls} d f =
    let a : total f (map (λ t. t.1) d.numbered) ≡ total f xs = ap (total f) d.whole in
    let b : total f (map (λ t. t.1) d.numbered) ≡ total (λ t. f t.1) d.numbered = total-map f (λ t. t.1) d.numbered in
    let c : total (λ t. across n (λ i. when (t.0 == i) (f t.1))) d.numbered ≡ total (λ t. f t.1) d.numbered = numbered-total f n d.numbered d.in_range in
    let e : across n (λ i. total (λ t. when (t.0 == i) (f t.1)) d.numbered) ≡ total (λ t. across n (λ i. when (t.0 == i) (f t.1))) d.numbered
    = across-total n (λ i t. when (t.0 == i) (f t.1)) d.numbered in
    let g : across n (λ i. total f (ls i)) ≡ across n (λ i. total (λ t. when (t.0 == i) (f t.1)) d.numbered)
    = across-ext n _ _ (λ i l. ap (total f) (sym (d.lists_are i l)) ∙ total-bearing f i d.numbered) in
    sym a ∙ (b ∙ (sym c ∙ (sym e ∙ sym g)))

-- a test holds of all elements where none counts against it
abbrev pub against : {X : Type 0} → (X → Bool) → X → ℕ
against p x = when (not (p x)) 1

pub against-none : {X : Type 0} (p : X → Bool) (xs : List X) → list_all p xs ≡ true → total (against p) xs ≡ 0
against-none p [] h = refl
against-none p (x ∷ xs) h =
    let here : p x ≡ true = and-left _ _ h in
    let a : against p x ≡ 0 = rw here refl in
    let b : total (against p) xs ≡ 0 = against-none p xs (and-right _ _ h) in
    omega arith

pub none-against : {X : Type 0} (p : X → Bool) (xs : List X) → total (against p) xs ≡ 0 → list_all p xs ≡ true
none-against p [] h = refl
none-against p (x ∷ xs) h = and-both _ _ (one (p x) (omega arith)) (none-against p xs (omega arith))
  where
    one : (b : Bool) → when (not b) 1 ≡ 0 → b ≡ true
    one true e = refl
    one false e = absurd (omega arith)

pub SameRows-all : {xs ys : List Row} → SameRows xs ys → (p : Row → Bool) → list_all p xs ≡ true → list_all p ys ≡ true
SameRows-all {xs} {ys} s p h = none-against p ys (sym (s.totals (against p)) ∙ against-none p xs h)

pub SameRows-refl : (xs : List Row) → SameRows xs xs
SameRows-refl xs = record { totals = λ f. refl }

pub SameRows-sym : {xs ys : List Row} → SameRows xs ys → SameRows ys xs
SameRows-sym s = record { totals = λ f. sym (s.totals f) }

pub SameRows-trans : {xs ys zs : List Row} → SameRows xs ys → SameRows ys zs → SameRows xs zs
SameRows-trans s t = record { totals = λ f. s.totals f ∙ t.totals f }

-- a stream has no row that the joined streams lack
pub across-least : (n : ℕ) (g : ℕ → ℕ) (i : ℕ) → i < n → g i ≤ across n g
across-least zero g i l = absurd (omega arith)
across-least (suc n) g i l = cases (i == n) refl (across-least n g i)
  where
    cases : (b : Bool) → (i == n) ≡ b → (i < n → g i ≤ across n g) → g i ≤ across (suc n) g
    cases true e ih = let same : i ≡ n = eqb-true i n e in let v : g i ≡ g n = ap g same in omega arith
    cases false e ih = let other : i ≢ n = eqb-false i n e in let v : g i ≤ across n g = ih (omega arith) in omega arith

pub stream-all : (n : ℕ) (s : Streams) (base : List Row) → SameRows (joined n s) base → (p : Row → Bool) → list_all p base ≡ true
    → (i : ℕ) → i < n → list_all p (s i) ≡ true
stream-all n s base same p h i l =
    let a : total (against p) base ≡ 0 = against-none p base h in
    let b : total (against p) (joined n s) ≡ total (against p) base = same.totals (against p) in
    let c : total (against p) (joined n s) ≡ across n (λ i. total (against p) (s i)) = total-joined (against p) n s in
    let d : total (against p) (s i) ≤ across n (λ i. total (against p) (s i)) = across-least n (λ i. total (against p) (s i)) i l in
    none-against p (s i) (omega arith)
