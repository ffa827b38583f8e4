-- What the seats of a deck drew gives the relation's rows, each to one seat, in order.
use Rattle.std.proofs.Common.{◌≡◌, ◌≢◌, ℕ, zero, suc, ◌+◌, ◌-◌, ◌*◌, ◌<◌, ◌≤◌, ◌==◌, nat_lt, Bool, true, false, cond, List, [], ◌∷◌, ◌++◌, map, length, take, drop, refl, sym, ap, ◌∙◌, subst, arith, ltb-true, eqb-true, ne_eqb, true≢false, append_assoc}
use Rattle.std.specs.List.{list_all}
use Rattle.std.proofs.lemmas.Bool.{eqb-false, lt-ltb}
use Rattle.std.proofs.lemmas.List.{drop-drop, drop_all, take-append-drop}
use Rattle.std.proofs.lemmas.Nat.{div-add-mod', mod_below}
use Rattle.std.proofs.Math.Nat.{suc-mul}
use Rattle.vx_rows_values.specs.Values.{Row}
use Rattle.vx_plan_nodes.specs.Streams.{across, bearing, Dealt}
use Rattle.vx_morsel.specs.Draws.{Draws, times, once_below, AllAbove, Rises}
use Rattle.vx_worker.specs.Morsels.{morsel_of, morsel_count, morsels, Dispatched}
use Rattle.vx_exchange_ends.proofs.Deals.{bearing-append}
use Rattle.vx_exec_laws.proofs.Bags.{across-least, eqb-refl, and-both}

-- the seat that drew x
abbrev pub owner : ℕ → (ℕ → List ℕ) → ℕ → ℕ
owner zero h x = 0
owner (suc n) h x = cond (nat_lt 0 (times x (h n))) n (owner n h x)

owner-below : (n : ℕ) (h : ℕ → List ℕ) (x : ℕ) → owner (suc n) h x < suc n
owner-below zero h x = go (nat_lt 0 (times x (h 0)))
  where
    go : (b : Bool) → cond b 0 0 < 1
    go true = omega arith
    go false = omega arith
owner-below (suc n) h x = go (nat_lt 0 (times x (h (suc n)))) (owner (suc n) h x) (owner-below n h x)
  where
    go : (b : Bool) (o : ℕ) → o < suc n → cond b (suc n) o < suc (suc n)
    go true o l = omega arith
    go false o l = omega arith

not-some : (k : ℕ) → nat_lt 0 k ≡ false → k ≡ 0
not-some zero e = refl
not-some (suc k) e = absurd (true≢false (sym (lt-ltb 0 (suc k) (omega arith)) ∙ e))

-- where the seats drew x once in all, its owner drew it and no other did
pub owned : (n : ℕ) (h : ℕ → List ℕ) (x : ℕ) → across n (λ w. times x (h w)) ≡ 1 → (i : ℕ) → i < n → times x (h i) ≡ cond (owner n h x == i) 1 0
owned zero h x e i l = absurd (omega arith)
owned (suc n) h x e i l = cases (nat_lt 0 (times x (h n))) refl (i == n) refl (owned n h x)
  where
    least : i < n → times x (h i) ≤ across n (λ w. times x (h w))
    least k = across-least n (λ w. times x (h w)) i k

    low : (m : ℕ) → across m (λ w. times x (h w)) ≡ 1 → owner m h x < m
    low zero z = absurd (omega (arith, z))
    low (suc m) z = owner-below m h x

    cases : (b : Bool) → nat_lt 0 (times x (h n)) ≡ b → (c : Bool) → (i == n) ≡ c
        → (across n (λ w. times x (h w)) ≡ 1 → (i : ℕ) → i < n → times x (h i) ≡ cond (owner n h x == i) 1 0)
        → times x (h i) ≡ cond (cond b n (owner n h x) == i) 1 0
    cases true p true q ih =
        let some : 0 < times x (h n) = ltb-true 0 (times x (h n)) p in
        let same : i ≡ n = eqb-true i n q in
        let one : times x (h n) ≡ 1 = omega (arith, e, some) in
        let P : ℕ → Type 0 = λ j. times x (h j) ≡ cond (n == j) 1 0 in
        subst P (sym same) (one ∙ sym (ap (λ b. cond b 1 0) (eqb-refl n)))
    cases true p false q ih =
        let some : 0 < times x (h n) = ltb-true 0 (times x (h n)) p in
        let other : i ≢ n = eqb-false i n q in
        let k : i < n = omega arith in
        let most = least k in
        let none : times x (h i) ≡ 0 = omega (arith, e, some, most) in
        let no : (n == i) ≡ false = ne_eqb n i (omega arith) in
        none ∙ sym (ap (λ b. cond b 1 0) no)
    cases false p true q ih =
        let none : times x (h n) ≡ 0 = not-some (times x (h n)) p in
        let same : i ≡ n = eqb-true i n q in
        let one : across n (λ w. times x (h w)) ≡ 1 = omega (arith, e, none) in
        let below : owner n h x < n = low n one in
        let no : (owner n h x == i) ≡ false = ne_eqb (owner n h x) i (omega (arith, below, same)) in
        ap (λ j. times x (h j)) same ∙ none ∙ sym (ap (λ b. cond b 1 0) no)
    cases false p false q ih =
        let none : times x (h n) ≡ 0 = not-some (times x (h n)) p in
        let other : i ≢ n = eqb-false i n q in
        ih (omega (arith, e, none)) i (omega arith)

-- the numbers from k, c of them, that o sends to i
abbrev pub mine : (ℕ → ℕ) → ℕ → ℕ → ℕ → List ℕ
mine o i k zero = []
mine o i k (suc c) = cond (o k == i) (k ∷ mine o i (suc k) c) (mine o i (suc k) c)

-- the rows of these morsels, with their owners
abbrev pub tagged : (ℕ → ℕ) → (ℕ → List Row) → ℕ → ℕ → List (ℕ × Row)
tagged o f k zero = []
tagged o f k (suc c) = map (λ row. (o k, row)) (f k) ++ tagged o f (suc k) c

abbrev pub all_from : (ℕ → List Row) → ℕ → ℕ → List Row
all_from f k zero = []
all_from f k (suc c) = f k ++ all_from f (suc k) c

pub bearing-tag : (i a : ℕ) (xs : List Row) → bearing i (map (λ row. (a, row)) xs) ≡ cond (a == i) xs []
bearing-tag i a [] = go (a == i)
  where
    go : (b : Bool) → ◌≡◌ {A = List Row} [] (cond b [] [])
    go true = refl
    go false = refl
bearing-tag i a (x ∷ xs) = go (a == i) (bearing-tag i a xs)
  where
    go : (b : Bool) → bearing i (map (λ row. (a, row)) xs) ≡ cond b xs [] → cond b (x ∷ bearing i (map (λ row. (a, row)) xs)) (bearing i (map (λ row. (a, row)) xs)) ≡ cond b (x ∷ xs) []
    go true e = ap (λ zs. x ∷ zs) e
    go false e = e

bearing-mine : (o : ℕ → ℕ) (f : ℕ → List Row) (i k c : ℕ) → bearing i (tagged o f k c) ≡ morsels f (mine o i k c)
bearing-mine o f i k zero = refl
bearing-mine o f i k (suc c) =
    bearing-append i (map (λ row. (o k, row)) (f k)) (tagged o f (suc k) c)
    ∙ ap (λ xs. xs ++ bearing i (tagged o f (suc k) c)) (bearing-tag i (o k) (f k))
    ∙ ap (λ xs. cond (o k == i) (f k) [] ++ xs) (bearing-mine o f i (suc k) c) ∙ go (o k == i)
  where
    go : (b : Bool) → cond b (f k) [] ++ morsels f (mine o i (suc k) c) ≡ morsels f (cond b (k ∷ mine o i (suc k) c) (mine o i (suc k) c))
    go true = refl
    go false = refl

pub untag : (a : ℕ) (xs : List Row) (ts : List (ℕ × Row)) → map (λ t. t.1) (map (λ row. (a, row)) xs ++ ts) ≡ xs ++ map (λ t. t.1) ts
untag a [] ts = refl
untag a (x ∷ xs) ts = ap (λ zs. x ∷ zs) (untag a xs ts)

tagged-rows : (o : ℕ → ℕ) (f : ℕ → List Row) (k c : ℕ) → map (λ t. t.1) (tagged o f k c) ≡ all_from f k c
tagged-rows o f k zero = refl
tagged-rows o f k (suc c) = untag (o k) (f k) (tagged o f (suc k) c) ∙ ap (λ zs. f k ++ zs) (tagged-rows o f (suc k) c)

pub tag-range : (a n : ℕ) (xs : List Row) (ts : List (ℕ × Row)) → a < n → list_all (λ t. nat_lt t.0 n) ts ≡ true → list_all (λ t. nat_lt t.0 n) (map (λ row. (a, row)) xs ++ ts) ≡ true
tag-range a n [] ts l h = h
tag-range a n (x ∷ xs) ts l h = and-both (nat_lt a n) (list_all (λ t. nat_lt t.0 n) (map (λ row. (a, row)) xs ++ ts)) (lt-ltb a n l) (tag-range a n xs ts l h)

tagged-range : (o : ℕ → ℕ) (f : ℕ → List Row) (n k c : ℕ) → ((x : ℕ) → o x < n) → list_all (λ t. nat_lt t.0 n) (tagged o f k c) ≡ true
tagged-range o f n k zero h = refl
tagged-range o f n k (suc c) h = tag-range (o k) n (f k) (tagged o f (suc k) c) (h k) (tagged-range o f n (suc k) c h)

-- all morsels are the whole list
covered : (m : ℕ) (xs : List Row) (k c : ℕ) → length xs ≤ (k + c) * m → all_from (morsel_of m xs) k c ≡ drop (k * m) xs
covered m xs k zero l = sym (drop_all (k * m) xs (let P : ℕ → Type 0 = λ j. length xs ≤ j * m in subst P (omega arith) l))
covered m xs k (suc c) l =
    let P : ℕ → Type 0 = λ j. length xs ≤ j * m in
    let more : all_from (morsel_of m xs) (suc k) c ≡ drop (suc k * m) xs = covered m xs (suc k) c (subst P (omega arith) l) in
    let split : drop (suc k * m) xs ≡ drop m (drop (k * m) xs) = ap (λ j. drop j xs) (suc-mul k m) ∙ sym (drop-drop m (k * m) xs) in
    ap (λ zs. take m (drop (k * m) xs) ++ zs) (more ∙ split) ∙ take-append-drop m (drop (k * m) xs)

enough : (m n : ℕ) → 0 < m → n ≤ morsel_count m n * m
enough m n l =
    let a = div-add-mod' (n + (m - 1)) m in
    let b = mod_below (n + (m - 1)) m l in
    omega (arith, a, b)

abbrev AllFrom : ℕ → List ℕ → Type 0
AllFrom k [] = Unit {0}
AllFrom k (y ∷ ys) = (k ≤ y) × AllFrom k ys

above-from : (k : ℕ) (ys : List ℕ) → AllAbove k ys → AllFrom (suc k) ys
above-from k [] h = tt
above-from k (y ∷ ys) h = let l = h.0 in (omega (arith, l), above-from k ys h.1)

from-less : (k j : ℕ) (ys : List ℕ) → k ≤ j → AllFrom j ys → AllFrom k ys
from-less k j [] l h = tt
from-less k j (y ∷ ys) l h = let a = h.0 in (omega (arith, l, a), from-less k j ys l h.1)

times-other : (x y : ℕ) (ys : List ℕ) → y ≢ x → times x (y ∷ ys) ≡ times x ys
times-other x y ys n = let e : (y == x) ≡ false = ne_eqb y x n in let c : ◌≡◌ {A = ℕ} (cond (y == x) 1 0) 0 = ap (λ b. cond b 1 0) e in omega (arith, c)

times-here : (x : ℕ) (ys : List ℕ) → times x (x ∷ ys) ≡ 1 + times x ys
times-here x ys = let c : ◌≡◌ {A = ℕ} (cond (x == x) 1 0) 1 = ap (λ b. cond b 1 0) (eqb-refl x) in omega (arith, c)

times-below : (x k : ℕ) (ys : List ℕ) → x < k → AllFrom k ys → times x ys ≡ 0
times-below x k [] l h = refl
times-below x k (y ∷ ys) l h = let a = h.0 in times-other x y ys (λ e. absurd (omega (arith, l, a, e))) ∙ times-below x k ys l h.1

one-no : (b : Bool) → ◌≡◌ {A = ℕ} 0 (cond b 1 0) → b ≡ false
one-no true e = absurd (omega arith)
one-no false e = refl

one-yes : (b : Bool) (n : ℕ) → ◌≡◌ {A = ℕ} (1 + n) (cond b 1 0) → b ≡ true
one-yes true n e = refl
one-yes false n e = absurd (omega arith)

-- a rising list with the numbers that o sends to i is their list
pub rising-mine : (o : ℕ → ℕ) (i k c : ℕ) (ys : List ℕ) → Rises ys → AllFrom k ys
    → ((x : ℕ) → k ≤ x → x < k + c → times x ys ≡ cond (o x == i) 1 0) → ((x : ℕ) → k + c ≤ x → times x ys ≡ 0) → ys ≡ mine o i k c
rising-mine o i k zero [] r f at past = refl
rising-mine o i k zero (y ∷ ys) r f at past =
    let a = f.0 in
    let z = past y (omega (arith, a)) in
    let w = times-here y ys in
    absurd (omega (arith, z, w))
rising-mine o i k (suc c) [] r f at past =
    let no : (o k == i) ≡ false = one-no (o k == i) (at k (omega arith) (omega arith)) in
    rising-mine o i (suc k) c [] r tt (λ x l h. at x (omega arith) (omega arith)) (λ x l. past x (omega arith))
    ∙ sym (ap (λ b. cond b (k ∷ mine o i (suc k) c) (mine o i (suc k) c)) no)
rising-mine o i k (suc c) (y ∷ ys) r f at past = cases (y == k) refl (rising-mine o i (suc k) c ys) (rising-mine o i (suc k) c (y ∷ ys))
  where
    here : times k (y ∷ ys) ≡ cond (o k == i) 1 0
    here = at k (omega arith) (omega arith)

    first : k ≤ y
    first = f.0

    cases : (b : Bool) → (y == k) ≡ b
        → (Rises ys → AllFrom (suc k) ys → ((x : ℕ) → suc k ≤ x → x < suc k + c → times x ys ≡ cond (o x == i) 1 0) → ((x : ℕ) → suc k + c ≤ x → times x ys ≡ 0) → ys ≡ mine o i (suc k) c)
        → (Rises (y ∷ ys) → AllFrom (suc k) (y ∷ ys) → ((x : ℕ) → suc k ≤ x → x < suc k + c → times x (y ∷ ys) ≡ cond (o x == i) 1 0) → ((x : ℕ) → suc k + c ≤ x → times x (y ∷ ys) ≡ 0) → y ∷ ys ≡ mine o i (suc k) c)
        → y ∷ ys ≡ cond (o k == i) (k ∷ mine o i (suc k) c) (mine o i (suc k) c)
    cases true e tail same =
        let is : y ≡ k = eqb-true y k e in
        let P : ℕ → Type 0 = λ j. times k (j ∷ ys) ≡ cond (o k == i) 1 0 in
        let yes : (o k == i) ≡ true = one-yes (o k == i) (times k ys) (sym (times-here k ys) ∙ subst P is here) in
        let Q : ℕ → Type 0 = λ j. AllAbove j ys in
        let rest : ys ≡ mine o i (suc k) c = tail r.1 (above-from k ys (subst Q is r.0))
        (λ x l h. sym (times-other x y ys (λ z. absurd (omega (arith, is, z, l)))) ∙ at x (omega arith) (omega arith))
        (λ x l. sym (times-other x y ys (λ z. absurd (omega (arith, is, z, l)))) ∙ past x (omega arith)) in
        ap (λ j. j ∷ ys) is ∙ ap (λ zs. k ∷ zs) rest ∙ sym (ap (λ b. cond b (k ∷ mine o i (suc k) c) (mine o i (suc k) c)) yes)
    cases false e tail same =
        let other : y ≢ k = eqb-false y k e in
        let above : suc k ≤ y = omega (arith, first) in
        let all : AllFrom (suc k) (y ∷ ys) = (above, from-less (suc k) (suc y) ys (omega (arith, above)) (above-from y ys r.0)) in
        let none : times k (y ∷ ys) ≡ 0 = times-below k (suc k) (y ∷ ys) (omega arith) all in
        let no : (o k == i) ≡ false = one-no (o k == i) (sym none ∙ here) in
        same r all (λ x l h. at x (omega arith) (omega arith)) (λ x l. past x (omega arith))
        ∙ sym (ap (λ b. cond b (k ∷ mine o i (suc k) c) (mine o i (suc k) c)) no)

all-from-zero : (ys : List ℕ) → AllFrom 0 ys
all-from-zero [] = tt
all-from-zero (y ∷ ys) = (omega arith, all-from-zero ys)

once-yes : (x t : ℕ) → x < t → once_below x t ≡ 1
once-yes x t l = ap (λ b. cond b 1 0) (lt-ltb x t l)

pub past-once : (x t : ℕ) → t ≤ x → once_below x t ≡ 0
past-once x t l = go (nat_lt x t) refl
  where
    go : (b : Bool) → nat_lt x t ≡ b → ◌≡◌ {A = ℕ} (cond b 1 0) 0
    go true e = let k = ltb-true x t e in absurd (omega (arith, k, l))
    go false e = refl

some-owner : (n : ℕ) (h : ℕ → List ℕ) (x : ℕ) → 0 < n → owner n h x < n
some-owner zero h x l = absurd (omega arith)
some-owner (suc n) h x l = owner-below n h x

-- each seat's numbers are those that it owns
pub numbers-mine : (m n : ℕ) (seats : ℕ → Draws) → (d : Dispatched n m seats) → (i : ℕ) → i < n → (seats i).numbers ≡ mine (owner n (λ w. (seats w).numbers)) i 0 d.t
numbers-mine m n seats d i l =
    let h : ℕ → List ℕ = λ w. (seats w).numbers in
    rising-mine (owner n h) i 0 d.t (h i) (d.rise i l) (all-from-zero (h i))
    (λ x a b. owned n h x (d.each x ∙ once-yes x d.t (omega (arith, b))) i l)
    (λ x a.
    let most = across-least n (λ w. times x (h w)) i l in
    let none : across n (λ w. times x (h w)) ≡ 0 = d.each x ∙ past-once x d.t (omega (arith, a)) in
    omega (arith, most, none))

-- the morsels below a number begin the list
covered-part : (m : ℕ) (xs : List Row) (k c : ℕ) → all_from (morsel_of m xs) k c ++ drop ((k + c) * m) xs ≡ drop (k * m) xs
covered-part m xs k zero = let e : k + 0 ≡ k = omega arith in ap (λ j. drop (j * m) xs) e
covered-part m xs k (suc c) =
    let e : k + suc c ≡ suc k + c = omega arith in
    let split : drop (suc k * m) xs ≡ drop m (drop (k * m) xs) = ap (λ j. drop j xs) (suc-mul k m) ∙ sym (drop-drop m (k * m) xs) in
    append_assoc (take m (drop (k * m) xs)) (all_from (morsel_of m xs) (suc k) c) (drop ((k + suc c) * m) xs)
    ∙ ap (λ zs. take m (drop (k * m) xs) ++ zs) (ap (λ j. all_from (morsel_of m xs) (suc k) c ++ drop (j * m) xs) e ∙ covered-part m xs (suc k) c ∙ split)
    ∙ take-append-drop m (drop (k * m) xs)

-- what a seat drew so far is dealt out of a beginning of the list
pub record Drawn (m : ℕ) (xs : List Row) (i : ℕ) (numbers : List ℕ) : Type 0 where
  pub tags : List (ℕ × Row)
  pub rest : List Row
  pub begins : map (λ t. t.1) tags ++ rest ≡ xs
  pub drawn : bearing i tags ≡ morsels (morsel_of m xs) numbers

pub dispatched-drawn : (m : ℕ) (xs : List Row) (k n : ℕ) (seats : ℕ → Draws) → Dispatched n k seats → (i : ℕ) → i < n → Drawn m xs i (seats i).numbers
dispatched-drawn m xs k n seats d i l =
    let o : ℕ → ℕ = owner n (λ w. (seats w).numbers) in
    let nought : 0 * m ≡ 0 = omega arith in
    record {
      tags = tagged o (morsel_of m xs) 0 d.t;
      rest = drop ((0 + d.t) * m) xs;
      begins = ap (λ zs. zs ++ drop ((0 + d.t) * m) xs) (tagged-rows o (morsel_of m xs) 0 d.t) ∙ covered-part m xs 0 d.t ∙ ap (λ j. drop j xs) nought;
      drawn = bearing-mine o (morsel_of m xs) i 0 d.t ∙ ap (morsels (morsel_of m xs)) (sym (numbers-mine k n seats d i l));
    }

pub dispatched-dealt : (m : ℕ) (xs : List Row) (n : ℕ) (seats : ℕ → Draws) → 0 < m → 0 < n → Dispatched n (morsel_count m (length xs)) seats
    → (w : ℕ) → w < n → (seats w).met_end ≡ true → Dealt n xs (λ w. morsels (morsel_of m xs) (seats w).numbers)
dispatched-dealt m xs n seats some some_seats d w below ended =
    let c : ℕ = morsel_count m (length xs) in
    let h : ℕ → List ℕ = λ w. (seats w).numbers in
    let o : ℕ → ℕ = owner n h in
    let f : ℕ → List Row = morsel_of m xs in
    let t_is : d.t ≡ c = d.ended w below ended in
    let numbers : (i : ℕ) → i < n → h i ≡ mine o i 0 c = λ i l. numbers-mine c n seats d i l ∙ ap (mine o i 0) t_is in
    let P : ℕ → Type 0 = λ j. length xs ≤ j * m in
    let nought : 0 * m ≡ 0 = omega arith in
    record {
      numbered = tagged o f 0 c;
      whole = tagged-rows o f 0 c ∙ covered m xs 0 c (subst P (omega arith) (enough m (length xs) some)) ∙ ap (λ j. drop j xs) nought;
      in_range = tagged-range o f n 0 c (λ x. some-owner n h x some_seats);
      lists_are = λ i l. bearing-mine o f i 0 c ∙ ap (morsels f) (sym (numbers i l));
    }
