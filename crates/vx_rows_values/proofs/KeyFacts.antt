-- The three forms of a key say the same.
use Rattle.std.proofs.Common.{◌≡◌, ℕ, zero, suc, ◌+◌, ◌<◌, ◌≤◌, Bool, true, false, cond, not, List, [], ◌∷◌, ◌++◌, length, get_or, Option, Some, None, refl, sym, ap, ◌∙◌, arith, true≢false, Ordering, Less, Equal, Greater, is_eq, is_lt, length-append, append_assoc, subst, zero-le, ltb, inl, inr}
use Rattle.std.specs.Prelude.{position}
use Rattle.std.specs.List.{list_all}
use Rattle.std.specs.Ordering.{ordering_reverse}
use Rattle.std.proofs.lemmas.Bool.{cases_lt, cases_eq, ltb-false}
use Rattle.std.specs.List.{position_or_len}
use Rattle.std.proofs.lemmas.List.Sums.{fails_before_first}
use Rattle.std.proofs.Math.Seq.{get_or-append_seam}
use Rattle.std.proofs.lemmas.List.{get_or_append_left, length_push}
use Rattle.vx_rows_values.specs.Values.{Row, pick}
use Rattle.vx_rows_values.specs.Order.{rising, compare_on, agree, sorted}
use Rattle.vx_rows_values.specs.Bags.{count}
use Rattle.vx_rows_values.specs.Keys.{HasKey, is_key, clash_or, clash_from, first_clash, KeyLaw}
use Rattle.vx_rows_values.proofs.Compare.{agree-both, row_eq-refl, compare_on_total, rising-agree}
use Rattle.vx_rows_values.proofs.Booleans.{and-left, and-right, and-both}
use Rattle.vx_rows_values.proofs.SortedFacts.{sorted_neighbours}
use Rattle.vx_rows_values.proofs.ClashFacts.{meet, agree-sym, Apart, clash-none}

flag-yes : (b : Bool) → b ≡ true → ◌≡◌ {A = ℕ} (cond b 1 0) 1
flag-yes true h = refl
flag-yes false h = absurd (true≢false (sym h))

flag-no : (b : Bool) → b ≡ false → ◌≡◌ {A = ℕ} (cond b 1 0) 0
flag-no true h = absurd (true≢false h)
flag-no false h = refl

none-count : (p q : Row → Bool) → ((y : Row) → q y ≡ true → p y ≡ false) → (xs : List Row) → list_all q xs ≡ true → ◌≡◌ {A = ℕ} (count p xs) 0
none-count p q f [] h = refl
none-count p q f (x ∷ xs) h =
    let a = flag-no (p x) (f x (and-left (q x) (list_all q xs) h)) in
    let b = none-count p q f xs (and-right (q x) (list_all q xs) h) in
    omega (arith, a, b)

count-none : (p : Row → Bool) (xs : List Row) → ◌≡◌ {A = ℕ} (count p xs) 0 → list_all (λ y. not (p y)) xs ≡ true
count-none p [] h = refl
count-none p (x ∷ xs) h = and-both (not (p x)) (list_all (λ y. not (p y)) xs) (one (p x) (omega arith)) (count-none p xs (omega arith))
  where
    one : (b : Bool) → ◌≡◌ {A = ℕ} (cond b 1 0) 0 → not b ≡ true
    one true e = absurd (omega arith)
    one false e = refl

not-true : (b : Bool) → not b ≡ true → b ≡ false
not-true true e = absurd (true≢false (sym e))
not-true false e = refl

false-not : (b : Bool) → b ≡ false → not b ≡ true
false-not true e = absurd (true≢false e)
false-not false e = refl

pub to-key : (cols : List ℕ) (xs : List Row) → is_key cols xs ≡ true → HasKey cols xs
to-key cols [] h row = omega arith
to-key cols (x ∷ xs) h row = cases (agree cols row x) refl (to-key cols xs (and-right (list_all (λ y. not (agree cols x y)) xs) (is_key cols xs) h) row)
  where
    cases : (b : Bool) → agree cols row x ≡ b → count (agree cols row) xs ≤ 1 → cond b 1 0 + count (agree cols row) xs ≤ 1
    cases true e ih =
        let z = none-count (agree cols row) (λ y. not (agree cols x y)) (λ y k. other y (agree cols row y) refl (not-true _ k)) xs
        (and-left (list_all (λ y. not (agree cols x y)) xs) (is_key cols xs) h) in
        omega (arith, z)
      where
        other : (y : Row) (b : Bool) → agree cols row y ≡ b → agree cols x y ≡ false → agree cols row y ≡ false
        other y true k l = absurd (true≢false (sym (agree-both cols row x y e k) ∙ l))
        other y false k l = k
    cases false e ih = omega arith

pub from-key : (cols : List ℕ) (xs : List Row) → HasKey cols xs → is_key cols xs ≡ true
from-key cols [] h = refl
from-key cols (x ∷ xs) h =
    let a = h x in
    let b = flag-yes (agree cols x x) (row_eq-refl (pick cols x)) in
    and-both (list_all (λ y. not (agree cols x y)) xs) (is_key cols xs)
    (count-none (agree cols x) xs (omega (arith, a, b)))
    (from-key cols xs (λ row. let c = h row in omega (arith, c)))

-- no row agrees with a later one: so of two positions the later agrees with no earlier one
at-all : (p : Row → Bool) (xs : List Row) (k : ℕ) → list_all p xs ≡ true → k < length xs → p (get_or xs k []) ≡ true
at-all p [] k h l = absurd (omega arith)
at-all p (x ∷ xs) zero h l = and-left _ _ h
at-all p (x ∷ xs) (suc k) h l = at-all p xs k (and-right _ _ h) (omega arith)

all-from : (p : Row → Bool) (xs : List Row) → ((k : ℕ) → k < length xs → p (get_or xs k []) ≡ true) → list_all p xs ≡ true
all-from p [] h = refl
all-from p (x ∷ xs) h = and-both (p x) (list_all p xs) (h zero (omega arith)) (all-from p xs (λ k l. h (suc k) (omega arith)))

pub key-apart : (cols : List ℕ) (xs : List Row) → is_key cols xs ≡ true → Apart cols xs (length xs)
key-apart cols [] h i j l m = absurd (omega arith)
key-apart cols (x ∷ xs) h i zero l m = absurd (omega arith)
key-apart cols (x ∷ xs) h zero (suc j) l m =
    agree-sym cols (get_or xs j []) x ∙ not-true _ (at-all (λ y. not (agree cols x y)) xs j (and-left (list_all (λ y. not (agree cols x y)) xs) (is_key cols xs) h) (omega arith))
key-apart cols (x ∷ xs) h (suc i) (suc j) l m = key-apart cols xs (and-right (list_all (λ y. not (agree cols x y)) xs) (is_key cols xs) h) i j (omega arith) (omega arith)

pub apart-key : (cols : List ℕ) (xs : List Row) → Apart cols xs (length xs) → is_key cols xs ≡ true
apart-key cols [] h = refl
apart-key cols (x ∷ xs) h =
    and-both (list_all (λ y. not (agree cols x y)) xs) (is_key cols xs)
    (all-from (λ y. not (agree cols x y)) xs (λ k l. false-not _ (agree-sym cols x (get_or xs k []) ∙ h zero (suc k) (omega arith) (omega arith))))
    (apart-key cols xs (λ i j l m. h (suc i) (suc j) (omega arith) (omega arith)))

-- where no clash is found none of the rows behind those that are seen agrees with an earlier one
no-clash : (cols : List ℕ) (seen rest : List Row) → clash_from cols seen rest ≡ None → (i j : ℕ) → i < j → length seen ≤ j → j < length (seen ++ rest) → meet cols (seen ++ rest) j i ≡ false
no-clash cols seen [] e i j h l m = let n = length-append seen [] in absurd (omega (arith, n))
no-clash cols seen (row ∷ rest) e i j h l m =
    let rows = seen ++ row ∷ rest in
    let here : get_or rows (length seen) [] ≡ row = get_or-append_seam seen row rest [] in
    let both = parts (length seen) (position (agree cols row) seen) (clash_from cols (seen ++ row ∷ []) rest) e in
    let again : (seen ++ row ∷ []) ++ rest ≡ rows = append_assoc seen (row ∷ []) rest in
    let n = length_push seen row in
    elim (cases_eq (length seen) j) [
      | inl same ↦
          ap (λ k. meet cols rows k i) (sym same)
          ∙ (ap (λ r. agree cols r (get_or rows i [])) here ∙ (ap (λ r. agree cols row r) (get_or_append_left seen (row ∷ rest) [] i (omega arith)) ∙ position-fails (agree cols row) seen both.0 i [] (omega arith)))
      | inr other ↦
          ap (λ l. meet cols l j i) (sym again) ∙ no-clash cols (seen ++ row ∷ []) rest both.1 i j h (omega (arith, n)) (subst (λ (l : List Row). j < length l) (sym again) m)
    ]
  where
    parts : (second : ℕ) (o : Option ℕ) (later : Option (ℕ × ℕ)) → clash_or second o later ≡ None → (o ≡ None) × (later ≡ None)
    parts second None later f = (refl, f)
    parts second (Some first) later f = absurd (cc f)

    position-fails : (p : Row → Bool) (xs : List Row) → position p xs ≡ None → (k : ℕ) (d : Row) → k < length xs → p (get_or xs k d) ≡ false
    position-fails p xs f k d near = fails_before_first p xs k d (past (ltb (position_or_len p xs) (length xs)) refl f)
      where
        past : (b : Bool) → ltb (position_or_len p xs) (length xs) ≡ b → cond b (Some (position_or_len p xs)) None ≡ None → k < position_or_len p xs
        past true t g = absurd (cc g)
        past false t g = let far = ltb-false _ _ t in omega (arith, far, near)

-- each row is greater than the one before it
abbrev pub Rises : List ℕ → List Row → ℕ → Type 0
Rises cols rows n = (k : ℕ) → suc k < n → is_lt (compare_on (rising cols) (get_or rows k []) (get_or rows (suc k) [])) ≡ true

less-is : (o : Ordering) → is_lt o ≡ true → o ≡ Less
less-is Less h = refl
less-is Equal h = absurd (true≢false (sym h))
less-is Greater h = absurd (true≢false (sym h))

above : (cols : List ℕ) (rows : List Row) (n i j : ℕ) → Rises cols rows n → i < j → j < n → compare_on (rising cols) (get_or rows i []) (get_or rows j []) ≡ Less
above cols rows n i zero r h l = absurd (omega arith)
above cols rows n i (suc j) r h l =
    let next = less-is _ (r j l) in
    elim (cases_lt i j) [
      | inl m ↦ (compare_on_total (rising cols)).trans (get_or rows i []) (get_or rows j []) (get_or rows (suc j) []) (above cols rows n i j r m (omega arith)) next
      | inr g ↦ let e : i ≡ j = omega arith in ap (λ k. compare_on (rising cols) (get_or rows k []) (get_or rows (suc j) [])) e ∙ next
    ]

pub rises-apart : (cols : List ℕ) (rows : List Row) → Rises cols rows (length rows) → first_clash cols rows ≡ None
rises-apart cols rows r =
    clash-none cols [] rows (λ i j h l.
    agree-sym cols (get_or rows j []) (get_or rows i []) ∙ (sym (rising-agree cols (get_or rows i []) (get_or rows j [])) ∙ ap is_eq (above cols rows (length rows) i j r h l)))

-- rows that are sorted and do not clash rise
pub sorted-rises : (cols : List ℕ) (rows : List Row) → sorted (rising cols) rows ≡ true → first_clash cols rows ≡ None → Rises cols rows (length rows)
sorted-rises cols rows s e k h =
    let a = get_or rows k [] in
    let b = get_or rows (suc k) [] in
    less (compare_on (rising cols) b a) (compare_on (rising cols) a b) ((compare_on_total (rising cols)).antisymm a b) (sorted_neighbours (rising cols) rows s k h) (rising-agree cols b a ∙ no-clash cols [] rows e k (suc k) (omega arith) zero-le h)
  where
    less : (o p : Ordering) → p ≡ ordering_reverse o → is_lt o ≡ false → is_eq o ≡ false → is_lt p ≡ true
    less Less p e f g = absurd (true≢false f)
    less Equal p e f g = absurd (true≢false g)
    less Greater p e f g = ap is_lt e

pub key-law : KeyLaw
key-law = record {
  tested = λ cols xs. (to-key cols xs, from-key cols xs);
  clashed = λ cols xs. (λ e. apart-key cols xs (λ i j h l. no-clash cols [] xs e i j h zero-le l), λ h. clash-none cols [] xs (key-apart cols xs h));
}
