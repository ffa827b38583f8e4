-- The rows of the relation fit, have both keys, and are sorted.
use Rattle.std.proofs.Common.{◌≡◌, ℕ, zero, suc, ◌+◌, ◌%◌, ◌/◌, ◌^◌, ◌<◌, ◌≤◌, List, [], ◌∷◌, ◌++◌, length, get_or, map, true, false, refl, ap, ◌∙◌, arith}
use Rattle.std.specs.Prelude.{pos, replicate}
use Rattle.std.specs.List.{AllByRecursion, list_all, range_with_len}
use Rattle.std.specs.Str.{is_utf8, IsAscii}
use Rattle.std.specs.Ordering.{is_eq, is_lt, ordering_then}
use Rattle.std.specs.declared.cmp.Ordering.TheVariants.{Equal}
use Rattle.std.proofs.lemmas.Str.{IsUtf8-from_ascii, is_utf8-from_IsUtf8}
use Rattle.std.proofs.lemmas.Bool.{le-leb}
use Rattle.std.proofs.lemmas.Bool.Decides.{nat_tests}
use Rattle.std.proofs.lemmas.List.FromFn.{length-map-range_with_len, get_or-map-range_with_len}
use Rattle.vx_rows_values.specs.Values.{num, text, Row, val_cmp, row_cmp}
use Rattle.vx_rows_values.specs.Types.{is_held, Fits}
use Rattle.vx_rows_values.proofs.Booleans.{and-both}
use Rattle.vx_rows_values.specs.Order.{rising, compare_on, agree}
use Rattle.vx_rows_values.proofs.SortedFacts.{NoFall, sorted_from}
use Rattle.vx_rows_values.proofs.ClashFacts.{Apart}
use Rattle.vx_rows_values.proofs.KeyFacts.{to-key, apart-key}
use Rattle.vx_catalog_relations.specs.Relation.{Meets}
use Rattle.vx_wisconsin.specs.Wisconsin.{unique1, numbers, letter, seven_letters, filler, text_of, string4, row_of, wisconsin, relation_named}
use Rattle.vx_rows_values.specs.Limits.{max_generated_rows}
use Rattle.vx_wisconsin.proofs.Unique.{unique1-below, unique1-apart}

-- ---- the rows by their numbers

pub size : (n : ℕ) → length (wisconsin n) ≡ n
size n = length-map-range_with_len (row_of n) 0 n

row-at : (n i : ℕ) → i < n → get_or (wisconsin n) i [] ≡ row_of n i
row-at n i h = get_or-map-range_with_len (row_of n) 0 n i i [] h (omega arith)

-- ---- the keys and the order

differ : (x y : ℕ) → (x ≡ y → ⊥) → is_eq (row_cmp (num (pos x) ∷ []) (num (pos y) ∷ [])) ≡ false
differ x y h = grind (arith, nat_tests)

not-less : (x y : ℕ) → y < x → is_lt (ordering_then (val_cmp (num (pos x)) (num (pos y))) Equal) ≡ false
not-less x y h = grind (arith, nat_tests)

agree-at : (cols : List ℕ) (n i j : ℕ) → i < n → j < n → agree cols (row_of n j) (row_of n i) ≡ false → agree cols (get_or (wisconsin n) j []) (get_or (wisconsin n) i []) ≡ false
agree-at cols n i j h k e = ap (λ (r : Row). agree cols r (get_or (wisconsin n) i [])) (row-at n j k) ∙ (ap (λ (r : Row). agree cols (row_of n j) r) (row-at n i h) ∙ e)

first-apart : (n : ℕ) → Apart (0 ∷ []) (wisconsin n) (length (wisconsin n))
unfolding row_of
first-apart n i j l m =
    let s = size n in
    let k : j < n = omega arith in
    agree-at (0 ∷ []) n i j (omega arith) k (differ (unique1 n j) (unique1 n i) (unique1-apart n i j l k))

second-apart : (n : ℕ) → Apart (1 ∷ []) (wisconsin n) (length (wisconsin n))
unfolding row_of
second-apart n i j l m =
    let s = size n in
    agree-at (1 ∷ []) n i j (omega arith) (omega arith) (differ j i (λ e. omega arith))

no-fall : (n : ℕ) → NoFall (rising (1 ∷ [])) (wisconsin n) (length (wisconsin n))
unfolding row_of
no-fall n k l =
    let s = size n in
    ap (λ (r : Row). is_lt (compare_on (rising (1 ∷ [])) r (get_or (wisconsin n) k []))) (row-at n (suc k) (omega arith))
    ∙ (ap (λ (r : Row). is_lt (compare_on (rising (1 ∷ [])) (row_of n (suc k)) r)) (row-at n k (omega arith)) ∙ not-less (suc k) k (omega arith))

-- ---- the values

all-joined : {X : Type 0} (P : X → Type 0) (xs ys : List X) → AllByRecursion P xs → AllByRecursion P ys → AllByRecursion P (xs ++ ys)
all-joined P [] ys h k = k
all-joined P (x ∷ xs) ys h k = (h.0, all-joined P xs ys h.1 k)

all-same : {X : Type 0} (P : X → Type 0) (n : ℕ) (x : X) → P x → AllByRecursion P (replicate n x)
all-same P zero x h = tt
all-same P (suc n) x h = (h, all-same P n x h)

is-ascii : (bs : List ℕ) → AllByRecursion (λ b. b < 128) bs → IsAscii bs
is-ascii [] h i = omega arith
is-ascii (b ∷ bs) h zero = h.0
is-ascii (b ∷ bs) h (suc i) = is-ascii bs h.1 i

is-text : (bs : List ℕ) → AllByRecursion (λ b. b < 128) bs → is_utf8 bs ≡ true
is-text bs h = is_utf8-from_IsUtf8 bs (IsUtf8-from_ascii bs (is-ascii bs h))

letter-below : (d : ℕ) → letter d < 128
letter-below d = omega arith

pub text-held : (k : ℕ) → is_utf8 (text_of k) ≡ true
unfolding seven_letters
text-held k =
    is-text (text_of k)
    (all-joined (λ b. b < 128) (seven_letters k) (filler 45)
    (letter-below (k / 26 ^ 6), (letter-below (k / 26 ^ 5), (letter-below (k / 26 ^ 4), (letter-below (k / 26 ^ 3), (letter-below (k / 26 ^ 2), (letter-below (k / 26 ^ 1), (letter-below (k / 26 ^ 0), tt)))))))
    (all-same (λ b. b < 128) 45 120 (omega arith)))

turn-below : (t : ℕ) → t < 4 → get_or (65 ∷ 72 ∷ 79 ∷ 86 ∷ []) t 0 < 128
turn-below zero h = omega arith
turn-below (suc zero) h = omega arith
turn-below (suc (suc zero)) h = omega arith
turn-below (suc (suc (suc zero))) h = omega arith
turn-below (suc (suc (suc (suc t)))) h = absurd (omega arith)

pub string4-held : (i : ℕ) → is_utf8 (string4 i) ≡ true
unfolding string4
string4-held i =
    let turn : ℕ = get_or (65 ∷ 72 ∷ 79 ∷ 86 ∷ []) (i % 4) 0 in
    is-text (replicate 4 turn ++ filler 48)
    (all-joined (λ b. b < 128) (replicate 4 turn) (filler 48) (all-same (λ b. b < 128) 4 turn (turn-below (i % 4) (omega arith))) (all-same (λ b. b < 128) 48 120 (omega arith)))

number-held : (k : ℕ) → k ≤ 9223372036854775807 → is_held (num (pos k)) ≡ true
number-held k h = and-both _ _ refl (le-leb k 9223372036854775807 h)

numbers-held : (ks : List ℕ) (rest : Row) → AllByRecursion (λ k. k ≤ 9223372036854775807) ks → list_all is_held rest ≡ true → list_all is_held (map (λ k. num (pos k)) ks ++ rest) ≡ true
numbers-held [] rest h r = r
numbers-held (k ∷ ks) rest h r = and-both _ _ (number-held k h.0) (numbers-held ks rest h.1 r)

texts-held : (u i : ℕ) → list_all is_held (text (text_of u) ∷ text (text_of i) ∷ text (string4 i) ∷ []) ≡ true
texts-held u i = and-both _ _ (text-held u) (and-both _ _ (text-held i) (and-both _ _ (string4-held i) refl))

pub small : (u i : ℕ) → u ≤ 9223372036854775807 → i ≤ 9223372036854775807 → AllByRecursion (λ k. k ≤ 9223372036854775807) (numbers u i)
small u i h k =
    (h, (k, (omega arith, (omega arith, (omega arith, (omega arith, (omega arith, (omega arith, (omega arith, (omega arith, (h, (omega arith, (omega arith, tt)))))))))))))

row-fits : (name : List ℕ) (n i : ℕ) → i < n → n ≤ max_generated_rows → Fits (relation_named name).types (row_of n i)
unfolding row_of
row-fits name n i h k =
    let below = unique1-below n i h in
    record {
      types_are = refl;
      values_are = numbers-held (numbers (unique1 n i) i) (text (text_of (unique1 n i)) ∷ text (text_of i) ∷ text (string4 i) ∷ []) (small (unique1 n i) i (omega arith) (omega arith)) (texts-held (unique1 n i) i);
    }

rows-fit : (name : List ℕ) (n a m : ℕ) → a + m ≤ n → n ≤ max_generated_rows → AllByRecursion (Fits (relation_named name).types) (map (row_of n) (range_with_len a m))
rows-fit name n a zero h k = tt
rows-fit name n a (suc m) h k = (row-fits name n a (omega arith) k, rows-fit name n (a + 1) m (omega arith) k)

-- ---- the law

pub rows-meet : (name : List ℕ) (n : ℕ) → n ≤ max_generated_rows → Meets (relation_named name) (wisconsin n)
rows-meet name n h = record {
  fit = rows-fit name n 0 n (omega arith) h;
  keys = (to-key (0 ∷ []) (wisconsin n) (apart-key (0 ∷ []) (wisconsin n) (first-apart n)), (to-key (1 ∷ []) (wisconsin n) (apart-key (1 ∷ []) (wisconsin n) (second-apart n)), tt));
  order = sorted_from (rising (1 ∷ [])) (wisconsin n) (no-fall n);
}
