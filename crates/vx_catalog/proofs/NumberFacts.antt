-- What is read of a field byte by byte is `number_of` of it.
use Rattle.std.proofs.Common.{◌≡◌, ◌≢◌, ℕ, zero, suc, ◌+◌, ◌*◌, ◌-◌, ◌<◌, ◌≤◌, List, [], ◌∷◌, Option, Some, None, Bool, true, false, cond, refl, length, get_or, take, drop, arith, not, ◌&&◌, ◌==◌, w64, to_z, rules}
use Rattle.std.proofs.lemmas.Bool.{and_parts, and_from}
use Rattle.std.proofs.lemmas.Grind.{common_steps}
use Rattle.std.proofs.lemmas.Str.Parse.{numerals_by_value, tells_all_ascii_digits, IsNumeralModel, digit_at, digits_value_short, digits_value-take-le, without_leading_plus_none}
use Rattle.std.proofs.lemmas.Int.Digits.{digits_more, digits_value_more}
use Rattle.std.proofs.lemmas.Int.{to_z_pos}
use Rattle.std.proofs.lemmas.List.{length-take-le, take_all}
use Rattle.std.specs.Prelude.{ℤ, pos, negsuc, neg_ℤ, FitsSigned, SomeIff}
use Rattle.std.specs.Borrow.{Bor}
use Rattle.std.specs.Option.{option_copied}
use Rattle.std.specs.List.{slice_get}
use Rattle.std.specs.Char.{is_ascii_digit, digit_value}
use Rattle.std.specs.Int.{IsInRange}
use Rattle.std.specs.Str.{all_ascii_digits}
use Rattle.std.specs.Str.Parse.{AllDigits, IsNumeral, starts_with_minus, without_leading_plus, without_leading_sign, signed_digits_value, digits_value}
use Rattle.vx_catalog.specs.Number.{number_of, is_number, fits_i64}

fits_true : (z : ℤ) → FitsSigned w64 z → fits_i64 z ≡ true
fits_true (pos n) h = search rules
fits_true (negsuc n) h = search rules

fits_from : (z : ℤ) → fits_i64 z ≡ true → FitsSigned w64 z
fits_from (pos n) h = search rules
fits_from (negsuc n) h = search rules

model : IsNumeralModel (λ ds. all_ascii_digits ds ≡ true) (digits_value 10)
model = numerals_by_value (λ ds. all_ascii_digits ds ≡ true) tells_all_ascii_digits

some_length : (n : ℕ) → 0 < n → not (n == 0) ≡ true
some_length n h = grind (arith, common_steps)

length_some : (n : ℕ) → not (n == 0) ≡ true → 0 < n
length_some n h = grind (arith, common_steps)

numeral_test : (bs : List ℕ) → IsNumeral 10 (without_leading_sign bs) → FitsSigned w64 (signed_digits_value 10 bs) → is_number bs ≡ true
numeral_test bs h f =
    and_from _ _ (and_from _ _ (some_length _ h.0) (model.from (without_leading_sign bs) h.1)) (fits_true _ f)

test_numeral : (bs : List ℕ) → is_number bs ≡ true → IsNumeral 10 (without_leading_sign bs) × FitsSigned w64 (signed_digits_value 10 bs)
test_numeral bs h =
    let outer = and_parts (not (length (without_leading_sign bs) == 0) && all_ascii_digits (without_leading_sign bs)) (fits_i64 (signed_digits_value 10 bs)) h in
    let inner = and_parts (not (length (without_leading_sign bs) == 0)) (all_ascii_digits (without_leading_sign bs)) outer.0 in
    ((length_some _ inner.0, model.to (without_leading_sign bs) inner.1), fits_from _ outer.1)

none_if : (b : Bool) (z : ℤ) → (b ≡ true → ⊥) → None ≡ cond b (Some z) None
none_if true z h = absurd (h refl)
none_if false z h = refl

-- what the test and the value say together is what is read
pub number_is : (bs : List ℕ) (r : Option ℤ) → SomeIff r (IsNumeral 10 (without_leading_sign bs) × FitsSigned w64 (signed_digits_value 10 bs)) (signed_digits_value 10 bs) → r ≡ number_of bs
unfolding number_of
number_is bs (Some x) h = rw (numeral_test bs h.0.0 h.0.1, h.1) refl
number_is bs None h = none_if (is_number bs) _ (λ t. h (test_numeral bs t))

-- ---- the sign

same_tests : {P Q : Type 0} (r : Option ℤ) (z : ℤ) → (P → Q) → (Q → P) → SomeIff r P z → SomeIff r Q z
same_tests (Some x) z to from h = (to h.0, h.1)
same_tests None z to from h = λ q. h (from q)

fits_minus : (n : ℕ) → n ≤ 9223372036854775808 → FitsSigned w64 (neg_ℤ (pos n))
fits_minus zero h = search rules
fits_minus (suc n) h = search rules

minus_fits : (n : ℕ) → FitsSigned w64 (neg_ℤ (pos n)) → n ≤ 9223372036854775808
minus_fits zero h = omega arith
minus_fits (suc n) h = search rules

behind_minus : (ds : List ℕ) (r : Option ℤ) → SomeIff r (IsNumeral 10 ds × (digits_value 10 ds ≤ 9223372036854775808)) (neg_ℤ (pos (digits_value 10 ds))) → r ≡ number_of (45 ∷ ds)
behind_minus ds r h = number_is (45 ∷ ds) r (same_tests r _ (λ p. (p.0, fits_minus _ p.1)) (λ p. (p.0, minus_fits _ p.1)) h)

pub fits_plus : (n : ℕ) → n < 9223372036854775808 → FitsSigned w64 (pos n)
fits_plus n h = search rules

plus_fits : (n : ℕ) → FitsSigned w64 (pos n) → n < 9223372036854775808
plus_fits n h = search rules

behind_plus : (ds : List ℕ) (r : Option ℤ) → SomeIff r (IsNumeral 10 ds × (digits_value 10 ds < 9223372036854775808)) (pos (digits_value 10 ds)) → r ≡ number_of (43 ∷ ds)
behind_plus ds r h = number_is (43 ∷ ds) r (same_tests r _ (λ p. (p.0, fits_plus _ p.1)) (λ p. (p.0, plus_fits _ p.1)) h)

behind_none : (bs : List ℕ) (r : Option ℤ) → starts_with_minus bs ≡ false → without_leading_plus bs ≡ bs → SomeIff r (IsNumeral 10 bs × (digits_value 10 bs < 9223372036854775808)) (pos (digits_value 10 bs)) → r ≡ number_of bs
behind_none bs r m p h = number_is bs r (rw (m, p) (same_tests r _ (λ p. (p.0, fits_plus _ p.1)) (λ p. (p.0, plus_fits _ p.1)) h))

pub with_minus : (bs ds : List ℕ) (r : Option ℤ) → get_or bs 0 0 ≡ 45 → ds ≡ drop 1 bs → SomeIff r (IsNumeral 10 ds × (digits_value 10 ds ≤ 9223372036854775808)) (neg_ℤ (pos (digits_value 10 ds))) → r ≡ number_of bs
with_minus [] ds r e d h = absurd (omega arith)
with_minus (b ∷ bs) ds r e d h = rw e (behind_minus bs r (rw d at h))

pub with_plus : (bs ds : List ℕ) (r : Option ℤ) → get_or bs 0 0 ≡ 43 → ds ≡ drop 1 bs → SomeIff r (IsNumeral 10 ds × (digits_value 10 ds < 9223372036854775808)) (pos (digits_value 10 ds)) → r ≡ number_of bs
with_plus [] ds r e d h = absurd (omega arith)
with_plus (b ∷ bs) ds r e d h = rw e (behind_plus bs r (rw d at h))

no_minus : (bs : List ℕ) → get_or bs 0 0 ≢ 45 → starts_with_minus bs ≡ false
no_minus bs h = grind (arith, common_steps)

pub with_none : (bs : List ℕ) (r : Option ℤ) → get_or bs 0 0 ≢ 45 → get_or bs 0 0 ≢ 43 → SomeIff r (IsNumeral 10 bs × (digits_value 10 bs < 9223372036854775808)) (pos (digits_value 10 bs)) → r ≡ number_of bs
with_none bs r m p h = behind_none bs r (no_minus bs m) (without_leading_plus_none bs p) h

-- what the first byte is taken for
pub first_is : (bs : List ℕ) (o : Option (Bor ℕ)) (f : Bor ℕ) → option_copied o ≡ slice_get bs 0 → o ≡ Some f → get_or bs 0 0 ≡ f.now
first_is [] o f h e = let k = rw e at h in cc
first_is (b ∷ bs) o f h e = let k = rw e at h in cc

pub first_is_none : (bs : List ℕ) (o : Option (Bor ℕ)) → option_copied o ≡ slice_get bs 0 → o ≡ None → bs ≡ []
first_is_none [] o h e = refl
first_is_none (b ∷ bs) o h e = let k = rw e at h in cc

-- ---- digits, read one by one

digit_is : (c : ℕ) → is_ascii_digit c ≡ true → (digit_value c ≡ c - 48) × (digit_value c < 10)
digit_is c h = (grind (arith, common_steps), grind (arith, common_steps))

no_digit_is : (c : ℕ) → is_ascii_digit c ≡ false → IsInRange 48 57 c → ⊥
no_digit_is c h r = grind (arith, common_steps)

pub more_digits : (bs : List ℕ) (i : ℕ) → i < length bs → is_ascii_digit (get_or bs i 0) ≡ true → AllDigits 10 (take i bs) → AllDigits 10 (take (i + 1) bs)
more_digits bs i h d a = digits_more 10 bs i h a (digit_is (get_or bs i 0) d).1

pub more_value : (bs : List ℕ) (i value digit : ℕ) → i < length bs → is_ascii_digit (get_or bs i 0) ≡ true → value ≡ digits_value 10 (take i bs) → digit ≡ get_or bs i 0 - 48
    → value * 10 + digit ≡ digits_value 10 (take (i + 1) bs)
more_value bs i value digit h d v e =
    let more = digits_value_more 10 bs i h in
    let is = (digit_is (get_or bs i 0) d).0 in
    omega arith

pub no_digit : (bs : List ℕ) (i : ℕ) → i < length bs → is_ascii_digit (get_or bs i 0) ≡ false → AllDigits 10 bs → ⊥
no_digit bs i h d a = no_digit_is (get_or bs i 0) d (digit_at bs i a h)

-- a number that one more digit makes too large
pub too_large : (bs : List ℕ) (i value : ℕ) → i < length bs → value ≡ digits_value 10 (take i bs) → 922337203685477580 < value → digits_value 10 bs ≤ 9223372036854775808 → ⊥
too_large bs i value h e f s =
    let more = digits_value_more 10 bs i h in
    let all = digits_value-take-le 10 bs (i + 1) (omega arith) in
    omega arith

-- ---- few digits, which 63 bits hold

digit_is_no_sign : (c : ℕ) → IsInRange 48 57 c → (c ≢ 45) × (c ≢ 43)
digit_is_no_sign c r = (λ e. let low = r.0 in omega (arith, low, e), λ e. let low = r.0 in omega (arith, low, e))

pub few_before : (bs : List ℕ) (i : ℕ) → i < length bs → length bs ≤ 18 → AllDigits 10 (take i bs) → digits_value 10 (take i bs) < 100000000000000000
few_before bs i h l a =
    let long = length-take-le i bs (omega arith) in
    digits_value_short model (take i bs) 17 (model.from (take i bs) a) (omega (arith, long))

pub few_below : (bs : List ℕ) → length bs ≤ 18 → AllDigits 10 bs → digits_value 10 bs < 9223372036854775808
few_below bs l a =
    let few : digits_value 10 bs < 1000000000000000000 = digits_value_short model bs 18 (model.from bs a) l in
    omega (arith, few)

pub few_done : (bs : List ℕ) (i value : ℕ) → 0 < length bs → length bs ≤ 18 → length bs ≤ i → AllDigits 10 (take i bs) → value ≡ digits_value 10 (take i bs)
    → IsNumeral 10 bs × (to_z w64 value ≡ pos (digits_value 10 bs)) × (value < 9223372036854775808)
few_done bs i value some l end a v =
    let whole : take i bs ≡ bs = take_all i bs end in
    let digits = rw whole at a in
    let is = rw whole at v in
    let below = few_below bs l digits in
    ((some, digits), rw is (to_z_pos w64 (digits_value 10 bs) below), rw is below)

-- digits alone, few enough for 63 bits
pub few_digits : (bs : List ℕ) (x : ℤ) → length bs ≤ 18 → IsNumeral 10 bs → x ≡ pos (digits_value 10 bs) → Some x ≡ number_of bs
few_digits bs x l n e =
    let no = digit_is_no_sign (get_or bs 0 0) (digit_at bs 0 n.1 n.0) in
    with_none bs (Some x) no.0 no.1 ((n, few_below bs l n.1), e)
