-- Fields that a writer of `csv` writes as they are: none of their bytes calls for quotes.
use Rattle.std.proofs.Common.{◌≡◌, ℕ, ◌%◌, ◌/◌, ◌^◌, ◌<◌, List, [], ◌∷◌, ◌++◌, get_or, true, false, refl, suc, zero, arith}
use Rattle.std.specs.Prelude.{replicate}
use Rattle.std.specs.List.{list_any, AllByRecursion}
use Rattle.std.specs.Fmt.{decimal}
use Rattle.std.specs.Char.{is_ascii_digit}
use Rattle.std.specs.Str.{all_ascii_digits}
use Rattle.std.specs.Str.Parse.{digits_value}
use Rattle.std.proofs.lemmas.Bool.{ne_eqb, and_parts}
use Rattle.std.proofs.lemmas.Fmt.{digits_decimal}
use Rattle.std.proofs.lemmas.Str.Parse.{numerals_by_value, tells_all_ascii_digits, IsNumeralModel}
use Rattle.std.proofs.lemmas.Grind.{common_steps}
use Rattle.csv.specs.Writing.{needs_byte, default_writer, field_text}
use Rattle.vx_wisconsin.specs.Wisconsin.{letter, seven_letters, text_of, string4, filler}

-- no byte of the field calls for quotes
abbrev pub Plain : List ℕ → Type 0
Plain field = list_any (needs_byte default_writer) field ≡ false

byte-plain : (b : ℕ) → 45 < b → needs_byte default_writer b ≡ false
byte-plain b h = rw (ne_eqb b 44 (λ e. omega arith), ne_eqb b 34 (λ e. omega arith), ne_eqb b 13 (λ e. omega arith), ne_eqb b 10 (λ e. omega arith)) refl

more-plain : (b : ℕ) (field : List ℕ) → 45 < b → Plain field → Plain (b ∷ field)
more-plain b field h p = rw (byte-plain b h) p

digit-over : (c : ℕ) → is_ascii_digit c ≡ true → 45 < c
digit-over c h = grind (arith, common_steps)

digits-plain : (field : List ℕ) → all_ascii_digits field ≡ true → Plain field
digits-plain [] h = refl
digits-plain (c ∷ cs) h =
    let parts = and_parts (is_ascii_digit c) (all_ascii_digits cs) h in
    more-plain c cs (digit-over c parts.0) (digits-plain cs parts.1)

model : IsNumeralModel (λ ds. all_ascii_digits ds ≡ true) (digits_value 10)
model = numerals_by_value (λ ds. all_ascii_digits ds ≡ true) tells_all_ascii_digits

pub number-plain : (n : ℕ) → n < 18446744073709551616 → Plain (decimal n)
number-plain n h = digits-plain (decimal n) (digits_decimal model n h)

letter-over : (d : ℕ) → 45 < letter d
letter-over d = omega arith

front-plain : (front field : List ℕ) → AllByRecursion (λ b. 45 < b) front → Plain field → Plain (front ++ field)
front-plain [] field h p = p
front-plain (b ∷ bs) field h p = more-plain b (bs ++ field) h.0 (front-plain bs field h.1 p)

pub text-plain : (k : ℕ) → Plain (text_of k)
unfolding seven_letters
text-plain k =
    front-plain (seven_letters k) (filler 45)
    (letter-over (k / 26 ^ 6), (letter-over (k / 26 ^ 5), (letter-over (k / 26 ^ 4), (letter-over (k / 26 ^ 3), (letter-over (k / 26 ^ 2), (letter-over (k / 26 ^ 1), (letter-over (k / 26 ^ 0), tt)))))))
    refl

turn-over : (t : ℕ) → t < 4 → 45 < get_or (65 ∷ 72 ∷ 79 ∷ 86 ∷ []) t 0
turn-over zero h = omega arith
turn-over (suc zero) h = omega arith
turn-over (suc (suc zero)) h = omega arith
turn-over (suc (suc (suc zero))) h = omega arith
turn-over (suc (suc (suc (suc t)))) h = absurd (omega arith)

pub string4-plain : (i : ℕ) → Plain (string4 i)
unfolding string4
string4-plain i =
    let h : 45 < get_or (65 ∷ 72 ∷ 79 ∷ 86 ∷ []) (i % 4) 0 = turn-over (i % 4) (omega arith) in
    front-plain (replicate 4 (get_or (65 ∷ 72 ∷ 79 ∷ 86 ∷ []) (i % 4) 0)) (filler 48) (h, (h, (h, (h, tt)))) refl

-- such a field is written as it is
pub plain-field : (field : List ℕ) → Plain field → field_text default_writer field ≡ field
plain-field field p = rw p refl
