-- Sets of columns, as the program holds them.
use Rattle.std.proofs.Common.{◌≡◌, List, [], ◌∷◌, ◌++◌, ℕ, zero, suc, ◌+◌, ◌*◌, ◌%◌, ◌^◌, ◌<◌, ◌≤◌, ◌==◌, eqb, nat_lt, min, max, Bool, true, false, ◌&&◌, ◌||◌, inl, inr, ◌⊎◌, ⊎_elim, refl, sym, ap, ◌∙◌, subst, arith, true≢false, w64, bit_and, bit_or}
use Rattle.std.specs.Int.{bit_at}
use Rattle.std.proofs.Math.Bool.{or-true, or-false}
use Rattle.std.proofs.lemmas.Nat.Bits.{bit_at-zero, bit_at-lt, bit_at_and, bit_at_or, bit_at_above, bit_at_set_same, bit_at_set_other, same_from_bits}
use Rattle.std.specs.List.{list_any}
use Rattle.std.proofs.lemmas.Bool.{cases_lt, cases_eq}
use Rattle.vx_plan_nodes.specs.Phases.{columns_from, first_columns}
use Rattle.vx_plan_facts.proofs.ValueLists.{first-push}
use Rattle.vx_plan_facts.proofs.Tests.{or-left, or-right, any-first}
use Rattle.std.proofs.lemmas.Bool.Decides.{nat_tests, eqb_tells}
use Rattle.vx_rows_values.proofs.Booleans.{and-left, and-right, and-both}
use Rattle.vx_plan_facts.specs.declared.column_set.ColumnSet as rust_set
use Rattle.vx_plan_facts.specs.ColumnSetView.{set_of_columns}
use Rattle.vx_rows_values.specs.Limits.{max_columns}

and-none : (a : Bool) → (a && false) ≡ false
and-none true = refl
and-none false = refl

pub none-held : (c : ℕ) → (nat_lt c max_columns && (bit_at 0 c == 1)) ≡ false
none-held c = ap (λ b. nat_lt c max_columns && (b == 1)) (bit_at-zero c) ∙ and-none (nat_lt c max_columns)

-- no set holds a column past the limit
pub held-few : (s : rust_set.ColumnSet) (c : ℕ) → set_of_columns s c ≡ true → c < max_columns
held-few s c h = let l = and-left (nat_lt c max_columns) (bit_at s.held c == 1) h in grind (arith, nat_tests)

-- ---- bits

within : (c : ℕ) → c < max_columns → nat_lt c max_columns ≡ true
within c l = grind (arith, nat_tests)

turned : (k c : ℕ) → eqb k c ≡ (c == k)
turned k c = grind (arith, nat_tests)

both-tests : (t a b d : Bool) → t ≡ true → a ≡ (b || d) → (t && a) ≡ ((t && b) || d)
both-tests true a b d h e = e
both-tests false a b d h e = absurd (true≢false (sym h))

pub put-bit : (low k c : ℕ) → k < 64 → c < max_columns
    → (nat_lt c max_columns && (bit_at (bit_or low (1 * 2 ^ k % 2 ^ 64)) c == 1)) ≡ ((nat_lt c max_columns && (bit_at low c == 1)) || (c == k))
put-bit low k c small l =
    both-tests (nat_lt c max_columns) (bit_at (bit_or low (1 * 2 ^ k % 2 ^ 64)) c == 1) (bit_at low c == 1) (c == k) (within c l)
    (set-bit low k c small ∙ ap (λ b. (bit_at low c == 1) || b) (turned k c))
  where
    same-test : (k : ℕ) → eqb k k ≡ true
    same-test k = grind (arith, nat_tests)

    set-bit : (low k c : ℕ) → k < 64 → (bit_at (bit_or low (1 * 2 ^ k % 2 ^ 64)) c == 1) ≡ ((bit_at low c == 1) || eqb k c)
    set-bit low k c small = ⊎_elim
        (λ h. subst (λ x. (bit_at (bit_or low (1 * 2 ^ k % 2 ^ 64)) x == 1) ≡ ((bit_at low x == 1) || eqb k x)) h.1
        (ap (λ b. b == 1) (bit_at_set_same w64 low k small) ∙ sym (ap (λ t. (bit_at low k == 1) || t) (same-test k) ∙ or-true (bit_at low k == 1))))
        (λ h. ap (λ b. b == 1) (bit_at_set_other w64 low k small c (λ e. h.1 (sym e))) ∙ sym (ap (λ t. (bit_at low c == 1) || t) h.0 ∙ or-false (bit_at low c == 1)))
        (eqb_tells k c)

-- one of two bits is the greater of both
greater : (a b : ℕ) → a < 2 → b < 2 → (max a b == 1) ≡ ((a == 1) || (b == 1))
greater zero zero l m = refl
greater zero (suc zero) l m = refl
greater (suc zero) zero l m = refl
greater (suc zero) (suc zero) l m = refl
greater (suc (suc a)) b l m = absurd (omega (arith, l))
greater zero (suc (suc b)) l m = absurd (omega (arith, m))
greater (suc zero) (suc (suc b)) l m = absurd (omega (arith, m))

pub put-bits : (a b c : ℕ) → c < max_columns
    → (nat_lt c max_columns && (bit_at (bit_or a b) c == 1)) ≡ ((nat_lt c max_columns && (bit_at a c == 1)) || (nat_lt c max_columns && (bit_at b c == 1)))
put-bits a b c l =
    both-tests (nat_lt c max_columns) (bit_at (bit_or a b) c == 1) (bit_at a c == 1) (nat_lt c max_columns && (bit_at b c == 1)) (within c l)
    (ap (λ x. x == 1) (bit_at_or a b c) ∙ greater (bit_at a c) (bit_at b c) (bit_at-lt a c) (bit_at-lt b c) ∙ ap (λ t. (bit_at a c == 1) || t) (sym (ap (λ t. t && (bit_at b c == 1)) (within c l))))

-- both bits are the less of both
less : (a b : ℕ) → b < 2 → min a b ≡ a → (a == 1) ≡ true → (b == 1) ≡ true
less a b l e h = grind (arith, nat_tests)

pub bits-within : (a b c : ℕ) → bit_and a b ≡ a → (nat_lt c max_columns && (bit_at a c == 1)) ≡ true → (nat_lt c max_columns && (bit_at b c == 1)) ≡ true
bits-within a b c e h =
    and-both (nat_lt c max_columns) (bit_at b c == 1) (and-left (nat_lt c max_columns) (bit_at a c == 1) h)
    (less (bit_at a c) (bit_at b c) (bit_at-lt b c) (sym (bit_at_and a b c) ∙ ap (λ x. bit_at x c) e) (and-right (nat_lt c max_columns) (bit_at a c == 1) h))

-- a bit that the first number has and the second one has not
abbrev IsMissing : ℕ → ℕ → ℕ → Type 0
IsMissing a b c = ((bit_at a c == 1) ≡ true) × ((bit_at b c == 1) ≡ false)

missing-or : (a b : ℕ) → a < 2 → b < 2 → (((a == 1) ≡ true) × ((b == 1) ≡ false)) ⊎ (min a b ≡ a)
missing-or zero b l m = inr (omega arith)
missing-or (suc zero) zero l m = inl (refl, refl)
missing-or (suc zero) (suc zero) l m = inr refl
missing-or (suc zero) (suc (suc b)) l m = absurd (omega (arith, m))
missing-or (suc (suc a)) b l m = absurd (omega (arith, l))

search-bits : (a b n : ℕ) → ((c : ℕ) × (c < n) × IsMissing a b c) ⊎ ((c : ℕ) → c < n → min (bit_at a c) (bit_at b c) ≡ bit_at a c)
search-bits a b zero = inr (λ c l. absurd (omega (arith, l)))
search-bits a b (suc n) =
    ⊎_elim (λ h. inl (h.0, omega (arith, h.1), h.2))
    (λ h. ⊎_elim (λ x. inl (n, omega arith, x))
    (λ x. inr (λ c l. ⊎_elim (λ m. h c m) (λ m. let P : ℕ → Type 0 = λ i. min (bit_at a i) (bit_at b i) ≡ bit_at a i in subst P (last n c l m) x) (cases_lt c n)))
    (missing-or (bit_at a n) (bit_at b n) (bit_at-lt a n) (bit_at-lt b n)))
    (search-bits a b n)
  where
    last : (n c : ℕ) → c < suc n → n ≤ c → n ≡ c
    last n c l m = omega (arith, l, m)

pub bit-missing : (a b : ℕ) → a < 2 ^ 64 → (bit_and a b ≡ a → ⊥)
    → (c : ℕ) × (c < max_columns) × ((nat_lt c max_columns && (bit_at a c == 1)) ≡ true) × ((nat_lt c max_columns && (bit_at b c == 1)) ≡ false)
bit-missing a b few differ =
    ⊎_elim
    (λ h. (h.0, h.1, and-both (nat_lt h.0 max_columns) (bit_at a h.0 == 1) (within h.0 h.1) h.2.0, ap (λ t. t && (bit_at b h.0 == 1)) (within h.0 h.1) ∙ h.2.1))
    (λ h. absurd (differ (same_from_bits (bit_and a b) a (λ i. bit_at_and a b i ∙ ⊎_elim (λ l. h i l) (λ l. above (bit_at a i) (bit_at b i) (bit_at_above a 64 i few l)) (cases_lt i 64)))))
    (search-bits a b 64)
  where
    above : (x y : ℕ) → x ≡ 0 → min x y ≡ x
    above x y e = omega (arith, e)

-- ---- tests of the first columns

any-from-at : (p : ℕ → Bool) (i n d : ℕ) → i ≤ d → d < i + n → p d ≡ true → list_any p (columns_from i n) ≡ true
any-from-at p i zero d l m e = absurd (omega arith)
any-from-at p i (suc n) d l m e =
    ⊎_elim
    (λ here. let P : ℕ → Type 0 = λ v. p v ≡ true in or-left (p i) (list_any p (columns_from (suc i) n)) (subst P (sym here) e))
    (λ later. or-right (p i) (list_any p (columns_from (suc i) n)) (any-from-at p (suc i) n d (behind i d l later) (omega arith) e))
    (cases_eq i d)
  where
    behind : (a b : ℕ) → a ≤ b → (a ≡ b → ⊥) → suc a ≤ b
    behind a b l o = ⊎_elim (λ m. omega (arith, m)) (λ g. absurd (o (omega (arith, g, l)))) (cases_lt a b)

pub any-at : (p : ℕ → Bool) (w d : ℕ) → d < w → p d ≡ true → list_any p (first_columns w) ≡ true
any-at p w d l e = any-from-at p 0 w d (omega arith) (omega arith) e

not-true : (b : Bool) → (b ≡ true → ⊥) → b ≡ false
not-true true h = absurd (h refl)
not-true false h = refl

pub none-any : (p : ℕ → Bool) (w : ℕ) → ((d : ℕ) → d < w → p d ≡ false) → list_any p (first_columns w) ≡ false
none-any p w h = not-true (list_any p (first_columns w)) (λ e. let r = any-first p w e in true≢false (sym r.2 ∙ h r.0 r.1))

any-append : (p : ℕ → Bool) (xs : List ℕ) (n : ℕ) → list_any p (xs ++ n ∷ []) ≡ (list_any p xs || p n)
any-append p [] n = or-none (p n)
  where
    or-none : (b : Bool) → (b || false) ≡ b
    or-none true = refl
    or-none false = refl
any-append p (x ∷ xs) n = ap (λ b. p x || b) (any-append p xs n) ∙ or-assoc (p x) (list_any p xs) (p n)
  where
    or-assoc : (a b d : Bool) → (a || (b || d)) ≡ ((a || b) || d)
    or-assoc true b d = refl
    or-assoc false b d = refl

pub any-push : (p : ℕ → Bool) (n : ℕ) → list_any p (first_columns (n + 1)) ≡ (list_any p (first_columns n) || p n)
any-push p n = ap (list_any p) (first-push n) ∙ any-append p (first_columns n) n
