-- Sums and products of numbers that are cut at the largest of 64 bits are as those of the numbers themselves.
use Rattle.std.proofs.Common.{ℕ, zero, suc, ◌≡◌, ◌≤◌, ◌<◌, ◌+◌, ◌*◌, sym, ap, ◌∙◌, arith, inl, inr}
use Rattle.std.proofs.lemmas.Bool.Decides.{nat_tests}
use Rattle.std.proofs.lemmas.Bool.{cases_lt}
use Rattle.vx_exec_layout.specs.Needed.{capped}

small : (n : ℕ) → n < 18446744073709551616 → capped n ≡ n
small n h = grind (arith, nat_tests)

large : (n : ℕ) → 18446744073709551615 ≤ n → capped n ≡ 18446744073709551615
large n h = grind (arith, nat_tests)

nothing : (x y : ℕ) → 0 * x ≡ 0 * y
nothing x y = omega arith

product_right : (p x : ℕ) → capped (p * capped x) ≡ capped (p * x)
product_right zero x = ap capped (nothing (capped x) x)
product_right (suc q) x = elim (cases_lt x 18446744073709551616) [
  | inl l ↦ ap (λ z. capped (suc q * z)) (small x l)
  | inr l ↦
      let e = large x (omega (arith, l)) in
      ap (λ z. capped (suc q * z)) e ∙ large (suc q * 18446744073709551615) (omega arith) ∙ sym (large (suc q * x) (omega (arith, l)))
]

turned : (a b : ℕ) → a * b ≡ b * a
turned a b = omega arith

-- a product of cut numbers
pub capped_product : (a b x y : ℕ) → x ≡ capped a → y ≡ capped b → capped (x * y) ≡ capped (a * b)
capped_product a b x y e f =
    ap (λ z. capped (z * y)) e ∙ ap (λ z. capped (capped a * z)) f ∙ product_right (capped a) b ∙ ap capped (turned (capped a) b) ∙ product_right b a ∙ ap capped (turned b a)

-- a sum of cut numbers
pub capped_sum : (a b x y : ℕ) → x ≡ capped a → y ≡ capped b → capped (x + y) ≡ capped (a + b)
capped_sum a b x y e f = grind (arith, nat_tests)

-- the steps of a worker, by cut numbers
pub capped_steps : (n rows turns x y z : ℕ) → x ≡ capped rows → y ≡ capped turns → z ≡ capped ((n + 1) * x + y + (2 * n + 4)) → z ≡ capped ((n + 1) * rows + turns + (2 * n + 4))
capped_steps n rows turns x y z e f h =
    let p : capped ((n + 1) * x) ≡ capped ((n + 1) * rows) = ap (λ u. capped ((n + 1) * u)) e ∙ product_right (n + 1) rows in
    h ∙ grind (arith, nat_tests, p, f)

-- those of so many workers, and others
pub capped_with_others : (n steps others x y z : ℕ) → x ≡ capped steps → y ≡ capped others → z ≡ capped (capped (n * x) + y) → z ≡ capped (n * steps + others)
capped_with_others n steps others x y z e f h =
    let p : capped (n * x) ≡ capped (n * steps) = ap (λ u. capped (n * u)) e ∙ product_right n steps in
    h ∙ ap (λ u. capped (u + y)) p ∙ grind (arith, nat_tests, f)
