-- Which numbers of a range were seen, and what that says of equal numbers and of the first clash.
use Rattle.std.proofs.Common.{◌≡◌, ◌≢◌, ℕ, ℤ, pos, ◌+ℤ◌, ◌+◌, ◌<◌, Bool, true, false, List, [], length, get_or, set, Option, Some, None, refl, sym, ap, ◌∙◌, arith, true≢false, inl, inr, zero-le}
use Rattle.std.proofs.lemmas.Bool.{cases_lt, cases_eq}
use Rattle.std.proofs.lemmas.List.{get_or-set_same, get_or-set_other}
use Rattle.std.proofs.lemmas.Int.{ints}
use Rattle.vx_rows_values.specs.Values.{Row}
use Rattle.vx_rows_values.specs.Keys.{first_clash}
use Rattle.vx_rows.specs.Numbers.{number_at, Differ, IsFirstRepeat, AreFirstEqual, AreKeyNumbers}
use Rattle.vx_rows_values.proofs.ClashFacts.{meet, clash-none, clash-some}

-- the marks after the first n numbers: those that were seen have one, and no others, and they differ
pub record Marks (numbers : List ℤ) (low : ℤ) (n : ℕ) (seen : List Bool) : Type 0 where
  pub marked : (k t : ℕ) → k < n → number_at numbers k ≡ low +ℤ pos t → get_or seen t false ≡ true
  pub only : (t : ℕ) → get_or seen t false ≡ true → (k : ℕ) × (k < n) × (number_at numbers k ≡ low +ℤ pos t)
  pub differ : Differ numbers n

one-place : (low : ℤ) (t u : ℕ) → low +ℤ pos t ≡ low +ℤ pos u → t ≡ u
one-place low t u e = omega (arith, ints)

module _ (numbers : List ℤ) (low : ℤ) (n t : ℕ) (seen : List Bool) where
  pub marks-next : t < length seen → get_or seen t false ≡ false → number_at numbers n ≡ low +ℤ pos t → Marks numbers low n seen → Marks numbers low (n + 1) (set seen t true)
  marks-next near new here m = record {
    marked = λ k u h e. elim (cases_eq u t) [
      | inl same ↦ ap (λ v. get_or (set seen t true) v false) same ∙ get_or-set_same seen t true false near
      | inr other ↦
          elim (cases_lt k n) [
            | inl l ↦ get_or-set_other seen t u true false other ∙ m.marked k u l e
            | inr g ↦ let last : k ≡ n = omega arith in absurd (other (one-place low u t (sym e ∙ (ap (number_at numbers) last ∙ here))))
          ]
    ];
    only = λ u e. elim (cases_eq u t) [
      | inl same ↦ (n, omega arith, here ∙ ap (λ v. low +ℤ pos v) (sym same))
      | inr other ↦ let w = m.only u (sym (get_or-set_other seen t u true false other) ∙ e) in let l = w.1 in (w.0, omega (arith, l), w.2)
    ];
    differ = λ i j h l e. elim (cases_lt j n) [
      | inl b ↦ m.differ i j h b e
      | inr g ↦ let last : j ≡ n = omega arith in absurd (true≢false (sym (m.marked i t (omega arith) (sym e ∙ (ap (number_at numbers) last ∙ here))) ∙ new))
    ];
  }

  -- a number that has its mark was seen before
  pub marks-repeat : get_or seen t false ≡ true → number_at numbers n ≡ low +ℤ pos t → Marks numbers low n seen → IsFirstRepeat numbers n
  marks-repeat old here m = let w = m.only t old in record { earlier = w.0; order = w.1; equal = here ∙ sym w.2; before = m.differ }

pub first-two : (numbers : List ℤ) (n first second : ℕ) → IsFirstRepeat numbers second → second < n → number_at numbers second ≡ number_at numbers first
    → ((k : ℕ) → k < first → number_at numbers second ≢ number_at numbers k) → AreFirstEqual numbers n (Some (first, second))
first-two numbers n first second r there same least =
    let order : first < second = elim (cases_lt first second) [
      | inl l ↦ l
      | inr g ↦ let o = r.order in absurd (least r.earlier (omega (arith, o)) r.equal)
    ] in
    (order, there, same, r.before, least)

not-so : (b : Bool) → (b ≡ true → ⊥) → b ≡ false
not-so true h = absurd (h refl)
not-so false h = refl

-- the first two equal numbers are the first clash of rows that agree as they do
module _ (cols : List ℕ) (rows : List Row) (numbers : List ℤ) where
  pub clash-is : (o : Option (ℕ × ℕ)) → AreKeyNumbers cols rows numbers → AreFirstEqual numbers (length rows) o → o ≡ first_clash cols rows
  clash-is None a d = sym (clash-none cols [] rows (λ i j h l. not-so (meet cols rows j i) (λ t. d i j h l ((a.same j i l (omega arith)).0 t))))
  clash-is (Some p) a d =
      let order = d.0 in
      let there = d.1 in
      sym (clash-some cols [] rows p.0 p.1 (record {
        order = order;
        there = there;
        agrees = (a.same p.1 p.0 there (omega arith)).1 d.2;
        before = λ i j h l. not-so (meet cols rows j i) (λ t. d.3 i j h l ((a.same j i (omega arith) (omega arith)).0 t));
        least = λ i h. not-so (meet cols rows p.1 i) (λ t. d.4 i h ((a.same p.1 i there (omega arith)).0 t));
      }) zero-le)
