-- What lies at positions of a table.
use Rattle.std.proofs.Common.{◌≡◌, ℕ, ℤ, pos, zero, suc, ◌+◌, ◌-◌, ◌<◌, ◌≤◌, List, [], ◌∷◌, refl, sym, ap, ◌∙◌, subst, length, get_or, map, arith}
use Rattle.std.specs.Prelude.{slice_range, All}
use Rattle.std.proofs.lemmas.List.{length-map, get_or-map}
use Rattle.vx_rows_values.specs.Values.{Row, num, value_at}
use Rattle.vx_rows.specs.Lists.{each_below}
use Rattle.vx_rows.specs.View.{RowsView, row}
use Rattle.vx_rows.proofs.Below.{length-each_below, get_or-each_below, slice_range-each_below, each_below-is, each_below-none, map-each_below}
use Rattle.vx_rows_views.proofs.Facts.{map-slice, map-places, map-range}

pub range-there : (n a b : ℕ) (xs : List ℕ) → xs ≡ each_below (b - a) (λ k. a + k) → a ≤ b → b ≤ n → All (λ i. i < n) xs
range-there n a b xs e h l = λ k d near.
    let m = ap length e ∙ length-each_below (b - a) (λ k. a + k) in
    let v : get_or xs k d ≡ a + k = ap (λ ys. get_or ys k d) e ∙ get_or-each_below (b - a) (λ k. a + k) k d (omega (arith, m, near)) in
    omega (arith, v, m, near, h, l)

pub at-there : (n : ℕ) (xs ys places : List ℕ) → ys ≡ map (λ i. get_or xs i 0) places → All (λ i. i < length xs) places → All (λ i. i < n) xs → All (λ i. i < n) ys
at-there n xs ys places e p q = λ k d near.
    let m = ap length e ∙ length-map places (λ i. get_or xs i 0) in
    let small : k < length places = omega (arith, m, near) in
    let v : get_or ys k d ≡ get_or xs (get_or places k 0) 0 = ap (λ zs. get_or zs k d) e ∙ get_or-map (λ i. get_or xs i 0) places k 0 d small in
    let r = q (get_or places k 0) 0 (p k 0 small) in
    omega (arith, v, r)

module _ {base other : RowsView} (same : other ≡ base) where
  pub range-rows : (a b : ℕ) (xs : List ℕ) → xs ≡ each_below (b - a) (λ k. a + k) → a ≤ b → b ≤ length base.rows → map (row other) xs ≡ slice_range base.rows a b
  range-rows a b xs e h l = ap (λ t. map (row t) xs) same ∙ (ap (map (row base)) e ∙ map-range base.rows [] a b h l)

  module _ {now : List Row} (at : List ℕ) (is : map (row base) at ≡ now) where
    pub count-rows : length now ≡ length at
    count-rows = sym (ap length is) ∙ length-map at (row base)

    pub slice-rows : (a b : ℕ) (ys : List ℕ) → ys ≡ slice_range at a b → a ≤ b → b ≤ length now → map (row other) ys ≡ slice_range now a b
    slice-rows a b ys e h l =
        let c = count-rows in
        ap (λ t. map (row t) ys) same ∙ (ap (map (row base)) e ∙ (map-slice (row base) at a b h (omega (arith, c, l)) ∙ ap (λ xs. slice_range xs a b) is))

    pub places-rows : (places ys : List ℕ) → ys ≡ map (λ i. get_or at i 0) places → All (λ i. i < length now) places → map (row other) ys ≡ map (λ i. get_or now i []) places
    places-rows places ys e h =
        let c = count-rows in
        ap (λ t. map (row t) ys) same
        ∙ (ap (map (row base)) e ∙ (map-places (row base) [] at places (λ k d l. let r = h k d l in omega (arith, c, r)) ∙ ap (λ xs. map (λ i. get_or xs i []) places) is))

-- the numbers at positions are the values of a column
pub column-at : (numbers : List ℤ) (base : List Row) (column : ℕ) (at : List ℕ) → ((k : ℕ) → k < length base → value_at (get_or base k []) column ≡ num (get_or numbers k (pos 0))) → All (λ i. i < length base) at
    → map (λ q. num (get_or numbers q (pos 0))) at ≡ map (λ r. value_at r column) (map (λ i. get_or base i []) at)
column-at numbers base column [] e h = refl
column-at numbers base column (p ∷ ps) e h =
    ap (λ v. v ∷ map (λ q. num (get_or numbers q (pos 0))) ps) (sym (e p (h zero 0 (omega arith))))
    ∙ ap (λ vs. value_at (get_or base p []) column ∷ vs) (column-at numbers base column ps e (λ k d l. h (suc k) d (omega arith)))

pub part-numbers : (numbers : List ℤ) (from count : ℕ) → from + count ≤ length numbers → map num (slice_range numbers from (from + count)) ≡ map (λ q. num (get_or numbers q (pos 0))) (each_below count (λ k. from + k))
part-numbers numbers from count l =
    let n : (from + count) - from ≡ count = omega arith in
    ap (λ xs. map num (slice_range xs from (from + count))) (sym (each_below-is numbers (pos 0)))
    ∙ (ap (map num) (slice_range-each_below (length numbers) from (from + count) (λ k. get_or numbers k (pos 0)) (omega arith) l)
    ∙ (ap (λ m. map num (each_below m (λ k. get_or numbers (from + k) (pos 0)))) n
    ∙ (map-each_below num count (λ k. get_or numbers (from + k) (pos 0)) ∙ sym (map-each_below (λ q. num (get_or numbers q (pos 0))) count (λ k. from + k)))))

pub no-numbers : {X Y : Type 0} (f : X → Y) (g : ℕ → X) (count : ℕ) → count ≡ 0 → [] ≡ map f (each_below count g)
no-numbers f g count e = ap (map f) (sym (each_below-none g)) ∙ ap (λ n. map f (each_below n g)) (sym e)

-- positions of a range are near
pub range-near : (n from count : ℕ) (at : List ℕ) → each_below count (λ k. from + k) ≡ at → All (λ i. i < n) at → (k : ℕ) → k < count → from + k < n
range-near n from count at e h k l =
    let m = sym (ap length e) ∙ length-each_below count (λ j. from + j) in
    let v : get_or at k 0 ≡ from + k = sym (ap (λ xs. get_or xs k 0) e) ∙ get_or-each_below count (λ j. from + j) k 0 l in
    let r = h k 0 (omega (arith, m, l)) in
    omega (arith, v, r)

-- so many rows from a position on
pub part-rows : (rows : List Row) (from count : ℕ) → from + count ≤ length rows → slice_range rows from (from + count) ≡ map (λ i. get_or rows i []) (each_below count (λ k. from + k))
part-rows rows from count l =
    let n : (from + count) - from ≡ count = omega arith in
    sym (map-range rows [] from (from + count) (omega arith) l) ∙ ap (λ m. map (λ i. get_or rows i []) (each_below m (λ k. from + k))) n

pub part-far : (n from count : ℕ) → All (λ i. i < n) (each_below count (λ k. from + k)) → 0 < count → from + count ≤ n
part-far n from count h l =
    let m = length-each_below count (λ k. from + k) in
    let v = get_or-each_below count (λ k. from + k) (count - 1) 0 (omega (arith, l)) in
    let r = h (count - 1) 0 (omega (arith, m, l)) in
    omega (arith, v, r, l)

-- places that follow one another are a part of what lies there
module _ (now places : List ℕ) (p : ℕ) (is : places ≡ each_below (length places) (λ k. p + k)) where
  pub run-within : All (λ i. i < length now) places → 0 < length places → p + length places ≤ length now
  run-within h some = part-far (length now) p (length places) (subst (All (λ i. i < length now)) is h) some

  pub run-at : p + length places ≤ length now → slice_range now p (p + length places) ≡ map (λ i. get_or now i 0) places
  run-at l =
      let n : p + length places - p ≡ length places = omega arith in
      sym (map-range now 0 p (p + length places) (omega arith) l)
      ∙ (ap (λ m. map (λ i. get_or now i 0) (each_below m (λ k. p + k))) n ∙ ap (map (λ i. get_or now i 0)) (sym is))
