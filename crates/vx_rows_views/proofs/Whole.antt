-- Rows of several tables, one behind the other.
use Rattle.std.proofs.Common.{◌≡◌, ℕ, zero, suc, ◌+◌, ◌-◌, ◌<◌, ◌≤◌, List, [], ◌∷◌, ◌++◌, refl, sym, ap, ◌∙◌, length, get_or, take, drop, map, arith, inl, inr}
use Rattle.std.specs.Prelude.{slice_range, min, All}
use Rattle.std.proofs.lemmas.Bool.{cases_lt}
use Rattle.std.proofs.lemmas.Grind.{flat_map-append}
use Rattle.std.proofs.lemmas.List.{take_more, append-nil, length-append, length-drop, length-take, same_lists, get_or_append_left, get_or-append_right, get_or-take, get_or-drop, get_or_default, get_or-map, length-map, take-append-drop}
use Rattle.std.proofs.Math.Seq.{take-append-add}
use Rattle.std.proofs.lemmas.List.Concat.{get_or-flat_map}
use Rattle.vx_rows_values.specs.Values.{Row}
use Rattle.vx_rows.specs.View.{RowsView, row}
use Rattle.vx_rows_views.specs.Chunks.{all_rows}
use Rattle.vx_rows_views.proofs.Facts.{length-slice, get_or-slice}

-- one table more
pub next-rows : (ts : List RowsView) (i : ℕ) (t : RowsView) → i < length ts → t ≡ get_or ts i t → all_rows (take (i + 1) ts) ≡ all_rows (take i ts) ++ t.rows
next-rows ts i t h e =
    ap all_rows (take_more ts i t h)
    ∙ (flat_map-append (λ u. u.rows) (take i ts) (get_or ts i t ∷ [])
    ∙ (ap (λ rs. all_rows (take i ts) ++ rs) (append-nil (get_or ts i t).rows) ∙ ap (λ u. all_rows (take i ts) ++ u.rows) (sym e)))

-- where there is a row there is a table
pub some-table : (ts : List RowsView) (i : ℕ) → i < length (all_rows ts) → 0 < length ts
some-table [] i h = absurd (omega (arith, h))
some-table (u ∷ us) i h = omega arith

-- what lies where a table's rows begin
pub spot-row : (ts : List RowsView) (i k p : ℕ) (t : RowsView) → k < length ts → t ≡ get_or ts k t → p < length t.rows → i ≡ length (all_rows (take k ts)) + p → get_or (all_rows ts) i [] ≡ get_or t.rows p []
spot-row ts i k p t h e l at =
    let m = ap (λ u. length u.rows) e in
    ap (λ j. get_or (all_rows ts) j []) at
    ∙ (get_or-flat_map (λ u. u.rows) ts k p t [] h (omega (arith, m, l)) ∙ ap (λ u. get_or u.rows p []) (sym e))

-- a part that begins in the rows of one table, or behind them
pub part-next : (xs ys : List Row) (skip count from more : ℕ) → from ≡ min skip (length xs) → more ≡ min count (length xs - from)
    → take count (drop skip (xs ++ ys)) ≡ slice_range xs from (from + more) ++ take (count - more) (drop (skip - from) ys)
part-next xs ys skip count from more e g =
    let n = length-append xs ys in
    let a = length-drop skip (xs ++ ys) in
    let b = length-take count (drop skip (xs ++ ys)) in
    let c = length-drop from xs in
    let s = length-take ((from + more) - from) (drop from xs) in
    let u = length-drop (skip - from) ys in
    let v = length-take (count - more) (drop (skip - from) ys) in
    let w = length-append (slice_range xs from (from + more)) (take (count - more) (drop (skip - from) ys)) in
    let long : length (slice_range xs from (from + more)) ≡ more = omega (arith, s, c, e, g) in
    same_lists _ _ (omega (arith, n, a, b, u, v, w, long, e, g)) (λ k d near.
    let here : k < count = omega (arith, b, near) in
    get_or-take count (drop skip (xs ++ ys)) k d here
    ∙ (get_or-drop skip (xs ++ ys) k d
    ∙ elim (cases_lt k more) [
      | inl l ↦
          let i : from + k ≡ skip + k = omega (arith, e, g, l) in
          get_or_append_left xs ys d (skip + k) (omega (arith, e, g, l))
          ∙ (ap (λ j. get_or xs j d) (sym i)
          ∙ (sym (get_or-drop from xs k d)
          ∙ (sym (get_or-take ((from + more) - from) (drop from xs) k d (omega (arith, l)))
          ∙ sym (get_or_append_left (slice_range xs from (from + more)) (take (count - more) (drop (skip - from) ys)) d k (omega (arith, long, l))))))
      | inr q ↦
          let i : (skip + k) - length xs ≡ (skip - from) + (k - more) = omega (arith, e, g, q, here) in
          get_or-append_right xs ys (length xs) (skip + k) d refl (omega (arith, e, g, q, here))
          ∙ (ap (λ j. get_or ys j d) i
          ∙ (sym (get_or-drop (skip - from) ys (k - more) d)
          ∙ (sym (get_or-take (count - more) (drop (skip - from) ys) (k - more) d (omega (arith, q, here)))
          ∙ sym (get_or-append_right (slice_range xs from (from + more)) (take (count - more) (drop (skip - from) ys)) more k d long q))))
    ]))

drop-next : (ts : List RowsView) (i : ℕ) (t : RowsView) → i < length ts → t ≡ get_or ts i t → drop i ts ≡ t ∷ drop (i + 1) ts
drop-next [] i t h e = absurd (omega arith)
drop-next (u ∷ us) zero t h e = ap (λ v. v ∷ us) (sym e)
drop-next (u ∷ us) (suc i) t h e =
    let n : suc i + 1 ≡ suc (i + 1) = omega arith in
    drop-next us i t (omega arith) e ∙ ap (λ m. t ∷ drop m (u ∷ us)) (sym n)

-- what is left begins with one table's rows
pub rest-rows : (ts : List RowsView) (i : ℕ) (t : RowsView) → i < length ts → t ≡ get_or ts i t → all_rows (drop i ts) ≡ t.rows ++ all_rows (drop (i + 1) ts)
rest-rows ts i t h e = ap all_rows (drop-next ts i t h e)

pub take-range : {X : Type 0} (xs : List X) (a b : ℕ) → a ≤ b → b ≤ length xs → take b xs ≡ take a xs ++ slice_range xs a b
take-range xs a b h l =
    let n = length-take a xs in
    let e : b ≡ length (take a xs) + (b - a) = omega (arith, n, h, l) in
    ap (take b) (sym (take-append-drop a xs)) ∙ (ap (λ m. take m (take a xs ++ drop a xs)) e ∙ take-append-add (take a xs) (drop a xs) (b - a))

-- places in the rows of one table
module _ (places : List ℕ) (from to start count : ℕ) (order : from < to) (end : to ≤ length places)
    (low : (j : ℕ) → from ≤ j → j < to → start ≤ get_or places j 0) (high : (j : ℕ) → from ≤ j → j < to → get_or places j 0 - start < count) where
  run-at : (k : ℕ) (d : ℕ) → k < length (slice_range places from to) → get_or (slice_range places from to) k d ≡ get_or places (from + k) 0
  run-at k d h =
      let n = length-slice places from to (omega (arith, order)) end in
      get_or-slice places from to k d (omega (arith, n, h)) ∙ get_or_default places (from + k) d 0 (omega (arith, n, h, end))

  pub run-low : All (λ i. start ≤ i) (slice_range places from to)
  run-low = λ k d h.
      let n = length-slice places from to (omega (arith, order)) end in
      let v = run-at k d h in
      let r = low (from + k) (omega arith) (omega (arith, n, h)) in
      omega (arith, v, r)

  pub run-high : All (λ i. i - start < count) (slice_range places from to)
  run-high = λ k d h.
      let n = length-slice places from to (omega (arith, order)) end in
      let v = run-at k d h in
      let r = high (from + k) (omega arith) (omega (arith, n, h)) in
      omega (arith, v, r)

pub all-moved : (start count : ℕ) (xs ys : List ℕ) → ys ≡ map (λ i. i - start) xs → All (λ i. i - start < count) xs → All (λ i. i < count) ys
all-moved start count xs ys e h = λ k d near.
    let m = ap length e ∙ length-map xs (λ i. i - start) in
    let v = ap (λ zs. get_or zs k d) e ∙ get_or-map (λ i. i - start) xs k 0 d (omega (arith, m, near)) in
    let r = h k 0 (omega (arith, m, near)) in
    omega (arith, v, r)

pub run-rows : (ts : List RowsView) (k start : ℕ) (t : RowsView) → k < length ts → t ≡ get_or ts k t → start ≡ length (all_rows (take k ts)) → (xs : List ℕ) → All (λ i. start ≤ i) xs → All (λ i. i - start < length t.rows) xs
    → map (row t) (map (λ i. i - start) xs) ≡ map (λ i. get_or (all_rows ts) i []) xs
run-rows ts k start t h e s [] low high = refl
run-rows ts k start t h e s (x ∷ xs) low high =
    let a : start ≤ x = low zero 0 (omega arith) in
    let b : x - start < length t.rows = high zero 0 (omega arith) in
    let at : x ≡ length (all_rows (take k ts)) + (x - start) = omega (arith, a, s) in
    ap (λ r. r ∷ map (row t) (map (λ i. i - start) xs)) (sym (spot-row ts x k (x - start) t h e b at))
    ∙ ap (λ rs. get_or (all_rows ts) x [] ∷ rs) (run-rows ts k start t h e s xs (λ i d l. low (suc i) d (omega arith)) (λ i d l. high (suc i) d (omega arith)))
