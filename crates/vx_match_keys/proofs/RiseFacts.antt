-- Rows rise where their keys do, and where each chunk does and none begins in front of where the one before it ends.
use Rattle.std.proofs.Common.{◌≡◌, ℕ, ℤ, pos, suc, ◌+◌, ◌-◌, ◌<◌, ◌≤◌, Bool, true, false, List, [], ◌∷◌, refl, sym, ap, ap₂, ◌∙◌, length, map, take, drop, get_or, subst, ◌&&◌, inl, inr, arith, tests, true≢false, not, is_lt, is_le}
use Rattle.std.specs.List.{slice_range}
use Rattle.std.specs.Ordering.{int_cmp}
use Rattle.std.proofs.lemmas.Bool.{cases_lt}
use Rattle.std.proofs.lemmas.List.{get_or-map, get_or-take, get_or-drop, get_or_default, length-map, length-append}
use Rattle.std.proofs.lemmas.List.Folds.{length-flat_map-take}
use Rattle.vx_rows_values.specs.declared.order.OrderEntry.{OrderEntry}
use Rattle.vx_rows_values.specs.Values.{Row, num, pick}
use Rattle.vx_rows_values.specs.Order.{compare_values, compare_on, sorted}
use Rattle.vx_rows.specs.View.{RowsView}
use Rattle.vx_rows_values.proofs.SortedFacts.{NoFall, sorted_from, sorted_neighbours, not_sorted}
use Rattle.vx_rows_views.specs.Chunks.{all_rows}
use Rattle.vx_rows_views.proofs.Facts.{length-slice, get_or-slice}
use Rattle.vx_rows_views.proofs.Whole.{next-rows, spot-row}
use Rattle.vx_match_keys.specs.Columns.{number_key}
use Rattle.vx_match_keys.specs.Rising.{IsRiseAnswer, AtMostAnswer}

-- one column in this direction
abbrev pub one_column : ℕ → (falling : Bool) → List OrderEntry
one_column c falling = record { column = c; falling = falling } ∷ []

-- no key but the first, of one value each, goes before the one in front of it
abbrev pub KeysRise : (falling : Bool) → List Row → ℕ → Type 0
KeysRise falling keys n = NoFall (one_column 0 falling) keys n

-- of two numbers, as keys, the second goes before the first, or they are in order
fall-key : (falling : Bool) (x y : ℤ) → is_lt (compare_on (one_column 0 falling) (number_key y) (number_key x)) ≡ not (is_le (compare_values falling (num x) (num y)))
fall-key false x y = grind (arith, tests)
fall-key true x y = grind (arith, tests)

-- one place more
pub at-most-next : (lower upper : List ℤ) (i : ℕ) (all b : Bool) → b ≡ is_le (int_cmp (get_or lower i (pos 0)) (get_or upper i (pos 0))) → AtMostAnswer lower upper i all → AtMostAnswer lower upper (i + 1) (all && b)
at-most-next lower upper i false b e h = (h.0, omega (arith, h.1), h.2)
at-most-next lower upper i true false e h = (i, omega arith, sym e)
at-most-next lower upper i true true e h = λ k l. elim (cases_lt k i) [
  | inl near ↦ h k near
  | inr far ↦ let here : k ≡ i = omega (arith, l, far) in
      subst (λ (j : ℕ). is_le (int_cmp (get_or lower j (pos 0)) (get_or upper j (pos 0))) ≡ true) (sym here) (sym e)
]

-- numbers and those behind them
module _ (numbers : List ℤ) (last : ℕ) (long : last + 1 ≡ length numbers) where
  before : (k : ℕ) (d : ℤ) → k < last → get_or (take last numbers) k (pos 0) ≡ get_or numbers k d
  before k d l = get_or-take last numbers k (pos 0) l ∙ get_or_default numbers k (pos 0) d (omega (arith, l, long))

  behind : (k : ℕ) (d : ℤ) → k < last → get_or (take last (drop 1 numbers)) k (pos 0) ≡ get_or numbers (k + 1) d
  behind k d l =
      let n : 1 + k ≡ k + 1 = omega arith in
      get_or-take last (drop 1 numbers) k (pos 0) l
      ∙ (get_or-drop 1 numbers k (pos 0) ∙ (ap (λ j. get_or numbers j (pos 0)) n ∙ get_or_default numbers (k + 1) (pos 0) d (omega (arith, l, long))))

  pub rise-answer : (count : ℕ) → count ≡ last → (r : Bool) → AtMostAnswer (take last numbers) (take last (drop 1 numbers)) count r → IsRiseAnswer false numbers r
  rise-answer count m true h = λ k d l. let near : k < last = omega (arith, l, long) in
      ap is_le (sym (ap₂ int_cmp (before k d near) (behind k d near))) ∙ h k (omega (arith, near, m))
  rise-answer count m false h = let near : h.0 < last = omega (arith, h.1, m) in
      (h.0, omega (arith, near, long), λ d. ap is_le (sym (ap₂ int_cmp (before h.0 d near) (behind h.0 d near))) ∙ h.2)

  pub fall-answer : (count : ℕ) → count ≡ last → (r : Bool) → AtMostAnswer (take last (drop 1 numbers)) (take last numbers) count r → IsRiseAnswer true numbers r
  fall-answer count m true h = λ k d l. let near : k < last = omega (arith, l, long) in
      ap is_le (sym (ap₂ int_cmp (behind k d near) (before k d near))) ∙ h k (omega (arith, near, m))
  fall-answer count m false h = let near : h.0 < last = omega (arith, h.1, m) in
      (h.0, omega (arith, near, long), λ d. ap is_le (sym (ap₂ int_cmp (behind h.0 d near) (before h.0 d near))) ∙ h.2)

-- the keys of rows are as these
module _ (c : ℕ) (falling : Bool) (rows keys : List Row) (e : keys ≡ map (pick (c ∷ [])) rows) where
  key-at : (i : ℕ) → i < length keys → get_or keys i [] ≡ pick (c ∷ []) (get_or rows i [])
  key-at i h = ap (λ ks. get_or ks i []) e ∙ get_or-map (pick (c ∷ [])) rows i [] [] (let m = ap length e ∙ length-map rows (pick (c ∷ [])) in omega (arith, m, h))

  key-compare : (i j : ℕ) → i < length keys → j < length keys
      → compare_on (one_column 0 falling) (get_or keys i []) (get_or keys j []) ≡ compare_on (one_column c falling) (get_or rows i []) (get_or rows j [])
  key-compare i j a b = ap₂ (compare_on (one_column 0 falling)) (key-at i a) (key-at j b)

  pub keys-rise : KeysRise falling keys (length keys) → true ≡ sorted (one_column c falling) rows
  keys-rise h =
      let m = ap length e ∙ length-map rows (pick (c ∷ [])) in
      sym (sorted_from (one_column c falling) rows (λ k l.
      let near : suc k < length keys = omega (arith, m, l) in
      ap is_lt (sym (key-compare (suc k) k near (omega (arith, near)))) ∙ h k near))

  pub keys-fall : (k : ℕ) → suc k < length keys → is_lt (compare_on (one_column 0 falling) (get_or keys (suc k) []) (get_or keys k [])) ≡ true → false ≡ sorted (one_column c falling) rows
  keys-fall k near h =
      let m = ap length e ∙ length-map rows (pick (c ∷ [])) in
      sym (not_sorted (one_column c falling) rows k (omega (arith, m, near)) (ap is_lt (sym (key-compare (suc k) k near (omega (arith, near)))) ∙ h) (sorted (one_column c falling) rows) refl)

-- a block of numbers that was read from a column
module _ (falling : Bool) (column : List Row) (block : List ℤ) (from n : ℕ) (within : from + n ≤ length column) (is : map number_key block ≡ slice_range column from (from + n)) where
  block-long : length block ≡ n
  block-long =
      let all = ap length is in
      let keys = length-map block number_key in
      let part = length-slice column from (from + n) (omega arith) within in
      omega (arith, all, keys, part)

  block-key : (i : ℕ) → i < n → number_key (get_or block i (pos 0)) ≡ get_or column (from + i) []
  block-key i h =
      sym (get_or-map number_key block i (pos 0) [] (omega (arith, block-long, h)))
      ∙ (ap (λ ks. get_or ks i []) is ∙ get_or-slice column from (from + n) i [] (omega (arith, h)))

  -- whether it falls behind a place
  block-fall : (k : ℕ) → suc k < n → is_lt (compare_on (one_column 0 falling) (get_or column (from + suc k) []) (get_or column (from + k) [])) ≡ not (is_le (compare_values falling (num (get_or block k (pos 0))) (num (get_or block (k + 1) (pos 0)))))
  block-fall k near =
      let next : suc k ≡ k + 1 = omega arith in
      ap is_lt (ap₂ (compare_on (one_column 0 falling)) (sym (block-key (suc k) near)) (sym (block-key k (omega (arith, near)))))
      ∙ (fall-key falling (get_or block k (pos 0)) (get_or block (suc k) (pos 0)) ∙ ap (λ j. not (is_le (compare_values falling (num (get_or block k (pos 0))) (num (get_or block j (pos 0)))))) next)

  -- its first number is the last of those before it
  pub block-rises : KeysRise falling column (from + 1) → (r : Bool) → r ≡ true → IsRiseAnswer falling block r → KeysRise falling column (from + n)
  block-rises before false e up k l = absurd (true≢false (sym e))
  block-rises before true e up k l = elim (cases_lt (suc k) (from + 1)) [
    | inl h ↦ before k h
    | inr h ↦
        let here : from + (k - from) ≡ k = omega (arith, h) in
        let next : from + suc (k - from) ≡ suc k = omega (arith, h) in
        let near : suc (k - from) < n = omega (arith, h, l) in
        ap is_lt (ap₂ (λ i j. compare_on (one_column 0 falling) (get_or column i []) (get_or column j [])) (sym next) (sym here)) ∙ (block-fall (k - from) near ∙ ap not (up (k - from) (pos 0) (omega (arith, near, block-long))))
  ]

  pub block-falls : (c : ℕ) (rows : List Row) → column ≡ map (pick (c ∷ [])) rows → (r : Bool) → r ≡ false → IsRiseAnswer falling block r → false ≡ sorted (one_column c falling) rows
  block-falls c rows e true f fall = absurd (true≢false f)
  block-falls c rows e false f fall =
      let k : ℕ = fall.0 in
      let near : suc k < n = omega (arith, fall.1, block-long) in
      let next : from + suc k ≡ suc (from + k) = omega arith in
      keys-fall c falling rows column e (from + k) (omega (arith, near, within))
      (ap (λ j. is_lt (compare_on (one_column 0 falling) (get_or column j []) (get_or column (from + k) []))) (sym next) ∙ (block-fall k near ∙ ap not (fall.2 (pos 0))))

-- rows that do not fall up to where one of the tables begins that they lie in, nor there
module _ (order : List OrderEntry) (ts : List RowsView) (rows : List Row) (whole : all_rows ts ≡ rows) (i at : ℕ) (t : RowsView) (there : i < length ts) (is : t ≡ get_or ts i t)
    (place : at ≡ length (all_rows (take i ts))) where
  -- it lies within the rows, and the next one begins behind it
  pub table-within : at + length t.rows ≤ length rows
  table-within =
      let a = length-flat_map-take (λ u. u.rows) ts i t there in
      let b = ap (λ u. length u.rows) is in
      let w = ap length whole in
      omega (arith, a, b, w, place)

  pub table-place : at + length t.rows ≡ length (all_rows (take (i + 1) ts))
  table-place =
      let a = length-append (all_rows (take i ts)) t.rows in
      let b = ap length (next-rows ts i t there is) in
      omega (arith, a, b, place)

  row-at : (p : ℕ) → p < length t.rows → get_or rows (at + p) [] ≡ get_or t.rows p []
  row-at p h = ap (λ rs. get_or rs (at + p) []) (sym whole) ∙ spot-row ts (at + p) i p t there is h (ap (λ n. n + p) place)

  inner : (b : Bool) (k : ℕ) → suc k < length t.rows → is_lt (compare_on order (get_or rows (suc (at + k)) []) (get_or rows (at + k) [])) ≡ b
      → is_lt (compare_on order (get_or t.rows (suc k) []) (get_or t.rows k [])) ≡ b
  inner b k h e =
      let n : at + suc k ≡ suc (at + k) = omega arith in
      ap is_lt (ap₂ (compare_on order) (sym (row-at (suc k) h) ∙ ap (λ j. get_or rows j []) n) (sym (row-at k (omega (arith, h))))) ∙ e

  pub table-next : sorted order t.rows ≡ true → NoFall order rows at → ((k : ℕ) → suc k ≡ at → suc k < length rows → is_lt (compare_on order (get_or rows (suc k) []) (get_or rows k [])) ≡ false)
      → NoFall order rows (at + length t.rows)
  table-next s before meet k l = elim (cases_lt (suc k) at) [
    | inl h ↦ before k h
    | inr h ↦ elim (cases_lt at (suc k)) [
      | inl g ↦
          let n : at + (k - at) ≡ k = omega (arith, g) in
          let m : at + suc (k - at) ≡ suc k = omega (arith, g) in
          let near : suc (k - at) < length t.rows = omega (arith, g, l) in
          ap is_lt (ap₂ (compare_on order) (ap (λ j. get_or rows j []) (sym m) ∙ row-at (suc (k - at)) near) (ap (λ j. get_or rows j []) (sym n) ∙ row-at (k - at) (omega (arith, near))))
          ∙ sorted_neighbours order t.rows s (k - at) near
      | inr g ↦ meet k (omega (arith, h, g)) (omega (arith, l, table-within))
    ]
  ]

  pub table-falls : sorted order t.rows ≡ false → (b : Bool) → sorted order rows ≡ b → b ≡ false
  table-falls s false e = refl
  table-falls s true e =
      let up : sorted order t.rows ≡ true = sorted_from order t.rows (λ k h. inner false k h (sorted_neighbours order rows e (at + k) (omega (arith, h, table-within)))) in
      absurd (true≢false (sym up ∙ s))
