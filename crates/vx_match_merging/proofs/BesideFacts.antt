-- Rows side by side, and rows at pairs of places.
use Rattle.std.proofs.Common.{◌≡◌, ℕ, ◌+◌, ◌<◌, ◌≤◌, List, [], ◌∷◌, ◌++◌, length, take, drop, map, get_or, slice_range, refl, sym, ap, ◌∙◌, arith, append_assoc}
use Rattle.std.specs.Prelude.{zip}
use Rattle.std.proofs.lemmas.List.{map-append, length-append, length-map, take-append-drop, length-take-le}
use Rattle.std.proofs.lemmas.List.Concat.{flat_map-append}
use Rattle.vx_rows_values.specs.Values.{Row}
use Rattle.vx_rows.specs.View.{RowsView, row}
use Rattle.vx_rows_views.specs.Chunks.{all_rows}
use Rattle.vx_rows_views.proofs.Whole.{next-rows, take-range}
use Rattle.vx_rows_views.proofs.Joined.{zip-read}
use Rattle.vx_match_merging.specs.Merged.{beside, rows_at}

zip-join : {X Y : Type 0} (xs us : List X) (ys vs : List Y) → length xs ≡ length ys → zip (xs ++ us) (ys ++ vs) ≡ zip xs ys ++ zip us vs
zip-join [] us [] vs e = refl
zip-join [] us (y ∷ ys) vs e = absurd (omega arith)
zip-join (x ∷ xs) us [] vs e = absurd (omega arith)
zip-join (x ∷ xs) us (y ∷ ys) vs e = ap (λ l. (x, y) ∷ l) (zip-join xs us ys vs (omega arith))

pub beside-join : (xs us ys vs : List Row) → length xs ≡ length ys → beside (xs ++ us) (ys ++ vs) ≡ beside xs ys ++ beside us vs
beside-join xs us ys vs e = ap (map (λ p. p.0 ++ p.1)) (zip-join xs us ys vs e) ∙ map-append (λ p. p.0 ++ p.1) (zip xs ys) (zip us vs)

zip-long : {X Y : Type 0} (xs : List X) (ys : List Y) → length xs ≡ length ys → length (zip xs ys) ≡ length xs
zip-long [] ys e = refl
zip-long (x ∷ xs) [] e = absurd (omega arith)
zip-long (x ∷ xs) (y ∷ ys) e = let rest = zip-long xs ys (omega arith) in omega (arith, rest)

-- as many rows as pairs
pub paired-long : (a b : RowsView) (ls rs : List ℕ) → length ls ≡ length rs → length (rows_at a b ls rs) ≡ length ls
paired-long a b ls rs e = length-map (zip ls rs) (λ p. row a p.0 ++ row b p.1) ∙ zip-long ls rs e

-- one pair more
pub one-pair : (a b : RowsView) (ls rs : List ℕ) (i j : ℕ) → length ls ≡ length rs → rows_at a b (ls ++ i ∷ []) (rs ++ j ∷ []) ≡ rows_at a b ls rs ++ (row a i ++ row b j) ∷ []
one-pair a b ls rs i j e = ap (map (λ p. row a p.0 ++ row b p.1)) (zip-join ls (i ∷ []) rs (j ∷ []) e) ∙ map-append (λ p. row a p.0 ++ row b p.1) (zip ls rs) ((i, j) ∷ [])

pub read-rows : (a b : RowsView) (xs ys : List Row) (ls rs : List ℕ) → xs ≡ map (row a) ls → ys ≡ map (row b) rs → beside xs ys ≡ rows_at a b ls rs
read-rows a b xs ys ls rs e f = (λ i. beside (e i) (f i)) ∙ zip-read (row a) (row b) ls rs

-- the rows of one more chunk are among all rows
pub chunk-within : (ts : List RowsView) (i : ℕ) (t : RowsView) → i < length ts → t ≡ get_or ts i t → length (all_rows (take i ts)) + length t.rows ≤ length (all_rows ts)
chunk-within ts i t near is =
    let next = next-rows ts i t near is in
    let whole : all_rows ts ≡ (all_rows (take i ts) ++ t.rows) ++ all_rows (drop (i + 1) ts) =
    ap all_rows (sym (take-append-drop (i + 1) ts)) ∙ (flat_map-append (λ u. u.rows) (take (i + 1) ts) (drop (i + 1) ts) ∙ ap (λ xs. xs ++ all_rows (drop (i + 1) ts)) next) in
    let long = ap length whole ∙ length-append (all_rows (take i ts) ++ t.rows) (all_rows (drop (i + 1) ts)) in
    let front = length-append (all_rows (take i ts)) t.rows in
    omega (arith, long, front)

-- one more chunk on the right
pub right-chunk : (left : List Row) (ts : List RowsView) (i from to : ℕ) (t : RowsView) (old joined new : List Row) → i < length ts → t ≡ get_or ts i t → from ≡ length (all_rows (take i ts)) → to ≡ from + length t.rows
    → to ≤ length left → joined ≡ old ++ beside (take from left) (all_rows (take i ts)) → new ≡ joined ++ beside (slice_range left from to) t.rows
    → (to ≡ length (all_rows (take (i + 1) ts))) × (new ≡ old ++ beside (take to left) (all_rows (take (i + 1) ts)))
right-chunk left ts i from to t old joined new near is at end there h k =
    let next = next-rows ts i t near is in
    let long = length-append (all_rows (take i ts)) t.rows in
    let front : length (take from left) ≡ length (all_rows (take i ts)) = length-take-le from left (omega (arith, end, there)) ∙ at in
    let more : take to left ≡ take from left ++ slice_range left from to = take-range left from to (omega (arith, end)) there in (
      end ∙ (ap (λ n. n + length t.rows) at ∙ (sym long ∙ sym (ap length next))),
      k
          ∙ (ap (λ xs. xs ++ beside (slice_range left from to) t.rows) h
          ∙ (append_assoc old (beside (take from left) (all_rows (take i ts))) (beside (slice_range left from to) t.rows)
          ∙ ap (λ xs. old ++ xs) (sym ((λ j. beside (more j) (next j)) ∙ beside-join (take from left) (slice_range left from to) (all_rows (take i ts)) t.rows front)))),
    )

-- and on the left
pub left-chunk : (right : List Row) (ts : List RowsView) (i from to : ℕ) (t : RowsView) (joined new part : List Row) → i < length ts → t ≡ get_or ts i t → from ≡ length (all_rows (take i ts)) → to ≡ from + length t.rows
    → to ≤ length right → part ≡ slice_range right from to → joined ≡ beside (all_rows (take i ts)) (take from right) → new ≡ joined ++ beside t.rows part
    → (to ≡ length (all_rows (take (i + 1) ts))) × (new ≡ beside (all_rows (take (i + 1) ts)) (take to right))
left-chunk right ts i from to t joined new part near is at end there cut h k =
    let next = next-rows ts i t near is in
    let long = length-append (all_rows (take i ts)) t.rows in
    let front : length (all_rows (take i ts)) ≡ length (take from right) = sym (length-take-le from right (omega (arith, end, there)) ∙ at) in
    let more : take to right ≡ take from right ++ slice_range right from to = take-range right from to (omega (arith, end)) there in (
      end ∙ (ap (λ n. n + length t.rows) at ∙ (sym long ∙ sym (ap length next))),
      k
          ∙ ((λ j. h j ++ beside t.rows (cut j))
          ∙ sym ((λ j. beside (next j) (more j)) ∙ beside-join (all_rows (take i ts)) t.rows (take from right) (slice_range right from to) front)),
    )
