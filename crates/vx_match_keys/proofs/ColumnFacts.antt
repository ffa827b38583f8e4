-- Columns that are keys by themselves.
use Rattle.std.proofs.Common.{◌≡◌, ℕ, ℤ, pos, suc, zero, ◌+◌, ◌-◌, ◌<◌, ◌≤◌, List, [], ◌∷◌, map, take, drop, length, get_or, refl, sym, ap, ◌∙◌, arith}
use Rattle.std.specs.Prelude.{slice_range}
use Rattle.std.proofs.lemmas.List.{same_lists, length-map, get_or-map, take-map, drop-map}
use Rattle.std.proofs.lemmas.Simd.{map-map}
use Rattle.vx_rows_values.specs.Values.{Row, pick, value_at}
use Rattle.vx_rows.specs.Lists.{each_below}
use Rattle.vx_rows.specs.Numbers.{numbers_at}
use Rattle.vx_rows.specs.View.{ArePositions}
use Rattle.vx_rows.proofs.Below.{length-each_below, get_or-each_below}
use Rattle.vx_rows_views.specs.declared.positions.PositionsRef.{PositionsRef}
use Rattle.vx_rows_views.specs.declared.positions.PositionsRef.TheVariants.{Range}
use Rattle.vx_rows_views.specs.Seen.{seen_positions}
use Rattle.vx_rows_views.specs.Selected.{AreNumbers, AreTexts}
use Rattle.vx_rows_views.proofs.Facts.{length-slice, get_or-slice}
use Rattle.vx_match_keys.specs.Columns.{number_key, text_key, number_keys, text_keys}

-- lists that are made alike of positions and of rows
made-alike : (e : ℕ → Row) (f : Row → Row) (positions : List ℕ) (rows : List Row) → length positions ≡ length rows
    → ((k : ℕ) → k < length rows → e (get_or positions k 0) ≡ f (get_or rows k [])) → map e positions ≡ map f rows
made-alike e f [] [] long each = refl
made-alike e f [] (r ∷ rs) long each = absurd (omega (arith, long))
made-alike e f (p ∷ ps) [] long each = absurd (omega (arith, long))
made-alike e f (p ∷ ps) (r ∷ rs) long each =
    let first : 0 < length (r ∷ rs) = omega arith in
    λ i. each zero first i ∷ made-alike e f ps rs (omega (arith, long)) (λ k l. each (suc k) (omega (arith, l))) i

-- one column of them is the key
one-column : (cols : List ℕ) → length cols ≡ 1 → cols ≡ get_or cols 0 0 ∷ []
one-column [] h = absurd (omega (arith, h))
one-column (c ∷ []) h = refl
one-column (c ∷ d ∷ ds) h = absurd (omega (arith, h))

picks-one : (cols : List ℕ) (c : ℕ) (r : Row) → length cols ≡ 1 → c ≡ get_or cols 0 0 → value_at r c ∷ [] ≡ pick cols r
picks-one cols c r one is = ap (λ d. value_at r d ∷ []) is ∙ ap (λ cs. pick cs r) (sym (one-column cols one))

pub numbers-are : (cols : List ℕ) (c : ℕ) (numbers : List ℤ) (positions : List ℕ) (rows : List Row) → length cols ≡ 1 → c ≡ get_or cols 0 0 → AreNumbers numbers positions c rows
    → number_keys numbers positions ≡ map (pick cols) rows
numbers-are cols c numbers positions rows one is are =
    made-alike (λ q. number_key (get_or numbers q (pos 0))) (pick cols) positions rows are.long
    (λ k l. ap (λ v. v ∷ []) (sym (are.values k l)) ∙ picks-one cols c (get_or rows k []) one is)

pub texts-are : (cols : List ℕ) (c : ℕ) (texts : List (List ℕ)) (positions : List ℕ) (rows : List Row) → length cols ≡ 1 → c ≡ get_or cols 0 0 → AreTexts texts positions c rows
    → text_keys texts positions ≡ map (pick cols) rows
texts-are cols c texts positions rows one is are =
    made-alike (λ q. text_key (get_or texts q [])) (pick cols) positions rows are.long
    (λ k l. ap (λ v. v ∷ []) (sym (are.values k l)) ∙ picks-one cols c (get_or rows k []) one is)

-- position k of a range
pub range-at : (at : PositionsRef) (from count k : ℕ) → at ≡ Range from count → k < length (seen_positions at) → get_or (seen_positions at) k 0 ≡ from + k
range-at at from count k is near =
    let f = λ (j : ℕ). from + j in
    let here : seen_positions at ≡ each_below count f = ap seen_positions is in
    ap (λ ps. get_or ps k 0) here ∙ get_or-each_below count f k 0 (omega (arith, near, ap length here, length-each_below count f))

-- a part of a range lies among the numbers, and has these keys
pub range-room : (at : PositionsRef) (first count limit from n : ℕ) → at ≡ Range first count → ArePositions limit (seen_positions at) → from + n ≤ length (seen_positions at) → 0 < n → first + from + n ≤ limit
range-room at first count limit from n is below room some =
    let k = from + (n - 1) in
    let near : k < length (seen_positions at) = omega (arith, room, some) in
    let v = range-at at first count k is near in
    let r = below k 0 near in
    omega (arith, v, r, some)

pub range-keys : (numbers : List ℤ) (at : PositionsRef) (first count from n : ℕ) → at ≡ Range first count → from + n ≤ length (seen_positions at) → first + from + n ≤ length numbers
    → map number_key (slice_range numbers (first + from) (first + from + n)) ≡ slice_range (number_keys numbers (seen_positions at)) from (from + n)
range-keys numbers at first count from n is room within =
    let ps = seen_positions at in
    let part = slice_range numbers (first + from) (first + from + n) in
    let keys = number_keys numbers ps in
    let key = λ (q : ℕ). number_key (get_or numbers q (pos 0)) in
    let all : length keys ≡ length ps = length-map ps key in
    let long = length-slice numbers (first + from) (first + from + n) (omega arith) within in
    let mapped = length-map part number_key in
    let short = length-slice keys from (from + n) (omega arith) (omega (arith, all, room)) in
    same_lists _ _ (omega (arith, long, mapped, short)) (λ k d near.
    let here : k < n = omega (arith, mapped, long, near) in
    get_or-map number_key part k (pos 0) d (omega (arith, long, here))
    ∙ (ap number_key (get_or-slice numbers (first + from) (first + from + n) k (pos 0) (omega arith))
    ∙ (ap key (omega arith ∙ sym (range-at at first count (from + k) is (omega (arith, here, room))))
    ∙ sym (get_or-slice keys from (from + n) k d (omega arith) ∙ get_or-map key ps (from + k) 0 d (omega (arith, here, room))))))

-- and so do listed positions
pub listed-keys : (numbers : List ℤ) (ps : List ℕ) (from to : ℕ) → map number_key (numbers_at numbers (slice_range ps from to)) ≡ slice_range (number_keys numbers ps) from to
listed-keys numbers ps from to =
    let at = λ (q : ℕ). get_or numbers q (pos 0) in
    let key = λ (q : ℕ). number_key (get_or numbers q (pos 0)) in
    map-map number_key at (slice_range ps from to)
    ∙ sym (ap (take (to - from)) (drop-map key from ps) ∙ take-map key (to - from) (drop from ps))
