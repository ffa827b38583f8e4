-- The numbers of one column of rows.
use Rattle.std.proofs.Common.{◌≡◌, ℕ, ℤ, pos, suc, zero, ◌+◌, ◌-◌, ◌<◌, ◌≤◌, Bool, Option, List, [], ◌∷◌, ◌++◌, map, take, length, get_or, refl, sym, ap, ◌∙◌, arith}
use Rattle.std.specs.Prelude.{slice_range}
use Rattle.std.proofs.lemmas.List.{map-append, append_assoc, same_lists, length-map, get_or-map, length-take, get_or-take}
use Rattle.std.proofs.lemmas.Simd.{map-map}
use Rattle.vx_rows_values.specs.Values.{Row, num, pick, value_at}
use Rattle.vx_rows.specs.View.{RowsView}
use Rattle.vx_rows.specs.Lists.{each_below}
use Rattle.vx_rows.proofs.Below.{length-each_below, get_or-each_below}
use Rattle.vx_rows_views.specs.Chunks.{all_rows}
use Rattle.vx_rows_views.specs.declared.positions.PositionsRef.{PositionsRef}
use Rattle.vx_rows_views.specs.declared.positions.PositionsRef.TheVariants.{Range}
use Rattle.vx_rows_views.specs.Seen.{seen_positions}
use Rattle.vx_rows_views.specs.Selected.{AreNumbers}
use Rattle.vx_rows_views.proofs.Facts.{map-range}
use Rattle.vx_rows_views.proofs.Whole.{next-rows}
use Rattle.vx_catalog.specs.KeyNumbers.{number_rows, number_order}
use Rattle.std.specs.declared.cmp.Ordering.{Ordering}
use Rattle.std.specs.declared.cmp.Ordering.TheVariants.{Less, Equal, Greater}
use Rattle.std.specs.Ordering.{is_lt, ordering_then}
use Rattle.vx_rows_values.specs.declared.order.OrderEntry.{OrderEntry}
use Rattle.vx_rows_values.specs.Order.{compare_on, compare_values}
use Rattle.vx_catalog.specs.Loading.{first_fall}
use Rattle.vx_catalog.proofs.PlacedFacts.{first-fall-placed}

-- lists that are made alike of positions and of rows
made-alike : (e : ℕ → Row) (f : Row → Row) (positions : List ℕ) (rows : List Row) → length positions ≡ length rows
    → ((k : ℕ) → k < length rows → e (get_or positions k 0) ≡ f (get_or rows k [])) → map e positions ≡ map f rows
made-alike e f [] [] long each = refl
made-alike e f [] (r ∷ rs) long each = absurd (omega (arith, long))
made-alike e f (p ∷ ps) [] long each = absurd (omega (arith, long))
made-alike e f (p ∷ ps) (r ∷ rs) long each =
    let first : 0 < length (r ∷ rs) = omega arith in
    λ i. each zero first i ∷ made-alike e f ps rs (omega (arith, long)) (λ k l. each (suc k) (omega (arith, l))) i

-- the numbers at the positions of the rows
numbers-are : (numbers : List ℤ) (positions : List ℕ) (column : ℕ) (rows : List Row) → AreNumbers numbers positions column rows
    → number_rows (map (λ q. get_or numbers q (pos 0)) positions) ≡ map (pick (column ∷ [])) rows
numbers-are numbers positions column rows are =
    map-map (λ z. num z ∷ []) (λ q. get_or numbers q (pos 0)) positions
    ∙ made-alike (λ q. num (get_or numbers q (pos 0)) ∷ []) (pick (column ∷ [])) positions rows are.long (λ k l. ap (λ v. v ∷ []) (sym (are.values k l)))

-- they are added behind others
pub listed-more : (found new numbers seen : List ℤ) (positions listed : List ℕ) (column : ℕ) (rows : List Row) → AreNumbers numbers positions column rows → seen ≡ numbers → positions ≡ listed
    → new ≡ found ++ map (λ q. get_or seen q (pos 0)) listed
    → number_rows new ≡ number_rows found ++ map (pick (column ∷ [])) rows
listed-more found new numbers seen positions listed column rows are same there pushed =
    ap number_rows (pushed ∙ (λ i. found ++ map (λ q. get_or (same i) q (pos 0)) (sym there i)))
    ∙ (map-append (λ z. num z ∷ []) found (map (λ q. get_or numbers q (pos 0)) positions)
    ∙ ap (λ rs. number_rows found ++ rs) (numbers-are numbers positions column rows are))

-- a range of positions lies among the numbers
pub range-room : (numbers seen : List ℤ) (at : PositionsRef) (from count column : ℕ) (rows : List Row) → AreNumbers numbers (seen_positions at) column rows → seen ≡ numbers
    → at ≡ Range from count → 0 < length rows → from + count ≤ length seen
range-room numbers seen at from count column rows are same is some =
    let f = λ (k : ℕ). from + k in
    let here : seen_positions at ≡ each_below count f = ap seen_positions is in
    let long : length rows ≡ count = sym are.long ∙ (ap length here ∙ length-each_below count f) in
    let last = length rows - 1 in
    let near = are.near last (omega (arith, some)) in
    let value : get_or (seen_positions at) last 0 ≡ from + last = ap (λ ps. get_or ps last 0) here ∙ get_or-each_below count f last 0 (omega (arith, some, long)) in
    omega (arith, near, value, long, some, ap length same)

-- and its numbers are added behind others
pub range-more : (found new numbers seen : List ℤ) (at : PositionsRef) (from count column : ℕ) (rows : List Row) → AreNumbers numbers (seen_positions at) column rows → seen ≡ numbers
    → at ≡ Range from count → 0 < length rows → new ≡ found ++ slice_range seen from (from + count)
    → number_rows new ≡ number_rows found ++ map (pick (column ∷ [])) rows
range-more found new numbers seen at from count column rows are same is some pushed =
    let f = λ (k : ℕ). from + k in
    let room = range-room numbers seen at from count column rows are same is some in
    let many : count ≡ (from + count) - from = omega arith in
    let here : seen_positions at ≡ each_below ((from + count) - from) f = ap seen_positions is ∙ ap (λ n. each_below n f) many in
    let cut : slice_range seen from (from + count) ≡ map (λ q. get_or seen q (pos 0)) (seen_positions at) =
    sym (ap (map (λ q. get_or seen q (pos 0))) here ∙ map-range seen (pos 0) from (from + count) (omega arith) room) in
    listed-more found new numbers seen (seen_positions at) (seen_positions at) column rows are same refl (pushed ∙ ap (λ ns. found ++ ns) cut)

-- the numbers of one chunk more
pub chunks-more : (before found new : List Row) (cols : List ℕ) (chunks : List RowsView) (i : ℕ) (chunk : RowsView) → i < length chunks → chunk ≡ get_or chunks i chunk
    → found ≡ before ++ map (pick cols) (all_rows (take i chunks)) → new ≡ found ++ map (pick cols) chunk.rows
    → new ≡ before ++ map (pick cols) (all_rows (take (i + 1) chunks))
chunks-more before found new cols chunks i chunk near is so_far more =
    let front = all_rows (take i chunks) in
    more
    ∙ (ap (λ rs. rs ++ map (pick cols) chunk.rows) so_far
    ∙ (append_assoc before (map (pick cols) front) (map (pick cols) chunk.rows)
    ∙ ap (λ rs. before ++ rs) (sym (ap (map (pick cols)) (next-rows chunks i chunk near is) ∙ map-append (pick cols) front chunk.rows))))

-- ---- orders

then-equal : (o : Ordering) → is_lt (ordering_then o Equal) ≡ is_lt o
then-equal Less = refl
then-equal Equal = refl
then-equal Greater = refl

-- whether a number comes before the one in front of it, said of the rows
pub number-falls : (falling : Bool) (numbers : List ℤ) (i : ℕ) (falls : Bool) → i < length numbers → falls ≡ is_lt (compare_values falling (num (get_or numbers i (pos 0))) (num (get_or numbers (i - 1) (pos 0))))
    → is_lt (compare_on (number_order falling) (get_or (number_rows numbers) i []) (get_or (number_rows numbers) (i - 1) [])) ≡ falls
number-falls falling numbers i falls near is =
    let one = λ (z : ℤ). num z ∷ [] in
    let here : get_or (number_rows numbers) i [] ≡ one (get_or numbers i (pos 0)) = get_or-map one numbers i (pos 0) [] near in
    let before : get_or (number_rows numbers) (i - 1) [] ≡ one (get_or numbers (i - 1) (pos 0)) = get_or-map one numbers (i - 1) (pos 0) [] (omega (arith, near)) in
    (λ t. is_lt (compare_on (number_order falling) (here t) (before t)))
    ∙ (then-equal (compare_values falling (num (get_or numbers i (pos 0))) (num (get_or numbers (i - 1) (pos 0)))) ∙ sym is)

-- the first numbers of a column are what the rows have there
column-rows : (numbers : List ℤ) (rows : List Row) (column : ℕ) → length rows ≤ length numbers → ((k : ℕ) → k < length rows → value_at (get_or rows k []) column ≡ num (get_or numbers k (pos 0)))
    → number_rows (take (length rows) numbers) ≡ map (pick (column ∷ [])) rows
column-rows numbers rows column long values =
    let one = λ (z : ℤ). num z ∷ [] in
    let part = take (length rows) numbers in
    let short = length-take (length rows) numbers in
    let left = length-map part one in
    let right = length-map rows (pick (column ∷ [])) in
    same_lists _ _ (omega (arith, short, left, right, long)) (λ k d near.
    let here : k < length rows = omega (arith, short, left, near, long) in
    get_or-map one part k (pos 0) d (omega (arith, short, here, long))
    ∙ (ap one (get_or-take (length rows) numbers k (pos 0) here)
    ∙ (ap (λ v. v ∷ []) (sym (values k here)) ∙ sym (get_or-map (pick (column ∷ [])) rows k [] d here))))

one-entry : (order : List OrderEntry) (none : OrderEntry) → 1 ≤ length order → length order < 2 → order ≡ get_or order 0 none ∷ []
one-entry [] none low high = absurd (omega (arith, low))
one-entry (e ∷ []) none low high = refl
one-entry (e ∷ f ∷ order) none low high = absurd (omega (arith, high))

-- the first fall of the numbers is that of the rows
pub numbers-fall : (order : List OrderEntry) (none : OrderEntry) (rows : List Row) (numbers wide : List ℤ) (n : ℕ) (found : Option ℕ) → 1 ≤ length order → length order < 2 → n ≡ length rows → wide ≡ numbers
    → length rows ≤ length numbers → ((k : ℕ) → k < length rows → value_at (get_or rows k []) (get_or order 0 none).column ≡ num (get_or numbers k (pos 0)))
    → found ≡ first_fall (number_order (get_or order 0 none).falling) (number_rows (take n wide)) → found ≡ first_fall order rows
numbers-fall order none rows numbers wide n found low high many same long values first =
    let entry = get_or order 0 none in
    let falls = first_fall (number_order entry.falling) in
    first
    ∙ ((λ t. falls (number_rows (take (many t) (same t))))
    ∙ (ap falls (column-rows numbers rows entry.column long values)
    ∙ (first-fall-placed (entry ∷ []) rows ∙ ap (λ o. first_fall o rows) (sym (one-entry order none low high)))))
