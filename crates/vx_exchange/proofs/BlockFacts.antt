-- The consumers of rows, found for a block of keys at a time.
use Rattle.std.proofs.Common.{◌≡◌, ℕ, ℤ, ◌+◌, ◌<◌, ◌≤◌, List, [], ◌∷◌, ◌++◌, map, take, length, get_or, set, sym, ap, ◌∙◌, arith, append_assoc}
use Rattle.std.specs.List.{slice_range}
use Rattle.std.proofs.lemmas.List.{take_more_set, take_at, map_more, map-append, length-map}
use Rattle.std.proofs.lemmas.Simd.{map-map}
use Rattle.vx_rows_values.specs.Values.{Row}
use Rattle.vx_rows_views.proofs.Whole.{take-range}
use Rattle.vx_match_keys.specs.Columns.{number_key}

-- one consumer more
pub consumers-more : (f : ℤ → ℕ) (keys : List ℤ) (consumers : List ℕ) (i : ℕ) (z : ℤ) (n : ℕ) → i < length keys → i < length consumers
    → take i consumers ≡ map f (take i keys) → n ≡ f (get_or keys i z) → take (i + 1) (set consumers i n) ≡ map f (take (i + 1) keys)
consumers-more f keys consumers i z n near here h is =
    take_more_set consumers i n here ∙ ((λ j. h j ++ is j ∷ []) ∙ sym (map_more f keys i z near))

-- a block of consumers more
pub block-routed : (f : Row → ℕ) (keys : List Row) (numbers more : List ℤ) (old all consumers rest : List ℕ) (from n : ℕ) → from + n ≤ length keys → length numbers ≡ n
    → map number_key numbers ≡ slice_range keys from (from + n) → consumers ≡ map (λ z. f (number_key z)) (take n (numbers ++ more))
    → all ≡ old ++ map f (take from keys) → all ++ take n (consumers ++ rest) ≡ old ++ map f (take (from + n) keys)
block-routed f keys numbers more old all consumers rest from n within count keys-are found before =
    let g : ℤ → ℕ = λ z. f (number_key z) in
    let is : consumers ≡ map g numbers = found ∙ ap (map g) (take_at numbers more n count) in
    let long : length consumers ≡ n = ap length is ∙ (length-map numbers g ∙ count) in
    let block : consumers ≡ map f (slice_range keys from (from + n)) = is ∙ (sym (map-map f number_key numbers) ∙ ap (map f) keys-are) in
    let front = map f (take from keys) in
    (λ j. before j ++ (take_at consumers rest n long ∙ block) j)
    ∙ (append_assoc old front (map f (slice_range keys from (from + n)))
    ∙ ap (λ l. old ++ l) (sym (map-append f (take from keys) (slice_range keys from (from + n))) ∙ ap (map f) (sym (take-range keys from (from + n) (omega arith) within))))
