-- Numbers that are found for a block of keys at a time.
use Rattle.std.proofs.Common.{◌≡◌, ℕ, ℤ, pos, ◌+◌, ◌-◌, ◌<◌, ◌≤◌, List, [], ◌∷◌, ◌++◌, map, take, drop, length, get_or, set, sym, ap, ◌∙◌, arith, append_assoc, length-drop, length-append}
use Rattle.std.specs.Prelude.{position, Some}
use Rattle.std.specs.List.{slice_range, position_or_len}
use Rattle.std.proofs.Math.Seq.{take-add, take-append-add}
use Rattle.std.proofs.lemmas.List.{take_more_set, take_at, take-append-le, take-take, take-map, drop-map, map_more, map-append, get_or-map, length-map, length-take-le}
use Rattle.std.proofs.lemmas.List.Quantifiers.{position-Some}
use Rattle.indexmap.specs.IndexSet.{insert_key, insert_all}
use Rattle.vx_rows_values.specs.Values.{Row, row_eq}
use Rattle.vx_rows_views.proofs.Whole.{take-range}
use Rattle.vx_match_keys.specs.Columns.{number_key}
use Rattle.vx_match_keys.specs.Numbers.{numbers_of}
use Rattle.vx_match_keys.proofs.NumberFacts.{all-next, numbers-next, all-append, numbers-append, key-known, found-number}

-- one number more
pub block-step : (f : Row → ℕ) (keys : List Row) (found : List ℕ) (i n : ℕ) → i < length keys → i < length found
    → take i found ≡ map f (take i keys) → n ≡ f (get_or keys i []) → take (i + 1) (set found i n) ≡ map f (take (i + 1) keys)
block-step f keys found i n near here h is =
    take_more_set found i n here
    ∙ ((λ j. h j ++ is j ∷ [])
    ∙ sym (map_more f keys i [] near))

-- a block of numbers more
pub block-next : (f : Row → ℕ) (keys : List Row) (all found rest : List ℕ) (from n : ℕ) → from + n ≤ length keys
    → all ≡ map f (take from keys) → found ≡ map f (slice_range keys from (from + n)) → all ++ take n (found ++ rest) ≡ map f (take (from + n) keys)
block-next f keys all found rest from n within before h =
    let block = take n (drop from keys) in
    let count : from + n - from ≡ n = omega arith in
    let is : found ≡ map f block = h ∙ ap (λ m. map f (take m (drop from keys))) count in
    let behind = length-drop from keys in
    let long : length found ≡ n = ap length is ∙ (length-map block f ∙ length-take-le n (drop from keys) (omega (arith, behind, within))) in
    (λ j. before j ++ (take_at found rest n long ∙ is) j)
    ∙ (sym (map-append f (take from keys) block) ∙ ap (map f) (sym (take-add from n keys)))

-- key i of some numbers
pub key-at : (numbers : List ℤ) (i : ℕ) → i < length numbers → get_or (map number_key numbers) i [] ≡ number_key (get_or numbers i (pos 0))
key-at numbers i near = get_or-map number_key numbers i (pos 0) [] near

-- one key more that is known: its number, and the keys, which stay
pub known-step : (ks xs : List Row) (found : List ℕ) (i n : ℕ) → i < length xs → i < length found → position (row_eq (get_or xs i [])) ks ≡ Some n
    → insert_all row_eq ks (take i xs) ≡ ks → take i found ≡ numbers_of ks (take i xs) → take (i + 1) (set found i n) ≡ numbers_of ks (take (i + 1) xs)
known-step ks xs found i n near here at same h =
    let x = get_or xs i [] in
    take_more_set found i n here
    ∙ ((λ j. h j ++ (found-number (row_eq x) ks n at ∙ ap (position_or_len (row_eq x)) (sym same)) j ∷ [])
    ∙ sym (numbers-next ks xs i near))

pub known-stays : (ks xs : List Row) (i n : ℕ) → i < length xs → position (row_eq (get_or xs i [])) ks ≡ Some n
    → insert_all row_eq ks (take i xs) ≡ ks → insert_all row_eq ks (take (i + 1) xs) ≡ ks
known-stays ks xs i n near at same =
    let x = get_or xs i [] in
    let is = found-number (row_eq x) ks n at in
    let here : n < length ks = (position-Some (row_eq x) ks n [] at).0 in
    all-next ks xs i near ∙ (ap (λ l. insert_key row_eq l x) same ∙ key-known ks x (omega (arith, here, is)))

-- one key more, where s are the keys that are there before it
pub part-step : (ks s xs : List Row) (found : List ℕ) (i n : ℕ) → i < length xs → i < length found → s ≡ insert_all row_eq ks (take i xs) → n ≡ position_or_len (row_eq (get_or xs i [])) s
    → take i found ≡ numbers_of ks (take i xs) → take (i + 1) (set found i n) ≡ numbers_of ks (take (i + 1) xs)
part-step ks s xs found i n near here is at h =
    let x = get_or xs i [] in
    take_more_set found i n here ∙ ((λ j. h j ++ (at ∙ ap (position_or_len (row_eq x)) is) j ∷ []) ∙ sym (numbers-next ks xs i near))

pub part-more : (ks s xs : List Row) (i : ℕ) → i < length xs → s ≡ insert_all row_eq ks (take i xs) → insert_key row_eq s (get_or xs i []) ≡ insert_all row_eq ks (take (i + 1) xs)
part-more ks s xs i near is = ap (λ l. insert_key row_eq l (get_or xs i [])) is ∙ sym (all-next ks xs i near)

-- the first keys of a part of some numbers
front-keys : (ints : List ℤ) (a b n : ℕ) → n ≤ b - a → take n (map number_key (slice_range ints a b)) ≡ slice_range (map number_key ints) a (a + n)
front-keys ints a b n most =
    let count : a + n - a ≡ n = omega arith in
    take-map number_key n (slice_range ints a b)
    ∙ (ap (map number_key) (take-take n (b - a) (drop a ints) most)
    ∙ sym (ap (λ m. take m (drop a (map number_key ints))) count ∙ (ap (take n) (drop-map number_key a ints) ∙ take-map number_key n (drop a ints))))

-- the keys from one on to another
all-range : (ks keys : List Row) (a b : ℕ) → a ≤ b → b ≤ length keys → insert_all row_eq ks (take b keys) ≡ insert_all row_eq (insert_all row_eq ks (take a keys)) (slice_range keys a b)
all-range ks keys a b h l = ap (insert_all row_eq ks) (take-range keys a b h l) ∙ all-append ks (take a keys) (slice_range keys a b)

numbers-range : (ks keys : List Row) (a b : ℕ) → a ≤ b → b ≤ length keys
    → numbers_of ks (take b keys) ≡ numbers_of ks (take a keys) ++ numbers_of (insert_all row_eq ks (take a keys)) (slice_range keys a b)
numbers-range ks keys a b h l = ap (numbers_of ks) (take-range keys a b h l) ∙ numbers-append ks (take a keys) (slice_range keys a b)

-- a part of the keys more
pub next-keys : (ks s keys part : List Row) (from n : ℕ) → from + n ≤ length keys → s ≡ insert_all row_eq ks (take from keys) → part ≡ slice_range keys from (from + n)
    → insert_all row_eq s part ≡ insert_all row_eq ks (take (from + n) keys)
next-keys ks s keys part from n within is h = (λ j. insert_all row_eq (is j) (h j)) ∙ sym (all-range ks keys from (from + n) (omega arith) within)

pub next-numbers : (ks s keys part : List Row) (first all new : List ℕ) (from n : ℕ) → from + n ≤ length keys → s ≡ insert_all row_eq ks (take from keys) → part ≡ slice_range keys from (from + n)
    → all ≡ first ++ numbers_of ks (take from keys) → new ≡ numbers_of s part → all ++ new ≡ first ++ numbers_of ks (take (from + n) keys)
next-numbers ks s keys part first all new from n within is h before more =
    (λ j. before j ++ (more ∙ (λ i. numbers_of (is i) (h i))) j)
    ∙ (append_assoc first (numbers_of ks (take from keys)) (numbers_of (insert_all row_eq ks (take from keys)) (slice_range keys from (from + n)))
    ∙ ap (λ l. first ++ l) (sym (numbers-range ks keys from (from + n) (omega arith) within)))

-- keys of a block: those before `done`, then some that are known, and then some of those up to `end`
module _ (ks s : List Row) (ints : List ℤ) (done known taken end : ℕ) (order : done + known ≤ end) (fits : end ≤ length ints) (most : taken ≤ end - (done + known))
    (is : s ≡ insert_all row_eq ks (take done (map number_key ints))) (stays : insert_all row_eq s (take known (map number_key (slice_range ints done (length ints)))) ≡ s) where
  block-long : length (map number_key ints) ≡ length ints
  block-long = length-map ints number_key

  known-keys : take known (map number_key (slice_range ints done (length ints))) ≡ slice_range (map number_key ints) done (done + known)
  known-keys = front-keys ints done (length ints) known (omega (arith, order, fits))

  taken-keys : take taken (map number_key (slice_range ints (done + known) end)) ≡ slice_range (map number_key ints) (done + known) (done + known + taken)
  taken-keys = front-keys ints (done + known) end taken most

  -- the known ones add none
  with-known : s ≡ insert_all row_eq ks (take (done + known) (map number_key ints))
  with-known = sym stays ∙ next-keys ks s (map number_key ints) _ done known (omega (arith, block-long, order, fits)) is known-keys

  pub block-keys : insert_all row_eq s (take taken (map number_key (slice_range ints (done + known) end))) ≡ insert_all row_eq ks (take (done + known + taken) (map number_key ints))
  block-keys = next-keys ks s (map number_key ints) _ (done + known) taken (omega (arith, block-long, order, fits, most)) with-known taken-keys

  pub block-numbers : (before front part : List ℕ) → before ≡ numbers_of ks (take done (map number_key ints)) → front ≡ numbers_of s (take known (map number_key (slice_range ints done (length ints))))
      → part ≡ numbers_of s (take taken (map number_key (slice_range ints (done + known) end))) → (before ++ front) ++ part ≡ numbers_of ks (take (done + known + taken) (map number_key ints))
  block-numbers before front part h at more =
      next-numbers ks s (map number_key ints) _ [] (before ++ front) part (done + known) taken (omega (arith, block-long, order, fits, most)) with-known taken-keys
      (next-numbers ks s (map number_key ints) _ [] before front done known (omega (arith, block-long, order, fits)) is known-keys h at) more

-- what a block's places hold once two parts of them are written
filled-part : (xs ys rest : List ℕ) (a n : ℕ) → a ≤ length xs → n ≤ length ys → take (a + n) (take a xs ++ (ys ++ rest)) ≡ take a xs ++ take n ys
filled-part xs ys rest a n here long =
    ap (λ m. take (m + n) (take a xs ++ (ys ++ rest))) (sym (length-take-le a xs here))
    ∙ (take-append-add (take a xs) (ys ++ rest) n ∙ ap (λ l. take a xs ++ l) (take-append-le n ys rest long))

pub filled : (found front part more rest : List ℕ) (done known taken n : ℕ) → n ≡ done + known + taken → done ≤ length found → known ≤ length front → taken ≤ length part
    → take n (take (done + known) (take done found ++ (front ++ more)) ++ (part ++ rest)) ≡ (take done found ++ take known front) ++ take taken part
filled found front part more rest done known taken n all here near long =
    let room : done + known ≤ length (take done found ++ (front ++ more)) = omega (arith, length-append (take done found) (front ++ more), length-append front more, length-take-le done found here) in
    ap (λ m. take m (take (done + known) (take done found ++ (front ++ more)) ++ (part ++ rest))) all
    ∙ (filled-part (take done found ++ (front ++ more)) part rest (done + known) taken room long ∙ ap (λ l. l ++ take taken part) (filled-part found front more done known here near))

-- a block of numbers that was read from a column
pub read-block : (column : List Row) (read rest : List ℤ) (from n m : ℕ) → m ≡ n → length read ≡ m → map number_key read ≡ slice_range column from (from + m)
    → map number_key (take n (read ++ rest)) ≡ slice_range column from (from + n)
read-block column read rest from n m same long h = ap (map number_key) (take_at read rest n (long ∙ same)) ∙ (h ∙ ap (λ k. slice_range column from (from + k)) same)

-- the first of such a block
pub read-first : (column : List Row) (read rest : List ℤ) (from n m k : ℕ) → m ≡ n → length read ≡ m → map number_key read ≡ slice_range column from (from + m) → k ≤ n
    → take k (map number_key (take n (read ++ rest))) ≡ slice_range column from (from + k)
read-first column read rest from n m k same long h most =
    let whole : from + n - from ≡ n = omega arith in
    let count : k ≡ from + k - from = omega arith in
    ap (take k) (read-block column read rest from n m same long h)
    ∙ (take-take k (from + n - from) (drop from column) (omega (arith, whole, most)) ∙ ap (λ j. take j (drop from column)) count)
