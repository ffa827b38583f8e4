-- Keys that are found by hashes first, and compared once all of a block were found.
use Rattle.std.proofs.Common.{◌≡◌, ℕ, ◌+◌, ◌<◌, ◌≤◌, suc, zero, not, cond, false, List, [], ◌∷◌, ◌++◌, map, take, length, get_or, set, replicate, pos, sym, ap, ◌∙◌, subst, arith}
use borrow.Author.Count.{below_more}
use Rattle.std.specs.List.{slice_range, IsDistinct, position_or_len}
use Rattle.std.proofs.lemmas.List.{take_more, take_more_same, take_more_set, take_all, get_or-map, get_or-take, get_or-replicate, get_or-set_other, get_or-set_same, get_or_append_left, take-set, length-map, length-take-le, length-replicate}
use Rattle.std.proofs.lemmas.Map.Keys.{IsDistinct-tail, apart_from_distinct}
use Rattle.indexmap.specs.IndexSet.{insert_key, insert_all}
use Rattle.vx_rows_values.specs.Values.{Row, num, row_eq, value_at, pick}
use Rattle.vx_rows_views.proofs.Facts.{length-slice, get_or-slice}
use Rattle.vx_match_keys.specs.Numbers.{numbers_of}
use Rattle.vx_match_keys.proofs.KeyFacts.{row_eq-refl, eq-swap}
use Rattle.vx_match_keys.proofs.NumberFacts.{all-next, numbers-next, key-new, key-known}

-- one of the first of many that are all the same
pub same-taken : {X : Type 0} (n m k : ℕ) (x d : X) → k < n → k < m → get_or (take n (replicate m x)) k d ≡ x
same-taken n m k x d near far = get_or-take n (replicate m x) k d near ∙ get_or-replicate m k x d far

pub taken-long : {X : Type 0} (n m : ℕ) (x : X) → n ≤ m → length (take n (replicate m x)) ≡ n
taken-long n m x h = length-take-le n (replicate m x) (omega (arith, length-replicate m x, h))

-- one value more of a key is that of a row
pub value-next : (key : Row) (cols : List ℕ) (rows : List Row) (i j : ℕ) → j < length key → j < length cols → i < length rows → take j key ≡ take j (pick cols (get_or rows i []))
    → value_at key j ∷ [] ≡ get_or (map (pick (get_or cols j 0 ∷ [])) rows) i [] → take (j + 1) key ≡ take (j + 1) (pick cols (get_or rows i []))
value-next key cols rows i j inside near here h e =
    let r = get_or rows i [] in
    let long = length-map cols (value_at r) in
    let one : value_at key j ∷ [] ≡ value_at r (get_or cols j 0) ∷ [] = e ∙ get_or-map (pick (get_or cols j 0 ∷ [])) rows i [] [] here in
    take_more_same key (pick cols r) j (num (pos 0)) inside (omega (arith, near, long)) h
    (ap (λ v. value_at v 0) one ∙ sym (get_or-map (value_at r) cols j 0 (num (pos 0)) near))

-- what holds of one number more, where it is written first
pub set-next : (P : ℕ → Type 0) (xs : List ℕ) (i n : ℕ) → i < length xs → P n → ((k : ℕ) → k < i → P (get_or xs k 0)) → (k : ℕ) → k < i + 1 → P (get_or (set xs i n) k 0)
set-next P xs i n near here below =
    below_more (λ k. P (get_or (set xs i n) k 0)) i
    (λ k l. subst P (sym (get_or-set_other xs i k n 0 (λ e. omega (arith, e, l)))) (below k l))
    (subst P (sym (get_or-set_same xs i n 0 near)) here)

-- where a key stands among keys that are apart
pub place-of : (s : List Row) (n : ℕ) (x : Row) → IsDistinct row_eq s → n < length s → get_or s n [] ≡ x → n ≡ position_or_len (row_eq x) s
place-of [] n x d near e = absurd (omega (arith, near))
place-of (y ∷ ys) zero x d near e = sym (ap (λ b. cond (not b) (1 + position_or_len (row_eq x) ys) 0) (ap (row_eq x) e ∙ row_eq-refl x))
place-of (y ∷ ys) (suc m) x d near e =
    let apart : row_eq y (get_or ys m []) ≡ false = apart_from_distinct row_eq (y ∷ ys) 0 (suc m) [] d (omega arith) near in
    let far : row_eq x y ≡ false = eq-swap x y ∙ (ap (row_eq y) (sym e) ∙ apart) in
    let rest = place-of ys m x (IsDistinct-tail row_eq y ys d) (omega (arith, near)) e in
    let on : suc m ≡ 1 + position_or_len (row_eq x) ys = omega (arith, rest) in
    on ∙ sym (ap (λ b. cond (not b) (1 + position_or_len (row_eq x) ys) 0) far)

-- where the keys s have at the first i of these places the first i rows, they are what these rows make of the keys ks, and the places are the rows' numbers
abbrev pub IsRight : List Row → List Row → List ℕ → ℕ → List Row → Type 0
IsRight ks s places i xs =
    ((k : ℕ) → k < i → get_or s (get_or places k 0) [] ≡ get_or xs k [])
    → (take i places ≡ numbers_of ks (take i xs)) × (s ≡ insert_all row_eq ks (take i xs))

-- one place more, of a key that is there
pub known-right : (ks s xs : List Row) (places : List ℕ) (i : ℕ) → i < length xs → i < length places → IsDistinct row_eq s → get_or places i 0 < length s
    → IsRight ks s places i xs → IsRight ks s places (i + 1) xs
known-right ks s xs places i near here distinct inside right all =
    let x = get_or xs i [] in
    let n = get_or places i 0 in
    let before = right (λ k l. all k (omega (arith, l))) in
    let at : n ≡ position_or_len (row_eq x) s = place-of s n x distinct inside (all i (omega arith)) in (
      take_more places i 0 here
          ∙ ((λ j. before.0 j ++ (at ∙ ap (position_or_len (row_eq x)) before.1) j ∷ [])
          ∙ sym (numbers-next ks xs i near)),
      sym (key-known s x (omega (arith, inside, at))) ∙ (ap (λ l. insert_key row_eq l x) before.1 ∙ sym (all-next ks xs i near)),
    )

-- the same where that place is written first
pub set-right : (ks s xs : List Row) (places : List ℕ) (i n : ℕ) → i < length places → IsRight ks s places i xs → IsRight ks s (set places i n) i xs
set-right ks s xs places i n here right all =
    let before = right (λ k l. ap (λ p. get_or s p []) (sym (get_or-set_other places i k n 0 (λ e. omega (arith, e, l)))) ∙ all k l) in
    (take-set places i n ∙ before.0, before.1)

-- one place more, of a key that is new
pub new-right : (ks s xs : List Row) (places : List ℕ) (i n : ℕ) → i < length xs → i < length places → ((k : ℕ) → k < i → get_or places k 0 < length s)
    → n ≡ length s → length s ≡ position_or_len (row_eq (get_or xs i [])) s → IsRight ks s places i xs → IsRight ks (s ++ get_or xs i [] ∷ []) (set places i n) (i + 1) xs
new-right ks s xs places i n near here inside last new right all =
    let x = get_or xs i [] in
    let before = right (λ k l.
    sym (get_or_append_left s (x ∷ []) [] (get_or places k 0) (inside k l))
    ∙ (ap (λ p. get_or (s ++ x ∷ []) p []) (sym (get_or-set_other places i k n 0 (λ e. omega (arith, e, l)))) ∙ all k (omega (arith, l)))) in (
      take_more_set places i n here
          ∙ ((λ j. before.0 j ++ (last ∙ (new ∙ ap (position_or_len (row_eq x)) before.1)) j ∷ [])
          ∙ sym (numbers-next ks xs i near)),
      sym (key-new s x (omega (arith, new))) ∙ (ap (λ l. insert_key row_eq l x) before.1 ∙ sym (all-next ks xs i near)),
    )

-- the keys that n rows have from one on
abbrev pub block-keys : List ℕ → List Row → ℕ → ℕ → List Row
block-keys cols rows from n = slice_range (map (pick cols) rows) from (from + n)

pub block-long : (cols : List ℕ) (rows : List Row) (from n : ℕ) → from + n ≤ length rows → length (block-keys cols rows from n) ≡ n
block-long cols rows from n within =
    let long = length-map rows (pick cols) in
    let part = length-slice (map (pick cols) rows) from (from + n) (omega arith) (omega (arith, long, within)) in
    omega (arith, part)

pub block-key : (cols : List ℕ) (rows : List Row) (from n i : ℕ) → from + n ≤ length rows → i < n → get_or (block-keys cols rows from n) i [] ≡ pick cols (get_or rows (from + i) [])
block-key cols rows from n i within near =
    get_or-slice (map (pick cols) rows) from (from + n) i [] (omega (arith, near)) ∙ get_or-map (pick cols) rows (from + i) [] [] (omega (arith, within, near))

-- keys that were compared with all rows of a block have the rows' numbers
pub block-right : (ks s : List Row) (cols : List ℕ) (rows : List Row) (places : List ℕ) (from n i : ℕ) → from + n ≤ length rows → length places ≡ n → i ≡ n
    → ((k : ℕ) → k < length places → get_or s (get_or places k 0) [] ≡ pick cols (get_or rows (from + k) [])) → IsRight ks s places i (block-keys cols rows from n)
    → (places ≡ numbers_of ks (block-keys cols rows from n)) × (s ≡ insert_all row_eq ks (block-keys cols rows from n))
block-right ks s cols rows places from n i within long all same right =
    let xs = block-keys cols rows from n in
    let whole = block-long cols rows from n within in
    let found = right (λ k l. same k (omega (arith, l, all, long)) ∙ sym (block-key cols rows from n k within (omega (arith, l, all)))) in (
      sym (take_all i places (omega (arith, all, long))) ∙ (found.0 ∙ ap (numbers_of ks) (take_all i xs (omega (arith, all, whole)))),
      found.1 ∙ ap (insert_all row_eq ks) (take_all i xs (omega (arith, all, whole))),
    )
