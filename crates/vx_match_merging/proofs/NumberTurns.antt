-- A merge by numbers: a right row is passed, or a left row is joined with its run.
use Rattle.std.proofs.Common.{◌≡◌, ℕ, ℤ, pos, suc, ◌+◌, ◌-◌, ◌*◌, ◌<◌, ◌≤◌, Bool, true, false, cond, List, [], ◌∷◌, ◌++◌, length, take, drop, get_or, map, slice_range, refl, sym, ap, ◌∙◌, subst, arith, append_assoc, is_lt, is_gt, Ordering, Less, Equal, Greater}
use Rattle.std.specs.Ordering.{ordering_then}
use Rattle.std.proofs.lemmas.List.{take_more, take-append-drop, length-map, length-take-le, get_or-map, get_or-take}
use Rattle.std.proofs.Math.Nat.{suc-mul}
use Rattle.vx_rows_values.specs.declared.order.OrderEntry.{OrderEntry}
use Rattle.vx_rows_values.specs.Values.{Row, num, pick}
use Rattle.vx_rows_values.specs.Order.{compare_values, sorted}
use Rattle.vx_rows.specs.View.{row}
use Rattle.vx_rows_views.proofs.Facts.{get_or-slice}
use Rattle.vx_match_keys.specs.Columns.{number_key}
use Rattle.vx_match_merging.specs.Keys.{directions, key_of, key_cmp}
use Rattle.vx_match_merging.specs.Merged.{MergeView, HasMerged, state_at, last_key, joined_rows, IsMerged, HoldsRun, run_rows, rows_at}
use Rattle.vx_match_merging.specs.Numbers.{AreKeysFrom, HasNumbers}
use Rattle.vx_match_merging.specs.declared.numbers.MergePlace.{MergePlace}
use Rattle.vx_match_merging.proofs.RiseFacts.{rise-front, last-push}
use Rattle.vx_match_merging.proofs.MergeFacts.{right-next}
use Rattle.vx_match_merging.proofs.MergeTurns.{next-merged, run-moved, run-closed}
use Rattle.vx_match_merging.proofs.MergeCalls.{call-advanced}

then-equal : (o : Ordering) → ordering_then o Equal ≡ o
then-equal Less = refl
then-equal Equal = refl
then-equal Greater = refl

-- keys of one number each compare as the numbers do
numbers-compare : (falling : Bool) (x y : ℤ) → key_cmp (falling ∷ []) (number_key x) (number_key y) ≡ compare_values falling (num x) (num y)
numbers-compare falling x y = then-equal (compare_values falling (num x) (num y))

-- a right row that compares so with the next left row
module _ (t : MergeView) (earlier passed ys : List Row) (h : IsMerged t earlier passed ys) (near : t.next < length t.left.rows) (there : t.end < length t.right.rows) (o : Ordering)
    (is : o ≡ key_cmp (directions t.lefts) (key_of t.lefts (row t.left t.next)) (key_of t.rights (row t.right t.end))) where
  -- it is not above it
  pub right-passed : is_lt o ≡ false → (start : ℕ) → start ≡ cond (is_gt o) (t.end + 1) t.start → IsMerged (record t { start = start; end = t.end + 1 }) earlier passed ys
  right-passed below start at =
      let ws = t.right.rows in
      let ls = joined_rows t earlier ++ row t.left t.next ∷ [] in
      let y = row t.right t.end in
      let key : last_key t.lefts ls ≡ key_of t.lefts (row t.left t.next) = last-push t.lefts (joined_rows t earlier) (row t.left t.next) in
      let order : o ≡ key_cmp (directions t.lefts) (last_key t.lefts ls) (key_of t.rights y) = is ∙ ap (λ k. key_cmp (directions t.lefts) k (key_of t.rights y)) (sym key) in
      let more : take (t.end + 1) ws ≡ take t.end ws ++ y ∷ [] = take_more ws t.end [] there in
      let whole : (passed ++ take t.end ws) ++ y ∷ [] ≡ passed ++ take (t.end + 1) ws = append_assoc passed (take t.end ws) (y ∷ []) ∙ ap (λ xs. passed ++ xs) (sym more) in
      let all : (passed ++ take (t.end + 1) ws) ++ drop (t.end + 1) ws ≡ passed ++ ws =
      append_assoc passed (take (t.end + 1) ws) (drop (t.end + 1) ws) ∙ ap (λ xs. passed ++ xs) (take-append-drop (t.end + 1) ws) in
      let front : sorted t.rights ((passed ++ take t.end ws) ++ y ∷ []) ≡ true =
      ap (sorted t.rights) whole ∙ rise-front t.rights (passed ++ take (t.end + 1) ws) (drop (t.end + 1) ws) (ap (sorted t.rights) all ∙ h.rises) in
      run-moved t earlier passed ys h near start (t.end + 1)
      (subst (HasMerged (state_at t.lefts t.rights ls passed start (t.end + 1)) ls) whole
      (right-next t.lefts t.rights ls passed (passed ++ take t.end ws) t.start t.end (next-merged t earlier passed ys h near) y o start order below at front))

  -- it is above it, and so the run is closed
  pub left-joined : o ≡ Less → t.next + 1 < length t.left.rows → sorted t.lefts t.left.rows ≡ true
      → (p : Ordering) → p ≡ key_cmp (directions t.lefts) (key_of t.lefts (row t.left t.next)) (key_of t.lefts (row t.left (t.next + 1)))
      → (start : ℕ) → start ≡ cond (is_lt p) t.end t.start → IsMerged (record t { next = t.next + 1; start = start }) earlier passed (ys ++ run_rows t)
  left-joined less more rises p step start at =
      let run : HoldsRun t passed = run-closed t earlier passed ys h near t.start t.end (next-merged t earlier passed ys h near) (λ _. sym is ∙ less) (λ past. absurd (omega (arith, past, there))) in
      call-advanced t t refl earlier passed ys h near more t.lefts t.lefts refl refl p step rises run start at

-- the same at numbers that were read from a place on
module _ (s : MergeView) (earlier passed : List Row) (from : MergePlace) (falling : Bool) (lefts rights : List ℤ) (h : HasNumbers s from falling lefts rights) where
  abbrev pub Stands : ℕ → ℕ → ℕ → List Row → Type 0
  Stands i start j ys = IsMerged (record s { next = from.next + i; start = start; end = from.end + j }) earlier passed ys

  keys-compare : (i j : ℕ) → i < length lefts → j < length rights → (o : Ordering) → o ≡ compare_values falling (num (get_or lefts i (pos 0))) (num (get_or rights j (pos 0)))
      → o ≡ key_cmp (directions s.lefts) (key_of s.lefts (row s.left (from.next + i))) (key_of s.rights (row s.right (from.end + j)))
  keys-compare i j near there o is =
      is ∙ (sym (numbers-compare falling (get_or lefts i (pos 0)) (get_or rights j (pos 0))) ∙ sym (λ k. key_cmp (h.one k) (h.left i near k) (h.right j there k)))

  -- a right number is not above the left one
  pub number-passed : (i start j : ℕ) (ys : List Row) → Stands i start j ys → j < length rights → (o : Ordering) → o ≡ compare_values falling (num (get_or lefts i (pos 0))) (num (get_or rights j (pos 0)))
      → i < length lefts → is_lt o ≡ false → (to : ℕ) → to ≡ cond (is_gt o) (from.end + (j + 1)) start → Stands i to (j + 1) ys
  number-passed i start j ys m there o is near below to at =
      let t = record s { next = from.next + i; start = start; end = from.end + j } in
      let one : (from.end + j) + 1 ≡ from.end + (j + 1) = omega arith in
      let left = h.left_within in
      let right = h.right_within in
      subst (λ (n : ℕ). IsMerged (record s { next = from.next + i; start = to; end = n }) earlier passed ys) one
      (right-passed t earlier passed ys m (omega (arith, near, left)) (omega (arith, there, right)) o (keys-compare i j near there o is) below to (at ∙ ap (λ n. cond (is_gt o) n start) (sym one)))

  -- it is, and the next left number compares so with this one
  pub number-joined : (i start j : ℕ) (ys : List Row) (ls rs ls' rs' : List ℕ)
      → rows_at s.left s.right ls' rs' ≡ rows_at s.left s.right ls rs ++ map (λ r. row s.left (from.next + i) ++ r) (slice_range s.right.rows start (from.end + j))
      → Stands i start j (ys ++ rows_at s.left s.right ls rs) → j < length rights → (o : Ordering) → o ≡ compare_values falling (num (get_or lefts i (pos 0))) (num (get_or rights j (pos 0)))
      → i + 1 < length lefts → o ≡ Less → (p : Ordering) → p ≡ compare_values falling (num (get_or lefts i (pos 0))) (num (get_or lefts (i + 1) (pos 0)))
      → (to : ℕ) → to ≡ cond (is_lt p) (from.end + j) start → Stands (i + 1) to j (ys ++ rows_at s.left s.right ls' rs')
  number-joined i start j ys ls rs ls' rs' pairs m there o is near less p step to at =
      let t = record s { next = from.next + i; start = start; end = from.end + j } in
      let one : (from.next + i) + 1 ≡ from.next + (i + 1) = omega arith in
      let left = h.left_within in
      let right = h.right_within in
      let first : i < length lefts = omega (arith, near) in
      let order : p ≡ key_cmp (directions s.lefts) (key_of s.lefts (row s.left (from.next + i))) (key_of s.lefts (row s.left ((from.next + i) + 1))) =
      step
      ∙ (sym (numbers-compare falling (get_or lefts i (pos 0)) (get_or lefts (i + 1) (pos 0)))
      ∙ (sym (λ k. key_cmp (h.one k) (h.left i first k) (h.left (i + 1) near k))
      ∙ ap (λ n. key_cmp (directions s.lefts) (key_of s.lefts (row s.left (from.next + i))) (key_of s.lefts (row s.left n))) (sym one))) in
      let behind : IsMerged (record t { next = t.next + 1; start = to }) earlier passed ((ys ++ rows_at s.left s.right ls rs) ++ run_rows t) =
      left-joined t earlier passed (ys ++ rows_at s.left s.right ls rs) m (omega (arith, first, left)) (omega (arith, there, right)) o (keys-compare i j first there o is) less (omega (arith, near, left)) h.rises p order to at in
      subst (λ (n : ℕ). IsMerged (record s { next = n; start = to; end = from.end + j }) earlier passed (ys ++ rows_at s.left s.right ls' rs')) one
      (subst (IsMerged (record t { next = t.next + 1; start = to }) earlier passed) (append_assoc ys (rows_at s.left s.right ls rs) (run_rows t) ∙ ap (λ xs. ys ++ xs) (sym pairs)) behind)

-- an order of one entry
one-entry : (order : List OrderEntry) (d : OrderEntry) → length order ≡ 1 → order ≡ get_or order 0 d ∷ []
one-entry [] d one = absurd (omega (arith, one))
one-entry (x ∷ []) d one = refl
one-entry (x ∷ y ∷ ys) d one = absurd (omega (arith, one))

-- the keys of the rows of a chunk are those of rows that are the same from a row on, and these are numbers that were read from there on
pub read-key : (order : List OrderEntry) (rows part : List Row) (from place : ℕ) → ((k : ℕ) → place + k < length part → get_or rows (from + k) [] ≡ get_or part (place + k) [])
    → (d : OrderEntry) → length order ≡ 1 → (keys : List Row) → keys ≡ map (pick ((get_or order 0 d).column ∷ [])) part
    → (numbers : List ℤ) (n : ℕ) → n ≤ length numbers → place + n ≤ length keys → map number_key (take n numbers) ≡ slice_range keys place (place + n)
    → (k : ℕ) → k < n → key_of order (get_or rows (from + k) []) ≡ number_key (get_or numbers k (pos 0))
read-key order rows part from place alike d one keys columns numbers n room within read k small =
    let long : length keys ≡ length part = ap length columns ∙ length-map part (pick ((get_or order 0 d).column ∷ [])) in
    let there : place + k < length part = omega (arith, within, long, small) in
    let count : k < (place + n) - place = omega (arith, small) in
    let taken = length-take-le n numbers room in
    (λ j. key_of (one-entry order d one j) (alike k there j))
    ∙ (sym (ap (λ ks. get_or ks (place + k) []) columns ∙ get_or-map (pick ((get_or order 0 d).column ∷ [])) part (place + k) [] [] there)
    ∙ (sym (ap (λ ks. get_or ks k []) read ∙ get_or-slice keys place (place + n) k [] count)
    ∙ (get_or-map number_key (take n numbers) k (pos 0) [] (omega (arith, taken, small)) ∙ ap number_key (get_or-take n numbers k (pos 0) small))))

-- a left row was passed, which made as many pairs as its run has rows
pub pairs-added : (l r next i a start end most more : ℕ) → next + i < l → end ≤ r → more ≡ a + (end - start) → (l - (next + i)) * r + a ≤ (l - next) * r + most
    → (l - (next + (i + 1))) * r + more ≤ (l - next) * r + most
pairs-added l r next i a start end most more near few is h =
    let left = l - (next + (i + 1)) in
    let up : l - (next + i) ≡ suc left = omega (arith, near) in
    let split : (l - (next + i)) * r ≡ left * r + r = ap (λ n. n * r) up ∙ suc-mul left r in
    omega (arith, split, few, is, h)

-- numbers that were read
keys-taken : (a b : List OrderEntry) → a ≡ b → (rows : List Row) (from n : ℕ) (numbers : List ℤ) → n ≤ length numbers → AreKeysFrom a rows from numbers n → AreKeysFrom b rows from (take n numbers) (length (take n numbers))
keys-taken a b e rows from n numbers room h k near =
    let long = length-take-le n numbers room in
    let small : k < n = omega (arith, near, long) in
    ap (λ by. key_of by (get_or rows (from + k) [])) (sym e) ∙ (h k small ∙ ap number_key (sym (get_or-take n numbers k (pos 0) small)))

pub has-numbers : (s : MergeView) (from : MergePlace) (falling : Bool) (lefts rights : List OrderEntry) → lefts ≡ s.lefts → rights ≡ s.rights → length s.lefts ≡ 1 → (d : OrderEntry) → falling ≡ (get_or s.lefts 0 d).falling
    → sorted s.lefts s.left.rows ≡ true → (n m : ℕ) (xs ys : List ℤ) → n ≤ length xs → m ≤ length ys → from.next + n ≤ length s.left.rows → from.end + m ≤ length s.right.rows
    → AreKeysFrom lefts s.left.rows from.next xs n → AreKeysFrom rights s.right.rows from.end ys m → HasNumbers s from falling (take n xs) (take m ys)
has-numbers s from falling lefts rights a b one d is rises n m xs ys some few within there left right =
    let long = length-take-le n xs some in
    let wide = length-take-le m ys few in
    record {
      one = ap directions (one-entry s.lefts d one) ∙ ap (λ f. f ∷ []) (sym is);
      rises = rises;
      left_within = omega (arith, long, within);
      right_within = omega (arith, wide, there);
      left = keys-taken lefts s.lefts a s.left.rows from.next n xs some left;
      right = keys-taken rights s.rights b s.right.rows from.end m ys few right;
    }

-- a merge that goes on, as it is seen
pub call-numbered : (s now : MergeView) → s ≡ now → (earlier passed ys : List Row) (ls rs ls' rs' : List ℕ) (next start end : ℕ) → IsMerged now earlier passed (ys ++ rows_at now.left now.right ls rs)
    → (IsMerged s earlier passed (ys ++ rows_at s.left s.right ls rs) → IsMerged (record s { next = next; start = start; end = end }) earlier passed (ys ++ rows_at s.left s.right ls' rs'))
    → IsMerged (record s { next = next; start = start; end = end }) earlier passed (ys ++ rows_at now.left now.right ls' rs')
call-numbered s now e earlier passed ys ls rs ls' rs' next start end h goes =
    subst (λ (m : MergeView). IsMerged (record s { next = next; start = start; end = end }) earlier passed (ys ++ rows_at m.left m.right ls' rs')) e
    (goes (subst (λ (m : MergeView). IsMerged m earlier passed (ys ++ rows_at m.left m.right ls rs)) (sym e) h))
