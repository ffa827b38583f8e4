-- A merge when one more left or right row is taken, and what its run holds.
use Rattle.std.proofs.Common.{◌≡◌, ℕ, suc, ◌+◌, ◌-◌, ◌<◌, ◌≤◌, Bool, true, false, cond, ◌&&◌, List, [], ◌∷◌, ◌++◌, length, take, drop, filter, get_or, slice_range, nat_lt, refl, subst, sym, ap, ◌∙◌, arith, true≢false, drop-cons, inl, inr, append_assoc, append-nil, is_le, is_lt, is_eq, is_gt, Ordering, Less, Equal, Greater}
use Rattle.std.specs.List.{list_all}
use Rattle.std.specs.Ordering.{is_ge, ordering_reverse}
use Rattle.std.proofs.lemmas.Bool.{cases_lt}
use Rattle.std.proofs.lemmas.Bool.Decides.{nat_tests}
use Rattle.std.proofs.Math.Seq.{drop-append-add, take-append-add}
use Rattle.std.proofs.lemmas.List.{length-append, take-append-drop, drop_all}
use Rattle.std.proofs.lemmas.List.Elements.{filter-append}
use Rattle.vx_rows_values.specs.declared.order.OrderEntry.{OrderEntry}
use Rattle.vx_rows_values.specs.Values.{Row, row_eq}
use Rattle.vx_rows_values.specs.Order.{order_columns, compare_on, sorted}
use Rattle.vx_rows_values.proofs.Booleans.{and-left, and-right, and-both}
use Rattle.vx_plan_nodes.specs.Serial.{of_key}
use Rattle.vx_match_merging.specs.Keys.{directions, key_of, key_cmp}
use Rattle.vx_match_merging.specs.Merged.{MergeState, last_key, HasMerged, HoldsKey, state_at}
use Rattle.vx_match_merging.proofs.KeyOrder.{key_cmp_total, key_eq, key-same, none-below, rows-keys}
use Rattle.vx_match_merging.proofs.RiseFacts.{all-join, all-weaken, rise-back, rise-push, rise-next, rise-under, last-all, last-push}

-- a key above one that c is not above is above c
above-more : (falls : List Bool) (a b c : Row) → key_cmp falls a b ≡ Less → is_ge (key_cmp falls a c) ≡ true → is_gt (key_cmp falls b c) ≡ true
above-more falls a b c h k = step (key_cmp falls b c) refl
  where
    step : (o : Ordering) → key_cmp falls b c ≡ o → is_gt o ≡ true
    step Less e = absurd (true≢false (sym k ∙ ap is_ge ((key_cmp_total falls).trans a b c h e)))
    step Equal e = absurd (true≢false (sym k ∙ ap is_ge (sym (ap (key_cmp falls a) (key-same falls b c e)) ∙ h)))
    step Greater e = refl

-- a key above y is above what y is not below
above-under : (falls : List Bool) (k r y : Row) → key_cmp falls k y ≡ Greater → is_le (key_cmp falls r y) ≡ true → is_gt (key_cmp falls k r) ≡ true
above-under falls k r y h l = step (key_cmp falls k r) refl
  where
    down : key_cmp falls y k ≡ Less
    down = (key_cmp_total falls).antisymm y k ∙ ap ordering_reverse h

    step : (o : Ordering) → key_cmp falls k r ≡ o → is_gt o ≡ true
    step Less e = absurd (true≢false (sym l ∙ ap is_le ((key_cmp_total falls).antisymm r y ∙ ap ordering_reverse ((key_cmp_total falls).trans y k r down e))))
    step Equal e = absurd (true≢false (sym l ∙ ap is_le (sym (ap (λ x. key_cmp falls x y) (key-same falls k r e)) ∙ h)))
    step Greater e = refl

-- a key below h is not that of what h is not above
apart-above : (falls : List Bool) (k h t : Row) → key_cmp falls k h ≡ Less → is_le (key_cmp falls h t) ≡ true → row_eq k t ≡ false
apart-above falls k h t a l = step (key_cmp falls h t) refl l
  where
    step : (o : Ordering) → key_cmp falls h t ≡ o → is_le o ≡ true → row_eq k t ≡ false
    step Less e m = sym (key_eq falls k t) ∙ ap is_eq ((key_cmp_total falls).trans k h t a e)
    step Equal e m = sym (key_eq falls k t) ∙ ap is_eq (sym (ap (key_cmp falls k) (key-same falls h t e)) ∙ a)
    step Greater e m = absurd (true≢false (sym m))

gt-ge : (o : Ordering) → is_gt o ≡ true → is_ge o ≡ true
gt-ge Less h = h
gt-ge Equal h = refl
gt-ge Greater h = refl

eq-ge : (o : Ordering) → is_eq o ≡ true → is_ge o ≡ true
eq-ge Less h = h
eq-ge Equal h = refl
eq-ge Greater h = refl

gt-apart : (o : Ordering) → is_gt o ≡ true → is_eq o ≡ false
gt-apart Less h = refl
gt-apart Equal h = absurd (true≢false (sym h))
gt-apart Greater h = refl

ge-back : (o p : Ordering) → o ≡ ordering_reverse p → is_ge p ≡ true → is_le o ≡ true
ge-back o Less e h = absurd (true≢false (sym h))
ge-back o Equal e h = ap is_le e
ge-back o Greater e h = ap is_le e

module _ (m : MergeState) (ls rs : List Row) (h : HasMerged m ls rs) where
  abbrev pub falls : List Bool
  falls = directions m.lefts

  -- right rows compare in the same directions
  right-falls-alike : (a b : Row) → is_le (key_cmp falls a b) ≡ is_le (key_cmp (directions m.rights) a b)
  right-falls-alike a b = ap (λ f. is_le (key_cmp f a b)) h.alike

  -- no right row that was taken is above the key
  under : list_all (λ r. is_ge (key_cmp falls m.key (key_of m.rights r))) rs ≡ true
  under =
      let p = λ (r : Row). is_ge (key_cmp falls m.key (key_of m.rights r)) in
      ap (list_all p) h.parts
      ∙ all-join p h.before h.run
      (all-weaken (λ r. is_gt (key_cmp falls m.key (key_of m.rights r))) p (λ r e. gt-ge _ e) h.before h.below)
      (all-weaken (λ r. row_eq m.key (key_of m.rights r)) p (λ r e. eq-ge _ (key_eq falls m.key (key_of m.rights r) ∙ e)) h.run h.equal)

  -- nor is the last one
  under-last : is_le (key_cmp falls (last_key m.rights rs) m.key) ≡ true
  under-last = step rs under
    where
      step : (xs : List Row) → list_all (λ r. is_ge (key_cmp falls m.key (key_of m.rights r))) xs ≡ true → is_le (key_cmp falls (last_key m.rights xs) m.key) ≡ true
      step [] e = none-below falls m.key
      step (x ∷ xs) e =
          last-all m.rights (λ k. is_le (key_cmp falls k m.key)) x xs
          (all-weaken (λ r. is_ge (key_cmp falls m.key (key_of m.rights r))) (λ r. is_le (key_cmp falls (key_of m.rights r) m.key)) (λ r g. ge-back _ _ ((key_cmp_total falls).antisymm (key_of m.rights r) m.key) g) (x ∷ xs) e)

  -- a left row of the same key
  pub left-same : (y : Row) → key_cmp falls m.key (key_of m.lefts y) ≡ Equal → HasMerged m (ls ++ y ∷ []) rs
  left-same y e =
      let same : m.key ≡ key_of m.lefts y = key-same falls m.key (key_of m.lefts y) e in
      let last : is_le (key_cmp falls (last_key m.lefts ls) (key_of m.lefts y)) ≡ true = ap (λ k. is_le (key_cmp falls k (key_of m.lefts y))) (sym h.key_is) ∙ ap is_le e in
      record {
        before = h.before;
        run = h.run;
        alike = h.alike;
        left_rises = rise-push m.lefts ls y h.left_rises last;
        right_rises = h.right_rises;
        key_is = same ∙ sym (last-push m.lefts ls y);
        parts = h.parts;
        start_is = h.start_is;
        end_is = h.end_is;
        below = h.below;
        equal = h.equal;
      }

  -- a left row of a key above: no right row that was taken has it
  pub left-above : (y key : Row) → key_cmp falls m.key (key_of m.lefts y) ≡ Less → key ≡ key_of m.lefts y
      → HasMerged (record { lefts = m.lefts; rights = m.rights; key = key; start = m.end; end = m.end }) (ls ++ y ∷ []) rs
  left-above y key e k =
      let last : is_le (key_cmp falls (last_key m.lefts ls) (key_of m.lefts y)) ≡ true = ap (λ k. is_le (key_cmp falls k (key_of m.lefts y))) (sym h.key_is) ∙ ap is_le e in
      record {
        before = rs;
        run = [];
        alike = h.alike;
        left_rises = rise-push m.lefts ls y h.left_rises last;
        right_rises = h.right_rises;
        key_is = k ∙ sym (last-push m.lefts ls y);
        parts = sym (append-nil rs);
        start_is = h.end_is;
        end_is = h.end_is;
        below = all-weaken (λ r. is_ge (key_cmp falls m.key (key_of m.rights r))) (λ r. is_gt (key_cmp falls key (key_of m.rights r)))
            (λ r g. above-more falls m.key key (key_of m.rights r) (ap (key_cmp falls m.key) k ∙ e) g) rs under;
        equal = refl;
      }

  -- a right row that has the key
  pub right-equal : (y : Row) → key_cmp falls m.key (key_of m.rights y) ≡ Equal
      → HasMerged (record { lefts = m.lefts; rights = m.rights; key = m.key; start = m.start; end = m.end + 1 }) ls (rs ++ y ∷ [])
  right-equal y e =
      let same : m.key ≡ key_of m.rights y = key-same falls m.key (key_of m.rights y) e in
      let is = h.end_is in
      record {
        before = h.before;
        run = h.run ++ y ∷ [];
        alike = h.alike;
        left_rises = h.left_rises;
        right_rises = rise-push m.rights rs y h.right_rises (sym (right-falls-alike (last_key m.rights rs) (key_of m.rights y)) ∙ (ap (λ k. is_le (key_cmp falls (last_key m.rights rs) k)) (sym same) ∙ under-last));
        key_is = h.key_is;
        parts = ap (λ l. l ++ y ∷ []) h.parts ∙ append_assoc h.before h.run (y ∷ []);
        start_is = h.start_is;
        end_is = ap (λ n. n + 1) is ∙ sym (length-append rs (y ∷ []));
        below = h.below;
        equal = all-join (λ r. row_eq m.key (key_of m.rights r)) h.run (y ∷ []) h.equal (and-both (row_eq m.key (key_of m.rights y)) true (sym (key_eq falls m.key (key_of m.rights y)) ∙ ap is_eq e) refl);
      }

  -- a right row below the key, where they rise with it
  pub right-below : (y : Row) (start : ℕ) → key_cmp falls m.key (key_of m.rights y) ≡ Greater → sorted m.rights (rs ++ y ∷ []) ≡ true → start ≡ m.end + 1
      → HasMerged (record { lefts = m.lefts; rights = m.rights; key = m.key; start = start; end = m.end + 1 }) ls (rs ++ y ∷ [])
  right-below y start e s at =
      let long : m.end + 1 ≡ length (rs ++ y ∷ []) = ap (λ n. n + 1) h.end_is ∙ sym (length-append rs (y ∷ [])) in
      let p = λ (r : Row). is_gt (key_cmp falls m.key (key_of m.rights r)) in
      record {
        before = rs ++ y ∷ [];
        run = [];
        alike = h.alike;
        left_rises = h.left_rises;
        right_rises = s;
        key_is = h.key_is;
        parts = sym (append-nil (rs ++ y ∷ []));
        start_is = at ∙ long;
        end_is = long;
        below = all-join p rs (y ∷ [])
            (all-weaken (λ r. is_le (compare_on m.rights r y)) p (λ r l. above-under falls m.key (key_of m.rights r) (key_of m.rights y) e (right-falls-alike (key_of m.rights r) (key_of m.rights y) ∙ rows-keys m.rights r y l)) rs (rise-under m.rights rs y s))
            (and-both (p y) true (ap is_gt e) refl);
        equal = refl;
      }

-- what a filter keeps of rows that all pass, and of rows that all fail
filter-all : {X : Type 0} (p : X → Bool) (xs : List X) → list_all p xs ≡ true → filter p xs ≡ xs
filter-all p [] h = refl
filter-all p (x ∷ xs) h = ap (λ b. cond b (x ∷ filter p xs) (filter p xs)) (and-left (p x) (list_all p xs) h) ∙ ap (λ l. x ∷ l) (filter-all p xs (and-right (p x) (list_all p xs) h))

filter-none : {X : Type 0} (p q : X → Bool) → ((x : X) → q x ≡ true → p x ≡ false) → (xs : List X) → list_all q xs ≡ true → filter p xs ≡ []
filter-none p q f [] h = refl
filter-none p q f (x ∷ xs) h =
    ap (λ b. cond b (x ∷ filter p xs) (filter p xs)) (f x (and-left (q x) (list_all q xs) h)) ∙ filter-none p q f xs (and-right (q x) (list_all q xs) h)

-- of rows that rise, the first above the key, none has it
none-of : (falls : List Bool) (by : List OrderEntry) (key y : Row) (ys : List Row) → falls ≡ directions by → key_cmp falls key (key_of by y) ≡ Less → sorted by (y ∷ ys) ≡ true
    → of_key (order_columns by) key (y ∷ ys) ≡ []
none-of falls by key y ys alike e s =
    let p = λ (r : Row). row_eq key (key_of by r) in
    ap (λ b. cond b (y ∷ filter p ys) (filter p ys)) (sym (key_eq falls key (key_of by y)) ∙ ap is_eq e)
    ∙ filter-none p (λ r. is_le (compare_on by y r)) (λ r l. apart-above falls key (key_of by y) (key_of by r) e (ap (λ f. is_le (key_cmp f (key_of by y) (key_of by r))) alike ∙ rows-keys by y r l)) ys (and-left (list_all (λ r. is_le (compare_on by y r)) ys) (sorted by ys) s)

drop-front : {X : Type 0} (xs ys : List X) → drop (length xs) (xs ++ ys) ≡ ys
drop-front [] ys = refl
drop-front (x ∷ xs) ys = drop-front xs ys

take-front : {X : Type 0} (xs ys : List X) → take (length xs) (xs ++ ys) ≡ xs
take-front [] ys = refl
take-front (x ∷ xs) ys = ap (λ l. x ∷ l) (take-front xs ys)

-- the range behind a front
range-behind : {X : Type 0} (xs ys zs : List X) → slice_range (xs ++ ys ++ zs) (length xs) (length (xs ++ ys)) ≡ ys
range-behind xs ys zs =
    let long : length (xs ++ ys) - length xs ≡ length ys = let l = length-append xs ys in omega (arith, l) in
    ap (λ l. take (length (xs ++ ys) - length xs) (drop (length xs) l)) (append_assoc xs ys zs)
    ∙ (ap (λ l. take (length (xs ++ ys) - length xs) l) (drop-front xs (ys ++ zs))
    ∙ (ap (λ n. take n (ys ++ zs)) long ∙ take-front ys zs))

-- the run is what there is of the key, where no row behind it has it
run-is : (m : MergeState) (ls rs rest more : List Row) → HasMerged m ls rs → of_key (order_columns m.rights) m.key (rest ++ more) ≡ []
    → of_key (order_columns m.rights) m.key (rs ++ rest ++ more) ≡ slice_range (rs ++ rest) m.start m.end
run-is m ls rs rest more h none =
    let p = λ (r : Row). row_eq m.key (key_of m.rights r) in
    let front : filter p h.before ≡ [] = filter-none p (λ r. is_gt (key_cmp (directions m.lefts) m.key (key_of m.rights r))) (λ r g. sym (key_eq (directions m.lefts) m.key (key_of m.rights r)) ∙ gt-apart _ g) h.before h.below in
    let taken : filter p rs ≡ h.run = ap (filter p) h.parts ∙ (filter-append p h.before h.run ∙ (λ i. front i ++ filter-all p h.run h.equal i)) in
    let range : slice_range (rs ++ rest) m.start m.end ≡ h.run =
    (λ i. slice_range (h.parts i ++ rest) (h.start_is i) ((h.end_is ∙ ap length h.parts) i)) ∙ range-behind h.before h.run rest in
    ap (filter p) (append_assoc rs rest more)
    ∙ (filter-append p rs (rest ++ more) ∙ ((λ i. taken i ++ none i) ∙ (append-nil h.run ∙ sym range)))

-- what lies behind the rows that were taken has not the key: the first of it is above the key, or there is none
pub holds-key : (m : MergeState) (ls rows : List Row) (closed : Bool) → HasMerged m ls (take m.end rows)
    → (m.end < length rows → key_cmp (directions m.lefts) m.key (key_of m.rights (get_or rows m.end [])) ≡ Less) → (length rows ≤ m.end → closed ≡ false) → HoldsKey m closed rows
holds-key m ls rows closed h above past = λ more ends s.
    let front = take m.end rows in
    let rest = drop m.end rows in
    let whole : front ++ rest ≡ rows = take-append-drop m.end rows in
    let none : of_key (order_columns m.rights) m.key (rest ++ more) ≡ [] = elim (cases_lt m.end (length rows)) [
      | inl l ↦
          let y = get_or rows m.end [] in
          let ys = drop (suc m.end) rows in
          let first : rest ≡ y ∷ ys = drop-cons rows m.end [] l in
          let all : sorted m.rights (front ++ (rest ++ more)) ≡ true = ap (sorted m.rights) (sym (append_assoc front rest more) ∙ ap (λ l. l ++ more) whole) ∙ s in
          ap (λ l. of_key (order_columns m.rights) m.key (l ++ more)) first
          ∙ none-of (directions m.lefts) m.rights m.key y (ys ++ more) h.alike (above l) (ap (λ l. sorted m.rights (l ++ more)) (sym first) ∙ rise-back m.rights front (rest ++ more) all)
      | inr g ↦ λ i. of_key (order_columns m.rights) m.key (drop_all m.end rows g i ++ ends (past g) i)
    ] in
    ap (λ l. of_key (order_columns m.rights) m.key (l ++ more)) (sym whole) ∙ (run-is m ls front rest more h none ∙ ap (λ l. slice_range l m.start m.end) whole)

-- behind some right rows that were dropped
module _ (lefts rights : List OrderEntry) (ls passed rs : List Row) (start end : ℕ) (h : HasMerged (state_at lefts rights ls passed start end) ls rs) where
  -- the next left row, where it does not fall
  pub left-next : (y : Row) (o : Ordering) → o ≡ key_cmp (directions lefts) (last_key lefts ls) (key_of lefts y) → is_le o ≡ true
      → HasMerged (state_at lefts rights (ls ++ y ∷ []) passed (cond (is_lt o) end start) end) (ls ++ y ∷ []) rs
  left-next y Less e l = left-above (state_at lefts rights ls passed start end) ls rs h y (last_key lefts (ls ++ y ∷ [])) (sym e) (last-push lefts ls y)
  left-next y Equal e l =
      let same : last_key lefts ls ≡ last_key lefts (ls ++ y ∷ []) = key-same (directions lefts) (last_key lefts ls) (key_of lefts y) (sym e) ∙ sym (last-push lefts ls y) in
      subst (λ (key : Row). HasMerged (record { lefts = lefts; rights = rights; key = key; start = length passed + start; end = length passed + end }) (ls ++ y ∷ []) rs) same
      (left-same (state_at lefts rights ls passed start end) ls rs h y (sym e))
  left-next y Greater e l = absurd (true≢false (sym l))

  pub left-fall : (y : Row) (o : Ordering) → o ≡ key_cmp (directions lefts) (last_key lefts ls) (key_of lefts y) → is_le o ≡ false → sorted lefts (ls ++ y ∷ []) ≡ false
  left-fall y o e l = sym (rise-next lefts ls y h.left_rises) ∙ (ap is_le (sym e) ∙ l)

  -- the next right row, where it is not above the key
  pub right-next : (y : Row) (o : Ordering) (to : ℕ) → o ≡ key_cmp (directions lefts) (last_key lefts ls) (key_of rights y) → is_lt o ≡ false → to ≡ cond (is_gt o) (end + 1) start → sorted rights (rs ++ y ∷ []) ≡ true
      → HasMerged (state_at lefts rights ls passed to (end + 1)) ls (rs ++ y ∷ [])
  right-next y Less to e l t s = absurd (true≢false l)
  right-next y Equal to e l t s =
      let m = state_at lefts rights ls passed start end in
      let at : (length passed + end) + 1 ≡ length passed + (end + 1) = omega arith in
      let from : length passed + start ≡ length passed + to = ap (λ n. length passed + n) (sym t) in
      let is : HasMerged (record { lefts = lefts; rights = rights; key = last_key lefts ls; start = length passed + start; end = (length passed + end) + 1 }) ls (rs ++ y ∷ []) = right-equal m ls rs h y (sym e) in
      subst (λ (n : ℕ). HasMerged (record { lefts = lefts; rights = rights; key = last_key lefts ls; start = length passed + to; end = n }) ls (rs ++ y ∷ [])) at
      (subst (λ (n : ℕ). HasMerged (record { lefts = lefts; rights = rights; key = last_key lefts ls; start = n; end = (length passed + end) + 1 }) ls (rs ++ y ∷ [])) from is)
  right-next y Greater to e l t s =
      let m = state_at lefts rights ls passed start end in
      let at : (length passed + end) + 1 ≡ length passed + (end + 1) = omega arith in
      let is = right-below m ls rs h y (length passed + to) (sym e) s (omega (arith, t)) in
      subst (λ (n : ℕ). HasMerged (record { lefts = lefts; rights = rights; key = last_key lefts ls; start = length passed + to; end = n }) ls (rs ++ y ∷ [])) at is

get-behind : (ps ws : List Row) (n : ℕ) → get_or (ps ++ ws) (length ps + n) [] ≡ get_or ws n []
get-behind [] ws n = ap (λ k. get_or ws k []) (omega arith)
get-behind (p ∷ ps) ws n = let e : suc (length ps) + n ≡ suc (length ps + n) = omega arith in ap (λ k. get_or (p ∷ ps ++ ws) k []) e ∙ get-behind ps ws n

range-moved : {X : Type 0} (ps ws : List X) (a b : ℕ) → slice_range (ps ++ ws) (length ps + a) (length ps + b) ≡ slice_range ws a b
range-moved ps ws a b =
    let e : (length ps + b) - (length ps + a) ≡ b - a = omega arith in
    ap (λ k. take k (drop (length ps + a) (ps ++ ws))) e ∙ ap (take (b - a)) (drop-append-add ps ws a)

-- the run is all that the last left row is joined with, where a row above its key is behind the run, or none follows
pub holds-run : (lefts rights : List OrderEntry) (ls passed ws : List Row) (l : Row) (start end : ℕ)
    → HasMerged (state_at lefts rights (ls ++ l ∷ []) passed start end) (ls ++ l ∷ []) (passed ++ take end ws)
    → (end < length ws → key_cmp (directions lefts) (key_of lefts l) (key_of rights (get_or ws end [])) ≡ Less)
    → (more : List Row) → (length ws ≤ end → more ≡ []) → sorted rights ((passed ++ ws) ++ more) ≡ true
    → of_key (order_columns rights) (key_of lefts l) ((passed ++ ws) ++ more) ≡ slice_range ws start end
holds-run lefts rights ls passed ws l start end h above more ends s =
    let m = state_at lefts rights (ls ++ l ∷ []) passed start end in
    let key : m.key ≡ key_of lefts l = last-push lefts ls l in
    let long = length-append passed ws in
    let taken : HasMerged m (ls ++ l ∷ []) (take m.end (passed ++ ws)) = subst (HasMerged m (ls ++ l ∷ [])) (sym (take-append-add passed ws end)) h in
    let over : m.end < length (passed ++ ws) → key_cmp (directions lefts) m.key (key_of rights (get_or (passed ++ ws) m.end [])) ≡ Less =
    λ n. (λ i. key_cmp (directions lefts) (key i) (key_of rights (get-behind passed ws end i))) ∙ above (omega (arith, n, long)) in
    let past : length (passed ++ ws) ≤ m.end → nat_lt end (length ws) ≡ false = λ n. let q : length ws ≤ end = omega (arith, n, long) in grind (arith, nat_tests, q) in
    let closes : nat_lt end (length ws) ≡ false → more ≡ [] = λ f. ends (grind (arith, nat_tests)) in
    ap (λ k. of_key (order_columns rights) k ((passed ++ ws) ++ more)) (sym key)
    ∙ (holds-key m (ls ++ l ∷ []) (passed ++ ws) (nat_lt end (length ws)) taken over past more closes s ∙ range-moved passed ws start end)

-- an input that falls is to blame
pub right-falls : (a b : Bool) → b ≡ false → (a && b) ≡ false
right-falls true b h = h
right-falls false b h = refl
