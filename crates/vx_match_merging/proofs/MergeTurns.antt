-- A merge whose inputs come in batches, at each call.
use Rattle.std.proofs.Common.{◌≡◌, ℕ, ◌+◌, ◌-◌, ◌<◌, ◌≤◌, Bool, true, false, cond, List, [], ◌∷◌, ◌++◌, length, take, drop, flat_map, map, slice_range, nat_lt, refl, sym, ap, ◌∙◌, subst, arith, true≢false, append_assoc, append-nil, is_le, is_lt, Ordering, Less}
use Rattle.std.proofs.Math.Seq.{take-add}
use Rattle.std.proofs.lemmas.List.{take_more, take_all, take-append-drop, take-append-le, length-append, length-drop, length-take-le}
use Rattle.std.proofs.lemmas.Bool.Decides.{nat_tests}
use Rattle.std.proofs.lemmas.List.Concat.{flat_map-append}
use Rattle.vx_rows_values.specs.Values.{Row}
use Rattle.vx_rows_values.specs.Order.{order_columns, sorted}
use Rattle.vx_rows.specs.View.{RowsView, row}
use Rattle.vx_match_keys.specs.Matched.{matched}
use Rattle.vx_match_merging.specs.declared.merging.MergeNeed.TheVariants as need
use Rattle.vx_match_merging.specs.Keys.{directions, key_of, key_cmp}
use Rattle.vx_match_merging.specs.Merged.{MergeView, HasMerged, state_at, last_key, begun, joined_rows, IsMerged, HasJoined, HoldsRun, run_rows, merge_need}
use Rattle.vx_match_merging.proofs.RiseFacts.{rise-behind, fall-front, last-back, last-push}
use Rattle.vx_match_merging.proofs.MergeFacts.{left-next, left-fall, holds-run}

-- the left rows up to the next one
begun-is : (s : MergeView) (earlier : List Row) → s.next < length s.left.rows → begun s earlier ≡ joined_rows s earlier ++ row s.left s.next ∷ []
begun-is s earlier near =
    ap (λ xs. earlier ++ xs) (take_more s.left.rows s.next [] near) ∙ sym (append_assoc earlier (take s.next s.left.rows) (row s.left s.next ∷ []))

-- all left rows at hand were joined
begun-all : (s : MergeView) (earlier : List Row) (n : ℕ) → length s.left.rows ≤ n → earlier ++ take n s.left.rows ≡ earlier ++ s.left.rows
begun-all s earlier n past = ap (λ xs. earlier ++ xs) (take_all n s.left.rows past)

cons-not-nil : {X : Type 0} (x : X) (xs : List X) → x ∷ xs ≡ [] → ⊥
cons-not-nil x xs e = cc

none-shorter : {X : Type 0} (xs : List X) → 0 < length xs → xs ≡ [] → ⊥
none-shorter [] l e = omega arith
none-shorter (x ∷ xs) l e = cons-not-nil x xs e

module _ (s : MergeView) (earlier passed ys : List Row) (h : IsMerged s earlier passed ys) where
  -- the run of the next left row
  module _ (near : s.next < length s.left.rows) where
    -- the next left row and those before it, with the right rows up to the end of the run
    pub next-merged : HasMerged (state_at s.lefts s.rights (joined_rows s earlier ++ row s.left s.next ∷ []) passed s.start s.end) (joined_rows s earlier ++ row s.left s.next ∷ []) (passed ++ take s.end s.right.rows)
    next-merged =
        let P : List Row → Type 0 = λ ls. HasMerged (state_at s.lefts s.rights ls passed s.start s.end) ls (passed ++ take s.end s.right.rows) in
        subst P (begun-is s earlier near) (h.merged (λ _. near))

    -- the run moves on
    pub run-moved : (start end : ℕ)
        → HasMerged (state_at s.lefts s.rights (joined_rows s earlier ++ row s.left s.next ∷ []) passed start end) (joined_rows s earlier ++ row s.left s.next ∷ []) (passed ++ take end s.right.rows)
        → IsMerged (record s { start = start; end = end }) earlier passed ys
    run-moved start end m =
        let P : List Row → Type 0 = λ ls. HasMerged (state_at s.lefts s.rights ls passed start end) ls (passed ++ take end s.right.rows) in
        record {
          left_edge = h.left_edge;
          right_edge = h.right_edge;
          rises = h.rises;
          merged = λ _. subst P (sym (begun-is s earlier near)) m;
          holds = h.holds;
        }

    -- and is closed
    pub run-closed : (start end : ℕ)
        → HasMerged (state_at s.lefts s.rights (joined_rows s earlier ++ row s.left s.next ∷ []) passed start end) (joined_rows s earlier ++ row s.left s.next ∷ []) (passed ++ take end s.right.rows)
        → (end < length s.right.rows → key_cmp (directions s.lefts) (key_of s.lefts (row s.left s.next)) (key_of s.rights (row s.right end)) ≡ Less)
        → (length s.right.rows ≤ end → s.right_ended ≡ true) → HoldsRun (record s { start = start; end = end }) passed
    run-closed start end m above shut =
        λ more ends rise. holds-run s.lefts s.rights (joined_rows s earlier) passed s.right.rows (row s.left s.next) start end m above more (λ past. ends (shut past)) rise

    -- and so it is where it stands, where the right input has ended and no row is behind it
    pub run-ended : s.right_ended ≡ true → length s.right.rows ≤ s.end → HoldsRun s passed
    run-ended ended past = run-closed s.start s.end next-merged (λ n. absurd (omega (arith, n, past))) (λ _. ended)

    -- what was returned, with the next left row's rows
    holds-next : HoldsRun s passed → (more : List Row) → (s.right_ended ≡ true → more ≡ []) → sorted s.rights ((passed ++ s.right.rows) ++ more) ≡ true
        → ys ++ run_rows s ≡ flat_map (matched (order_columns s.lefts) (order_columns s.rights) ((passed ++ s.right.rows) ++ more)) (earlier ++ take (s.next + 1) s.left.rows)
    holds-next run more ends rise =
        let f = matched (order_columns s.lefts) (order_columns s.rights) ((passed ++ s.right.rows) ++ more) in
        let l = row s.left s.next in
        let one : run_rows s ≡ f l = ap (map (λ r. l ++ r)) (sym (run more ends rise)) in
        (λ i. h.holds more ends rise i ++ one i)
        ∙ sym (ap (flat_map f) (begun-is s earlier near)
        ∙ (flat_map-append f (joined_rows s earlier) (l ∷ []) ∙ ap (λ rows. flat_map f (joined_rows s earlier) ++ rows) (append-nil (f l))))

    -- behind the last left row at hand
    pub advanced-end : length s.left.rows ≤ s.next + 1 → HoldsRun s passed → IsMerged (record s { next = s.next + 1 }) earlier passed (ys ++ run_rows s)
    advanced-end past run =
        let P : List Row → Type 0 = λ ls. HasMerged (state_at s.lefts s.rights ls passed s.start s.end) ls (passed ++ take s.end s.right.rows) in
        let all : begun s earlier ≡ earlier ++ take ((s.next + 1) + 1) s.left.rows = begun-all s earlier (s.next + 1) past ∙ sym (begun-all s earlier ((s.next + 1) + 1) (omega (arith, past))) in
        record {
          left_edge = h.left_edge;
          right_edge = h.right_edge;
          rises = h.rises;
          merged = λ _. subst P all (h.merged (λ _. near));
          holds = holds-next run;
        }

    module _ (more : s.next + 1 < length s.left.rows) (o : Ordering) (is : o ≡ key_cmp (directions s.lefts) (key_of s.lefts (row s.left s.next)) (key_of s.lefts (row s.left (s.next + 1)))) where
      last-is : o ≡ key_cmp (directions s.lefts) (last_key s.lefts (begun s earlier)) (key_of s.lefts (row s.left (s.next + 1)))
      last-is =
          is ∙ ap (λ k. key_cmp (directions s.lefts) k (key_of s.lefts (row s.left (s.next + 1))))
          (sym (ap (last_key s.lefts) (begun-is s earlier near) ∙ last-push s.lefts (joined_rows s earlier) (row s.left s.next)))

      one-more : begun s earlier ++ row s.left (s.next + 1) ∷ [] ≡ earlier ++ take ((s.next + 1) + 1) s.left.rows
      one-more =
          append_assoc earlier (take (s.next + 1) s.left.rows) (row s.left (s.next + 1) ∷ [])
          ∙ ap (λ xs. earlier ++ xs) (sym (take_more s.left.rows (s.next + 1) [] more))

      -- and before another
      pub advanced : is_le o ≡ true → HoldsRun s passed → (start : ℕ) → start ≡ cond (is_lt o) s.end s.start → IsMerged (record s { next = s.next + 1; start = start }) earlier passed (ys ++ run_rows s)
      advanced rise run start at =
          let P : List Row → Type 0 = λ ls. HasMerged (state_at s.lefts s.rights ls passed start s.end) ls (passed ++ take s.end s.right.rows) in
          let Q : ℕ → Type 0 = λ n. HasMerged (state_at s.lefts s.rights (begun s earlier ++ row s.left (s.next + 1) ∷ []) passed n s.end) (begun s earlier ++ row s.left (s.next + 1) ∷ []) (passed ++ take s.end s.right.rows) in
          record {
            left_edge = h.left_edge;
            right_edge = h.right_edge;
            rises = h.rises;
            merged = λ _. subst P one-more (subst Q (sym at) (left-next s.lefts s.rights (begun s earlier) passed (passed ++ take s.end s.right.rows) s.start s.end (h.merged (λ _. near)) (row s.left (s.next + 1)) o last-is rise));
            holds = holds-next run;
          }

  -- a further batch of the left input
  module _ (done : s.next ≡ length s.left.rows) (runs : s.left_ended ≡ false) (batch : RowsView) (some : 0 < length batch.rows)
      (o : Ordering) (is : o ≡ key_cmp (directions s.lefts) (last_key s.lefts s.left.rows) (key_of s.lefts (row batch 0))) where
    all-left : begun s earlier ≡ earlier ++ s.left.rows
    all-left = begun-all s earlier (s.next + 1) (omega (arith, done))

    left-is : o ≡ key_cmp (directions s.lefts) (last_key s.lefts (earlier ++ s.left.rows)) (key_of s.lefts (row batch 0))
    left-is = is ∙ ap (λ k. key_cmp (directions s.lefts) k (key_of s.lefts (row batch 0))) (sym (last-back s.lefts earlier s.left.rows h.left_edge))

    all-merged : HasMerged (state_at s.lefts s.rights (earlier ++ s.left.rows) passed s.start s.end) (earlier ++ s.left.rows) (passed ++ take s.end s.right.rows)
    all-merged =
        let P : List Row → Type 0 = λ ls. HasMerged (state_at s.lefts s.rights ls passed s.start s.end) ls (passed ++ take s.end s.right.rows) in
        subst P all-left (h.merged (λ e. absurd (true≢false (sym e ∙ runs))))

    first-is : take (0 + 1) batch.rows ≡ row batch 0 ∷ []
    first-is = take_more batch.rows 0 [] some

    pub left-taken : is_le o ≡ true → (start : ℕ) → start ≡ cond (is_lt o) s.end s.start → IsMerged (record s { left = batch; next = 0; start = start }) (earlier ++ s.left.rows) passed ys
    left-taken rise start at =
        let P : List Row → Type 0 = λ ls. HasMerged (state_at s.lefts s.rights ls passed start s.end) ls (passed ++ take s.end s.right.rows) in
        let ls = (earlier ++ s.left.rows) ++ row batch 0 ∷ [] in
        let Q : ℕ → Type 0 = λ n. HasMerged (state_at s.lefts s.rights ls passed n s.end) ls (passed ++ take s.end s.right.rows) in
        let same : joined_rows s earlier ≡ (earlier ++ s.left.rows) ++ [] = begun-all s earlier s.next (omega (arith, done)) ∙ sym (append-nil (earlier ++ s.left.rows)) in
        record {
          left_edge = λ e. absurd (none-shorter batch.rows some e);
          right_edge = h.right_edge;
          rises = h.rises;
          merged = λ _. subst P (sym (ap (λ xs. (earlier ++ s.left.rows) ++ xs) first-is))
              (subst Q (sym at) (left-next s.lefts s.rights (earlier ++ s.left.rows) passed (passed ++ take s.end s.right.rows) s.start s.end all-merged (row batch 0) o left-is rise));
          holds = λ more ends rise. h.holds more ends rise ∙ ap (flat_map (matched (order_columns s.lefts) (order_columns s.rights) ((passed ++ s.right.rows) ++ more))) same;
        }

    pub left-taken-falls : is_le o ≡ false → sorted s.lefts ((earlier ++ s.left.rows) ++ batch.rows) ≡ false
    left-taken-falls fall =
        let front = left-fall s.lefts s.rights (earlier ++ s.left.rows) passed (passed ++ take s.end s.right.rows) s.start s.end all-merged (row batch 0) o left-is fall in
        let whole : ((earlier ++ s.left.rows) ++ row batch 0 ∷ []) ++ drop (0 + 1) batch.rows ≡ (earlier ++ s.left.rows) ++ batch.rows =
        append_assoc (earlier ++ s.left.rows) (row batch 0 ∷ []) (drop (0 + 1) batch.rows)
        ∙ ap (λ xs. (earlier ++ s.left.rows) ++ xs) (ap (λ xs. xs ++ drop (0 + 1) batch.rows) (sym first-is) ∙ take-append-drop (0 + 1) batch.rows) in
        ap (sorted s.lefts) (sym whole) ∙ fall-front s.lefts ((earlier ++ s.left.rows) ++ row batch 0 ∷ []) (drop (0 + 1) batch.rows) front

  -- a further batch of the right input, where all rise with it
  pub right-taken : (runs : s.right_ended ≡ false) (right : RowsView) (batch : List Row) → right.rows ≡ s.right.rows ++ batch → s.end ≤ length s.right.rows → sorted s.rights right.rows ≡ true
      → IsMerged (record s { right = right }) earlier passed ys
  right-taken runs right batch is within rise =
      let same : take s.end right.rows ≡ take s.end s.right.rows = ap (take s.end) is ∙ take-append-le s.end s.right.rows batch within in
      let P : List Row → Type 0 = λ rs. HasMerged (state_at s.lefts s.rights (begun s earlier) passed s.start s.end) (begun s earlier) (passed ++ rs) in
      record {
        left_edge = h.left_edge;
        right_edge = λ e. h.right_edge (front-nil s.right.rows batch (sym is ∙ e));
        rises = ap (λ rs. sorted s.rights (passed ++ rs)) is ∙ rise-behind s.rights passed s.right.rows batch h.right_edge h.rises (ap (sorted s.rights) (sym is) ∙ rise);
        merged = λ n. subst P (sym same) (h.merged n);
        holds = λ more ends up.
            let whole : (passed ++ s.right.rows) ++ (batch ++ more) ≡ (passed ++ right.rows) ++ more =
            sym (append_assoc (passed ++ s.right.rows) batch more)
            ∙ ap (λ xs. xs ++ more) (append_assoc passed s.right.rows batch ∙ ap (λ xs. passed ++ xs) (sym is)) in
            h.holds (batch ++ more) (λ e. absurd (true≢false (sym e ∙ runs))) (ap (sorted s.rights) whole ∙ up)
            ∙ ap (λ rs. flat_map (matched (order_columns s.lefts) (order_columns s.rights) rs) (joined_rows s earlier)) whole;
      }
    where
      front-nil : (xs zs : List Row) → xs ++ zs ≡ [] → xs ≡ []
      front-nil [] zs e = refl
      front-nil (x ∷ xs) zs e = absurd (cons-not-nil x (xs ++ zs) e)

  -- right rows are dropped
  pub right-dropped : (n : ℕ) (right : RowsView) → right.rows ≡ slice_range s.right.rows n (length s.right.rows) → n < length s.right.rows
      → ((s.left_ended ≡ true → s.next < length s.left.rows) → n ≤ s.start) → s.start ≤ s.end → s.end ≤ length s.right.rows
      → IsMerged (record s { right = right; start = s.start - n; end = s.end - n }) earlier (passed ++ take n s.right.rows) ys
  right-dropped n right is few before order within =
      let ws = s.right.rows in
      let rest : right.rows ≡ drop n ws = is ∙ take_all (length ws - n) (drop n ws) (let l = length-drop n ws in omega (arith, l)) in
      let whole : (passed ++ take n ws) ++ right.rows ≡ passed ++ ws =
      ap (λ xs. (passed ++ take n ws) ++ xs) rest ∙ (append_assoc passed (take n ws) (drop n ws) ∙ ap (λ xs. passed ++ xs) (take-append-drop n ws)) in
      let long : length (passed ++ take n ws) ≡ length passed + n = length-append passed (take n ws) ∙ ap (λ k. length passed + k) (length-take-le n ws (omega (arith, few))) in
      record {
        left_edge = h.left_edge;
        right_edge = λ e. absurd (none-shorter (drop n ws) (let l = length-drop n ws in omega (arith, l, few)) (sym rest ∙ e));
        rises = ap (sorted s.rights) whole ∙ h.rises;
        merged = λ alive.
            let low : n ≤ s.start = before alive in
            let taken : passed ++ take s.end ws ≡ (passed ++ take n ws) ++ take (s.end - n) right.rows =
            ap (λ xs. passed ++ xs) (sym (parts ws n s.end (omega (arith, low, order))) ∙ ap (λ xs. take n ws ++ take (s.end - n) xs) (sym rest))
            ∙ sym (append_assoc passed (take n ws) (take (s.end - n) right.rows)) in
            let from : length passed + s.start ≡ length (passed ++ take n ws) + (s.start - n) = omega (arith, low, long) in
            let to : length passed + s.end ≡ length (passed ++ take n ws) + (s.end - n) = omega (arith, low, order, long) in
            moved from to taken (h.merged alive);
        holds = λ more ends up.
            let all = ap (λ xs. xs ++ more) whole in
            h.holds more ends (ap (sorted s.rights) (sym all) ∙ up) ∙ ap (λ rs. flat_map (matched (order_columns s.lefts) (order_columns s.rights) rs) (joined_rows s earlier)) (sym all);
      }
    where
      parts : (xs : List Row) (a b : ℕ) → a ≤ b → take a xs ++ take (b - a) (drop a xs) ≡ take b xs
      parts xs a b l = let e : a + (b - a) ≡ b = omega (arith, l) in sym (take-add a (b - a) xs) ∙ ap (λ k. take k xs) e

      moved : {a b c d : ℕ} {rs ts : List Row} → a ≡ c → b ≡ d → rs ≡ ts
          → HasMerged (record { lefts = s.lefts; rights = s.rights; key = last_key s.lefts (begun s earlier); start = a; end = b }) (begun s earlier) rs
          → HasMerged (record { lefts = s.lefts; rights = s.rights; key = last_key s.lefts (begun s earlier); start = c; end = d }) (begun s earlier) ts
      moved {a} {b} {c} {d} {rs} {ts} e f g m =
          let key = last_key s.lefts (begun s earlier) in
          let ls = begun s earlier in
          subst (λ (xs : List Row). HasMerged (record { lefts = s.lefts; rights = s.rights; key = key; start = c; end = d }) ls xs) g
          (subst (λ (n : ℕ). HasMerged (record { lefts = s.lefts; rights = s.rights; key = key; start = c; end = n }) ls rs) f
          (subst (λ (n : ℕ). HasMerged (record { lefts = s.lefts; rights = s.rights; key = key; start = n; end = b }) ls rs) e m))

module _ (s : MergeView) (ls rs ys : List Row) (h : HasJoined s ls rs ys) where
  all-right : (h.passed ++ s.right.rows) ++ [] ≡ rs
  all-right = append-nil (h.passed ++ s.right.rows) ∙ h.right_is

  rises-all : sorted s.rights ((h.passed ++ s.right.rows) ++ []) ≡ true
  rises-all = ap (sorted s.rights) (append-nil (h.passed ++ s.right.rows)) ∙ h.is.rises

  -- all right rows that came rise
  pub right-rises : sorted s.rights rs ≡ true
  right-rises = ap (sorted s.rights) (sym h.right_is) ∙ h.is.rises

  -- what was returned is the join of the left rows that were joined
  pub joined-some : ys ≡ flat_map (matched (order_columns s.lefts) (order_columns s.rights) rs) (joined_rows s h.earlier)
  joined-some = h.is.holds [] (λ _. refl) rises-all ∙ ap (λ xs. flat_map (matched (order_columns s.lefts) (order_columns s.rights) xs) (joined_rows s h.earlier)) all-right

  pub joined-front : joined_rows s h.earlier ++ drop s.next s.left.rows ≡ ls
  joined-front = append_assoc h.earlier (take s.next s.left.rows) (drop s.next s.left.rows) ∙ (ap (λ xs. h.earlier ++ xs) (take-append-drop s.next s.left.rows) ∙ h.left_is)

  -- and of all, once no left row is left
  pub joined-all : length s.left.rows ≤ s.next → ys ≡ flat_map (matched (order_columns s.lefts) (order_columns s.rights) rs) ls
  joined-all past = joined-some ∙ ap (flat_map (matched (order_columns s.lefts) (order_columns s.rights) rs)) (begun-all s h.earlier s.next past ∙ h.left_is)

  -- and all left rows rise
  pub left-rises : length s.left.rows ≤ s.next → s.left_ended ≡ false → sorted s.lefts ls ≡ true
  left-rises past runs =
      let m = h.is.merged (λ e. absurd (true≢false (sym e ∙ runs))) in
      ap (sorted s.lefts) (sym (begun-all s h.earlier (s.next + 1) (omega (arith, past)) ∙ h.left_is)) ∙ m.left_rises

-- what follows from what a merge needs
left-needed : (a b c d : Bool) → cond a (cond b need.Nothing (cond c need.Nothing need.Right)) (cond d (cond b need.End need.Right) need.Left) ≡ need.Left → (a ≡ false) × (d ≡ false)
left-needed true true c d e = cc
left-needed true false true d e = cc
left-needed true false false d e = cc
left-needed false true c true e = cc
left-needed false false c true e = cc
left-needed false b c false e = (refl, refl)

right-needed : (a b c d : Bool) → cond a (cond b need.Nothing (cond c need.Nothing need.Right)) (cond d (cond b need.End need.Right) need.Left) ≡ need.Right → b ≡ false
right-needed true true c d e = cc
right-needed false true c true e = cc
right-needed false true c false e = cc
right-needed a false c d e = refl

end-needed : (a b c d : Bool) → cond a (cond b need.Nothing (cond c need.Nothing need.Right)) (cond d (cond b need.End need.Right) need.Left) ≡ need.End → (a ≡ false) × (d ≡ true) × (b ≡ true)
end-needed true true c d e = cc
end-needed true false true d e = cc
end-needed true false false d e = cc
end-needed false true c true e = (refl, refl, refl)
end-needed false false c true e = cc
end-needed false true c false e = cc
end-needed false false c false e = cc

not-less : (n m : ℕ) → nat_lt n m ≡ false → m ≤ n
not-less n m e = grind (arith, nat_tests)

pub need-left : (s : MergeView) → merge_need s ≡ need.Left → (length s.left.rows ≤ s.next) × (s.left_ended ≡ false)
need-left s e =
    let r = left-needed (nat_lt s.next (length s.left.rows)) s.right_ended (nat_lt s.end (length s.right.rows)) s.left_ended e in
    (not-less s.next (length s.left.rows) r.0, r.1)

pub need-right : (s : MergeView) → merge_need s ≡ need.Right → s.right_ended ≡ false
need-right s e = right-needed (nat_lt s.next (length s.left.rows)) s.right_ended (nat_lt s.end (length s.right.rows)) s.left_ended e

pub need-end : (s : MergeView) → merge_need s ≡ need.End → (length s.left.rows ≤ s.next) × (s.left_ended ≡ true) × (s.right_ended ≡ true)
need-end s e =
    let r = end-needed (nat_lt s.next (length s.left.rows)) s.right_ended (nat_lt s.end (length s.right.rows)) s.left_ended e in
    (not-less s.next (length s.left.rows) r.0, r.1, r.2)
