-- A merge whose inputs come in batches, as its calls see it.
use Rattle.std.specs.Bool.{IsTrue}
use Rattle.std.proofs.Common.{Result, Ok, Err, IfOk, OnOk, ◌≡◌, ◌↔◌, ℕ, zero, suc, ◌+◌, ◌-◌, ◌<◌, ◌≤◌, Bool, true, false, cond, List, [], ◌∷◌, ◌++◌, length, take, drop, flat_map, map, ◌&&◌, slice_range, refl, sym, ap, ◌∙◌, subst, arith, true≢false, append_assoc, append-nil, inl, inr, is_le, is_lt, Ordering, Less}
use Rattle.std.proofs.lemmas.Bool.{cases_lt}
use Rattle.std.proofs.lemmas.List.{take_all, take-append-drop}
use Rattle.std.proofs.Math.Seq.{take-append_seam, drop-append_seam}
use Rattle.vx_rows_values.specs.declared.order.OrderEntry.{OrderEntry}
use Rattle.vx_rows_values.specs.Values.{Row}
use Rattle.vx_rows_values.specs.Order.{order_columns, sorted}
use Rattle.vx_rows.specs.View.{RowsView, row}
use Rattle.vx_match_keys.specs.Matched.{matched}
use Rattle.vx_match_merging.specs.Keys.{directions, key_of, key_cmp}
use Rattle.vx_match_merging.specs.Merged.{MergeView, HasMerged, state_at, last_key, joined_rows, IsMerged, HasJoined, HoldsRun, HasSameInputs, MergeBlame, run_rows, rows_at}
use Rattle.vx_match_merging.specs.declared.merging.MergeFault.{MergeFault}
use Rattle.vx_match_merging.specs.declared.merging.MergeFault.TheVariants.{Falls, NoMemory}
use Rattle.vx_match_merging.proofs.MergeFacts.{right-falls}
use Rattle.vx_match_merging.proofs.RiseFacts.{last-take, rise-back, rise-neighbours, fall-back}
use Rattle.vx_match_merging.proofs.MergeTurns.{next-merged, run-moved, run-closed, run-ended, advanced-end, advanced, left-taken, left-taken-falls, right-taken, right-dropped}

take-none : {X : Type 0} (n : ℕ) → take {A = X} n [] ≡ []
take-none zero = refl
take-none (suc n) = refl

-- nothing came
pub none-joined : (s : MergeView) → directions s.lefts ≡ directions s.rights → s.left.rows ≡ [] → s.right.rows ≡ [] → s.start ≡ 0 → s.end ≡ 0 → HasJoined s [] [] []
none-joined s same e f a b =
    let ls : (n : ℕ) → [] ++ take n s.left.rows ≡ [] = λ n. ap (take n) e ∙ take-none n in
    let rs : [] ++ take s.end s.right.rows ≡ [] = ap (take s.end) f ∙ take-none s.end in
    let none : length ([] ++ take s.end s.right.rows) ≡ 0 = ap length rs in
    record {
      earlier = [];
      passed = [];
      left_is = e;
      right_is = f;
      is = record {
        left_edge = λ _. refl;
        right_edge = λ _. refl;
        rises = ap (sorted s.rights) f;
        merged = λ _. record {
          before = [];
          run = [];
          alike = same;
          left_rises = ap (sorted s.lefts) (ls (s.next + 1));
          right_rises = ap (sorted s.rights) rs;
          key_is = refl;
          parts = rs;
          start_is = omega (arith, a);
          end_is = omega (arith, b, none);
          below = refl;
          equal = refl;
        };
        holds = λ more ends up. sym (ap (flat_map (matched (order_columns s.lefts) (order_columns s.rights) (([] ++ s.right.rows) ++ more))) (ls s.next));
      };
    }

-- rows of which a test says that there are some
pub not-empty : (xs : List Row) (b : Bool) → (IsTrue b ↔ (xs ≡ [])) → b ≡ false → 0 < length xs
not-empty [] b h e = absurd (true≢false (sym (h.1 refl) ∙ e))
not-empty (x ∷ xs) b h e = omega arith

-- the key of the last row
pub last-at : (by : List OrderEntry) (t : RowsView) → 0 < length t.rows → last_key by t.rows ≡ key_of by (row t (length t.rows - 1))
last-at by t some =
    let up : suc (length t.rows - 1) ≡ length t.rows = omega (arith, some) in
    ap (last_key by) (sym (ap (λ n. take n t.rows) up ∙ take_all (length t.rows) t.rows (omega arith))) ∙ last-take by t.rows (length t.rows - 1) (omega (arith, some))

-- a run that is empty starts at its end, whatever the order of the next key
stays-empty : (less : Bool) (start end : ℕ) → start ≡ end → start ≡ cond less end start
stays-empty true start end e = e
stays-empty false start end e = refl

-- what is known of a run that moved on, on columns that are the merge's
abbrev pub Moves : List OrderEntry → List OrderEntry → MergeView → ℕ → ℕ → Type 0
Moves lefts rights s start end =
    (ls passed : List Row) → sorted rights (passed ++ s.right.rows) ≡ true
    → HasMerged (state_at lefts rights (ls ++ row s.left s.next ∷ []) passed s.start s.end) (ls ++ row s.left s.next ∷ []) (passed ++ take s.end s.right.rows)
    → HasMerged (state_at lefts rights (ls ++ row s.left s.next ∷ []) passed start end) (ls ++ row s.left s.next ∷ []) (passed ++ take end s.right.rows)

module _ (s now : MergeView) (e : s ≡ now) (earlier passed ys : List Row) (h : IsMerged now earlier passed ys) (at : now.next < length now.left.rows) where
  own : IsMerged s earlier passed ys
  own = subst (λ (m : MergeView). IsMerged m earlier passed ys) (sym e) h

  near : s.next < length s.left.rows
  near = subst (λ (m : MergeView). m.next < length m.left.rows) (sym e) at

  module _ (lefts rights : List OrderEntry) (a : lefts ≡ s.lefts) (b : rights ≡ s.rights) (start end : ℕ) (moves : Moves lefts rights s start end) where
    next-moved : HasMerged (state_at s.lefts s.rights (joined_rows s earlier ++ row s.left s.next ∷ []) passed start end) (joined_rows s earlier ++ row s.left s.next ∷ []) (passed ++ take end s.right.rows)
    next-moved =
        let m : Moves s.lefts s.rights s start end = subst (λ (r : List OrderEntry). Moves s.lefts r s start end) b (subst (λ (l : List OrderEntry). Moves l rights s start end) a moves) in
        m (joined_rows s earlier) passed own.rises (next-merged s earlier passed ys own near)

    pub call-moved : IsMerged (record s { start = start; end = end }) earlier passed ys
    call-moved = run-moved s earlier passed ys own near start end next-moved

    pub call-closed : (end < length s.right.rows → key_cmp (directions lefts) (key_of lefts (row s.left s.next)) (key_of rights (row s.right end)) ≡ Less)
        → (length s.right.rows ≤ end → s.right_ended ≡ true) → HoldsRun (record s { start = start; end = end }) passed
    call-closed above shut = run-closed s earlier passed ys own near start end next-moved (λ n. (λ i. key_cmp (directions (sym a i)) (key_of (sym a i) (row s.left s.next)) (key_of (sym b i) (row s.right end))) ∙ above n) shut

  pub call-advanced-end : length s.left.rows ≤ s.next + 1 → HoldsRun now passed → IsMerged (record s { next = s.next + 1 }) earlier passed (ys ++ run_rows now)
  call-advanced-end past run =
      subst (λ (zs : List Row). IsMerged (record s { next = s.next + 1 }) earlier passed (ys ++ zs)) (ap run_rows e)
      (advanced-end s earlier passed ys own near past (subst (λ (m : MergeView). HoldsRun m passed) (sym e) run))

  module _ (more : s.next + 1 < length s.left.rows) (one two : List OrderEntry) (a : one ≡ s.lefts) (b : two ≡ s.lefts) (o : Ordering)
      (is : o ≡ key_cmp (directions one) (key_of one (row s.left s.next)) (key_of two (row s.left (s.next + 1)))) where
    order-is : o ≡ key_cmp (directions s.lefts) (key_of s.lefts (row s.left s.next)) (key_of s.lefts (row s.left (s.next + 1)))
    order-is = is ∙ (λ i. key_cmp (directions (a i)) (key_of (a i) (row s.left s.next)) (key_of (b i) (row s.left (s.next + 1))))

    -- the left rows at hand rise, and so the next key is not below this one
    pub call-advanced : sorted s.lefts s.left.rows ≡ true → HoldsRun now passed → (start : ℕ) → start ≡ cond (is_lt o) s.end s.start
        → IsMerged (record s { next = s.next + 1; start = start }) earlier passed (ys ++ run_rows now)
    call-advanced rises run start st =
        let after : s.next + 1 ≡ suc s.next = omega arith in
        let rise : is_le o ≡ true =
        ap is_le order-is
        ∙ (ap (λ n. is_le (key_cmp (directions s.lefts) (key_of s.lefts (row s.left s.next)) (key_of s.lefts (row s.left n)))) after ∙ rise-neighbours s.lefts s.left.rows s.next rises (omega (arith, more))) in
        subst (λ (zs : List Row). IsMerged (record s { next = s.next + 1; start = start }) earlier passed (ys ++ zs)) (ap run_rows e)
        (advanced s earlier passed ys own near more o order-is rise (subst (λ (m : MergeView). HoldsRun m passed) (sym e) run) start st)

  -- and the run is empty
  pub call-advanced-empty : s.next + 1 < length s.left.rows → sorted s.lefts s.left.rows ≡ true → s.start ≡ s.end → HoldsRun now passed
      → IsMerged (record s { next = s.next + 1 }) earlier passed (ys ++ run_rows now)
  call-advanced-empty more rises empty run =
      let order = key_cmp (directions s.lefts) (key_of s.lefts (row s.left s.next)) (key_of s.lefts (row s.left (s.next + 1))) in
      call-advanced more s.lefts s.lefts refl refl order refl rises run s.start (stays-empty (is_lt order) s.start s.end empty)

-- the left rows at hand rise, the right input has ended, and no right row is left for the next left row
pub record HasNoMatch (s : MergeView) : Type 0 where
  pub rises : sorted s.lefts s.left.rows ≡ true
  pub ended : s.right_ended ≡ true
  pub past : length s.right.rows ≤ s.start
  pub order : s.start ≤ s.end
  pub within : s.end ≤ length s.right.rows

module _ (earlier passed ys : List Row) where
  -- the next left row is joined with none
  skipped-one : (s : MergeView) → HasNoMatch s → IsMerged s earlier passed ys → s.next < length s.left.rows → IsMerged (record s { next = s.next + 1 }) earlier passed ys
  skipped-one s none h near =
      let few : s.end - s.start ≡ 0 = omega arith in
      let empty : s.start ≡ s.end = omega arith in
      let past : length s.right.rows ≤ s.end = omega arith in
      let rows : ys ++ run_rows s ≡ ys = ap (λ n. ys ++ map (λ r. row s.left s.next ++ r) (take n (drop s.start s.right.rows))) few ∙ append-nil ys in
      let run : HoldsRun s passed = run-ended s earlier passed ys h near none.ended past in
      let behind : IsMerged (record s { next = s.next + 1 }) earlier passed (ys ++ run_rows s) = elim (cases_lt (s.next + 1) (length s.left.rows)) [
        | inl l ↦ call-advanced-empty s s refl earlier passed ys h near l none.rises empty run
        | inr g ↦ advanced-end s earlier passed ys h near g run
      ] in
      subst (IsMerged (record s { next = s.next + 1 }) earlier passed) rows behind

  -- nor are those behind it
  skipped : (n to : ℕ) (s : MergeView) → HasNoMatch s → IsMerged s earlier passed ys → s.next + n ≡ to → to ≤ length s.left.rows → IsMerged (record s { next = to }) earlier passed ys
  skipped zero to s none h e l = let at : s.next ≡ to = omega (arith, e) in subst (λ (k : ℕ). IsMerged (record s { next = k }) earlier passed ys) at h
  skipped (suc n) to s none h e l =
      let behind = record s { next = s.next + 1 } in
      let still : HasNoMatch behind = record { rises = none.rises; ended = none.ended; past = none.past; order = none.order; within = none.within } in
      skipped n to behind still (skipped-one s none h (omega (arith, e, l))) (omega (arith, e)) l

  pub call-skipped : (s now : MergeView) → s ≡ now → IsMerged now earlier passed ys → HasNoMatch s → s.next ≤ length s.left.rows → (to : ℕ) → to ≡ length s.left.rows
      → IsMerged (record s { next = to }) earlier passed ys
  call-skipped s now e h none few to is =
      skipped (to - s.next) to s none (subst (λ (m : MergeView). IsMerged m earlier passed ys) (sym e) h) (omega (arith, few, is)) (omega (arith, is))

module _ (s now : MergeView) (e : s ≡ now) (ls rs ys : List Row) (h : HasJoined now ls rs ys) where
  held : HasJoined s ls rs ys
  held = subst (λ (m : MergeView). HasJoined m ls rs ys) (sym e) h

  -- a further batch of the left input
  module _ (done : length now.left.rows ≤ now.next) (few : s.next ≤ length s.left.rows) (runs : now.left_ended ≡ false) (batch : RowsView) (some : 0 < length batch.rows)
      (o : Ordering) (is : o ≡ key_cmp (directions now.lefts) (last_key now.lefts now.left.rows) (key_of now.lefts (row batch 0))) where
    all : s.next ≡ length s.left.rows
    all = let d : length s.left.rows ≤ s.next = subst (λ (m : MergeView). length m.left.rows ≤ m.next) (sym e) done in omega (arith, d, few)

    order : o ≡ key_cmp (directions s.lefts) (last_key s.lefts s.left.rows) (key_of s.lefts (row batch 0))
    order = subst (λ (m : MergeView). o ≡ key_cmp (directions m.lefts) (last_key m.lefts m.left.rows) (key_of m.lefts (row batch 0))) (sym e) is

    live : s.left_ended ≡ false
    live = subst (λ (m : MergeView). m.left_ended ≡ false) (sym e) runs

    pub call-left : is_le o ≡ true → (start : ℕ) → start ≡ cond (is_lt o) s.end s.start → HasJoined (record s { left = batch; next = 0; start = start }) (ls ++ batch.rows) rs ys
    call-left rise start st = record {
      earlier = held.earlier ++ s.left.rows;
      passed = held.passed;
      left_is = ap (λ xs. xs ++ batch.rows) held.left_is;
      right_is = held.right_is;
      is = left-taken s held.earlier held.passed ys held.is all live batch some o order rise start st;
    }

    pub call-left-falls : is_le o ≡ false → sorted now.lefts (ls ++ batch.rows) ≡ false
    call-left-falls fall =
        subst (λ (m : MergeView). sorted m.lefts (ls ++ batch.rows) ≡ false) e
        (ap (λ xs. sorted s.lefts (xs ++ batch.rows)) (sym held.left_is) ∙ left-taken-falls s held.earlier held.passed ys held.is all live batch some o order fall)

  -- right rows are dropped
  pub call-dropped : (n m : ℕ) (right : RowsView) (start end : ℕ) → m ≡ length s.right.rows → right.rows ≡ slice_range s.right.rows n m → n < length s.right.rows
      → ((s.left_ended ≡ true → s.next < length s.left.rows) → n ≤ s.start) → s.start ≤ s.end → s.end ≤ length s.right.rows → start ≡ s.start - n → end ≡ s.end - n
      → HasJoined (record s { right = right; start = start; end = end }) ls rs ys
  call-dropped n m right start end long is few before order within st en =
      let whole : right.rows ≡ slice_range s.right.rows n (length s.right.rows) = is ∙ ap (slice_range s.right.rows n) long in
      let rest : right.rows ≡ drop n s.right.rows = whole ∙ take_all (length s.right.rows - n) (drop n s.right.rows) (let l = Rattle.std.proofs.lemmas.List.length-drop n s.right.rows in omega (arith, l)) in
      let now : IsMerged (record s { right = right; start = s.start - n; end = s.end - n }) held.earlier (held.passed ++ take n s.right.rows) ys =
      right-dropped s held.earlier held.passed ys held.is n right whole few before order within in
      record {
        earlier = held.earlier;
        passed = held.passed ++ take n s.right.rows;
        left_is = held.left_is;
        right_is = append_assoc held.passed (take n s.right.rows) right.rows
            ∙ (ap (λ xs. held.passed ++ xs) (ap (λ xs. take n s.right.rows ++ xs) rest ∙ take-append-drop n s.right.rows) ∙ held.right_is);
        is = subst (λ (k : ℕ). IsMerged (record s { right = right; start = k; end = end }) held.earlier (held.passed ++ take n s.right.rows) ys) (sym st)
            (subst (λ (k : ℕ). IsMerged (record s { right = right; start = s.start - n; end = k }) held.earlier (held.passed ++ take n s.right.rows) ys) (sym en) now);
      }

  -- a further batch of the right input
  module _ (right : RowsView) (batch : List Row) (from : ℕ) (columns : List OrderEntry) (a : columns ≡ s.rights) (is : right.rows ≡ s.right.rows ++ batch) (long : from ≡ length s.right.rows) (up : sorted s.rights batch ≡ true) (b : Bool)
      (tests : sorted columns (take from right.rows) ≡ true → sorted columns (drop from right.rows) ≡ true → b ≡ sorted columns right.rows) where
    tested : b ≡ sorted s.rights right.rows
    tested =
        let front : take from right.rows ≡ s.right.rows = (λ i. take (long i) (is i)) ∙ take-append_seam s.right.rows batch in
        let back : drop from right.rows ≡ batch = (λ i. drop (long i) (is i)) ∙ drop-append_seam s.right.rows batch in
        tests ((λ i. sorted (a i) (front i)) ∙ rise-back s.rights held.passed s.right.rows held.is.rises) ((λ i. sorted (a i) (back i)) ∙ up) ∙ ap (λ c. sorted c right.rows) a

    pub call-right : s.right_ended ≡ false → s.end ≤ length s.right.rows → b ≡ true → HasJoined (record s { right = right }) ls (rs ++ batch) ys
    call-right runs within rise = record {
      earlier = held.earlier;
      passed = held.passed;
      left_is = held.left_is;
      right_is = ap (λ xs. held.passed ++ xs) is ∙ (sym (append_assoc held.passed s.right.rows batch) ∙ ap (λ xs. xs ++ batch) held.right_is);
      is = right-taken s held.earlier held.passed ys held.is runs right batch is within (sym tested ∙ rise);
    }

    pub call-right-falls : b ≡ false → sorted s.rights (rs ++ batch) ≡ false
    call-right-falls fall =
        let whole : rs ++ batch ≡ held.passed ++ right.rows = ap (λ xs. xs ++ batch) (sym held.right_is) ∙ (append_assoc held.passed s.right.rows batch ∙ ap (λ xs. held.passed ++ xs) (sym is)) in
        ap (sorted s.rights) whole ∙ fall-back s.rights held.passed right.rows (sym tested ∙ fall)

-- the rows of new pairs are those of the run
pub paired : (s t now u : MergeView) → s ≡ t → HasSameInputs now t → (ls rs ls' rs' : List ℕ) (earlier passed ys : List Row) → t.end ≤ length t.right.rows
    → ((a b : RowsView) → s.end ≤ length b.rows → rows_at a b ls' rs' ≡ rows_at a b ls rs ++ map (λ r. row a s.next ++ r) (slice_range b.rows s.start s.end))
    → IsMerged u earlier passed ((ys ++ rows_at now.left now.right ls rs) ++ run_rows t) → IsMerged u earlier passed (ys ++ rows_at now.left now.right ls' rs')
paired s t now u e same ls rs ls' rs' earlier passed ys within adds h =
    let at : (a b : RowsView) → t.end ≤ length b.rows → rows_at a b ls' rs' ≡ rows_at a b ls rs ++ map (λ r. row a t.next ++ r) (slice_range b.rows t.start t.end) =
    subst (λ (m : MergeView). (a b : RowsView) → m.end ≤ length b.rows → rows_at a b ls' rs' ≡ rows_at a b ls rs ++ map (λ r. row a m.next ++ r) (slice_range b.rows m.start m.end)) e adds in
    let more : rows_at now.left now.right ls' rs' ≡ rows_at now.left now.right ls rs ++ run_rows t =
    sym (λ i. rows_at (same.left i) (same.right i) ls' rs') ∙ (at t.left t.right within ∙ (λ i. rows_at (same.left i) (same.right i) ls rs ++ run_rows t)) in
    subst (IsMerged u earlier passed) (append_assoc ys (rows_at now.left now.right ls rs) (run_rows t) ∙ ap (λ xs. ys ++ xs) (sym more)) h

pub same-inputs : (a b c : MergeView) → HasSameInputs a b → HasSameInputs b c → HasSameInputs a c
same-inputs a b c f g = record {
  lefts = g.lefts ∙ f.lefts;
  rights = g.rights ∙ f.rights;
  left = g.left ∙ f.left;
  right = g.right ∙ f.right;
  left_ended = g.left_ended ∙ f.left_ended;
  right_ended = g.right_ended ∙ f.right_ended;
}

-- the same blame over the same inputs
pub same-blame : (x : MergeFault) (a b : MergeView) → HasSameInputs a b → (earlier : List Row) → MergeBlame x (sorted b.lefts (earlier ++ b.left.rows)) → MergeBlame x (sorted a.lefts (earlier ++ a.left.rows))
same-blame x a b f earlier h = subst (MergeBlame x) (λ i. sorted (f.lefts i) (earlier ++ (f.left i).rows)) h

-- rows joined behind the same inputs
pub joined-behind : (a b : MergeView) → HasSameInputs a b → (ls rs ys zs : List Row) (h : HasJoined a ls rs ys) → IsMerged b h.earlier h.passed zs → HasJoined b ls rs zs
joined-behind a b f ls rs ys zs h m = record {
  earlier = h.earlier;
  passed = h.passed;
  left_is = ap (λ t. h.earlier ++ t.rows) f.left ∙ h.left_is;
  right_is = ap (λ t. h.passed ++ t.rows) f.right ∙ h.right_is;
  is = m;
}

-- a range that is the whole list
pub whole-range : (xs : List Row) (n : ℕ) → n ≡ length xs → slice_range xs 0 n ≡ xs
whole-range xs n e = let z : n - 0 ≡ n = omega arith in ap (λ k. take k xs) z ∙ take_all n xs (omega (arith, e))

pub blame-left : (x : MergeFault) (a b : Bool) → MergeBlame x a → MergeBlame x (a && b)
blame-left Falls a b h = ap (λ c. c && b) h
blame-left NoMemory a b h = tt

pub blame-right : (x : MergeFault) (a b : Bool) → MergeBlame x b → MergeBlame x (a && b)
blame-right Falls a b h = right-falls a b h
blame-right NoMemory a b h = tt

-- what follows for a value from what holds wherever there is one
pub if-ok-on : {T E : Type 0} (r : Result T E) (A : Type 0) (P Q : T → Type 0) → ((x : T) → A → P x → Q x) → OnOk r A → IfOk r P → IfOk r Q
if-ok-on (Ok x) A P Q f a h = f x a h
if-ok-on (Err y) A P Q f a h = tt
