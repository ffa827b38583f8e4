-- Parts of groups: a partial grouping makes them, they stay so in any order and where lists of them are joined, and a final grouping makes the groups of them.
use Rattle.std.proofs.Common.{◌≡◌, ℕ, zero, suc, ◌+◌, ◌*◌, ◌<◌, ◌≤◌, ◌==◌, pos, negsuc, ◌-ℤ◌, Bool, true, false, cond, not, ◌&&◌, List, [], ◌∷◌, ◌++◌, map, filter, flat_map, length, refl, sym, ap, ap₂, ◌∙◌, subst, arith, true≢false, is_le, is_eq, append_assoc, zero-add, eqb-true, Some, None}
use Rattle.std.proofs.lemmas.Int.{ints}
use Rattle.std.proofs.lemmas.Cmp.{tied_itself}
use Rattle.std.proofs.lemmas.Bool.{not-true}
use Rattle.std.proofs.lemmas.List.{map-append}
use Rattle.std.proofs.lemmas.List.Elements.{filter-append}
use Rattle.std.proofs.lemmas.Grind.{flat_map-append}
use Rattle.std.specs.List.{list_all}
use Rattle.vx_rows_values.specs.Lists.{is_some_list}
use Rattle.vx_rows_values.specs.Types.{fits_64}
use Rattle.vx_rows_values.specs.Values.{Val, num, Row, val_cmp, row_eq, value_at, pick}
use Rattle.vx_rows_values.specs.Order.{agree}
use Rattle.vx_rows_values.specs.Bags.{total, count, SameRows}
use Rattle.vx_plan_nodes.specs.Plan.{Aggregate, least, greatest, sum, count_rows}
use Rattle.vx_plan_nodes.specs.Phases.{columns_from, first_columns, merging, merged, is_row_of, Parts}
use Rattle.vx_plan_nodes.specs.Serial.{first_or_none, firsts, group_keys, group_rows, group_row, group_fits, of_key, aggregate_of, fits, sum_of, count_of, above_zero, below_zero, least_of, greatest_of}
use Rattle.vx_plan_nodes.specs.Streams.{Streams, joined}
use Rattle.vx_rows_values.proofs.Compare.{row_eq-same, row_eq-refl, row_eq-laws, val_cmp_total, val_cmp-same, is_eq-Equal}
use Rattle.vx_exec_laws.proofs.Bags.{total-ones, and-left, and-right, and-both, when, total-append, total-map, total-filter, total-flat_map, total-ext, total-zero, total-add, against, against-none, none-against, SameRows-all, SameRows-sym, SameRows-trans, SameRows-refl}
use Rattle.vx_exec_laws.proofs.Parts.{list_all-weaken}
use Rattle.vx_exec_laws.proofs.Join.{total-swap, total-all-ext, value-left, value-right}
use Rattle.vx_exec_laws.proofs.Exchange.{filter-all}
use Rattle.vx_exec_laws.proofs.Linear.{Linear-map, linear-same}
use Rattle.vx_exec_laws.proofs.Widths.{length-pick, firsts-all, picks-wide}
use Rattle.vx_exec_laws.proofs.JoinOrder.{all-append, all-front, all-back, all-and}
use Rattle.vx_exec_laws.proofs.Apart.{flag-no, flag-yes, sign, firsts-count, firsts-at-most, same-from-counts, nothing-same, self-counts, Extreme, least-extreme, greatest-extreme, group_row-same, of_key-same}
use Rattle.vx_exec_laws.proofs.Groups.{groups, groups-same, keys-all, fits-same-rows}

-- ---- parts in any order

abbrev pub Piece : Type 0
Piece = Row × List Row

-- an element that stands for this row, and the others
take-out : {X : Type 0} (f : X → Row) (y : Row) (xs : List X) → 0 < count (λ x. row_eq y (f x)) xs
    → (x : X) × (rest : List X) × (f x ≡ y) × ((g : X → ℕ) → total g xs ≡ g x + total g rest)
take-out f y [] h = absurd (omega arith)
take-out {X} f y (x ∷ xs) h = cases (row_eq y (f x)) refl (take-out f y xs)
  where
    cases : (b : Bool) → row_eq y (f x) ≡ b
        → (0 < count (λ x. row_eq y (f x)) xs → (z : X) × (rest : List X) × (f z ≡ y) × ((g : X → ℕ) → total g xs ≡ g z + total g rest))
        → (z : X) × (rest : List X) × (f z ≡ y) × ((g : X → ℕ) → total g (x ∷ xs) ≡ g z + total g rest)
    cases true e ih = (x, xs, sym (row_eq-same y (f x) e), λ g. refl)
    cases false e ih =
        let z = flag-no (row_eq y (f x)) e in
        let r = ih (omega (arith, z, h)) in
        (r.0, x ∷ r.1, r.2, λ g. let t = r.3 g in omega (arith, t))

-- elements that stand for some rows can be brought into the order of any list of the same rows
pub arranged : {X : Type 0} (f : X → Row) (xs : List X) (ys : List Row) → SameRows (map f xs) ys
    → (zs : List X) × (map f zs ≡ ys) × ((g : X → ℕ) → total g zs ≡ total g xs)
arranged f [] [] s = ([], refl, λ g. refl)
arranged f (x ∷ xs) [] s = absurd (nothing-same (f x) (map f xs) (SameRows-sym s))
arranged f xs (y ∷ ys) s =
    let here : count (row_eq y) (map f xs) ≡ count (row_eq y) (y ∷ ys) = s.totals (λ r. cond (row_eq y r) 1 0) in
    let some = self-counts y ys in
    let m : count (row_eq y) (map f xs) ≡ count (λ x. row_eq y (f x)) xs = total-map (λ r. cond (row_eq y r) 1 0) f xs in
    let t = take-out f y xs (omega (arith, here, some, m)) in
    let r = arranged f t.1 ys (record {
      totals = λ h.
          let a = s.totals h in
          let b : total h (map f xs) ≡ total (λ x. h (f x)) xs = total-map h f xs in
          let c : total (λ x. h (f x)) xs ≡ h (f t.0) + total (λ x. h (f x)) t.1 = t.3 (λ x. h (f x)) in
          let d : total h (map f t.1) ≡ total (λ x. h (f x)) t.1 = total-map h f t.1 in
          let e : h (f t.0) ≡ h y = ap h t.2 in
          omega (arith, a, b, c, d, e);
    }) in
    let front : f t.0 ≡ y = t.2 in
    let rest : map f r.0 ≡ ys = r.1 in
    (t.0 ∷ r.0, (cc), λ g. let a = r.2 g in let b = t.3 g in omega (arith, a, b))

pub Parts-order : (by : List ℕ) (aggregates : List Aggregate) (base xs ys : List Row) → SameRows xs ys → Parts by aggregates base xs → Parts by aggregates base ys
Parts-order by aggregates base xs ys s p =
    let P : List Row → Type 0 = λ l. SameRows l ys in
    let r = arranged (λ (t : Piece). t.0) p.pieces ys (subst P (sym p.rows_are) s) in
    let q : Piece → Bool = λ t. is_row_of by aggregates t.0 t.1 in
    record {
      pieces = r.0;
      rows_are = r.1;
      each = none-against q r.0 (r.2 (against q) ∙ against-none q p.pieces p.each);
      whole = record { totals = λ f. total-flat_map f (λ (t : Piece). t.1) r.0 ∙ (r.2 (λ t. total f t.1) ∙ (sym (total-flat_map f (λ (t : Piece). t.1) p.pieces) ∙ p.whole.totals f)) };
    }

pub Parts-base : (by : List ℕ) (aggregates : List Aggregate) (base other xs : List Row) → SameRows base other → Parts by aggregates base xs → Parts by aggregates other xs
Parts-base by aggregates base other xs s p = record { pieces = p.pieces; rows_are = p.rows_are; each = p.each; whole = SameRows-trans p.whole s }

pub Parts-append : (by : List ℕ) (aggregates : List Aggregate) (base other xs ys : List Row) → Parts by aggregates base xs → Parts by aggregates other ys
    → Parts by aggregates (base ++ other) (xs ++ ys)
Parts-append by aggregates base other xs ys p q = record {
  pieces = p.pieces ++ q.pieces;
  rows_are = map-append (λ (t : Piece). t.0) p.pieces q.pieces ∙ ap₂ (λ a b. a ++ b) p.rows_are q.rows_are;
  each = all-append (λ (t : Piece). is_row_of by aggregates t.0 t.1) p.pieces q.pieces p.each q.each;
  whole = record {
    totals = λ f.
        let a = p.whole.totals f in
        let b = q.whole.totals f in
        let c : total f (flat_map (λ (t : Piece). t.1) (p.pieces ++ q.pieces)) ≡ total f (flat_map (λ (t : Piece). t.1) p.pieces ++ flat_map (λ (t : Piece). t.1) q.pieces) = ap (total f) (flat_map-append (λ (t : Piece). t.1) p.pieces q.pieces) in
        let d = total-append f (flat_map (λ (t : Piece). t.1) p.pieces) (flat_map (λ (t : Piece). t.1) q.pieces) in
        let e = total-append f base other in
        omega (arith, a, b, c, d, e);
  };
}

-- of no rows there are no parts
Parts-none : (by : List ℕ) (aggregates : List Aggregate) → Parts by aggregates [] []
Parts-none by aggregates = record { pieces = []; rows_are = refl; each = refl; whole = SameRows-refl [] }

-- streams that are parts of streams
pub Parts-joined : (by : List ℕ) (aggregates : List Aggregate) (n : ℕ) (bases s : Streams) → ((w : ℕ) → w < n → Parts by aggregates (bases w) (s w))
    → Parts by aggregates (joined n bases) (joined n s)
Parts-joined by aggregates zero bases s h = Parts-none by aggregates
Parts-joined by aggregates (suc n) bases s h =
    Parts-append by aggregates (joined n bases) (bases n) (joined n s) (s n) (Parts-joined by aggregates n bases s (λ w l. h w (omega arith))) (h n (omega arith))

-- ---- a partial grouping makes parts

abbrev piece_of : List ℕ → List Aggregate → List Row → Row → Piece
piece_of by aggregates xs key = (group_row by aggregates xs key, of_key by key xs)

-- a row that some row of the list has the key of
is_row-of-key : (by : List ℕ) (aggregates : List Aggregate) (key : Row) (rows : List Row) → list_all (λ r. row_eq key (pick by r)) rows ≡ true → 0 < length rows
    → is_row_of by aggregates (key ++ map (λ a. aggregate_of a rows) aggregates) rows ≡ true
is_row-of-key by aggregates key [] h some = absurd (omega arith)
is_row-of-key by aggregates key (x ∷ xs) h some =
    let e : key ≡ pick by x = row_eq-same key (pick by x) (and-left (row_eq key (pick by x)) (list_all (λ r. row_eq key (pick by r)) xs) h) in
    let P : Row → Type 0 = λ k. list_all (λ r. row_eq k (pick by r)) xs ≡ true in
    let vals : List Val = map (λ a. aggregate_of a (x ∷ xs)) aggregates in
    let Q : Row → Type 0 = λ k. row_eq (key ++ vals) (k ++ vals) ≡ true in
    and-both (list_all (agree by x) xs) (row_eq (key ++ vals) (pick by x ++ vals))
    (subst P e (and-right (row_eq key (pick by x)) (list_all (λ r. row_eq key (pick by r)) xs) h))
    (subst Q e (row_eq-refl (key ++ vals)))

-- each key of the list has a row
of_key-some : (by : List ℕ) (xs : List Row) → list_all (λ x. is_some_list (of_key by (pick by x) xs)) xs ≡ true
of_key-some by xs = go xs xs (λ r. omega arith)
  where
    one : (p : Row → Bool) (ys : List Row) → 0 < count p ys → is_some_list (filter p ys) ≡ true
    one p [] h = absurd (omega arith)
    one p (y ∷ ys) h = cases (p y) refl (one p ys)
      where
        cases : (b : Bool) → p y ≡ b → (0 < count p ys → is_some_list (filter p ys) ≡ true) → is_some_list (cond b (y ∷ filter p ys) (filter p ys)) ≡ true
        cases true e ih = refl
        cases false e ih = let z = flag-no (p y) e in ih (omega (arith, z, h))

    go : (zs ys : List Row) → ((r : Row) → count (row_eq r) zs ≤ count (row_eq r) ys) → list_all (λ x. is_some_list (of_key by (pick by x) ys)) zs ≡ true
    go [] ys h = refl
    go (z ∷ zs) ys h =
        let q : Row → Bool = λ r. row_eq (pick by z) (pick by r) in
        let a = h z in
        let b = self-counts z zs in
        let c : count (row_eq z) ys ≤ count q ys = Rattle.vx_exec_laws.proofs.Keys.count-mono (row_eq z) q (λ r e.
        let s : z ≡ r = row_eq-same z r e in
        let P : Row → Type 0 = λ v. row_eq (pick by z) (pick by v) ≡ true in
        subst P s (row_eq-refl (pick by z))) ys in
        and-both (is_some_list (of_key by (pick by z) ys)) (list_all (λ x. is_some_list (of_key by (pick by x) ys)) zs)
        (one q ys (omega (arith, a, b, c)))
        (go zs ys (λ r. let d = h r in omega (arith, d)))

some-length : {X : Type 0} (xs : List X) → is_some_list xs ≡ true → 0 < length xs
some-length [] e = absurd (true≢false (sym e))
some-length (x ∷ xs) e = omega arith

-- each row belongs to one of the keys
keys-once : (by : List ℕ) (xs : List Row) (x : Row) → 0 < count (row_eq (pick by x)) (map (pick by) xs) → count (row_eq (pick by x)) (group_keys by xs) ≡ 1
keys-once by xs x h =
    let a = firsts-count (pick by x) (map (pick by) xs) in
    let one : (m : ℕ) → 0 < m → sign m ≡ 1 = signed in
    a ∙ one (count (row_eq (pick by x)) (map (pick by) xs)) h
  where
    signed : (m : ℕ) → 0 < m → sign m ≡ 1
    signed zero l = absurd (omega arith)
    signed (suc m) l = refl

groups-whole : (by : List ℕ) (aggregates : List Aggregate) (xs : List Row) → SameRows (flat_map (λ (t : Piece). t.1) (map (piece_of by aggregates xs) (group_keys by xs))) xs
groups-whole by aggregates xs = record {
  totals = λ f.
      let ks : List Row = group_keys by xs in
      let h : Row → Row → ℕ = λ key x. when (row_eq key (pick by x)) (f x) in
      total-flat_map f (λ (t : Piece). t.1) (map (piece_of by aggregates xs) ks)
      ∙ (total-map (λ (t : Piece). total f t.1) (piece_of by aggregates xs) ks
      ∙ (total-ext (λ key. total f (of_key by key xs)) (λ key. total (h key) xs) (λ key. total-filter f (λ r. row_eq key (pick by r)) xs) ks
      ∙ (total-swap h ks xs
      ∙ total-all-ext (λ x. is_some_list (of_key by (pick by x) xs)) (λ x. total (λ key. h key x) ks) f (λ x e. alone f x e) xs (of_key-some by xs))));
}
  where
    scaled : (f : ℕ) (p : Row → Bool) (ks : List Row) → total (λ key. when (p key) f) ks ≡ f * count p ks
    scaled f p [] = omega arith
    scaled f p (k ∷ ks) = cases (p k) (scaled f p ks)
      where
        cases : (b : Bool) → total (λ key. when (p key) f) ks ≡ f * count p ks → when b f + total (λ key. when (p key) f) ks ≡ f * (cond b 1 0 + count p ks)
        cases true e = ap (λ v. f + v) e ∙ times-more f (count p ks)
          where
            times-more : (f c : ℕ) → f + f * c ≡ f * (1 + c)
            times-more f c = omega arith
        cases false e = zero-add (total (λ key. when (p key) f) ks) ∙ (e ∙ ap (λ v. f * v) (sym (zero-add (count p ks))))

    alone : (f : Row → ℕ) (x : Row) → is_some_list (of_key by (pick by x) xs) ≡ true → total (λ key. when (row_eq key (pick by x)) (f x)) (group_keys by xs) ≡ f x
    alone f x e =
        let ks : List Row = group_keys by xs in
        let some = some-length (of_key by (pick by x) xs) e in
        let m : total (λ r. 1) (of_key by (pick by x) xs) ≡ length (of_key by (pick by x) xs) = total-ones (of_key by (pick by x) xs) in
        let c : total (λ r. 1) (of_key by (pick by x) xs) ≡ total (λ r. when (row_eq (pick by x) (pick by r)) 1) xs = total-filter (λ r. 1) (λ r. row_eq (pick by x) (pick by r)) xs in
        let d : total (λ r. when (row_eq (pick by x) (pick by r)) 1) xs ≡ count (λ r. row_eq (pick by x) (pick by r)) xs = total-ext (λ r. when (row_eq (pick by x) (pick by r)) 1) (λ r. cond (row_eq (pick by x) (pick by r)) 1 0) (λ r. same-flag (row_eq (pick by x) (pick by r))) xs in
        let g : count (row_eq (pick by x)) (map (pick by) xs) ≡ count (λ r. row_eq (pick by x) (pick by r)) xs = total-map (λ y. cond (row_eq (pick by x) y) 1 0) (pick by) xs in
        let o = keys-once by xs x (omega (arith, some, m, c, d, g)) in
        let s : count (λ key. row_eq key (pick by x)) ks ≡ count (row_eq (pick by x)) ks = total-ext (λ key. cond (row_eq key (pick by x)) 1 0) (λ key. cond (row_eq (pick by x) key) 1 0) (λ key. ap (λ b. cond b 1 0) (row_eq-laws.symm key (pick by x))) ks in
        scaled (f x) (λ key. row_eq key (pick by x)) ks ∙ (ap (λ v. f x * v) (s ∙ o) ∙ once (f x))
      where
        same-flag : (b : Bool) → when b 1 ≡ cond b 1 0
        same-flag true = refl
        same-flag false = refl

        once : (v : ℕ) → v * 1 ≡ v
        once v = omega arith

pub Parts-groups : (by : List ℕ) (aggregates : List Aggregate) (xs : List Row) → Parts by aggregates xs (groups by aggregates xs)
Parts-groups by aggregates xs = record {
  pieces = map (piece_of by aggregates xs) (group_keys by xs);
  rows_are = map-map (group_keys by xs);
  each = map-pieces (group_keys by xs) (keys-all by (λ key. is_some_list (of_key by key xs)) xs (of_key-some by xs));
  whole = groups-whole by aggregates xs;
}
  where
    map-map : (ks : List Row) → map (λ (t : Piece). t.0) (map (piece_of by aggregates xs) ks) ≡ map (group_row by aggregates xs) ks
    map-map [] = refl
    map-map (k ∷ ks) = ap (λ l. group_row by aggregates xs k ∷ l) (map-map ks)

    map-pieces : (ks : List Row) → list_all (λ key. is_some_list (of_key by key xs)) ks ≡ true
        → list_all (λ (t : Piece). is_row_of by aggregates t.0 t.1) (map (piece_of by aggregates xs) ks) ≡ true
    map-pieces [] h = refl
    map-pieces (k ∷ ks) h =
        let s = and-left (is_some_list (of_key by k xs)) (list_all (λ key. is_some_list (of_key by key xs)) ks) h in
        and-both (is_row_of by aggregates (group_row by aggregates xs k) (of_key by k xs)) _
        (is_row-of-key by aggregates k (of_key by k xs) (filter-all (λ r. row_eq k (pick by r)) xs) (some-length (of_key by k xs) s))
        (map-pieces ks (and-right (is_some_list (of_key by k xs)) (list_all (λ key. is_some_list (of_key by key xs)) ks) h))

-- ---- a final grouping puts parts together

-- the row has in column c the aggregate of its rows, of which there are some
abbrev shows : ℕ → (List Row → Val) → Piece → Bool
shows c v t = is_eq (val_cmp (value_at t.0 c) (v t.1)) && is_some_list t.1

abbrev shows-at : ℕ → Aggregate → Piece → Bool
shows-at c a t = shows c (λ xs. aggregate_of a xs) t

shown-value : (c : ℕ) (v : List Row → Val) (t : Piece) → shows c v t ≡ true → value_at t.0 c ≡ v t.1
shown-value c v t h = val_cmp-same (value_at t.0 c) (v t.1) (is_eq-Equal _ (and-left (is_eq (val_cmp (value_at t.0 c) (v t.1))) (is_some_list t.1) h))

abbrev rows-in : List Piece → List Row
rows-in ts = map (λ (t : Piece). t.0) ts

abbrev all-in : List Piece → List Row
all-in ts = flat_map (λ (t : Piece). t.1) ts

-- whole numbers
difference-is : (a b c d : ℕ) → a + d ≡ c + b → pos a -ℤ pos b ≡ pos c -ℤ pos d
difference-is a b c d h = omega (arith, ints)

difference-parts : (z : ℕ × ℕ) → above_zero (num (pos z.0 -ℤ pos z.1)) + z.1 ≡ z.0 + below_zero (num (pos z.0 -ℤ pos z.1))
difference-parts z = go (pos z.0 -ℤ pos z.1) refl
  where
    go : (i : Rattle.std.specs.Prelude.ℤ) → pos z.0 -ℤ pos z.1 ≡ i → above_zero (num i) + z.1 ≡ z.0 + below_zero (num i)
    go (pos n) e = omega (arith, ints)
    go (negsuc n) e = omega (arith, ints)

sum-of-sums : (i c : ℕ) (ts : List Piece) → list_all (shows-at i (sum c)) ts ≡ true → sum_of i (rows-in ts) ≡ sum_of c (all-in ts)
sum-of-sums i c ts h =
    let up : Piece → ℕ = λ t. total (λ r. above_zero (value_at r c)) t.1 in
    let down : Piece → ℕ = λ t. total (λ r. below_zero (value_at r c)) t.1 in
    let a : total (λ r. above_zero (value_at r i)) (rows-in ts) ≡ total (λ (t : Piece). above_zero (value_at t.0 i)) ts = total-map (λ r. above_zero (value_at r i)) (λ (t : Piece). t.0) ts in
    let b : total (λ r. below_zero (value_at r i)) (rows-in ts) ≡ total (λ (t : Piece). below_zero (value_at t.0 i)) ts = total-map (λ r. below_zero (value_at r i)) (λ (t : Piece). t.0) ts in
    let u : total (λ r. above_zero (value_at r c)) (all-in ts) ≡ total up ts = total-flat_map (λ r. above_zero (value_at r c)) (λ (t : Piece). t.1) ts in
    let v : total (λ r. below_zero (value_at r c)) (all-in ts) ≡ total down ts = total-flat_map (λ r. below_zero (value_at r c)) (λ (t : Piece). t.1) ts in
    let x : total (λ (t : Piece). above_zero (value_at t.0 i) + down t) ts ≡ total (λ (t : Piece). up t + below_zero (value_at t.0 i)) ts
    = total-all-ext (shows-at i (sum c)) (λ (t : Piece). above_zero (value_at t.0 i) + down t) (λ (t : Piece). up t + below_zero (value_at t.0 i))
    (λ t g. let P : Val → Type 0 = λ w. above_zero w + down t ≡ up t + below_zero w in subst P (sym (shown-value i (λ xs. aggregate_of (sum c) xs) t g)) (difference-parts (up t, down t))) ts h in
    let y = total-add (λ (t : Piece). above_zero (value_at t.0 i)) down ts in
    let z = total-add up (λ (t : Piece). below_zero (value_at t.0 i)) ts in
    difference-is (total (λ r. above_zero (value_at r i)) (rows-in ts)) (total (λ r. below_zero (value_at r i)) (rows-in ts)) (total (λ r. above_zero (value_at r c)) (all-in ts)) (total (λ r. below_zero (value_at r c)) (all-in ts))
    (omega (arith, a, b, u, v, x, y, z))

sum-of-counts : (i : ℕ) (ts : List Piece) → list_all (shows-at i count_rows) ts ≡ true → sum_of i (rows-in ts) ≡ count_of (all-in ts)
sum-of-counts i ts h =
    let many : Piece → ℕ = λ t. total (λ r. 1) t.1 in
    let a : total (λ r. above_zero (value_at r i)) (rows-in ts) ≡ total (λ (t : Piece). above_zero (value_at t.0 i)) ts = total-map (λ r. above_zero (value_at r i)) (λ (t : Piece). t.0) ts in
    let b : total (λ r. below_zero (value_at r i)) (rows-in ts) ≡ total (λ (t : Piece). below_zero (value_at t.0 i)) ts = total-map (λ r. below_zero (value_at r i)) (λ (t : Piece). t.0) ts in
    let u : total (λ r. 1) (all-in ts) ≡ total many ts = total-flat_map (λ r. 1) (λ (t : Piece). t.1) ts in
    let x : total (λ (t : Piece). above_zero (value_at t.0 i)) ts ≡ total many ts
    = total-all-ext (shows-at i count_rows) (λ (t : Piece). above_zero (value_at t.0 i)) many (λ t g. ap above_zero (shown-value i (λ xs. aggregate_of count_rows xs) t g)) ts h in
    let y : total (λ (t : Piece). below_zero (value_at t.0 i)) ts ≡ total (λ (t : Piece). 0) ts
    = total-all-ext (shows-at i count_rows) (λ (t : Piece). below_zero (value_at t.0 i)) (λ t. 0) (λ t g. ap below_zero (shown-value i (λ xs. aggregate_of count_rows xs) t g)) ts h in
    let z : total (λ (t : Piece). 0) ts ≡ 0 = total-zero ts in
    difference-is (total (λ r. above_zero (value_at r i)) (rows-in ts)) (total (λ r. below_zero (value_at r i)) (rows-in ts)) (total (λ r. 1) (all-in ts)) 0 (omega (arith, a, b, u, x, y, z))
    ∙ nothing-off (total (λ r. 1) (all-in ts))
  where
    nothing-off : (n : ℕ) → pos n -ℤ pos 0 ≡ pos n
    nothing-off n = omega (arith, ints)

-- what holds of all rows that pieces stand for holds of each piece's
pieces-all : (q : Row → Bool) (ts : List Piece) → list_all q (all-in ts) ≡ true → list_all (λ (t : Piece). list_all q t.1) ts ≡ true
pieces-all q [] h = refl
pieces-all q (t ∷ ts) h =
    and-both (list_all q t.1) _ (all-front q t.1 (all-in ts) h) (pieces-all q ts (all-back q t.1 (all-in ts) h))

-- a test of the values of all rows holds of the value that each piece shows, where that is one of them
pieces-value : (i c : ℕ) (of : List Row → Val) (p : Val → Bool) → ((xs : List Row) → is_some_list xs ≡ true → list_all (λ r. p (value_at r c)) xs ≡ true → p (of xs) ≡ true)
    → (ts : List Piece) → list_all (shows i of) ts ≡ true → list_all (λ r. p (value_at r c)) (all-in ts) ≡ true → list_all (λ r. p (value_at r i)) (rows-in ts) ≡ true
pieces-value i c of p among ts h k = go ts (all-and (shows i of) (λ (t : Piece). list_all (λ r. p (value_at r c)) t.1) ts h (pieces-all (λ r. p (value_at r c)) ts k))
  where
    go : (ts : List Piece) → list_all (λ (t : Piece). shows i of t && list_all (λ r. p (value_at r c)) t.1) ts ≡ true → list_all (λ r. p (value_at r i)) (rows-in ts) ≡ true
    go [] h = refl
    go (t ∷ ts) h =
        let here = and-left (shows i of t && list_all (λ r. p (value_at r c)) t.1) (list_all (λ (t : Piece). shows i of t && list_all (λ r. p (value_at r c)) t.1) ts) h in
        let s = and-left (shows i of t) (list_all (λ r. p (value_at r c)) t.1) here in
        let v = among t.1 (and-right (is_eq (val_cmp (value_at t.0 i) (of t.1))) (is_some_list t.1) s) (and-right (shows i of t) (list_all (λ r. p (value_at r c)) t.1) here) in
        let P : Val → Type 0 = λ w. p w ≡ true in
        and-both (p (value_at t.0 i)) (list_all (λ r. p (value_at r i)) (rows-in ts))
        (subst P (sym (shown-value i of t s)) v)
        (go ts (and-right (shows i of t && list_all (λ r. p (value_at r c)) t.1) (list_all (λ (t : Piece). shows i of t && list_all (λ r. p (value_at r c)) t.1) ts) h))

-- a test of the values that pieces show holds of the values of all rows, where it goes on to the rows of a piece
value-pieces : (i c : ℕ) (of : List Row → Val) (p : Val → Bool) → ((xs : List Row) → is_some_list xs ≡ true → p (of xs) ≡ true → list_all (λ r. p (value_at r c)) xs ≡ true)
    → (ts : List Piece) → list_all (shows i of) ts ≡ true → list_all (λ r. p (value_at r i)) (rows-in ts) ≡ true → list_all (λ r. p (value_at r c)) (all-in ts) ≡ true
value-pieces i c of p goes_on [] h k = refl
value-pieces i c of p goes_on (t ∷ ts) h k =
    let s = and-left (shows i of t) (list_all (shows i of) ts) h in
    let P : Val → Type 0 = λ w. p w ≡ true in
    all-append (λ r. p (value_at r c)) t.1 (all-in ts)
    (goes_on t.1 (and-right (is_eq (val_cmp (value_at t.0 i) (of t.1))) (is_some_list t.1) s)
    (subst P (shown-value i of t s) (and-left (p (value_at t.0 i)) (list_all (λ r. p (value_at r i)) (rows-in ts)) k)))
    (value-pieces i c of p goes_on ts (and-right (shows i of t) (list_all (shows i of) ts) h) (and-right (p (value_at t.0 i)) (list_all (λ r. p (value_at r i)) (rows-in ts)) k))

-- the extreme of what pieces show is that of all rows
extreme-of-extremes : (of : ℕ → Row → List Row → Val) (before : Val → Val → Bool) → Extreme of before → (i c : ℕ) (ts : List Piece)
    → list_all (shows i (first_or_none (of c))) ts ≡ true → first_or_none (of i) (rows-in ts) ≡ first_or_none (of c) (all-in ts)
extreme-of-extremes of before e i c [] h = refl
extreme-of-extremes of before e i c (t ∷ ts) h = go (all-in (t ∷ ts)) refl
  where
    inside : (p : Val → Bool) (xs : List Row) → is_some_list xs ≡ true → list_all (λ r. p (value_at r c)) xs ≡ true → p (first_or_none (of c) xs) ≡ true
    inside p [] s k = absurd (true≢false (sym s))
    inside p (x ∷ xs) s k = e.among c x xs p k

    rest : (m : Val) (xs : List Row) → is_some_list xs ≡ true → before m (first_or_none (of c) xs) ≡ true → list_all (λ r. before m (value_at r c)) xs ≡ true
    rest m [] s k = absurd (true≢false (sym s))
    rest m (x ∷ xs) s k =
        list_all-weaken (λ r. before (of c x xs) (value_at r c)) (λ r. before m (value_at r c)) (λ r g. e.trans m (of c x xs) (value_at r c) k g) (x ∷ xs) (e.first c x xs)

    some : is_some_list t.1 ≡ true
    some = and-right (is_eq (val_cmp (value_at t.0 i) (first_or_none (of c) t.1))) (is_some_list t.1)
        (and-left (shows i (first_or_none (of c)) t) (list_all (shows i (first_or_none (of c))) ts) h)

    none : (xs ys : List Row) → is_some_list xs ≡ true → xs ++ ys ≡ [] → ⊥
    none [] ys s g = true≢false (sym s)
    none (x ∷ xs) ys s g = cc

    go : (xs : List Row) → all-in (t ∷ ts) ≡ xs → of i t.0 (rows-in ts) ≡ first_or_none (of c) xs
    go [] g = absurd (none t.1 (all-in ts) some g)
    go (x ∷ xs) g =
        let m : Val = of i t.0 (rows-in ts) in
        let v : Val = of c x xs in
        let P : List Row → Type 0 = λ l. list_all (λ r. before v (value_at r c)) l ≡ true in
        let Q : List Row → Type 0 = λ l. list_all (λ r. before m (value_at r c)) l ≡ true in
        e.both m v
        (e.among c x xs (λ u. before m u) (subst Q g (value-pieces i c (first_or_none (of c)) (λ u. before m u) (λ ys s k. rest m ys s k) (t ∷ ts) h (e.first i t.0 (rows-in ts)))))
        (e.among i t.0 (rows-in ts) (λ u. before v u) (pieces-value i c (first_or_none (of c)) (λ u. before v u) (λ ys s k. inside (λ u. before v u) ys s k) (t ∷ ts) h (subst P (sym g) (e.first c x xs))))

-- one aggregate, put together from parts
pub merged-one : (i : ℕ) (a : Aggregate) (ts : List Piece) → list_all (shows-at i a) ts ≡ true → aggregate_of (merging i a) (rows-in ts) ≡ aggregate_of a (all-in ts)
merged-one i (least c) ts h = extreme-of-extremes least_of (λ a b. is_le (val_cmp a b)) least-extreme i c ts h
merged-one i (greatest c) ts h = extreme-of-extremes greatest_of (λ a b. is_le (val_cmp b a)) greatest-extreme i c ts h
merged-one i (sum c) ts h = ap num (sum-of-sums i c ts h)
merged-one i count_rows ts h = ap num (sum-of-counts i ts h)

pub merged-fit : (i : ℕ) (a : Aggregate) (ts : List Piece) → list_all (shows-at i a) ts ≡ true → fits (merging i a) (rows-in ts) ≡ fits a (all-in ts)
merged-fit i (least c) ts h = refl
merged-fit i (greatest c) ts h = refl
merged-fit i (sum c) ts h = ap fits_64 (sum-of-sums i c ts h)
merged-fit i count_rows ts h = ap fits_64 (sum-of-counts i ts h)

-- all aggregates

abbrev shows-all : ℕ → List Aggregate → Piece → Bool
shows-all i [] t = true
shows-all i (a ∷ aggregates) t = shows-at i a t && shows-all (suc i) aggregates t

merged-values : (i : ℕ) (aggregates : List Aggregate) (ts : List Piece) → list_all (shows-all i aggregates) ts ≡ true
    → map (λ a. aggregate_of a (rows-in ts)) (merged i aggregates) ≡ map (λ a. aggregate_of a (all-in ts)) aggregates
merged-values i [] ts h = refl
merged-values i (a ∷ aggregates) ts h =
    let here : list_all (shows-at i a) ts ≡ true = list_all-weaken (shows-all i (a ∷ aggregates)) (shows-at i a) (λ t e. and-left (shows-at i a t) (shows-all (suc i) aggregates t) e) ts h in
    let rest : list_all (shows-all (suc i) aggregates) ts ≡ true = list_all-weaken (shows-all i (a ∷ aggregates)) (shows-all (suc i) aggregates) (λ t e. and-right (shows-at i a t) (shows-all (suc i) aggregates t) e) ts h in
    ap₂ (λ v vs. v ∷ vs) (merged-one i a ts here) (merged-values (suc i) aggregates ts rest)

merged-fits : (i : ℕ) (aggregates : List Aggregate) (ts : List Piece) → list_all (shows-all i aggregates) ts ≡ true
    → list_all (λ a. fits a (rows-in ts)) (merged i aggregates) ≡ list_all (λ a. fits a (all-in ts)) aggregates
merged-fits i [] ts h = refl
merged-fits i (a ∷ aggregates) ts h =
    let here : list_all (shows-at i a) ts ≡ true = list_all-weaken (shows-all i (a ∷ aggregates)) (shows-at i a) (λ t e. and-left (shows-at i a t) (shows-all (suc i) aggregates t) e) ts h in
    let rest : list_all (shows-all (suc i) aggregates) ts ≡ true = list_all-weaken (shows-all i (a ∷ aggregates)) (shows-all (suc i) aggregates) (λ t e. and-right (shows-at i a t) (shows-all (suc i) aggregates t) e) ts h in
    ap₂ (λ v vs. v && vs) (merged-fit i a ts here) (merged-fits (suc i) aggregates ts rest)

-- a part's key, and what its row shows
pub record RowOf (by : List ℕ) (aggregates : List Aggregate) (row : Row) (xs : List Row) : Type 0 where
  pub key : Row
  pub long : length key ≡ length by
  pub row_is : row ≡ key ++ map (λ a. aggregate_of a xs) aggregates
  pub alike : list_all (λ r. row_eq key (pick by r)) xs ≡ true
  pub some : is_some_list xs ≡ true

pub row-of : (by : List ℕ) (aggregates : List Aggregate) (row : Row) (xs : List Row) → is_row_of by aggregates row xs ≡ true → RowOf by aggregates row xs
row-of by aggregates row [] h = absurd (true≢false (sym h))
row-of by aggregates row (x ∷ xs) h = record {
  key = pick by x;
  long = length-pick by x;
  row_is = row_eq-same row (pick by x ++ map (λ a. aggregate_of a (x ∷ xs)) aggregates) (and-right (list_all (agree by x) xs) (row_eq row (pick by x ++ map (λ a. aggregate_of a (x ∷ xs)) aggregates)) h);
  alike = and-both (row_eq (pick by x) (pick by x)) (list_all (agree by x) xs) (row_eq-refl (pick by x)) (and-left (list_all (agree by x) xs) (row_eq row (pick by x ++ map (λ a. aggregate_of a (x ∷ xs)) aggregates)) h);
  some = refl;
}

shows-from : (i : ℕ) (front row : Row) (xs : List Row) (aggregates : List Aggregate) → row ≡ front ++ map (λ a. aggregate_of a xs) aggregates → length front ≡ i → is_some_list xs ≡ true
    → shows-all i aggregates (row, xs) ≡ true
shows-from i front row xs [] e l s = refl
shows-from i front row xs (a ∷ aggregates) e l s =
    let v : Val = aggregate_of a xs in
    let vs : Row = map (λ a. aggregate_of a xs) aggregates in
    let at : value_at row i ≡ v = ap (λ r. value_at r i) e ∙ value-right front (v ∷ vs) i 0 (omega (arith, l)) in
    let P : Val → Type 0 = λ u. is_eq (val_cmp u v) ≡ true in
    let q : is_eq (val_cmp v v) ≡ true = ap is_eq (tied_itself val_cmp_total v) in
    let split : row ≡ (front ++ v ∷ []) ++ vs = e ∙ sym (append_assoc front (v ∷ []) vs) in
    let more : length (front ++ v ∷ []) ≡ suc i = let k = Rattle.std.proofs.Common.length-append front (v ∷ []) in omega (arith, k, l) in
    and-both (shows-at i a (row, xs)) (shows-all (suc i) aggregates (row, xs))
    (and-both (is_eq (val_cmp (value_at row i) v)) (is_some_list xs) (subst P (sym at) q) s)
    (shows-from (suc i) (front ++ v ∷ []) row xs aggregates split more s)

row-shows : (by : List ℕ) (aggregates : List Aggregate) (t : Piece) → is_row_of by aggregates t.0 t.1 ≡ true → shows-all (length by) aggregates t ≡ true
row-shows by aggregates t h = let r = row-of by aggregates t.0 t.1 h in shows-from (length by) r.key t.0 t.1 aggregates r.row_is r.long r.some

-- the first columns of a part's row are its key
pick-from : (i : ℕ) (key row : Row) → ((c : ℕ) → c < length key → value_at row (i + c) ≡ value_at key c) → pick (columns_from i (length key)) row ≡ key
pick-from i [] row h = refl
pick-from i (x ∷ key) row h =
    let z : i + 0 ≡ i = omega arith in
    let a : value_at row i ≡ x = sym (ap (λ k. value_at row k) z) ∙ h 0 (omega arith) in
    let b : pick (columns_from (suc i) (length key)) row ≡ key = pick-from (suc i) key row
    (λ c l. let e : suc i + c ≡ i + suc c = omega arith in ap (λ k. value_at row k) e ∙ h (suc c) (omega arith)) in
    ap₂ (λ v vs. v ∷ vs) a b

pub columns-long : (i n : ℕ) → length (columns_from i n) ≡ n
columns-long i zero = refl
columns-long i (suc n) = ap suc (columns-long (suc i) n)

pub pick-key : (n : ℕ) (key vals : Row) → length key ≡ n → pick (first_columns n) (key ++ vals) ≡ key
pick-key n key vals e =
    let P : ℕ → Type 0 = λ m. pick (columns_from 0 m) (key ++ vals) ≡ key in
    subst P e (pick-from 0 key (key ++ vals) (λ c l. let z : 0 + c ≡ c = omega arith in ap (λ k. value_at (key ++ vals) k) z ∙ value-left key vals c l))

row-key : (by : List ℕ) (aggregates : List Aggregate) (row : Row) (xs : List Row) (r : RowOf by aggregates row xs) → pick (first_columns (length by)) row ≡ r.key
row-key by aggregates row xs r = ap (λ v. pick (first_columns (length by)) v) r.row_is ∙ pick-key (length by) r.key (map (λ a. aggregate_of a xs) aggregates) r.long

filter-every : {X : Type 0} (p : X → Bool) (xs : List X) → list_all p xs ≡ true → filter p xs ≡ xs
filter-every p [] h = refl
filter-every p (x ∷ xs) h = ap (λ b. cond b (x ∷ filter p xs) (filter p xs)) (and-left (p x) (list_all p xs) h) ∙ ap (λ l. x ∷ l) (filter-every p xs (and-right (p x) (list_all p xs) h))

filter-nothing : {X : Type 0} (p : X → Bool) (xs : List X) → list_all (λ x. not (p x)) xs ≡ true → filter p xs ≡ []
filter-nothing p [] h = refl
filter-nothing p (x ∷ xs) h =
    let e : p x ≡ false = not-true (p x) (and-left (not (p x)) (list_all (λ x. not (p x)) xs) h) in
    ap (λ b. cond b (x ∷ filter p xs) (filter p xs)) e ∙ filter-nothing p xs (and-right (not (p x)) (list_all (λ x. not (p x)) xs) h)

-- rows of which each stands once are those that stand first
once-firsts : (ys : List Row) → ((r : Row) → count (row_eq r) ys ≤ 1) → firsts ys ≡ ys
once-firsts [] h = refl
once-firsts (y ∷ ys) h =
    let here = h y in
    let one = flag-yes (row_eq y y) (row_eq-refl y) in
    ap (λ l. y ∷ l) (ap (filter (λ z. not (row_eq y z))) (once-firsts ys (λ r. let a = h r in omega (arith, a)))
    ∙ filter-every (λ z. not (row_eq y z)) ys (absent ys (omega (arith, here, one))))
  where
    absent : (zs : List Row) → count (row_eq y) zs ≡ 0 → list_all (λ z. not (row_eq y z)) zs ≡ true
    absent [] e = refl
    absent (z ∷ zs) e = go (row_eq y z) refl (absent zs)
      where
        go : (b : Bool) → row_eq y z ≡ b → (count (row_eq y) zs ≡ 0 → list_all (λ z. not (row_eq y z)) zs ≡ true) → (not b && list_all (λ z. not (row_eq y z)) zs) ≡ true
        go true f ih = let a = flag-yes (row_eq y z) f in absurd (omega (arith, a, e))
        go false f ih = ih (omega (arith, e))

module _ (by : List ℕ) (aggregates : List Aggregate) where
  abbrev keys : List ℕ
  keys = first_columns (length by)

  abbrev puts : List Aggregate
  puts = merged (length by) aggregates

  abbrev good : Piece → Bool
  good t = is_row_of by aggregates t.0 t.1

  rows-of-key : (key : Row) (ts : List Piece) → of_key keys key (rows-in ts) ≡ rows-in (filter (λ (t : Piece). row_eq key (pick keys t.0)) ts)
  rows-of-key key [] = refl
  rows-of-key key (t ∷ ts) = go (row_eq key (pick keys t.0)) (rows-of-key key ts)
    where
      go : (b : Bool) → of_key keys key (rows-in ts) ≡ rows-in (filter (λ (t : Piece). row_eq key (pick keys t.0)) ts)
          → cond b (t.0 ∷ of_key keys key (rows-in ts)) (of_key keys key (rows-in ts)) ≡ rows-in (cond b (t ∷ filter (λ (t : Piece). row_eq key (pick keys t.0)) ts) (filter (λ (t : Piece). row_eq key (pick keys t.0)) ts))
      go true e = ap (λ l. t.0 ∷ l) e
      go false e = e

  all-of-key : (key : Row) (ts : List Piece) → list_all good ts ≡ true → of_key by key (all-in ts) ≡ all-in (filter (λ (t : Piece). row_eq key (pick keys t.0)) ts)
  all-of-key key [] h = refl
  all-of-key key (t ∷ ts) h =
      let p : Row → Bool = λ r. row_eq key (pick by r) in
      let r = row-of by aggregates t.0 t.1 (and-left (good t) (list_all good ts) h) in
      let k = row-key by aggregates t.0 t.1 r in
      filter-append p t.1 (all-in ts) ∙ go (row_eq key (pick keys t.0)) refl r k (all-of-key key ts (and-right (good t) (list_all good ts) h))
    where
      go : (b : Bool) → row_eq key (pick keys t.0) ≡ b → (r : RowOf by aggregates t.0 t.1) → pick keys t.0 ≡ r.key
          → of_key by key (all-in ts) ≡ all-in (filter (λ (t : Piece). row_eq key (pick keys t.0)) ts)
          → filter (λ r. row_eq key (pick by r)) t.1 ++ of_key by key (all-in ts)
          ≡ all-in (cond b (t ∷ filter (λ (t : Piece). row_eq key (pick keys t.0)) ts) (filter (λ (t : Piece). row_eq key (pick keys t.0)) ts))
      go true e r k ih =
          let same : key ≡ r.key = row_eq-same key (pick keys t.0) e ∙ k in
          let P : Row → Type 0 = λ v. list_all (λ x. row_eq v (pick by x)) t.1 ≡ true in
          ap₂ (λ a b. a ++ b) (filter-every (λ x. row_eq key (pick by x)) t.1 (subst P (sym same) r.alike)) ih
      go false e r k ih =
          ap₂ (λ a b. a ++ b) (filter-nothing (λ x. row_eq key (pick by x)) t.1
          (list_all-weaken (λ x. row_eq r.key (pick by x)) (λ x. not (row_eq key (pick by x)))
          (λ x g. other x (row_eq key (pick by x)) refl g) t.1 r.alike)) ih
        where
          other : (x : Row) (b : Bool) → row_eq key (pick by x) ≡ b → row_eq r.key (pick by x) ≡ true → not b ≡ true
          other x false f g = refl
          other x true f g =
              let a : key ≡ pick by x = row_eq-same key (pick by x) f in
              let b : r.key ≡ pick by x = row_eq-same r.key (pick by x) g in
              let c : key ≡ pick keys t.0 = a ∙ (sym b ∙ sym k) in
              let P : Row → Type 0 = λ v. row_eq key v ≡ true in
              absurd (true≢false (sym (subst P c (row_eq-refl key)) ∙ e))

  showing : (key : Row) (ts : List Piece) → list_all good ts ≡ true → list_all (shows-all (length by) aggregates) (filter (λ (t : Piece). row_eq key (pick keys t.0)) ts) ≡ true
  showing key ts h = list_all-weaken good (shows-all (length by) aggregates) (λ t e. row-shows by aggregates t e) (filter (λ (t : Piece). row_eq key (pick keys t.0)) ts)
      (Rattle.vx_exec_laws.proofs.Orders.list_all-filter good (λ (t : Piece). row_eq key (pick keys t.0)) ts h)

  merged-row : (key : Row) (ts : List Piece) → list_all good ts ≡ true → group_row keys puts (rows-in ts) key ≡ group_row by aggregates (all-in ts) key
  merged-row key ts h =
      let fs : List Piece = filter (λ (t : Piece). row_eq key (pick keys t.0)) ts in
      ap (λ xs. key ++ map (λ a. aggregate_of a xs) puts) (rows-of-key key ts)
      ∙ (ap (λ vs. key ++ vs) (merged-values (length by) aggregates fs (showing key ts h))
      ∙ ap (λ xs. key ++ map (λ a. aggregate_of a xs) aggregates) (sym (all-of-key key ts h)))

  merged-row-fits : (key : Row) (ts : List Piece) → list_all good ts ≡ true → group_fits keys puts (rows-in ts) key ≡ group_fits by aggregates (all-in ts) key
  merged-row-fits key ts h =
      let fs : List Piece = filter (λ (t : Piece). row_eq key (pick keys t.0)) ts in
      ap (λ xs. list_all (λ a. fits a xs) puts) (rows-of-key key ts)
      ∙ (merged-fits (length by) aggregates fs (showing key ts h)
      ∙ ap (λ xs. list_all (λ a. fits a xs) aggregates) (sym (all-of-key key ts h)))

  -- the keys of parts are those of the rows that they stand for
  merged-keys : (ts : List Piece) → list_all good ts ≡ true → SameRows (group_keys keys (rows-in ts)) (group_keys by (all-in ts))
  merged-keys ts h = same-from-counts (group_keys keys (rows-in ts)) (group_keys by (all-in ts)) (λ r.
      firsts-count r (map (pick keys) (rows-in ts)) ∙ (signs r ts h ∙ sym (firsts-count r (map (pick by) (all-in ts)))))
    where
      sign-both : (a b c d : ℕ) → sign a ≡ sign c → sign b ≡ sign d → sign (a + b) ≡ sign (c + d)
      sign-both a b c d e f = go a b c d e f
        where
          zero-sign : (n : ℕ) → sign n ≡ 0 → n ≡ 0
          zero-sign zero e = refl
          zero-sign (suc n) e = absurd (omega (arith, e))

          go : (a b c d : ℕ) → sign a ≡ sign c → sign b ≡ sign d → sign (a + b) ≡ sign (c + d)
          go zero b c d e f =
              let z : c ≡ 0 = zero-sign c (sym e) in
              let x : 0 + b ≡ b = omega arith in
              let y : d ≡ c + d = omega (arith, z) in
              ap sign x ∙ (f ∙ ap sign y)
          go (suc a) b zero d e f = absurd (omega (arith, e))
          go (suc a) b (suc c) d e f =
              let x : suc a + b ≡ suc (a + b) = omega arith in
              let y : suc (c + d) ≡ suc c + d = omega arith in
              ap sign x ∙ ap sign y

      one-piece : (r : Row) (t : Piece) → good t ≡ true → sign (cond (row_eq r (pick keys t.0)) 1 0) ≡ sign (total (λ x. cond (row_eq r (pick by x)) 1 0) t.1)
      one-piece r t g =
          let o = row-of by aggregates t.0 t.1 g in
          let k = row-key by aggregates t.0 t.1 o in
          let P : Row → Type 0 = λ v. sign (cond (row_eq r v) 1 0) ≡ sign (total (λ x. cond (row_eq r (pick by x)) 1 0) t.1) in
          subst P (sym k) (go (row_eq r o.key) o refl)
        where
          each-one : (xs : List Row) → list_all (λ x. row_eq r (pick by x)) xs ≡ true → is_some_list xs ≡ true → sign (total (λ x. cond (row_eq r (pick by x)) 1 0) xs) ≡ 1
          each-one [] a s = absurd (true≢false (sym s))
          each-one (x ∷ xs) a s =
              let f = flag-yes (row_eq r (pick by x)) (and-left (row_eq r (pick by x)) (list_all (λ x. row_eq r (pick by x)) xs) a) in
              let m : ℕ = total (λ x. cond (row_eq r (pick by x)) 1 0) xs in
              let e : cond (row_eq r (pick by x)) 1 0 + m ≡ suc m = omega (arith, f) in
              ap sign e

          none : (xs : List Row) → list_all (λ x. not (row_eq r (pick by x))) xs ≡ true → sign (total (λ x. cond (row_eq r (pick by x)) 1 0) xs) ≡ 0
          none xs a =
              let e : total (λ x. cond (row_eq r (pick by x)) 1 0) xs ≡ total (λ x. 0) xs
              = total-all-ext (λ x. not (row_eq r (pick by x))) (λ x. cond (row_eq r (pick by x)) 1 0) (λ x. 0) (λ x n. flag-no (row_eq r (pick by x)) (not-true (row_eq r (pick by x)) n)) xs a in
              ap sign (e ∙ total-zero xs)

          go : (b : Bool) (o : RowOf by aggregates t.0 t.1) → row_eq r o.key ≡ b → sign (cond b 1 0) ≡ sign (total (λ x. cond (row_eq r (pick by x)) 1 0) t.1)
          go true o e =
              let same : r ≡ o.key = row_eq-same r o.key e in
              let P : Row → Type 0 = λ v. list_all (λ x. row_eq v (pick by x)) t.1 ≡ true in
              sym (each-one t.1 (subst P (sym same) o.alike) o.some)
          go false o e = sym (none t.1 (list_all-weaken (λ x. row_eq o.key (pick by x)) (λ x. not (row_eq r (pick by x))) (λ x g. apart x (row_eq r (pick by x)) refl g) t.1 o.alike))
            where
              apart : (x : Row) (b : Bool) → row_eq r (pick by x) ≡ b → row_eq o.key (pick by x) ≡ true → not b ≡ true
              apart x false f g = refl
              apart x true f g =
                  let c : r ≡ o.key = row_eq-same r (pick by x) f ∙ sym (row_eq-same o.key (pick by x) g) in
                  let P : Row → Type 0 = λ v. row_eq r v ≡ true in
                  absurd (true≢false (sym (subst P c (row_eq-refl r)) ∙ e))

      signs : (r : Row) (ts : List Piece) → list_all good ts ≡ true → sign (count (row_eq r) (map (pick keys) (rows-in ts))) ≡ sign (count (row_eq r) (map (pick by) (all-in ts)))
      signs r [] h = refl
      signs r (t ∷ ts) h =
          let p : Row → ℕ = λ x. cond (row_eq r (pick by x)) 1 0 in
          let m : count (row_eq r) (map (pick by) (t.1 ++ all-in ts)) ≡ total p (t.1 ++ all-in ts) = total-map (λ y. cond (row_eq r y) 1 0) (pick by) (t.1 ++ all-in ts) in
          let a : total p (t.1 ++ all-in ts) ≡ total p t.1 + total p (all-in ts) = total-append p t.1 (all-in ts) in
          let b : count (row_eq r) (map (pick by) (all-in ts)) ≡ total p (all-in ts) = total-map (λ y. cond (row_eq r y) 1 0) (pick by) (all-in ts) in
          sign-both (cond (row_eq r (pick keys t.0)) 1 0) (count (row_eq r) (map (pick keys) (rows-in ts))) (total p t.1) (total p (all-in ts))
          (one-piece r t (and-left (good t) (list_all good ts) h)) (signs r ts (and-right (good t) (list_all good ts) h) ∙ ap sign b)
          ∙ ap sign (sym (m ∙ a))

  -- what a final gives for a key
  pub final-row : (base xs : List Row) → Parts by aggregates base xs → (key : Row) → group_row keys puts xs key ≡ group_row by aggregates base key
  final-row base xs p key =
      let P : List Row → Type 0 = λ l. group_row keys puts l key ≡ group_row by aggregates base key in
      subst P p.rows_are (merged-row key p.pieces p.each ∙ group_row-same by aggregates (all-in p.pieces) base key (of_key-same by key p.whole))

  -- the groups of parts are those of the rows that they stand for
  pub final-groups : (base xs : List Row) → Parts by aggregates base xs → SameRows (groups keys puts xs) (groups by aggregates base)
  final-groups base xs p =
      let ts : List Piece = p.pieces in
      let P : List Row → Type 0 = λ l. SameRows (groups keys puts l) (groups by aggregates base) in
      subst P p.rows_are (SameRows-trans
      (record {
        totals = λ f.
            let k = merged-keys ts p.each in
            total-map f (group_row keys puts (rows-in ts)) (group_keys keys (rows-in ts))
            ∙ (total-ext (λ key. f (group_row keys puts (rows-in ts) key)) (λ key. f (group_row by aggregates (all-in ts) key)) (λ key. ap f (merged-row key ts p.each)) (group_keys keys (rows-in ts))
            ∙ (k.totals (λ key. f (group_row by aggregates (all-in ts) key)) ∙ sym (total-map f (group_row by aggregates (all-in ts)) (group_keys by (all-in ts)))));
      })
      (groups-same by aggregates (all-in ts) base p.whole))

  -- and they fit 64 bits where those do
  pub final-fits : (base xs : List Row) → Parts by aggregates base xs → list_all (group_fits by aggregates base) (group_keys by base) ≡ true
      → list_all (group_fits keys puts xs) (group_keys keys xs) ≡ true
  final-fits base xs p h =
      let ts : List Piece = p.pieces in
      let P : List Row → Type 0 = λ l. list_all (group_fits keys puts l) (group_keys keys l) ≡ true in
      let k = fits-same-rows by aggregates base (all-in ts) (SameRows-sym p.whole) h in
      subst P p.rows_are (list_all-weaken (group_fits by aggregates (all-in ts)) (group_fits keys puts (rows-in ts)) (λ key e. merged-row-fits key ts p.each ∙ e) (group_keys keys (rows-in ts))
      (SameRows-all (SameRows-sym (merged-keys ts p.each)) (group_fits by aggregates (all-in ts)) k))

  pub fits-final : (base xs : List Row) → Parts by aggregates base xs → list_all (group_fits keys puts xs) (group_keys keys xs) ≡ true
      → list_all (group_fits by aggregates base) (group_keys by base) ≡ true
  fits-final base xs p h =
      let ts : List Piece = p.pieces in
      let P : List Row → Type 0 = λ l. list_all (group_fits keys puts l) (group_keys keys l) ≡ true in
      let k : list_all (group_fits keys puts (rows-in ts)) (group_keys keys (rows-in ts)) ≡ true = subst P (sym p.rows_are) h in
      fits-same-rows by aggregates (all-in ts) base p.whole
      (SameRows-all (merged-keys ts p.each) (group_fits by aggregates (all-in ts))
      (list_all-weaken (group_fits keys puts (rows-in ts)) (group_fits by aggregates (all-in ts)) (λ key e. sym (merged-row-fits key ts p.each) ∙ e) (group_keys keys (rows-in ts)) k))

  -- the groups, in any order, are parts of themselves, and a final gives them again, in this order
  keys-again : (base ks : List Row) → SameRows ks (group_keys by base) → group_keys keys (map (group_row by aggregates base) ks) ≡ ks
  keys-again base ks s =
      ap firsts (go ks (SameRows-all (SameRows-sym s) (λ r. length r == length by) (firsts-all (λ r. length r == length by) (map (pick by) base) (picks-wide by base))))
      ∙ once-firsts ks (λ r.
      let a : count (row_eq r) ks ≡ count (row_eq r) (group_keys by base) = s.totals (λ x. cond (row_eq r x) 1 0) in
      let b : count (row_eq r) (group_keys by base) ≤ 1 = firsts-at-most r (map (pick by) base) in
      omega (arith, a, b))
    where
      go : (ks : List Row) → list_all (λ (r : Row). length r == length by) ks ≡ true → map (pick keys) (map (group_row by aggregates base) ks) ≡ ks
      go [] h = refl
      go (k ∷ ks) h =
          ap₂ (λ a b. a ∷ b) (pick-key (length by) k (map (λ a. aggregate_of a (of_key by k base)) aggregates) (eqb-true (length k) (length by) (and-left (length k == length by) (list_all (λ (r : Row). length r == length by) ks) h)))
          (go ks (and-right (length k == length by) (list_all (λ (r : Row). length r == length by) ks) h))

  pub final-again : (base ks : List Row) → SameRows ks (group_keys by base) → list_all (group_fits by aggregates base) (group_keys by base) ≡ true
      → group_rows keys puts (map (group_row by aggregates base) ks) ≡ Some (map (group_row by aggregates base) ks)
  final-again base ks s h =
      let xs : List Row = map (group_row by aggregates base) ks in
      let p = Parts-order by aggregates base (groups by aggregates base) xs (linear-same (Linear-map (group_row by aggregates base)) (SameRows-sym s)) (Parts-groups by aggregates base) in
      ap (λ b. cond b (Some (groups keys puts xs)) None) (final-fits base xs p h)
      ∙ ap (λ l. Some l) (ap (map (group_row keys puts xs)) (keys-again base ks s) ∙ rows-same xs p ks)
    where
      rows-same : (xs : List Row) → Parts by aggregates base xs → (ks : List Row) → map (group_row keys puts xs) ks ≡ map (group_row by aggregates base) ks
      rows-same xs p [] = refl
      rows-same xs p (k ∷ ks) = ap₂ (λ a b. a ∷ b) (final-row base xs p k) (rows-same xs p ks)
