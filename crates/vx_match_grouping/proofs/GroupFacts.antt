-- An aggregate of all groups when one more row comes.
use Rattle.std.proofs.Common.{◌≡◌, ℕ, zero, suc, ◌+◌, ◌<◌, ◌≤◌, List, [], ◌∷◌, ◌++◌, map, length, take, get_or, set, true, false, append_assoc, refl, sym, ap, ◌∙◌, subst, take_all, length-set, add-one, arith}
use Rattle.std.specs.Prelude.{slice_range}
use Rattle.std.specs.List.{list_any, position_or_len}
use Rattle.std.proofs.lemmas.List.{length-map, map-append, get_or-map, take-map, take_more, append-nil, set-get_or, get_or-set_same, set-set}
use Rattle.indexmap.specs.IndexSet.{insert_all}
use Rattle.vx_rows_values.specs.Values.{Row, row_eq, pick}
use Rattle.vx_rows_views.proofs.Whole.{take-range}
use Rattle.vx_plan_nodes.specs.Plan.{Aggregate}
use Rattle.vx_plan_nodes.specs.Serial.{group_keys, of_key, firsts}
use Rattle.vx_match_keys.specs.Numbers.{numbers_of}
use Rattle.vx_match_keys.proofs.KeyFacts.{row_eq-refl, eq-swap, any-firsts, firsts-distinct, keyed-any, keyed-present, keyed-own, keyed-new, keyed-none, of_key-other, of_key-more, of_key-none, of_key-some}
use Rattle.vx_match_keys.proofs.NumberFacts.{number-at, firsts-all}
use Rattle.vx_match_grouping.specs.Groups.{Held, held_of, no_held, advance, column_of}
use Rattle.vx_match_grouping.specs.Takes.{advance_all}
use Rattle.vx_match_grouping.proofs.AggregateFacts.{held-push}

-- an aggregate of the rows of a key
abbrev pub of_rows : List ℕ → Aggregate → List Row → Row → Held
of_rows by a xs k = held_of a (of_key by k xs)

held-other : (by : List ℕ) (a : Aggregate) (xs : List Row) (y z : Row) → row_eq (pick by y) z ≡ false → of_rows by a (xs ++ y ∷ []) z ≡ of_rows by a xs z
held-other by a xs y z h = ap (held_of a) (of_key-other by z xs y (eq-swap z (pick by y) ∙ h))

held-own : (by : List ℕ) (a : Aggregate) (xs : List Row) (y : Row) → list_any (row_eq (pick by y)) (group_keys by xs) ≡ true
    → of_rows by a (xs ++ y ∷ []) (pick by y) ≡ advance y (of_rows by a xs (pick by y))
held-own by a xs y h =
    let some = of_key-some by (pick by y) xs (sym (any-firsts (pick by y) (map (pick by) xs)) ∙ h) in
    ap (held_of a) (of_key-more by (pick by y) xs y (row_eq-refl (pick by y)))
    ∙ (ap (λ l. held_of a (l ++ y ∷ [])) some.1.1
    ∙ (held-push a some.0 some.1.0 y ∙ ap (λ l. advance y (held_of a l)) (sym some.1.1)))

-- a row of a key that is there changes that key's entry
column-known : (by : List ℕ) (a : Aggregate) (xs : List Row) (y : Row) (n : ℕ) → n ≡ position_or_len (row_eq (pick by y)) (group_keys by xs) → n < length (group_keys by xs)
    → column_of by (xs ++ y ∷ []) a ≡ set (column_of by xs a) n (advance y (get_or (column_of by xs a) n no_held))
column-known by a xs y n at inside =
    keyed-present (of_rows by a xs) (of_rows by a (xs ++ y ∷ [])) by xs y n at inside (firsts-distinct (map (pick by) xs)) (λ z h. held-other by a xs y z h)
    ∙ ap (set (column_of by xs a) n) (held-own by a xs y (keyed-any by xs y n at inside).1 ∙ ap (advance y) (sym (keyed-own (of_rows by a xs) by xs y n no_held at inside)))

-- a row of a new key has an entry of its own
column-new : (by : List ℕ) (a : Aggregate) (xs : List Row) (y : Row) → length (group_keys by xs) ≤ position_or_len (row_eq (pick by y)) (group_keys by xs)
    → column_of by (xs ++ y ∷ []) a ≡ column_of by xs a ++ held_of a (y ∷ []) ∷ []
column-new by a xs y past =
    keyed-new (of_rows by a xs) (of_rows by a (xs ++ y ∷ [])) by xs y past (λ z h. held-other by a xs y z h)
    ∙ ap (λ l. column_of by xs a ++ held_of a l ∷ []) (of_key-more by (pick by y) xs y (row_eq-refl (pick by y)) ∙ ap (λ l. l ++ y ∷ []) (of_key-none by (pick by y) xs (keyed-none by xs y past)))

-- one number is below another, or is not
pub by-order : {P : Type 0} (n m : ℕ) → (n < m → P) → (m ≤ n → P) → P
by-order n zero f g = g (omega arith)
by-order zero (suc m) f g = f (omega arith)
by-order (suc n) (suc m) f g = by-order n m (λ l. f (omega (arith, l))) (λ l. g (omega (arith, l)))

-- the first i + 1 of rows, behind others
pub one-more : (xs rows : List Row) (i : ℕ) → i < length rows → xs ++ take (i + 1) rows ≡ (xs ++ take i rows) ++ get_or rows i [] ∷ []
one-more xs rows i near = ap (λ l. xs ++ l) (take_more rows i [] near) ∙ sym (append_assoc xs (take i rows) (get_or rows i [] ∷ []))

-- the same for a block of rows
pub block-more : (xs rows block : List Row) (from to : ℕ) → from ≤ to → to ≤ length rows → block ≡ slice_range rows from to → xs ++ take to rows ≡ (xs ++ take from rows) ++ block
block-more xs rows block from to le within is =
    ap (λ l. xs ++ l) (take-range rows from to le within) ∙ (sym (append_assoc xs (take from rows) (slice_range rows from to)) ∙ ap (λ l. (xs ++ take from rows) ++ l) (sym is))

-- the keys when rows come behind others
pub keys-more : (by : List ℕ) (xs rows : List Row) → insert_all row_eq (group_keys by xs) (map (pick by) rows) ≡ group_keys by (xs ++ rows)
keys-more by xs rows = firsts-all (map (pick by) xs) (map (pick by) rows) ∙ ap firsts (sym (map-append (pick by) xs rows))

-- the number of the key of the row that comes next
number-next : (by : List ℕ) (xs rows : List Row) (numbers : List ℕ) (i : ℕ) → i < length rows → numbers ≡ numbers_of (group_keys by xs) (map (pick by) rows)
    → get_or numbers i 0 ≡ position_or_len (row_eq (pick by (get_or rows i []))) (group_keys by (xs ++ take i rows))
number-next by xs rows numbers i near are =
    let f = pick by in
    let near' : i < length (map f rows) = let long = length-map rows f in omega (arith, near, long) in
    let keys : insert_all row_eq (group_keys by xs) (take i (map f rows)) ≡ group_keys by (xs ++ take i rows) =
    ap (insert_all row_eq (group_keys by xs)) (take-map f i rows) ∙ keys-more by xs (take i rows) in
    ap (λ ns. get_or ns i 0) are
    ∙ (number-at (group_keys by xs) (map f rows) i near'
    ∙ (λ j. position_or_len (row_eq (get_or-map f rows i [] [] near j)) (keys j)))

-- one row more came, to the entry of its number or as the first of the next one
pub takes-next : (a : Aggregate) (by : List ℕ) (xs rows : List Row) (numbers : List ℕ) (i : ℕ) (now next : List Held) → i < length rows → numbers ≡ numbers_of (group_keys by xs) (map (pick by) rows)
    → now ≡ column_of by (xs ++ take i rows) a
    → (get_or numbers i 0 < length now → next ≡ set now (get_or numbers i 0) (advance (get_or rows i []) (get_or now (get_or numbers i 0) no_held)))
    → (length now ≤ get_or numbers i 0 → next ≡ now ++ held_of a (get_or rows i [] ∷ []) ∷ [])
    → next ≡ column_of by (xs ++ take (i + 1) rows) a
takes-next a by xs rows numbers i now next near are was known fresh =
    let ys = xs ++ take i rows in
    let y = get_or rows i [] in
    let n = get_or numbers i 0 in
    let at = number-next by xs rows numbers i near are in
    let long : length now ≡ length (group_keys by ys) = ap length was ∙ length-map (group_keys by ys) (of_rows by a ys) in
    by-order n (length now)
    (λ below. known below ∙ (ap (λ l. set l n (advance y (get_or l n no_held))) was ∙ sym (column-known by a ys y n at (omega (arith, below, long)))))
    (λ past. fresh past ∙ (ap (λ l. l ++ held_of a (y ∷ []) ∷ []) was ∙ sym (column-new by a ys y (omega (arith, past, long, at)))))
    ∙ ap (λ l. column_of by l a) (sym (one-more xs rows i near))

-- one row more, behind those that an aggregate took
advance-behind : (rows : List Row) (y : Row) (h : Held) → advance_all (rows ++ y ∷ []) h ≡ advance y (advance_all rows h)
advance-behind [] y h = refl
advance-behind (x ∷ rows) y h = advance-behind rows y (advance x h)

pub advance-more : (rows : List Row) (i : ℕ) (h : Held) → i < length rows → advance_all (take (i + 1) rows) h ≡ advance (get_or rows i []) (advance_all (take i rows) h)
advance-more rows i h near = ap (λ l. advance_all l h) (take_more rows i [] near) ∙ advance-behind (take i rows) (get_or rows i []) h

-- the first i rows, which have one key, came to its entry
pub one-front : (a : Aggregate) (by : List ℕ) (xs rows : List Row) (numbers : List ℕ) (old : List Held) (n : ℕ) → numbers ≡ numbers_of (group_keys by xs) (map (pick by) rows)
    → old ≡ column_of by xs a → n < length old → ((k : ℕ) → k < length rows → get_or numbers k 0 ≡ n)
    → (i : ℕ) → i ≤ length rows → set old n (advance_all (take i rows) (get_or old n no_held)) ≡ column_of by (xs ++ take i rows) a
one-front a by xs rows numbers old n are was inside same zero l = set-get_or old n no_held ∙ (was ∙ ap (λ ys. column_of by ys a) (sym (append-nil xs)))
one-front a by xs rows numbers old n are was inside same (suc i) l =
    let near : i < length rows = omega (arith, l) in
    let h = advance_all (take i rows) (get_or old n no_held) in
    let y = get_or rows i [] in
    let now = set old n h in
    let next = set old n (advance_all (take (i + 1) rows) (get_or old n no_held)) in
    let long : length now ≡ length old = length-set old n h in
    let step : next ≡ set now n (advance y (get_or now n no_held)) =
    ap (set old n) (advance-more rows i (get_or old n no_held) near ∙ ap (advance y) (sym (get_or-set_same old n h no_held inside))) ∙ sym (set-set old n h (advance y (get_or now n no_held))) in
    let all : next ≡ column_of by (xs ++ take (i + 1) rows) a =
    takes-next a by xs rows numbers i now next near are (one-front a by xs rows numbers old n are was inside same i (omega (arith, l)))
    (λ below. subst (λ m. next ≡ set now m (advance y (get_or now m no_held))) (sym (same i near)) step)
    (λ past. let own = same i near in absurd (omega (arith, past, own, inside, long))) in
    subst (λ m. set old n (advance_all (take m rows) (get_or old n no_held)) ≡ column_of by (xs ++ take m rows) a) (add-one i) all

-- all rows came to it
pub one-takes : (a : Aggregate) (by : List ℕ) (xs rows : List Row) (numbers : List ℕ) (old : List Held) (n : ℕ) → numbers ≡ numbers_of (group_keys by xs) (map (pick by) rows)
    → old ≡ column_of by xs a → n < length old → ((k : ℕ) → k < length rows → get_or numbers k 0 ≡ n)
    → set old n (advance_all rows (get_or old n no_held)) ≡ column_of by (xs ++ rows) a
one-takes a by xs rows numbers old n are was inside same =
    let whole : take (length rows) rows ≡ rows = take_all (length rows) rows (omega arith) in
    subst (λ ys. set old n (advance_all ys (get_or old n no_held)) ≡ column_of by (xs ++ ys) a) whole (one-front a by xs rows numbers old n are was inside same (length rows) (omega arith))
