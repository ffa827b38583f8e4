-- The build side of a join, one row at a time.
use Rattle.std.proofs.Common.{◌≡◌, ℕ, zero, suc, ◌+◌, ◌<◌, ◌≤◌, false, true, List, [], ◌∷◌, ◌++◌, map, filter, take, length, get_or, set, refl, sym, ap, ◌∙◌, subst, arith, append_assoc, take_all, inl, inr}
use Rattle.std.specs.List.{IsDistinct, position_or_len}
use Rattle.std.proofs.lemmas.Bool.{cases_lt}
use Rattle.std.proofs.lemmas.List.{get_or-map, length-map, length-append, map-append, append-nil, take_more, take-map, length-take-le}
use Rattle.std.proofs.lemmas.List.Sums.{passes_at_first}
use Rattle.indexmap.specs.IndexSet.{insert_all}
use Rattle.vx_rows_values.specs.Values.{Row, row_eq, pick}
use Rattle.vx_plan_nodes.specs.Serial.{firsts, group_keys}
use Rattle.vx_rows_values.specs.Equality.{row_eq-same}
use Rattle.vx_rows.specs.Lists.{each_below}
use Rattle.vx_rows.proofs.Below.{each_below-next, length-each_below, get_or-each_below}
use Rattle.vx_match_join.specs.Build.{IsIndex, parts_of, places_of}
use Rattle.vx_match_keys.specs.Numbers.{numbers_of}
use Rattle.vx_match_keys.proofs.KeyFacts.{eq-swap, row_eq-refl, any-firsts, any-absent, keyed-present, keyed-own, keyed-new, keyed-none, firsts-distinct}
use Rattle.vx_match_keys.proofs.NumberFacts.{number-at, firsts-all, numbers-long}
use Rattle.vx_match_join.proofs.PlaceFacts.{places-other, places-more, places-none, rows-at}

other : (by : List ℕ) (xs : List Row) (y z : Row) → row_eq (pick by y) z ≡ false → places_of by z (xs ++ y ∷ []) ≡ places_of by z xs
other by xs y z h = places-other by z xs y (eq-swap z (pick by y) ∙ h)

-- a row of a key that is there goes behind that key's rows
parts-present : (by : List ℕ) (xs : List Row) (y : Row) (n : ℕ) → n ≡ position_or_len (row_eq (pick by y)) (group_keys by xs) → n < length (group_keys by xs) → IsDistinct row_eq (group_keys by xs)
    → parts_of by (xs ++ y ∷ []) ≡ set (parts_of by xs) n (get_or (parts_of by xs) n [] ++ length xs ∷ [])
parts-present by xs y n at inside distinct =
    keyed-present (λ k. places_of by k xs) (λ k. places_of by k (xs ++ y ∷ [])) by xs y n at inside distinct (λ z h. other by xs y z h)
    ∙ ap (set (parts_of by xs) n) (places-more by (pick by y) xs y (row_eq-refl (pick by y)) ∙ ap (λ l. l ++ length xs ∷ []) (sym (keyed-own (λ k. places_of by k xs) by xs y n [] at inside)))

-- a row of a new key is a part of its own
parts-new : (by : List ℕ) (xs : List Row) (y : Row) → length (group_keys by xs) ≤ position_or_len (row_eq (pick by y)) (group_keys by xs) → parts_of by (xs ++ y ∷ []) ≡ parts_of by xs ++ (length xs ∷ []) ∷ []
parts-new by xs y past =
    keyed-new (λ k. places_of by k xs) (λ k. places_of by k (xs ++ y ∷ [])) by xs y past (λ z h. other by xs y z h)
    ∙ ap (λ l. parts_of by xs ++ l ∷ []) (places-more by (pick by y) xs y (row_eq-refl (pick by y)) ∙ ap (λ l. l ++ length xs ∷ []) (places-none by (pick by y) xs (keyed-none by xs y past)))

-- the keys when rows come behind others
pub keys-more : (by : List ℕ) (xs rows : List Row) → insert_all row_eq (group_keys by xs) (map (pick by) rows) ≡ group_keys by (xs ++ rows)
keys-more by xs rows = firsts-all (map (pick by) xs) (map (pick by) rows) ∙ ap firsts (sym (map-append (pick by) xs rows))

-- the parts when one more row comes behind others and the first i, by the number of its key
module _ (by : List ℕ) (xs rows : List Row) (first : ℕ) (ns : List ℕ) (here : length xs ≡ first) (are : ns ≡ numbers_of (group_keys by xs) (map (pick by) rows)) (i : ℕ) (near : i < length rows) where
  row-more : xs ++ take (i + 1) rows ≡ (xs ++ take i rows) ++ get_or rows i [] ∷ []
  row-more = ap (λ l. xs ++ l) (take_more rows i [] near) ∙ sym (append_assoc xs (take i rows) (get_or rows i [] ∷ []))

  place-is : length (xs ++ take i rows) ≡ first + i
  place-is =
      let long = length-append xs (take i rows) in
      let part = length-take-le i rows (omega (arith, near)) in
      omega (arith, long, part, here)

  number-is : get_or ns i 0 ≡ position_or_len (row_eq (pick by (get_or rows i []))) (group_keys by (xs ++ take i rows))
  number-is =
      let f = pick by in
      let long = length-map rows f in
      let keys : insert_all row_eq (group_keys by xs) (take i (map f rows)) ≡ group_keys by (xs ++ take i rows) =
      ap (insert_all row_eq (group_keys by xs)) (take-map f i rows) ∙ keys-more by xs (take i rows) in
      ap (λ l. get_or l i 0) are
      ∙ (number-at (group_keys by xs) (map f rows) i (omega (arith, near, long))
      ∙ (λ j. position_or_len (row_eq (get_or-map f rows i [] [] near j)) (keys j)))

  parts-long : length (parts_of by (xs ++ take i rows)) ≡ length (group_keys by (xs ++ take i rows))
  parts-long = length-map (group_keys by (xs ++ take i rows)) (λ k. places_of by k (xs ++ take i rows))

  part-more : get_or ns i 0 < length (parts_of by (xs ++ take i rows))
      → parts_of by (xs ++ take (i + 1) rows) ≡ set (parts_of by (xs ++ take i rows)) (get_or ns i 0) (get_or (parts_of by (xs ++ take i rows)) (get_or ns i 0) [] ++ (first + i) ∷ [])
  part-more h =
      let ys = xs ++ take i rows in
      let n = get_or ns i 0 in
      let long = parts-long in
      ap (parts_of by) row-more
      ∙ (parts-present by ys (get_or rows i []) n number-is (omega (arith, h, long)) (firsts-distinct (map (pick by) ys))
      ∙ ap (λ m. set (parts_of by ys) n (get_or (parts_of by ys) n [] ++ m ∷ [])) place-is)

  pub part-next : length (parts_of by (xs ++ take i rows)) ≤ get_or ns i 0 → parts_of by (xs ++ take (i + 1) rows) ≡ parts_of by (xs ++ take i rows) ++ ((first + i) ∷ []) ∷ []
  part-next h =
      let ys = xs ++ take i rows in
      let long = parts-long in
      let at = number-is in
      ap (parts_of by) row-more
      ∙ (parts-new by ys (get_or rows i []) (omega (arith, h, long, at)) ∙ ap (λ m. parts_of by ys ++ (m ∷ []) ∷ []) place-is)

  -- its place went to the part of its number, or is the first of the next one
  pub adds-next : (now next : List (List ℕ)) → now ≡ parts_of by (xs ++ take i rows)
      → (get_or ns i 0 < length now → next ≡ set now (get_or ns i 0) (get_or now (get_or ns i 0) [] ++ (first + i) ∷ []))
      → (length now ≤ get_or ns i 0 → next ≡ now ++ ((first + i) ∷ []) ∷ [])
      → next ≡ parts_of by (xs ++ take (i + 1) rows)
  adds-next now next was known fresh =
      let n = get_or ns i 0 in
      let many = ap length was in
      elim (cases_lt n (length now)) [
        | inl l ↦ known l ∙ (ap (λ (ps : List (List ℕ)). set ps n (get_or ps n [] ++ (first + i) ∷ [])) was ∙ sym (part-more (omega (arith, l, many))))
        | inr g ↦ fresh (omega (arith, g)) ∙ (ap (λ (ps : List (List ℕ)). ps ++ ((first + i) ∷ []) ∷ []) was ∙ sym (part-next (omega (arith, g, many))))
      ]

pub length-numbers : (by : List ℕ) (xs rows : List Row) (ns : List ℕ) → ns ≡ numbers_of (group_keys by xs) (map (pick by) rows) → length ns ≡ length rows
length-numbers by xs rows ns are = ap length are ∙ (numbers-long (group_keys by xs) (map (pick by) rows) ∙ length-map rows (pick by))

-- a key that is found has its part, and one that is not has no rows
pub part-found : (by : List ℕ) (rows keys : List Row) (parts : List (List ℕ)) (key : Row) (n : ℕ) → IsIndex by rows keys parts → n ≡ position_or_len (row_eq key) (group_keys by rows) → n < length parts
    → get_or parts n [] ≡ places_of by key rows
part-found by rows keys parts key n is at inside =
    let ks = group_keys by rows in
    let long : length parts ≡ length ks = ap length is.parts_are ∙ length-map ks (λ k. places_of by k rows) in
    let near : n < length ks = omega (arith, inside, long) in
    let passes : row_eq key (get_or ks n []) ≡ true = subst (λ m. row_eq key (get_or ks m []) ≡ true) (sym at) (passes_at_first (row_eq key) ks [] (subst (λ m. m < length ks) at near)) in
    ap (λ l. get_or l n []) is.parts_are ∙ (get_or-map (λ k. places_of by k rows) ks n [] [] near ∙ ap (λ k. places_of by k rows) (sym (row_eq-same key (get_or ks n []) passes)))

pub key-missing : (by : List ℕ) (rows : List Row) (key : Row) (n : ℕ) → n ≡ position_or_len (row_eq key) (group_keys by rows) → length (group_keys by rows) ≤ n → [] ≡ places_of by key rows
key-missing by rows key n at past =
    sym (places-none by key rows (sym (any-firsts key (map (pick by) rows)) ∙ any-absent (row_eq key) (group_keys by rows) (omega (arith, past, at))))

pub part-missing : (by : List ℕ) (rows keys : List Row) (parts : List (List ℕ)) (key : Row) (n : ℕ) → IsIndex by rows keys parts → n ≡ position_or_len (row_eq key) (group_keys by rows) → length parts ≤ n
    → [] ≡ places_of by key rows
part-missing by rows keys parts key n is at past =
    let ks = group_keys by rows in
    let long : length parts ≡ length ks = ap length is.parts_are ∙ length-map ks (λ k. places_of by k rows) in
    key-missing by rows key n at (omega (arith, past, long))

behind : (l : Row) (f : ℕ → Row) (ks : List ℕ) → map (λ j. l ++ f j) ks ≡ map (λ r. l ++ r) (map f ks)
behind l f [] = refl
behind l f (k ∷ ks) = ap (λ rows. (l ++ f k) ∷ rows) (behind l f ks)

-- the right rows at the places of a key, each behind a left row
pub joined-at : (l : Row) (by : List ℕ) (key : Row) (rs : List Row) → map (λ j. l ++ get_or rs j []) (places_of by key rs) ≡ map (λ r. l ++ r) (filter (λ r. row_eq key (pick by r)) rs)
joined-at l by key rs = behind l (λ j. get_or rs j []) (places_of by key rs) ∙ ap (map (λ r. l ++ r)) (rows-at (λ r. row_eq key (pick by r)) rs [])

-- where each key has one row and the numbers are those behind them, one by one, each key still has one row
module _ (by : List ℕ) (xs rows : List Row) (first : ℕ) (ns : List ℕ) (here : length xs ≡ first) (are : ns ≡ numbers_of (group_keys by xs) (map (pick by) rows))
    (single : each_below first (λ k. k ∷ []) ≡ parts_of by xs) (counted : ns ≡ each_below (length ns) (λ k. first + k)) where
  single-next : (m : ℕ) → m ≤ length rows → parts_of by (xs ++ take m rows) ≡ each_below (first + m) (λ k. k ∷ [])
  single-next zero l =
      let none : first + 0 ≡ first = omega arith in
      ap (parts_of by) (append-nil xs) ∙ (sym single ∙ ap (λ n. each_below n (λ k. k ∷ [])) (sym none))
  single-next (suc m) l =
      let long = length-numbers by xs rows ns are in
      let before = single-next m (omega (arith, l)) in
      let many : length (parts_of by (xs ++ take m rows)) ≡ first + m = ap length before ∙ length-each_below (first + m) (λ k. k ∷ []) in
      let own : get_or ns m 0 ≡ first + m = ap (λ l. get_or l m 0) counted ∙ get_or-each_below (length ns) (λ k. first + k) m 0 (omega (arith, l, long)) in
      let next : suc m ≡ m + 1 = omega arith in
      let more : (first + m) + 1 ≡ first + suc m = omega arith in
      ap (λ k. parts_of by (xs ++ take k rows)) next
      ∙ (part-next by xs rows first ns here are m (omega (arith, l)) (omega (arith, many, own))
      ∙ (ap (λ ps. ps ++ ((first + m) ∷ []) ∷ []) before
      ∙ (sym (each_below-next (first + m) (λ k. k ∷ [])) ∙ ap (λ n. each_below n (λ k. k ∷ [])) more)))

  pub single-more : each_below (first + length ns) (λ k. k ∷ []) ≡ parts_of by (xs ++ rows)
  single-more =
      let long = length-numbers by xs rows ns are in
      sym (single-next (length ns) (omega (arith, long))) ∙ ap (λ l. parts_of by (xs ++ l)) (take_all (length ns) rows (omega (arith, long)))
