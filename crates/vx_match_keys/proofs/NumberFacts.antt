-- Keys that are numbered one by one.
use Rattle.std.proofs.Common.{◌≡◌, ℕ, suc, zero, ◌+◌, ◌<◌, ◌≤◌, ◌≢◌, Bool, true, false, cond, not, List, [], ◌∷◌, ◌++◌, map, take, length, get_or, refl, sym, ap, ◌∙◌, subst, arith, append_assoc, if◌then◌else◌}
use Rattle.std.specs.Prelude.{All, position, Some, None}
use Rattle.std.specs.List.{AllByRecursion, list_any, position_or_len}
use Rattle.std.proofs.lemmas.List.{take_more, get_or-map, append-nil, map-append, length-map, length-append}
use Rattle.std.proofs.lemmas.Simd.{map-map}
use Rattle.std.proofs.lemmas.List.Sums.{fold-append, passes_at_first, prefix_len-le-length}
use Rattle.std.proofs.lemmas.List.Folds.{list_any_at}
use Rattle.std.proofs.lemmas.List.Elements.{All-append}
use Rattle.indexmap.specs.IndexSet.{insert_key, insert_all}
use Rattle.vx_rows_values.specs.Values.{Row, row_eq, pick, value_at}
use Rattle.vx_rows_values.specs.declared.value.ColType.{ColType}
use Rattle.vx_rows_values.specs.Types.{type_of, Fits}
use Rattle.vx_plan_nodes.specs.Serial.{firsts}
use Rattle.vx_rows.specs.View.{AreColumns, ArePositions}
use Rattle.vx_rows.specs.Lists.{each_below}
use Rattle.vx_rows.proofs.Below.{map-each_below, each_below-is, each_below-all, all_at, all_here}
use Rattle.vx_match_keys.specs.Numbers.{numbers_of}
use Rattle.vx_match_keys.proofs.KeyFacts.{firsts-push, any-absent}

-- one key more
pub all-more : (ks xs : List Row) (x : Row) → insert_all row_eq ks (xs ++ x ∷ []) ≡ insert_key row_eq (insert_all row_eq ks xs) x
all-more ks xs x = fold-append (insert_key row_eq) ks xs (x ∷ [])

pub numbers-more : (ks xs : List Row) (x : Row) → numbers_of ks (xs ++ x ∷ []) ≡ numbers_of ks xs ++ position_or_len (row_eq x) (insert_all row_eq ks xs) ∷ []
numbers-more ks [] x = refl
numbers-more ks (y ∷ xs) x = ap (λ ns. position_or_len (row_eq y) ks ∷ ns) (numbers-more (insert_key row_eq ks y) xs x)

-- the same behind the first i of a list
pub all-next : (ks xs : List Row) (i : ℕ) → i < length xs → insert_all row_eq ks (take (i + 1) xs) ≡ insert_key row_eq (insert_all row_eq ks (take i xs)) (get_or xs i [])
all-next ks xs i l = ap (insert_all row_eq ks) (take_more xs i [] l) ∙ all-more ks (take i xs) (get_or xs i [])

pub numbers-next : (ks xs : List Row) (i : ℕ) → i < length xs
    → numbers_of ks (take (i + 1) xs) ≡ numbers_of ks (take i xs) ++ position_or_len (row_eq (get_or xs i [])) (insert_all row_eq ks (take i xs)) ∷ []
numbers-next ks xs i l = ap (numbers_of ks) (take_more xs i [] l) ∙ numbers-more ks (take i xs) (get_or xs i [])

pub numbers-long : (ks xs : List Row) → length (numbers_of ks xs) ≡ length xs
numbers-long ks [] = refl
numbers-long ks (x ∷ xs) = ap suc (numbers-long (insert_key row_eq ks x) xs)

key-long : (ks : List Row) (x : Row) → length (insert_key row_eq ks x) ≤ length ks + 1
key-long ks x = go (list_any (row_eq x) ks)
  where
    go : (b : Bool) → length (if b then ks else ks ++ x ∷ []) ≤ length ks + 1
    go true = omega arith
    go false = omega (arith, length-append ks (x ∷ []))

-- each of a list adds one key at most
pub all-long : (ks xs : List Row) → length (insert_all row_eq ks xs) ≤ length ks + length xs
all-long ks [] = omega arith
all-long ks (x ∷ xs) =
    let one = key-long ks x in
    let rest = all-long (insert_key row_eq ks x) xs in
    omega (arith, one, rest)

pub numbers-append : (ks xs ys : List Row) → numbers_of ks (xs ++ ys) ≡ numbers_of ks xs ++ numbers_of (insert_all row_eq ks xs) ys
numbers-append ks [] ys = refl
numbers-append ks (x ∷ xs) ys = ap (λ ns. position_or_len (row_eq x) ks ∷ ns) (numbers-append (insert_key row_eq ks x) xs ys)

pub all-append : (ks xs ys : List Row) → insert_all row_eq ks (xs ++ ys) ≡ insert_all row_eq (insert_all row_eq ks xs) ys
all-append ks xs ys = fold-append (insert_key row_eq) ks xs ys

-- number i
pub number-at : (ks xs : List Row) (i : ℕ) → i < length xs → get_or (numbers_of ks xs) i 0 ≡ position_or_len (row_eq (get_or xs i [])) (insert_all row_eq ks (take i xs))
number-at ks [] i l = absurd (omega (arith, l))
number-at ks (x ∷ xs) zero l = refl
number-at ks (x ∷ xs) (suc i) l = number-at (insert_key row_eq ks x) xs i (omega (arith, l))

-- the first occurrences in keys and more keys
pub firsts-all : (xs ys : List Row) → insert_all row_eq (firsts xs) ys ≡ firsts (xs ++ ys)
firsts-all xs [] = ap firsts (sym (append-nil xs))
firsts-all xs (y ∷ ys) =
    ap (λ ks. insert_all row_eq ks ys) (sym (firsts-push xs y))
    ∙ (firsts-all (xs ++ y ∷ []) ys ∙ ap firsts (append_assoc xs (y ∷ []) ys))

-- a key with the next number is new, and one with a smaller number is known
pub key-new : (ks : List Row) (x : Row) → length ks ≤ position_or_len (row_eq x) ks → insert_key row_eq ks x ≡ ks ++ x ∷ []
key-new ks x h = ap (λ b. if b then ks else ks ++ x ∷ []) (any-absent (row_eq x) ks h)

pub key-known : (ks : List Row) (x : Row) → position_or_len (row_eq x) ks < length ks → insert_key row_eq ks x ≡ ks
key-known ks x h = ap (λ b. if b then ks else ks ++ x ∷ []) (list_any_at (row_eq x) ks (position_or_len (row_eq x) ks) [] h (passes_at_first (row_eq x) ks [] h))

pub number-most : {X : Type 0} (p : X → Bool) (ks : List X) → position_or_len p ks ≤ length ks
number-most p ks = prefix_len-le-length (λ x. not (p x)) ks

-- all values of a row
pub pick-all : (r : Row) (n : ℕ) → length r ≡ n → pick (each_below n (λ c. c)) r ≡ r
pick-all r n e = map-each_below (λ c. value_at r c) n (λ c. c) ∙ (ap (λ m. each_below m (λ c. value_at r c)) (sym e) ∙ each_below-is r _)

-- the key of a row of keys is the row
pub whole-key : (types : List ColType) (rows : List Row) (i n : ℕ) (cols : List ℕ) (key : Row) → AllByRecursion (Fits types) rows → i < length rows → n ≡ length types → cols ≡ each_below n (λ c. c)
    → key ≡ pick cols (get_or rows i []) → key ≡ get_or rows i []
whole-key types rows i n cols key fit near long is read =
    let r = get_or rows i [] in
    let typed : map type_of r ≡ types = (all_here (Fits types) rows fit i [] near).types_are in
    let wide : length r ≡ n = sym (length-map r type_of) ∙ (ap length typed ∙ sym long) in
    read ∙ (ap (λ cs. pick cs r) is ∙ pick-all r n wide)

-- the number of a key that was looked for
pub found-number : {X : Type 0} (p : X → Bool) (xs : List X) (n : ℕ) → position p xs ≡ Some n → n ≡ position_or_len p xs
found-number p xs n h = grind (arith, h)

past-number : {X : Type 0} (p : X → Bool) (xs : List X) → position p xs ≡ None → length xs ≤ position_or_len p xs
past-number p xs h = grind (arith, h)

pub missing-number : {X : Type 0} (p : X → Bool) (xs : List X) → position p xs ≡ None → length xs ≡ position_or_len p xs
missing-number p xs h = let past = past-number p xs h in let most = number-most p xs in omega (arith, past, most)

-- the places of new keys, when one more key comes
pub places-step : (ks xs : List Row) (ps : List ℕ) (i number : ℕ) (b : Bool) → i < length xs → number ≡ get_or (numbers_of ks xs) i 0
    → (b ≡ true → number ≡ length ks + length ps) → (b ≡ false → number ≢ length ks + length ps)
    → insert_all row_eq ks (take i xs) ≡ ks ++ map (λ j. get_or xs j []) ps
    → insert_all row_eq ks (take (i + 1) xs) ≡ ks ++ map (λ j. get_or xs j []) (ps ++ cond b (i ∷ []) [])
places-step ks xs ps i number b near is same differs h = go b same differs
  where
    long : length (insert_all row_eq ks (take i xs)) ≡ length ks + length ps
    long = ap length h ∙ (length-append ks (map (λ j. get_or xs j []) ps) ∙ ap (λ n. length ks + n) (length-map ps (λ j. get_or xs j [])))

    at : number ≡ position_or_len (row_eq (get_or xs i [])) (insert_all row_eq ks (take i xs))
    at = is ∙ number-at ks xs i near

    go : (b : Bool) → (b ≡ true → number ≡ length ks + length ps) → (b ≡ false → number ≢ length ks + length ps)
        → insert_all row_eq ks (take (i + 1) xs) ≡ ks ++ map (λ j. get_or xs j []) (ps ++ cond b (i ∷ []) [])
    go true same differs =
        let next = same refl in
        all-next ks xs i near
        ∙ (key-new (insert_all row_eq ks (take i xs)) (get_or xs i []) (omega (arith, long, at, next))
        ∙ (ap (λ l. l ++ get_or xs i [] ∷ []) h
        ∙ (append_assoc ks (map (λ j. get_or xs j []) ps) (get_or xs i [] ∷ []) ∙ ap (λ l. ks ++ l) (sym (map-append (λ j. get_or xs j []) ps (i ∷ []))))))
    go false same differs =
        let other = differs refl in
        let most = number-most (row_eq (get_or xs i [])) (insert_all row_eq ks (take i xs)) in
        all-next ks xs i near
        ∙ (key-known (insert_all row_eq ks (take i xs)) (get_or xs i []) (omega (arith, long, at, other, most))
        ∙ (h ∙ ap (λ l. ks ++ map (λ j. get_or xs j []) l) (sym (append-nil ps))))

pub positions-step : (i : ℕ) (ps : List ℕ) (b : Bool) → ArePositions i ps → ArePositions (i + 1) (ps ++ cond b (i ∷ []) [])
positions-step i ps b h = All-append (λ k. k < i + 1) ps (cond b (i ∷ []) []) (λ k d l. let r = h k d l in omega (arith, r)) (go b)
  where
    go : (b : Bool) → All (λ k. k < i + 1) (cond b (i ∷ []) [])
    go true = all_at (λ k. k < i + 1) (i ∷ []) (omega arith, tt)
    go false = all_at (λ k. k < i + 1) [] tt

-- keys of rows at places
pub picked-at : (cols : List ℕ) (rows : List Row) (ps : List ℕ) → ArePositions (length rows) ps → map (pick cols) (map (λ i. get_or rows i []) ps) ≡ map (λ i. get_or (map (pick cols) rows) i []) ps
picked-at cols rows [] h = refl
picked-at cols rows (p ∷ ps) h =
    ap (λ r. r ∷ map (pick cols) (map (λ i. get_or rows i []) ps)) (sym (get_or-map (pick cols) rows p [] [] (h zero 0 (omega arith))))
    ∙ ap (λ rs. get_or (map (pick cols) rows) p [] ∷ rs) (picked-at cols rows ps (λ k d l. h (suc k) d (omega arith)))

-- the columns of a table are columns of it
pub all-columns : (n m : ℕ) (cols : List ℕ) → m ≡ n → cols ≡ each_below m (λ c. c) → AreColumns n cols
all-columns n m cols e is = subst (AreColumns n) (sym is) (all_at (λ c. c < n) (each_below m (λ c. c)) (each_below-all (λ c. c < n) m (λ c. c) (λ k l. omega (arith, l, e))))

-- the numbers of keys that rows have
pub numbers-found : (ks known column : List Row) (cols : List ℕ) (rows : List Row) → ks ≡ known → column ≡ map (pick cols) rows
    → map (λ k. position_or_len (row_eq k) ks) column ≡ map (λ r. position_or_len (row_eq (pick cols r)) known) rows
numbers-found ks known column cols rows same is =
    let f = λ (k : Row). position_or_len (row_eq k) known in (λ i. map (λ k. position_or_len (row_eq k) (same i)) (is i)) ∙ map-map f (pick cols) rows
