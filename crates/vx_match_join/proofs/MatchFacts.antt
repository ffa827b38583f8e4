-- Left rows that right rows match: by keys, by the places of a key's rows, and by the rows themselves.
use Rattle.std.proofs.Common.{◌≡◌, ℕ, zero, suc, ◌<◌, ◌≤◌, ◌==◌, Bool, true, false, not, ◌&&◌, ◌||◌, cond, List, [], ◌∷◌, ◌++◌, map, filter, length, get_or, refl, sym, ap, ◌∙◌, subst, arith}
use Rattle.std.specs.Bool.{beq}
use Rattle.std.specs.List.{list_all, list_any, position_or_len}
use Rattle.std.proofs.lemmas.Bool.Decides.{nat_tests}
use Rattle.std.proofs.lemmas.List.{length-map}
use Rattle.std.proofs.lemmas.List.Elements.{filter_agree, All-nil}
use Rattle.std.proofs.lemmas.List.Folds.{list_any_at}
use Rattle.std.proofs.lemmas.List.Sums.{passes_at_first, length-filter, count_by-le-length}
use Rattle.indexmap.specs.IndexSet.{insert_all}
use Rattle.vx_rows_values.specs.Values.{Row, row_eq, pick}
use Rattle.vx_rows.specs.View.{ArePositions}
use Rattle.vx_plan_nodes.specs.Plan.{Condition}
use Rattle.vx_plan_nodes.specs.Conditions.{conditions_of}
use Rattle.vx_plan_nodes.specs.declared.typed.Condition as rust_condition
use Rattle.vx_plan_nodes.specs.Serial.{passes, matches, group_keys, is_matched, matched_rows}
use Rattle.vx_match_keys.proofs.KeyFacts.{any-firsts, any-absent}
use Rattle.vx_match_join.specs.Build.{places_of, parts_of, IsIndex}
use Rattle.vx_match_join.specs.Matching.{MatchView, HasMatchBuilt, ReadSo, AreKeys, right_of_pairs, left_of_pairs, meets, keeps}
use Rattle.vx_match_join.proofs.PlaceFacts.{places-below, rows-at}
use Rattle.vx_match_join.proofs.BuildFacts.{keys-more, part-found, key-missing}

-- ---- tests of some element

any-map : {X Y : Type 0} (p : Y → Bool) (f : X → Y) (xs : List X) → list_any p (map f xs) ≡ list_any (λ x. p (f x)) xs
any-map p f [] = refl
any-map p f (x ∷ xs) = ap (λ b. p (f x) || b) (any-map p f xs)

any-agree : {X : Type 0} (p q : X → Bool) (xs : List X) → ((x : X) → p x ≡ q x) → list_any p xs ≡ list_any q xs
any-agree p q [] same = refl
any-agree p q (x ∷ xs) same = λ j. same x j || any-agree p q xs same j

any-filter : {X : Type 0} (p q : X → Bool) (xs : List X) → list_any q (filter p xs) ≡ list_any (λ x. p x && q x) xs
any-filter p q [] = refl
any-filter {X} p q (x ∷ xs) = go (p x) (any-filter p q xs)
  where
    go : (b : Bool) → list_any q (filter p xs) ≡ list_any (λ y. p y && q y) xs
        → list_any q (cond b (x ∷ filter p xs) (filter p xs)) ≡ ((b && q x) || list_any (λ y. p y && q y) xs)
    go true rest = ap (λ z. q x || z) rest
    go false rest = rest

-- one that fails settles that not all pass
pub fails-one : {X : Type 0} (p : X → Bool) (xs : List X) (i : ℕ) (d : X) → i < length xs → p (get_or xs i d) ≡ false → list_all p xs ≡ false
fails-one p [] i d near fails = absurd (omega (arith, near))
fails-one p (x ∷ xs) zero d near fails = ap (λ b. b && list_all p xs) fails
fails-one {X} p (x ∷ xs) (suc i) d near fails = go (p x) (fails-one p xs i d (omega (arith, near)) fails)
  where
    go : (b : Bool) → list_all p xs ≡ false → (b && list_all p xs) ≡ false
    go true rest = rest
    go false rest = refl

and-true : (b : Bool) → (b && true) ≡ b
and-true true = refl
and-true false = refl

pub any-found : {X : Type 0} (p : X → Bool) (d : X) (xs : List X) (n : ℕ) → n ≡ position_or_len p xs → n < length xs → list_any p xs ≡ true
any-found p d xs n at near =
    list_any_at p xs n d near (subst (λ m. p (get_or xs m d) ≡ true) (sym at) (passes_at_first p xs d (subst (λ m. m < length xs) at near)))

-- ---- matches

-- some right row at the places of a key
any-at-places : (by : List ℕ) (key : Row) (q : Row → Bool) (rs : List Row) → list_any (λ p. q (get_or rs p [])) (places_of by key rs) ≡ list_any (λ r. row_eq key (pick by r) && q r) rs
any-at-places by key q rs =
    sym (any-map q (λ p. get_or rs p []) (places_of by key rs))
    ∙ (ap (list_any q) (rows-at (λ r. row_eq key (pick by r)) rs []) ∙ any-filter (λ r. row_eq key (pick by r)) q rs)

-- without conditions a left row is matched where its key is among those of the right rows
key-matches : (on : List (ℕ × ℕ)) (rs : List Row) (l : Row) → list_any (row_eq (pick (left_of_pairs on) l)) (group_keys (right_of_pairs on) rs) ≡ is_matched on [] rs l
key-matches on rs l =
    let key = pick (left_of_pairs on) l in
    let by = right_of_pairs on in
    any-firsts key (map (pick by) rs)
    ∙ (any-map (row_eq key) (pick by) rs ∙ any-agree (λ r. row_eq key (pick by r)) (λ r. matches on l r && passes [] (l ++ r)) rs (λ r. sym (and-true (row_eq key (pick by r)))))

-- a left row is matched by the build side where some right row matches it
meets-matched : (conditions : List Condition) (on : List (ℕ × ℕ)) (keys rows rs : List Row) → ReadSo conditions (right_of_pairs on) rows keys rs
    → (l : Row) → meets conditions on keys rows l ≡ is_matched on conditions rs l
meets-matched [] on keys rows rs built l = ap (list_any (row_eq (pick (left_of_pairs on) l))) built ∙ key-matches on rs l
meets-matched (c ∷ cs) on keys rows rs built l = ap (λ xs. is_matched on (c ∷ cs) xs l) built

-- what it keeps are the matched rows, or those that are not
beq-true : (b : Bool) → beq b true ≡ b
beq-true true = refl
beq-true false = refl

beq-false : (b : Bool) → beq b false ≡ not b
beq-false true = refl
beq-false false = refl

keeps-by : (matched : Bool) (conditions : List Condition) (on : List (ℕ × ℕ)) (keys rows rs ls : List Row) → ReadSo conditions (right_of_pairs on) rows keys rs
    → filter (λ l. beq (meets conditions on keys rows l) matched) ls ≡ matched_rows matched on conditions ls rs
keeps-by true conditions on keys rows rs ls built =
    filter_agree (λ l. beq (meets conditions on keys rows l) true) (is_matched on conditions rs) (λ l. beq-true (meets conditions on keys rows l) ∙ meets-matched conditions on keys rows rs built l) ls
keeps-by false conditions on keys rows rs ls built =
    filter_agree (λ l. beq (meets conditions on keys rows l) false) (λ l. not (is_matched on conditions rs l))
    (λ l. beq-false (meets conditions on keys rows l) ∙ ap not (meets-matched conditions on keys rows rs built l)) ls

pub keeps-rows : (b : MatchView) (rs ls : List Row) → HasMatchBuilt b rs → filter (keeps b) ls ≡ matched_rows b.matched b.on b.conditions ls rs
keeps-rows b rs ls built = keeps-by b.matched b.conditions b.on b.keys b.rows rs ls built

-- no more rows are kept than there are
pub keeps-few : {X : Type 0} (p : X → Bool) (xs ys : List X) → ys ≡ filter p xs → length ys ≤ length xs
keeps-few p xs ys e = let same = ap length e in omega (arith, same, length-filter p xs, count_by-le-length p xs)

-- ---- whether there are conditions

pub none-there : (cs : List rust_condition.Condition) (n : ℕ) (b : Bool) → n ≡ length cs → b ≡ (n == 0) → b ≡ true → conditions_of cs ≡ []
none-there [] n b long e h = refl
none-there (c ∷ cs) n b long e h = let zero : n ≡ 0 = grind (arith, nat_tests) in absurd (omega (arith, long, zero))

pub some-there : (cs : List rust_condition.Condition) (n : ℕ) (b : Bool) → n ≡ length cs → b ≡ (n == 0) → b ≡ false → conditions_of cs ≡ [] → ⊥
some-there [] n b long e h none = let is : n ≡ 0 = long in let yes : (n == 0) ≡ true = rw is refl in cc
some-there (c ∷ cs) n b long e h none = cc

-- ---- what was read

-- nothing yet
pub fresh-keys : (conditions : List Condition) (by : List ℕ) (keys rows : List Row) → keys ≡ [] → rows ≡ [] → AreKeys conditions by keys rows
fresh-keys [] by keys rows k r = tt
fresh-keys (c ∷ cs) by keys rows k r = k ∙ sym (ap (group_keys by) r)

pub fresh-read : (conditions : List Condition) (by : List ℕ) (read keys : List Row) → read ≡ [] → keys ≡ [] → ReadSo conditions by read keys []
fresh-read [] by read keys r k = k
fresh-read (c ∷ cs) by read keys r k = r

-- keys of more rows
pub read-keys : (conditions : List Condition) (by : List ℕ) (read keys keys' rs more : List Row) → conditions ≡ [] → keys' ≡ insert_all row_eq keys (map (pick by) more)
    → ReadSo conditions by read keys rs → ReadSo conditions by read keys' (rs ++ more)
read-keys [] by read keys keys' rs more none added h = added ∙ (ap (λ ks. insert_all row_eq ks (map (pick by) more)) h ∙ keys-more by rs more)
read-keys (c ∷ cs) by read keys keys' rs more none added h = cc

-- all that was read is the build side
pub index-keys : (conditions : List Condition) (by : List ℕ) (keys rows : List Row) → keys ≡ group_keys by rows → AreKeys conditions by keys rows
index-keys [] by keys rows h = tt
index-keys (c ∷ cs) by keys rows h = h

pub built-rows : (conditions : List Condition) (by : List ℕ) (read rows keys keys' rs : List Row) → (conditions ≡ [] → ⊥) → rows ≡ read → ReadSo conditions by read keys rs → ReadSo conditions by rows keys' rs
built-rows [] by read rows keys keys' rs some same h = absurd (some refl)
built-rows (c ∷ cs) by read rows keys keys' rs some same h = same ∙ h

-- ---- by the number of a key

-- a key that no right row has
pub meets-none : (conditions : List Condition) (on : List (ℕ × ℕ)) (keys rows : List Row) (l : Row) (n : ℕ) → AreKeys conditions (right_of_pairs on) keys rows
    → n ≡ position_or_len (row_eq (pick (left_of_pairs on) l)) keys → length keys ≤ n → false ≡ meets conditions on keys rows l
meets-none [] on keys rows l n are at past = sym (any-absent (row_eq (pick (left_of_pairs on) l)) keys (omega (arith, at, past)))
meets-none (c ∷ cs) on keys rows l n are at past =
    let key = pick (left_of_pairs on) l in
    let by = right_of_pairs on in
    let here : n ≡ position_or_len (row_eq key) (group_keys by rows) = at ∙ ap (position_or_len (row_eq key)) are in
    let many = ap length are in
    let none : [] ≡ places_of by key rows = key-missing by rows key n here (omega (arith, past, many)) in
    ap (list_any (λ p. passes (c ∷ cs) (l ++ get_or rows p []))) none ∙ any-at-places by key (λ r. passes (c ∷ cs) (l ++ r)) rows

-- one that some right row has, without conditions
pub meets-key : (conditions : List Condition) (on : List (ℕ × ℕ)) (keys rows : List Row) (l : Row) (n : ℕ) → conditions ≡ []
    → n ≡ position_or_len (row_eq (pick (left_of_pairs on) l)) keys → n < length keys → true ≡ meets conditions on keys rows l
meets-key [] on keys rows l n none at near = sym (any-found (row_eq (pick (left_of_pairs on) l)) [] keys n at near)
meets-key (c ∷ cs) on keys rows l n none at near = cc

-- and with conditions, by the places of its rows
pub meets-places : (conditions : List Condition) (on : List (ℕ × ℕ)) (keys rows : List Row) (parts : List (List ℕ)) (l : Row) (n : ℕ) → (conditions ≡ [] → ⊥) → AreKeys conditions (right_of_pairs on) keys rows
    → parts ≡ parts_of (right_of_pairs on) rows → n ≡ position_or_len (row_eq (pick (left_of_pairs on) l)) keys → n < length keys
    → list_any (λ p. passes conditions (l ++ get_or rows p [])) (get_or parts n []) ≡ meets conditions on keys rows l
meets-places [] on keys rows parts l n some are parts-are at near = absurd (some refl)
meets-places (c ∷ cs) on keys rows parts l n some are parts-are at near =
    let key = pick (left_of_pairs on) l in
    let by = right_of_pairs on in
    let here : n ≡ position_or_len (row_eq key) (group_keys by rows) = at ∙ ap (position_or_len (row_eq key)) are in
    let long : length parts ≡ length keys = ap length parts-are ∙ (length-map (group_keys by rows) (λ k. places_of by k rows) ∙ sym (ap length are)) in
    let index : IsIndex by rows keys parts = record { keys_are = are; parts_are = parts-are } in
    let found : get_or parts n [] ≡ places_of by key rows = part-found by rows keys parts key n index here (omega (arith, near, long)) in
    ap (list_any (λ p. passes (c ∷ cs) (l ++ get_or rows p []))) found ∙ any-at-places by key (λ r. passes (c ∷ cs) (l ++ r)) rows

-- the places of a key's rows are places of rows
below-each : (ks : List Row) (f : Row → List ℕ) (m n : ℕ) → ((k : Row) → ArePositions m (f k)) → ArePositions m (get_or (map f ks) n [])
below-each [] f m n each = All-nil (λ i. i < m)
below-each (k ∷ ks) f m zero each = each k
below-each (k ∷ ks) f m (suc n) each = below-each ks f m n each

pub parts-below : (by : List ℕ) (rows : List Row) (parts : List (List ℕ)) (n : ℕ) → parts ≡ parts_of by rows → ArePositions (length rows) (get_or parts n [])
parts-below by rows parts n are =
    subst (λ ps. ArePositions (length rows) (get_or ps n [])) (sym are)
    (below-each (group_keys by rows) (λ k. places_of by k rows) (length rows) n (λ k. places-below (λ r. row_eq k (pick by r)) rows))
