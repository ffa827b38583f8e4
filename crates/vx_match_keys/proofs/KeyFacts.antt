-- Keys in order of first occurrence, one row at a time.
use Rattle.std.proofs.Common.{◌≡◌, ℕ, suc, zero, ◌<◌, ◌≤◌, Bool, true, false, cond, not, ◌||◌, List, [], ◌∷◌, ◌++◌, map, filter, length, get_or, set, refl, sym, ap, ◌∙◌, subst, arith, true≢false, if◌then◌else◌}
use Rattle.std.specs.List.{list_any, AllByRecursion, IsDistinct, position_or_len}
use Rattle.std.proofs.lemmas.List.Folds.{list_any_none, list_any_at}
use Rattle.std.proofs.lemmas.List.Sums.{fails_before_first, passes_at_first}
use Rattle.std.proofs.lemmas.List.Elements.{filter-append}
use Rattle.std.proofs.lemmas.List.{map-append, append-nil, get_or-map}
use Rattle.std.proofs.lemmas.Map.Keys.{IsDistinct-cons, IsDistinct-head, IsDistinct-tail, apart_from_distinct}
use Rattle.std.proofs.lemmas.Map.Made.{IsDistinct-from_count}
use Rattle.indexmap.specs.IndexSet.{insert_key}
use Rattle.vx_rows_values.specs.Values.{Row, row_eq, pick}
use Rattle.vx_plan_nodes.specs.Serial.{firsts, group_keys, of_key}
use Rattle.vx_rows_values.specs.Equality.{row_eq-same, row_eq-laws}

pub row_eq-refl : (x : Row) → row_eq x x ≡ true
row_eq-refl x = row_eq-laws.refl x

pub eq-swap : (x y : Row) → row_eq x y ≡ row_eq y x
eq-swap x y = by (row_eq x y) (row_eq y x) refl refl
  where
    by : (a b : Bool) → row_eq x y ≡ a → row_eq y x ≡ b → row_eq x y ≡ row_eq y x
    by true b p q = let P : Row → Type 0 = λ z. row_eq x z ≡ row_eq z x in subst P (row_eq-same x y p) refl
    by false false p q = p ∙ sym q
    by false true p q = let P : Row → Type 0 = λ z. row_eq z y ≡ row_eq y z in subst P (row_eq-same y x q) refl

abbrev pub others : Row → List Row → List Row
others x ys = filter (λ y. not (row_eq x y)) ys

-- a test that fails of a value is untouched by leaving out its equals
pub any-without : (k x : Row) (ys : List Row) → row_eq k x ≡ false → list_any (row_eq k) (others x ys) ≡ list_any (row_eq k) ys
any-without k x [] h = refl
any-without k x (y ∷ ys) h = step (row_eq x y) refl (any-without k x ys h)
  where
    step : (b : Bool) → row_eq x y ≡ b → list_any (row_eq k) (others x ys) ≡ list_any (row_eq k) ys
        → list_any (row_eq k) (cond (not b) (y ∷ others x ys) (others x ys)) ≡ (row_eq k y || list_any (row_eq k) ys)
    step true e r = r ∙ ap (λ b. b || list_any (row_eq k) ys) (sym (ap (row_eq k) (sym (row_eq-same x y e)) ∙ h))
    step false e r = ap (λ b. row_eq k y || b) r

others-push-same : (x k : Row) (ys : List Row) → row_eq k x ≡ true → others x (ys ++ k ∷ []) ≡ others x ys
others-push-same x k ys e = filter-append (λ y. not (row_eq x y)) ys (k ∷ []) ∙ (ap (λ b. others x ys ++ cond (not b) (k ∷ []) []) (eq-swap x k ∙ e) ∙ append-nil (others x ys))

others-push-other : (x k : Row) (ys : List Row) → row_eq k x ≡ false → others x (ys ++ k ∷ []) ≡ others x ys ++ k ∷ []
others-push-other x k ys e = filter-append (λ y. not (row_eq x y)) ys (k ∷ []) ∙ ap (λ b. others x ys ++ cond (not b) (k ∷ []) []) (eq-swap x k ∙ e)

-- the keys before, and the keys after, by whether k is there
abbrev kept_left : Row → Row → List Row → Bool → List Row
kept_left x k ys c = x ∷ others x (cond c ys (ys ++ k ∷ []))

abbrev kept_right : Row → Row → List Row → Bool → List Row
kept_right x k ys d = cond d (x ∷ others x ys) (x ∷ (others x ys ++ k ∷ []))

filter-insert : (x k : Row) (ys : List Row) → x ∷ others x (insert_key row_eq ys k) ≡ insert_key row_eq (x ∷ others x ys) k
filter-insert x k ys = step (row_eq k x) (list_any (row_eq k) ys) refl refl
  where
    there : (c : Bool) → row_eq k x ≡ true → kept_left x k ys c ≡ kept_right x k ys true
    there true e = refl
    there false e = ap (λ zs. x ∷ zs) (others-push-same x k ys e)

    fresh : (c : Bool) → row_eq k x ≡ false → kept_left x k ys c ≡ kept_right x k ys c
    fresh true e = refl
    fresh false e = ap (λ zs. x ∷ zs) (others-push-other x k ys e)

    step : (b c : Bool) → row_eq k x ≡ b → list_any (row_eq k) ys ≡ c
        → kept_left x k ys (list_any (row_eq k) ys) ≡ kept_right x k ys (row_eq k x || list_any (row_eq k) (others x ys))
    step true c e f = there (list_any (row_eq k) ys) e ∙ sym (ap (λ b. kept_right x k ys (b || list_any (row_eq k) (others x ys))) e)
    step false c e f = fresh (list_any (row_eq k) ys) e ∙ (ap (kept_right x k ys) (sym (any-without k x ys e)) ∙ sym (ap (λ b. kept_right x k ys (b || list_any (row_eq k) (others x ys))) e))

pub firsts-push : (xs : List Row) (k : Row) → firsts (xs ++ k ∷ []) ≡ insert_key row_eq (firsts xs) k
firsts-push [] k = refl
firsts-push (x ∷ xs) k = ap (λ ys. x ∷ others x ys) (firsts-push xs k) ∙ filter-insert x k (firsts xs)

pub keys-push : (by : List ℕ) (xs : List Row) (y : Row) → group_keys by (xs ++ y ∷ []) ≡ insert_key row_eq (group_keys by xs) (pick by y)
keys-push by xs y = ap firsts (map-append (pick by) xs (y ∷ [])) ∙ firsts-push (map (pick by) xs) (pick by y)

pub any-firsts : (k : Row) (ys : List Row) → list_any (row_eq k) (firsts ys) ≡ list_any (row_eq k) ys
any-firsts k [] = refl
any-firsts k (x ∷ ys) = step (row_eq k x) refl (any-firsts k ys)
  where
    step : (b : Bool) → row_eq k x ≡ b → list_any (row_eq k) (firsts ys) ≡ list_any (row_eq k) ys → (row_eq k x || list_any (row_eq k) (others x (firsts ys))) ≡ (row_eq k x || list_any (row_eq k) ys)
    step true e r = ap (λ b. b || list_any (row_eq k) (others x (firsts ys))) e ∙ sym (ap (λ b. b || list_any (row_eq k) ys) e)
    step false e r = ap (λ b. row_eq k x || b) (any-without k x (firsts ys) e ∙ r)

-- first occurrences are apart
all-left : (P : Row → Type 0) (p : Row → Bool) (xs : List Row) → AllByRecursion P xs → AllByRecursion P (filter p xs)
all-left P p [] all = tt
all-left P p (x ∷ xs) all = step (p x) (all-left P p xs all.1)
  where
    step : (b : Bool) → AllByRecursion P (filter p xs) → AllByRecursion P (cond b (x ∷ filter p xs) (filter p xs))
    step true rest = (all.0, rest)
    step false rest = rest

apart-others : (x : Row) (ys : List Row) → AllByRecursion (λ y. row_eq x y ≡ false) (others x ys)
apart-others x [] = tt
apart-others x (y ∷ ys) = step (row_eq x y) refl (apart-others x ys)
  where
    step : (b : Bool) → row_eq x y ≡ b → AllByRecursion (λ y. row_eq x y ≡ false) (others x ys) → AllByRecursion (λ y. row_eq x y ≡ false) (cond (not b) (y ∷ others x ys) (others x ys))
    step true e rest = rest
    step false e rest = (e, rest)

pub none-distinct : IsDistinct row_eq []
none-distinct = IsDistinct-from_count row_eq-laws [] refl

distinct-left : (p : Row → Bool) (xs : List Row) → IsDistinct row_eq xs → IsDistinct row_eq (filter p xs)
distinct-left p [] d = d
distinct-left p (x ∷ xs) d = step (p x) (distinct-left p xs (IsDistinct-tail row_eq x xs d))
  where
    step : (b : Bool) → IsDistinct row_eq (filter p xs) → IsDistinct row_eq (cond b (x ∷ filter p xs) (filter p xs))
    step true rest = IsDistinct-cons row_eq x (filter p xs) (all-left (λ y. row_eq x y ≡ false) p xs (IsDistinct-head row_eq x xs d)) rest
    step false rest = rest

pub firsts-distinct : (xs : List Row) → IsDistinct row_eq (firsts xs)
firsts-distinct [] = none-distinct
firsts-distinct (x ∷ xs) = IsDistinct-cons row_eq x (others x (firsts xs)) (apart-others x (firsts xs)) (distinct-left (λ y. not (row_eq x y)) (firsts xs) (firsts-distinct xs))

-- a write at a key's place is the change that the key makes
pub map-same : {X : Type 0} (F G : Row → X) (key : Row) (ks : List Row) → AllByRecursion (λ y. row_eq key y ≡ false) ks → ((z : Row) → row_eq key z ≡ false → G z ≡ F z) → map G ks ≡ map F ks
map-same F G key [] d same = refl
map-same F G key (k ∷ ks) d same = λ i. same k d.0 i ∷ map-same F G key ks d.1 same i

pub set-at : {X : Type 0} (F G : Row → X) (key : Row) (keys : List Row) (i : ℕ) → i < length keys → get_or keys i [] ≡ key → IsDistinct row_eq keys
    → ((z : Row) → row_eq key z ≡ false → G z ≡ F z) → map G keys ≡ set (map F keys) i (G key)
set-at F G key [] i h e d same = refl
set-at F G key (k ∷ ks) zero h e d same =
    λ j. G (e j) ∷ map-same F G key ks (let P : Row → Type 0 = λ z. AllByRecursion (λ y. row_eq z y ≡ false) ks in subst P e (IsDistinct-head row_eq k ks d)) same j
set-at F G key (k ∷ ks) (suc i) h e d same =
    let apart : row_eq k (get_or ks i []) ≡ false = apart_from_distinct row_eq (k ∷ ks) 0 (suc i) [] d (omega arith) h in
    let far : row_eq key k ≡ false = eq-swap key k ∙ (ap (row_eq k) (sym e) ∙ apart) in
    λ j. same k far j ∷ set-at F G key ks i (omega (arith, h)) e (IsDistinct-tail row_eq k ks d) same j

pub any-absent : {X : Type 0} (p : X → Bool) (xs : List X) → length xs ≤ position_or_len p xs → list_any p xs ≡ false
any-absent p xs h = list_any_none p xs (λ k d below. fails_before_first p xs k d (omega (arith, below, h)))

pub all-apart : (key : Row) (ks : List Row) → list_any (row_eq key) ks ≡ false → AllByRecursion (λ y. row_eq key y ≡ false) ks
all-apart key [] h = tt
all-apart key (k ∷ ks) h = step (row_eq key k) refl h (all-apart key ks)
  where
    step : (b : Bool) → row_eq key k ≡ b → (b || list_any (row_eq key) ks) ≡ false → (list_any (row_eq key) ks ≡ false → AllByRecursion (λ y. row_eq key y ≡ false) ks)
        → (row_eq key k ≡ false) × AllByRecursion (λ y. row_eq key y ≡ false) ks
    step true e g rest = absurd (true≢false g)
    step false e g rest = (e, rest g)

-- what each key has, when a row of a key comes that is there: that key's alone changes
pub keyed-any : (by : List ℕ) (xs : List Row) (y : Row) (n : ℕ) → n ≡ position_or_len (row_eq (pick by y)) (group_keys by xs) → n < length (group_keys by xs)
    → (get_or (group_keys by xs) n [] ≡ pick by y) × (list_any (row_eq (pick by y)) (group_keys by xs) ≡ true)
keyed-any by xs y n at inside =
    let key = pick by y in
    let ks = group_keys by xs in
    let passes : row_eq key (get_or ks n []) ≡ true = subst (λ m. row_eq key (get_or ks m []) ≡ true) (sym at) (passes_at_first (row_eq key) ks [] (subst (λ m. m < length ks) at inside)) in
    (sym (row_eq-same key (get_or ks n []) passes), list_any_at (row_eq key) ks n [] inside passes)

pub keyed-present : {X : Type 0} (F G : Row → X) (by : List ℕ) (xs : List Row) (y : Row) (n : ℕ) → n ≡ position_or_len (row_eq (pick by y)) (group_keys by xs) → n < length (group_keys by xs)
    → IsDistinct row_eq (group_keys by xs) → ((z : Row) → row_eq (pick by y) z ≡ false → G z ≡ F z) → map G (group_keys by (xs ++ y ∷ [])) ≡ set (map F (group_keys by xs)) n (G (pick by y))
keyed-present F G by xs y n at inside distinct other =
    let key = pick by y in
    let ks = group_keys by xs in
    let found = keyed-any by xs y n at inside in
    let same : group_keys by (xs ++ y ∷ []) ≡ ks = keys-push by xs y ∙ ap (λ b. if b then ks else ks ++ key ∷ []) found.1 in
    ap (map G) same ∙ set-at F G key ks n inside found.0 distinct other

pub keyed-own : {X : Type 0} (F : Row → X) (by : List ℕ) (xs : List Row) (y : Row) (n : ℕ) (d : X) → n ≡ position_or_len (row_eq (pick by y)) (group_keys by xs) → n < length (group_keys by xs)
    → get_or (map F (group_keys by xs)) n d ≡ F (pick by y)
keyed-own F by xs y n d at inside = get_or-map F (group_keys by xs) n [] d inside ∙ ap F (keyed-any by xs y n at inside).0

-- and when a row of a new key comes: it has one more
pub keyed-new : {X : Type 0} (F G : Row → X) (by : List ℕ) (xs : List Row) (y : Row) → length (group_keys by xs) ≤ position_or_len (row_eq (pick by y)) (group_keys by xs)
    → ((z : Row) → row_eq (pick by y) z ≡ false → G z ≡ F z) → map G (group_keys by (xs ++ y ∷ [])) ≡ map F (group_keys by xs) ++ G (pick by y) ∷ []
keyed-new F G by xs y past other =
    let key = pick by y in
    let ks = group_keys by xs in
    let none : list_any (row_eq key) ks ≡ false = any-absent (row_eq key) ks past in
    let more : group_keys by (xs ++ y ∷ []) ≡ ks ++ key ∷ [] = keys-push by xs y ∙ ap (λ b. if b then ks else ks ++ key ∷ []) none in
    ap (map G) more ∙ (map-append G ks (key ∷ []) ∙ ap (λ l. l ++ G key ∷ []) (map-same F G key ks (all-apart key ks none) other))

pub keyed-none : (by : List ℕ) (xs : List Row) (y : Row) → length (group_keys by xs) ≤ position_or_len (row_eq (pick by y)) (group_keys by xs) → list_any (row_eq (pick by y)) (map (pick by) xs) ≡ false
keyed-none by xs y past = sym (any-firsts (pick by y) (map (pick by) xs)) ∙ any-absent (row_eq (pick by y)) (group_keys by xs) past

-- the rows of a key when a row is added
pub of_key-other : (by : List ℕ) (z : Row) (xs : List Row) (y : Row) → row_eq z (pick by y) ≡ false → of_key by z (xs ++ y ∷ []) ≡ of_key by z xs
of_key-other by z xs y h = filter-append (λ r. row_eq z (pick by r)) xs (y ∷ []) ∙ ap (λ b. of_key by z xs ++ cond b (y ∷ []) []) h ∙ append-nil (of_key by z xs)

pub of_key-more : (by : List ℕ) (z : Row) (xs : List Row) (y : Row) → row_eq z (pick by y) ≡ true → of_key by z (xs ++ y ∷ []) ≡ of_key by z xs ++ y ∷ []
of_key-more by z xs y h = filter-append (λ r. row_eq z (pick by r)) xs (y ∷ []) ∙ ap (λ b. of_key by z xs ++ cond b (y ∷ []) []) h

pub of_key-none : (by : List ℕ) (z : Row) (xs : List Row) → list_any (row_eq z) (map (pick by) xs) ≡ false → of_key by z xs ≡ []
of_key-none by z [] h = refl
of_key-none by z (x ∷ xs) h = step (row_eq z (pick by x)) refl h (of_key-none by z xs)
  where
    step : (b : Bool) → row_eq z (pick by x) ≡ b → (b || list_any (row_eq z) (map (pick by) xs)) ≡ false → (list_any (row_eq z) (map (pick by) xs) ≡ false → of_key by z xs ≡ [])
        → cond b (x ∷ of_key by z xs) (of_key by z xs) ≡ []
    step true e g r = absurd (true≢false g)
    step false e g r = r g

pub of_key-some : (by : List ℕ) (z : Row) (xs : List Row) → list_any (row_eq z) (map (pick by) xs) ≡ true → (r : Row) × ((rs : List Row) × (of_key by z xs ≡ r ∷ rs))
of_key-some by z [] h = absurd (true≢false (sym h))
of_key-some by z (x ∷ xs) h = step (row_eq z (pick by x)) refl h (of_key-some by z xs)
  where
    step : (b : Bool) → row_eq z (pick by x) ≡ b → (b || list_any (row_eq z) (map (pick by) xs)) ≡ true
        → (list_any (row_eq z) (map (pick by) xs) ≡ true → (r : Row) × ((rs : List Row) × (of_key by z xs ≡ r ∷ rs)))
        → (r : Row) × ((rs : List Row) × (cond b (x ∷ of_key by z xs) (of_key by z xs) ≡ r ∷ rs))
    step true e g r = (x, (of_key by z xs, refl))
    step false e g r = r g
