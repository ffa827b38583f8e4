-- Rows that rise, when one more comes behind them.
use Rattle.std.proofs.Common.{◌≡◌, ℕ, suc, zero, ◌+◌, ◌<◌, Bool, true, false, List, [], ◌∷◌, ◌++◌, length, take, drop, get_or, refl, sym, ap, ◌∙◌, arith, true≢false, is_le, append_assoc, drop-cons}
use Rattle.std.specs.List.{list_all}
use Rattle.std.proofs.lemmas.List.{take_more, take-append-drop}
use Rattle.vx_rows_values.specs.declared.order.OrderEntry.{OrderEntry}
use Rattle.vx_rows_values.specs.Values.{Row}
use Rattle.vx_rows_values.specs.Order.{compare_on, sorted}
use Rattle.vx_rows_values.proofs.Booleans.{and-left, and-right, and-both}
use Rattle.vx_rows_values.proofs.Compare.{le-trans}
use Rattle.vx_match_merging.specs.Keys.{directions, key_of, key_cmp}
use Rattle.vx_match_merging.specs.Merged.{last_key}
use Rattle.vx_match_merging.proofs.KeyOrder.{key_le-trans, none-below, rows-keys, keys-rows}

pub not-so : (b : Bool) → (b ≡ true → ⊥) → b ≡ false
not-so true h = absurd (h refl)
not-so false h = refl

pub all-front : {X : Type 0} (p : X → Bool) (xs ys : List X) → list_all p (xs ++ ys) ≡ true → list_all p xs ≡ true
all-front p [] ys h = refl
all-front p (x ∷ xs) ys h = and-both (p x) (list_all p xs) (and-left _ _ h) (all-front p xs ys (and-right _ _ h))

pub all-back : {X : Type 0} (p : X → Bool) (xs ys : List X) → list_all p (xs ++ ys) ≡ true → list_all p ys ≡ true
all-back p [] ys h = h
all-back p (x ∷ xs) ys h = all-back p xs ys (and-right _ _ h)

pub all-join : {X : Type 0} (p : X → Bool) (xs ys : List X) → list_all p xs ≡ true → list_all p ys ≡ true → list_all p (xs ++ ys) ≡ true
all-join p [] ys h k = k
all-join p (x ∷ xs) ys h k = and-both (p x) (list_all p (xs ++ ys)) (and-left _ _ h) (all-join p xs ys (and-right _ _ h) k)

pub all-weaken : {X : Type 0} (p q : X → Bool) → ((x : X) → p x ≡ true → q x ≡ true) → (xs : List X) → list_all p xs ≡ true → list_all q xs ≡ true
all-weaken p q f [] h = refl
all-weaken p q f (x ∷ xs) h = and-both (q x) (list_all q xs) (f x (and-left _ _ h)) (all-weaken p q f xs (and-right _ _ h))

-- the parts of rows that rise
pub rise-front : (by : List OrderEntry) (xs ys : List Row) → sorted by (xs ++ ys) ≡ true → sorted by xs ≡ true
rise-front by [] ys h = refl
rise-front by (x ∷ xs) ys h =
    and-both (list_all (λ y. is_le (compare_on by x y)) xs) (sorted by xs) (all-front (λ y. is_le (compare_on by x y)) xs ys (and-left _ _ h)) (rise-front by xs ys (and-right _ _ h))

pub rise-back : (by : List OrderEntry) (xs ys : List Row) → sorted by (xs ++ ys) ≡ true → sorted by ys ≡ true
rise-back by [] ys h = h
rise-back by (x ∷ xs) ys h = rise-back by xs ys (and-right _ _ h)

-- what holds of all keys holds of the last
pub last-all : (by : List OrderEntry) (q : Row → Bool) (x : Row) (xs : List Row) → list_all (λ r. q (key_of by r)) (x ∷ xs) ≡ true → q (last_key by (x ∷ xs)) ≡ true
last-all by q x [] h = and-left (q (key_of by x)) true h
last-all by q x (y ∷ ys) h = last-all by q y ys (and-right (q (key_of by x)) (list_all (λ r. q (key_of by r)) (y ∷ ys)) h)

pub last-push : (by : List OrderEntry) (xs : List Row) (y : Row) → last_key by (xs ++ y ∷ []) ≡ key_of by y
last-push by [] y = refl
last-push by (x ∷ []) y = refl
last-push by (x ∷ z ∷ zs) y = last-push by (z ∷ zs) y

pub last-take : (by : List OrderEntry) (xs : List Row) (n : ℕ) → n < length xs → last_key by (take (suc n) xs) ≡ key_of by (get_or xs n [])
last-take by [] n l = absurd (omega arith)
last-take by (x ∷ xs) zero l = refl
last-take by (x ∷ []) (suc n) l = absurd (omega arith)
last-take by (x ∷ y ∷ ys) (suc n) l = last-take by (y ∷ ys) n (omega arith)

-- a row that is not below the last one goes behind rows that rise
pub rise-push : (by : List OrderEntry) (xs : List Row) (y : Row) → sorted by xs ≡ true → is_le (key_cmp (directions by) (last_key by xs) (key_of by y)) ≡ true → sorted by (xs ++ y ∷ []) ≡ true
rise-push by [] y s h = refl
rise-push by (x ∷ []) y s h = and-both (list_all (λ r. is_le (compare_on by x r)) (y ∷ [])) true (and-both (is_le (compare_on by x y)) true (keys-rows by x y h) refl) refl
rise-push by (x ∷ z ∷ zs) y s h =
    let above = λ (r : Row). is_le (compare_on by x r) in
    let all : list_all above (z ∷ zs) ≡ true = and-left _ _ s in
    let last : is_le (key_cmp (directions by) (key_of by x) (last_key by (z ∷ zs))) ≡ true = last-all by (λ k. is_le (key_cmp (directions by) (key_of by x) k)) z zs (all-weaken above (λ r. is_le (key_cmp (directions by) (key_of by x) (key_of by r))) (λ r l. rows-keys by x r l) (z ∷ zs) all) in
    let here : above y ≡ true = keys-rows by x y (key_le-trans (directions by) (key_of by x) (last_key by (z ∷ zs)) (key_of by y) last h) in
    and-both (list_all above (z ∷ zs ++ y ∷ [])) (sorted by (z ∷ zs ++ y ∷ [])) (all-join above (z ∷ zs) (y ∷ []) all (and-both (above y) true here refl)) (rise-push by (z ∷ zs) y (and-right _ _ s) h)

-- where it does, none of them is above it
pub rise-under : (by : List OrderEntry) (xs : List Row) (y : Row) → sorted by (xs ++ y ∷ []) ≡ true → list_all (λ r. is_le (compare_on by r y)) xs ≡ true
rise-under by [] y h = refl
rise-under by (x ∷ xs) y h =
    and-both (is_le (compare_on by x y)) (list_all (λ r. is_le (compare_on by r y)) xs)
    (and-left (is_le (compare_on by x y)) true (all-back (λ r. is_le (compare_on by x r)) xs (y ∷ []) (and-left _ _ h)))
    (rise-under by xs y (and-right _ _ h))

pub rise-last : (by : List OrderEntry) (xs : List Row) (y : Row) → sorted by (xs ++ y ∷ []) ≡ true → is_le (key_cmp (directions by) (last_key by xs) (key_of by y)) ≡ true
rise-last by [] y h = none-below (directions by) (key_of by y)
rise-last by (x ∷ xs) y h = last-all by (λ k. is_le (key_cmp (directions by) k (key_of by y))) x xs
    (all-weaken (λ r. is_le (compare_on by r y)) (λ r. is_le (key_cmp (directions by) (key_of by r) (key_of by y))) (λ r l. rows-keys by r y l) (x ∷ xs) (rise-under by (x ∷ xs) y h))

-- rows rise with one more exactly where it is not below the last one
pub rise-next : (by : List OrderEntry) (xs : List Row) (y : Row) → sorted by xs ≡ true → is_le (key_cmp (directions by) (last_key by xs) (key_of by y)) ≡ sorted by (xs ++ y ∷ [])
rise-next by xs y s = step (is_le (key_cmp (directions by) (last_key by xs) (key_of by y))) refl
  where
    step : (b : Bool) → is_le (key_cmp (directions by) (last_key by xs) (key_of by y)) ≡ b → b ≡ sorted by (xs ++ y ∷ [])
    step true e = sym (rise-push by xs y s e)
    step false e = sym (not-so _ (λ h. true≢false (sym (rise-last by xs y h) ∙ e)))

-- of rows that rise none is above the next
pub rise-neighbours : (by : List OrderEntry) (xs : List Row) (n : ℕ) → sorted by xs ≡ true → suc n < length xs → is_le (key_cmp (directions by) (key_of by (get_or xs n [])) (key_of by (get_or xs (suc n) []))) ≡ true
rise-neighbours by [] n s l = absurd (omega arith)
rise-neighbours by (x ∷ []) n s l = absurd (omega arith)
rise-neighbours by (x ∷ y ∷ ys) zero s l = rows-keys by x y (and-left _ _ (and-left _ _ s))
rise-neighbours by (x ∷ y ∷ ys) (suc n) s l = rise-neighbours by (y ∷ ys) n (and-right _ _ s) (omega arith)

-- where a front falls, so do all
pub fall-front : (by : List OrderEntry) (xs ys : List Row) → sorted by xs ≡ false → sorted by (xs ++ ys) ≡ false
fall-front by xs ys h = not-so _ (λ s. true≢false (sym (rise-front by xs ys s) ∙ h))

pub fall-take : (by : List OrderEntry) (xs : List Row) (n : ℕ) → sorted by (take n xs) ≡ false → sorted by xs ≡ false
fall-take by xs n h = ap (sorted by) (sym (take-append-drop n xs)) ∙ fall-front by (take n xs) (drop n xs) h

-- rows that rise up to one, and from it on, rise
pub rise-meet : (by : List OrderEntry) (xs : List Row) (y : Row) (ys : List Row) → sorted by (xs ++ y ∷ []) ≡ true → sorted by (y ∷ ys) ≡ true → sorted by (xs ++ y ∷ ys) ≡ true
rise-meet by [] y ys h k = k
rise-meet by (x ∷ xs) y ys h k =
    let above = λ (r : Row). is_le (compare_on by x r) in
    let all : list_all above (xs ++ y ∷ []) ≡ true = and-left _ _ h in
    let here : above y ≡ true = and-left (above y) true (all-back above xs (y ∷ []) all) in
    let behind : list_all above ys ≡ true = all-weaken (λ r. is_le (compare_on by y r)) above (λ r l. le-trans by x y r here l) ys (and-left _ _ k) in
    and-both (list_all above (xs ++ y ∷ ys)) (sorted by (xs ++ y ∷ ys))
    (all-join above xs (y ∷ ys) (all-front above xs (y ∷ []) all) (and-both (above y) (list_all above ys) here behind))
    (rise-meet by xs y ys (and-right _ _ h) k)

-- rows that rise up to a place, and from it on: all rise where those up to the row at it do
pub rise-across : (by : List OrderEntry) (xs : List Row) (n : ℕ) (b : Bool) → n < length xs → sorted by (drop n xs) ≡ true → b ≡ sorted by (take (n + 1) xs) → b ≡ sorted by xs
rise-across by xs n true l back e =
    let y = get_or xs n [] in
    let rest : drop n xs ≡ y ∷ drop (suc n) xs = drop-cons xs n [] l in
    let whole : take n xs ++ y ∷ drop (suc n) xs ≡ xs = ap (λ zs. take n xs ++ zs) (sym rest) ∙ take-append-drop n xs in
    let front : sorted by (take n xs ++ y ∷ []) ≡ true = ap (sorted by) (sym (take_more xs n [] l)) ∙ sym e in
    sym (ap (sorted by) (sym whole) ∙ rise-meet by (take n xs) y (drop (suc n) xs) front (ap (sorted by) (sym rest) ∙ back))
rise-across by xs n false l back e = sym (fall-take by xs (n + 1) (sym e))

-- rows that rise behind others, where the last of these are among them
pub rise-behind : (by : List OrderEntry) (ps ws bs : List Row) → (ws ≡ [] → ps ≡ []) → sorted by (ps ++ ws) ≡ true → sorted by (ws ++ bs) ≡ true → sorted by (ps ++ (ws ++ bs)) ≡ true
rise-behind by ps [] bs edge h k = ap (λ xs. sorted by (xs ++ bs)) (edge refl) ∙ k
rise-behind by ps (w ∷ ws) bs edge h k =
    rise-meet by ps w (ws ++ bs) (rise-front by (ps ++ w ∷ []) ws (ap (sorted by) (append_assoc ps (w ∷ []) ws) ∙ h)) k

-- where the last rows fall, so do all
pub fall-back : (by : List OrderEntry) (xs ys : List Row) → sorted by ys ≡ false → sorted by (xs ++ ys) ≡ false
fall-back by xs ys h = not-so _ (λ s. true≢false (sym (rise-back by xs ys s) ∙ h))

-- the last key of rows behind others
pub last-back : (by : List OrderEntry) (xs ys : List Row) → (ys ≡ [] → xs ≡ []) → last_key by (xs ++ ys) ≡ last_key by ys
last-back by xs [] edge = ap (λ zs. last_key by (zs ++ [])) (edge refl)
last-back by [] (y ∷ ys) edge = refl
last-back by (x ∷ []) (y ∷ ys) edge = refl
last-back by (x ∷ z ∷ zs) (y ∷ ys) edge = last-back by (z ∷ zs) (y ∷ ys) (λ e. absurd (cons-nil e))
  where
    cons-nil : y ∷ ys ≡ [] → ⊥
    cons-nil e = cc
