-- Where the elements of a list stand that pass a test.
use Rattle.std.proofs.Common.{◌≡◌, ℕ, suc, zero, ◌<◌, Bool, true, false, cond, List, [], ◌∷◌, ◌++◌, map, filter, length, get_or, refl, ap, ◌∙◌, arith, true≢false, ◌||◌}
use Rattle.std.specs.List.{All, list_any}
use Rattle.std.proofs.lemmas.List.{map-append, append-nil}
use Rattle.vx_rows_values.specs.Values.{Row, row_eq, pick}
use Rattle.vx_match_join.specs.Build.{places, places_of}

one-later : (b : Bool) (n : ℕ) → map suc (cond b (n ∷ []) []) ≡ cond b (suc n ∷ []) []
one-later true n = refl
one-later false n = refl

first-or : (b : Bool) (ks ls : List ℕ) (more : List ℕ) → ks ≡ ls ++ more → cond b (0 ∷ ks) ks ≡ cond b (0 ∷ ls) ls ++ more
first-or true ks ls more h = ap (λ l. 0 ∷ l) h
first-or false ks ls more h = h

pub places-push : {X : Type 0} (p : X → Bool) (xs : List X) (y : X) → places p (xs ++ y ∷ []) ≡ places p xs ++ cond (p y) (length xs ∷ []) []
places-push p [] y = refl
places-push p (x ∷ xs) y =
    first-or (p x) (map suc (places p (xs ++ y ∷ []))) (map suc (places p xs)) (cond (p y) (suc (length xs) ∷ []) [])
    (ap (map suc) (places-push p xs y)
    ∙ (map-append suc (places p xs) (cond (p y) (length xs ∷ []) []) ∙ ap (λ l. map suc (places p xs) ++ l) (one-later (p y) (length xs))))

pub places-more : (by : List ℕ) (z : Row) (xs : List Row) (y : Row) → row_eq z (pick by y) ≡ true → places_of by z (xs ++ y ∷ []) ≡ places_of by z xs ++ length xs ∷ []
places-more by z xs y h = places-push (λ r. row_eq z (pick by r)) xs y ∙ ap (λ b. places_of by z xs ++ cond b (length xs ∷ []) []) h

pub places-other : (by : List ℕ) (z : Row) (xs : List Row) (y : Row) → row_eq z (pick by y) ≡ false → places_of by z (xs ++ y ∷ []) ≡ places_of by z xs
places-other by z xs y h =
    places-push (λ r. row_eq z (pick by r)) xs y ∙ (ap (λ b. places_of by z xs ++ cond b (length xs ∷ []) []) h ∙ append-nil (places_of by z xs))

pub places-none : (by : List ℕ) (z : Row) (xs : List Row) → list_any (row_eq z) (map (pick by) xs) ≡ false → places_of by z xs ≡ []
places-none by z [] h = refl
places-none by z (x ∷ xs) h = step (row_eq z (pick by x)) refl h (places-none by z xs)
  where
    step : (b : Bool) → row_eq z (pick by x) ≡ b → (b || list_any (row_eq z) (map (pick by) xs)) ≡ false → (list_any (row_eq z) (map (pick by) xs) ≡ false → places_of by z xs ≡ [])
        → cond b (0 ∷ map suc (places_of by z xs)) (map suc (places_of by z xs)) ≡ []
    step true e g r = absurd (true≢false g)
    step false e g r = ap (map suc) (r g)

-- the elements at these places are those that pass
later-rows : {X : Type 0} (x d : X) (xs : List X) (ks : List ℕ) → map (λ j. get_or (x ∷ xs) j d) (map suc ks) ≡ map (λ j. get_or xs j d) ks
later-rows x d xs [] = refl
later-rows x d xs (k ∷ ks) = ap (λ l. get_or xs k d ∷ l) (later-rows x d xs ks)

pub rows-at : {X : Type 0} (p : X → Bool) (xs : List X) (d : X) → map (λ j. get_or xs j d) (places p xs) ≡ filter p xs
rows-at p [] d = refl
rows-at p (x ∷ xs) d = step (p x) (later-rows x d xs (places p xs) ∙ rows-at p xs d)
  where
    step : (b : Bool) → map (λ j. get_or (x ∷ xs) j d) (map suc (places p xs)) ≡ filter p xs
        → map (λ j. get_or (x ∷ xs) j d) (cond b (0 ∷ map suc (places p xs)) (map suc (places p xs))) ≡ cond b (x ∷ filter p xs) (filter p xs)
    step true h = ap (λ l. x ∷ l) h
    step false h = h

-- they are places of the list
abbrev AreBelow : ℕ → List ℕ → Type 0
AreBelow n [] = Unit {0}
AreBelow n (k ∷ ks) = (k < n) × AreBelow n ks

later-below : (n : ℕ) (ks : List ℕ) → AreBelow n ks → AreBelow (suc n) (map suc ks)
later-below n [] h = tt
later-below n (k ∷ ks) h = (let l = h.0 in omega (arith, l), later-below n ks h.1)

below : {X : Type 0} (p : X → Bool) (xs : List X) → AreBelow (length xs) (places p xs)
below p [] = tt
below p (x ∷ xs) = step (p x) (later-below (length xs) (places p xs) (below p xs))
  where
    step : (b : Bool) → AreBelow (suc (length xs)) (map suc (places p xs)) → AreBelow (suc (length xs)) (cond b (0 ∷ map suc (places p xs)) (map suc (places p xs)))
    step true h = (omega arith, h)
    step false h = h

each-below : (n : ℕ) (ks : List ℕ) → AreBelow n ks → All (λ k. k < n) ks
each-below n [] h k d l = absurd (omega (arith, l))
each-below n (j ∷ ks) h zero d l = h.0
each-below n (j ∷ ks) h (suc k) d l = each-below n ks h.1 k d (omega (arith, l))

pub places-below : {X : Type 0} (p : X → Bool) (xs : List X) → All (λ k. k < length xs) (places p xs)
places-below p xs = each-below (length xs) (places p xs) (below p xs)
