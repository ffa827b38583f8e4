-- Places that are counted first, and then put one after the other.
use Rattle.std.proofs.Common.{◌≡◌, ℕ, ◌+◌, ◌<◌, ◌≤◌, List, [], ◌∷◌, ◌++◌, Bool, true, false, sym, ap, ◌∙◌, refl, length, get_or, set, take, drop, arith, suc}
use Rattle.std.specs.Prelude.{cond, All}
use mir.Val.{bool_byte}
use Rattle.std.specs.List.{AllByRecursion}
use Rattle.std.proofs.lemmas.List.{length-append, length-drop, length_push, append-nil, nil_from_length, take-append-drop, take_more_set, take-set}
use Rattle.vx_rows.proofs.Below.{all_at}
use Rattle.vx_rows_views.specs.Selected.{places_from, places_of}
use Rattle.vx_rows_views.proofs.Passing.{step, few-from, next-place-here}

joined-from : {X : Type 0} (p : X → Bool) (n m : ℕ) (xs ys : List X) → n + length xs ≡ m → places_from p n (xs ++ ys) ≡ places_from p n xs ++ places_from p m ys
joined-from p n m [] ys h = let e : n ≡ m = omega (arith, h) in ap (λ i. places_from p i ys) e
joined-from p n m (x ∷ xs) ys h =
    let r = joined-from p (n + 1) m xs ys (omega (arith, h)) in
    ap (λ l. cond (p x) (n ∷ l) l) r ∙ step (p x) n (places_from p (n + 1) xs) (places_from p m ys)

-- the places in a first part, and those in the rest
abbrev rest : {X : Type 0} (p : X → Bool) (xs : List X) (i : ℕ) → List ℕ
rest p xs i = places_from p (length (take i xs)) (drop i xs)

in-parts : {X : Type 0} (p : X → Bool) (xs : List X) (i : ℕ) → places_of p xs ≡ places_of p (take i xs) ++ rest p xs i
in-parts p xs i = ap (places_of p) (sym (take-append-drop i xs)) ∙ joined-from p 0 (length (take i xs)) (take i xs) (drop i xs) (omega arith)

counted-in-parts : {X : Type 0} (p : X → Bool) (xs : List X) (i : ℕ) → length (places_of p xs) ≡ length (places_of p (take i xs)) + length (rest p xs i)
counted-in-parts p xs i = ap length (in-parts p xs i) ∙ length-append (places_of p (take i xs)) (rest p xs i)

-- where not all places are found yet, elements are left
pub not-yet : {X : Type 0} (p : X → Bool) (xs : List X) (i : ℕ) → length (places_of p (take i xs)) < length (places_of p xs) → i < length xs
not-yet p xs i h =
    let e = counted-in-parts p xs i in
    let f = few-from p (length (take i xs)) (drop i xs) in
    let d = length-drop i xs in
    omega (arith, e, f, d, h)

-- where as many places are found as there are, they are all of them
pub all-found : {X : Type 0} (p : X → Bool) (xs : List X) (i : ℕ) → length (places_of p xs) ≤ length (places_of p (take i xs)) → places_of p (take i xs) ≡ places_of p xs
all-found p xs i h =
    let e = counted-in-parts p xs i in
    let none : rest p xs i ≡ [] = nil_from_length (rest p xs i) (omega (arith, e, h)) in
    sym (in-parts p xs i ∙ (ap (λ l. places_of p (take i xs) ++ l) none ∙ append-nil (places_of p (take i xs))))

-- a place more, if the element passes
pub one-more : {X : Type 0} (p : X → Bool) (xs : List X) (i : ℕ) (d : X) (b : Bool) → i < length xs → b ≡ p (get_or xs i d)
    → length (places_of p (take (i + 1) xs)) ≡ length (places_of p (take i xs)) + bool_byte b
one-more p xs i d b h e =
    ap length (next-place-here p xs i d h ∙ ap (λ (c : Bool). places_of p (take i xs) ++ cond c (i ∷ []) []) (sym e)) ∙ go b
  where
    go : (c : Bool) → length (places_of p (take i xs) ++ cond c (i ∷ []) []) ≡ length (places_of p (take i xs)) + bool_byte c
    go true = length_push (places_of p (take i xs)) i
    go false = let n = ap length (append-nil (places_of p (take i xs))) in omega (arith, n)

-- a place that is written, and stays where the element passes
pub put-more : {X : Type 0} (p : X → Bool) (xs : List X) (i : ℕ) (d : X) (b : Bool) (places : List ℕ) (found : ℕ) → i < length xs → b ≡ p (get_or xs i d)
    → found < length places → take found places ≡ places_of p (take i xs) → take (found + bool_byte b) (set places found i) ≡ places_of p (take (i + 1) xs)
put-more p xs i d b places found h e l t =
    go b ∙ (ap (λ l. l ++ cond b (i ∷ []) []) t ∙ (ap (λ (c : Bool). places_of p (take i xs) ++ cond c (i ∷ []) []) e ∙ sym (next-place-here p xs i d h)))
  where
    go : (c : Bool) → take (found + bool_byte c) (set places found i) ≡ take found places ++ cond c (i ∷ []) []
    go true = take_more_set places found i l
    go false = let z : found + 0 ≡ found = omega arith in ap (λ n. take n (set places found i)) z ∙ (take-set places found i ∙ sym (append-nil (take found places)))

passes-from : {X : Type 0} (p : X → Bool) (n : ℕ) (xs : List X) → length (places_from p n xs) ≡ length xs → AllByRecursion (λ x. p x ≡ true) xs
passes-from p n [] h = tt
passes-from {X} p n (x ∷ xs) h = go (p x) refl h (few-from p (n + 1) xs) (passes-from p (n + 1) xs)
  where
    go : (b : Bool) → p x ≡ b → length (cond b (n ∷ places_from p (n + 1) xs) (places_from p (n + 1) xs)) ≡ suc (length xs)
        → length (places_from p (n + 1) xs) ≤ length xs → (length (places_from p (n + 1) xs) ≡ length xs → AllByRecursion (λ x. p x ≡ true) xs) → (p x ≡ true) × AllByRecursion (λ x. p x ≡ true) xs
    go true s e l ih = (s, ih (omega (arith, e)))
    go false s e l ih = absurd (omega (arith, e, l))

-- as many places as elements: each passes
pub each-passes : {X : Type 0} (p : X → Bool) (xs : List X) → length (places_of p xs) ≡ length xs → All (λ x. p x ≡ true) xs
each-passes p xs h = all_at (λ x. p x ≡ true) xs (passes-from p 0 xs h)

pub bit-few : (b : Bool) → bool_byte b ≤ 1
bit-few true = omega arith
bit-few false = omega arith
