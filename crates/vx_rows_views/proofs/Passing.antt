-- The places of values that pass, one more.
use Rattle.std.proofs.Common.{◌≡◌, ℕ, ◌+◌, ◌<◌, ◌≤◌, List, [], ◌∷◌, ◌++◌, append_assoc, Bool, true, false, refl, sym, ap, ◌∙◌, length, get_or, take, map, arith, suc}
use Rattle.std.specs.Prelude.{cond, filter, All}
use Rattle.std.specs.List.{AllByRecursion}
use Rattle.std.proofs.lemmas.List.{map_more, take_more, length-map, length-take, length_push}
use Rattle.std.proofs.Math.Seq.{get_or-append_seam}
use Rattle.vx_rows.proofs.Below.{all_at}
use Rattle.vx_rows_views.specs.Selected.{places_from, places_of}

pub step : (b : Bool) (n : ℕ) (xs ys : List ℕ) → cond b (n ∷ (xs ++ ys)) (xs ++ ys) ≡ cond b (n ∷ xs) xs ++ ys
step true n xs ys = refl
step false n xs ys = refl

places-push : {X : Type 0} (p : X → Bool) (n m : ℕ) (vs : List X) (v : X) → n + length vs ≡ m → places_from p n (vs ++ v ∷ []) ≡ places_from p n vs ++ cond (p v) (m ∷ []) []
places-push p n m [] v h = let e : n ≡ m = omega arith in ap (λ i. cond (p v) (i ∷ []) []) e
places-push p n m (x ∷ xs) v h =
    let r = places-push p (n + 1) m xs v (omega arith) in
    ap (λ l. cond (p x) (n ∷ l) l) r ∙ step (p x) n (places_from p (n + 1) xs) (cond (p v) (m ∷ []) [])

pub next-place : {X Y : Type 0} (p : Y → Bool) (f : X → Y) (xs : List X) (i : ℕ) (d : X) → i < length xs
    → places_of p (map f (take (i + 1) xs)) ≡ places_of p (map f (take i xs)) ++ cond (p (f (get_or xs i d))) (i ∷ []) []
next-place p f xs i d h =
    ap (places_of p) (map_more f xs i d h)
    ∙ places-push p 0 i (map f (take i xs)) (f (get_or xs i d)) (let a = length-map (take i xs) f in let b = length-take i xs in omega (arith, a, b, h))

-- the same of the elements themselves
pub next-place-here : {X : Type 0} (p : X → Bool) (xs : List X) (i : ℕ) (d : X) → i < length xs
    → places_of p (take (i + 1) xs) ≡ places_of p (take i xs) ++ cond (p (get_or xs i d)) (i ∷ []) []
next-place-here p xs i d h =
    ap (places_of p) (take_more xs i d h) ∙ places-push p 0 i (take i xs) (get_or xs i d) (let b = length-take i xs in omega (arith, b, h))

places-map-from : {X Y : Type 0} (p : Y → Bool) (f : X → Y) (n : ℕ) (xs : List X) → places_from (λ x. p (f x)) n xs ≡ places_from p n (map f xs)
places-map-from p f n [] = refl
places-map-from p f n (x ∷ xs) = let r = places-map-from p f (n + 1) xs in ap (λ l. cond (p (f x)) (n ∷ l) l) r

-- a test of what a function gives
pub places-map : {X Y : Type 0} (p : Y → Bool) (f : X → Y) (xs : List X) → places_of (λ x. p (f x)) xs ≡ places_of p (map f xs)
places-map p f xs = places-map-from p f 0 xs

-- what lies at the places of elements that pass is what passes
module _ {X : Type 0} (p : X → Bool) (d : X) where
  kept : (b : Bool) (n : ℕ) (x : X) (front ys : List X) (ns : List ℕ) (zs : List X) → length front ≡ n → map (λ i. get_or (front ++ x ∷ ys) i d) ns ≡ zs
      → map (λ i. get_or (front ++ x ∷ ys) i d) (cond b (n ∷ ns) ns) ≡ cond b (x ∷ zs) zs
  kept true n x front ys ns zs e h =
      let first : get_or (front ++ x ∷ ys) n d ≡ x = ap (λ i. get_or (front ++ x ∷ ys) i d) (sym e) ∙ get_or-append_seam front x ys d in
      ap (λ y. y ∷ map (λ i. get_or (front ++ x ∷ ys) i d) ns) first ∙ ap (λ l. x ∷ l) h
  kept false n x front ys ns zs e h = h

  passing-from : (n : ℕ) (front xs : List X) → length front ≡ n → map (λ i. get_or (front ++ xs) i d) (places_from p n xs) ≡ filter p xs
  passing-from n front [] e = refl
  passing-from n front (x ∷ xs) e =
      let m = length_push front x in
      let moved : (front ++ x ∷ []) ++ xs ≡ front ++ x ∷ xs = append_assoc front (x ∷ []) xs in
      let rest = passing-from (n + 1) (front ++ x ∷ []) xs (omega (arith, m, e)) in
      kept (p x) n x front xs (places_from p (n + 1) xs) (filter p xs) e (ap (λ l. map (λ i. get_or l i d) (places_from p (n + 1) xs)) (sym moved) ∙ rest)

pub places-filter : {X : Type 0} (p : X → Bool) (d : X) (xs : List X) → map (λ i. get_or xs i d) (places_of p xs) ≡ filter p xs
places-filter p d xs = passing-from p d 0 [] xs refl

-- the places are among those of all elements
near-from : {X : Type 0} (p : X → Bool) (m n : ℕ) (xs : List X) → n + length xs ≡ m → AllByRecursion (λ i. i < m) (places_from p n xs)
near-from p m n [] h = tt
near-from {X} p m n (x ∷ xs) h = go (p x) (near-from p m (n + 1) xs (omega (arith, h)))
  where
    go : (b : Bool) → AllByRecursion (λ i. i < m) (places_from p (n + 1) xs) → AllByRecursion (λ i. i < m) (cond b (n ∷ places_from p (n + 1) xs) (places_from p (n + 1) xs))
    go true r = (omega (arith, h), r)
    go false r = r

pub places-near : {X : Type 0} (p : X → Bool) (xs : List X) → All (λ i. i < length xs) (places_of p xs)
places-near p xs = let e : 0 + length xs ≡ length xs = omega arith in all_at (λ i. i < length xs) (places_of p xs) (near-from p (length xs) 0 xs e)

pub few-from : {X : Type 0} (p : X → Bool) (n : ℕ) (xs : List X) → length (places_from p n xs) ≤ length xs
few-from p n [] = omega arith
few-from {X} p n (x ∷ xs) = go (p x) (few-from p (n + 1) xs)
  where
    go : (b : Bool) → length (places_from p (n + 1) xs) ≤ length xs → length (cond b (n ∷ places_from p (n + 1) xs) (places_from p (n + 1) xs)) ≤ suc (length xs)
    go true r = omega (arith, r)
    go false r = omega (arith, r)

full-from : {X : Type 0} (p : X → Bool) (n : ℕ) (xs : List X) → length (places_from p n xs) ≡ length xs → filter p xs ≡ xs
full-from p n [] h = refl
full-from {X} p n (x ∷ xs) h = go (p x) h (few-from p (n + 1) xs) (full-from p (n + 1) xs)
  where
    go : (b : Bool) → length (cond b (n ∷ places_from p (n + 1) xs) (places_from p (n + 1) xs)) ≡ suc (length xs)
        → length (places_from p (n + 1) xs) ≤ length xs → (length (places_from p (n + 1) xs) ≡ length xs → filter p xs ≡ xs) → cond b (x ∷ filter p xs) (filter p xs) ≡ x ∷ xs
    go true e l ih = ap (λ ys. x ∷ ys) (ih (omega (arith, e)))
    go false e l ih = absurd (omega (arith, e, l))

-- as many places as elements: all pass
pub all-pass : {X : Type 0} (p : X → Bool) (xs : List X) → length (places_of p xs) ≡ length xs → filter p xs ≡ xs
all-pass p xs h = full-from p 0 xs h

-- the places by another test that says the same of each element
same-from : {X : Type 0} (p q : X → Bool) (n : ℕ) (xs : List X) → AllByRecursion (λ x. p x ≡ q x) xs → places_from p n xs ≡ places_from q n xs
same-from p q n [] h = refl
same-from p q n (x ∷ xs) h =
    ap (λ b. cond b (n ∷ places_from p (n + 1) xs) (places_from p (n + 1) xs)) h.0 ∙ ap (λ ps. cond (q x) (n ∷ ps) ps) (same-from p q (n + 1) xs h.1)

pub places-same : {X : Type 0} (p q : X → Bool) (xs : List X) → AllByRecursion (λ x. p x ≡ q x) xs → places_of p xs ≡ places_of q xs
places-same p q xs h = same-from p q 0 xs h
