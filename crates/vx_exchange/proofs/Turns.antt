-- Rows with the consumers that take turns, and what their consumers are sent.
use Rattle.std.proofs.Common.{◌≡◌, ℕ, ◌+◌, ◌%◌, ◌<◌, ◌==◌, ◌&&◌, nat_lt, Bool, true, false, List, [], ◌∷◌, ◌++◌, length, get_or, map, refl, sym, ap, ◌∙◌, arith, append_assoc, length-append, lt-ltb}
use Rattle.std.specs.Prelude.{zip, cond, filter}
use Rattle.std.specs.List.{list_all, AllByRecursion}
use Rattle.std.proofs.Math.Nat.{mod-add-mod}
use Rattle.std.proofs.Math.Seq.{get_or-append_seam}
use Rattle.std.proofs.lemmas.List.{length_push}
use Rattle.std.proofs.lemmas.Nat.{mod_below}
use Rattle.std.proofs.lemmas.Slice.Zip.{seconds-zip}
use Rattle.vx_rows_values.specs.Values.{Row}
use Rattle.vx_rows.specs.Lists.{each_below}
use Rattle.vx_rows.proofs.Below.{length-each_below, each_below-more, each_below-all}
use Rattle.vx_plan_nodes.specs.Plan.{ExchangeKind, route_to, round, broadcast, gather, concat}
use Rattle.vx_plan_nodes.specs.Streams.{Streams, Dealt, bearing}
use Rattle.vx_exchange_ends.proofs.Deals.{bearing-append}
use Rattle.vx_rows_views.specs.Selected.{places_from, places_of}
use Rattle.vx_exchange.specs.Lanes.{in_turn, TakesTurns}

zip-append : (ks ls : List ℕ) (xs ys : List Row) → length ks ≡ length xs → zip (ks ++ ls) (xs ++ ys) ≡ zip ks xs ++ zip ls ys
zip-append [] ls [] ys e = refl
zip-append [] ls (x ∷ xs) ys e = absurd (omega (arith, e))
zip-append (k ∷ ks) ls [] ys e = absurd (omega (arith, e))
zip-append (k ∷ ks) ls (x ∷ xs) ys e = ap (λ ts. (k, x) ∷ ts) (zip-append ks ls xs ys (omega (arith, e)))

-- more rows go on where it is the turn of consumer r
in_turn-append : (n r : ℕ) (xs ys : List Row) → r ≡ length xs % n → in_turn n 0 (xs ++ ys) ≡ in_turn n 0 xs ++ in_turn n r ys
in_turn-append n r xs ys e =
    let f : ℕ → ℕ = λ i. (0 + i) % n in
    let g : ℕ → ℕ = λ i. (r + i) % n in
    let next : (k : ℕ) → f (length xs + k) ≡ g k = λ k.
    let z : 0 + (length xs + k) ≡ length xs + k = omega arith in
    ap (λ m. m % n) z ∙ sym (mod-add-mod (length xs) n k) ∙ ap (λ m. (m + k) % n) (sym e) in
    ap (λ m. zip (each_below m f) (xs ++ ys)) (length-append xs ys)
    ∙ ap (λ ks. zip ks (xs ++ ys)) (each_below-more (length xs) (length ys) f f g (λ k l. refl) (λ k l. next k))
    ∙ zip-append (each_below (length xs) f) (each_below (length ys) g) xs ys (length-each_below (length xs) f)

pub turns-append : (k : ExchangeKind) (n r : ℕ) (xs ys : List Row) (sent more : Streams) → r ≡ length xs % n → TakesTurns k n 0 xs sent → TakesTurns k n r ys more
    → TakesTurns k n 0 (xs ++ ys) (λ j. sent j ++ more j)
turns-append (route_to z route cols) n r xs ys sent more e h m = tt
turns-append (round z) n r xs ys sent more e h m = λ j l.
    ap (bearing j) (in_turn-append n r xs ys e) ∙ bearing-append j (in_turn n 0 xs) (in_turn n r ys)
    ∙ ap (λ zs. zs ++ bearing j (in_turn n r ys)) (h j l) ∙ ap (λ zs. sent j ++ zs) (m j l)
turns-append (broadcast z) n r xs ys sent more e h m = tt
turns-append gather n r xs ys sent more e h m = tt
turns-append concat n r xs ys sent more e h m = tt

pub turn-after : (n r : ℕ) (xs ys : List Row) → r ≡ length xs % n → (r + length ys) % n ≡ length (xs ++ ys) % n
turn-after n r xs ys e =
    ap (λ m. (m + length ys) % n) e ∙ mod-add-mod (length xs) n (length ys) ∙ ap (λ m. m % n) (sym (length-append xs ys))

none-bearing : (n j : ℕ) → bearing j (in_turn n 0 []) ≡ []
unfolding each_below
none-bearing n j = refl

pub turns-none : (k : ExchangeKind) (n : ℕ) → TakesTurns k n 0 [] (λ j. [])
turns-none (route_to z route cols) n = tt
turns-none (round z) n = λ j l. none-bearing n j
turns-none (broadcast z) n = tt
turns-none gather n = tt
turns-none concat n = tt

pub turn-first : (n : ℕ) → 0 < n → 0 ≡ 0 % n
turn-first n some = omega arith

-- rows with their consumers are dealt to them

numbers-within : (n : ℕ) (ks : List ℕ) (xs : List Row) → AllByRecursion (λ k. k < n) ks → list_all (λ t. nat_lt t.0 n) (zip ks xs) ≡ true
numbers-within n [] xs h = refl
numbers-within n (k ∷ ks) [] h = refl
numbers-within n (k ∷ ks) (x ∷ xs) h = ap (λ b. b && list_all (λ t. nat_lt t.0 n) (zip ks xs)) (lt-ltb k n h.0) ∙ numbers-within n ks xs h.1

pub turns-dealt : (n r : ℕ) (xs : List Row) → 0 < n → Dealt n xs (λ j. bearing j (in_turn n r xs))
turns-dealt n r xs some =
    let f : ℕ → ℕ = λ i. (r + i) % n in
    record {
      numbered = in_turn n r xs;
      whole = seconds-zip (each_below (length xs) f) xs (sym (length-each_below (length xs) f));
      in_range = numbers-within n (each_below (length xs) f) xs (each_below-all (λ k. k < n) (length xs) f (λ k l. mod_below (r + k) n some));
      lists_are = λ j l. refl;
    }

-- rows whose consumer is a function of them

head-bearing : (b : Bool) (x : Row) (xs ys : List Row) → xs ≡ ys → cond b (x ∷ xs) xs ≡ cond b (x ∷ ys) ys
head-bearing b x xs ys e = ap (λ zs. cond b (x ∷ zs) zs) e

pub filter-bearing : (f g : Row → ℕ) (j : ℕ) (xs : List Row) → ((x : Row) → g x ≡ f x) → filter (λ x. g x == j) xs ≡ bearing j (zip (map f xs) xs)
filter-bearing f g j [] e = refl
filter-bearing f g j (x ∷ xs) e =
    ap (λ k. cond (k == j) (x ∷ filter (λ y. g y == j) xs) (filter (λ y. g y == j) xs)) (e x)
    ∙ head-bearing (f x == j) x (filter (λ y. g y == j) xs) (bearing j (zip (map f xs) xs)) (filter-bearing f g j xs e)

-- what lies at the places of a consumer is what bears its number
module _ (j : ℕ) (d : Row) where
  kept : (b : Bool) (n : ℕ) (x : Row) (front ys : List Row) (ns : List ℕ) (zs : List Row) → length front ≡ n → map (λ i. get_or (front ++ x ∷ ys) i d) ns ≡ zs
      → map (λ i. get_or (front ++ x ∷ ys) i d) (cond b (n ∷ ns) ns) ≡ cond b (x ∷ zs) zs
  kept true n x front ys ns zs e h =
      let first : get_or (front ++ x ∷ ys) n d ≡ x = ap (λ i. get_or (front ++ x ∷ ys) i d) (sym e) ∙ get_or-append_seam front x ys d in
      ap (λ y. y ∷ map (λ i. get_or (front ++ x ∷ ys) i d) ns) first ∙ ap (λ l. x ∷ l) h
  kept false n x front ys ns zs e h = h

  bearing-from : (n : ℕ) (front : List Row) (ks : List ℕ) (xs : List Row) → length front ≡ n → length ks ≡ length xs
      → map (λ i. get_or (front ++ xs) i d) (places_from (λ k. k == j) n ks) ≡ bearing j (zip ks xs)
  bearing-from n front [] [] e l = refl
  bearing-from n front [] (x ∷ xs) e l = absurd (omega (arith, l))
  bearing-from n front (k ∷ ks) [] e l = absurd (omega (arith, l))
  bearing-from n front (k ∷ ks) (x ∷ xs) e l =
      let m = length_push front x in
      let moved : (front ++ x ∷ []) ++ xs ≡ front ++ x ∷ xs = append_assoc front (x ∷ []) xs in
      let rest = bearing-from (n + 1) (front ++ x ∷ []) ks xs (omega (arith, m, e)) (omega (arith, l)) in
      kept (k == j) n x front xs (places_from (λ i. i == j) (n + 1) ks) (bearing j (zip ks xs)) e (ap (λ xs. map (λ i. get_or xs i d) (places_from (λ i. i == j) (n + 1) ks)) (sym moved) ∙ rest)

pub places-bearing : (j : ℕ) (d : Row) (ks : List ℕ) (xs : List Row) → length ks ≡ length xs → map (λ i. get_or xs i d) (places_of (λ k. k == j) ks) ≡ bearing j (zip ks xs)
places-bearing j d ks xs l = bearing-from j d 0 [] ks xs refl l
