-- Keys that are numbered in two parts.
use Rattle.std.proofs.Common.{◌≡◌, ℕ, suc, zero, ◌-◌, List, [], ◌∷◌, ◌++◌, map, take, drop, length, refl, sym, ap, ◌∙◌, arith}
use Rattle.std.specs.Prelude.{slice_range}
use Rattle.std.proofs.lemmas.List.{take_all, take-append-drop, length-drop, length-map}
use Rattle.indexmap.specs.IndexSet.{insert_all}
use Rattle.vx_rows_values.specs.Values.{Row, row_eq, pick}
use Rattle.vx_match_keys.specs.Numbers.{numbers_of}
use Rattle.vx_match_keys.proofs.NumberFacts.{numbers-append, all-append}

-- the numbers of the first n keys, and of those behind them
pub numbers-split : (ks xs : List Row) (n : ℕ) → numbers_of ks (take n xs) ++ numbers_of (insert_all row_eq ks (take n xs)) (drop n xs) ≡ numbers_of ks xs
numbers-split ks xs n = sym (numbers-append ks (take n xs) (drop n xs)) ∙ ap (numbers_of ks) (take-append-drop n xs)

pub all-split : (ks xs : List Row) (n : ℕ) → insert_all row_eq (insert_all row_eq ks (take n xs)) (drop n xs) ≡ insert_all row_eq ks xs
all-split ks xs n = sym (all-append ks (take n xs) (drop n xs)) ∙ ap (insert_all row_eq ks) (take-append-drop n xs)

map-drop : (f : Row → Row) (n : ℕ) (xs : List Row) → map f (drop n xs) ≡ drop n (map f xs)
map-drop f zero xs = refl
map-drop f (suc n) [] = refl
map-drop f (suc n) (x ∷ xs) = map-drop f n xs

-- the keys of the rows from row n on
pub keys-behind : (cols : List ℕ) (rows : List Row) (n m : ℕ) → m ≡ length rows → map (pick cols) (slice_range rows n m) ≡ drop n (map (pick cols) rows)
keys-behind cols rows n m long =
    ap (map (pick cols)) (take_all (m - n) (drop n rows) (let short = length-drop n rows in omega (arith, short, long))) ∙ map-drop (pick cols) n rows

-- the first n keys are all of them
pub all-first : (cols : List ℕ) (rows : List Row) (n : ℕ) → n ≡ length rows → take n (map (pick cols) rows) ≡ map (pick cols) rows
all-first cols rows n all = let long = length-map rows (pick cols) in take_all n (map (pick cols) rows) (omega (arith, long, all))
