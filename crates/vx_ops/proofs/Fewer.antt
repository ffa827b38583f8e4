-- How many rows the lists have that operators make.
use Rattle.std.proofs.Common.{◌≡◌, ◌+◌, ◌≤◌, Bool, true, false, cond, List, [], ◌∷◌, length, filter, refl, ap, arith}
use Rattle.std.proofs.lemmas.List.Sums.{length-filter, count_by-le-length}
use Rattle.std.specs.Ordering.{is_le}
use Rattle.vx_rows_values.specs.declared.order.OrderEntry.{OrderEntry}
use Rattle.vx_rows_values.specs.Values.{Row}
use Rattle.vx_rows_values.specs.Order.{compare_on, insert_sorted, sort_on}

-- those that pass are no more
pub filter-long : {X : Type 0} (p : X → Bool) (xs : List X) → length (filter p xs) ≤ length xs
filter-long p xs = omega (arith, length-filter p xs, count_by-le-length p xs)

pub filtered-long : {X : Type 0} (p : X → Bool) (xs ys : List X) → ys ≡ filter p xs → length ys ≤ length xs
filtered-long p xs ys e = let same = ap length e in omega (arith, same, filter-long p xs)

insert-long : (order : List OrderEntry) (x : Row) (ys : List Row) → length (insert_sorted order x ys) ≡ length ys + 1
insert-long order x [] = refl
insert-long order x (y ∷ ys) = go (is_le (compare_on order x y)) (insert-long order x ys)
  where
    go : (b : Bool) → length (insert_sorted order x ys) ≡ length ys + 1 → length (cond b (x ∷ y ∷ ys) (y ∷ insert_sorted order x ys)) ≡ length (y ∷ ys) + 1
    go true more = omega arith
    go false more = omega (arith, more)

-- as many rows are sorted
pub sort-long : (order : List OrderEntry) (xs : List Row) → length (sort_on order xs) ≡ length xs
sort-long order [] = refl
sort-long order (x ∷ xs) =
    let more = insert-long order x (sort_on order xs) in
    let rest = sort-long order xs in
    omega (arith, more, rest)
