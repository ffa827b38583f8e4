-- Rows have a value for each column.
use Rattle.std.proofs.Common.{◌≡◌, ℕ, suc, ◌+◌, ◌==◌, Bool, true, false, cond, not, List, [], ◌∷◌, ◌++◌, map, filter, length, refl, ap, arith, Option, Some, None, eqb-true, eq-eqb, length-append}
use Rattle.std.specs.List.{list_all}
use Rattle.vx_rows_values.specs.Values.{Row, pick, row_eq}
use Rattle.vx_plan_nodes.specs.Plan.{Aggregate}
use Rattle.vx_plan_nodes.specs.Serial.{firsts, group_keys, group_row, of_key, aggregate_of}
use Rattle.vx_exec_laws.proofs.Bags.{and-left, and-right, and-both}
use Rattle.vx_exec_laws.proofs.Parts.{list_all-weaken, list_all-always}
use Rattle.vx_exec_laws.proofs.Orders.{list_all-filter}
use Rattle.vx_exec_laws.proofs.Unary.{map-all}
use Rattle.vx_exec_laws.proofs.JoinOrder.{wide}

pub length-values : {X Y : Type 0} (g : X → Y) (xs : List X) → length (map g xs) ≡ length xs
length-values g [] = refl
length-values g (x ∷ xs) = ap suc (length-values g xs)

pub length-pick : (cols : List ℕ) (row : Row) → length (pick cols row) ≡ length cols
length-pick [] row = refl
length-pick (c ∷ cols) row = ap suc (length-pick cols row)

pub firsts-all : (p : Row → Bool) (xs : List Row) → list_all p xs ≡ true → list_all p (firsts xs) ≡ true
firsts-all p [] h = refl
firsts-all p (x ∷ xs) h =
    and-both (p x) (list_all p (filter (λ y. not (row_eq x y)) (firsts xs))) (and-left (p x) (list_all p xs) h)
    (list_all-filter p (λ y. not (row_eq x y)) (firsts xs) (firsts-all p xs (and-right (p x) (list_all p xs) h)))

pub picks-wide : (cols : List ℕ) (xs : List Row) → wide (length cols) (map (pick cols) xs) ≡ true
picks-wide cols xs = map-all (λ row. length row == length cols) (pick cols) xs
    (list_all-always (λ row. length (pick cols row) == length cols) (λ row. eq-eqb _ _ (length-pick cols row)) xs)

pub some-of : (b : Bool) (xs ys : List Row) → cond b (Some xs) None ≡ Some ys → (b ≡ true) × (xs ≡ ys)
some-of true xs ys e = (refl, ap (λ o. some_or o xs) e)
  where
    some_or : Option (List Row) → List Row → List Row
    some_or (Some a) d = a
    some_or None d = d
some-of false xs ys e = cc

pub groups-wide : (by : List ℕ) (aggregates : List Aggregate) (xs : List Row) → wide (length by + length aggregates) (map (group_row by aggregates xs) (group_keys by xs)) ≡ true
groups-wide by aggregates xs = map-all _ (group_row by aggregates xs) (group_keys by xs)
    (list_all-weaken (λ key. length key == length by) (λ key. length (group_row by aggregates xs key) == (length by + length aggregates))
    (λ key t.
    let a : length key ≡ length by = eqb-true _ _ t in
    let b : length (key ++ map (λ a. aggregate_of a (of_key by key xs)) aggregates) ≡ length key + length (map (λ a. aggregate_of a (of_key by key xs)) aggregates)
    = length-append key (map (λ a. aggregate_of a (of_key by key xs)) aggregates) in
    let c : length (map (λ a. aggregate_of a (of_key by key xs)) aggregates) ≡ length aggregates = length-values (λ a. aggregate_of a (of_key by key xs)) aggregates in
    eq-eqb _ _ (omega arith))
    (group_keys by xs) (firsts-all _ (map (pick by) xs) (picks-wide by xs)))
