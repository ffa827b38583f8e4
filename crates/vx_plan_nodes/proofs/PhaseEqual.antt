-- Columns and aggregates that are tested to be the same are the same.
use Rattle.std.proofs.Common.{◌≡◌, ℕ, ◌==◌, true, List, [], ◌∷◌, refl, sym, ap, true≢false, eqb-true}
use Rattle.vx_plan_nodes.specs.Plan.{Aggregate, least, greatest, sum, count_rows}
use Rattle.vx_plan_nodes.specs.Phases.{aggregate_eq, aggregates_eq, columns_eq}
use Rattle.vx_rows_values.proofs.Booleans.{and-left, and-right}

pub columns_eq-is : (xs ys : List ℕ) → columns_eq xs ys ≡ true → xs ≡ ys
columns_eq-is [] [] e = refl
columns_eq-is [] (y ∷ ys) e = absurd (true≢false (sym e))
columns_eq-is (x ∷ xs) [] e = absurd (true≢false (sym e))
columns_eq-is (x ∷ xs) (y ∷ ys) e =
    let a : x ≡ y = eqb-true x y (and-left (x == y) (columns_eq xs ys) e) in
    let b : xs ≡ ys = columns_eq-is xs ys (and-right (x == y) (columns_eq xs ys) e) in
    cc

aggregate_eq-is : (a b : Aggregate) → aggregate_eq a b ≡ true → a ≡ b
aggregate_eq-is (least c) (least d) e = ap least (eqb-true c d e)
aggregate_eq-is (least c) (greatest d) e = absurd (true≢false (sym e))
aggregate_eq-is (least c) (sum d) e = absurd (true≢false (sym e))
aggregate_eq-is (least c) count_rows e = absurd (true≢false (sym e))
aggregate_eq-is (greatest c) (least d) e = absurd (true≢false (sym e))
aggregate_eq-is (greatest c) (greatest d) e = ap greatest (eqb-true c d e)
aggregate_eq-is (greatest c) (sum d) e = absurd (true≢false (sym e))
aggregate_eq-is (greatest c) count_rows e = absurd (true≢false (sym e))
aggregate_eq-is (sum c) (least d) e = absurd (true≢false (sym e))
aggregate_eq-is (sum c) (greatest d) e = absurd (true≢false (sym e))
aggregate_eq-is (sum c) (sum d) e = ap sum (eqb-true c d e)
aggregate_eq-is (sum c) count_rows e = absurd (true≢false (sym e))
aggregate_eq-is count_rows (least d) e = absurd (true≢false (sym e))
aggregate_eq-is count_rows (greatest d) e = absurd (true≢false (sym e))
aggregate_eq-is count_rows (sum d) e = absurd (true≢false (sym e))
aggregate_eq-is count_rows count_rows e = refl

pub aggregates_eq-is : (xs ys : List Aggregate) → aggregates_eq xs ys ≡ true → xs ≡ ys
aggregates_eq-is [] [] e = refl
aggregates_eq-is [] (y ∷ ys) e = absurd (true≢false (sym e))
aggregates_eq-is (x ∷ xs) [] e = absurd (true≢false (sym e))
aggregates_eq-is (x ∷ xs) (y ∷ ys) e =
    let a : x ≡ y = aggregate_eq-is x y (and-left (aggregate_eq x y) (aggregates_eq xs ys) e) in
    let b : xs ≡ ys = aggregates_eq-is xs ys (and-right (aggregate_eq x y) (aggregates_eq xs ys) e) in
    cc
