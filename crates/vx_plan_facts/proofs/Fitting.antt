-- Lists that an operator makes where nothing overflows, and what is known of rows of which the conditions of a select hold.
use Rattle.std.proofs.Common.{◌≡◌, Bool, true, false, cond, List, [], ◌∷◌, refl, Option, Some, None}
use Rattle.std.specs.List.{list_all}
use Rattle.vx_rows_values.specs.Values.{Row}
use Rattle.vx_rows_values.proofs.Booleans.{and-left, and-right, and-both}
use Rattle.vx_plan_nodes.specs.Plan.{Filter, comparing, computing}
use Rattle.vx_plan_nodes.specs.Expressions.{answer, says_yes}
use Rattle.vx_plan_nodes.specs.Serial.{compares, passes, filters_hold, where_fit}
use Rattle.vx_plan_facts.specs.Equal.{comparisons}

some-list : (xs ys : List Row) → Some xs ≡ Some ys → xs ≡ ys
some-list xs ys e = cc

some-where : (b : Bool) (xs ys : List Row) → cond b (Some xs) None ≡ Some ys → xs ≡ ys
some-where true xs ys e = some-list xs ys e
some-where false xs ys e = cc

-- if there is a list, it is this one
pub where-fit-is : (fits : Row → Bool) (xs ys zs : List Row) → where_fit fits xs ys ≡ Some zs → ys ≡ zs
where-fit-is fits xs ys zs e = some-where (list_all fits xs) ys zs e

-- where all conditions hold, the comparisons among them do
pub comparisons-hold : (fs : List Filter) (row : Row) → filters_hold fs row ≡ true → passes (comparisons fs) row ≡ true
comparisons-hold [] row h = refl
comparisons-hold (comparing c ∷ fs) row h =
    and-both (compares c row) (passes (comparisons fs) row) (and-left (compares c row) (filters_hold fs row) h)
    (comparisons-hold fs row (and-right (compares c row) (filters_hold fs row) h))
comparisons-hold (computing e ∷ fs) row h = comparisons-hold fs row (and-right (says_yes (answer e row)) (filters_hold fs row) h)
