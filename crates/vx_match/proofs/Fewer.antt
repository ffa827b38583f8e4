-- How many rows joins and groups make.
use Rattle.std.proofs.Common.{◌≡◌, ℕ, ◌+◌, ◌*◌, ◌≤◌, Bool, true, false, cond, List, ◌++◌, length, map, filter, Some, None, sym, ap, ◌∙◌, subst, arith}
use Rattle.std.proofs.lemmas.List.{map-append, length-map, length-append}
use Rattle.std.proofs.lemmas.List.Sums.{sum_by-le}
use Rattle.std.proofs.lemmas.List.Concat.{length-flat_map}
use Rattle.std.specs.List.{list_all}
use Rattle.vx_rows_values.specs.Values.{Row, pick}
use Rattle.vx_plan_nodes.specs.Plan.{Aggregate}
use Rattle.vx_plan_nodes.specs.Serial.{matches, joined_with, join_rows, firsts, group_keys, group_row, group_fits, group_rows}
use Rattle.vx_match_keys.proofs.NumberFacts.{firsts-all, all-long}
use Rattle.vx_ops.proofs.Fewer.{filter-long}

-- a left row makes at most one with each right row
joined-long : (on : List (ℕ × ℕ)) (rs : List Row) (l : Row) → length (joined_with on rs l) ≤ length rs
joined-long on rs l = omega (arith, length-map (filter (matches on l) rs) (λ (r : Row). l ++ r), filter-long (matches on l) rs)

pub join-long : (on : List (ℕ × ℕ)) (ls rs : List Row) → length (join_rows on ls rs) ≤ length ls * length rs
join-long on ls rs =
    let each = sum_by-le (λ l. length (joined_with on rs l)) (length rs) ls (λ k d lt. joined-long on rs _) in
    let all = length-flat_map (joined_with on rs) ls in
    omega (arith, each, all)

-- the first rows of a batch were joined with some of so many right rows
pub probe-long : (on : List (ℕ × ℕ)) (front rest batch made rs : List Row) (read more : ℕ) → front ++ rest ≡ batch → made ≡ join_rows on front rs
    → length made + length rest * (read + length rs + more) ≤ length batch * (read + length rs + more)
probe-long on front rest batch made rs read more e m =
    let most : length made ≤ length front * length rs = subst (λ ys. length ys ≤ length front * length rs) (sym m) (join-long on front rs) in
    let parts : length batch ≡ length front + length rest = ap length (sym e) ∙ length-append front rest in
    rw parts (omega (arith, most))

-- a batch adds at most a key for each row
pub keys-more : (by : List ℕ) (xs ys : List Row) → length (group_keys by (xs ++ ys)) ≤ length (group_keys by xs) + length ys
keys-more by xs ys =
    let both = ap length (firsts-all (map (pick by) xs) (map (pick by) ys)) in
    let most = all-long (firsts (map (pick by) xs)) (map (pick by) ys) in
    let parts = ap (λ (zs : List Row). length (firsts zs)) (map-append (pick by) xs ys) in
    let count = length-map ys (pick by) in
    omega (arith, both, most, parts, count)

-- a row for each key
pub group-long : (by : List ℕ) (aggregates : List Aggregate) (xs ys : List Row) → group_rows by aggregates xs ≡ Some ys → length ys ≡ length (group_keys by xs)
group-long by aggregates xs ys e = go (list_all (group_fits by aggregates xs) (group_keys by xs)) e
  where
    go : (b : Bool) → cond b (Some (map (group_row by aggregates xs) (group_keys by xs))) None ≡ Some ys → length ys ≡ length (group_keys by xs)
    go true e = let same : map (group_row by aggregates xs) (group_keys by xs) ≡ ys = cc in ap length (sym same) ∙ length-map (group_keys by xs) (group_row by aggregates xs)
    go false e = cc
