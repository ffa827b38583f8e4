-- What selections and projections make of rows that lie one behind the other: where nothing overflows in either, what they make of both.
use Rattle.std.proofs.Common.{◌≡◌, ◌≤◌, Bool, true, false, ◌&&◌, cond, List, ◌++◌, length, map, filter, Some, None, refl, sym, ap, ap₂, ◌∙◌, arith}
use Rattle.std.specs.List.{list_all}
use Rattle.std.proofs.lemmas.List.{map-append, length-map}
use Rattle.std.proofs.lemmas.List.Elements.{filter-append}
use Rattle.std.proofs.lemmas.List.Sums.{length-filter, count_by-le-length}
use Rattle.std.proofs.lemmas.List.Folds.{list_all-append}
use Rattle.vx_rows_values.specs.Values.{Row}
use Rattle.vx_plan_nodes.specs.Plan.{Filter, Entry, select, project}
use Rattle.vx_plan_nodes.specs.Serial.{filters_hold, filters_fit, entries_row, entries_fit, where_fit, unary_rows}

-- there is a list where there is one, and it is this
fit-is : (b : Bool) (xs ys : List Row) → cond b (Some xs) None ≡ Some ys → (b ≡ true) × (xs ≡ ys)
fit-is true xs ys e = (refl, cc)
fit-is false xs ys e = cc

fit-none : (b : Bool) (xs : List Row) → cond b (Some xs) None ≡ None → b ≡ false
fit-none true xs e = cc
fit-none false xs e = refl

and-false : (a : Bool) → (a && false) ≡ false
and-false true = refl
and-false false = refl

where-more : (fits : Row → Bool) (make : List Row → List Row) → ((a b : List Row) → make (a ++ b) ≡ make a ++ make b) → (xs zs ys ws : List Row)
    → where_fit fits xs (make xs) ≡ Some ys → where_fit fits zs (make zs) ≡ Some ws → where_fit fits (xs ++ zs) (make (xs ++ zs)) ≡ Some (ys ++ ws)
where-more fits make joins xs zs ys ws p q =
    let one = fit-is (list_all fits xs) (make xs) ys p in
    let two = fit-is (list_all fits zs) (make zs) ws q in
    ap (λ b. cond b (Some (make (xs ++ zs))) None) (list_all-append fits xs zs ∙ ap₂ (λ a b. a && b) one.0 two.0)
    ∙ ap Some (joins xs zs ∙ ap₂ (λ a b. a ++ b) one.1 two.1)

where-none : (fits : Row → Bool) (xs zs rest all : List Row) → list_all fits zs ≡ false → where_fit fits ((xs ++ zs) ++ rest) all ≡ None
where-none fits xs zs rest all none =
    ap (λ b. cond b (Some all) None) (list_all-append fits (xs ++ zs) rest
    ∙ ap (λ b. b && list_all fits rest) (list_all-append fits xs zs ∙ (ap (λ b. list_all fits xs && b) none ∙ and-false (list_all fits xs))))

pub select-more : (fs : List Filter) (xs zs ys ws : List Row) → unary_rows (select fs) xs ≡ Some ys → unary_rows (select fs) zs ≡ Some ws → unary_rows (select fs) (xs ++ zs) ≡ Some (ys ++ ws)
select-more fs xs zs ys ws p q = where-more (filters_fit fs) (filter (filters_hold fs)) (filter-append (filters_hold fs)) xs zs ys ws p q

pub project-more : (es : List Entry) (xs zs ys ws : List Row) → unary_rows (project es) xs ≡ Some ys → unary_rows (project es) zs ≡ Some ws → unary_rows (project es) (xs ++ zs) ≡ Some (ys ++ ws)
project-more es xs zs ys ws p q = where-more (entries_fit es) (map (entries_row es)) (map-append (entries_row es)) xs zs ys ws p q

-- where something overflows in a part, it does in the whole
pub select-none : (fs : List Filter) (xs zs rest : List Row) → unary_rows (select fs) zs ≡ None → unary_rows (select fs) ((xs ++ zs) ++ rest) ≡ None
select-none fs xs zs rest e = where-none (filters_fit fs) xs zs rest (filter (filters_hold fs) ((xs ++ zs) ++ rest)) (fit-none (list_all (filters_fit fs) zs) (filter (filters_hold fs) zs) e)

pub project-none : (es : List Entry) (xs zs rest : List Row) → unary_rows (project es) zs ≡ None → unary_rows (project es) ((xs ++ zs) ++ rest) ≡ None
project-none es xs zs rest e = where-none (entries_fit es) xs zs rest (map (entries_row es) ((xs ++ zs) ++ rest)) (fit-none (list_all (entries_fit es) zs) (map (entries_row es) zs) e)

-- no more rows come of them
pub select-fewer : (fs : List Filter) (xs ys : List Row) → unary_rows (select fs) xs ≡ Some ys → length ys ≤ length xs
select-fewer fs xs ys e =
    let is = fit-is (list_all (filters_fit fs) xs) (filter (filters_hold fs) xs) ys e in
    let same = ap length is.1 in
    omega (arith, same, length-filter (filters_hold fs) xs, count_by-le-length (filters_hold fs) xs)

pub project-fewer : (es : List Entry) (xs ys : List Row) → unary_rows (project es) xs ≡ Some ys → length ys ≤ length xs
project-fewer es xs ys e =
    let is = fit-is (list_all (entries_fit es) xs) (map (entries_row es) xs) ys e in
    let same = ap length is.1 in
    let many = length-map xs (entries_row es) in
    omega (arith, same, many)

-- where nothing overflows in any row, and where something does in one
pub where-is : (fits : Row → Bool) (xs ys zs : List Row) → list_all fits xs ≡ true → zs ≡ ys → where_fit fits xs ys ≡ Some zs
where-is fits xs ys zs all e = ap (λ b. cond b (Some ys) None) all ∙ ap Some (sym e)

pub where-not : (fits : Row → Bool) (xs ys : List Row) → list_all fits xs ≡ false → where_fit fits xs ys ≡ None
where-not fits xs ys some = ap (λ b. cond b (Some ys) None) some
