-- All conditions hold, one by one.
use Rattle.std.proofs.Common.{◌≡◌, ℕ, ◌+◌, ◌<◌, ◌&&◌, Bool, true, false, cond, List, [], ◌∷◌, length, take, filter, get_or, sym, ◌∙◌, ap, refl}
use Rattle.std.specs.List.{All, list_all}
use Rattle.std.proofs.lemmas.List.Elements.{All-head, All-tail}
use Rattle.std.proofs.lemmas.List.Folds.{list_all-map, list_all_more}
use Rattle.vx_rows_values.specs.Values.{Row}
use Rattle.vx_plan_nodes.specs.Serial.{passes}
use Rattle.vx_plan_nodes.specs.Conditions.{conditions_of}
use Rattle.vx_plan_nodes.specs.Outline.{condition_of}
use Rattle.vx_plan_nodes.specs.declared.typed.Condition.{Condition}
use Rattle.vx_ops_kernels.specs.Holds.{holds, holds_of}

pub all-hold : (cs : List Condition) (row : Row) → passes (conditions_of cs) row ≡ list_all (λ c. holds_of c row) cs
all-hold cs row = list_all-map (λ c. holds c row) condition_of cs

-- rows filtered by one condition after the other
pub filter-both : (p q : Row → Bool) (xs : List Row) → filter q (filter p xs) ≡ filter (λ x. p x && q x) xs
filter-both p q [] = refl
filter-both p q (x ∷ xs) = go (p x) (filter-both p q xs)
  where
    go : (b : Bool) → filter q (filter p xs) ≡ filter (λ y. p y && q y) xs
        → filter q (cond b (x ∷ filter p xs) (filter p xs)) ≡ cond (b && q x) (x ∷ filter (λ y. p y && q y) xs) (filter (λ y. p y && q y) xs)
    go true e = ap (λ ys. cond (q x) (x ∷ ys) ys) e
    go false e = e

pub filter-same : (p q : Row → Bool) (xs : List Row) → ((x : Row) → p x ≡ q x) → filter p xs ≡ filter q xs
filter-same p q [] e = refl
filter-same p q (x ∷ xs) e = ap (λ b. cond b (x ∷ filter p xs) (filter p xs)) (e x) ∙ ap (λ ys. cond (q x) (x ∷ ys) ys) (filter-same p q xs e)

-- no condition: all rows
pub chosen-none : (xs : List Row) → xs ≡ filter (passes (conditions_of [])) xs
chosen-none [] = refl
chosen-none (x ∷ xs) = ap (λ ys. x ∷ ys) (chosen-none xs)

-- one condition more
pub chosen-more : (cs : List Condition) (i : ℕ) (c : Condition) (xs : List Row) → i < length cs → get_or cs i c ≡ c
    → filter (holds_of c) (filter (passes (conditions_of (take i cs))) xs) ≡ filter (passes (conditions_of (take (i + 1) cs))) xs
chosen-more cs i c xs l e =
    filter-both (passes (conditions_of (take i cs))) (holds_of c) xs
    ∙ filter-same (λ r. passes (conditions_of (take i cs)) r && holds_of c r) (passes (conditions_of (take (i + 1) cs))) xs (λ r.
    ap (λ b. b && holds_of c r) (all-hold (take i cs) r)
    ∙ (ap (λ d. list_all (λ c. holds_of c r) (take i cs) && holds_of d r) (sym e)
    ∙ (sym (list_all_more (λ c. holds_of c r) cs i c l) ∙ sym (all-hold (take (i + 1) cs) r))))

-- a test that passes all rows keeps them all
pub keeps-all : (p : Row → Bool) (xs : List Row) → All (λ r. p r ≡ true) xs → xs ≡ filter p xs
keeps-all p [] h = refl
keeps-all p (x ∷ xs) h =
    ap (λ ys. x ∷ ys) (keeps-all p xs (All-tail (λ r. p r ≡ true) x xs h)) ∙ sym (ap (λ b. cond b (x ∷ filter p xs) (filter p xs)) (All-head (λ r. p r ≡ true) x xs h))
