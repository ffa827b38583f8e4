-- Steps of a loop that tests each element against those before it.
use Rattle.std.proofs.Common.{◌≡◌, ℕ, ◌+◌, ◌<◌, ◌≤◌, List, [], ◌∷◌, ◌++◌, Bool, true, false, cond, Ok, Err, refl, sym, ap, map, get_or, drop, take, length, drop-cons, add-one}
use Rattle.std.proofs.lemmas.List.{drop_all, map_push, take_more}
use Rattle.vx_plan_json.specs.Fault.{Refusal}
use Rattle.vx_plan.specs.Lookup.{tested_onto}

test_step : {A X : Type 0} (is_bad : List A → A → Bool) (refusal : A → Refusal) (look : X → A) (before : List A) (xs : List X) (k : ℕ) (x : X) → k < length xs → x ≡ get_or xs k x
    → tested_onto is_bad refusal before (map look (drop k xs)) ≡ cond (is_bad before (look x)) (Err (refusal (look x))) (tested_onto is_bad refusal (before ++ look x ∷ []) (map look (drop (k + 1) xs)))
unfolding tested_onto
test_step is_bad refusal look before xs k x h e = rw (drop-cons xs k x, ← e, add-one) refl

pub taken_more : {A X : Type 0} (look : X → A) (xs : List X) (k : ℕ) (x : X) → k < length xs → x ≡ get_or xs k x → map look (take (k + 1) xs) ≡ map look (take k xs) ++ look x ∷ []
taken_more look xs k x h e = rw (take_more xs k x h, ← e) (map_push look (take k xs) x)

pub test_next : {A X : Type 0} (is_bad : List A → A → Bool) (refusal : A → Refusal) (look : X → A) (xs : List X) (k : ℕ) (x : X) → k < length xs → x ≡ get_or xs k x
    → is_bad (map look (take k xs)) (look x) ≡ false
    → tested_onto is_bad refusal (map look (take (k + 1) xs)) (map look (drop (k + 1) xs)) ≡ tested_onto is_bad refusal (map look (take k xs)) (map look (drop k xs))
test_next is_bad refusal look xs k x h e good =
    let step = test_step is_bad refusal look (map look (take k xs)) xs k x h e in
    rw (taken_more look xs k x h e) (sym (rw good at step))

pub test_bad : {A X : Type 0} (is_bad : List A → A → Bool) (refusal : A → Refusal) (look : X → A) (xs : List X) (k : ℕ) (x : X) → k < length xs → x ≡ get_or xs k x
    → is_bad (map look (take k xs)) (look x) ≡ true → tested_onto is_bad refusal (map look (take k xs)) (map look (drop k xs)) ≡ Err (refusal (look x))
test_bad is_bad refusal look xs k x h e bad = let step = test_step is_bad refusal look (map look (take k xs)) xs k x h e in rw bad at step

pub test_done : {A X : Type 0} (is_bad : List A → A → Bool) (refusal : A → Refusal) (look : X → A) (before : List A) (xs : List X) (k : ℕ) → length xs ≤ k
    → tested_onto is_bad refusal before (map look (drop k xs)) ≡ Ok tt
unfolding tested_onto
test_done is_bad refusal look before xs k h = let none : drop k xs ≡ [] = drop_all k xs h in ap (λ (l : List _). tested_onto is_bad refusal before (map look l)) none

-- the steps of a loop that tests each element
pub ruleset test_steps = (test_next, test_bad, test_done)

-- elements that are looked at as they are
pub each-same : {A : Type 0} (xs : List A) → map (λ (x : A). x) xs ≡ xs
each-same [] = refl
each-same (x ∷ xs) = ap (λ (r : List _). x ∷ r) (each-same xs)
