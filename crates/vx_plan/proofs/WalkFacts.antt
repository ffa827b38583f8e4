-- Steps of a loop that looks up names one after the other.
use Rattle.std.proofs.Common.{◌≡◌, ℕ, ◌+◌, ◌<◌, ◌≤◌, List, [], ◌∷◌, ◌++◌, Result, Ok, refl, sym, ap, ◌∙◌, map, get_or, drop, length, drop-cons, add-one, subst}
use Rattle.std.proofs.lemmas.List.{drop_all, map_push}
use Rattle.std.proofs.lemmas.Result.{err_from_is_err_and}
use Rattle.vx_plan_json.specs.declared.fault.PlanFault.{PlanFault}
use Rattle.vx_plan_json.specs.Fault.{Refusal, ◌>>=◌, Fails, Gives}
use Rattle.vx_plan.specs.Lookup.{walk_onto, test_distinct, test_distinct_keys}
use Rattle.vx_rows_values.specs.Values.{Name}
use Rattle.std.specs.Prelude.{⊤, IsErrAnd}
use Rattle.vx_plan_json.proofs.NodeFacts.{fails_then}

walk_step : {A B X : Type 0} (f : A → Result B Refusal) (look : X → A) (before : List B) (xs : List X) (k : ℕ) (x : X) → k < length xs → x ≡ get_or xs k x
    → walk_onto f before (map look (drop k xs)) ≡ (f (look x) >>= λ y. walk_onto f (before ++ y ∷ []) (map look (drop (k + 1) xs)))
unfolding walk_onto
walk_step f look before xs k x h e = rw (drop-cons xs k x, ← e, add-one) refl

pub walk_next : {A B X : Type 0} (f : A → Result B Refusal) (look : X → A) (before : List B) (y : B) (xs : List X) (k : ℕ) (x : X) → k < length xs → x ≡ get_or xs k x
    → f (look x) ≡ Ok y → walk_onto f (before ++ y ∷ []) (map look (drop (k + 1) xs)) ≡ walk_onto f before (map look (drop k xs))
walk_next f look before y xs k x h e found =
    sym (walk_step f look before xs k x h e ∙ ap (λ r. r >>= λ z. walk_onto f (before ++ z ∷ []) (map look (drop (k + 1) xs))) found)

pub walk_more : {A B T X : Type 0} (f : A → Result B Refusal) (look : X → A) (read : T → B) (found : List T) (y : T) (xs : List X) (k : ℕ) (x : X) → k < length xs
    → x ≡ get_or xs k x → f (look x) ≡ Ok (read y) → walk_onto f (map read (found ++ y ∷ [])) (map look (drop (k + 1) xs)) ≡ walk_onto f (map read found) (map look (drop k xs))
walk_more f look read found y xs k x h e one = rw map_push (walk_next f look (map read found) (read y) xs k x h e one)

pub walk_done : {A B X : Type 0} (f : A → Result B Refusal) (look : X → A) (before : List B) (xs : List X) (k : ℕ) → length xs ≤ k → walk_onto f before (map look (drop k xs)) ≡ Ok before
unfolding walk_onto
walk_done f look before xs k h = let none : drop k xs ≡ [] = drop_all k xs h in ap (λ (l : List _). walk_onto f before (map look l)) none

-- the steps of a loop that looks up each name
pub ruleset walk_steps = (walk_next, walk_more, walk_done)

-- what the loop returns at the first refusal
pub walk_fails : {A B T X : Type 0} (f : A → Result B Refusal) (look : X → A) (before : List B) (xs : List X) {k : ℕ} {x : X} {fault : PlanFault} (read : T → List B) (r : Result T PlanFault)
    {total : Result (List B) Refusal} → walk_onto f before (map look (drop k xs)) ≡ total → k < length xs → x ≡ get_or xs k x → Fails fault (f (look x)) → IsErrAnd r (λ e. e ≡ fault) → Gives read r total
walk_fails f look before xs {k} {x} {fault} read r {total} so_far h e failed returned =
    let next = λ (y : _). walk_onto f (before ++ y ∷ []) (map look (drop (k + 1) xs)) in
    let P : Result (List _) Refusal → Type 0 = λ r. Fails fault r in
    let p = err_from_is_err_and r returned in
    rw (p.1, p.2) (subst P (sym (walk_step f look before xs k x h e) ∙ so_far) (fails_then fault (f (look x)) next failed))

keys_step : {X : Type 0} (node : ℕ) (look : X → List Name) (xs : List X) (k : ℕ) (x : X) → k < length xs → x ≡ get_or xs k x
    → test_distinct_keys node (map look (drop k xs)) ≡ (test_distinct node (look x) >>= λ u. test_distinct_keys node (map look (drop (k + 1) xs)))
unfolding test_distinct_keys
keys_step node look xs k x h e = rw (drop-cons xs k x, ← e, add-one) refl

pub keys_next : {X : Type 0} (node : ℕ) (look : X → List Name) (xs : List X) (k : ℕ) (x : X) → k < length xs → x ≡ get_or xs k x
    → test_distinct node (look x) ≡ Ok tt → test_distinct_keys node (map look (drop (k + 1) xs)) ≡ test_distinct_keys node (map look (drop k xs))
keys_next node look xs k x h e found = sym (keys_step node look xs k x h e ∙ ap (λ r. r >>= λ u. test_distinct_keys node (map look (drop (k + 1) xs))) found)

pub keys_done : {X : Type 0} (node : ℕ) (look : X → List Name) (xs : List X) (k : ℕ) → length xs ≤ k → test_distinct_keys node (map look (drop k xs)) ≡ Ok tt
unfolding test_distinct_keys
keys_done node look xs k h = let none : drop k xs ≡ [] = drop_all k xs h in ap (λ (l : List _). test_distinct_keys node (map look l)) none

-- the steps of a loop that tests each key
pub ruleset keys_steps = (keys_next, keys_done)

-- what the loop returns at the first refusal
pub keys_fail : {T X : Type 0} (node : ℕ) (look : X → List Name) (xs : List X) {k : ℕ} {x : X} {fault : PlanFault} (read : T → ⊤) (r : Result T PlanFault)
    {total : Result ⊤ Refusal} → test_distinct_keys node (map look (drop k xs)) ≡ total → k < length xs → x ≡ get_or xs k x → Fails fault (test_distinct node (look x)) → IsErrAnd r (λ e. e ≡ fault) → Gives read r total
keys_fail node look xs {k} {x} {fault} read r {total} so_far h e failed returned =
    let next = λ (u : ⊤). test_distinct_keys node (map look (drop (k + 1) xs)) in
    let P : Result ⊤ Refusal → Type 0 = λ r. Fails fault r in
    let p = err_from_is_err_and r returned in
    rw (p.1, p.2) (subst P (sym (keys_step node look xs k x h e) ∙ so_far) (fails_then fault (test_distinct node (look x)) next failed))
