-- Reading the values of a list one after the other, as a loop does.
use Rattle.std.proofs.Common.{◌≡◌, ℕ, ◌+◌, ◌<◌, ◌≤◌, List, [], ◌∷◌, ◌++◌, Option, Some, None, option_and_then, refl, sym, ap, ◌∙◌, map, get_or, drop, length, drop-cons, add-one}
use Rattle.std.proofs.lemmas.List.{drop_all, map_push}
use Rattle.serde_json.specs.Data.{Data}
use Rattle.serde_json.specs.View.{view}
use Rattle.serde_json.specs.declared.value.Value.{Value}
use Rattle.vx_catalog_json.specs.Look.{each_onto}

each_step : {A : Type 0} (f : Data → Option A) (prior : List A) (vs : List Value) (k : ℕ) (v : Value) → k < length vs → v ≡ get_or vs k v
    → each_onto f prior (map view (drop k vs)) ≡ option_and_then (λ x. each_onto f (prior ++ x ∷ []) (map view (drop (k + 1) vs))) (f (view v))
unfolding each_onto
each_step f prior vs k v h e = rw (drop-cons vs k v, ← e, add-one) refl

pub each_next : {A : Type 0} (f : Data → Option A) (prior : List A) (x : A) (vs : List Value) (k : ℕ) (v : Value) → k < length vs → v ≡ get_or vs k v
    → Some x ≡ f (view v) → each_onto f (prior ++ x ∷ []) (map view (drop (k + 1) vs)) ≡ each_onto f prior (map view (drop k vs))
each_next f prior x vs k v h e read =
    ap (λ o. option_and_then (λ y. each_onto f (prior ++ y ∷ []) (map view (drop (k + 1) vs))) o) read ∙ sym (each_step f prior vs k v h e)

pub each_more : {T A : Type 0} (f : Data → Option A) (look : T → A) (found : List T) (x : T) (vs : List Value) (k : ℕ) (v : Value) → k < length vs → v ≡ get_or vs k v
    → Some (look x) ≡ f (view v) → each_onto f (map look (found ++ x ∷ [])) (map view (drop (k + 1) vs)) ≡ each_onto f (map look found) (map view (drop k vs))
each_more f look found x vs k v h e read = rw map_push (each_next f (map look found) (look x) vs k v h e read)

pub each_none : {A : Type 0} (f : Data → Option A) (prior : List A) (vs : List Value) (k : ℕ) (v : Value) → k < length vs → v ≡ get_or vs k v
    → None ≡ f (view v) → each_onto f prior (map view (drop k vs)) ≡ None
each_none f prior vs k v h e read =
    each_step f prior vs k v h e ∙ sym (ap (λ o. option_and_then (λ x. each_onto f (prior ++ x ∷ []) (map view (drop (k + 1) vs))) o) read)

pub each_done : {A : Type 0} (f : Data → Option A) (prior : List A) (vs : List Value) (k : ℕ) → length vs ≤ k → each_onto f prior (map view (drop k vs)) ≡ Some prior
unfolding each_onto
each_done f prior vs k h = let none : drop k vs ≡ [] = drop_all k vs h in ap (λ (l : List Value). each_onto f prior (map view l)) none

-- the steps of a loop that reads each value
pub ruleset each_steps = (each_next, each_more, each_none, each_done)
