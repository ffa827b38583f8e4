-- Going over a list as a loop does.
use Rattle.std.proofs.Common.{◌≡◌, ℕ, ◌+◌, ◌<◌, ◌≤◌, List, [], ◌∷◌, ◌++◌, Result, Ok, refl, arith, map, get_or, drop, length, drop-cons, add-one}
use Rattle.std.proofs.lemmas.List.{drop_all, map_push, map-id}
use Rattle.vx_catalog_relations.specs.Walk.{◌>>=◌, walk_onto}
use Rattle.vx_catalog_relations.specs.Naming.{Refusal, Fails}
use Rattle.vx_catalog_relations.specs.declared.fault.CatalogFault.{CatalogFault}

-- a refusal of the first part is one of the whole
pub fails_first : {X Y : Type 0} (e : CatalogFault) (part : Result X Refusal) (next : X → Result Y Refusal) → Fails e part → Fails e (part >>= next)
fails_first e part next bad = grind arith

pub walk_step : {E V A B : Type 0} (look : V → A) (step : List B → A → Result B E) (prior : List B) (vs : List V) (k : ℕ) (v : V) → k < length vs → v ≡ get_or vs k v
    → walk_onto step prior (map look (drop k vs)) ≡ (step prior (look v) >>= λ y. walk_onto step (prior ++ y ∷ []) (map look (drop (k + 1) vs)))
unfolding walk_onto
walk_step look step prior vs k v h e = rw (drop-cons vs k v, ← e, add-one) refl

pub walk_next : {E V A B : Type 0} (look : V → A) (step : List B → A → Result B E) (prior : List B) (y : B) (vs : List V) (k : ℕ) (v : V) → k < length vs → v ≡ get_or vs k v
    → step prior (look v) ≡ Ok y → walk_onto step (prior ++ y ∷ []) (map look (drop (k + 1) vs)) ≡ walk_onto step prior (map look (drop k vs))
walk_next look step prior y vs k v h e read = rw (walk_step look step prior vs k v h e, read) refl

pub walk_more : {E V A B T : Type 0} (look : V → A) (step : List B → A → Result B E) (seen : T → B) (found : List T) (x : T) (vs : List V) (k : ℕ) (v : V) → k < length vs → v ≡ get_or vs k v
    → step (map seen found) (look v) ≡ Ok (seen x) → walk_onto step (map seen (found ++ x ∷ [])) (map look (drop (k + 1) vs)) ≡ walk_onto step (map seen found) (map look (drop k vs))
walk_more look step seen found x vs k v h e read = rw map_push (walk_next look step (map seen found) (seen x) vs k v h e read)

pub walk_stops : {V A B : Type 0} (look : V → A) (step : List B → A → Result B Refusal) (prior : List B) (vs : List V) (k : ℕ) (v : V) (e : CatalogFault) → k < length vs → v ≡ get_or vs k v
    → Fails e (step prior (look v)) → Fails e (walk_onto step prior (map look (drop k vs)))
walk_stops look step prior vs k v e h is bad = rw (walk_step look step prior vs k v h is) (fails_first e (step prior (look v)) _ bad)

pub walk_done : {E V A B : Type 0} (look : V → A) (step : List B → A → Result B E) (prior : List B) (vs : List V) (k : ℕ) → length vs ≤ k → walk_onto step prior (map look (drop k vs)) ≡ Ok prior
unfolding walk_onto
walk_done look step prior vs k h = rw (drop_all k vs h) refl

pub walk_same : {A : Type 0} (look : A → A) (vs : List A) → look ≡ (λ x. x) → map look vs ≡ vs
walk_same look vs e = rw e (map-id vs)

-- the steps of a loop that goes over each element
pub ruleset walk_steps = (walk_next, walk_more, walk_stops, walk_done, walk_same)
