-- The names of a header one after the other, as a loop compares them.
use Rattle.std.proofs.Common.{◌≡◌, ℕ, ◌+◌, ◌<◌, ◌≤◌, List, [], Bool, true, false, refl, sym, ap, ◌∙◌, map, get_or, drop, length, drop-cons, add-one, ◌&&◌, String, Global, string_bytes}
use Rattle.std.proofs.lemmas.List.{drop_all}
use Rattle.csv.specs.Records.{field_at}
use Rattle.vx_catalog.specs.Loading.{same_name, names_from}

pub names_step : (fields : List (List ℕ)) (names : List (String Global)) (k : ℕ) (name : String Global) → k < length names → name ≡ get_or names k name
    → names_from k fields (map string_bytes (drop k names)) ≡ (same_name (string_bytes name) k (field_at fields k) && names_from (k + 1) fields (map string_bytes (drop (k + 1) names)))
unfolding names_from
names_step fields names k name h e = rw (drop-cons names k name, ← e, add-one) refl

pub names_stop : (fields : List (List ℕ)) (names : List (String Global)) (k : ℕ) (name : String Global) (total : Bool) → k < length names → name ≡ get_or names k name
    → same_name (string_bytes name) k (field_at fields k) ≡ false → names_from k fields (map string_bytes (drop k names)) ≡ total → false ≡ total
names_stop fields names k name total h e test so_far = ap (λ b. b && names_from (k + 1) fields (map string_bytes (drop (k + 1) names))) (sym test) ∙ (sym (names_step fields names k name h e) ∙ so_far)

pub names_more : (fields : List (List ℕ)) (names : List (String Global)) (k : ℕ) (name : String Global) (total : Bool) → k < length names → name ≡ get_or names k name
    → same_name (string_bytes name) k (field_at fields k) ≡ true → names_from k fields (map string_bytes (drop k names)) ≡ total → names_from (k + 1) fields (map string_bytes (drop (k + 1) names)) ≡ total
names_more fields names k name total h e test so_far = ap (λ b. b && names_from (k + 1) fields (map string_bytes (drop (k + 1) names))) (sym test) ∙ (sym (names_step fields names k name h e) ∙ so_far)

pub names_done : (fields : List (List ℕ)) (names : List (String Global)) (k : ℕ) (total : Bool) → length names ≤ k → names_from k fields (map string_bytes (drop k names)) ≡ total → true ≡ total
unfolding names_from
names_done fields names k total h so_far = let none : drop k names ≡ [] = drop_all k names h in sym (ap (λ (l : List (String Global)). names_from k fields (map string_bytes l)) none) ∙ so_far
