-- The relations that an observer saw.
use Rattle.std.proofs.Common.{◌≡◌, ℕ, suc, ◌+◌, List, [], ◌∷◌, ◌++◌, Bool, true, false, cond, Option, Some, None, option_map, refl, sym, ap, ◌∙◌, arith}
use Rattle.std.proofs.lemmas.List.{append-nil, append_assoc}
use Rattle.volcano_tables.specs.Filled.{scanned_below}

pub seen_none : (is_scanned : ℕ → Bool) (o : Option (List ℕ)) → o ≡ option_map (λ rs. rs ++ scanned_below is_scanned 0) o
seen_none is_scanned None = refl
seen_none is_scanned (Some rs) = ap Some (sym (append-nil rs))

below_one : (is_scanned : ℕ → Bool) (i : ℕ) → scanned_below is_scanned (i + 1) ≡ scanned_below is_scanned i ++ cond (is_scanned i) (i ∷ []) []
below_one is_scanned i = let e : i + 1 ≡ suc i = omega arith in ap (scanned_below is_scanned) e

below_more : (is_scanned : ℕ → Bool) (i : ℕ) → is_scanned i ≡ false → scanned_below is_scanned (i + 1) ≡ scanned_below is_scanned i
below_more is_scanned i out = below_one is_scanned i ∙ ap (λ b. scanned_below is_scanned i ++ cond b (i ∷ []) []) out ∙ append-nil (scanned_below is_scanned i)

below_next : (is_scanned : ℕ → Bool) (i : ℕ) → is_scanned i ≡ true → scanned_below is_scanned (i + 1) ≡ scanned_below is_scanned i ++ (i ∷ [])
below_next is_scanned i scan = below_one is_scanned i ∙ ap (λ b. scanned_below is_scanned i ++ cond b (i ∷ []) []) scan

-- a relation that is not scanned
pub seen_more : (is_scanned : ℕ → Bool) (i : ℕ) (before now : Option (List ℕ)) → is_scanned i ≡ false → now ≡ option_map (λ rs. rs ++ scanned_below is_scanned i) before
    → now ≡ option_map (λ rs. rs ++ scanned_below is_scanned (i + 1)) before
seen_more is_scanned i before now out so_far = so_far ∙ ap (λ seen. option_map (λ (rs : List ℕ). rs ++ seen) before) (sym (below_more is_scanned i out))

added : (before : Option (List ℕ)) (xs ys : List ℕ) → option_map (λ rs. rs ++ ys) (option_map (λ rs. rs ++ xs) before) ≡ option_map (λ rs. rs ++ (xs ++ ys)) before
added None xs ys = refl
added (Some rs) xs ys = ap Some (append_assoc rs xs ys)

-- a relation that is scanned
pub seen_next : (is_scanned : ℕ → Bool) (i : ℕ) (before now next : Option (List ℕ)) → is_scanned i ≡ true → now ≡ option_map (λ rs. rs ++ scanned_below is_scanned i) before
    → next ≡ option_map (λ rs. rs ++ (i ∷ [])) now → next ≡ option_map (λ rs. rs ++ scanned_below is_scanned (i + 1)) before
seen_next is_scanned i before now next scan so_far step =
    step ∙ ap (option_map (λ (rs : List ℕ). rs ++ (i ∷ []))) so_far ∙ added before (scanned_below is_scanned i) (i ∷ [])
    ∙ ap (λ seen. option_map (λ (rs : List ℕ). rs ++ seen) before) (sym (below_next is_scanned i scan))
