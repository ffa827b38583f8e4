-- The claims that are found, from the last one on.
use Rattle.std.proofs.Common.{◌≡◌, List, [], ◌∷◌, ◌++◌, map, reverse, refl, sym, ap, ◌∙◌}
use Rattle.std.proofs.lemmas.List.{map-append, reverse-append}
use Rattle.vx_plan_nodes.specs.declared.typed.Claim as rust_claim
use Rattle.vx_plan_nodes.specs.Outline.{claim_of}
use Rattle.vx_plan_nodes.specs.Plan.{Plan, scan, unary, binary, exchange}
use Rattle.vx_check_options.specs.Claimed.{reversed_claims}
use Rattle.vx_check_annotate.specs.Claimed.{claims_of, claims_in}

reversed-are : (p : Plan) → reverse (reversed_claims p) ≡ claims_of p
reversed-are (scan n c r m z) = refl
reversed-are (unary n c op p) = reverse-append (reversed_claims p) (c ∷ []) ∙ ap (λ l. c ∷ l) (reversed-are p)
reversed-are (binary n c op p q) =
    reverse-append (reversed_claims q) (reversed_claims p ++ c ∷ []) ∙ (ap (λ l. l ++ reverse (reversed_claims q)) (reverse-append (reversed_claims p) (c ∷ [])) ∙ λ i. c ∷ reversed-are p i ++ reversed-are q i)
reversed-are (exchange n c k m p) = reverse-append (reversed_claims p) (c ∷ []) ∙ ap (λ l. c ∷ l) (reversed-are p)

map-reversed : {A B : Type 0} (f : A → B) (xs : List A) → map f (reverse xs) ≡ reverse (map f xs)
map-reversed f [] = refl
map-reversed f (x ∷ xs) =
    ap (map f) (reverse-append (x ∷ []) xs) ∙ (map-append f (reverse xs) (x ∷ []) ∙ (ap (λ l. l ++ f x ∷ []) (map-reversed f xs) ∙ sym (reverse-append (f x ∷ []) (map f xs))))

-- what the program finds, from the last claim on
pub reversed : (claims : List rust_claim.Claim) (p : Plan) → map claim_of claims ≡ reversed_claims p → claims_in claims ≡ claims_of p
reversed claims p e = map-reversed claim_of claims ∙ (ap reverse e ∙ reversed-are p)
