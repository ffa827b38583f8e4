-- Claims of nodes that are put behind one another, each over those of the node's inputs.
use Rattle.std.proofs.Common.{◌≡◌, ℕ, zero, suc, Some, None, slice_get, Bool, List, [], ◌∷◌, ◌++◌, length, refl, sym, ap, ◌∙◌, subst, append_assoc, Result, Ok, Err}
use Rattle.std.specs.Result.{IfOk}
use Rattle.vx_rows_values.specs.declared.order.OrderEntry.{OrderEntry}
use Rattle.vx_catalog_relations.specs.Relation.{Relation}
use Rattle.vx_plan_nodes.specs.Plan.{Claim, Unary, Binary, ExchangeKind, Size, Plan, scan, unary, binary, exchange, claim}
use Rattle.vx_check_options.specs.Claimed.{reversed_claims}
use Rattle.vx_check_shown.specs.Found.{keyed, ShownAt, IsKeyed, or_nothing, claim_at, found_claim, found}

-- ---- a claim at its place

get-more : (xs ys : List Claim) (i : ℕ) (c : Claim) → slice_get xs i ≡ Some c → slice_get (xs ++ ys) i ≡ Some c
get-more [] ys i c h = cc
get-more (x ∷ xs) ys zero c h = h
get-more (x ∷ xs) ys (suc i) c h = get-more xs ys i c h

get-last : (xs : List Claim) (c : Claim) → slice_get (xs ++ c ∷ []) (length xs) ≡ Some c
get-last [] c = refl
get-last (x ∷ xs) c = get-last xs c

pub claim-there : (claims : List Claim) (i : ℕ) (c : Claim) → slice_get claims i ≡ Some c → claim_at claims (Some i) ≡ c
claim-there claims i c h = ap or_nothing h

-- also when more are put behind it
pub claim-still : (claims more all : List Claim) (i : ℕ) (c : Claim) → slice_get claims i ≡ Some c → all ≡ claims ++ more → claim_at all (Some i) ≡ c
claim-still claims more all i c h e = ap (λ cs. claim_at cs (Some i)) e ∙ ap or_nothing (get-more claims more i c h)

-- the claim of a node behind those below
pub last-found : {E : Type 0} (r : Result ℕ E) (x : Plan) (d : Claim) (new more old below : List Claim) → claim x ≡ d → reversed_claims x ≡ below ++ d ∷ [] → more ≡ old ++ below
    → IfOk r (λ at. (at ≡ length more) × (new ≡ more ++ d ∷ [])) → IfOk r (λ at. (slice_get new at ≡ Some (claim x)) × (new ≡ old ++ reversed_claims x))
last-found (Ok at) x d new more old below is all here put =
    let there : slice_get new at ≡ Some (claim x) = ap (λ cs. slice_get cs at) put.1 ∙ ap (slice_get (more ++ d ∷ [])) put.0 ∙ get-last more d ∙ ap (λ c. Some c) (sym is) in
    (there, put.1 ∙ ap (λ cs. cs ++ d ∷ []) here ∙ append_assoc old below (d ∷ []) ∙ ap (λ cs. old ++ cs) (sym all))
last-found (Err e) x d new more old below is all here put = tt

-- ---- keys

pub scan-keyed : (catalog : ℕ → Relation) (p : Plan) (n : ℕ) (c : Claim) (r : ℕ) (m : Bool) (z : Size) → p ≡ scan n c r m z → (keys : List (List ℕ)) → ShownAt catalog p [] [] keys
    → IsKeyed catalog p (scan n (keyed keys) r m z)
scan-keyed catalog p n c r m z is keys f =
    let P : Plan → Type 0 = λ x. ShownAt catalog x [] [] keys → IsKeyed catalog x (scan n (keyed keys) r m z) in subst P (sym is) (λ g. (keys, refl, g)) f

pub unary-keyed : (catalog : ℕ → Relation) (p : Plan) (n : ℕ) (c : Claim) (op : Unary) (below : Plan) → p ≡ unary n c op below → (keys : List (List ℕ)) (y : Plan) → IsKeyed catalog below y
    → ShownAt catalog p (claim y).keys [] keys → IsKeyed catalog p (unary n (keyed keys) op y)
unary-keyed catalog p n c op below is keys y i f =
    let P : Plan → Type 0 = λ x. ShownAt catalog x (claim y).keys [] keys → IsKeyed catalog x (unary n (keyed keys) op y) in subst P (sym is) (λ g. (keys, y, refl, i, g)) f

pub binary-keyed : (catalog : ℕ → Relation) (p : Plan) (n : ℕ) (c : Claim) (op : Binary) (left right : Plan) → p ≡ binary n c op left right → (keys : List (List ℕ)) (y z : Plan) → IsKeyed catalog left y
    → IsKeyed catalog right z → ShownAt catalog p (claim y).keys (claim z).keys keys → IsKeyed catalog p (binary n (keyed keys) op y z)
binary-keyed catalog p n c op left right is keys y z i j f =
    let P : Plan → Type 0 = λ x. ShownAt catalog x (claim y).keys (claim z).keys keys → IsKeyed catalog x (binary n (keyed keys) op y z) in
    subst P (sym is) (λ g. (keys, y, z, refl, i, j, g)) f

pub exchange-keyed : (catalog : ℕ → Relation) (p : Plan) (n : ℕ) (c : Claim) (k : ExchangeKind) (m : List OrderEntry) (below : Plan) → p ≡ exchange n c k m below → (keys : List (List ℕ)) (y : Plan)
    → IsKeyed catalog below y → ShownAt catalog p (claim y).keys [] keys → IsKeyed catalog p (exchange n (keyed keys) k m y)
exchange-keyed catalog p n c k m below is keys y i f =
    let P : Plan → Type 0 = λ x. ShownAt catalog x (claim y).keys [] keys → IsKeyed catalog x (exchange n (keyed keys) k m y) in subst P (sym is) (λ g. (keys, y, refl, i, g)) f
