-- The claims of a plan, by the names of the columns of its nodes.
use Rattle.std.proofs.Common.{◌≡◌, ℕ, suc, ◌+◌, List, [], ◌∷◌, ◌++◌, map, drop, length, Bool, true, ◌&&◌, if◌then◌else◌, Result, Ok, Err, IfOk, refl, ap, ◌∙◌, subst}
use Rattle.std.proofs.Math.Seq.{drop-append_seam}
use Rattle.std.proofs.lemmas.List.{append_assoc, length-append, map-append, reverse-append}
use Rattle.vx_rows_values.proofs.Booleans.{and-left, and-right}
use Rattle.vx_plan_nodes.specs.Plan.{Claim, Plan}
use Rattle.vx_plan_nodes.specs.Plan as plan
use Rattle.vx_plan_nodes.specs.Numbering.{nodes}
use Rattle.vx_plan_nodes.specs.declared.typed.Claim as rust_claim
use Rattle.vx_plan_nodes.specs.Outline.{Outline, scan, unary, binary, exchange, plan_in, claim_of}
use Rattle.vx_plan_nodes.specs.Names.{Names}
use Rattle.vx_plan_json.specs.Document.{ClaimForm}
use Rattle.vx_plan_json.specs.Formed.{is_claim_form}
use Rattle.vx_plan.specs.ByName.{claim_by_name, tree_by_name}
use Rattle.vx_check_options.specs.Placed.{bare}
use Rattle.vx_check_annotate.specs.Unclaimed.{no_claim, are_claims_formed}
use Rattle.vx_check_annotate.specs.declared.formed.FormedClaim.{FormedClaim}
use Rattle.vx_check_annotate.specs.Claimed.{claims_of, with_claims, forms_of, form_of, kept_form, claims_in, named_forms}

pub kept-formed : (f : ClaimForm) → is_claim_form f ≡ true → kept_form f ≡ f
kept-formed f h = ap (λ b. if b then f else no_claim) h

-- as many claims as nodes of an outline with the same nodes
claims-count : (x : Plan) (o : Outline) → bare x ≡ bare (plan_in o) → length (claims_of x) ≡ nodes (plan_in o)
claims-count (plan.scan n c r m z) (scan h relation shared size prefix) e = refl
claims-count (plan.unary n c op p) (unary h operator renamed t) e = let below : bare p ≡ bare (plan_in t) = cc in ap suc (claims-count p t below)
claims-count (plan.binary n c op p q) (binary h operator t u) e =
    let left : bare p ≡ bare (plan_in t) = cc in
    let right : bare q ≡ bare (plan_in u) = cc in
    let one = claims-count p t left in
    let two = claims-count q u right in
    ap suc (length-append (claims_of p) (claims_of q) ∙ λ i. one i + two i)
claims-count (plan.exchange n c k m p) (exchange h kind merge t) e = let below : bare p ≡ bare (plan_in t) = cc in ap suc (claims-count p t below)
claims-count x o e = cc

-- where a document can say them, the claims of a plan are named as they are
pub named-are : (s : Names) (x : Plan) (o : Outline) (rest : List Claim) → bare x ≡ bare (plan_in o) → are_claims_formed (tree_by_name s (with_claims x o)) ≡ true → named_forms s (claims_of x ++ rest) o ≡ forms_of s (with_claims x o)
named-are s (plan.scan n c r m z) (scan h relation shared size prefix) rest e f = ap (λ g. g ∷ []) (kept-formed (claim_by_name s h.columns.names c) f)
named-are s (plan.unary n c op p) (unary h operator renamed t) rest e f =
    let same : bare p ≡ bare (plan_in t) = cc in
    let own = kept-formed (claim_by_name s h.columns.names c) (and-left (is_claim_form (claim_by_name s h.columns.names c)) (are_claims_formed (tree_by_name s (with_claims p t))) f) in
    let below = named-are s p t rest same (and-right (is_claim_form (claim_by_name s h.columns.names c)) (are_claims_formed (tree_by_name s (with_claims p t))) f) in
    λ i. own i ∷ below i
named-are s (plan.binary n c op p q) (binary h operator t u) rest e f =
    let first : Bool = is_claim_form (claim_by_name s h.columns.names c) in
    let left : Bool = are_claims_formed (tree_by_name s (with_claims p t)) in
    let right : Bool = are_claims_formed (tree_by_name s (with_claims q u)) in
    let same_left : bare p ≡ bare (plan_in t) = cc in
    let same_right : bare q ≡ bare (plan_in u) = cc in
    let own = kept-formed (claim_by_name s h.columns.names c) (and-left first (left && right) f) in
    let forms = and-right first (left && right) f in
    let seam : (claims_of p ++ claims_of q) ++ rest ≡ claims_of p ++ (claims_of q ++ rest) = append_assoc (claims_of p) (claims_of q) rest in
    let P : ℕ → Type 0 = λ n. drop n (claims_of p ++ (claims_of q ++ rest)) ≡ claims_of q ++ rest in
    let past = subst P (claims-count p t same_left) (drop-append_seam (claims_of p) (claims_of q ++ rest)) in
    let one : named_forms s ((claims_of p ++ claims_of q) ++ rest) t ≡ forms_of s (with_claims p t) = ap (λ cs. named_forms s cs t) seam ∙ named-are s p t (claims_of q ++ rest) same_left (and-left left right forms) in
    let two : named_forms s (drop (nodes (plan_in t)) ((claims_of p ++ claims_of q) ++ rest)) u ≡ forms_of s (with_claims q u) =
    ap (λ cs. named_forms s (drop (nodes (plan_in t)) cs) u) seam ∙ (ap (λ cs. named_forms s cs u) past ∙ named-are s q u rest same_right (and-right left right forms)) in
    λ i. own i ∷ one i ++ two i
named-are s (plan.exchange n c k m p) (exchange h kind merge t) rest e f =
    let same : bare p ≡ bare (plan_in t) = cc in
    let own = kept-formed (claim_by_name s h.columns.names c) (and-left (is_claim_form (claim_by_name s h.columns.names c)) (are_claims_formed (tree_by_name s (with_claims p t))) f) in
    let below = named-are s p t rest same (and-right (is_claim_form (claim_by_name s h.columns.names c)) (are_claims_formed (tree_by_name s (with_claims p t))) f) in
    λ i. own i ∷ below i
named-are s x o rest e f = cc

-- ---- claims that are taken and put

-- the last claim is the first one from the end
pub taken : (claims rest : List rust_claim.Claim) (c : rust_claim.Claim) → claims ≡ rest ++ c ∷ [] → claims_in claims ≡ claim_of c ∷ claims_in rest
taken claims rest c e = ap claims_in e ∙ ap (map claim_of) (reverse-append rest (c ∷ []))

-- a claim is put behind others, and then those below it
pub put-below : (found pushed after : List FormedClaim) (claim : FormedClaim) (f : ClaimForm) (given below : List ClaimForm) → pushed ≡ found ++ claim ∷ [] → form_of claim ≡ f → given ≡ below → map form_of after ≡ map form_of pushed ++ given
    → map form_of after ≡ map form_of found ++ (f ∷ below)
put-below found pushed after claim f given below a b c d =
    let split : map form_of (found ++ claim ∷ []) ≡ map form_of found ++ (form_of claim ∷ []) = map-append form_of found (claim ∷ []) in
    let seam : (map form_of found ++ (form_of claim ∷ [])) ++ given ≡ map form_of found ++ (form_of claim ∷ given) = append_assoc (map form_of found) (form_of claim ∷ []) given in
    d ∙ (ap (λ l. map form_of l ++ given) a ∙ (ap (λ l. l ++ given) split ∙ (seam ∙ λ i. map form_of found ++ (b i ∷ c i))))

-- and then those below on the right
pub put-right : (found left after : List FormedClaim) (f : ClaimForm) (lefts given rights : List ClaimForm) → map form_of left ≡ map form_of found ++ (f ∷ lefts) → given ≡ rights → map form_of after ≡ map form_of left ++ given
    → map form_of after ≡ map form_of found ++ (f ∷ lefts ++ rights)
put-right found left after f lefts given rights a b c = c ∙ (ap (λ l. l ++ given) a ∙ (append_assoc (map form_of found) (f ∷ lefts) given ∙ ap (λ l. map form_of found ++ (f ∷ lefts ++ l)) b))

pub ok-then : {A E : Type 0} {P Q : Type 0} (r : Result A E) → (P → Q) → IfOk r (λ u. P) → IfOk r (λ u. Q)
ok-then (Ok u) f h = f h
ok-then (Err e) f h = h
