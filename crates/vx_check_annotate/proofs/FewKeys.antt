-- In a document that asks for what is known of its columns, no claim that is found has more than 16 keys.
use Rattle.std.proofs.Common.{◌≡◌, ◌≤◌, ℕ, zero, suc, nat_le, Bool, true, false, cond, not, ◌||◌, ◌&&◌, List, [], ◌∷◌, ◌++◌, drop, length, map, inl, inr, refl, sym, ap, ◌∙◌, subst, arith}
use Rattle.std.specs.List.{list_all}
use Rattle.std.proofs.lemmas.Bool.Decides.{nat_tests}
use Rattle.std.proofs.lemmas.List.{length-map}
use Rattle.std.proofs.lemmas.List.Folds.{list_all-append}
use Rattle.vx_rows_values.specs.declared.order.OrderEntry.{OrderEntry}
use Rattle.vx_rows_values.specs.Values.{Name}
use Rattle.vx_rows_values.proofs.Booleans.{and-left, and-right, and-both}
use Rattle.vx_catalog_relations.specs.Relation.{Relation}
use Rattle.vx_catalog_relations.specs.Catalog.{relation_at, IsCatalog}
use Rattle.vx_plan_nodes.specs.Plan.{Part, Claim, Plan}
use Rattle.vx_plan_nodes.specs.Plan as plan
use Rattle.vx_plan_nodes.specs.Numbering.{nodes}
use Rattle.vx_plan_nodes.specs.Outline.{Outline, scan, unary, binary, exchange, plan_in}
use Rattle.vx_plan_nodes.specs.Names.{Names, TypedPlanView}
use Rattle.vx_plan_json.specs.Document.{ClaimForm, Tree, tree_nodes, Document}
use Rattle.vx_plan_json.specs.Document as form
use Rattle.vx_plan_json.specs.Formed.{is_claim_form, is_tree_form, has_few_keys, are_keys_few}
use Rattle.vx_plan.specs.ByName.{names_at, claim_by_name, tree_by_name}
use Rattle.vx_plan.proofs.PlanExact.{plans_resolved_exactly}
use Rattle.vx_check_options.specs.Claimed.{IsClaimed}
use Rattle.vx_check_annotate.specs.Unclaimed.{no_claim, without_claims, unclaimed}
use Rattle.vx_check_annotate.specs.Claimed.{claims_of, first_form, later_forms, tree_with, kept_form, first_named, later_claims, named_forms}
use Rattle.vx_check_annotate.specs.Hinted.{IsHinted}
use Rattle.vx_check_annotate.specs.Possible.{possible, possible_choice}
use Rattle.vx_check_annotate.proofs.TreeFacts.{form_without}
use Rattle.vx_check_annotate.proofs.PossibleFacts.{possible-turned}
use Rattle.vx_check_annotate.proofs.Turning.{claims-alike}

-- ---- so many keys

abbrev pub few : Bool → ℕ → Bool
few derives n = not derives || nat_le n 16

few-step : (derives : Bool) (n m : ℕ) → (n ≤ 16 → m ≤ 16) → few derives n ≡ true → few derives m ≡ true
few-step false n m f h = refl
few-step true n m f h =
    let least : n ≤ 16 = grind (arith, nat_tests, h) in
    let most = f least in
    grind (arith, nat_tests, most)

few-none : (derives : Bool) → few derives 0 ≡ true
few-none true = refl
few-none false = refl

all-drop : {A : Type 0} (test : A → Bool) (n : ℕ) (xs : List A) → list_all test xs ≡ true → list_all test (drop n xs) ≡ true
all-drop test zero xs h = h
all-drop test (suc n) [] h = refl
all-drop test (suc n) (x ∷ xs) h = all-drop test n xs (and-right (test x) (list_all test xs) h)

-- ---- documents

-- a tree with claims that have few keys
pub tree-few : (derives : Bool) (forms : List ClaimForm) (t : Tree) → list_all (has_few_keys derives) forms ≡ true → are_keys_few derives (tree_with forms t) ≡ true
tree-few derives forms t h = go forms t h
  where
    first : (forms : List ClaimForm) → list_all (has_few_keys derives) forms ≡ true → has_few_keys derives (first_form forms) ≡ true
    first [] h = few-none derives
    first (f ∷ fs) h = and-left (has_few_keys derives f) (list_all (has_few_keys derives) fs) h

    later : (forms : List ClaimForm) → list_all (has_few_keys derives) forms ≡ true → list_all (has_few_keys derives) (later_forms forms) ≡ true
    later [] h = refl
    later (f ∷ fs) h = and-right (has_few_keys derives f) (list_all (has_few_keys derives) fs) h

    go : (forms : List ClaimForm) (t : Tree) → list_all (has_few_keys derives) forms ≡ true → are_keys_few derives (tree_with forms t) ≡ true
    go forms (form.scan c s) h = first forms h
    go forms (form.unary c op t) h = and-both (has_few_keys derives (first_form forms)) (are_keys_few derives (tree_with (later_forms forms) t)) (first forms h) (go (later_forms forms) t (later forms h))
    go forms (form.binary c op t u) h =
        let left : Tree = tree_with (later_forms forms) t in
        let right : Tree = tree_with (drop (tree_nodes t) (later_forms forms)) u in
        and-both (has_few_keys derives (first_form forms)) (are_keys_few derives left && are_keys_few derives right) (first forms h)
        (and-both (are_keys_few derives left) (are_keys_few derives right) (go (later_forms forms) t (later forms h))
        (go (drop (tree_nodes t) (later_forms forms)) u (all-drop (has_few_keys derives) (tree_nodes t) (later_forms forms) (later forms h))))
    go forms (form.exchange c k m t) h = and-both (has_few_keys derives (first_form forms)) (are_keys_few derives (tree_with (later_forms forms) t)) (first forms h) (go (later_forms forms) t (later forms h))

few-without : (derives : Bool) (t : Tree) → are_keys_few derives (without_claims t) ≡ true
few-without derives (form.scan c s) = few-none derives
few-without derives (form.unary c op t) = and-both (has_few_keys derives no_claim) (are_keys_few derives (without_claims t)) (few-none derives) (few-without derives t)
few-without derives (form.binary c op t u) =
    and-both (has_few_keys derives no_claim) (are_keys_few derives (without_claims t) && are_keys_few derives (without_claims u)) (few-none derives)
    (and-both (are_keys_few derives (without_claims t)) (are_keys_few derives (without_claims u)) (few-without derives t) (few-without derives u))
few-without derives (form.exchange c k m t) = and-both (has_few_keys derives no_claim) (are_keys_few derives (without_claims t)) (few-none derives) (few-without derives t)

-- ---- plans

abbrev pub has_few : Bool → Claim → Bool
has_few derives c = few derives (length c.keys)

abbrev pub have_few : Bool → List Claim → Bool
have_few derives claims = list_all (has_few derives) claims

named-alike : (derives : Bool) (names : List Name) (keys : List (List ℕ)) → few derives (length (map (names_at names) keys)) ≡ few derives (length keys)
named-alike derives names keys = ap (few derives) (length-map keys (names_at names))

-- a typed plan of a document whose claims have few keys
plan-few : (derives : Bool) (s : Names) (o : Outline) → are_keys_few derives (tree_by_name s o) ≡ true → have_few derives (claims_of (plan_in o)) ≡ true
plan-few derives s (scan h r shared z prefix) k = and-both (has_few derives h.claim) true (sym (named-alike derives h.columns.names h.claim.keys) ∙ k) refl
plan-few derives s (unary h op renamed t) k =
    let own : Bool = has_few_keys derives (claim_by_name s h.columns.names h.claim) in
    let below : Bool = are_keys_few derives (tree_by_name s t) in
    and-both (has_few derives h.claim) (have_few derives (claims_of (plan_in t))) (sym (named-alike derives h.columns.names h.claim.keys) ∙ and-left own below k) (plan-few derives s t (and-right own below k))
plan-few derives s (binary h op t u) k =
    let own : Bool = has_few_keys derives (claim_by_name s h.columns.names h.claim) in
    let left : Bool = are_keys_few derives (tree_by_name s t) in
    let right : Bool = are_keys_few derives (tree_by_name s u) in
    let inputs = and-right own (left && right) k in
    and-both (has_few derives h.claim) (have_few derives (claims_of (plan_in t) ++ claims_of (plan_in u))) (sym (named-alike derives h.columns.names h.claim.keys) ∙ and-left own (left && right) k)
    (list_all-append (has_few derives) (claims_of (plan_in t)) (claims_of (plan_in u))
    ∙ and-both (have_few derives (claims_of (plan_in t))) (have_few derives (claims_of (plan_in u))) (plan-few derives s t (and-left left right inputs)) (plan-few derives s u (and-right left right inputs)))
plan-few derives s (exchange h k merge t) e =
    let own : Bool = has_few_keys derives (claim_by_name s h.columns.names h.claim) in
    let below : Bool = are_keys_few derives (tree_by_name s t) in
    and-both (has_few derives h.claim) (have_few derives (claims_of (plan_in t))) (sym (named-alike derives h.columns.names h.claim.keys) ∙ and-left own below e) (plan-few derives s t (and-right own below e))

-- the claims that are found, where those of the plan have few keys
claimed-few : (derives : Bool) (catalog : ℕ → Relation) (p : Plan) (q : Part) (order : List OrderEntry) (x : Plan) → IsClaimed catalog p q order x → have_few derives (claims_of p) ≡ true → have_few derives (claims_of x) ≡ true
claimed-few derives catalog (plan.scan n c r m z) q order x h k =
    subst (λ y. have_few derives (claims_of y) ≡ true) (sym h.1) (and-both (few derives (length h.0)) true (few-step derives (length c.keys) (length h.0) h.2.few (and-left (has_few derives c) true k)) refl)
claimed-few derives catalog (plan.unary n c op p) q order x h k =
    subst (λ y. have_few derives (claims_of y) ≡ true) (sym h.2) (and-both (few derives (length h.0)) (have_few derives (claims_of h.1))
    (few-step derives (length c.keys) (length h.0) h.4.few (and-left (has_few derives c) (have_few derives (claims_of p)) k))
    (claimed-few derives catalog p _ _ h.1 h.3 (and-right (has_few derives c) (have_few derives (claims_of p)) k)))
claimed-few derives catalog (plan.binary n c op p p2) q order x h k =
    let rest = and-right (has_few derives c) (have_few derives (claims_of p ++ claims_of p2)) k in
    let both = sym (list_all-append (has_few derives) (claims_of p) (claims_of p2)) ∙ rest in
    subst (λ y. have_few derives (claims_of y) ≡ true) (sym h.3) (and-both (few derives (length h.0)) (have_few derives (claims_of h.1 ++ claims_of h.2))
    (few-step derives (length c.keys) (length h.0) h.6.few (and-left (has_few derives c) (have_few derives (claims_of p ++ claims_of p2)) k))
    (list_all-append (has_few derives) (claims_of h.1) (claims_of h.2)
    ∙ and-both (have_few derives (claims_of h.1)) (have_few derives (claims_of h.2))
    (claimed-few derives catalog p _ _ h.1 h.4 (and-left (have_few derives (claims_of p)) (have_few derives (claims_of p2)) both))
    (claimed-few derives catalog p2 _ _ h.2 h.5 (and-right (have_few derives (claims_of p)) (have_few derives (claims_of p2)) both))))
claimed-few derives catalog (plan.exchange n c kind merge p) q order x h k =
    subst (λ y. have_few derives (claims_of y) ≡ true) (sym h.2) (and-both (few derives (length h.0)) (have_few derives (claims_of h.1))
    (few-step derives (length c.keys) (length h.0) h.4.few (and-left (has_few derives c) (have_few derives (claims_of p)) k))
    (claimed-few derives catalog p _ _ h.1 h.3 (and-right (has_few derives c) (have_few derives (claims_of p)) k)))

-- ---- claims by the names of columns

named-few : (derives : Bool) (s : Names) (names : List Name) (c : Claim) → has_few derives c ≡ true → has_few_keys derives (kept_form (claim_by_name s names c)) ≡ true
named-few derives s names c h = by (is_claim_form (claim_by_name s names c))
  where
    by : (b : Bool) → has_few_keys derives (cond b (claim_by_name s names c) no_claim) ≡ true
    by true = named-alike derives names c.keys ∙ h
    by false = few-none derives

first-few : (derives : Bool) (s : Names) (names : List Name) (claims : List Claim) → have_few derives claims ≡ true → has_few_keys derives (first_named s names claims) ≡ true
first-few derives s names [] h = few-none derives
first-few derives s names (c ∷ claims) h = named-few derives s names c (and-left (has_few derives c) (have_few derives claims) h)

later-few : (derives : Bool) (claims : List Claim) → have_few derives claims ≡ true → have_few derives (later_claims claims) ≡ true
later-few derives [] h = refl
later-few derives (c ∷ claims) h = and-right (has_few derives c) (have_few derives claims) h

pub forms-few : (derives : Bool) (s : Names) (claims : List Claim) (o : Outline) → have_few derives claims ≡ true → list_all (has_few_keys derives) (named_forms s claims o) ≡ true
forms-few derives s claims (scan h r shared z prefix) k = and-both (has_few_keys derives (first_named s h.columns.names claims)) true (first-few derives s h.columns.names claims k) refl
forms-few derives s claims (unary h op renamed t) k =
    and-both (has_few_keys derives (first_named s h.columns.names claims)) (list_all (has_few_keys derives) (named_forms s (later_claims claims) t)) (first-few derives s h.columns.names claims k)
    (forms-few derives s (later_claims claims) t (later-few derives claims k))
forms-few derives s claims (binary h op t u) k =
    let left : List ClaimForm = named_forms s (later_claims claims) t in
    let right : List ClaimForm = named_forms s (drop (nodes (plan_in t)) (later_claims claims)) u in
    and-both (has_few_keys derives (first_named s h.columns.names claims)) (list_all (has_few_keys derives) (left ++ right)) (first-few derives s h.columns.names claims k)
    (list_all-append (has_few_keys derives) left right
    ∙ and-both (list_all (has_few_keys derives) left) (list_all (has_few_keys derives) right) (forms-few derives s (later_claims claims) t (later-few derives claims k))
    (forms-few derives s (drop (nodes (plan_in t)) (later_claims claims)) u (all-drop (has_few derives) (nodes (plan_in t)) (later_claims claims) (later-few derives claims k))))
forms-few derives s claims (exchange h kind merge t) k =
    and-both (has_few_keys derives (first_named s h.columns.names claims)) (list_all (has_few_keys derives) (named_forms s (later_claims claims) t)) (first-few derives s h.columns.names claims k)
    (forms-few derives s (later_claims claims) t (later-few derives claims k))

-- ---- the document

hinted-few : (catalog : List Relation) (d : Document) (p : TypedPlanView) → IsCatalog catalog → is_tree_form d.root ≡ true → are_keys_few d.derives d.root ≡ true → IsHinted catalog d p
    → have_few d.derives (claims_of (plan_in p.root)) ≡ true
hinted-few catalog d p cat formed keys (inl h) =
    let is = (plans_resolved_exactly.resolves d catalog p cat formed).0 h.1 in
    plan-few d.derives p.names p.root (ap (λ (e : Document). are_keys_few d.derives e.root) is.2 ∙ keys)
hinted-few catalog d p cat formed keys (inr h) =
    let is = (plans_resolved_exactly.resolves (unclaimed d) catalog p cat (form_without d.root formed)).0 h.1 in
    plan-few d.derives p.names p.root (ap (λ (e : Document). are_keys_few d.derives e.root) is.2 ∙ few-without d.derives d.root)

-- the claims that are found for a document
pub found-few : (catalog : List Relation) (d : Document) (p : TypedPlanView) (q : Part) (order : List OrderEntry) (x : Plan) → IsCatalog catalog → is_tree_form d.root ≡ true → are_keys_few d.derives d.root ≡ true → IsHinted catalog d p
    → IsClaimed (relation_at catalog) (possible (relation_at catalog) (plan_in p.root)) q order x → list_all (has_few_keys d.derives) (named_forms p.names (claims_of x) p.root) ≡ true
found-few catalog d p q order x cat formed keys h is =
    let C : ℕ → Relation = relation_at catalog in
    let P : Plan = plan_in p.root in
    let same : claims_of (possible C P) ≡ claims_of P = ap claims_of (possible-turned C P) ∙ claims-alike (possible_choice C) P in
    forms-few d.derives p.names (claims_of x) p.root (claimed-few d.derives C (possible C P) q order x is (ap (have_few d.derives) same ∙ hinted-few catalog d p cat formed keys h))
