-- Documents with the claims that the second rule table shows, and the typed plans that they resolve to.
use Rattle.std.proofs.Common.{◌≡◌, ◌≤◌, ℕ, Bool, true, false, List, [], ◌++◌, length, map, Ok, refl, sym, ap, ◌∙◌, subst, arith}
use Rattle.std.proofs.lemmas.Bool.Decides.{nat_tests}
use Rattle.std.proofs.lemmas.List.{append-nil}
use Rattle.std.proofs.lemmas.List.Folds.{list_all-append}
use Rattle.vx_rows_values.proofs.Booleans.{and-both}
use Rattle.vx_catalog_relations.specs.Relation.{Relation}
use Rattle.vx_catalog_relations.specs.Catalog.{relation_at, IsCatalog}
use Rattle.vx_plan_nodes.specs.declared.typed.Claim as rust_claim
use Rattle.vx_plan_nodes.specs.Plan.{Plan, scan, unary, binary, exchange}
use Rattle.vx_plan_nodes.specs.Typed.{Scope, typed}
use Rattle.vx_plan_nodes.specs.Outline.{plan_in, claim_of}
use Rattle.vx_plan_nodes.specs.Names.{scope_of, TypedPlanView}
use Rattle.vx_plan_json.specs.Document.{ClaimForm, Document}
use Rattle.vx_plan_json.specs.Formed.{is_head_form, is_tree_form}
use Rattle.vx_plan.specs.Resolve.{resolved}
use Rattle.vx_plan.proofs.PlanExact.{plans_resolved_exactly}
use Rattle.vx_check_rules.specs.Derived.{is_total_derived}
use Rattle.vx_check_options.specs.Placed.{bare}
use Rattle.vx_check_options.specs.Laws.{AtEach}
use Rattle.vx_check_options.specs.Claimed.{reversed_claims}
use Rattle.vx_check_shown.specs.Found.{IsKeyed, found}
use Rattle.vx_check_shown.specs.Strongest.{HasAllKeysDerived, IsStrongestDerived}
use Rattle.vx_check_shown.specs.FoundLaws.{HasFewKeys, FoundIsGood}
use Rattle.vx_check_shown.proofs.KeyedPlans.{keyed-is-good}
use Rattle.vx_check_annotate.specs.Unclaimed.{unclaimed}
use Rattle.vx_check_annotate.specs.Claimed.{claims_of, with_claims, forms_of, with_forms, named_forms}
use Rattle.vx_check_annotate.specs.Strongest.{TellsTheMostDerived}
use Rattle.vx_check_annotate.specs.Deriving.{AreClaimsFor, IsWritten, HasPlan, HasKeys}
use Rattle.vx_check_annotate.proofs.NamedFacts.{named-are}
use Rattle.vx_check_annotate.proofs.ClaimsResolve.{claimed, claims-resolve}
use Rattle.vx_check_annotate.proofs.FewKeys.{few, has_few, have_few}
use Rattle.vx_check_annotate.proofs.FoundRefused.{resolved-bare}

-- ---- few keys

few-of : (derives : Bool) (n : ℕ) → n ≤ 16 → few derives n ≡ true
few-of false n h = refl
few-of true n h = grind (arith, nat_tests, h)

pub each-few : (derives : Bool) (x : Plan) → AtEach HasFewKeys x → have_few derives (claims_of x) ≡ true
each-few derives (scan n c r m z) h = and-both (has_few derives c) true (few-of derives (length c.keys) h) refl
each-few derives (unary n c op p) h = and-both (has_few derives c) (have_few derives (claims_of p)) (few-of derives (length c.keys) h.1) (each-few derives p h.0)
each-few derives (binary n c op p q) h =
    and-both (has_few derives c) (have_few derives (claims_of p ++ claims_of q)) (few-of derives (length c.keys) h.2)
    (list_all-append (has_few derives) (claims_of p) (claims_of q) ∙ and-both (have_few derives (claims_of p)) (have_few derives (claims_of q)) (each-few derives p h.0) (each-few derives q h.1))
each-few derives (exchange n c k m p) h = and-both (has_few derives c) (have_few derives (claims_of p)) (few-of derives (length c.keys) h.1) (each-few derives p h.0)

-- what is so at each node
each-more : (P Q : Plan → Type 0) → ((p : Plan) → P p → Q p) → (p : Plan) → AtEach P p → AtEach Q p
each-more P Q f (scan n c r m z) h = f (scan n c r m z) h
each-more P Q f (unary n c op p) h = (each-more P Q f p h.0, f (unary n c op p) h.1)
each-more P Q f (binary n c op p q) h = (each-more P Q f p h.0, each-more P Q f q h.1, f (binary n c op p q) h.2)
each-more P Q f (exchange n c k m p) h = (each-more P Q f p h.0, f (exchange n c k m p) h.1)

few-bare : (p : Plan) → AtEach HasFewKeys (bare p)
few-bare (scan n c r m z) = omega arith
few-bare (unary n c op p) = (few-bare p, omega arith)
few-bare (binary n c op p q) = (few-bare p, few-bare q, omega arith)
few-bare (exchange n c k m p) = (few-bare p, omega arith)

all-few : (catalog : ℕ → Relation) (p : Plan) → AtEach (HasAllKeysDerived catalog) p → AtEach HasFewKeys p
all-few catalog p h = each-more (HasAllKeysDerived catalog) HasFewKeys (λ x k. k.few) p h

-- ---- what the program writes

-- the document with claims of a typed plan's nodes, by the names of its columns
pub written-is : (catalog : List Relation) (d e : Document) (p r : TypedPlanView) (claims : List rust_claim.Claim) (x : Plan) (total : Bool) (forms : List ClaimForm) → IsCatalog catalog → is_tree_form d.root ≡ true
    → is_head_form d.sizes d.ranges ≡ true → resolved d catalog ≡ Ok p → AreClaimsFor p claims x → forms ≡ named_forms p.names (claims_of x) p.root → e ≡ with_forms forms total d → resolved e catalog ≡ Ok r
    → IsWritten catalog e total x r
written-is catalog d e p r claims x total forms cat formed head h are named is he =
    let q = claims-resolve catalog d p x total cat formed head h are.same are.typed in
    let all : named_forms p.names (claims_of x) p.root ≡ forms_of p.names (with_claims x p.root) =
    ap (λ cs. named_forms p.names cs p.root) (sym (append-nil (claims_of x))) ∙ named-are p.names x p.root [] are.same q.said in
    let to : resolved e catalog ≡ Ok (claimed x total p) = ap (λ e. resolved e catalog) (is ∙ ap (λ fs. with_forms fs total d) (named ∙ all)) ∙ q.resolves in
    let both : Ok (claimed x total p) ≡ Ok r = sym to ∙ he in
    let same : claimed x total p ≡ r = cc in
    record { resolves = he; is_total = ap (λ (v : TypedPlanView). v.total) (sym same); plan = ap (λ (v : TypedPlanView). plan_in v.root) (sym same) ∙ q.plan }

-- what a document resolves to is over the catalog, and typed
over-catalog : (catalog : List Relation) (d : Document) (p : TypedPlanView) → IsCatalog catalog → is_tree_form d.root ≡ true → resolved d catalog ≡ Ok p
    → (p.names.catalog ≡ catalog) × (typed (scope_of p.names) (plan_in p.root) ≡ true)
over-catalog catalog d p cat formed h = let is = (plans_resolved_exactly.resolves d catalog p cat formed).0 h in (is.0, is.1.typed.nodes)

-- ---- rounds

-- a document without claims
pub bare-plan : (catalog : List Relation) (d e : Document) (p : TypedPlanView) → IsCatalog catalog → is_tree_form d.root ≡ true → e ≡ unclaimed d → unclaimed e ≡ unclaimed d → resolved e catalog ≡ Ok p → HasPlan catalog d e p
bare-plan catalog d e p cat formed is same h =
    let none : bare (plan_in p.root) ≡ plan_in p.root = resolved-bare catalog d p cat formed (ap (λ e. resolved e catalog) (sym is) ∙ h) in
    record { same = same; resolves = h; few = subst (AtEach HasFewKeys) none (few-bare (plan_in p.root)) }

-- the keys that are found
pub record AreKeysFor (catalog : List Relation) (p : TypedPlanView) (claims : List rust_claim.Claim) (x : Plan) : Type 0 where
  pub said : AreClaimsFor p claims x
  pub all : AtEach (HasAllKeysDerived (relation_at catalog)) x

pub keys-found : (catalog : List Relation) (d e : Document) (p : TypedPlanView) (claims : List rust_claim.Claim) → IsCatalog catalog → is_tree_form e.root ≡ true → HasPlan catalog d e p
    → (x : Plan) × IsKeyed (relation_at p.names.catalog) (plan_in p.root) x × (map claim_of claims ≡ reversed_claims x) → (x : Plan) × AreKeysFor catalog p claims x
keys-found catalog d e p claims cat formed has f =
    let is = over-catalog catalog e p cat formed has.resolves in
    let s : Scope = scope_of p.names in
    let good = keyed-is-good s (plan_in p.root) f.0 (subst IsCatalog (sym is.0) cat) is.1 f.1 in
    let all = subst (λ l. AtEach (HasAllKeysDerived (relation_at l)) f.0) is.0 (good.all has.few) in
    (f.0, record { said = record { listed = f.2; same = good.same; typed = good.typed; few = all-few (relation_at catalog) f.0 all }; all = all })

-- the document with them
pub keys-written : (catalog : List Relation) (d e f : Document) (p r : TypedPlanView) (claims : List rust_claim.Claim) (x : Plan) (total : Bool) → HasPlan catalog d e p → AreKeysFor catalog p claims x
    → unclaimed f ≡ unclaimed e → IsWritten catalog f total x r → HasKeys catalog d f r
keys-written catalog d e f p r claims x total has are same w = record {
  plan = record { same = same ∙ has.same; resolves = w.resolves; few = subst (AtEach HasFewKeys) (sym w.plan) are.said.few };
  keys = subst (AtEach (HasAllKeysDerived (relation_at catalog))) (sym w.plan) are.all;
}

-- ---- parts and orders

pub record AreFoundFor (catalog : List Relation) (p : TypedPlanView) (claims : List rust_claim.Claim) (x : Plan) : Type 0 where
  pub said : AreClaimsFor p claims x
  pub strongest : AtEach (IsStrongestDerived (relation_at catalog)) x

pub claims-found : FoundIsGood → (catalog : List Relation) (d e : Document) (p : TypedPlanView) (claims : List rust_claim.Claim) → IsCatalog catalog → is_tree_form e.root ≡ true → HasKeys catalog d e p
    → map claim_of claims ≡ reversed_claims (found (relation_at p.names.catalog) (plan_in p.root)) → AreFoundFor catalog p claims (found (relation_at p.names.catalog) (plan_in p.root))
claims-found good catalog d e p claims cat formed has f =
    let is = over-catalog catalog e p cat formed has.plan.resolves in
    let s : Scope = scope_of p.names in
    let x : Plan = found (relation_at s.catalog) (plan_in p.root) in
    let law = good s (plan_in p.root) (subst IsCatalog (sym is.0) cat) is.1 in
    let strong = law.strongest (subst (λ l. AtEach (HasAllKeysDerived (relation_at l)) (plan_in p.root)) (sym is.0) has.keys) in
    record {
      said = record { listed = f; same = law.same; typed = law.typed; few = each-more (IsStrongestDerived (relation_at s.catalog)) HasFewKeys (λ y k. k.keys.few) x strong };
      strongest = subst (λ l. AtEach (IsStrongestDerived (relation_at l)) x) is.0 strong;
    }

pub claims-written : (catalog : List Relation) (d e : Document) (p r : TypedPlanView) (claims : List rust_claim.Claim) (x : Plan) (total : Bool) → IsCatalog catalog → is_tree_form d.root ≡ true → resolved d catalog ≡ Ok p
    → AreFoundFor catalog p claims x → total ≡ is_total_derived (relation_at p.names.catalog) x → IsWritten catalog e total x r → TellsTheMostDerived catalog e
claims-written catalog d e p r claims x total cat formed h are is w =
    let over = (over-catalog catalog d p cat formed h).0 in (
      r,
      w.resolves,
      subst (AtEach (IsStrongestDerived (relation_at catalog))) (sym w.plan) are.strongest,
      w.is_total ∙ (is ∙ (ap (λ l. is_total_derived (relation_at l) x) over ∙ ap (is_total_derived (relation_at catalog)) (sym w.plan))),
    )
