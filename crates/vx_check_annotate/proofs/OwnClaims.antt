-- The claims that a typed plan has, put into a document that differs in claims alone; and documents that tell as much.
use Rattle.std.proofs.Common.{◌≡◌, Bool, true, ◌&&◌, List, [], ◌∷◌, ◌++◌, Ok, refl, sym, ap, ◌∙◌, subst}
use Rattle.std.specs.List.{list_all}
use Rattle.std.proofs.lemmas.List.{append-nil}
use Rattle.std.proofs.lemmas.List.Folds.{list_all-append}
use Rattle.vx_rows_values.proofs.Booleans.{and-left, and-right, and-both}
use Rattle.vx_catalog_relations.specs.Relation.{Relation}
use Rattle.vx_catalog_relations.specs.Catalog.{relation_at, IsCatalog}
use Rattle.vx_plan_nodes.specs.Outline.{Outline, scan, unary, binary, exchange, plan_in}
use Rattle.vx_plan_nodes.specs.Names.{Names, TypedPlanView}
use Rattle.vx_plan_json.specs.Document.{ClaimForm, Document}
use Rattle.vx_plan_json.specs.Formed.{is_tree_form, is_claim_form, has_few_keys, are_keys_few}
use Rattle.vx_plan.specs.ByName.{top_by_name, tree_by_name}
use Rattle.vx_plan.specs.Resolve.{resolved}
use Rattle.vx_plan.proofs.PlanExact.{plans_resolved_exactly}
use Rattle.vx_check_options.specs.Placed.{bare}
use Rattle.vx_check_keeping.specs.Telling.{tells_derived}
use Rattle.vx_check_keeping.proofs.TellsItself.{tells-itself}
use Rattle.vx_check_annotate.specs.Unclaimed.{without_claims}
use Rattle.vx_check_annotate.specs.Claimed.{forms_of, tree_with, with_forms, own_forms}
use Rattle.vx_check_annotate.specs.Telling.{TellsDerived}
use Rattle.vx_check_annotate.specs.Deriving.{IsGiven}
use Rattle.vx_check_annotate.proofs.BareFacts.{bare-once}
use Rattle.vx_check_annotate.proofs.ClaimedFacts.{plan-claimed, tree-with, with-same}
use Rattle.vx_check_annotate.proofs.NamedFacts.{kept-formed}
use Rattle.vx_check_annotate.proofs.ClaimsResolve.{unclaimed-resolves, alike-bare}

-- ---- the claims of a typed plan

-- those that a document can have are kept
own-are : (s : Names) (o : Outline) → is_tree_form (tree_by_name s o) ≡ true → own_forms s o ≡ forms_of s o
own-are s (scan h relation shared size prefix) f = ap (λ g. g ∷ []) (kept-formed (top_by_name s h) (and-left (is_claim_form (top_by_name s h)) _ f))
own-are s (unary h operator renamed t) f =
    let own = kept-formed (top_by_name s h) (and-left (is_claim_form (top_by_name s h)) _ f) in
    let below = own-are s t (and-right _ (is_tree_form (tree_by_name s t)) (and-right (is_claim_form (top_by_name s h)) _ f)) in λ i. own i ∷ below i
own-are s (binary h operator t u) f =
    let own = kept-formed (top_by_name s h) (and-left (is_claim_form (top_by_name s h)) _ f) in
    let both = and-right _ (is_tree_form (tree_by_name s t) && is_tree_form (tree_by_name s u)) (and-right (is_claim_form (top_by_name s h)) _ f) in
    let left = own-are s t (and-left (is_tree_form (tree_by_name s t)) (is_tree_form (tree_by_name s u)) both) in
    let right = own-are s u (and-right (is_tree_form (tree_by_name s t)) (is_tree_form (tree_by_name s u)) both) in λ i. own i ∷ left i ++ right i
own-are s (exchange h kind merge t) f =
    let own = kept-formed (top_by_name s h) (and-left (is_claim_form (top_by_name s h)) _ f) in
    let rest = and-right (is_claim_form (top_by_name s h)) _ f in
    let below = own-are s t (and-right _ (is_tree_form (tree_by_name s t)) (and-right _ (_ && is_tree_form (tree_by_name s t)) rest)) in λ i. own i ∷ below i

-- they have few keys where the document's claims do
own-few : (derives : Bool) (s : Names) (o : Outline) → are_keys_few derives (tree_by_name s o) ≡ true → list_all (has_few_keys derives) (forms_of s o) ≡ true
own-few derives s (scan h relation shared size prefix) k = and-both (has_few_keys derives (top_by_name s h)) true k refl
own-few derives s (unary h operator renamed t) k =
    let own : Bool = has_few_keys derives (top_by_name s h) in
    let below : Bool = are_keys_few derives (tree_by_name s t) in
    and-both own (list_all (has_few_keys derives) (forms_of s t)) (and-left own below k) (own-few derives s t (and-right own below k))
own-few derives s (binary h operator t u) k =
    let own : Bool = has_few_keys derives (top_by_name s h) in
    let left : Bool = are_keys_few derives (tree_by_name s t) in
    let right : Bool = are_keys_few derives (tree_by_name s u) in
    let both = and-right own (left && right) k in
    and-both own (list_all (has_few_keys derives) (forms_of s t ++ forms_of s u)) (and-left own (left && right) k)
    (list_all-append (has_few_keys derives) (forms_of s t) (forms_of s u)
    ∙ and-both (list_all (has_few_keys derives) (forms_of s t)) (list_all (has_few_keys derives) (forms_of s u)) (own-few derives s t (and-left left right both)) (own-few derives s u (and-right left right both)))
own-few derives s (exchange h kind merge t) k =
    let own : Bool = has_few_keys derives (top_by_name s h) in
    let below : Bool = are_keys_few derives (tree_by_name s t) in
    and-both own (list_all (has_few_keys derives) (forms_of s t)) (and-left own below k) (own-few derives s t (and-right own below k))

-- ---- the document with them

-- the program's claims have few keys
pub own-claims-few : (catalog : List Relation) (d e : Document) (p : TypedPlanView) (forms : List ClaimForm) → IsCatalog catalog → IsGiven catalog d e p → forms ≡ own_forms p.names p.root → list_all (has_few_keys e.derives) forms ≡ true
own-claims-few catalog d e p forms cat given named =
    let is = (plans_resolved_exactly.resolves d catalog p cat given.formed).0 given.resolves in
    let root : tree_by_name p.names p.root ≡ d.root = ap (λ (d : Document). d.root) is.2 in
    let own : forms ≡ forms_of p.names p.root = named ∙ own-are p.names p.root (ap is_tree_form root ∙ given.formed) in
    let derives : e.derives ≡ d.derives = ap (λ (d : Document). d.derives) given.same in
    (λ i. list_all (has_few_keys (derives i)) (own i)) ∙ own-few d.derives p.names p.root (ap (are_keys_few d.derives) root ∙ given.few)

-- with them it is the document that has them
pub own-document : (catalog : List Relation) (d e f : Document) (p : TypedPlanView) (forms : List ClaimForm) (total : Bool) → IsCatalog catalog → IsGiven catalog d e p → forms ≡ own_forms p.names p.root → total ≡ p.total
    → f ≡ with_forms forms total e → f ≡ d
own-document catalog d e f p forms total cat given named said placed =
    let is = (plans_resolved_exactly.resolves d catalog p cat given.formed).0 given.resolves in
    let root : tree_by_name p.names p.root ≡ d.root = ap (λ (d : Document). d.root) is.2 in
    let own : forms ≡ forms_of p.names p.root ++ [] = named ∙ (own-are p.names p.root (ap is_tree_form root ∙ given.formed) ∙ sym (append-nil (forms_of p.names p.root))) in
    let nodes : tree_with forms d.root ≡ d.root = ap (λ fs. tree_with fs d.root) own ∙ (tree-with p.names p.root [] d.root (ap without_claims (sym root)) ∙ root) in
    let is_total : total ≡ d.total = said ∙ ap (λ (d : Document). d.total) is.2 in
    placed ∙ (with-same forms total e d given.same ∙ λ i. record { sizes = d.sizes; ranges = d.ranges; total = is_total i; derives = d.derives; root = nodes i })

-- ---- documents that tell as much

-- what a document resolves to is over the catalog
pub over : (catalog : List Relation) (d : Document) (p : TypedPlanView) → IsCatalog catalog → is_tree_form d.root ≡ true → resolved d catalog ≡ Ok p → p.names.catalog ≡ catalog
over catalog d p cat formed h = ((plans_resolved_exactly.resolves d catalog p cat formed).0 h).0

-- documents that differ in claims alone resolve to plans that do
pub same-nodes : (catalog : List Relation) (d e : Document) (q p : TypedPlanView) → IsCatalog catalog → is_tree_form e.root ≡ true → IsGiven catalog d e q → resolved e catalog ≡ Ok p → bare (plan_in p.root) ≡ bare (plan_in q.root)
same-nodes catalog d e q p cat formed given h =
    let none = plan-claimed (bare (plan_in q.root)) q.root (bare-once (plan_in q.root)) in
    alike-bare catalog d e _ p cat formed given.same h (unclaimed-resolves catalog d q cat given.formed given.resolves) ∙ (ap bare none ∙ bare-once (plan_in q.root))

pub tells-as-much : (catalog : List Relation) (d e : Document) (q p : TypedPlanView) → resolved d catalog ≡ Ok q → resolved e catalog ≡ Ok p → p.names.catalog ≡ catalog
    → tells_derived (relation_at p.names.catalog) (plan_in p.root) (plan_in q.root) ≡ true → (q.total ≡ true → p.total ≡ true) → TellsDerived catalog e d
tells-as-much catalog d e q p hd he same tells total = (p, q, he, hd, subst (λ l. tells_derived (relation_at l) (plan_in p.root) (plan_in q.root) ≡ true) same tells, total)

-- each tells what it claims itself
pub tells-all : (catalog : List Relation) (d e : Document) (p : TypedPlanView) → resolved d catalog ≡ Ok p → e ≡ d → TellsDerived catalog e d
tells-all catalog d e p h is = (p, p, ap (λ e. resolved e catalog) is ∙ h, h, tells-itself (relation_at catalog) (plan_in p.root), λ t. t)
