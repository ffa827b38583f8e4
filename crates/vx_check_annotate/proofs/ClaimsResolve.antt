-- What a document with other claims resolves to.
use Rattle.std.proofs.Common.{◌≡◌, List, [], Bool, true, false, Ok, sym, ap, ◌∙◌, subst}
use Rattle.std.specs.List.{list_all}
use Rattle.std.proofs.lemmas.List.{append-nil}
use Rattle.vx_rows_values.proofs.Booleans.{and-right}
use Rattle.vx_catalog_relations.specs.Relation.{Relation}
use Rattle.vx_catalog_relations.specs.Catalog.{relation_at, IsCatalog}
use Rattle.vx_plan_nodes.specs.Plan.{Plan}
use Rattle.vx_plan_nodes.specs.Typed.{typed}
use Rattle.vx_plan_nodes.specs.Outline.{Outline, plan_in}
use Rattle.vx_plan_nodes.specs.Names.{scope_of, TypedPlanView}
use Rattle.vx_plan_json.specs.Document.{ClaimForm, Document}
use Rattle.vx_plan_json.specs.Formed.{are_names, is_range_form, is_head_form, is_tree_form}
use Rattle.vx_plan.specs.Resolve.{resolved}
use Rattle.vx_plan.specs.ByName.{tree_by_name, document_by_name}
use Rattle.vx_plan.specs.Exact.{IsNamed}
use Rattle.vx_plan.proofs.PlanExact.{plans_resolved_exactly}
use Rattle.vx_check_options.specs.Placed.{bare}
use Rattle.vx_check_annotate.specs.Unclaimed.{without_claims, are_claims_formed, unclaimed}
use Rattle.vx_check_annotate.specs.Claimed.{claims_of, with_claims, forms_of, tree_with, with_forms, named_forms}
use Rattle.vx_check_annotate.proofs.TreeFacts.{form_without, same_form}
use Rattle.vx_check_annotate.proofs.BareFacts.{bare-once, typed-bare, tree-bare}
use Rattle.vx_check_annotate.proofs.FormedFacts.{claims-formed}
use Rattle.vx_check_annotate.proofs.ClaimedFacts.{plan-claimed, numbered-claimed, open-claimed, named-claimed, outputs-claimed, tree-claimed, tree-with, with-unclaimed}
use Rattle.vx_check_annotate.proofs.NamedFacts.{named-are}

-- a typed plan with the claims of a plan that has its nodes, and so much said of its order
abbrev pub claimed : Plan → Bool → TypedPlanView → TypedPlanView
claimed q total p = record { names = p.names; total = total; derives = p.derives; root = with_claims q p.root }

-- it is well named where those claims are typed
named : (q : Plan) (total : Bool) (p : TypedPlanView) → IsNamed p → bare q ≡ bare (plan_in p.root) → typed (scope_of p.names) q ≡ true → IsNamed (claimed q total p)
named q total p n e ok =
    let P : Plan → Type 0 = λ r. typed (scope_of p.names) r ≡ true in
    record {
      typed = record {
        ranges = n.typed.ranges;
        sizes = n.typed.sizes;
        nodes = subst P (sym (plan-claimed q p.root e)) ok;
        numbered = numbered-claimed 0 q p.root ∙ n.typed.numbered;
        closed = open-claimed q p.root ∙ n.typed.closed;
      };
      outputs = outputs-claimed (relation_at p.names.catalog) q p.root n.outputs;
      sizes = n.sizes;
      ranges = n.ranges;
      columns = named-claimed p.names.catalog q p.root n.columns;
    }

-- a document can say those claims
claims-said : (catalog : List Relation) (d : Document) (p : TypedPlanView) (q : Plan) → IsCatalog catalog → is_tree_form d.root ≡ true → is_head_form d.sizes d.ranges ≡ true → resolved d catalog ≡ Ok p
    → bare q ≡ bare (plan_in p.root) → typed (scope_of p.names) q ≡ true → are_claims_formed (tree_by_name p.names (with_claims q p.root)) ≡ true
claims-said catalog d p q cat formed head h e ok =
    let is = (plans_resolved_exactly.resolves d catalog p cat formed).0 h in
    let n = named q false p is.1 e ok in
    let root : tree_by_name p.names p.root ≡ d.root = ap (λ (d : Document). d.root) is.2 in
    let ranges : list_all is_range_form p.names.ranges ≡ true =
    ap (λ (d : Document). list_all is_range_form d.ranges) is.2 ∙ and-right (are_names d.sizes) (list_all is_range_form d.ranges) head in
    let form : is_tree_form (without_claims (tree_by_name p.names (with_claims q p.root))) ≡ true =
    ap is_tree_form (tree-claimed p.names q p.root ∙ ap without_claims root) ∙ form_without d.root formed in
    (claims-formed p.names (with_claims q p.root) (subst IsCatalog (sym is.0) cat) ranges n.typed.nodes n.outputs n.columns form).claims

-- the document with those claims resolves to the typed plan with them, where a document can say them
said-resolves : (catalog : List Relation) (d : Document) (p : TypedPlanView) (q : Plan) (total : Bool) → IsCatalog catalog → is_tree_form d.root ≡ true → resolved d catalog ≡ Ok p
    → bare q ≡ bare (plan_in p.root) → typed (scope_of p.names) q ≡ true → are_claims_formed (tree_by_name p.names (with_claims q p.root)) ≡ true
    → resolved (with_forms (forms_of p.names (with_claims q p.root)) total d) catalog ≡ Ok (claimed q total p)
said-resolves catalog d p q total cat formed h e ok claims =
    let is = (plans_resolved_exactly.resolves d catalog p cat formed).0 h in
    let o : Outline = with_claims q p.root in
    let root : tree_by_name p.names p.root ≡ d.root = ap (λ (d : Document). d.root) is.2 in
    let same : without_claims d.root ≡ without_claims (tree_by_name p.names o) = ap without_claims (sym root) ∙ sym (tree-claimed p.names q p.root) in
    let placed : tree_by_name p.names o ≡ tree_with (forms_of p.names o) d.root =
    sym (tree-with p.names o [] d.root same) ∙ ap (λ forms. tree_with forms d.root) (append-nil (forms_of p.names o)) in
    let says : document_by_name (claimed q total p) ≡ with_forms (forms_of p.names o) total d =
    λ i. record { sizes = (is.2 i).sizes; ranges = (is.2 i).ranges; total = total; derives = (is.2 i).derives; root = placed i } in
    let form : is_tree_form (tree_with (forms_of p.names o) d.root) ≡ true =
    ap is_tree_form (sym placed) ∙ same_form (tree_by_name p.names o) d.root (sym same) formed claims in
    (plans_resolved_exactly.resolves (with_forms (forms_of p.names o) total d) catalog (claimed q total p) cat form).1 (is.0, named q total p is.1 e ok, says)

-- a document can say the claims of a typed plan, and with them resolves to that plan
pub record Resolves (catalog : List Relation) (d : Document) (p : TypedPlanView) (q : Plan) (total : Bool) : Type 0 where
  pub plan : plan_in (with_claims q p.root) ≡ q
  pub said : are_claims_formed (tree_by_name p.names (with_claims q p.root)) ≡ true
  pub resolves : resolved (with_forms (forms_of p.names (with_claims q p.root)) total d) catalog ≡ Ok (claimed q total p)

pub claims-resolve : (catalog : List Relation) (d : Document) (p : TypedPlanView) (q : Plan) (total : Bool) → IsCatalog catalog → is_tree_form d.root ≡ true → is_head_form d.sizes d.ranges ≡ true → resolved d catalog ≡ Ok p
    → bare q ≡ bare (plan_in p.root) → typed (scope_of p.names) q ≡ true → Resolves catalog d p q total
claims-resolve catalog d p q total cat formed head h e ok =
    let said = claims-said catalog d p q cat formed head h e ok in
    record { plan = plan-claimed q p.root e; said = said; resolves = said-resolves catalog d p q total cat formed h e ok said }

-- ---- documents without claims

-- where a document resolves, it does without its claims, to the typed plan without its own
pub unclaimed-resolves : (catalog : List Relation) (d : Document) (p : TypedPlanView) → IsCatalog catalog → is_tree_form d.root ≡ true → resolved d catalog ≡ Ok p → resolved (unclaimed d) catalog ≡ Ok (claimed (bare (plan_in p.root)) false p)
unclaimed-resolves catalog d p cat formed h =
    let is = (plans_resolved_exactly.resolves d catalog p cat formed).0 h in
    let q : Plan = bare (plan_in p.root) in
    let root : tree_by_name p.names (with_claims q p.root) ≡ without_claims d.root = tree-bare p.names p.root ∙ ap (λ (d : Document). without_claims d.root) is.2 in
    let says : document_by_name (claimed q false p) ≡ unclaimed d = λ i. record { sizes = (is.2 i).sizes; ranges = (is.2 i).ranges; total = false; derives = (is.2 i).derives; root = root i } in
    (plans_resolved_exactly.resolves (unclaimed d) catalog (claimed q false p) cat (form_without d.root formed)).1
    (is.0, named q false p is.1 (bare-once (plan_in p.root)) (typed-bare (scope_of p.names) (plan_in p.root) is.1.typed.nodes), says)

-- so documents that differ in claims alone resolve to one typed plan but for claims
pub alike-resolve : (catalog : List Relation) (d e : Document) (p r : TypedPlanView) → IsCatalog catalog → is_tree_form e.root ≡ true → unclaimed e ≡ unclaimed d → resolved e catalog ≡ Ok r → resolved (unclaimed d) catalog ≡ Ok p
    → p ≡ claimed (bare (plan_in r.root)) false r
alike-resolve catalog d e p r cat formed same he hd =
    let one : resolved (unclaimed d) catalog ≡ Ok (claimed (bare (plan_in r.root)) false r) = ap (λ d. resolved d catalog) (sym same) ∙ unclaimed-resolves catalog e r cat formed he in
    let both : Ok p ≡ Ok (claimed (bare (plan_in r.root)) false r) = sym hd ∙ one in cc

pub alike-bare : (catalog : List Relation) (d e : Document) (p r : TypedPlanView) → IsCatalog catalog → is_tree_form e.root ≡ true → unclaimed e ≡ unclaimed d → resolved e catalog ≡ Ok r → resolved (unclaimed d) catalog ≡ Ok p
    → bare (plan_in r.root) ≡ bare (plan_in p.root)
alike-bare catalog d e p r cat formed same he hd =
    let is = alike-resolve catalog d e p r cat formed same he hd in
    let none = plan-claimed (bare (plan_in r.root)) r.root (bare-once (plan_in r.root)) in
    sym (ap (λ (p : TypedPlanView). bare (plan_in p.root)) is ∙ (ap bare none ∙ bare-once (plan_in r.root)))

-- ---- what the program writes

-- a document with the claims of a typed plan, by the names of its columns, resolves to that plan
pub written-resolves : (catalog : List Relation) (d e : Document) (p : TypedPlanView) (q : Plan) (total : Bool) (forms : List ClaimForm) → IsCatalog catalog → is_tree_form d.root ≡ true → is_head_form d.sizes d.ranges ≡ true
    → resolved (unclaimed d) catalog ≡ Ok p → bare q ≡ bare (plan_in p.root) → typed (scope_of p.names) q ≡ true → forms ≡ named_forms p.names (claims_of q) p.root → e ≡ with_forms forms total d
    → (resolved e catalog ≡ Ok (claimed q total p)) × (plan_in (with_claims q p.root) ≡ q)
written-resolves catalog d e p q total forms cat formed head h same ok named is =
    let r = claims-resolve catalog (unclaimed d) p q total cat (form_without d.root formed) head h same ok in
    let all : named_forms p.names (claims_of q) p.root ≡ forms_of p.names (with_claims q p.root) =
    ap (λ cs. named_forms p.names cs p.root) (sym (append-nil (claims_of q))) ∙ named-are p.names q p.root [] same r.said in
    let says : e ≡ with_forms (forms_of p.names (with_claims q p.root)) total (unclaimed d) =
    is ∙ (ap (λ fs. with_forms fs total d) (named ∙ all) ∙ sym (with-unclaimed (forms_of p.names (with_claims q p.root)) total d)) in
    (ap (λ e. resolved e catalog) says ∙ r.resolves, r.plan)
