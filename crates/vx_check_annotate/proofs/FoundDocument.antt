-- The document with the claims that are found is refused where no claims fit, or where they leave the first rows of a limit open; else its claims tell the most.
use Rattle.std.proofs.Common.{◌≡◌, ℕ, Bool, true, false, not, ◌&&◌, ◌||◌, ◌⊎◌, List, [], ◌∷◌, None, Ok, inl, inr, refl, sym, ap, ◌∙◌, subst}
use Rattle.std.specs.List.{list_any}
use Rattle.std.proofs.lemmas.List.{append-nil}
use Rattle.vx_catalog_relations.specs.Relation.{Relation}
use Rattle.vx_catalog_relations.specs.Catalog.{relation_at, IsCatalog}
use Rattle.vx_plan_nodes.specs.Plan.{Part, any, Plan, scan, unary, binary, exchange, number, size, is_one}
use Rattle.vx_plan_nodes.specs.Typed.{Scope, typed}
use Rattle.vx_plan_nodes.specs.Outline.{plan_in}
use Rattle.vx_plan_nodes.specs.Names.{scope_of, TypedPlanView}
use Rattle.vx_plan_json.specs.Document.{ClaimForm, Document}
use Rattle.vx_plan_json.specs.Formed.{is_head_form, is_tree_form}
use Rattle.vx_plan.specs.Resolve.{resolved}
use Rattle.vx_plan.specs.Exact.{IsNamed}
use Rattle.vx_plan.proofs.PlanExact.{plans_resolved_exactly}
use Rattle.vx_check_rules.specs.Rules.{is_total_order}
use Rattle.vx_check_rules.specs.Refusal.{root_not_one, total_not_shown, root_tests, or_else, refused_at, first_refused, refusal}
use Rattle.vx_check_options.specs.Options.{same_part, parts_at, places_at, first_unfit}
use Rattle.vx_check_options.specs.Placed.{first_entries, first_part, keyless, bare}
use Rattle.vx_check_options.specs.Laws.{is_option, IsStrongest, AtEach}
use Rattle.vx_check_options.specs.Claimed.{IsClaimed, IsReady, HasAllKeys, unfit_in}
use Rattle.vx_check_options.proofs.Telling.{gives-self}
use Rattle.vx_check_options.proofs.ChosenOrders.{first-entries-chosen}
use Rattle.vx_check_options.proofs.PlacedKeeps.{places-filled}
use Rattle.vx_check_options.proofs.ClaimedIsTyped.{claimed-is-typed}
use Rattle.vx_check_options.proofs.ClaimedIsFit.{claimed-is-fit}
use Rattle.vx_check_options.proofs.ClaimedIsStrongest.{claimed-is-strongest}
use Rattle.vx_check_directions.specs.Turned.{pairs_of, in_falls, Choice, IsFull, turned, rising_pairs, all_rising}
use Rattle.vx_check_directions.specs.Directed.{directed}
use Rattle.vx_check_directions.proofs.Alike.{size-alike}
use Rattle.vx_check_directions.proofs.Tests.{total-alike}
use Rattle.vx_check_directions.proofs.Accepting.{directed-again}
use Rattle.vx_check_directions.proofs.TurnedPlans.{length-map, typed-turned}
use Rattle.vx_check_annotate.specs.Possible.{possible, possible_choice}
use Rattle.vx_check_annotate.specs.Unclaimed.{unclaimed}
use Rattle.vx_check_annotate.specs.Claimed.{claims_of, with_claims, forms_of, with_forms, named_forms}
use Rattle.vx_check_annotate.specs.Verdict.{refuses_by_claims, refused_by_claims}
use Rattle.vx_check_annotate.specs.Hinted.{IsHinted}
use Rattle.vx_check_annotate.specs.Strongest.{TellsTheMost}
use Rattle.vx_check_annotate.proofs.TreeFacts.{form_without}
use Rattle.vx_check_annotate.proofs.NamedFacts.{named-are}
use Rattle.vx_check_annotate.proofs.ClaimsResolve.{claimed, claims-resolve, written-resolves}
use Rattle.vx_check_annotate.proofs.FoundRefused.{resolved-bare, accepted-fits}
use Rattle.vx_check_annotate.proofs.FoundDirected.{found-directed}
use Rattle.vx_check_annotate.proofs.PossibleFacts.{typed-falls, possible-turned, possible-full}
use Rattle.vx_check_annotate.proofs.Turning.{rising-again, strongest-alike, keys-alike, each-alike, claims-alike, bare-rising, named-rises}

-- ---- the first part and the first entries

-- the first part is one of the parts
first-option : (parts : List Part) → is_option parts (first_part parts) ≡ true
first-option [] = refl
first-option (q ∷ qs) = ap (λ b. (b && b) || list_any (same_part q) qs) (gives-self q)

-- the top of a typed plan can claim them
pub is-ready : (s : Scope) (p : Plan) → IsCatalog s.catalog → typed s p ≡ true
    → IsReady s p (first_part (parts_at (relation_at s.catalog) p)) (first_entries (places_at (relation_at s.catalog) p))
is-ready s p cat ok =
    (cat, ok, first-option (parts_at (relation_at s.catalog) p), first-entries-chosen (places_at (relation_at s.catalog) p) (places-filled (relation_at s.catalog) p))

-- ---- the plan that is kept

-- it is over the catalog, and well named
pub hinted-named : (catalog : List Relation) (d : Document) (p : TypedPlanView) → IsCatalog catalog → is_tree_form d.root ≡ true → IsHinted catalog d p → (p.names.catalog ≡ catalog) × IsNamed p
hinted-named catalog d p cat formed (inl h) = let is = (plans_resolved_exactly.resolves d catalog p cat formed).0 h.1 in (is.0, is.1)
hinted-named catalog d p cat formed (inr h) = let is = (plans_resolved_exactly.resolves (unclaimed d) catalog p cat (form_without d.root formed)).0 h.1 in (is.0, is.1)

-- a document with claims of its nodes, by the names of its columns, resolves to it with those claims
pub hinted-resolves : (catalog : List Relation) (d e : Document) (p : TypedPlanView) (x : Plan) (total : Bool) (forms : List ClaimForm) → IsCatalog catalog → is_tree_form d.root ≡ true → is_head_form d.sizes d.ranges ≡ true
    → IsHinted catalog d p → bare x ≡ bare (plan_in p.root) → typed (scope_of p.names) x ≡ true → forms ≡ named_forms p.names (claims_of x) p.root → e ≡ with_forms forms total d
    → (resolved e catalog ≡ Ok (claimed x total p)) × (plan_in (with_claims x p.root) ≡ x)
hinted-resolves catalog d e p x total forms cat formed head (inl h) same ok named is =
    let r = claims-resolve catalog d p x total cat formed head h.1 same ok in
    let all : named_forms p.names (claims_of x) p.root ≡ forms_of p.names (with_claims x p.root) =
    ap (λ cs. named_forms p.names cs p.root) (sym (append-nil (claims_of x))) ∙ named-are p.names x p.root [] same r.said in
    (ap (λ e. resolved e catalog) (is ∙ ap (λ fs. with_forms fs total d) (named ∙ all)) ∙ r.resolves, r.plan)
hinted-resolves catalog d e p x total forms cat formed head (inr h) same ok named is = written-resolves catalog d e p x total forms cat formed head h.1 same ok named is

-- ---- the verdict

-- claims do not change the size
size-bare : (p : Plan) → size (bare p) ≡ size p
size-bare (scan n c r m z) = refl
size-bare (unary n c op p) = size-bare p
size-bare (binary n c op p q) = size-bare p
size-bare (exchange n c k m p) = refl

-- so plans of the same nodes have one size
pub size-alike-bare : (p q : Plan) → bare p ≡ bare q → size p ≡ size q
size-alike-bare p q e = sym (size-bare p) ∙ (ap size e ∙ size-bare q)

-- the root's tests pass on one worker, where total is said of a total order alone
pub root-passes : (catalog : ℕ → Relation) (total : Bool) (x : Plan) → first_refused catalog x ≡ None → is_one (size x) ≡ true → total ≡ is_total_order catalog x → refusal catalog total x ≡ None
root-passes catalog total x fit alone is =
    ap (λ o. or_else o (refused_at (number x) (root_tests catalog total x))) fit
    ∙ (ap (λ b. refused_at (number x) ((b, root_not_one) ∷ (not total || is_total_order catalog x, total_not_shown) ∷ [])) alone
    ∙ ap (λ b. refused_at (number x) ((b, total_not_shown) ∷ [])) (ap (λ b. not total || b) (sym is) ∙ either total))
  where
    either : (b : Bool) → (not b || b) ≡ true
    either true = refl
    either false = refl

-- ---- the plan in the only directions that could be accepted

-- of the plan that is kept
abbrev pub left : List Relation → TypedPlanView → Plan
left catalog p = possible (relation_at catalog) (plan_in p.root)

-- its claims are placed under its first part and its first entries, and keys found
abbrev pub IsFound : List Relation → TypedPlanView → Plan → Type 0
IsFound catalog p x =
    IsClaimed (relation_at catalog) (left catalog p) (first_part (parts_at (relation_at catalog) (left catalog p))) (first_entries (places_at (relation_at catalog) (left catalog p))) x

-- what is known of it, over the catalog: it is typed, and with all directions rising it is the plan that is kept
pub record IsLeft (catalog : List Relation) (p : TypedPlanView) : Type 0 where
  pub over : p.names.catalog ≡ catalog
  pub made : typed (scope_of p.names) (left catalog p) ≡ true
  pub rises : all_rising (left catalog p) ≡ plan_in p.root
  pub stays : all_rising (plan_in p.root) ≡ plan_in p.root
  pub size : size (left catalog p) ≡ size (plan_in p.root)

pub named-left : (p : TypedPlanView) → IsNamed p → IsLeft p.names.catalog p
named-left p n =
    let C : ℕ → Relation = relation_at p.names.catalog in
    let P : Plan = plan_in p.root in
    let h : Choice = possible_choice C in
    let turned_is : possible C P ≡ turned h P = possible-turned C P in
    let stays = named-rises p.names.catalog p.root n.columns (typed-falls (scope_of p.names) P n.typed.nodes) in
    record {
      over = refl;
      made = ap (typed (scope_of p.names)) turned_is ∙ typed-turned (scope_of p.names) h (possible-full C) P n.typed.nodes;
      rises = ap all_rising turned_is ∙ (rising-again h P ∙ stays);
      stays = stays;
      size = ap size turned_is ∙ size-alike h P;
    }

pub is-left : (catalog : List Relation) (p : TypedPlanView) → p.names.catalog ≡ catalog → IsNamed p → IsLeft catalog p
is-left catalog p same n = let F : List Relation → Type 0 = λ c. IsLeft c p in subst F same (named-left p n)

-- a plan without claims has none in other directions
bare-turned : (h : Choice) (p : Plan) → bare p ≡ p → bare (turned h p) ≡ turned h p
bare-turned h (scan n c r m z) e = e
bare-turned h (unary n c op p) e =
    let own : keyless any [] ≡ c = cc in
    let below : bare p ≡ p = cc in
    λ i. unary n (own i) op (bare-turned h p below i)
bare-turned h (binary n c op p q) e =
    let own : keyless any [] ≡ c = cc in
    let one : bare p ≡ p = cc in
    let two : bare q ≡ q = cc in
    λ i. binary n (own i) (in_falls (h (pairs_of op) p q) op) (bare-turned h p one i) (bare-turned h q two i)
bare-turned h (exchange n c k m p) e =
    let own : keyless any [] ≡ c = cc in
    let below : bare p ≡ p = cc in
    λ i. exchange n (own i) k m (bare-turned h p below i)

left-bare : (catalog : ℕ → Relation) (p : Plan) → bare p ≡ p → bare (possible catalog p) ≡ possible catalog p
left-bare catalog p e = ap bare (possible-turned catalog p) ∙ (bare-turned (possible_choice catalog) p e ∙ sym (possible-turned catalog p))

-- ---- the document

-- what is known of the document with the claims that are found: it resolves to the typed plan with them, is refused where they are, and where no node is unfit, they tell the
-- most
pub record IsSaid (catalog : List Relation) (e : Document) (p : TypedPlanView) (x : Plan) (total : Bool) : Type 0 where
  pub resolves : resolved e catalog ≡ Ok (claimed (all_rising x) total p)
  pub plan : plan_in (with_claims (all_rising x) p.root) ≡ all_rising x
  pub size : size x ≡ size (plan_in p.root)
  pub fits : first_refused (relation_at catalog) x ≡ unfit_in (relation_at catalog) (left catalog p) x
  pub refused : refused_by_claims catalog e ≡ refusal (relation_at catalog) total x
  pub strongest : first_unfit (relation_at catalog) (left catalog p) ≡ None → TellsTheMost catalog e

-- the plan that is kept has no claims, or no unfit node
hinted-fits : (catalog : List Relation) (d : Document) (p : TypedPlanView) → IsCatalog catalog → is_tree_form d.root ≡ true → IsHinted catalog d p
    → (bare (left catalog p) ≡ left catalog p) ⊎ (first_unfit (relation_at catalog) (left catalog p) ≡ None)
hinted-fits catalog d p cat formed (inl a) = inr (accepted-fits catalog d p cat formed a.0 a.1).unfit
hinted-fits catalog d p cat formed (inr u) = inl (left-bare (relation_at catalog) (plan_in p.root) (resolved-bare catalog d p cat formed u.1))

-- the claims that are found, in rising directions, name what there is, and what is found does not depend on directions
pub record FoundTyped (catalog : List Relation) (p : TypedPlanView) (x : Plan) : Type 0 where
  pub ready : IsReady (scope_of p.names) (left catalog p) (first_part (parts_at (relation_at p.names.catalog) (left catalog p))) (first_entries (places_at (relation_at p.names.catalog) (left catalog p)))
  pub here : IsClaimed (relation_at p.names.catalog) (left catalog p) (first_part (parts_at (relation_at p.names.catalog) (left catalog p))) (first_entries (places_at (relation_at p.names.catalog) (left catalog p))) x
  pub same : bare x ≡ bare (left catalog p)
  pub rising_same : bare (all_rising x) ≡ bare (plan_in p.root)
  pub made : typed (scope_of p.names) (all_rising x) ≡ true

pub found-typed : (catalog : List Relation) (p : TypedPlanView) (x : Plan) → IsCatalog catalog → p.names.catalog ≡ catalog → IsNamed p → IsFound catalog p x → FoundTyped catalog p x
found-typed catalog p x cat same named found =
    let s : Scope = scope_of p.names in
    let L : Plan = left catalog p in
    let known = is-left catalog p same named in
    let F : List Relation → Type 0 = λ l. IsClaimed (relation_at l) L (first_part (parts_at (relation_at l) L)) (first_entries (places_at (relation_at l) L)) x in
    let here = subst F (sym same) found in
    let ready = is-ready s L (subst IsCatalog (sym same) cat) known.made in
    let ok = claimed-is-typed s L (first_part (parts_at (relation_at s.catalog) L)) (first_entries (places_at (relation_at s.catalog) L)) x ready here in
    record {
      ready = ready;
      here = here;
      same = ok.1;
      rising_same = bare-rising x ∙ (ap all_rising ok.1 ∙ (sym (bare-rising L) ∙ ap bare known.rises));
      made = typed-turned s rising_pairs rising-full x ok.0;
    }
  where
    rising-full : IsFull rising_pairs
    rising-full on p q = length-map (λ x. false) on

-- of the document with the claims that are placed under the first part and the first entries, and their keys
pub found-said : (catalog : List Relation) (d e : Document) (p : TypedPlanView) (x : Plan) (total : Bool) (forms : List ClaimForm) → IsCatalog catalog → is_tree_form d.root ≡ true → is_head_form d.sizes d.ranges ≡ true
    → IsHinted catalog d p → IsFound catalog p x → forms ≡ named_forms p.names (claims_of x) p.root → total ≡ is_total_order (relation_at catalog) x → e ≡ with_forms forms total d → IsSaid catalog e p x total
found-said catalog d e p x total forms cat formed head hinted found named is says =
    let known = hinted-named catalog d p cat formed hinted in
    let same : p.names.catalog ≡ catalog = known.0 in
    let s : Scope = scope_of p.names in
    let C : ℕ → Relation = relation_at catalog in
    let L : Plan = left catalog p in
    let X : Plan = all_rising x in
    let f = found-typed catalog p x cat same known.1 found in
    let G : List Relation → Type 0 = λ l. (bare L ≡ L) ⊎ (first_unfit (relation_at l) L ≡ None) in
    let H : List Relation → Type 0 = λ l. first_refused (relation_at l) x ≡ unfit_in (relation_at l) L x in
    let forms_are : forms ≡ named_forms p.names (claims_of X) p.root = named ∙ ap (λ cs. named_forms p.names cs p.root) (sym (claims-alike rising_pairs x)) in
    let r = hinted-resolves catalog d e p X total forms cat formed head hinted f.rising_same f.made forms_are says in
    let asked : refusal C total (directed false C X) ≡ refusal C total x =
    ap (refusal C total) (directed-again false C rising_pairs x) ∙ found-directed C total (plan_in p.root) _ _ x found in
    record {
      resolves = r.0;
      plan = r.1;
      size = size-alike-bare x L f.same ∙ (is-left catalog p same known.1).size;
      fits = subst H same (claimed-is-fit s L _ _ x f.ready (subst G (sym same) (hinted-fits catalog d p cat formed hinted)) f.here);
      refused = ap refuses_by_claims r.0 ∙ (ap (λ l. refusal (relation_at l) total (directed false (relation_at l) (plan_in (with_claims X p.root)))) same
          ∙ (ap (λ y. refusal C total (directed false C y)) r.1 ∙ asked));
      strongest = λ unfit.
          let most = claimed-is-strongest s L _ _ x f.ready (ap (λ l. first_unfit (relation_at l) L) same ∙ unfit) f.here in
          let parts : AtEach (IsStrongest C) x = subst (λ l. AtEach (IsStrongest (relation_at l)) x) same most.0 in
          let keys : AtEach (HasAllKeys C) x = subst (λ l. AtEach (HasAllKeys (relation_at l)) x) same most.1 in (
            claimed X total p,
            r.0,
            subst (λ y. AtEach (IsStrongest C) y) (sym r.1) (each-alike (IsStrongest C) rising_pairs (strongest-alike C rising_pairs) x parts),
            subst (λ y. AtEach (HasAllKeys C) y) (sym r.1) (each-alike (HasAllKeys C) rising_pairs (keys-alike C rising_pairs) x keys),
            is ∙ (sym (total-alike C rising_pairs x) ∙ ap (is_total_order C) (sym r.1)),
          );
    }
