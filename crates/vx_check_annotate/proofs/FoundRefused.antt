-- Where no claims fit the nodes of a document, claims alone refuse it, whatever it claims.
use Rattle.std.proofs.Common.{◌≡◌, ℕ, true, false, inl, inr, List, [], Option, Some, None, is_none, Result, Ok, Err, refl, sym, ap, ◌∙◌, subst}
use Rattle.vx_catalog_relations.specs.Relation.{Relation}
use Rattle.vx_catalog_relations.specs.Catalog.{relation_at, IsCatalog}
use Rattle.vx_plan_nodes.specs.Plan.{Part, one, any, all, routed, Plan, scan, unary, binary, exchange, size, is_one}
use Rattle.vx_plan_nodes.specs.Numbering.{is_numbered}
use Rattle.vx_plan_nodes.specs.Typed.{Scope, typed}
use Rattle.vx_plan_nodes.specs.Outline.{plan_in}
use Rattle.vx_plan_nodes.specs.Names.{scope_of, TypedPlanView}
use Rattle.vx_plan_json.specs.Fault.{Refusal}
use Rattle.vx_plan_json.specs.Document.{Document}
use Rattle.vx_plan_json.specs.Formed.{is_tree_form}
use Rattle.vx_plan.specs.Resolve.{resolved}
use Rattle.vx_plan.proofs.PlanExact.{plans_resolved_exactly}
use Rattle.vx_check_rules.specs.Rules.{allowed, root_allowed}
use Rattle.vx_check_rules.specs.Refusal.{Rule}
use Rattle.vx_check_rules.proofs.Refusals.{refusal-decides}
use Rattle.vx_rows_values.proofs.Booleans.{and-left}
use Rattle.vx_check_options.specs.Options.{is_within, first_unfit}
use Rattle.vx_check_options.specs.Placed.{bare}
use Rattle.vx_check_options.specs.Laws.{keeps_part, Keeps}
use Rattle.vx_check_options.proofs.ClaimedKeeps.{plan-itself}
use Rattle.vx_check_options.proofs.OnlyOptions.{only-options}
use Rattle.vx_check_directions.specs.Turned.{rising_pairs, all_rising, DifferInDirections}
use Rattle.vx_check_directions.specs.Directed.{falls_of, directed}
use Rattle.vx_check_directions.proofs.Alike.{size-alike, numbered-alike}
use Rattle.vx_check_annotate.specs.Possible.{possible}
use Rattle.vx_check_annotate.specs.Unclaimed.{unclaimed}
use Rattle.vx_check_annotate.specs.Verdict.{refusal_by_claims, accepts_by_claims, is_accepted_by_claims}
use Rattle.vx_check_annotate.specs.Saved.{is_saved, IsWithin, IsNeverAccepted, IsNeverSaved}
use Rattle.vx_check_annotate.proofs.TreeFacts.{form_without}
use Rattle.vx_check_annotate.proofs.PossibleFacts.{typed-falls, fit-stays, possible-again, possible-same}
use Rattle.vx_check_annotate.proofs.Turning.{rising-again, within-alike, bare-rising, directed-typed}
use Rattle.vx_check_annotate.proofs.SavedFacts.{never-saved}
use Rattle.vx_check_annotate.proofs.BareFacts.{bare-once, typed-bare}
use Rattle.vx_check_annotate.proofs.ClaimedFacts.{plan-claimed, unclaimed-with, unclaimed-none}
use Rattle.vx_check_annotate.proofs.ClaimsResolve.{alike-resolve, alike-bare}

-- ---- plans without claims

-- any claimed part keeps one that says nothing
any-kept : (q : Part) → keeps_part any q ≡ true
any-kept one = refl
any-kept any = refl
any-kept all = refl
any-kept (routed r cols) = refl

-- claims keep the absence of claims
keeps-bare : (p : Plan) → Keeps (bare p) p
keeps-bare (scan n c r m z) = (c, refl, (any-kept c.part, refl))
keeps-bare (unary n c op p) = (c, p, refl, (any-kept c.part, refl), keeps-bare p)
keeps-bare (binary n c op p q) = (c, p, q, refl, (any-kept c.part, refl), keeps-bare p, keeps-bare q)
keeps-bare (exchange n c k m p) = (c, p, refl, (any-kept c.part, refl), keeps-bare p)

-- the top has its size without claims
size-bare : (p : Plan) → size (bare p) ≡ size p
size-bare (scan n c r m z) = refl
size-bare (unary n c op p) = size-bare p
size-bare (binary n c op p q) = size-bare p
size-bare (exchange n c k m p) = refl

-- so plans with the same nodes have one size
size-same : (p q : Plan) → bare p ≡ bare q → size p ≡ size q
size-same p q e = sym (size-bare p) ∙ (ap size e ∙ size-bare q)

-- plans that differ in directions alone are cut off alike, and numbered alike
within-same : (catalog : ℕ → Relation) (p q : Plan) → DifferInDirections p q → is_within catalog p ≡ is_within catalog q
within-same catalog p q h = sym (within-alike catalog rising_pairs p) ∙ (ap (is_within catalog) h ∙ within-alike catalog rising_pairs q)

numbered-same : (i : ℕ) (p q : Plan) → DifferInDirections p q → is_numbered i p ≡ is_numbered i q
numbered-same i p q h = sym (numbered-alike rising_pairs i p) ∙ (ap (is_numbered i) h ∙ numbered-alike rising_pairs i q)

-- ---- documents without claims

-- claims are taken away once
unclaimed-once : (d : Document) → unclaimed (unclaimed d) ≡ unclaimed d
unclaimed-once d = ap unclaimed (sym (unclaimed-none d)) ∙ unclaimed-with [] false d

-- what resolves without claims has none
pub resolved-bare : (catalog : List Relation) (d : Document) (p : TypedPlanView) → IsCatalog catalog → is_tree_form d.root ≡ true → resolved (unclaimed d) catalog ≡ Ok p → bare (plan_in p.root) ≡ plan_in p.root
resolved-bare catalog d p cat formed h =
    let is = alike-resolve catalog d (unclaimed d) p p cat (form_without d.root formed) (unclaimed-once d) h h in
    sym (ap (λ (p : TypedPlanView). plan_in p.root) is ∙ plan-claimed (bare (plan_in p.root)) p.root (bare-once (plan_in p.root)))

-- ---- what is refused

-- an answer is there, if that there is none is impossible
is-some : (o : Option (ℕ × Rule)) → (o ≡ None → is_none o ≡ false) → is_none o ≡ false
is-some None f = f refl
is-some (Some x) f = refl

-- the plan in the directions that its claims ask for, which is the one that is judged
abbrev pub as_asked : TypedPlanView → Plan
as_asked r = directed false (relation_at r.names.catalog) (plan_in r.root)

-- a document is not accepted where its typed plan is not
pub not-accepted : (catalog : List Relation) (e : Document) → ((r : TypedPlanView) → resolved e catalog ≡ Ok r → allowed (relation_at r.names.catalog) (as_asked r) ≡ true → root_allowed (relation_at r.names.catalog) r.total (as_asked r) ≡ true → false ≡ true)
    → is_accepted_by_claims catalog e ≡ false
not-accepted catalog e denied = by (resolved e catalog) refl
  where
    by : (o : Result TypedPlanView Refusal) → resolved e catalog ≡ o → accepts_by_claims o ≡ false
    by (Err x) h = refl
    by (Ok r) h = is-some (refusal_by_claims r) (λ none.
        let ok = (refusal-decides (relation_at r.names.catalog) r.total (as_asked r)).0 none in
        let bad = denied r h ok.0 ok.1 in cc)

nothing : (o : Option (ℕ × Rule)) → is_none o ≡ true → o ≡ None
nothing None e = refl
nothing (Some x) e = cc

-- an accepted document: its joins by merging compare in the only directions that could be accepted, and so it has no unfit node, and one worker at its root
pub record Fits (catalog : List Relation) (p : TypedPlanView) : Type 0 where
  pub stays : possible (relation_at catalog) (plan_in p.root) ≡ directed false (relation_at catalog) (plan_in p.root)
  pub is_allowed : allowed (relation_at catalog) (possible (relation_at catalog) (plan_in p.root)) ≡ true
  pub unfit : first_unfit (relation_at catalog) (possible (relation_at catalog) (plan_in p.root)) ≡ None
  pub root : root_allowed (relation_at catalog) p.total (possible (relation_at catalog) (plan_in p.root)) ≡ true
  pub alone : is_one (size (plan_in p.root)) ≡ true

-- over the catalog that the plan names
fits-over : (p : TypedPlanView) → typed (scope_of p.names) (plan_in p.root) ≡ true → is_none (refusal_by_claims p) ≡ true → Fits p.names.catalog p
fits-over p t accepted =
    let s : Scope = scope_of p.names in
    let C : ℕ → Relation = relation_at p.names.catalog in
    let q : Plan = as_asked p in
    let ok = (refusal-decides C p.total q).0 (nothing (refusal_by_claims p) accepted) in
    let made : typed s q ≡ true = directed-typed s (plan_in p.root) t in
    let fit = (only-options s q q (plan-itself q) (inr refl) made ok.0).0 in
    let stays : possible C (plan_in p.root) ≡ q = sym (possible-again C (falls_of false C) (plan_in p.root)) ∙ fit-stays C q (typed-falls s q made) fit in
    record {
      stays = stays;
      is_allowed = ap (allowed C) stays ∙ ok.0;
      unfit = ap (first_unfit C) stays ∙ fit;
      root = ap (root_allowed C p.total) stays ∙ ok.1;
      alone = ap is_one (sym (size-alike (falls_of false C) (plan_in p.root))) ∙ and-left (is_one (size q)) _ ok.1;
    }

pub accepted-fits : (catalog : List Relation) (d : Document) (p : TypedPlanView) → IsCatalog catalog → is_tree_form d.root ≡ true → is_accepted_by_claims catalog d ≡ true → resolved d catalog ≡ Ok p
    → Fits catalog p
accepted-fits catalog d p cat formed accepted h =
    let is = (plans_resolved_exactly.resolves d catalog p cat formed).0 h in
    let F : List Relation → Type 0 = λ c. Fits c p in
    subst F is.0 (fits-over p is.1.typed.nodes (sym (ap accepts_by_claims h) ∙ accepted))

-- ---- documents with the same nodes

-- the plan that is judged, without its claims
abbrev pub bare_asked : TypedPlanView → Plan
bare_asked r = bare (as_asked r)

-- it differs from the document without claims in directions alone
pub record Beside (p r : TypedPlanView) : Type 0 where
  pub keeps : Keeps (bare_asked r) (as_asked r)
  pub differs : DifferInDirections (bare_asked r) (plan_in p.root)
  pub made : typed (scope_of r.names) (as_asked r) ≡ true
  pub plain : typed (scope_of r.names) (bare_asked r) ≡ true

pub beside : (catalog : List Relation) (d e : Document) (p r : TypedPlanView) → IsCatalog catalog → is_tree_form d.root ≡ true → is_tree_form e.root ≡ true → unclaimed e ≡ unclaimed d
    → resolved e catalog ≡ Ok r → resolved (unclaimed d) catalog ≡ Ok p → Beside p r
beside catalog d e p r cat formed form same he h =
    let is = (plans_resolved_exactly.resolves e catalog r cat form).0 he in
    let R : Plan = plan_in r.root in
    let none : bare R ≡ plan_in p.root = alike-bare catalog d e p r cat form same he h ∙ resolved-bare catalog d p cat formed h in
    let made = directed-typed (scope_of r.names) R is.1.typed.nodes in
    record {
      keeps = keeps-bare (as_asked r);
      differs = sym (bare-rising (as_asked r)) ∙ (ap bare (rising-again (falls_of false (relation_at r.names.catalog)) R) ∙ (bare-rising R ∙ ap all_rising none));
      made = made;
      plain = typed-bare (scope_of r.names) (as_asked r) made;
    }

-- where no bound cuts off anything, and the claims are accepted, its joins compare in the only directions that could be
pub beside-fits : (p r : TypedPlanView) → Beside p r → is_within (relation_at r.names.catalog) (plan_in p.root) ≡ true → allowed (relation_at r.names.catalog) (as_asked r) ≡ true
    → (possible (relation_at r.names.catalog) (plan_in p.root) ≡ bare_asked r) × (first_unfit (relation_at r.names.catalog) (bare_asked r) ≡ None)
beside-fits p r b within ok =
    let s : Scope = scope_of r.names in
    let C : ℕ → Relation = relation_at r.names.catalog in
    let here : is_within C (bare_asked r) ≡ true = within-same C (bare_asked r) (plan_in p.root) b.differs ∙ within in
    let fit = (only-options s (bare_asked r) (as_asked r) b.keeps (inl here) b.made ok).0 in
    (sym (possible-same C (bare_asked r) (plan_in p.root) b.differs) ∙ fit-stays C (bare_asked r) (typed-falls s (bare_asked r) b.plain) fit, fit)

-- with an unfit node no claims are accepted
pub unfit-refused : (catalog : List Relation) (d : Document) (p : TypedPlanView) (x : ℕ × Rule) → IsCatalog catalog → is_tree_form d.root ≡ true → resolved (unclaimed d) catalog ≡ Ok p
    → first_unfit (relation_at catalog) (possible (relation_at catalog) (plan_in p.root)) ≡ Some x → is_within (relation_at catalog) (plan_in p.root) ≡ true → IsNeverAccepted catalog d
unfit-refused catalog d p x cat formed h unfit within e form same =
    not-accepted catalog e (λ r he ok top.
    let is = (plans_resolved_exactly.resolves e catalog r cat form).0 he in
    let C : ℕ → Relation = relation_at r.names.catalog in
    let there = beside catalog d e p r cat formed form same he h in
    let fit = beside-fits p r there (ap (λ c. is_within (relation_at c) (plan_in p.root)) is.0 ∙ within) ok in
    let none : None ≡ Some x = sym fit.1 ∙ (ap (first_unfit C) (sym fit.0) ∙ (ap (λ c. first_unfit (relation_at c) (possible (relation_at c) (plan_in p.root))) is.0 ∙ unfit)) in cc)

-- and none save the unfit node
pub unfit-unsaved : (catalog : List Relation) (d : Document) (p : TypedPlanView) (n : ℕ) (x : Rule) → IsCatalog catalog → is_tree_form d.root ≡ true → resolved (unclaimed d) catalog ≡ Ok p
    → first_unfit (relation_at catalog) (possible (relation_at catalog) (plan_in p.root)) ≡ Some (n, x) → is_within (relation_at catalog) (plan_in p.root) ≡ true → IsNeverSaved catalog d n
unfit-unsaved catalog d p n x cat formed h unfit within e form same r he =
    let base = (plans_resolved_exactly.resolves (unclaimed d) catalog p cat (form_without d.root formed)).0 h in
    let is = (plans_resolved_exactly.resolves e catalog r cat form).0 he in
    let C : ℕ → Relation = relation_at r.names.catalog in
    let P : Plan = plan_in p.root in
    let b = beside catalog d e p r cat formed form same he h in
    let here : is_within C (bare_asked r) ≡ true = within-same C (bare_asked r) P b.differs ∙ (ap (λ c. is_within (relation_at c) P) is.0 ∙ within) in
    let found : first_unfit C (possible C (bare_asked r)) ≡ Some (n, x) =
    ap (first_unfit C) (possible-same C (bare_asked r) P b.differs) ∙ (ap (λ c. first_unfit (relation_at c) (possible (relation_at c) P)) is.0 ∙ unfit) in
    let numbered : is_numbered 0 (bare_asked r) ≡ true = numbered-same 0 (bare_asked r) P b.differs ∙ base.1.typed.numbered in
    ap (λ c. is_saved (relation_at c) n (directed false (relation_at c) (plan_in r.root))) (sym is.0)
    ∙ never-saved (scope_of r.names) 0 n x (bare_asked r) (as_asked r) b.keeps here b.plain b.made numbered found

-- no bound cuts off anything of the plan that the document resolves to
pub within-of : (catalog : List Relation) (d : Document) (p : TypedPlanView) → resolved (unclaimed d) catalog ≡ Ok p → IsWithin catalog d → is_within (relation_at catalog) (plan_in p.root) ≡ true
within-of catalog d p h w =
    let both : Ok w.0 ≡ Ok p = sym w.1 ∙ h in
    let same : w.0 ≡ p = cc in ap (λ (p : TypedPlanView). is_within (relation_at catalog) (plan_in p.root)) (sym same) ∙ w.2

-- with several workers at the root no claims are accepted
pub several-refused : (catalog : List Relation) (d : Document) (p : TypedPlanView) → IsCatalog catalog → is_tree_form d.root ≡ true → resolved (unclaimed d) catalog ≡ Ok p → is_one (size (plan_in p.root)) ≡ false
    → IsNeverAccepted catalog d
several-refused catalog d p cat formed h several e form same =
    not-accepted catalog e (λ r he ok top.
    let asked : size (as_asked r) ≡ size (plan_in r.root) = size-alike (falls_of false (relation_at r.names.catalog)) (plan_in r.root) in
    sym several ∙ (ap is_one (size-same (plan_in p.root) (plan_in r.root) (sym (alike-bare catalog d e p r cat form same he h)) ∙ sym asked) ∙ and-left (is_one (size (as_asked r))) _ top))
