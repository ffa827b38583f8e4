-- What annotate answers: a document with the claims that are found, or the node that no claims can save.
use Rattle.std.proofs.Common.{◌≡◌, ℕ, Bool, true, false, not, ◌&&◌, ◌||◌, ◌⊎◌, ⊎_elim, List, [], ◌∷◌, length, ◌<◌, Option, Some, None, is_none, Ok, inl, inr, true≢false, refl, sym, ap, ◌∙◌, subst}
use Rattle.std.specs.List.{list_all}
use Rattle.vx_rows_values.proofs.Booleans.{and-left, and-right, and-both}
use Rattle.vx_rows_values.specs.Order.{order_columns}
use Rattle.vx_catalog_relations.specs.Relation.{Relation}
use Rattle.vx_catalog_relations.specs.Catalog.{relation_at, IsCatalog}
use Rattle.vx_plan_nodes.specs.Plan.{Claim, Plan, scan, unary, binary, exchange, claim, number, size, is_one}
use Rattle.vx_plan_nodes.specs.Types.{types_of}
use Rattle.vx_plan_nodes.specs.Typed.{Scope, typed, is_size, is_kind, is_part, is_claim, is_output, is_unary, is_binary, are_columns, may_merge}
use Rattle.vx_plan_nodes.specs.Phases.{phase_fits, both_closed}
use Rattle.vx_plan_nodes.specs.Outline.{plan_in}
use Rattle.vx_plan_nodes.specs.Names.{scope_of, TypedPlanView}
use Rattle.vx_plan_json.specs.Document.{ClaimForm, Document}
use Rattle.vx_plan_json.specs.Formed.{is_head_form, is_tree_form}
use Rattle.vx_plan.specs.Resolve.{resolved}
use Rattle.vx_plan.specs.ByName.{tree_by_name}
use Rattle.vx_plan.proofs.PlanExact.{plans_resolved_exactly}
use Rattle.vx_check_rules.specs.Rules.{is_total_order, allowed}
use Rattle.vx_check_rules.specs.Refusal.{Rule, root_not_one, total_not_shown, first_rows_open, root_tests, refused_at, first_refused, refusal}
use Rattle.vx_check_rules.proofs.Refusals.{none-both}
use Rattle.vx_check_options.specs.Options.{is_within}
use Rattle.vx_check_options.specs.Laws.{Keeps, AtEach}
use Rattle.vx_check_options.specs.Claimed.{KeepsKeys, unfit_in, names_keys_at, names_keys}
use Rattle.vx_check_options.proofs.ClaimedIsFit.{none-unfit}
use Rattle.vx_check_options.proofs.ClaimedKeeps.{claimed-keeps}
use Rattle.vx_check_directions.specs.Turned.{rising_pairs, all_rising}
use Rattle.vx_check_directions.proofs.Alike.{claim-alike}
use Rattle.vx_check_annotate.specs.Possible.{possible, possible_choice}
use Rattle.vx_check_annotate.specs.Claimed.{claims_of, with_claims, with_forms, named_forms}
use Rattle.vx_check_annotate.specs.Unclaimed.{unclaimed}
use Rattle.vx_check_annotate.specs.Accepted.{HasRoom}
use Rattle.vx_check_annotate.specs.Verdict.{is_accepted_by_claims, refuses_by_claims, refused_by_claims}
use Rattle.vx_check_annotate.specs.Telling.{tree_tells, tells}
use Rattle.vx_check_annotate.specs.Hinted.{IsHinted}
use Rattle.vx_check_annotate.specs.Saved.{IsWithin, HasRoomAtEach, IsNeverAccepted, IsNeverSaved}
use Rattle.vx_check_annotate.specs.Strongest.{TellsTheMost}
use Rattle.vx_check_annotate.proofs.ClaimsResolve.{claimed}
use Rattle.vx_check_annotate.proofs.FoundDocument.{left, IsFound, is-left, found-typed, IsSaid, found-said, is-ready, root-passes}
use Rattle.vx_check_annotate.proofs.FoundParts.{found-parts}
use Rattle.vx_check_annotate.proofs.FoundTells.{TellsParts, found-tells}
use Rattle.vx_check_annotate.proofs.FoundRefused.{not-accepted, as_asked, accepted-fits, beside, beside-fits, unfit-refused, unfit-unsaved, several-refused, within-of}
use Rattle.vx_check_annotate.proofs.PossibleFacts.{possible-turned}
use Rattle.vx_check_annotate.proofs.Turning.{within-alike, each-back, keeps-rising, keys-rising, parts-rising}
use Rattle.vx_check_annotate.proofs.FirstRows.{found-is-accepted}
use Rattle.vx_check_annotate.proofs.KeptRows.{total-kept, unfit-kept, leaves_open, open-is, unfit-first}
use Rattle.vx_check_annotate.proofs.SavedFacts.{some-is, which}
use Rattle.vx_check_annotate.proofs.VerdictFacts.{claims_so}

-- ---- claimed keys of a typed plan

fourth : (a b c d : Bool) → (a && (b && (c && d))) ≡ true → d ≡ true
fourth a b c d h = and-right c d (and-right b (c && d) (and-right a (b && (c && d)) h))

output-names : (s : Scope) (p : Plan) → is_output s (types_of (relation_at s.catalog) p) (claim p) ≡ true → names_keys_at (relation_at s.catalog) p ≡ true
output-names s p h =
    let types = types_of (relation_at s.catalog) p in
    let is = and-right _ (is_claim s types (claim p)) h in
    and-right (are_columns _ (order_columns (claim p).order)) (list_all (are_columns _) (claim p).keys) (and-right (is_part s types (claim p).part) _ is)

pub typed-names : (s : Scope) (p : Plan) → typed s p ≡ true → names_keys (relation_at s.catalog) p ≡ true
typed-names s (scan n c r m z) h = output-names s (scan n c r m z) (and-right (is_size s.sizes z) _ (and-right _ _ h))
typed-names s (unary n c op p) h =
    and-both (names_keys (relation_at s.catalog) p) _ (typed-names s p (and-left (typed s p) _ h))
    (output-names s (unary n c op p) (fourth (typed s p) (phase_fits op p) (is_unary (types_of (relation_at s.catalog) p) op) _ h))
typed-names s (binary n c op p q) h =
    and-both (names_keys (relation_at s.catalog) p) _ (typed-names s p (and-left (typed s p) _ h))
    (and-both (names_keys (relation_at s.catalog) q) _ (typed-names s q (and-left (typed s q) _ (and-right (typed s p) _ h)))
    (output-names s (binary n c op p q) (fourth (typed s q) (both_closed p q) (is_binary (types_of (relation_at s.catalog) p) (types_of (relation_at s.catalog) q) op) _ (and-right (typed s p) _ h))))
typed-names s (exchange n c k m p) h =
    and-both (names_keys (relation_at s.catalog) p) _ (typed-names s p (and-left (typed s p) _ h))
    (output-names s (exchange n c k m p)
    (fourth (is_kind s (types_of (relation_at s.catalog) p) k) (are_columns _ (order_columns m)) (may_merge k m) _ (and-right (typed s p) _ h)))

-- ---- documents with claims

no-failure : (o : Option (ℕ × Rule)) → is_none o ≡ true → o ≡ None
no-failure None e = refl
no-failure (Some x) e = cc

-- what was total stays so
total-tells : (t s : Bool) → (s ≡ true → t ≡ true) → (t || not s) ≡ true
total-tells true s f = refl
total-tells false true f = let bad = f refl in cc
total-tells false false f = refl

asked-total : (one total order : Bool) → (one && (not total || order)) ≡ true → total ≡ true → order ≡ true
asked-total one true order h e = and-right one order h
asked-total one false order h e = cc

-- of an accepted document the claims that are found tell as much
found-telling : (catalog : List Relation) (d e : Document) (p : TypedPlanView) (x : Plan) (total : Bool) → IsCatalog catalog → is_tree_form d.root ≡ true → is_tree_form e.root ≡ true
    → is_accepted_by_claims catalog d ≡ true → resolved d catalog ≡ Ok p
    → IsFound catalog p x
    → total ≡ is_total_order (relation_at catalog) x → resolved e catalog ≡ Ok (claimed (all_rising x) total p) → tells e d ≡ true
found-telling catalog d e p x total cat formed form accepted h is total_is he =
    let given = (plans_resolved_exactly.resolves d catalog p cat formed).0 h in
    let made = (plans_resolved_exactly.resolves e catalog (claimed (all_rising x) total p) cat form).0 he in
    let s : Scope = scope_of p.names in
    let C : ℕ → Relation = relation_at catalog in
    let L : Plan = left catalog p in
    let X : Plan = all_rising x in
    let known = is-left catalog p given.0 given.1 in
    let fit = accepted-fits catalog d p cat formed accepted h in
    let f = found-typed catalog p x cat given.0 given.1 is in
    let ok : allowed (relation_at s.catalog) L ≡ true = ap (λ c. allowed (relation_at c) L) given.0 ∙ fit.is_allowed in
    let kept = claimed-keeps s L _ _ x f.ready ok f.here in
    let parts = found-parts s L _ _ x f.ready.1 ok f.ready.2 f.here kept.0 in
    let tree : tree_tells (tree_by_name p.names (with_claims X p.root)) (tree_by_name p.names p.root) ≡ true =
    found-tells p.names p.root X (subst (λ y. TellsParts y X) known.rises (parts-rising L x parts)) (subst (λ y. Keeps y X) known.rises (keeps-rising L x kept.0))
    (subst (λ y. KeepsKeys y X) known.rises (keys-rising L x kept.1)) in
    let root_made : tree_by_name p.names (with_claims X p.root) ≡ e.root = ap (λ y. y.root) made.2 in
    let root_given : tree_by_name p.names p.root ≡ d.root = ap (λ y. y.root) given.2 in
    let total_made : total ≡ e.total = ap (λ y. y.total) made.2 in
    let total_given : p.total ≡ d.total = ap (λ y. y.total) given.2 in
    let stays : d.total ≡ true → e.total ≡ true = λ t.
    let order = total-kept C L x kept.0 kept.1 (asked-total (is_one (size L)) p.total (is_total_order C L) fit.root (total_given ∙ t)) in
    sym total_made ∙ (total_is ∙ order) in
    and-both (e.total || not d.total) (tree_tells e.root d.root) (total-tells e.total d.total stays) (subst (λ t. tree_tells t d.root ≡ true) root_made (subst (λ t. tree_tells (tree_by_name p.names (with_claims X p.root)) t ≡ true) root_given tree))

-- what is answered of a document
pub record Answered (catalog : List Relation) (d e : Document) : Type 0 where
  pub accepted : is_accepted_by_claims catalog e ≡ true
  pub telling : is_accepted_by_claims catalog d ≡ true → tells e d ≡ true
  pub strongest : TellsTheMost catalog e

pub answered : (catalog : List Relation) (d e : Document) (p : TypedPlanView) (x : Plan) (total : Bool) (forms : List ClaimForm) → IsCatalog catalog → is_tree_form d.root ≡ true → is_head_form d.sizes d.ranges ≡ true
    → is_tree_form e.root ≡ true → IsHinted catalog d p
    → IsFound catalog p x
    → total ≡ is_total_order (relation_at catalog) x → forms ≡ named_forms p.names (claims_of x) p.root → e ≡ with_forms forms total d → refused_by_claims catalog e ≡ None → Answered catalog d e
answered catalog d e p x total forms cat formed head form h is total_is named placed none =
    let C : ℕ → Relation = relation_at catalog in
    let said = found-said catalog d e p x total forms cat formed head h is named total_is placed in
    let nothing = none-both (first_refused C x) (refused_at (number x) (root_tests C total x)) (sym said.refused ∙ none) in
    record {
      accepted = claims_so catalog e (claimed (all_rising x) total p) said.resolves ∙ ap is_none (sym (ap refuses_by_claims said.resolves) ∙ none);
      telling = λ acc. by h acc said.resolves;
      strongest = said.strongest (none-unfit C (left catalog p) x (sym said.fits ∙ nothing.0));
    }
  where
    by : IsHinted catalog d p → is_accepted_by_claims catalog d ≡ true → resolved e catalog ≡ Ok (claimed (all_rising x) total p) → tells e d ≡ true
    by (inl a) acc he = found-telling catalog d e p x total cat formed form acc a.1 is total_is he
    by (inr a) acc he = absurd (true≢false (sym acc ∙ a.0))

-- ---- refusals

-- of an accepted document the claims that are found are not refused
again-accepted : (catalog : List Relation) (d : Document) (p : TypedPlanView) (x : Plan) (total : Bool) → IsCatalog catalog → is_tree_form d.root ≡ true → is_accepted_by_claims catalog d ≡ true → resolved d catalog ≡ Ok p
    → IsFound catalog p x
    → total ≡ is_total_order (relation_at catalog) x → size x ≡ size (plan_in p.root) → first_refused (relation_at catalog) x ≡ unfit_in (relation_at catalog) (left catalog p) x
    → refusal (relation_at catalog) total x ≡ None
again-accepted catalog d p x total cat formed accepted h is total_is same fits =
    let given = (plans_resolved_exactly.resolves d catalog p cat formed).0 h in
    let s : Scope = scope_of p.names in
    let L : Plan = left catalog p in
    let fit = accepted-fits catalog d p cat formed accepted h in
    let f = found-typed catalog p x cat given.0 given.1 is in
    let kept = claimed-keeps s L _ _ x f.ready (ap (λ c. allowed (relation_at c) L) given.0 ∙ fit.is_allowed) f.here in
    let none = unfit-kept (relation_at catalog) L x fit.is_allowed fit.unfit kept.0 kept.1 in
    root-passes (relation_at catalog) total x (fits ∙ none) (ap is_one same ∙ fit.alone) total_is

-- at the root, where total is said of a total order alone, that it has several workers
root-fails : (k n : ℕ) (r : Rule) (a b : Bool) → b ≡ true → refused_at k ((a, root_not_one) ∷ (b, total_not_shown) ∷ []) ≡ Some (n, r) → (a ≡ false) × (root_not_one ≡ r)
root-fails k n r false b t h = (refl, ap (λ (y : ℕ × Rule). y.1) (some-is (k, root_not_one) (n, r) h))
root-fails k n r true true t h = cc
root-fails k n r true false t h = cc

-- no answer is not an answer
some-not : (y : ℕ × Rule) → None ≡ Some y → false ≡ true
some-not y e = cc

-- with room for all keys no claims are accepted where those that are found are refused
found-refused : (catalog : List Relation) (d : Document) (p : TypedPlanView) (x : Plan) (y : ℕ × Rule) → IsCatalog catalog → is_tree_form d.root ≡ true → resolved (unclaimed d) catalog ≡ Ok p
    → IsFound catalog p x
    → first_refused (relation_at catalog) x ≡ Some y → is_within (relation_at catalog) (plan_in p.root) ≡ true → AtEach HasRoom x → IsNeverAccepted catalog d
found-refused catalog d p x y cat formed h is refused within room e form same =
    not-accepted catalog e (λ r he ok top.
    let made = (plans_resolved_exactly.resolves e catalog r cat form).0 he in
    let s : Scope = scope_of r.names in
    let C : ℕ → Relation = relation_at r.names.catalog in
    let P : Plan = plan_in p.root in
    let L : Plan = possible C P in
    let over : r.names.catalog ≡ catalog = made.0 in
    let b = beside catalog d e p r cat formed form same he h in
    let here : is_within C P ≡ true = ap (λ c. is_within (relation_at c) P) over ∙ within in
    let fit = beside-fits p r b here ok in
    let whole : is_within C L ≡ true = ap (is_within C) (possible-turned C P) ∙ (within-alike C (possible_choice C) P ∙ here) in
    let ready = is-ready s L (subst IsCatalog (sym over) cat) (ap (typed s) fit.0 ∙ b.plain) in
    let kept : Keeps L (as_asked r) = subst (λ y. Keeps y (as_asked r)) (sym fit.0) b.keeps in
    let F : List Relation → Type 0 = λ l. IsFound l p x in
    let none = found-is-accepted s L (as_asked r) _ _ x ready kept (inl whole) b.made ok (subst F (sym over) is) (inl room) in
    some-not y (sym none ∙ (ap (λ l. first_refused (relation_at l) x) over ∙ refused)))

-- no claims are accepted, and none save the node unless it is a root or a limit
abbrev pub IsLost : List Relation → Document → ℕ → Rule → Type 0
IsLost catalog d n r = IsNeverAccepted catalog d × ((r ≡ root_not_one) ⊎ ((r ≡ first_rows_open) ⊎ IsNeverSaved catalog d n))

-- why a document gets no claims
abbrev pub IsRefused : List Relation → Document → ℕ → Rule → Type 0
IsRefused catalog d n r =
    (is_accepted_by_claims catalog d ≡ false) × ((e : Document) × (unclaimed e ≡ unclaimed d) × (refused_by_claims catalog e ≡ Some (n, r))
    × (IsWithin catalog d → (r ≡ first_rows_open → HasRoomAtEach catalog e) → IsLost catalog d n r))

pub refused-found : (catalog : List Relation) (d e : Document) (p : TypedPlanView) (x : Plan) (total : Bool) (forms : List ClaimForm) (n : ℕ) (r : Rule) → IsCatalog catalog → is_tree_form d.root ≡ true
    → is_head_form d.sizes d.ranges ≡ true → IsHinted catalog d p
    → IsFound catalog p x
    → total ≡ is_total_order (relation_at catalog) x → forms ≡ named_forms p.names (claims_of x) p.root → e ≡ with_forms forms total d → unclaimed e ≡ unclaimed d
    → refused_by_claims catalog e ≡ Some (n, r) → IsRefused catalog d n r
refused-found catalog d e p x total forms n r cat formed head h is total_is named placed same refused =
    (taken h, (e, same, refused, λ w room. by h w room))
  where
    C : ℕ → Relation
    C = relation_at catalog

    P : Plan
    P = plan_in p.root

    said : IsSaid catalog e p x total
    said = found-said catalog d e p x total forms cat formed head h is named total_is placed

    bad : refusal C total x ≡ Some (n, r)
    bad = sym said.refused ∙ refused

    taken : IsHinted catalog d p → is_accepted_by_claims catalog d ≡ false
    taken (inl a) = absurd (true≢false (sym (some-not (n, r) (sym (again-accepted catalog d p x total cat formed a.0 a.1 is total_is said.size said.fits) ∙ bad))))
    taken (inr u) = u.0

    either : (b : Bool) → (not b || b) ≡ true
    either true = refl
    either false = refl

    room-back : (q : Plan) → HasRoom (all_rising q) → HasRoom q
    room-back q few = let P : Claim → Type 0 = λ c. length c.keys < 16 in subst P (claim-alike rising_pairs q) few

    room-here : HasRoomAtEach catalog e → AtEach HasRoom x
    room-here (v, hv, each) =
        let both : Ok v ≡ Ok (claimed (all_rising x) total p) = sym hv ∙ said.resolves in
        let made : v ≡ claimed (all_rising x) total p = cc in
        each-back HasRoom rising_pairs room-back x (subst (λ q. AtEach HasRoom q) (ap (λ (v : TypedPlanView). plan_in v.root) made ∙ said.plan) each)

    at-node : resolved (unclaimed d) catalog ≡ Ok p → IsWithin catalog d → (r ≡ first_rows_open → HasRoomAtEach catalog e) → first_refused C x ≡ Some (n, r) → (b : Bool) → leaves_open r ≡ b → IsLost catalog d n r
    at-node u w room first true t =
        let limits = open-is r t in
        (found-refused catalog d p x (n, r) cat formed u is first (within-of catalog d p u w) (room-here (room limits)), inr (inl limits))
    at-node u w room first false t =
        let within = within-of catalog d p u w in
        let unfit = unfit-first C (left catalog p) x n r t (sym said.fits ∙ first) in
        (unfit-refused catalog d p (n, r) cat formed u unfit within, inr (inr (unfit-unsaved catalog d p n r cat formed u unfit within)))

    at-root : resolved (unclaimed d) catalog ≡ Ok p → refused_at (number x) (root_tests C total x) ≡ Some (n, r) → IsLost catalog d n r
    at-root u h =
        let several = root-fails (number x) n r (is_one (size x)) (not total || is_total_order C x) (ap (λ b. not total || b) (sym total_is) ∙ either total) h in
        let more : is_one (size P) ≡ false = ap is_one (sym said.size) ∙ several.0 in
        (several-refused catalog d p cat formed u more, inl (sym several.1))

    by : IsHinted catalog d p → IsWithin catalog d → (r ≡ first_rows_open → HasRoomAtEach catalog e) → IsLost catalog d n r
    by (inl a) w room = absurd (true≢false (sym a.0 ∙ taken (inl a)))
    by (inr u) w room =
        ⊎_elim (λ first. at-node u.1 w room first (leaves_open r) refl) (λ rest. at-root u.1 rest.1) (which (first_refused C x) (refused_at (number x) (root_tests C total x)) (n, r) bad)
