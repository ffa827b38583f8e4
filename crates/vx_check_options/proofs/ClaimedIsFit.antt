-- The checker refuses claims with the keys that are found exactly where no claims fit, or where a limit's first rows are not known with them.
use Rattle.std.proofs.Common.{◌≡◌, ℕ, Bool, true, false, ◌∷◌, [], List, None, Option, sym, ap, ◌∙◌, subst, refl}
use Rattle.vx_rows_values.specs.declared.order.OrderEntry.{OrderEntry}
use Rattle.vx_rows_values.proofs.Booleans.{and-left, and-right}
use Rattle.vx_catalog_relations.specs.Relation.{Relation}
use Rattle.vx_catalog_relations.specs.Catalog.{relation_at}
use Rattle.vx_plan_nodes.specs.Plan.{Part, Plan, scan, unary, binary, exchange, size, is_one}
use Rattle.vx_plan_nodes.specs.Describe.{whole_rows, described}
use Rattle.vx_plan_nodes.specs.Typed.{Scope, typed}
use Rattle.vx_check_rules.specs.Rules.{sizes_match, first_rows_known}
use Rattle.vx_check_rules.specs.Refusal.{Rule, size_mismatch, inputs_not_matched, replicated_input, order_not_shown, order_needed, first_rows_open, node_tests, refused_at, or_else, first_refused}
use Rattle.vx_check_rules.proofs.Refusals.{none-both}
use Rattle.vx_check_options.specs.Options.{parts_at, places_at, can_send, can_meet, can_order, can_keep, fit_tests, first_unfit}
use Rattle.vx_check_options.specs.Placed.{is_chosen, order_sent}
use Rattle.vx_check_options.specs.Laws.{is_option}
use Rattle.vx_check_options.specs.Claimed.{note, IsClaimed, first_input, second_input, fit_tests_with, unfit_in, ClaimedIsFit}
use Rattle.vx_check_options.proofs.PlacedParts.{rights_at, below-in, sent-in}
use Rattle.vx_check_options.proofs.PlacedOrders.{along-chosen}
use Rattle.vx_check_options.proofs.PlacedIsFit.{Placeable, InputsFit, tests_with, placed-node, else-same, below-unary, below-left, below-right, below-exchange, below-chosen, left-chosen, right-chosen, full-at}
use Rattle.vx_check_options.proofs.WithoutKeys.{tests-without, HasShownKeys, at-top, claimed-placed, claimed-keys}

-- ---- where nothing is unfit with these claims, nothing is

fewer-tests : (n : ℕ) (a b c d m e : Bool)
    → refused_at n ((a, size_mismatch) ∷ (b, replicated_input) ∷ (c, inputs_not_matched) ∷ (d, order_needed) ∷ (m, first_rows_open) ∷ (e, order_not_shown) ∷ []) ≡ None
    → refused_at n ((a, size_mismatch) ∷ (b, replicated_input) ∷ (c, inputs_not_matched) ∷ (d, order_needed) ∷ (e, order_not_shown) ∷ []) ≡ None
fewer-tests n false b c d m e h = cc
fewer-tests n true false c d m e h = cc
fewer-tests n true true false d m e h = cc
fewer-tests n true true true false m e h = cc
fewer-tests n true true true true false e h = cc
fewer-tests n true true true true true false h = cc
fewer-tests n true true true true true true h = refl

fewer-here : (catalog : ℕ → Relation) (n : ℕ) (known : Bool) (p : Plan) → refused_at n (fit_tests_with known catalog p) ≡ None → refused_at n (fit_tests catalog p) ≡ None
fewer-here catalog n known p h = fewer-tests n (sizes_match p) (can_send catalog p) (can_meet catalog p) (can_order catalog p) known (can_keep catalog p) h

both-none : (o o' : Option (ℕ × Rule)) → o ≡ None → o' ≡ None → or_else o o' ≡ None
both-none o o' h k = ap (λ u. or_else u o') h ∙ k

pub none-unfit : (catalog : ℕ → Relation) (p x : Plan) → unfit_in catalog p x ≡ None → first_unfit catalog p ≡ None
none-unfit catalog (scan n c r m z) x h = fewer-here catalog n (first_rows_known catalog x) (scan n c r m z) h
none-unfit catalog (unary n c op p) x h =
    let w = none-both (unfit_in catalog p (first_input x)) (refused_at n (fit_tests_with (first_rows_known catalog x) catalog (unary n c op p))) h in
    both-none _ _ (none-unfit catalog p (first_input x) w.0) (fewer-here catalog n (first_rows_known catalog x) (unary n c op p) w.1)
none-unfit catalog (binary n c op p q) x h =
    let here = refused_at n (fit_tests_with (first_rows_known catalog x) catalog (binary n c op p q)) in
    let w = none-both (unfit_in catalog p (first_input x)) (or_else (unfit_in catalog q (second_input x)) here) h in
    let v = none-both (unfit_in catalog q (second_input x)) here w.1 in
    both-none _ _ (none-unfit catalog p (first_input x) w.0)
    (both-none _ _ (none-unfit catalog q (second_input x) v.0) (fewer-here catalog n (first_rows_known catalog x) (binary n c op p q) v.1))
none-unfit catalog (exchange n c k m p) x h =
    let w = none-both (unfit_in catalog p (first_input x)) (refused_at n (fit_tests_with (first_rows_known catalog x) catalog (exchange n c k m p))) h in
    both-none _ _ (none-unfit catalog p (first_input x) w.0) (fewer-here catalog n (first_rows_known catalog x) (exchange n c k m p) w.1)

-- ---- the checker

node-claimed : (s : Scope) (p : Plan) (q : Part) (order : List OrderEntry) (x : Plan) → typed s p ≡ true → Placeable (relation_at s.catalog) p → InputsFit (relation_at s.catalog) p
    → is_option (parts_at (relation_at s.catalog) p) q ≡ true → is_chosen order (places_at (relation_at s.catalog) p) ≡ true → IsClaimed (relation_at s.catalog) p q order x → (i : ℕ)
    → refused_at i (node_tests (relation_at s.catalog) x) ≡ refused_at i (fit_tests_with (first_rows_known (relation_at s.catalog) x) (relation_at s.catalog) p)
node-claimed s p q order x t how fits o ch h i =
    let catalog = relation_at s.catalog in
    let known : Bool = first_rows_known catalog x in
    let keys = at-top (HasShownKeys catalog) x (claimed-keys catalog p q order x h) in
    ap (refused_at i) (sym (tests-without known catalog x keys.shown)) ∙ ap (λ y. refused_at i (tests_with known catalog y)) (claimed-placed catalog p q order x h)
    ∙ placed-node s p q order t how fits o ch known i

refused-claimed : (s : Scope) (p : Plan) (q : Part) (order : List OrderEntry) (x : Plan) → typed s p ≡ true → Placeable (relation_at s.catalog) p → is_option (parts_at (relation_at s.catalog) p) q ≡ true
    → is_chosen order (places_at (relation_at s.catalog) p) ≡ true → IsClaimed (relation_at s.catalog) p q order x → first_refused (relation_at s.catalog) x ≡ unfit_in (relation_at s.catalog) p x
refused-claimed s (scan n c r m z) q order x t how o ch h =
    let catalog = relation_at s.catalog in
    let P : Plan → Type 0 = λ y. first_refused catalog y ≡ unfit_in catalog (scan n c r m z) y in
    let Q : Plan → Type 0 = λ y. IsClaimed catalog (scan n c r m z) q order y in
    subst P (sym h.1) (node-claimed s (scan n c r m z) q order (scan n (note q order h.0) r m z) t how tt o ch (subst Q h.1 h) n)
refused-claimed s (unary n c op p) q order x t how o ch h =
    let catalog = relation_at s.catalog in
    let P : Plan → Type 0 = λ y. first_refused catalog y ≡ unfit_in catalog (unary n c op p) y in
    let Q : Plan → Type 0 = λ y. IsClaimed catalog (unary n c op p) q order y in
    subst P (sym h.2) (else-same _ _ _ _
    (refused-claimed s p _ _ h.1 (and-left (typed s p) _ t) (below-unary catalog n c op p how) (below-in catalog (unary n c op p) q (parts_at catalog p) (rights_at catalog (unary n c op p))).0
    (below-chosen (described op).order (described op).copying order (places_at catalog p) (full-at catalog p)) h.3)
    (λ none. node-claimed s (unary n c op p) q order (unary n (note q order h.0) op h.1) t how (none-unfit catalog p h.1 none) o ch (subst Q h.2 h) n))
refused-claimed s (binary n c op p p2) q order x t how o ch h =
    let catalog = relation_at s.catalog in
    let parts = below-in catalog (binary n c op p p2) q (parts_at catalog p) (parts_at catalog p2) in
    let P : Plan → Type 0 = λ y. first_refused catalog y ≡ unfit_in catalog (binary n c op p p2) y in
    let Q : Plan → Type 0 = λ y. IsClaimed catalog (binary n c op p p2) q order y in
    subst P (sym h.3) (else-same _ _ _ _
    (refused-claimed s p _ _ h.1 (and-left (typed s p) _ t) (below-left catalog n c op p p2 how) parts.0 (left-chosen op order (places_at catalog p) (full-at catalog p)) h.4)
    (λ none. else-same _ _ _ _
    (refused-claimed s p2 _ _ h.2 (and-left (typed s p2) _ (and-right (typed s p) _ t)) (below-right catalog n c op p p2 how) parts.1
    (right-chosen op (places_at catalog p2) (full-at catalog p2)) h.5)
    (λ none2. node-claimed s (binary n c op p p2) q order (binary n (note q order h.0) op h.1 h.2) t how (none-unfit catalog p h.1 none, none-unfit catalog p2 h.2 none2) o ch (subst Q h.3 h) n)))
refused-claimed s (exchange n c k m p) q order x t how o ch h =
    let catalog = relation_at s.catalog in
    let P : Plan → Type 0 = λ y. first_refused catalog y ≡ unfit_in catalog (exchange n c k m p) y in
    let Q : Plan → Type 0 = λ y. IsClaimed catalog (exchange n c k m p) q order y in
    subst P (sym h.2) (else-same _ _ _ _
    (refused-claimed s p _ _ h.1 (and-left (typed s p) _ t) (below-exchange catalog n c k m p how) (sent-in k order (parts_at catalog p))
    (along-chosen whole_rows (order_sent k (is_one (size p)) m order) (places_at catalog p) (full-at catalog p)) h.3)
    (λ none. node-claimed s (exchange n c k m p) q order (exchange n (note q order h.0) k m h.1) t how (none-unfit catalog p h.1 none) o ch (subst Q h.2 h) n))

pub claimed-is-fit : ClaimedIsFit
claimed-is-fit s p q order x ready how h = refused-claimed s p q order x ready.1 how ready.2 ready.3 h
