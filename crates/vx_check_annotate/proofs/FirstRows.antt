-- Where some claims are accepted, the claims that are found are, if not too many keys are found to have all.
use Rattle.std.specs.Prelude.{⊤}
use Rattle.std.proofs.Common.{◌≡◌, ℕ, ◌<◌, ◌==◌, Bool, true, false, not, ◌&&◌, ◌||◌, ◌⊎◌, inl, inr, ⊎_elim, List, [], ◌∷◌, length, Option, None, refl, sym, ap, ◌∙◌, subst, true≢false}
use Rattle.std.specs.List.{list_all}
use Rattle.vx_rows_values.proofs.Booleans.{and-left, and-right, and-both}
use Rattle.vx_rows_values.specs.declared.order.OrderEntry.{OrderEntry}
use Rattle.vx_rows_values.specs.Order.{order_columns}
use Rattle.vx_catalog_relations.specs.Relation.{Relation}
use Rattle.vx_catalog_relations.specs.Catalog.{relation_at, all_below, IsCatalog}
use Rattle.vx_plan_nodes.specs.Plan.{Part, Claim, Unary, select, project, distinct, sort, group, limit, Binary, ExchangeKind, Plan, scan, unary, binary, exchange, claim, size, is_one}
use Rattle.vx_plan_nodes.specs.Types.{width, unary_width, binary_width}
use Rattle.vx_plan_nodes.specs.Typed.{Scope, typed}
use Rattle.vx_plan_nodes.specs.Describe.{whole_rows, described, described_both}
use Rattle.vx_check_rules.specs.Rules.{contains, within, covers, numbers_below, sizes_match, not_replicated, inputs_match, order_given, first_rows_known, part_shown, order_shown, keys_shown, is_total_order, allowed_here, allowed}
use Rattle.vx_check_rules.specs.Refusal.{Rule, size_mismatch, inputs_not_matched, replicated_input, order_not_shown, order_needed, first_rows_open, or_else, refused_at}
use Rattle.vx_check_rules.specs.Behaviour.{Keyed, keyed_over, keyed_from, behaviour, shown_key}
use Rattle.vx_check_rules.specs.Exactly.{KeysNameColumns}
use Rattle.vx_check_rules.proofs.Bools.{or-left, or-right, all-more}
use Rattle.vx_check_rules.proofs.ColumnFacts.{within-below}
use Rattle.vx_check_rules.proofs.Exact.{keys-all}
use Rattle.vx_check_rules.proofs.NamedKeys.{named-here, typed-keys}
use Rattle.vx_check_rules.proofs.Refusals.{none-both}
use Rattle.vx_check_rules.proofs.DerivedMore.{eight}
use Rattle.vx_check_options.specs.Options.{OrderChoices, has_entry, places_at, is_within, can_send, can_meet, can_order, can_keep, fit_tests, first_unfit}
use Rattle.vx_check_options.specs.Placed.{is_chosen, order_sent}
use Rattle.vx_check_options.specs.Laws.{KeepsClaim, Keeps, may_begin, AtEach}
use Rattle.vx_check_options.specs.FoundKeys.{show, FoundKeys}
use Rattle.vx_check_options.specs.Claimed.{note, IsClaimed, KeepsKeys, fit_tests_with, first_input, second_input, unfit_in}
use Rattle.vx_check_options.proofs.FoundFacts.{either, within-trans, within-more, covers-more}
use Rattle.vx_check_options.proofs.PlacedOrders.{same-number, along-chosen}
use Rattle.vx_check_options.proofs.PlacedIsFit.{below-chosen, left-chosen, right-chosen, full-at}
use Rattle.vx_check_options.proofs.OnlyOptions.{only-options, same-size, same-width}
use Rattle.vx_check_options.proofs.KeysMonotone.{Wider, from-wider}
use Rattle.vx_check_options.proofs.ClaimedKeeps.{found-kept, keys-tested, keys-at-top, claimed-keeps}
use Rattle.vx_check_options.proofs.ClaimedIsFit.{claimed-is-fit}
use Rattle.vx_check_annotate.specs.Accepted.{HasRoom, FoundIsAccepted}
use Rattle.vx_check_annotate.proofs.KeptRows.{front-within}
use Rattle.vx_check_annotate.proofs.SwappedOrders.{Beside, entry-column, within-swaps, places-tidy, keys-swap}

-- ---- found claims

size-claimed : (catalog : ℕ → Relation) (p : Plan) (q : Part) (order : List OrderEntry) (x : Plan) → IsClaimed catalog p q order x → size x ≡ size p
size-claimed catalog (scan n c r m z) q order x h = ap size h.1
size-claimed catalog (unary n c op p) q order x h = ap size h.2 ∙ size-claimed catalog p _ _ h.1 h.3
size-claimed catalog (binary n c op p p2) q order x h = ap size h.3 ∙ size-claimed catalog p _ _ h.1 h.4
size-claimed catalog (exchange n c k m p) q order x h = ap size h.2

width-claimed : (catalog : ℕ → Relation) (p : Plan) (q : Part) (order : List OrderEntry) (x : Plan) → IsClaimed catalog p q order x → width catalog x ≡ width catalog p
width-claimed catalog (scan n c r m z) q order x h = ap (width catalog) h.1
width-claimed catalog (unary n c op p) q order x h = ap (width catalog) h.2 ∙ ap (unary_width op) (width-claimed catalog p _ _ h.1 h.3)
width-claimed catalog (binary n c op p p2) q order x h =
    ap (width catalog) h.3
    ∙ (ap (λ w. binary_width op w (width catalog h.2)) (width-claimed catalog p _ _ h.1 h.4) ∙ ap (binary_width op (width catalog p)) (width-claimed catalog p2 _ _ h.2 h.5))
width-claimed catalog (exchange n c k m p) q order x h = ap (width catalog) h.2 ∙ width-claimed catalog p _ _ h.1 h.3

order-claimed : (catalog : ℕ → Relation) (p : Plan) (q : Part) (order : List OrderEntry) (x : Plan) → IsClaimed catalog p q order x → (claim x).order ≡ order
order-claimed catalog (scan n c r m z) q order x h = ap (λ y. (claim y).order) h.1
order-claimed catalog (unary n c op p) q order x h = ap (λ y. (claim y).order) h.2
order-claimed catalog (binary n c op p p2) q order x h = ap (λ y. (claim y).order) h.3
order-claimed catalog (exchange n c k m p) q order x h = ap (λ y. (claim y).order) h.2

-- ---- keys

if-told : (a b : Bool) → (a ≡ true → b ≡ true) → (not a || b) ≡ true
if-told true b h = h refl
if-told false b h = refl

-- what an accepted node claims contains keys that are found, where all are
node-wider : (catalog : ℕ → Relation) (v : Plan) (keyed : List Keyed) (w : ℕ) (claimed found : List (List ℕ)) → FoundKeys (show keyed) w claimed found → length found < 16 → width catalog v ≡ w
    → KeysNameColumns catalog v → allowed_here catalog v ≡ true → ((key : List ℕ) → shown_key (behaviour catalog v) key ≡ true → show keyed key ≡ true) → Wider (claim v).keys found
node-wider catalog v keyed w claimed found f few wide named ok more =
    let names = named-here catalog v named in
    let shown : list_all (shown_key (behaviour catalog v)) (claim v).keys ≡ true = sym (keys-all catalog v (claim v).keys names) ∙ keys-tested catalog v ok in
    let each : list_all (λ key. not (show keyed key) || covers found key) (claim v).keys ≡ true =
    all-more (λ key. within key (numbers_below (width catalog v))) (λ key. not (show keyed key) || covers found key) (claim v).keys
    (λ key e. if-told (show keyed key) (covers found key) (λ l. f.all few key (ap (λ u. all_below u key) (sym wide) ∙ (within-below (width catalog v) key ∙ e)) l)) names in
    found-kept keyed found (claim v).keys each (all-more (shown_key (behaviour catalog v)) (show keyed) (claim v).keys more shown)

keys-told : (catalog : ℕ → Relation) (p : Plan) (q : Part) (order : List OrderEntry) (x y : Plan) → IsClaimed catalog p q order x → AtEach HasRoom x → Keeps p y → KeysNameColumns catalog y
    → allowed catalog y ≡ true → Wider (claim y).keys (claim x).keys
keys-told catalog (scan n c r m z) q order x y h few k named ok =
    let v : Plan = scan n k.0 r m z in
    let few_x = subst (AtEach HasRoom) h.1 few in
    let W : Plan → Plan → Type 0 = λ a b. Wider (claim a).keys (claim b).keys in
    let here : W v (scan n (note q order h.0) r m z) =
    node-wider catalog v (keyed_from catalog (scan n c r m z) [] []) (width catalog (scan n c r m z)) c.keys h.0 h.2 few_x refl (subst (KeysNameColumns catalog) k.1 named)
    (subst (λ b. allowed catalog b ≡ true) k.1 ok) (λ key e. e) in
    subst (λ a. W a x) (sym k.1) (subst (λ b. W v b) (sym h.1) here)
keys-told catalog (unary n c op p) q order x y h few k named ok =
    let v : Plan = unary n k.0 op k.1 in
    let few_x = subst (AtEach HasRoom) h.2 few in
    let named_v = subst (KeysNameColumns catalog) k.2 named in
    let ok_v = subst (λ b. allowed catalog b ≡ true) k.2 ok in
    let below = keys-told catalog p _ _ h.1 k.1 h.3 few_x.0 k.4 named_v.1 (and-left (allowed catalog k.1) (allowed_here catalog v) ok_v) in
    let W : Plan → Plan → Type 0 = λ a b. Wider (claim a).keys (claim b).keys in
    let here : W v (unary n (note q order h.0) op h.1) =
    node-wider catalog v (keyed_from catalog (unary n c op p) (claim h.1).keys []) (width catalog (unary n c op p)) c.keys h.0 h.4 few_x.1 (ap (unary_width op) (same-width catalog p k.1 k.4)) named_v
    (and-right (allowed catalog k.1) (allowed_here catalog v) ok_v) (λ key e. from-wider catalog v (claim k.1).keys [] (claim h.1).keys [] key below (λ other l. l) e) in
    subst (λ a. W a x) (sym k.2) (subst (λ b. W v b) (sym h.2) here)
keys-told catalog (binary n c op p p2) q order x y h few k named ok =
    let v : Plan = binary n k.0 op k.1 k.2 in
    let few_x = subst (AtEach HasRoom) h.3 few in
    let named_v = subst (KeysNameColumns catalog) k.3 named in
    let ok_v = subst (λ b. allowed catalog b ≡ true) k.3 ok in
    let rest = and-right (allowed catalog k.1) (allowed catalog k.2 && allowed_here catalog v) ok_v in
    let left = keys-told catalog p _ _ h.1 k.1 h.4 few_x.0 k.5 named_v.1 (and-left (allowed catalog k.1) (allowed catalog k.2 && allowed_here catalog v) ok_v) in
    let right = keys-told catalog p2 _ _ h.2 k.2 h.5 few_x.1 k.6 named_v.2 (and-left (allowed catalog k.2) (allowed_here catalog v) rest) in
    let lefts : width catalog k.1 ≡ width catalog p = same-width catalog p k.1 k.5 in
    let W : Plan → Plan → Type 0 = λ a b. Wider (claim a).keys (claim b).keys in
    let K : ℕ → List ℕ → Type 0 = λ w key. show (keyed_over (described_both w op).meeting (described_both w op) (claim h.1).keys (claim h.2).keys) key ≡ true in
    let here : W v (binary n (note q order h.0) op h.1 h.2) =
    node-wider catalog v (keyed_from catalog (binary n c op p p2) (claim h.1).keys (claim h.2).keys) (width catalog (binary n c op p p2)) c.keys h.0 h.6 few_x.2
    (ap (λ w. binary_width op w (width catalog k.2)) lefts ∙ ap (binary_width op (width catalog p)) (same-width catalog p2 k.2 k.6)) named_v
    (and-right (allowed catalog k.2) (allowed_here catalog v) rest)
    (λ key e. subst (λ w. K w key) lefts (from-wider catalog v (claim k.1).keys (claim k.2).keys (claim h.1).keys (claim h.2).keys key left right e)) in
    subst (λ a. W a x) (sym k.3) (subst (λ b. W v b) (sym h.3) here)
keys-told catalog (exchange n c kind m p) q order x y h few k named ok =
    let v : Plan = exchange n k.0 kind m k.1 in
    let few_x = subst (AtEach HasRoom) h.2 few in
    let named_v = subst (KeysNameColumns catalog) k.2 named in
    let ok_v = subst (λ b. allowed catalog b ≡ true) k.2 ok in
    let below = keys-told catalog p _ _ h.1 k.1 h.3 few_x.0 k.4 named_v.1 (and-left (allowed catalog k.1) (allowed_here catalog v) ok_v) in
    let W : Plan → Plan → Type 0 = λ a b. Wider (claim a).keys (claim b).keys in
    let here : W v (exchange n (note q order h.0) kind m h.1) =
    node-wider catalog v (keyed_from catalog (exchange n c kind m p) (claim h.1).keys []) (width catalog (exchange n c kind m p)) c.keys h.0 h.4 few_x.1 (same-width catalog p k.1 k.4) named_v
    (and-right (allowed catalog k.1) (allowed_here catalog v) ok_v) (λ key e. from-wider catalog v (claim k.1).keys [] (claim h.1).keys [] key below (λ other l. l) e) in
    subst (λ a. W a x) (sym k.2) (subst (λ b. W v b) (sym h.2) here)

-- ---- total orders

-- of a longest order the columns beside those of a front
beside-front : (o : List OrderEntry) (places : OrderChoices) (u : List OrderEntry) → may_begin o places ≡ true → is_chosen u places ≡ true
    → (m : List ℕ) × Beside (order_columns o) m places × (within m (order_columns u) ≡ true)
beside-front [] places u f c = ([], tt, refl)
beside-front (x ∷ xs) [] u f c = absurd (true≢false (sym f))
beside-front (x ∷ xs) (s ∷ places) [] f c = absurd (true≢false (sym c))
beside-front (x ∷ xs) (s ∷ places) (d ∷ ds) f c =
    let w = beside-front xs places ds (and-right (has_entry s x) (may_begin xs places) f) (and-right (has_entry s d) (is_chosen ds places) c) in
    let others : List ℕ = order_columns ds in (
      d.column ∷ w.0,
      (entry-column s x (and-left (has_entry s x) (may_begin xs places) f), entry-column s d (and-left (has_entry s d) (is_chosen ds places) c), w.1),
      and-both (contains (d.column ∷ others) d.column) (within w.0 (d.column ∷ others)) (or-left (d.column == d.column) (contains others d.column) (same-number d.column))
          (within-more d.column others w.0 w.2),
    )

total-told : (s : Scope) (p : Plan) (q : Part) (order : List OrderEntry) (x y : Plan) → IsCatalog s.catalog → typed s p ≡ true → IsClaimed (relation_at s.catalog) p q order x → AtEach HasRoom x
    → is_chosen order (places_at (relation_at s.catalog) p) ≡ true → Keeps p y → (is_within (relation_at s.catalog) p ≡ true) ⊎ (y ≡ p) → typed s y ≡ true → allowed (relation_at s.catalog) y ≡ true
    → is_total_order (relation_at s.catalog) y ≡ true → is_total_order (relation_at s.catalog) x ≡ true
total-told s p q order x y cat t h few chosen k whole ty ok total =
    let catalog : ℕ → Relation = relation_at s.catalog in
    let front = (only-options s p y k whole ty ok).2 in
    let C : List OrderEntry → Type 0 = λ u. is_chosen u (places_at catalog p) ≡ true in
    let w = beside-front (claim y).order (places_at catalog p) (claim x).order front (subst C (sym (order-claimed catalog p q order x h)) chosen) in
    let keys : Bool = covers (claim x).keys (order_columns (claim x).order) in
    let all : Bool = within (numbers_below (width catalog x)) (order_columns (claim x).order) in
    let wide : width catalog y ≡ width catalog p = same-width catalog p y k in
    let N : ℕ → List ℕ → Bool = λ u o. within (numbers_below u) o in
    ⊎_elim
    (λ e. or-left keys all (covers-more (claim x).keys w.0 (order_columns (claim x).order)
    (keys-swap s p q order x cat t h few (order_columns (claim y).order) w.0 w.1 (keys-told catalog p q order x y h few k (typed-keys s y ty) ok (order_columns (claim y).order) e)) w.2))
    (λ e. or-right keys all (ap (λ u. N u (order_columns (claim x).order)) (width-claimed catalog p q order x h)
    ∙ within-trans (numbers_below (width catalog p)) w.0 (order_columns (claim x).order)
    (within-swaps (width catalog p) (order_columns (claim y).order) w.0 (places_at catalog p) (places-tidy s p cat t) w.1 (ap (λ u. N u (order_columns (claim y).order)) (sym wide) ∙ e)) w.2))
    (either (covers (claim y).keys (order_columns (claim y).order)) (within (numbers_below (width catalog y)) (order_columns (claim y).order)) total)

-- a node of the second plan is in a total order where that of the first is, and so at each input below
abbrev pub KeepsTotal : (ℕ → Relation) → Plan → Plan → Type 0
KeepsTotal catalog (scan n c r m z) x = ⊤
KeepsTotal catalog (unary n c op y) x = (is_total_order catalog y ≡ true → is_total_order catalog (first_input x) ≡ true) × KeepsTotal catalog y (first_input x)
KeepsTotal catalog (binary n c op y z) x = KeepsTotal catalog y (first_input x) × KeepsTotal catalog z (second_input x)
KeepsTotal catalog (exchange n c k m y) x = KeepsTotal catalog y (first_input x)

told-total : (s : Scope) (p : Plan) (q : Part) (order : List OrderEntry) (x y : Plan) → IsCatalog s.catalog → typed s p ≡ true → IsClaimed (relation_at s.catalog) p q order x → AtEach HasRoom x
    → is_chosen order (places_at (relation_at s.catalog) p) ≡ true → Keeps p y → (is_within (relation_at s.catalog) p ≡ true) ⊎ (y ≡ p) → typed s y ≡ true → allowed (relation_at s.catalog) y ≡ true
    → KeepsTotal (relation_at s.catalog) y x
told-total s (scan n c r m z) q order x y cat t h few chosen k whole ty ok =
    let P : Plan → Type 0 = λ a. KeepsTotal (relation_at s.catalog) a x in subst P (sym k.1) tt
told-total s (unary n c op p) q order x y cat t h few chosen k whole ty ok =
    let catalog : ℕ → Relation = relation_at s.catalog in
    let v : Plan = unary n k.0 op k.1 in
    let few_x = subst (AtEach HasRoom) h.2 few in
    let ty_v = subst (λ a. typed s a ≡ true) k.2 ty in
    let ok_v = subst (λ a. allowed catalog a ≡ true) k.2 ok in
    let under = and-left (typed s p) _ t in
    let here = below-chosen (described op).order (described op).copying order (places_at catalog p) (full-at catalog p) in
    let low : (is_within catalog p ≡ true) ⊎ (k.1 ≡ p) = ⊎_elim (λ e. inl (and-left (is_within catalog p) _ e)) (λ e. inr (same (sym k.2 ∙ e))) whole in
    let typed_y = and-left (typed s k.1) _ ty_v in
    let ok_y = and-left (allowed catalog k.1) (allowed_here catalog v) ok_v in
    let both : KeepsTotal catalog v (unary n (note q order h.0) op h.1) = (
      total-told s p _ _ h.1 k.1 cat under h.3 few_x.0 here k.4 low typed_y ok_y,
      told-total s p _ _ h.1 k.1 cat under h.3 few_x.0 here k.4 low typed_y ok_y,
    ) in
    subst (λ a. KeepsTotal catalog a x) (sym k.2) (subst (λ b. KeepsTotal catalog v b) (sym h.2) both)
  where
    same : unary n k.0 op k.1 ≡ unary n c op p → k.1 ≡ p
    same e = cc
told-total s (binary n c op p p2) q order x y cat t h few chosen k whole ty ok =
    let catalog : ℕ → Relation = relation_at s.catalog in
    let v : Plan = binary n k.0 op k.1 k.2 in
    let few_x = subst (AtEach HasRoom) h.3 few in
    let ty_v = subst (λ a. typed s a ≡ true) k.3 ty in
    let ok_v = subst (λ a. allowed catalog a ≡ true) k.3 ok in
    let rest = and-right (allowed catalog k.1) (allowed catalog k.2 && allowed_here catalog v) ok_v in
    let lefts : (is_within catalog p ≡ true) ⊎ (k.1 ≡ p) = ⊎_elim (λ e. inl (and-left (is_within catalog p) _ e)) (λ e. inr (left (sym k.3 ∙ e))) whole in
    let rights : (is_within catalog p2 ≡ true) ⊎ (k.2 ≡ p2) = ⊎_elim (λ e. inl (and-left (is_within catalog p2) _ (and-right (is_within catalog p) _ e))) (λ e. inr (right (sym k.3 ∙ e))) whole in
    let both : KeepsTotal catalog v (binary n (note q order h.0) op h.1 h.2) = (
      told-total s p _ _ h.1 k.1 cat (and-left (typed s p) _ t) h.4 few_x.0 (left-chosen op order (places_at catalog p) (full-at catalog p)) k.5 lefts (and-left (typed s k.1) _ ty_v)
          (and-left (allowed catalog k.1) (allowed catalog k.2 && allowed_here catalog v) ok_v),
      told-total s p2 _ _ h.2 k.2 cat (and-left (typed s p2) _ (and-right (typed s p) _ t)) h.5 few_x.1 (right-chosen op (places_at catalog p2) (full-at catalog p2)) k.6 rights
          (and-left (typed s k.2) _ (and-right (typed s k.1) _ ty_v)) (and-left (allowed catalog k.2) (allowed_here catalog v) rest),
    ) in
    subst (λ a. KeepsTotal catalog a x) (sym k.3) (subst (λ b. KeepsTotal catalog v b) (sym h.3) both)
  where
    left : binary n k.0 op k.1 k.2 ≡ binary n c op p p2 → k.1 ≡ p
    left e = cc

    right : binary n k.0 op k.1 k.2 ≡ binary n c op p p2 → k.2 ≡ p2
    right e = cc
told-total s (exchange n c kind m p) q order x y cat t h few chosen k whole ty ok =
    let catalog : ℕ → Relation = relation_at s.catalog in
    let v : Plan = exchange n k.0 kind m k.1 in
    let few_x = subst (AtEach HasRoom) h.2 few in
    let ty_v = subst (λ a. typed s a ≡ true) k.2 ty in
    let ok_v = subst (λ a. allowed catalog a ≡ true) k.2 ok in
    let here = along-chosen whole_rows (order_sent kind (is_one (size p)) m order) (places_at catalog p) (full-at catalog p) in
    let low : (is_within catalog p ≡ true) ⊎ (k.1 ≡ p) = ⊎_elim (λ e. inl (and-left (is_within catalog p) _ e)) (λ e. inr (same (sym k.2 ∙ e))) whole in
    let both : KeepsTotal catalog v (exchange n (note q order h.0) kind m h.1) =
    told-total s p _ _ h.1 k.1 cat (and-left (typed s p) _ t) h.3 few_x.0 here k.4 low (and-left (typed s k.1) _ ty_v) (and-left (allowed catalog k.1) (allowed_here catalog v) ok_v) in
    subst (λ a. KeepsTotal catalog a x) (sym k.2) (subst (λ b. KeepsTotal catalog v b) (sym h.2) both)
  where
    same : exchange n k.0 kind m k.1 ≡ exchange n c kind m p → k.1 ≡ p
    same e = cc

-- ---- claims that keep those of the plan itself

claim-kept : (p x : Plan) → Keeps p x → KeepsClaim (claim p) (claim x)
claim-kept (scan n c r m z) x k = let P : Plan → Type 0 = λ y. KeepsClaim c (claim y) in subst P (sym k.1) k.2
claim-kept (unary n c op p) x k = let P : Plan → Type 0 = λ y. KeepsClaim c (claim y) in subst P (sym k.2) k.3
claim-kept (binary n c op p q) x k = let P : Plan → Type 0 = λ y. KeepsClaim c (claim y) in subst P (sym k.3) k.4
claim-kept (exchange n c kind m p) x k = let P : Plan → Type 0 = λ y. KeepsClaim c (claim y) in subst P (sym k.2) k.3

total-kept : (catalog : ℕ → Relation) (p x : Plan) → Keeps p x → KeepsKeys p x → is_total_order catalog p ≡ true → is_total_order catalog x ≡ true
total-kept catalog p x k j total =
    let longer : within (order_columns (claim p).order) (order_columns (claim x).order) ≡ true = front-within (claim p).order (claim x).order (claim-kept p x k).1 in
    let keys : Bool = covers (claim x).keys (order_columns (claim x).order) in
    let all : Bool = within (numbers_below (width catalog x)) (order_columns (claim x).order) in
    ⊎_elim (λ e. or-left keys all (covers-more (claim x).keys (order_columns (claim p).order) (order_columns (claim x).order) (keys-at-top p x j (order_columns (claim p).order) e) longer))
    (λ e. or-right keys all (ap (λ u. within (numbers_below u) (order_columns (claim x).order)) (same-width catalog p x k) ∙ within-trans (numbers_below (width catalog p)) (order_columns (claim p).order) (order_columns (claim x).order) e longer))
    (either (covers (claim p).keys (order_columns (claim p).order)) (within (numbers_below (width catalog p)) (order_columns (claim p).order)) total)

unary-below : (n : ℕ) (op : Unary) (a b : Claim) (u v : Plan) → unary n a op u ≡ unary n b op v → u ≡ v
unary-below n op a b u v e = cc

left-below : (n : ℕ) (op : Binary) (a b : Claim) (u v w z : Plan) → binary n a op u w ≡ binary n b op v z → u ≡ v
left-below n op a b u v w z e = cc

right-below : (n : ℕ) (op : Binary) (a b : Claim) (u v w z : Plan) → binary n a op u w ≡ binary n b op v z → w ≡ z
right-below n op a b u v w z e = cc

sent-below : (n : ℕ) (kind : ExchangeKind) (m : List OrderEntry) (a b : Claim) (u v : Plan) → exchange n a kind m u ≡ exchange n b kind m v → u ≡ v
sent-below n kind m a b u v e = cc

kept-total : (catalog : ℕ → Relation) (p x : Plan) → Keeps p x → KeepsKeys p x → KeepsTotal catalog p x
kept-total catalog (scan n c r m z) x k j = tt
kept-total catalog (unary n c op p) x k j =
    let keys : KeepsKeys p k.1 = subst (KeepsKeys p) (unary-below n op j.0 k.0 j.1 k.1 (sym j.2 ∙ k.2)) j.4 in
    let P : Plan → Type 0 = λ b. KeepsTotal catalog (unary n c op p) b in
    subst P (sym k.2) (total-kept catalog p k.1 k.4 keys, kept-total catalog p k.1 k.4 keys)
kept-total catalog (binary n c op p q) x k j =
    let lefts : KeepsKeys p k.1 = subst (KeepsKeys p) (left-below n op j.0 k.0 j.1 k.1 j.2 k.2 (sym j.3 ∙ k.3)) j.5 in
    let rights : KeepsKeys q k.2 = subst (KeepsKeys q) (right-below n op j.0 k.0 j.1 k.1 j.2 k.2 (sym j.3 ∙ k.3)) j.6 in
    let P : Plan → Type 0 = λ b. KeepsTotal catalog (binary n c op p q) b in
    subst P (sym k.3) (kept-total catalog p k.1 k.5 lefts, kept-total catalog q k.2 k.6 rights)
kept-total catalog (exchange n c kind m p) x k j =
    let keys : KeepsKeys p k.1 = subst (KeepsKeys p) (sent-below n kind m j.0 k.0 j.1 k.1 (sym j.2 ∙ k.2)) j.4 in
    let P : Plan → Type 0 = λ b. KeepsTotal catalog (exchange n c kind m p) b in
    subst P (sym k.2) (kept-total catalog p k.1 k.4 keys)

-- ---- the first rows

-- a limit over the input of a node, where the one of the accepted claims is known
known-here : (catalog : ℕ → Relation) (n : ℕ) (d e : Claim) (op : Unary) (y x : Plan) → size x ≡ size y → (is_total_order catalog y ≡ true → is_total_order catalog x ≡ true)
    → first_rows_known catalog (unary n d op y) ≡ true → first_rows_known catalog (unary n e op x) ≡ true
known-here catalog n d e (select fs) y x same total h = refl
known-here catalog n d e (project es) y x same total h = refl
known-here catalog n d e (distinct cols) y x same total h = refl
known-here catalog n d e (sort of_parts cols) y x same total h = refl
known-here catalog n d e (group phase by aggregates) y x same total h = refl
known-here catalog n d e (limit m) y x same total h =
    and-both (is_one (size x)) (is_total_order catalog x) (ap is_one same ∙ and-left (is_one (size y)) (is_total_order catalog y) h)
    (total (and-right (is_one (size y)) (is_total_order catalog y) h))

more-tests : (n : ℕ) (a b c d m e : Bool) → m ≡ true
    → refused_at n ((a, size_mismatch) ∷ (b, replicated_input) ∷ (c, inputs_not_matched) ∷ (d, order_needed) ∷ (e, order_not_shown) ∷ []) ≡ None
    → refused_at n ((a, size_mismatch) ∷ (b, replicated_input) ∷ (c, inputs_not_matched) ∷ (d, order_needed) ∷ (m, first_rows_open) ∷ (e, order_not_shown) ∷ []) ≡ None
more-tests n false b c d m e k h = cc
more-tests n true false c d m e k h = cc
more-tests n true true false d m e k h = cc
more-tests n true true true false m e k h = cc
more-tests n true true true true false e k h = cc
more-tests n true true true true true false k h = cc
more-tests n true true true true true true k h = refl

here-more : (catalog : ℕ → Relation) (n : ℕ) (known : Bool) (p : Plan) → known ≡ true → refused_at n (fit_tests catalog p) ≡ None → refused_at n (fit_tests_with known catalog p) ≡ None
here-more catalog n known p k h = more-tests n (sizes_match p) (can_send catalog p) (can_meet catalog p) (can_order catalog p) known (can_keep catalog p) k h

both-none : (o u : Option (ℕ × Rule)) → o ≡ None → u ≡ None → or_else o u ≡ None
both-none o u h k = ap (λ v. or_else v u) h ∙ k

known-of : (catalog : ℕ → Relation) (y : Plan) → allowed_here catalog y ≡ true → first_rows_known catalog y ≡ true
known-of catalog y h =
    (eight (sizes_match y) (not_replicated y) (inputs_match y) (order_given y) (first_rows_known catalog y) (part_shown catalog y) (order_shown catalog y) (keys_shown catalog y) h).4

none-unfit-in : (catalog : ℕ → Relation) (p : Plan) (q : Part) (order : List OrderEntry) (x y : Plan) → IsClaimed catalog p q order x → Keeps p y → first_unfit catalog p ≡ None → allowed catalog y ≡ true
    → KeepsTotal catalog y x → unfit_in catalog p x ≡ None
none-unfit-in catalog (scan n c r m z) q order x y h k fit ok total =
    let P : Plan → Type 0 = λ b. unfit_in catalog (scan n c r m z) b ≡ None in
    subst P (sym h.1) (here-more catalog n true (scan n c r m z) refl fit)
none-unfit-in catalog (unary n c op p) q order x y h k fit ok total =
    let w = none-both (first_unfit catalog p) (refused_at n (fit_tests catalog (unary n c op p))) fit in
    let ok_v = subst (λ a. allowed catalog a ≡ true) k.2 ok in
    let both : KeepsTotal catalog (unary n k.0 op k.1) (unary n (note q order h.0) op h.1) =
    subst (λ a. KeepsTotal catalog a (unary n (note q order h.0) op h.1)) k.2 (subst (λ b. KeepsTotal catalog y b) h.2 total) in
    let known = known-here catalog n k.0 (note q order h.0) op k.1 h.1 (size-claimed catalog p _ _ h.1 h.3 ∙ sym (same-size p k.1 k.4)) both.0
    (known-of catalog (unary n k.0 op k.1) (and-right (allowed catalog k.1) (allowed_here catalog (unary n k.0 op k.1)) ok_v)) in
    let P : Plan → Type 0 = λ b. unfit_in catalog (unary n c op p) b ≡ None in
    subst P (sym h.2) (both-none _ _
    (none-unfit-in catalog p _ _ h.1 k.1 h.3 k.4 w.0 (and-left (allowed catalog k.1) (allowed_here catalog (unary n k.0 op k.1)) ok_v) both.1)
    (here-more catalog n (first_rows_known catalog (unary n (note q order h.0) op h.1)) (unary n c op p) known w.1))
none-unfit-in catalog (binary n c op p p2) q order x y h k fit ok total =
    let v : Plan = binary n k.0 op k.1 k.2 in
    let here = refused_at n (fit_tests catalog (binary n c op p p2)) in
    let w = none-both (first_unfit catalog p) (or_else (first_unfit catalog p2) here) fit in
    let u = none-both (first_unfit catalog p2) here w.1 in
    let ok_v = subst (λ a. allowed catalog a ≡ true) k.3 ok in
    let rest = and-right (allowed catalog k.1) (allowed catalog k.2 && allowed_here catalog v) ok_v in
    let both : KeepsTotal catalog v (binary n (note q order h.0) op h.1 h.2) =
    subst (λ a. KeepsTotal catalog a (binary n (note q order h.0) op h.1 h.2)) k.3 (subst (λ b. KeepsTotal catalog y b) h.3 total) in
    let P : Plan → Type 0 = λ b. unfit_in catalog (binary n c op p p2) b ≡ None in
    subst P (sym h.3) (both-none _ _
    (none-unfit-in catalog p _ _ h.1 k.1 h.4 k.5 w.0 (and-left (allowed catalog k.1) (allowed catalog k.2 && allowed_here catalog v) ok_v) both.0)
    (both-none _ _ (none-unfit-in catalog p2 _ _ h.2 k.2 h.5 k.6 u.0 (and-left (allowed catalog k.2) (allowed_here catalog v) rest) both.1)
    (here-more catalog n true (binary n c op p p2) refl u.1)))
none-unfit-in catalog (exchange n c kind m p) q order x y h k fit ok total =
    let v : Plan = exchange n k.0 kind m k.1 in
    let w = none-both (first_unfit catalog p) (refused_at n (fit_tests catalog (exchange n c kind m p))) fit in
    let ok_v = subst (λ a. allowed catalog a ≡ true) k.2 ok in
    let both : KeepsTotal catalog v (exchange n (note q order h.0) kind m h.1) =
    subst (λ a. KeepsTotal catalog a (exchange n (note q order h.0) kind m h.1)) k.2 (subst (λ b. KeepsTotal catalog y b) h.2 total) in
    let P : Plan → Type 0 = λ b. unfit_in catalog (exchange n c kind m p) b ≡ None in
    subst P (sym h.2) (both-none _ _
    (none-unfit-in catalog p _ _ h.1 k.1 h.3 k.4 w.0 (and-left (allowed catalog k.1) (allowed_here catalog v) ok_v) both) (here-more catalog n true (exchange n c kind m p) refl w.1))

-- ---- all claims

pub found-is-accepted : FoundIsAccepted
found-is-accepted s p y q order x ready k whole ty ok h few =
    let catalog : ℕ → Relation = relation_at s.catalog in
    let fit : first_unfit catalog p ≡ None = (only-options s p y k whole ty ok).0 in
    let total : KeepsTotal catalog y x = ⊎_elim (λ f. told-total s p q order x y ready.0 ready.1 h f ready.3 k whole ty ok)
    (λ e.
    let ok_p = subst (λ a. allowed catalog a ≡ true) e ok in
    let kept = claimed-keeps s p q order x ready ok_p h in
    subst (λ a. KeepsTotal catalog a x) (sym e) (kept-total catalog p x kept.0 kept.1)) few in
    claimed-is-fit s p q order x ready (inr fit) h ∙ none-unfit-in catalog p q order x y h k fit ok total
